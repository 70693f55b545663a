use Rattle.std.proofs.Common.{◌≡◌, Ok, Err, MatchResult, arith, sym, ap, ◌∙◌, subst}
use Rattle.ab_sign.specs.Judges.{judge_of}
use Rattle.ab_open.specs.Opening.{opening}
use Rattle.ab_party.specs.Credentials.{Credentials, opening_by}
use Rattle.ab_party.proofs.SealLemmas.{opening_is}
use Rattle.ab_party.proofs.credentials.Credentials.open.Goals as goal

pub returns-clause-opening : goal.returns-clause-opening
returns-clause-opening c =
    let bytes = c.args.bytes.now in
    let k : Credentials = record { ring = c.self.inside.ring.now; keys = c.self.inside.signers.now; every = c.self.inside.every } in
    let same =
    (λ j. opening (judge_of (c.new-verifier.ensures j).ring (c.new-verifier.ensures j).keys) (c.cluster.ensures.f j) (c.cluster.ensures.clients j) k.every (c.me.ensures.me j) bytes)
    ∙ sym (opening_is k bytes (λ i. omega (arith, c.type_inv.bytes i)))
    ∙ ap (λ (x : Credentials). opening_by x bytes) c.self.view_is in
    subst (λ o. MatchResult c.open.result (λ m. o ≡ Ok m.msg) (λ e. o ≡ Err e)) same c.open.ensures.opening
