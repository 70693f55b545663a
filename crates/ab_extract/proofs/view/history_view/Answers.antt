use Rattle.std.proofs.Common.{◌≡◌, ◌+◌, ◌*◌, true, false, ap, sym, ◌∙◌}
use Rattle.std.specs.Prelude.{nat_lt}
use Rattle.std.specs.List.{list_all}
use Rattle.ab_wire.specs.Views.{aborts}
use Rattle.ab_extract.specs.Certs.{AreAborts}
use Rattle.ab_extract.proofs.CauseLemmas.{cause_none}
use Rattle.ab_extract.proofs.MemberLemmas.{aborts_are, foreign_signer}
use Rattle.ab_extract.proofs.view.history_view.Goals as goal

pub returns-then-not-are_members : goal.returns-then-not-are_members
returns-then-not-are_members c =
    let cert = aborts c.args.cert.now in
    let out : list_all (λ s. nat_lt s.maker (3 * c.args.c.now.f + 1)) cert ≡ false =
    ap (λ n. list_all (λ s. nat_lt s.maker n) cert) (sym c.replicas.ensures) ∙ sym c.are_members.ensures ∙ c.if-not-are_members.true
    in
    sym (foreign_signer c.args.c.now c.args.i cert c.requires.formed out)

pub returns-in_default : goal.returns-in_default
returns-in_default c =
    let cert = aborts c.args.cert.now in
    let all : list_all (λ s. nat_lt s.maker (3 * c.args.c.now.f + 1)) cert ≡ true =
    ap (λ n. list_all (λ s. nat_lt s.maker n) cert) (sym c.replicas.ensures) ∙ sym c.are_members.ensures ∙ c.if-not-are_members.false
    in
    let are : AreAborts (3 * c.args.c.now.f + 1) cert = aborts_are (3 * c.args.c.now.f + 1) cert c.requires.formed all in
    sym (cause_none c.args.c.now c.args.i cert are c.in-Err.fault c.in-Err.ensures.fault c.in_default.not-OutOfMemory)
