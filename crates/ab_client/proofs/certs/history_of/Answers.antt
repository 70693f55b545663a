use Rattle.std.proofs.Common.{◌≡◌, ◌+◌, ◌*◌, false, true, sym, ◌∙◌, subst, Bool}
use Rattle.std.specs.List.{list_all}
use Rattle.std.specs.Prelude.{IsTrue, nat_lt}
use Rattle.ab_extract.specs.Certs.{AreAborts}
use Rattle.ab_extract.proofs.MemberLemmas.{aborts_are}
use Rattle.ab_client.proofs.CertLemmas.{foreign_none, refused_none}
use Rattle.ab_client.proofs.certs.history_of.Goals as goal

pub returns-then-not-are_within : goal.returns-then-not-are_within
returns-then-not-are_within c =
    let q = c.args.cluster.now in
    let cert = c.args.cert.now in
    let out : list_all (λ s. nat_lt s.maker (3 * q.f + 1)) cert ≡ false =
    (λ i. list_all (λ s. nat_lt s.maker (sym c.replicas.ensures i)) (sym c.as_slice.ensures i)) ∙ sym c.are_within.ensures ∙ c.if-not-are_within.true in
    sym (foreign_none q c.args.i cert c.requires.aborts out)

pub returns-else-is_memory : goal.returns-else-is_memory
returns-else-is_memory c =
    let q = c.args.cluster.now in
    let cert = c.args.cert.now in
    let all : list_all (λ s. nat_lt s.maker (3 * q.f + 1)) cert ≡ true =
    (λ i. list_all (λ s. nat_lt s.maker (sym c.replicas.ensures i)) (sym c.as_slice.ensures i)) ∙ sym c.are_within.ensures ∙ c.if-not-are_within.false in
    let aborts : AreAborts (3 * q.f + 1) cert = aborts_are (3 * q.f + 1) cert c.requires.aborts all in
    let e = c.check.ensures in
    let P : Bool → Type 0 = λ b. IsTrue b in
    sym (refused_none q c.args.i cert (λ h. c.certificates_with_histories_are_sound.ensures q c.args.i cert h aborts) c.check.result
    e.count e.signer e.foreign e.bad e.unequal c.in-Err.fault c.in-Err.is (λ is. let e : false ≡ true = subst P c.if-is_memory.false (c.is_memory.ensures.1 is) in absurd (cc (e))))
