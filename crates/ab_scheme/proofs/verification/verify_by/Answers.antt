use Rattle.std.proofs.Common.{sym, ◌∙◌, inl, inr}
use Rattle.std.proofs.lemmas.Bool.{false≢true}
use Rattle.ab_scheme.proofs.verification.verify_by.Goals as goal

pub returns-then-verify-clause-verifies : goal.returns-then-verify-clause-verifies
returns-then-verify-clause-verifies c = (λ _. record { signed = inl (c.verify.ensures.verifies.0 c.if-verify.true) }, λ _. c.if-verify.true)

pub returns-else-verify-clause-verifies : goal.returns-else-verify-clause-verifies
returns-else-verify-clause-verifies c = (
  λ t. record { signed = inr (c.hss_verify.ensures.verifies.0 t) },
  λ h. elim h.signed [
    | inl one ↦ absurd (false≢true (sym c.if-verify.false ∙ c.verify.ensures.verifies.1 one))
    | inr two ↦ c.hss_verify.ensures.verifies.1 two
  ],
)
