use Rattle.std.proofs.Common.{sym, ◌∙◌, inl, inr}
use Rattle.std.proofs.lemmas.Bool.{false≢true}
use Rattle.ab_sign.proofs.known.Known.computed.Goals as goal

pub returns-then-verify : goal.returns-then-verify
returns-then-verify c = (λ _. record { signed = inl (c.verify.ensures.verifies.0 c.if-verify.true) }, λ _. c.if-verify.true)

pub returns-else-verify : goal.returns-else-verify
returns-else-verify c = (
  λ t. record { signed = inr (c.computed_below.ensures.0 t) },
  λ h. elim h.signed [
    | inl one ↦ absurd (false≢true (sym c.if-verify.false ∙ c.verify.ensures.verifies.1 one))
    | inr two ↦ c.computed_below.ensures.1 two
  ],
)
