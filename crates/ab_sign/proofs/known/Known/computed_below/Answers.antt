use Rattle.std.proofs.Common.{sym, ◌∙◌}
use Rattle.std.proofs.lemmas.Bool.{false≢true}
use Rattle.ab_sign.proofs.known.Known.computed_below.Goals as goal

pub returns-then-check_key : goal.returns-then-check_key
returns-then-check_key c = (
  λ t. record { form = c.has_two_levels.ensures.0 c.if-not-has_two_levels.false; key_signed = c.check_key.ensures.0 c.if-check_key.true; message_signed = c.verify.ensures.verifies.0 t },
  λ h. c.verify.ensures.verifies.1 h.message_signed,
)

pub returns-else-check_key : goal.returns-else-check_key
returns-else-check_key c = (λ t. absurd (false≢true (sym c.if-check_key.false ∙ t)), λ h. c.check_key.ensures.1 h.key_signed)
