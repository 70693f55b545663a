use Rattle.std.proofs.Common.{◌+◌, ◌*◌, length, min, ap, ◌∙◌}
use Rattle.ab_picture.proofs.parts.half_of.Goals as goal

pub returns-clause-is : goal.returns-clause-is
returns-clause-is c = ap (λ n. 5 + 4 * n) (c.min-digits.ensures ∙ ap (λ n. min n 20) (ap length (c.as_bytes.ensures.value ∙ c.in_ok-number.ensures.ok)))
