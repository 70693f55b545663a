use Rattle.std.proofs.Common.{◌≡◌, subst, rules, ℕ, List}
use Rattle.std.specs.Prelude.{IfOk, string_bytes}
use Rattle.ab_key_text.proofs.WritingLemmas.{public_grouped}
use Rattle.ab_key_text.proofs.writing.public_string.Goals as goal

pub returns : goal.returns
returns c = subst (λ (t : List ℕ). IfOk c.format.result (λ s. string_bytes s ≡ t)) (public_grouped c.args.word.now c.args.r c.args.key.now) (search rules)
