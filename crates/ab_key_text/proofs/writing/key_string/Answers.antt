use Rattle.std.proofs.Common.{◌≡◌, subst, rules, ℕ, List}
use Rattle.std.specs.Prelude.{IfOk, string_bytes}
use Rattle.ab_key_text.proofs.WritingLemmas.{key_grouped}
use Rattle.ab_key_text.proofs.writing.key_string.Goals as goal

pub returns : goal.returns
returns c = subst (λ (t : List ℕ). IfOk c.format.result (λ s. string_bytes s ≡ t)) (key_grouped c.args.word.now c.args.p c.args.key.now) (search rules)
