use Rattle.std.proofs.Common.{◌≡◌, ℕ, ◌++◌, List, Option, Some, None, IfSome, IfNone, MatchOption, Bor, sym}
use Rattle.std.proofs.lemmas.Slice.Eq.{strip_prefix_is}
use Rattle.std.proofs.lemmas.Bool.Decides.{Decides-eqb}
use Rattle.std.specs.Option.{option_copied}
use Rattle.ab_text.specs.Heads.{stripped}
use Rattle.ab_text.proofs.WordLemmas.{stripped-is, stripped-none}
use Rattle.ab_text.proofs.parts.after.Goals as goal

found : (line prefix : List ℕ) (r : Option (Bor (List ℕ))) → MatchOption r ((rest : List ℕ) → line ≡ prefix ++ rest → ⊥) (λ x. line ≡ prefix ++ x.now) → IfSome r (λ x. line ≡ prefix ++ x.now)
found line prefix None h = tt
found line prefix (Some x) h = h

none : (line prefix : List ℕ) (r : Option (Bor (List ℕ))) → MatchOption r ((rest : List ℕ) → line ≡ prefix ++ rest → ⊥) (λ x. line ≡ prefix ++ x.now) → IfNone r ((rest : List ℕ) → line ≡ prefix ++ rest → ⊥)
none line prefix None h = h
none line prefix (Some x) h = tt

pub returns-clause-found : goal.returns-clause-found
returns-clause-found c = found c.args.line.now c.args.prefix.now c.strip_prefix.result (strip_prefix_is Decides-eqb c.args.line.now c.args.prefix.now c.strip_prefix.result c.strip_prefix.ensures.cases)

pub returns-clause-none : goal.returns-clause-none
returns-clause-none c = none c.args.line.now c.args.prefix.now c.strip_prefix.result (strip_prefix_is Decides-eqb c.args.line.now c.args.prefix.now c.strip_prefix.result c.strip_prefix.ensures.cases)

rest_of : (line prefix : List ℕ) (r : Option (Bor (List ℕ))) → MatchOption r ((rest : List ℕ) → line ≡ prefix ++ rest → ⊥) (λ x. line ≡ prefix ++ x.now) → option_copied r ≡ stripped prefix line
rest_of line prefix None h = sym (stripped-none prefix line h)
rest_of line prefix (Some x) h = sym (stripped-is prefix line x.now h)

pub returns-clause-rest : goal.returns-clause-rest
returns-clause-rest c = rest_of c.args.line.now c.args.prefix.now c.strip_prefix.result (strip_prefix_is Decides-eqb c.args.line.now c.args.prefix.now c.strip_prefix.result c.strip_prefix.ensures.cases)
