-- The line that a fault names.
use Rattle.std.specs.Prelude.{ℕ, ◌<◌, List, ◌++◌}
use Rattle.ab_text.specs.Heads.{Script, most_built}
use Rattle.ab_text.specs.Spelling.{IsBuilt, Spell}

-- a schedule that is built begins with these lines
abbrev pub BeginsSome : List (List ℕ) → Type 0
BeginsSome ls = (s : Script) × (more : List (List ℕ)) × IsBuilt s × Spell (ls ++ more) s

-- no schedule begins with them
abbrev pub BeginsNone : List (List ℕ) → Type 0
BeginsNone ls = (s : Script) (more : List (List ℕ)) → Spell (ls ++ more) s → ⊥

-- a schedule begins with them, and each one that does has checkpoints that its plan has not built yet
pub record BeginsUnbuilt (ls : List (List ℕ)) : Type 0 where
  pub schedule : Script
  pub more : List (List ℕ)
  pub spell : Spell (ls ++ more) schedule
  pub each : (s : Script) (more : List (List ℕ)) → Spell (ls ++ more) s → most_built s.plan < s.every
