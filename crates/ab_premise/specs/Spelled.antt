-- Runs whose contents have bytes.
use Rattle.std.specs.Prelude.{◌≡◌, ℕ, ◌<◌, ◌^◌, ◌≤◌, Bool, All, Some, List, [], ◌∷◌, length}
use Rattle.ab_num.specs.declared.party.Party.{Party}
use Rattle.ab_num.specs.declared.party.Party.TheVariants.{Replica}
use Rattle.ab_num.specs.declared.plan.Kind.{Kind}
use Rattle.ab_msg.specs.declared.content.Content.{Content}
use Rattle.ab_msg.specs.declared.message.Msg.{Msg}
use Rattle.ab_msg.specs.Claims.{claims, fresh}
use Rattle.ab_msg.specs.Contents.{IsContent, spell_content}
use Rattle.ab_msg.specs.Messages.{IsDraft, IsMessage}
use Rattle.ab_run.specs.Forms.{IsWrittenSetup}
use Rattle.ab_run.specs.Setups.{RunSetup}
use Rattle.ab_run.specs.Inputs.{Input, told, came, rang, elsewhere, Opener}

-- a command has 1 to 128 bytes
abbrev pub IsSpelledInput : Input → Type 0
IsSpelledInput (told c command) = (1 ≤ length command.items) × (length command.items ≤ 128)
IsSpelledInput (came p bytes) = Unit {0}
IsSpelledInput (rang p) = Unit {0}
IsSpelledInput elsewhere = Unit {0}

abbrev pub AreSpelledInputs : List Input → Type 0
AreSpelledInputs [] = Unit {0}
AreSpelledInputs (g ∷ inputs) = IsSpelledInput g × AreSpelledInputs inputs

-- what opens is of the grammar, and so is each content that is checked in it
abbrev pub OpensSpelled : RunSetup → Opener → Type 0
OpensSpelled k opens = (p : Party) (bytes : List ℕ) (m : Msg) → opens p bytes ≡ Some m → IsMessage m × All IsContent (claims k.cluster.f p m)

-- what comes is spelled, there are few events, and what replicas begin and sign with has bytes
pub record IsSpelledRun (k : RunSetup) (serves : Kind → Bool) (opens : Opener) (inputs : List Input) : Type 0 where
  pub written : IsWrittenSetup k serves
  pub opens_spelled : OpensSpelled k opens
  pub each : AreSpelledInputs inputs
  pub few : length inputs < 2 ^ 64

-- what contents of the grammar have to do with bytes: what a replica states in a draft is one, and two different ones have different bytes
pub record AreSpelledContents (f : ℕ) : Type 0 where
  pub stated : (r : ℕ) (m : Msg) → r ≤ 6 → IsDraft m → All IsContent (fresh f (Replica r) m)
  pub apart : (x y : Content) → IsContent x → IsContent y → spell_content x ≡ spell_content y → x ≡ y
