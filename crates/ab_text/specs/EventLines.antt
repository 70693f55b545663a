-- The lines of events.
use Rattle.std.specs.Prelude.{ℕ, ◌^◌, ◌<◌, ◌≤◌, List, ◌∷◌, ◌++◌, Option, None, Some, length, codes, decimal, All, IfSome}
use Rattle.hex.specs.Hex.{encode_lower}
use Rattle.ab_num.specs.Limits.{longest_message}
use Rattle.ab_text.specs.declared.event.Core.{Core}
use Rattle.ab_text.specs.declared.event.Event.{Event}
use Rattle.ab_text.specs.declared.event.Event.TheVariants.{Invoke, Deliver, Timeout, Inject}
use Rattle.ab_text.specs.Cores.{core_text, IsCore, IsClient}

-- a packet's number, and a core where one is named
abbrev pub delivery_text : ℕ → Option Core → List ℕ
delivery_text packet None = decimal packet
delivery_text packet (Some core) = decimal packet ++ 32 ∷ core_text core

abbrev pub event_line : Event → List ℕ
event_line (Invoke core command) = codes "invoke " ++ (core_text core ++ 32 ∷ command.items)
event_line (Deliver packet core) = codes "deliver " ++ delivery_text packet core
event_line (Timeout core) = codes "timeout " ++ core_text core
event_line (Inject core bytes) = codes "inject " ++ (core_text core ++ 32 ∷ encode_lower bytes)

abbrev pub IsPrintable : ℕ → Type 0
IsPrintable b = (0x20 ≤ b) × (b ≤ 0x7e)

pub record IsCommand (command : List ℕ) : Type 0 where
  pub some : 1 ≤ length command
  pub short : length command ≤ 128
  pub printable : All IsPrintable command

-- at most 4 MiB
pub record IsInjected (bytes : List ℕ) : Type 0 where
  pub some : 1 ≤ length bytes
  pub few : length bytes ≤ longest_message
  pub small : All (λ b. b < 256) bytes

-- what has a line
abbrev pub IsEvent : Event → Type 0
IsEvent (Invoke core command) = IsCore core × IsClient core.party × IsCommand command.items
IsEvent (Deliver packet core) = (packet < 2 ^ 64) × IfSome core IsCore
IsEvent (Timeout core) = IsCore core
IsEvent (Inject core bytes) = IsCore core × IsInjected bytes
