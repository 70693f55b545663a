-- Whole inputs and outputs.
use Rattle.std.specs.Prelude.{◌≡◌, ℕ, ◌<◌, ◌≤◌, List, length, take, Option, None, Some, Result, OnOk, OnErr, IfErr, IfSome, ⊤}
use Rattle.std.specs.Io.KnownBytes.{Appends}
use Rattle.ab_io.specs.Causes.{Rose}
use Rattle.ab_io.specs.States.{SinkState, SourceState}
use Rattle.ab_replay.specs.declared.stream.ReadFault.{ReadFault}
use Rattle.ab_replay.specs.declared.stream.ReadFault.TheVariants as reading
use Rattle.ab_replay.specs.declared.stream.WriteFault.{WriteFault}
use Rattle.ab_replay.specs.declared.stream.WriteFault.TheVariants as writing

-- how many bytes of an input a program reads at most
abbrev pub most_bytes : ℕ
most_bytes = 67108864

-- the bytes are all that was left, where that was told
abbrev pub IsAllOf : Option (List ℕ) → List ℕ → Type 0
IsAllOf None bytes = ⊤
IsAllOf (Some xs) bytes = xs ≡ bytes

-- the bytes are all that was left, where that was told, and no more than a program reads
pub record IsInput (left : Option (List ℕ)) (bytes : List ℕ) : Type 0 where
  pub all : IsAllOf left bytes
  pub short : length bytes ≤ most_bytes

-- more was left than a program reads
abbrev pub IsTooLong : Option (List ℕ) → Type 0
IsTooLong left = IfSome left (λ bytes. most_bytes < length bytes)

-- when each fault of reading comes: by the source before and after
abbrev pub ReadCause : ReadFault → SourceState → SourceState → Type 0
ReadCause reading.Failed old new = Rose old.faults new.faults
ReadCause reading.TooLong old new = IsTooLong old.left
ReadCause reading.OutOfMemory old new = ⊤

abbrev pub WriteCause : WriteFault → ℕ → ℕ → Type 0
WriteCause writing.Failed before now = Rose before now
WriteCause writing.OutOfMemory before now = ⊤

-- a front of the bytes was added, where that is told
abbrev pub AppendsFront : Option (List ℕ) → Option (List ℕ) → List ℕ → Type 0
AppendsFront old new bytes = (n : ℕ) × (n ≤ length bytes) × Appends old new (take n bytes)

-- a front of the bytes was added that isn't the whole, where that is told
abbrev pub AppendsPart : Option (List ℕ) → Option (List ℕ) → List ℕ → Type 0
AppendsPart old new bytes = (n : ℕ) × (n < length bytes) × Appends old new (take n bytes)

-- All of the bytes were written, or after a fault a front of them that isn't the whole. The count of faults never falls, and each
-- fault has its cause
pub record Writes (old new : SinkState) (result : Result (Unit {0}) WriteFault) (bytes : List ℕ) : Type 0 where
  pub all : OnOk result (Appends old.held new.held bytes)
  pub part : OnErr result (AppendsPart old.held new.held bytes)
  pub later : old.faults ≤ new.faults
  pub cause : IfErr result (λ why. WriteCause why old.faults new.faults)
