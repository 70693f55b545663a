-- Counts of faults, and what they say of an answer.
use Rattle.std.specs.Prelude.{◌≡◌, ℕ, ◌+◌, ◌-◌, ◌^◌, ◌≤◌, min, ⊤}
use Rattle.ab_io.specs.declared.fault.Refused.{Refused}
use Rattle.ab_io.specs.declared.fault.Refused.TheVariants as refused
use Rattle.ab_io.specs.declared.link.Got.{Got}
use Rattle.ab_io.specs.declared.link.Got.TheVariants as got

-- the count has risen, or stands at its last value
abbrev pub Rose : ℕ → ℕ → Type 0
Rose before now = min (before + 1) (2 ^ 64 - 1) ≤ now

-- the count has risen where the outside failed, and stays where memory is wanting
abbrev pub RefusalCause : Refused → ℕ → ℕ → Type 0
RefusalCause refused.Failed before now = Rose before now
RefusalCause refused.OutOfMemory before now = now ≡ before

-- the count has risen where the outside failed
abbrev pub GotCause : Got → ℕ → ℕ → Type 0
GotCause got.Failed before now = Rose before now
GotCause got.Quiet before now = ⊤
GotCause (got.Bytes n) before now = ⊤
