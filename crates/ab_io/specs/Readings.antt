-- The readings of a clock.
use Rattle.std.specs.Prelude.{ℕ, ◌-◌, List, length, drop, slice_get, unwrap_or}

-- the readings to come, and the one that each call after their end gives
pub record Readings : Type 0 where
  pub to_come : List ℕ
  pub last : ℕ

-- what the next call gives
abbrev pub next_reading : Readings → ℕ
next_reading r = unwrap_or (slice_get r.to_come 0) r.last

-- the readings after that call
abbrev pub later_readings : Readings → Readings
later_readings r = record { to_come = drop 1 r.to_come; last = r.last }

-- a list's last reading, or 0 where there is none
abbrev pub last_of : List ℕ → ℕ
last_of readings = unwrap_or (slice_get readings (length readings - 1)) 0
