-- The digits of hexadecimal text in lower case.
use Rattle.std.specs.Prelude.{ℕ, ◌≤◌, ◌⊎◌}

-- `0` to `9`, or `a` to `f`
abbrev pub IsLowerDigit : ℕ → Type 0
IsLowerDigit b = ((0x30 ≤ b) × (b ≤ 0x39)) ⊎ ((0x61 ≤ b) × (b ≤ 0x66))
