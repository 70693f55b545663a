-- Limits that several crates name.
use Rattle.std.specs.Prelude.{ℕ}

-- the events of a run
abbrev pub most_events : ℕ
most_events = 100000

-- the bytes of a message
abbrev pub longest_message : ℕ
longest_message = 4194304
