-- Limits of what a node is asked.
use Rattle.std.specs.Prelude.{ℕ}

-- the port of replica 0
abbrev pub highest_base : ℕ
highest_base = 65000

-- how long a turn waits, in milliseconds
abbrev pub longest_wait : ℕ
longest_wait = 60000

-- the turns of a node
abbrev pub most_turns : ℕ
most_turns = 1000000000
