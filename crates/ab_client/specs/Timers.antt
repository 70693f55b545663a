-- What a client's timer counts.
use Rattle.std.specs.Prelude.{ℕ, suc, ◌+◌, ◌-◌, List, [], ◌∷◌}
use Rattle.ab_run.specs.Setups.{RunSetup}
use Rattle.ab_run.specs.Clients.{Cli, CliAction, move_ask, move_take, after_move}
use Rattle.ab_run.specs.Local.{Cue, moves_at, cli_local}

-- its number: the last stamp and the instance added
abbrev pub number_of : Cli → ℕ
number_of s = s.stamp + s.at

-- how many requests are invoked in these moves
abbrev pub invocations : List CliAction → ℕ
invocations [] = 0
invocations (move_ask m ∷ moves) = suc (invocations moves)
invocations (_ ∷ moves) = invocations moves

-- how many instances are entered
abbrev pub entries : List CliAction → ℕ
entries [] = 0
entries (move_take j cert t m ∷ moves) = suc (entries moves)
entries (_ ∷ moves) = entries moves

-- and how many are passed over by these entries, as a client goes on from s
abbrev pub passed_by : Cli → CliAction → ℕ
passed_by s (move_take j cert t m) = j - s.at
passed_by s _ = 0

abbrev pub passed_over : Cli → List CliAction → ℕ
passed_over s [] = 0
passed_over s (move ∷ moves) = passed_by s move + passed_over (after_move s move) moves

-- the same of all that came to client c
module _ (k : RunSetup) (c : ℕ) where
  abbrev pub all_invocations : List Cue → ℕ
  all_invocations [] = 0
  all_invocations (cue ∷ cues) = all_invocations cues + invocations (moves_at k c (cli_local k c cues) cue)

  abbrev pub all_entries : List Cue → ℕ
  all_entries [] = 0
  all_entries (cue ∷ cues) = all_entries cues + entries (moves_at k c (cli_local k c cues) cue)

  abbrev pub all_passed : List Cue → ℕ
  all_passed [] = 0
  all_passed (cue ∷ cues) = all_passed cues + passed_over (cli_local k c cues) (moves_at k c (cli_local k c cues) cue)
