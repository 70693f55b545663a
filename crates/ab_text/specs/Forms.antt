-- What a caller may take of a schedule that was read.
use Rattle.std.specs.Prelude.{ℕ, ◌+◌, ◌*◌, ◌≤◌, length, All, AllPairs}
use Rattle.ab_num.specs.declared.party.Party.{Party}
use Rattle.ab_text.specs.EventLines.{IsEvent}
use Rattle.ab_text.specs.Heads.{Script}
use Rattle.ab_text.specs.Schedules.{IsBefore, IsInside}
use Rattle.ab_text.specs.Spelling.{IsBuilt, IsSeed}

-- a party of the cluster, with 1 to 4 twins
pub record IsDeclared (f clients : ℕ) (x : Party × ℕ) : Type 0 where
  pub inside : IsInside f clients x.0
  pub some : 1 ≤ x.1
  pub few : x.1 ≤ 4

-- Checkpoints are due as the plan has them built, the seed has 32 bytes, no party is declared twice, and each event has a line: so commands, injected bytes and
-- the numbers of twins have their bounds
pub record IsInForm (s : Script) : Type 0 where
  pub built : IsBuilt s
  pub seed : IsSeed s.seed
  pub parties : All (IsDeclared s.f s.clients) s.faulty
  pub ascending : AllPairs (λ x later. IsBefore x.0 later.0) s.faulty
  pub few : length s.faulty ≤ 3 * s.f + 1 + s.clients
  pub events : All IsEvent s.events
