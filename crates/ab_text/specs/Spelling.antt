-- How a schedule is spelled.
use Rattle.std.specs.Prelude.{◌≡◌, ℕ, ◌<◌, ◌≤◌, List, [], ◌∷◌, ◌++◌, All, length, map, codes, decimal}
use Rattle.std.specs.List.{AllByRecursion}
use Rattle.ab_num.specs.declared.party.Party.{Party}
use Rattle.ab_num.specs.Bounds.{IsInBounds}
use Rattle.ab_num.specs.declared.plan.Scheme.{Scheme}
use Rattle.ab_num.specs.declared.plan.Scheme.TheVariants.{Lms, Hss}
use Rattle.ab_text.specs.declared.event.Event.{Event}
use Rattle.ab_text.specs.declared.version.Version.{Version}
use Rattle.ab_text.specs.declared.version.Version.TheVariants.{One, Two, Three, Four}
use Rattle.ab_text.specs.Lines.{lines_of}
use Rattle.ab_text.specs.EventLines.{event_line, IsEvent}
use Rattle.ab_text.specs.Heads.{Script, abstract_line, plan_line, service_line, lms_line, checkpoint_line, most_every, most_built, seed_line, no_seed}
use Rattle.ab_text.specs.Schedules.{faulty_line, IsNextFaulty}

-- the lines of a head that only later versions have
abbrev pub later_lines : Version → ℕ → List ℕ → List (List ℕ)
later_lines One every seed = []
later_lines Two every seed = []
later_lines Three every seed = checkpoint_line every ∷ []
later_lines Four every seed = checkpoint_line every ∷ seed_line seed ∷ []

abbrev pub head_lines : Version → Script → List (List ℕ)
head_lines version s =
    abstract_line version ∷ (codes "f " ++ decimal s.f) ∷ plan_line s.plan ∷ (codes "clients " ++ decimal s.clients)
    ∷ service_line s.service ∷ lms_line s.lms ∷ later_lines version s.every s.seed

abbrev pub event_lines : List Event → List (List ℕ)
event_lines events = map event_line events ++ codes "end" ∷ []

abbrev pub faulty_lines : List (Party × ℕ) → List Event → List (List ℕ)
faulty_lines faulty events = map faulty_line faulty ++ codes "run" ∷ event_lines events

abbrev pub schedule_lines : Version → Script → List (List ℕ)
schedule_lines version s = head_lines version s ++ faulty_lines s.faulty s.events

-- each may come next after those before it
abbrev pub AreFaulty : ℕ → ℕ → List (Party × ℕ) → List (Party × ℕ) → Type 0
AreFaulty f clients done [] = Unit {0}
AreFaulty f clients done (x ∷ xs) = IsNextFaulty f clients done x × AreFaulty f clients (done ++ x ∷ []) xs

-- 32 bytes
pub record IsSeed (seed : List ℕ) : Type 0 where
  pub long : length seed ≡ 32
  pub small : All (λ b. b < 256) seed

-- a schedule of the grammar
pub record IsSchedule (s : Script) : Type 0 where
  pub bounds : IsInBounds s.f s.clients
  pub dense : s.every ≤ most_every s.plan
  pub seed : IsSeed s.seed
  pub faulty : AreFaulty s.f s.clients [] s.faulty
  pub events : AllByRecursion IsEvent s.events

-- checkpoints of this plan are built, if there are any
abbrev pub IsBuilt : Script → Type 0
IsBuilt s = s.every ≤ most_built s.plan

-- a first line goes with each scheme of one level, and those after the first one with all
abbrev pub Allows : Version → Scheme → Type 0
Allows version (Lms height) = Unit {0}
Allows One Hss = ⊥
Allows Two Hss = Unit {0}
Allows Three Hss = Unit {0}
Allows Four Hss = Unit {0}

-- what a version has no line for, the schedule hasn't: checkpoints, or a seed
abbrev pub Omits : Version → Script → Type 0
Omits One s = (s.every ≡ 0) × (s.seed ≡ no_seed)
Omits Two s = (s.every ≡ 0) × (s.seed ≡ no_seed)
Omits Three s = s.seed ≡ no_seed
Omits Four s = Unit {0}

-- These lines are a schedule's. A schedule has a spelling for each first line that has all of its head, since nothing keeps the first line
pub record Spell (ls : List (List ℕ)) (s : Script) : Type 0 where
  pub schedule : IsSchedule s
  pub version : Version
  pub allows : Allows version s.lms
  pub omits : Omits version s
  pub lines : ls ≡ schedule_lines version s

abbrev pub IsSpelled : List ℕ → Script → Type 0
IsSpelled text s = Spell (lines_of text) s
