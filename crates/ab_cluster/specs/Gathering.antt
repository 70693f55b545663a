-- What a list of jobs gives.
use Rattle.std.specs.Prelude.{◌≡◌, ℕ, ◌+◌, ◌-◌, ◌^◌, ◌≤◌, ◌==◌, min, List, [], ◌∷◌, ◌++◌, Bool, true, false, map, length, take, replicate, string_bytes, Option, None, IfSome, is_none, if◌then◌else◌}
use Rattle.std.specs.List.{count_by}
use Rattle.std.specs.Option.{option_map}
use Rattle.ab_cluster.specs.declared.gathering.ChildJob.{ChildJob}
use Rattle.ab_cluster.specs.declared.gathering.Gathered.{Gathered}
use Rattle.ab_cluster.specs.Children.{Children, Ending, Job, SpawnerState, closed, end_of, ending}

abbrev pub job_of : ChildJob → Job
job_of j = record { words = map string_bytes j.words.items; input = j.input.items }

-- whether a job was started, and how its child ended, if the wait has told it
pub record Outcome : Type 0 where
  pub started : Bool
  pub ended : Option Ending

abbrev pub outcome_of : Gathered → Outcome
outcome_of g = record { started = g.started; ended = option_map ending g.ended }

-- of a job that was started
abbrev pub found : Option Ending → Outcome
found e = record { started = true; ended = e }

abbrev pub not_started : Outcome
not_started = record { started = false; ended = None }

-- these jobs were started after the others, each once and in order, and each of their children was waited for once
abbrev pub gathered : List Job → Children → Children
gathered jobs c = record { started = c.started ++ map closed jobs; ends = c.ends }

-- from child n on, each that has told its end has told the right one
abbrev pub AreEnds : List Ending → ℕ → List (Option Ending) → Type 0
AreEnds ends n [] = Unit {0}
AreEnds ends n (e ∷ es) = IfSome e (λ end. end ≡ end_of ends n) × AreEnds ends (n + 1) es

-- how many faults there were at least: one for each started child whose end isn't told, and one if a job wasn't started
abbrev pub faults_in : ℕ → List (Option Ending) → ℕ
faults_in jobs ends = count_by is_none ends + (if length ends == jobs then 0 else 1)

-- The jobs were gathered: a front of them was started, and the others were not
pub record Gathers (jobs : List Job) (old new : SpawnerState) (all : List Outcome) : Type 0 where
  pub ends : List (Option Ending)
  pub front : length ends ≤ length jobs
  pub outcomes : all ≡ map found ends ++ replicate (length jobs - length ends) not_started
  pub told : new.told ≡ option_map (gathered (take (length ends) jobs)) old.told
  pub right : IfSome old.told (λ c. AreEnds c.ends (length c.started) ends)
  pub later : old.faults ≤ new.faults
  pub faults : min (old.faults + faults_in (length jobs) ends) (2 ^ 64 - 1) ≤ new.faults

-- Memory was wanting: a front of the jobs was started, and each of its children was waited for
pub record GathersFront (jobs : List Job) (old new : SpawnerState) : Type 0 where
  pub count : ℕ
  pub front : count ≤ length jobs
  pub told : new.told ≡ option_map (gathered (take count jobs)) old.told
  pub later : old.faults ≤ new.faults
