-- A party that is stopped at any moment, and started again over what it kept.
use Rattle.std.specs.Prelude.{◌≡◌, ◌⊎◌, ℕ, List, [], ◌∷◌, ◌++◌, map, Bool, false, None, ⊤}
use Rattle.std.specs.List.{flat_map}
use Rattle.arrayvec.specs.ArrayVec.{ArrayVec}
use Rattle.ab_io.specs.Datagrams.{Datagram}
use Rattle.ab_loop.specs.declared.party_core.Commit.{Commit}
use Rattle.ab_loop.specs.Settings.{NodeSetting}
use Rattle.ab_loop.specs.Cores.{NodeEvent, Rules}
use Rattle.ab_loop.specs.Past.{body_of}
use Rattle.ab_loop.specs.Edges.{Did, Edge, Effect, bodies_in, handed_in, replies_in}
use Rattle.ab_loop.specs.Nodes.{Out, Turn, first_step, run_after}
use Rattle.ab_loop.specs.Runs.{Start, end_line}
use Rattle.ab_loop.specs.Folds.{core_after}

-- some of these, in their order, each as often at most
abbrev pub Among : {X : Type 0} → List X → List X → Type 0
Among [] ys = ⊤
Among (x ∷ xs) [] = ⊥
Among (x ∷ xs) (y ∷ ys) = ((x ≡ y) × Among xs ys) ⊎ Among (x ∷ xs) ys

-- where some events lead a party that began here
abbrev pub Comes : {C : Type 0} → Rules C → C → C → Type 0
Comes rules start core = (events : List NodeEvent) × (core_after rules start events ≡ core)

-- Wherever a party comes, an event that isn't kept changes nothing: it is a message that doesn't open.
pub record AreIdle {C : Type 0} (rules : Rules C) (start : C) : Type 0 where
  pub after : (core : C) (e : NodeEvent) → Comes rules start core → (rules.step core e).opened ≡ false → (rules.step core e).after ≡ core
  pub sends : (core : C) (e : NodeEvent) → Comes rules start core → (rules.step core e).opened ≡ false → (rules.step core e).sends ≡ []
  pub commit : (core : C) (e : NodeEvent) → Comes rules start core → (rules.step core e).opened ≡ false → (rules.step core e).commit ≡ None

-- all that is done in a run, with the line of the end
abbrev pub done_in : {C : Type 0} → Out C → ℕ → List Effect
done_in o lost = o.effects ++ end_line o.node lost

-- what a stopped run has done, and the events that are kept of it
pub record StoppedRun : Type 0 where
  pub done : List Effect
  pub kept : List NodeEvent

-- A run over these events of earlier runs that was stopped at any moment, by a fault or from outside: it has done a front of what a
-- whole run does, and in it the bodies of these events are kept.
pub record IsStopped {C : Type 0} (rules : Rules C) (s : NodeSetting) (start : C) (past : List NodeEvent) (r : StoppedRun) : Type 0 where
  pub reading : ℕ
  pub commands : List (ArrayVec ℕ)
  pub turns : List Turn
  pub lost : ℕ
  pub left : List Effect
  pub parts : done_in (run_after rules s (first_step rules s reading start past commands) turns) lost ≡ r.done ++ left
  pub kept_are : bodies_in r.done ≡ map body_of r.kept

-- At an exit of a node, what was written, what was kept and what was sent are what a stopped run has done.
pub record IsExit {C : Type 0} (rules : Rules C) (x : Start C) (old new : Edge) : Type 0 where
  pub run : StoppedRun
  pub stopped : IsStopped rules x.setting x.core x.past run
  pub went : List Bool
  pub did : Did old new run.done went

-- runs one after the other, the first of them first, each over the events that all before it kept
abbrev pub IsLife : {C : Type 0} → Rules C → NodeSetting → C → List NodeEvent → List StoppedRun → Type 0
IsLife rules s start past [] = ⊤
IsLife rules s start past (r ∷ later) = IsStopped rules s start past r × IsLife rules s start (past ++ r.kept) later

-- what all of them kept, handed over, and replied
abbrev pub kept_by : List StoppedRun → List NodeEvent
kept_by runs = flat_map (λ r. r.kept) runs

abbrev pub handed_by : List StoppedRun → List Datagram
handed_by runs = flat_map (λ r. handed_in r.done) runs

abbrev pub replied_by : List StoppedRun → List Commit
replied_by runs = flat_map (λ r. replies_in r.done) runs
