-- Children that were started, as a spawner tells of them, and what one call does with them.
use Rattle.std.specs.Prelude.{◌≡◌, ℕ, zero, suc, ◌≤◌, List, [], ◌∷◌, ◌++◌, Bool, true, false, map, length, slice_get, unwrap_or, Option, Result, OnOk, OnErr, IfOk, IfErr, IfSome, IsSomeAnd}
use Rattle.std.specs.Borrow.{Bor}
use Rattle.std.specs.Option.{option_map}
use Rattle.ab_io.specs.declared.fault.Refused.{Refused}
use Rattle.ab_io.specs.Causes.{RefusalCause}
use Rattle.ab_cluster.specs.declared.spawner.Ended.{Ended}

-- what a child is started with
pub record Job : Type 0 where
  pub words : List (List ℕ)
  pub input : List ℕ

-- how a child ends: its status, and what it wrote
pub record Ending : Type 0 where
  pub status : ℕ
  pub out : List ℕ

-- a child that was started, and whether it was waited for
pub record Child : Type 0 where
  pub job : Job
  pub waited : Bool

-- the children in the order of their starts, and how they end, in the same order
pub record Children : Type 0 where
  pub started : List Child
  pub ends : List Ending

-- of a spawner: its children, if they are told, and how often it has failed
pub record SpawnerState : Type 0 where
  pub told : Option Children
  pub faults : ℕ

abbrev pub job : List (Bor (List ℕ)) → List ℕ → Job
job words input = record { words = map (λ w. w.now) words; input = input }

abbrev pub ending : Ended → Ending
ending e = record { status = e.status; out = e.out.items }

abbrev pub ended_well : Ending
ended_well = record { status = 0; out = [] }

-- how child n ends: past the list with status 0, and it wrote nothing
abbrev pub end_of : List Ending → ℕ → Ending
end_of ends n = unwrap_or (slice_get ends n) ended_well

-- a child that is started now isn't waited for
abbrev pub opened : Job → Child
opened j = record { job = j; waited = false }

abbrev pub closed : Job → Child
closed j = record { job = j; waited = true }

abbrev pub with_child : Job → Children → Children
with_child j c = record { started = c.started ++ opened j ∷ []; ends = c.ends }

-- child n was waited for
abbrev pub marked : List Child → ℕ → List Child
marked [] n = []
marked (c ∷ cs) zero = closed c.job ∷ cs
marked (c ∷ cs) (suc n) = c ∷ marked cs n

abbrev pub with_mark : ℕ → Children → Children
with_mark n c = record { started = marked c.started n; ends = c.ends }

-- child n was started, and not yet waited for
abbrev pub IsOpen : SpawnerState → ℕ → Type 0
IsOpen s n = IfSome s.told (λ c. IsSomeAnd (slice_get c.started n) (λ child. child.waited ≡ false))

-- ---- what one call does

-- One child more stands at the end of the list, and its place is answered; or the start was refused, and the list is as before. The
-- count of faults never falls, and stands behind each refusal
pub record Starts (old new : SpawnerState) (result : Result ℕ Refused) (j : Job) : Type 0 where
  pub ok : OnOk result (new.told ≡ option_map (with_child j) old.told)
  pub place : IfOk result (λ n. IfSome old.told (λ c. n ≡ length c.started))
  pub err : OnErr result (new.told ≡ old.told)
  pub later : old.faults ≤ new.faults
  pub cause : IfErr result (λ why. RefusalCause why old.faults new.faults)

-- The child is marked as waited for, whatever is answered, and an answer is how it ends. The count of faults never falls, and stands
-- behind each refusal
pub record Waits (old new : SpawnerState) (result : Result Ended Refused) (n : ℕ) : Type 0 where
  pub told : new.told ≡ option_map (with_mark n) old.told
  pub ends : IfOk result (λ e. IfSome old.told (λ c. ending e ≡ end_of c.ends n))
  pub later : old.faults ≤ new.faults
  pub cause : IfErr result (λ why. RefusalCause why old.faults new.faults)
