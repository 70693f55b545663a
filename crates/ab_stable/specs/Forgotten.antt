-- What replicas may forget in a run of many instances.
use Rattle.std.specs.Prelude.{ℕ, ◌<◌, ◌≤◌, Bool, List, [], ◌∷◌, Contains}
use mathlib.Core.List.{IsPrefix}
use Rattle.ab_hist.specs.declared.request.Request.{Request}
use Rattle.ab_svc.specs.Machines.{Machine}
use Rattle.ab_msg.specs.declared.content.Content.{Content}
use Rattle.ab_abs.specs.declared.seen.Seen.{Seen}
use Rattle.ab_abs.specs.Acts.{Setting, Act, log_of}
use Rattle.ab_abs.specs.Backing.{IsBacked, IsCorrect, IsStopped}
use Rattle.ab_abs.specs.Rules.{IsSound}
use Rattle.ab_abs.specs.TailRules.{IsTailSound}
use Rattle.ab_stable.specs.MarkedActs.{AreActsWithMarks, IsStable}
use Rattle.ab_abs.specs.Observations.{IsCertHistory}

-- a beginning that may be forgotten in an instance. It is settled there: each certificate history begins with it, as with what is stable,
-- or with the base on which a Backup agreed. Or it was brought from an earlier instance, by the replica itself or in a list that it took
-- and that had forgotten no more than some replica there
pub data IsForgotten (seen : List Seen) : ℕ → List Request → Type 0 where
  settled : (i : ℕ) (front : List Request) → 1 ≤ i → ((h : List Request) → IsCertHistory seen i h → IsPrefix front h) → IsForgotten seen i front
  brought : (i j : ℕ) (front more : List Request) → i < j → IsForgotten seen i more → IsPrefix front more → IsForgotten seen j front

-- why a beginning is common in an instance: it is stable there, in Quorum and ZLight or in Chain; or it begins the log of each correct
-- replica that is stopped, as the base does on which a Backup agreed
pub data IsCommonBy {S : Type 0} (machine : Machine S) (x : Setting) (is_mark : Content → Bool) (mark : ℕ → ℕ → List ℕ → Content) (acts : List Act) (front : List Request) : Type 0 where
  by_all : AreActsWithMarks (IsSound machine x) x is_mark mark acts → IsStable x mark acts front → IsCommonBy machine x is_mark mark acts front
  in_chain : AreActsWithMarks (IsTailSound machine x) x is_mark mark acts → IsStable x mark acts front → IsCommonBy machine x is_mark mark acts front
  by_logs : 1 ≤ x.i → IsBacked machine x acts → ((r : ℕ) → IsCorrect x r → IsStopped acts r → IsPrefix front (log_of acts r)) → IsCommonBy machine x is_mark mark acts front

-- what a replica's list has forgotten at some time, in the instance where the replica then was
pub record Forgot : Type 0 where
  pub by : ℕ
  pub instance : ℕ
  pub front : List Request

-- all that replicas had forgotten, the newest first, each with its reason: nothing; what was common there; or no more than some replica had
-- forgotten in an earlier instance. common has what is stable, or is a base on which a Backup agreed, each beside its instance
pub data AreReasoned (common : List (ℕ × List Request)) : List Forgot → Type 0 where
  start : AreReasoned common []
  begins : (r i : ℕ) (lists : List Forgot) → 1 ≤ i → AreReasoned common lists → AreReasoned common (record { by = r; instance = i; front = [] } ∷ lists)
  forgets : (r i : ℕ) (front : List Request) (lists : List Forgot) → Contains common (i, front) → AreReasoned common lists → AreReasoned common (record { by = r; instance = i; front = front } ∷ lists)
  brings : (v : Forgot) (r j : ℕ) (front : List Request) (lists : List Forgot) → Contains lists v → v.instance < j → IsPrefix front v.front → AreReasoned common lists
      → AreReasoned common (record { by = r; instance = j; front = front } ∷ lists)
