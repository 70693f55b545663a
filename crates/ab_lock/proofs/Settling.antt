-- A replica that goes on by itself keeps to the rules, and ends where nothing is left to do.
use Rattle.std.proofs.Common.{◌≡◌, ℕ, zero, suc, ◌+◌, ◌*◌, ◌<◌, ◌≤◌, Bool, Option, Some, None, List, [], ◌∷◌, ◌++◌, length, refl, sym, ap, ◌∙◌, subst, arith, append_assoc, length-append}
use Rattle.ab_lock.specs.Steps.{Step, accepts, signs, prepares, changes, enters, executes, State, after, state_of, Can, Follows}
use Rattle.ab_lock.specs.Votes.{SlotVote, next, votes_after, commits_after, onward, settled}
use Rattle.ab_lock.specs.Events.{state_by, votes_by, commits_by}
use Rattle.ab_lock.proofs.Consistent.{IsConsistent, consistent}
use Rattle.ab_lock.proofs.Traces.{prepared_length}
use Rattle.ab_lock.proofs.VoteLemmas.{IsInView, next_is, next_can}

-- what steps from the oldest on leave
module _ {V X : Type 0} (digest : V → X) (me : ℕ) where
  pub state_by-last : (more : List (Step V X)) (step : Step V X) (s : State V) → state_by (more ++ (step ∷ [])) s ≡ state_by more (after s step)
  state_by-last [] step s = refl
  state_by-last (other ∷ more) step s = ap (λ t. after t other) (state_by-last more step s)

  pub votes_by-last : (more : List (Step V X)) (step : Step V X) (votes : List (SlotVote X)) → votes_by me (more ++ (step ∷ [])) votes ≡ votes_by me more (votes_after me step votes)
  votes_by-last [] step votes = refl
  votes_by-last (other ∷ more) step votes = ap (λ t. votes_after me other t) (votes_by-last more step votes)

  commits_by-last : (more : List (Step V X)) (step : Step V X) (commits : List (SlotVote X)) → commits_by digest me (more ++ (step ∷ [])) commits ≡ commits_by digest me more (commits_after digest me step commits)
  commits_by-last [] step commits = refl
  commits_by-last (other ∷ more) step commits = ap (λ t. commits_after digest me other t) (commits_by-last more step commits)

module _ {V X : Type 0} (digest : V → X) (same : X → X → Bool) (goes : List V → V → Bool) (k f me : ℕ) where
  abbrev measure : State V → ℕ
  measure s = s.signed + s.prepared + length s.executed

  pub executed_within : (trace : List (Step V X)) → Follows digest goes k trace → length (state_of trace).executed ≤ suc k
  executed_within [] lawful = omega arith
  executed_within (accepts n value ∷ trace) lawful = executed_within trace lawful.1
  executed_within (signs v n x ∷ trace) lawful = executed_within trace lawful.1
  executed_within (prepares v h ∷ trace) lawful = executed_within trace lawful.1
  executed_within (changes w entries ∷ trace) lawful = executed_within trace lawful.1
  executed_within (enters w vcs chosen ∷ trace) lawful = executed_within trace lawful.1
  executed_within (executes v n value ∷ trace) lawful =
      let s = consistent digest goes k trace lawful.1 in
      omega (arith, lawful.0.1, lawful.0.2, s.in_order, s.of_accepted, s.within, length-append (state_of trace).executed (value ∷ []))

  bounded : (trace : List (Step V X)) → Follows digest goes k trace → measure (state_of trace) ≤ 3 * suc k
  bounded trace lawful = let s = consistent digest goes k trace lawful in omega (arith, s.in_order, s.of_accepted, s.within, executed_within trace lawful)

  raises : (s : State V) (step : Step V X) → IsConsistent digest goes k s → Can digest goes k s step → IsInView step → measure s < measure (after s step)
  raises s (accepts n value) is can here = absurd here
  raises s (signs v n x) is can here = omega (arith, can.1)
  raises s (prepares v h) is can here = omega (arith, prepared_length digest goes k s v h is can)
  raises s (changes w entries) is can here = absurd here
  raises s (enters w vcs chosen) is can here = absurd here
  raises s (executes v n value) is can here = omega (arith, length-append s.executed (value ∷ []))

  -- the steps that it goes on with are allowed
  pub settled_follows : (n : ℕ) (trace : List (Step V X)) (votes commits : List (SlotVote X)) → Follows digest goes k trace → Follows digest goes k (settled digest same goes f me n (state_of trace) votes commits ++ trace)
  settled_follows zero trace votes commits lawful = lawful
  settled_follows (suc n) trace votes commits lawful = of_next (next digest same goes f (state_of trace) votes commits) refl (λ step. settled_follows n (step ∷ trace) (votes_after me step votes) (commits_after digest me step commits))
    where
      Later : Step V X → List (Step V X)
      Later step = settled digest same goes f me n (state_of (step ∷ trace)) (votes_after me step votes) (commits_after digest me step commits)

      of_next : (o : Option (Step V X)) → next digest same goes f (state_of trace) votes commits ≡ o → ((step : Step V X) → Follows digest goes k (step ∷ trace) → Follows digest goes k (Later step ++ (step ∷ trace)))
          → Follows digest goes k (onward digest same goes f me (settled digest same goes f me n) (state_of trace) votes commits o ++ trace)
      of_next None why further = lawful
      of_next (Some step) why further =
          let can = next_can digest same goes f (state_of trace) votes commits k step (next_is digest same goes f (state_of trace) votes commits step why) in
          subst (λ (l : List (Step V X)). Follows digest goes k l) (sym (append_assoc (Later step) (step ∷ []) trace)) (further step (can.0, lawful))

  -- nothing applies after these steps
  abbrev IsQuiet : List (Step V X) → State V → List (SlotVote X) → List (SlotVote X) → Type 0
  IsQuiet more s votes commits = next digest same goes f (state_by more s) (votes_by me more votes) (commits_by digest me more commits) ≡ None

  quiet_last : (more : List (Step V X)) (step : Step V X) (s : State V) (votes commits : List (SlotVote X)) → IsQuiet more (after s step) (votes_after me step votes) (commits_after digest me step commits) → IsQuiet (more ++ (step ∷ [])) s votes commits
  quiet_last more step s votes commits quiet =
      ap (λ t. next digest same goes f t (votes_by me (more ++ (step ∷ [])) votes) (commits_by digest me (more ++ (step ∷ [])) commits)) (state_by-last digest me more step s)
      ∙ (ap (λ t. next digest same goes f (state_by more (after s step)) t (commits_by digest me (more ++ (step ∷ [])) commits)) (votes_by-last digest me more step votes)
      ∙ (ap (λ t. next digest same goes f (state_by more (after s step)) (votes_by me more (votes_after me step votes)) t) (commits_by-last digest me more step commits) ∙ quiet))

  settled_quiet : (n : ℕ) (trace : List (Step V X)) (votes commits : List (SlotVote X)) → Follows digest goes k trace → 3 * suc k < n + measure (state_of trace)
      → IsQuiet (settled digest same goes f me n (state_of trace) votes commits) (state_of trace) votes commits
  settled_quiet zero trace votes commits lawful enough = absurd (omega (arith, enough, bounded trace lawful))
  settled_quiet (suc n) trace votes commits lawful enough = of_next (next digest same goes f (state_of trace) votes commits) refl (λ step. settled_quiet n (step ∷ trace) (votes_after me step votes) (commits_after digest me step commits))
    where
      Later : Step V X → List (Step V X)
      Later step = settled digest same goes f me n (state_of (step ∷ trace)) (votes_after me step votes) (commits_after digest me step commits)

      of_next : (o : Option (Step V X)) → next digest same goes f (state_of trace) votes commits ≡ o
          → ((step : Step V X) → Follows digest goes k (step ∷ trace) → 3 * suc k < n + measure (state_of (step ∷ trace)) → IsQuiet (Later step) (state_of (step ∷ trace)) (votes_after me step votes) (commits_after digest me step commits))
          → IsQuiet (onward digest same goes f me (settled digest same goes f me n) (state_of trace) votes commits o) (state_of trace) votes commits
      of_next None why further = why
      of_next (Some step) why further =
          let can = next_can digest same goes f (state_of trace) votes commits k step (next_is digest same goes f (state_of trace) votes commits step why) in
          let more = raises (state_of trace) step (consistent digest goes k trace lawful) can.0 can.1 in
          quiet_last (Later step) step (state_of trace) votes commits (further step (can.0, lawful) (omega (arith, enough, more)))

  -- it does all that it can
  pub settled_ends : (trace : List (Step V X)) (votes commits : List (SlotVote X)) → Follows digest goes k trace → IsQuiet (settled digest same goes f me (suc (3 * suc k)) (state_of trace) votes commits) (state_of trace) votes commits
  settled_ends trace votes commits lawful = settled_quiet (suc (3 * suc k)) trace votes commits lawful (omega arith)
