-- A replica goes on step by step.
use Rattle.std.proofs.Common.{◌≡◌, ℕ, zero, suc, ◌*◌, Option, Some, None, List, [], ◌∷◌, ◌++◌, map, refl, sym, ap, ◌∙◌, append_assoc}
use Rattle.std.proofs.lemmas.List.{append-nil}
use Rattle.std.specs.Str.{bytes_eq}
use Rattle.ab_msg.specs.declared.value.Value.{Value}
use Rattle.ab_msg.specs.Slots.{slot_digest}
use Rattle.ab_abs.specs.Values.{goes}
use Rattle.ab_lock.specs.Steps.{State, after}
use Rattle.ab_lock.specs.Votes.{SlotVote, votes_after, commits_after, onward, settled}
use Rattle.ab_lock.specs.Events.{peer_by, state_by, votes_by, commits_by}
use Rattle.ab_pbft_rules.specs.Traces.{OrderStep}
use Rattle.ab_pbft_rules.specs.Rules.{Placement, Work, takes_step, with_peer, oldest_first, settle}
use Rattle.ab_pbft_work.specs.Turns.{takes, next_in, by_steps, goes_by}

oldest_pushed : (more : List OrderStep) (step : OrderStep) → oldest_first (more ++ step ∷ []) ≡ step ∷ oldest_first more
oldest_pushed [] step = refl
oldest_pushed (s ∷ more) step = ap (λ l. l ++ s ∷ []) (oldest_pushed more step)

state_pushed : (more : List OrderStep) (step : OrderStep) (s : State Value) → state_by (more ++ step ∷ []) s ≡ state_by more (after s step)
state_pushed [] step s = refl
state_pushed (t ∷ more) step s = ap (λ (u : State Value). after u t) (state_pushed more step s)

votes_pushed : (me : ℕ) (more : List OrderStep) (step : OrderStep) (votes : List (SlotVote (List ℕ))) → votes_by me (more ++ step ∷ []) votes ≡ votes_by me more (votes_after me step votes)
votes_pushed me [] step votes = refl
votes_pushed me (t ∷ more) step votes = ap (λ l. votes_after me t l) (votes_pushed me more step votes)

commits_pushed : (me : ℕ) (more : List OrderStep) (step : OrderStep) (commits : List (SlotVote (List ℕ))) → commits_by slot_digest me (more ++ step ∷ []) commits ≡ commits_by slot_digest me more (commits_after slot_digest me step commits)
commits_pushed me [] step commits = refl
commits_pushed me (t ∷ more) step commits = ap (λ l. commits_after slot_digest me t l) (commits_pushed me more step commits)

-- all steps together, and the first of them by itself
with_pushed : (me : ℕ) (more : List OrderStep) (step : OrderStep) (w : Work)
    → with_peer w (peer_by slot_digest me (more ++ step ∷ []) w.at.peer) (more ++ step ∷ [])
    ≡ with_peer (takes me step w) (peer_by slot_digest me more (takes me step w).at.peer) more
with_pushed me more step w =
    λ j. record {
      at = record w.at {
        peer = record {
          core = state_pushed more step w.at.peer.core j;
          votes = votes_pushed me more step w.at.peer.votes j;
          commits = commits_pushed me more step w.at.peer.commits j;
        };
      };
      steps = append_assoc more (step ∷ []) w.steps j;
      doings = told j;
    }
  where
    told : w.doings ++ map takes_step (oldest_first (more ++ step ∷ [])) ≡ (w.doings ++ takes_step step ∷ []) ++ map takes_step (oldest_first more)
    told = ap (λ l. w.doings ++ map takes_step l) (oldest_pushed more step) ∙ sym (append_assoc w.doings (takes_step step ∷ []) (map takes_step (oldest_first more)))

module _ (seat : Placement) where
  abbrev steps_of : ℕ → Work → List OrderStep
  steps_of n w = settled slot_digest bytes_eq goes seat.f seat.me n w.at.peer.core w.at.peer.votes w.at.peer.commits

  nothing : (w : Work) → with_peer w (peer_by slot_digest seat.me [] w.at.peer) [] ≡ w
  nothing w = λ j. record w { doings = append-nil w.doings j }

  pub goes_settled : (n : ℕ) (w : Work) → with_peer w (peer_by slot_digest seat.me (steps_of n w) w.at.peer) (steps_of n w) ≡ goes_by seat n w
  goes_settled zero w = nothing w
  goes_settled (suc n) w = of (next_in seat w) (goes_settled n)
    where
      all : Option OrderStep → List OrderStep
      all o = onward slot_digest bytes_eq goes seat.f seat.me (settled slot_digest bytes_eq goes seat.f seat.me n) w.at.peer.core w.at.peer.votes w.at.peer.commits o

      of : (o : Option OrderStep) → ((u : Work) → with_peer u (peer_by slot_digest seat.me (steps_of n u) u.at.peer) (steps_of n u) ≡ goes_by seat n u)
          → with_peer w (peer_by slot_digest seat.me (all o) w.at.peer) (all o) ≡ by_steps (goes_by seat n) seat.me w o
      of None rest = nothing w
      of (Some step) rest = with_pushed seat.me (steps_of n (takes seat.me step w)) step w ∙ rest (takes seat.me step w)

  pub settle_goes : (w : Work) → settle seat w ≡ goes_by seat (suc (3 * suc seat.k)) w
  settle_goes w = goes_settled (suc (3 * suc seat.k)) w
