-- Whatever a replica is handed, what it executed grows, and what it does are its steps and what a primary says.
use Rattle.std.proofs.Common.{◌≡◌, ℕ, suc, ◌*◌, List, [], ◌∷◌, map, refl, subst, inl, inr}
use Rattle.std.specs.Prelude.{Contains}
use Rattle.std.specs.Str.{bytes_eq}
use Rattle.std.proofs.lemmas.List.Elements.{Contains-append_left, Contains-append_right, Contains-append_cases}
use mathlib.Core.List.{IsPrefix}
use base.Growing.{prefix_refl, prefix_trans}
use Rattle.ab_num.proofs.Lists.{Contains-head, Contains-tail, Contains-none, Contains-one, Contains-map_cases}
use Rattle.ab_msg.specs.declared.value.Value.{Value}
use Rattle.ab_msg.specs.Slots.{slot_digest}
use Rattle.ab_abs.specs.Values.{goes}
use Rattle.ab_lock.specs.Steps.{accepts, signs, prepares, changes, enters, executes, State, after}
use Rattle.ab_lock.specs.ViewChanges.{enter, leave}
use Rattle.ab_lock.specs.Events.{Peer, state_by, settles_by, peer_by, accept, accepted_peer, entered_peer, left_peer, with_vote, with_commit}
use Rattle.ab_order.specs.Inputs.{Reading}
use Rattle.ab_pbft_rules.specs.Traces.{OrderStep}
use Rattle.ab_pbft_rules.specs.Rules.{Placement, Memory, Work, idle, Doing, takes_step, oldest_first, core_of, with_peer, does, work}
use Rattle.ab_pbft_rules.proofs.RuleInduction.{IsSpoken, is_spoken, IsKept, work_kept}

-- what is in a list is in it turned round
turned_in : {A : Type 0} (xs : List A) (y : A) → Contains (oldest_first xs) y → Contains xs y
turned_in [] y has = has
turned_in (x ∷ xs) y has =
    elim (Contains-append_cases (oldest_first xs) (x ∷ []) y has) [
      | inl rest ↦ Contains-tail x y xs (turned_in xs y rest)
      | inr now ↦ subst (λ z. Contains (x ∷ xs) z) (Contains-one x y now) (Contains-head x xs)
    ]

step_grows : (s : State Value) (step : OrderStep) → IsPrefix s.executed (after s step).executed
step_grows s (accepts n value) = prefix_refl s.executed
step_grows s (signs v n x) = prefix_refl s.executed
step_grows s (prepares v h) = prefix_refl s.executed
step_grows s (changes w entries) = prefix_refl s.executed
step_grows s (enters w vcs chosen) = prefix_refl s.executed
step_grows s (executes v n value) = (value ∷ [], refl)

steps_grow : (steps : List OrderStep) (s : State Value) → IsPrefix s.executed (state_by steps s).executed
steps_grow [] s = prefix_refl s.executed
steps_grow (step ∷ steps) s = prefix_trans s.executed (state_by steps s).executed (after (state_by steps s) step).executed (steps_grow steps s) (step_grows (state_by steps s) step)

module _ (seat : Placement) (old : List Value) where
  -- from what was executed it went on, and the steps that it did are its steps
  pub record IsGrown (w : Work) : Type 0 where
    pub grown : IsPrefix old (core_of w).executed
    pub stepped : (step : OrderStep) → Contains w.doings (takes_step step) → Contains w.steps step

  stepped_on : (w : Work) (q : Peer Value (List ℕ)) (steps : List OrderStep) → IsGrown w → IsPrefix (core_of w).executed q.core.executed → IsGrown (with_peer w q steps)
  stepped_on w q steps was p = record {
    grown = prefix_trans old (core_of w).executed q.core.executed was.grown p;
    stepped = λ step has. elim (Contains-append_cases w.doings (map takes_step (oldest_first steps)) (takes_step step) has) [
      | inl before ↦ Contains-append_right steps w.steps step (was.stepped step before)
      | inr now ↦
          let d = Contains-map_cases takes_step (oldest_first steps) (takes_step step) now in
          let same : d.0 ≡ step = cc (d.2) in
          Contains-append_left steps w.steps step (turned_in steps step (subst (λ (z : OrderStep). Contains (oldest_first steps) z) same d.1))
    ];
  }

  spoke : (w : Work) (d : Doing) → IsGrown w → IsSpoken d → IsGrown (does d w)
  spoke w d was spoken = record {
    grown = was.grown;
    stepped = λ step has. elim (Contains-append_cases w.doings (d ∷ []) (takes_step step) has) [
      | inl before ↦ was.stepped step before
      | inr now ↦ absurd (subst (λ (z : Doing). IsSpoken z) (Contains-one d (takes_step step) now) spoken)
    ];
  }

  grows_by : (e : Reading) (start : Work) → IsKept seat e start IsGrown
  grows_by e start = record {
    settles = λ w was.
        let steps = settles_by slot_digest bytes_eq goes seat.f seat.me (suc (3 * suc seat.k)) w.at.peer in
        stepped_on w (peer_by slot_digest seat.me steps w.at.peer) steps was (steps_grow steps (core_of w));
    takes = λ w value was still room on why. stepped_on w (accepted_peer value w.at.peer) (accept (core_of w) value ∷ []) was (prefix_refl (core_of w).executed);
    speaks = λ w d was why. spoke w d was (is_spoken seat e start w d why);
    enters = λ w v vcs was may why. stepped_on w (entered_peer goes seat.k v vcs w.at.peer) (enter goes seat.k v vcs ∷ []) was (prefix_refl (core_of w).executed);
    leaves = λ w v was above why.
        let left = stepped_on w (left_peer slot_digest seat.k v w.at.peer) (leave slot_digest seat.k (core_of w) v ∷ []) was (prefix_refl (core_of w).executed) in
        record { grown = left.grown; stepped = left.stepped };
    keeps_request = λ m is was. record { grown = was.grown; stepped = was.stepped };
    keeps_change = λ change is fit was. record { grown = was.grown; stepped = was.stepped };
    keeps_vote = λ by slot x is was. stepped_on start (with_vote (record { by = by; slot = slot; x = x }) start.at.peer) [] was (prefix_refl (core_of start).executed);
    keeps_commit = λ by slot x is was. stepped_on start (with_commit (record { by = by; slot = slot; x = x }) start.at.peer) [] was (prefix_refl (core_of start).executed);
  }

-- an event of a replica
pub event_grows : (seat : Placement) (memory : Memory) (e : Reading) → IsGrown seat memory.peer.core.executed (work seat e (idle memory))
event_grows seat memory e =
    work_kept seat e (idle memory) (IsGrown seat memory.peer.core.executed) (grows_by seat memory.peer.core.executed e (idle memory))
    (record { grown = prefix_refl memory.peer.core.executed; stepped = λ step has. absurd (Contains-none _ has) })
