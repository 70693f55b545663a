-- With each view that a replica leaves, its view rises.
use Rattle.std.proofs.Common.{◌≡◌, ℕ, suc, pred, ◌+◌, ◌*◌, ◌≤◌, Option, Some, None, List, [], ◌∷◌, ◌++◌, length, map, refl, ap, ◌∙◌, inl, inr, arith}
use Rattle.std.specs.Prelude.{Contains, cond, slice_get}
use Rattle.std.specs.Str.{bytes_eq}
use Rattle.std.proofs.lemmas.Grind.{flat_map-append}
use Rattle.std.proofs.lemmas.List.{map-append}
use Rattle.std.proofs.lemmas.List.Sums.{sum_by-append}
use Rattle.ab_num.proofs.Lists.{Contains-head, Contains-tail}
use Rattle.ab_msg.specs.declared.value.Value.{Value}
use Rattle.ab_msg.specs.Slots.{slot_digest}
use Rattle.ab_abs.specs.Values.{goes}
use Rattle.ab_lock.specs.Steps.{accepts, signs, prepares, changes, enters, executes, State, after}
use Rattle.ab_lock.specs.ViewChanges.{enter, leave}
use Rattle.ab_lock.specs.Events.{state_by, settles_by, accept}
use Rattle.ab_lock.proofs.VoteLemmas.{IsInView, settled_in_view}
use Rattle.ab_order.specs.Inputs.{Reading}
use Rattle.ab_pbft_rules.specs.Traces.{OrderStep}
use Rattle.ab_pbft_rules.specs.Rules.{Doing, takes_step, offers, leads, oldest_first, Placement, Work, core_of, settle, idle, Pbft, done_by}
use Rattle.ab_pbft_rules.proofs.RuleInduction.{IsSpoken, is_spoken, IsKept, work_kept}
use Rattle.ab_slots.specs.Deeds.{prepared_in, deeds_of, told_in}
use Rattle.ab_pbft_shelf.specs.Signing.{is_leaving, leavings}

-- ---- how often it left in what it did

abbrev left_in : List Doing → ℕ
left_in doings = leavings (told_in doings)

left_in-append : (xs ys : List Doing) → left_in (xs ++ ys) ≡ left_in xs + left_in ys
left_in-append xs ys = ap leavings (flat_map-append deeds_of xs ys) ∙ sum_by-append (λ d. cond (is_leaving d) 1 0) (told_in xs) (told_in ys)

prepared_none : (v n : ℕ) (o : Option Value) → leavings (prepared_in v n o ++ []) ≡ 0
prepared_none v n None = refl
prepared_none v n (Some value) = refl

in_view_none : (step : OrderStep) → IsInView step → left_in (takes_step step ∷ []) ≡ 0
in_view_none (accepts n value) here = absurd here
in_view_none (signs v n x) here = refl
in_view_none (prepares v h) here = prepared_none v (pred (length h)) (slice_get h (pred (length h)))
in_view_none (changes w entries) here = absurd here
in_view_none (enters w vcs chosen) here = absurd here
in_view_none (executes v n value) here = refl

spoken_none : (d : Doing) → IsSpoken d → left_in (d ∷ []) ≡ 0
spoken_none (takes_step step) said = absurd said
spoken_none (offers v n value) said = refl
spoken_none (leads v) said = refl

same_view : (s : State Value) (step : OrderStep) → IsInView step → (after s step).view ≡ s.view
same_view s (accepts n value) here = absurd here
same_view s (signs v n x) here = refl
same_view s (prepares v h) here = refl
same_view s (changes w entries) here = absurd here
same_view s (enters w vcs chosen) here = absurd here
same_view s (executes v n value) here = refl

-- ---- going on by itself it leaves none

abbrev AreInView : List OrderStep → Type 0
AreInView steps = (step : OrderStep) → Contains steps step → IsInView step

rest_in_view : (step : OrderStep) (steps : List OrderStep) → AreInView (step ∷ steps) → AreInView steps
rest_in_view step steps each other has = each other (Contains-tail step other steps has)

none_left : (steps : List OrderStep) → AreInView steps → left_in (map takes_step (oldest_first steps)) ≡ 0
none_left [] each = refl
none_left (step ∷ steps) each =
    let before = none_left steps (rest_in_view step steps each) in
    let last = in_view_none step (each step (Contains-head step steps)) in
    let both = left_in-append (map takes_step (oldest_first steps)) (takes_step step ∷ []) in
    ap left_in (map-append takes_step (oldest_first steps) (step ∷ [])) ∙ omega (arith, before, last, both)

view_stays : (steps : List OrderStep) (s : State Value) → AreInView steps → (state_by steps s).view ≡ s.view
view_stays [] s each = refl
view_stays (step ∷ steps) s each =
    same_view (state_by steps s) step (each step (Contains-head step steps)) ∙ view_stays steps s (rest_in_view step steps each)

-- ---- each rule

module _ (seat : Placement) (e : Reading) (start : Work) (first : ℕ) where
  -- the view is at least the first one with one for each that was left
  abbrev Rises : Work → Type 0
  Rises w = first + left_in w.doings ≤ (core_of w).view

  rises : (w : Work) (more : List Doing) (n view : ℕ) → left_in more ≡ n → Rises w → (core_of w).view + n ≤ view → first + left_in (w.doings ++ more) ≤ view
  rises w more n view is was up = omega (arith, left_in-append w.doings more, is, was, up)

  settles_on : (w : Work) → Rises w → Rises (settle seat w)
  settles_on w was =
      let steps = settles_by slot_digest bytes_eq goes seat.f seat.me (suc (3 * suc seat.k)) w.at.peer in
      let p = w.at.peer in
      let each : AreInView steps = λ step has. settled_in_view slot_digest bytes_eq goes seat.f seat.me (suc (3 * suc seat.k)) p.core p.votes p.commits step has in
      rises w (map takes_step (oldest_first steps)) 0 (state_by steps p.core).view (none_left steps each) was (omega (arith, view_stays steps p.core each))

  kept : IsKept seat e start Rises
  kept = record {
    settles = settles_on;
    takes = λ w value was still room on why. rises w (takes_step (accept (core_of w) value) ∷ []) 0 (core_of w).view refl was (omega arith);
    speaks = λ w d was why. rises w (d ∷ []) 0 (core_of w).view (spoken_none d (is_spoken seat e start w d why)) was (omega arith);
    enters = λ w v vcs was may why. rises w (takes_step (enter goes seat.k v vcs) ∷ []) 0 v refl was (elim may [ inl above ↦ omega (arith, above) | inr same ↦ omega (arith, same.0) ]);
    leaves = λ w v was above why. rises w (takes_step (leave slot_digest seat.k (core_of w) v) ∷ []) 1 v refl was (omega (arith, above));
    keeps_request = λ m is was. was;
    keeps_change = λ change is fit was. was;
    keeps_vote = λ by slot x is was. rises start [] 0 (core_of start).view refl was (omega arith);
    keeps_commit = λ by slot x is was. rises start [] 0 (core_of start).view refl was (omega arith);
  }

-- in an event
pub views_rise : (q : Pbft) (e : Reading) → q.memory.peer.core.view + left_in (done_by q e).doings ≤ (done_by q e).at.peer.core.view
views_rise q e =
    let start = idle q.memory in
    let first = q.memory.peer.core.view in
    work_kept q.seat e start (Rises q.seat e start first) (kept q.seat e start first) (omega arith)
