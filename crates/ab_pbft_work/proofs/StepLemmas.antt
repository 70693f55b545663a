-- Whether a turn took a step, and where its steps lead.
use Rattle.std.proofs.Common.{◌≡◌, ℕ, suc, ◌+◌, ◌*◌, ◌-◌, ◌<◌, ◌≤◌, Bool, true, false, Option, Some, None, length, refl, sym, ap, ◌∙◌, subst, arith}
use Rattle.std.specs.Prelude.{slice_get}
use Rattle.std.specs.Option.{option_map}
use Rattle.std.specs.Str.{bytes_eq}
use Rattle.ab_num.proofs.Lists.{slice_get_there}
use Rattle.ab_msg.specs.declared.value.Value.{Value}
use Rattle.ab_msg.specs.Slots.{slot_digest}
use Rattle.ab_abs.specs.Values.{goes}
use Rattle.ab_lock.specs.Steps.{executes}
use Rattle.ab_lock.specs.Votes.{or_else, next_sign, next_prepare, next_execute}
use Rattle.ab_pbft_rules.specs.Traces.{OrderStep}
use Rattle.ab_pbft_rules.specs.Rules.{Placement, Memory, Work, settle}
use Rattle.ab_pbft_work.specs.declared.progress.Progress.{Progress}
use Rattle.ab_pbft_work.specs.Turns.{memory_of, Shows, Does, Went, takes, next_in, next_on, by_steps, goes_by}
use Rattle.ab_pbft_work.proofs.SettleLemmas.{settle_goes}

abbrev sign_at : Memory → Option OrderStep
sign_at m = next_sign slot_digest m.peer.core

abbrev prepare_at : Placement → Memory → Option OrderStep
prepare_at seat m = next_prepare slot_digest bytes_eq seat.f m.peer.core m.peer.votes

abbrev execute_at : Placement → Memory → Option OrderStep
execute_at seat m = next_execute slot_digest bytes_eq goes seat.f m.peer.core m.peer.commits

module _ (seat : Placement) (old new : Progress) where
  abbrev m : Memory
  m = memory_of old.memory

  pub sign_went : (step : OrderStep) → sign_at m ≡ Some step → Does old new (takes seat.me step) → (w : Work) → Shows old w → Went seat true new w (next_in seat w)
  sign_went step is does w shows =
      let e : next_in seat w ≡ Some step = ap (λ n. or_else (sign_at n) (or_else (prepare_at seat n) (execute_at seat n))) (sym shows.at) ∙ ap (λ o. or_else o (or_else (prepare_at seat m) (execute_at seat m))) is in
      subst (λ o. Went seat true new w o) (sym e) (refl, does w shows)

  pub later_went : (went : Bool) → sign_at m ≡ None → ((w : Work) → Shows old w → Went seat went new w (next_on seat w)) → (w : Work) → Shows old w → Went seat went new w (next_in seat w)
  later_went went none on w shows =
      let e : next_in seat w ≡ next_on seat w = ap (λ o. or_else o (next_on seat w)) (ap sign_at (sym shows.at) ∙ none) in
      subst (λ o. Went seat went new w o) (sym e) (on w shows)

  pub prepare_went : (step : OrderStep) → prepare_at seat m ≡ Some step → Does old new (takes seat.me step) → (w : Work) → Shows old w → Went seat true new w (next_on seat w)
  prepare_went step is does w shows =
      let e : next_on seat w ≡ Some step = ap (λ n. or_else (prepare_at seat n) (execute_at seat n)) (sym shows.at) ∙ ap (λ o. or_else o (execute_at seat m)) is in
      subst (λ o. Went seat true new w o) (sym e) (refl, does w shows)

  pub execute_went : prepare_at seat m ≡ None → length m.peer.core.executed < length m.peer.core.accepted
      → execute_at seat m ≡ option_map (λ v. executes m.peer.core.view (length m.peer.core.executed) v) (slice_get m.peer.core.accepted (length m.peer.core.executed))
      → ((v : Value) (me : ℕ) → slice_get m.peer.core.accepted (length m.peer.core.executed) ≡ Some v → Does old new (takes me (executes m.peer.core.view (length m.peer.core.executed) v)))
      → (w : Work) → Shows old w → Went seat true new w (next_on seat w)
  execute_went none lt is does w shows =
      let there = slice_get_there m.peer.core.accepted (length m.peer.core.executed) lt in
      let step : OrderStep = executes m.peer.core.view (length m.peer.core.executed) there.0 in
      let now : execute_at seat m ≡ Some step = is ∙ ap (λ o. option_map (λ v. executes m.peer.core.view (length m.peer.core.executed) v) o) there.1 in
      let e : next_on seat w ≡ Some step = ap (λ n. or_else (prepare_at seat n) (execute_at seat n)) (sym shows.at) ∙ (ap (λ o. or_else o (execute_at seat m)) none ∙ now) in
      subst (λ o. Went seat true new w o) (sym e) (refl, does there.0 seat.me there.1 w shows)

pub none_went : (seat : Placement) (old : Progress) → prepare_at seat (memory_of old.memory) ≡ None → execute_at seat (memory_of old.memory) ≡ None → (w : Work) → Shows old w → Went seat false old w (next_on seat w)
none_went seat old none no_more w shows =
    let e : next_on seat w ≡ None = ap (λ n. or_else (prepare_at seat n) (execute_at seat n)) (sym shows.at) ∙ (ap (λ o. or_else o (execute_at seat (memory_of old.memory))) none ∙ no_more) in
    subst (λ o. Went seat false old w o) (sym e) (refl, shows)

-- ---- many steps

-- after n of at most most steps
abbrev pub GoesOn : Placement → ℕ → ℕ → Progress → Progress → Type 0
GoesOn seat most n old new = (w : Work) → Shows old w → (u : Work) × Shows new u × (goes_by seat most w ≡ goes_by seat (most - n) u)

module _ (seat : Placement) where
  pub steps_begin : (most : ℕ) (old : Progress) → GoesOn seat most 0 old old
  steps_begin most old w shows = let e : most ≡ most - 0 = omega arith in (w, shows, ap (λ n. goes_by seat n w) e)

  moved : (new : Progress) (u : Work) (o : Option OrderStep) → Went seat true new u o → (n : ℕ) → (v : Work) × Shows new v × (by_steps (goes_by seat n) seat.me u o ≡ goes_by seat n v)
  moved new u None went n = let e : true ≡ false = went.0 in absurd (cc e)
  moved new u (Some step) went n = (takes seat.me step u, went.1, refl)

  stayed : (new : Progress) (u : Work) (o : Option OrderStep) → Went seat false new u o → (n : ℕ) → Shows new u × (by_steps (goes_by seat n) seat.me u o ≡ u)
  stayed new u None went n = (went.1, refl)
  stayed new u (Some step) went n = let e : false ≡ true = went.0 in absurd (cc e)

  pub steps_more : (most n : ℕ) (old mid new : Progress) → n < most → GoesOn seat most n old mid → ((w : Work) → Shows mid w → Went seat true new w (next_in seat w)) → GoesOn seat most (n + 1) old new
  steps_more most n old mid new lt so_far went w shows =
      let at = so_far w shows in
      let next = moved new at.0 (next_in seat at.0) (went at.0 at.1) (most - (n + 1)) in
      let e : most - n ≡ suc (most - (n + 1)) = omega arith in
      (next.0, next.1, at.2 ∙ (ap (λ k. goes_by seat k at.0) e ∙ next.2))

  whole : (most : ℕ) → most ≡ 3 * (seat.k + 1) + 1 → (w : Work) → settle seat w ≡ goes_by seat most w
  whole most is w = let e : suc (3 * suc seat.k) ≡ most = omega arith in settle_goes seat w ∙ ap (λ n. goes_by seat n w) e

  pub steps_stop : (most n : ℕ) (old mid new : Progress) → most ≡ 3 * (seat.k + 1) + 1 → n < most → GoesOn seat most n old mid → ((w : Work) → Shows mid w → Went seat false new w (next_in seat w)) → Does old new (settle seat)
  steps_stop most n old mid new is lt so_far went w shows =
      let at = so_far w shows in
      let end = stayed new at.0 (next_in seat at.0) (went at.0 at.1) (most - (n + 1)) in
      let e : most - n ≡ suc (most - (n + 1)) = omega arith in
      subst (λ u. Shows new u) (sym (whole most is w ∙ (at.2 ∙ (ap (λ k. goes_by seat k at.0) e ∙ end.1)))) end.0

  pub steps_end : (most n : ℕ) (old new : Progress) → most ≡ 3 * (seat.k + 1) + 1 → most ≤ n → GoesOn seat most n old new → Does old new (settle seat)
  steps_end most n old new is le so_far w shows =
      let at = so_far w shows in
      let e : most - n ≡ 0 = omega arith in
      subst (λ u. Shows new u) (sym (whole most is w ∙ (at.2 ∙ ap (λ k. goes_by seat k at.0) e))) at.1
