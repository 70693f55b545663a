-- A replica enters an instance only by a message that brings a certificate.
use Rattle.std.proofs.Common.{◌≡◌, ℕ, Bool, true, false, Option, None, Some, List, [], ◌∷◌, ◌++◌, length, refl, ◌∙◌, true≢false}
use Rattle.std.specs.Prelude.{◌==◌, nat_lt, if◌then◌else◌, is_some}
use Rattle.ab_ckpt.specs.Marks.{Mark, due_of, stable_of}
use Rattle.ab_msg.specs.declared.content.Content.{Content}
use Rattle.ab_msg.specs.declared.signed.Signed.{Signed}
use Rattle.ab_msg.specs.declared.message.Msg.{Msg}
use Rattle.ab_msg.specs.declared.message.Msg.TheVariants as msg
use Rattle.ab_msg.specs.Claims.{maker_of, instance_in}
use Rattle.ab_abs.specs.Ensembles.{Proto}
use Rattle.ab_abs.specs.Messages.{took, timed}
use Rattle.ab_run.specs.Setups.{RunSetup, replicas}
use Rattle.ab_run.specs.Checkpoints.{every_in, mark_in}
use Rattle.ab_run.specs.Replicas.{Rep, RepAction, turn_call, turn_halt, turn_mark, turn_keep, state_at, after_turn, after_turns, aborting, aborting_with, brought, client_of, closed, closing, due, due_by, halting, here, is_spent, keeping, keeping_with, late, marking, taken_in, trimming, trims_with}
use Rattle.ab_run.specs.Local.{rep_after}
use Rattle.ab_world.specs.Left.{brings}

module _ {P : Type 0} (k : RunSetup) (proto : Proto P) (r : ℕ) where
  -- these turns leave a replica in its instance
  abbrev StaysIn : List RepAction → Type 0
  StaysIn ts = (s : Rep P) → (after_turns k proto r s ts).at ≡ s.at

  either : (b : Bool) (ts us : List RepAction) → StaysIn ts → StaysIn us → StaysIn (if b then ts else us)
  either true ts us one other = one
  either false ts us one other = other

  aborting_stays : (c : ℕ) (o : Option Signed) → StaysIn (aborting_with c o)
  aborting_stays c None = λ s. refl
  aborting_stays c (Some abort) = λ s. refl

  late_stays : (m : Msg) → StaysIn (late m)
  late_stays (msg.Req content tags) = λ s. refl
  late_stays (msg.Panic content tag) = λ s. refl
  late_stays _ = λ s. refl

  halting_stays : (c : ℕ) (s : Rep P) → StaysIn (halting k proto c s)
  halting_stays c s =
      let due = aborting k proto c s in
      let stopped = (proto.state (proto.halt s.value)).stopped in
      let all = aborting_stays c s.abort in
      either (state_at k proto s).stopped due (turn_halt ∷ (if stopped then due else [])) all (λ t. either stopped due [] all (λ u. refl) (after_turn k proto r t turn_halt))

  -- so do more of them
  join_stays : (ts us : List RepAction) → StaysIn ts → StaysIn us → StaysIn (ts ++ us)
  join_stays ts us first more = λ s. more_turns ts us s ∙ (more (after_turns k proto r s ts) ∙ first s) where
    more_turns : (ts us : List RepAction) (s : Rep P) → (after_turns k proto r s (ts ++ us)).at ≡ (after_turns k proto r (after_turns k proto r s ts) us).at
    more_turns [] us s = refl
    more_turns (t ∷ ts) us s = more_turns ts us (after_turn k proto r s t)

  trims_stay : (o : Option ℕ) → StaysIn (trims_with k proto o)
  trims_stay None = λ s. refl
  trims_stay (Some n) = λ s. refl

  trimming_stays : (s : Rep P) → StaysIn (trimming k proto s)
  trimming_stays s = trims_stay (stable_of (replicas k) (proto.trimmed s.value) (state_at k proto s).log s.kept.marks)

  kept_stays : (s : Rep P) (o : Option Mark) → StaysIn (keeping_with k proto r s o)
  kept_stays s None = λ t. refl
  kept_stays s (Some v) = λ t. trimming_stays (after_turn k proto r s (turn_keep v)) (after_turn k proto r t (turn_keep v))

  keeping_stays : (s : Rep P) (content : Content) → StaysIn (keeping k proto r s content)
  keeping_stays s content = either (state_at k proto s).stopped [] (keeping_with k proto r s (mark_in content)) (λ t. refl) (kept_stays s (mark_in content))

  marking_stays : (s : Rep P) (o : Option ℕ) → StaysIn (marking k proto r s o)
  marking_stays s None = λ t. refl
  marking_stays s (Some n) = λ t. trimming_stays (after_turn k proto r s (turn_mark n)) (after_turn k proto r t (turn_mark n))

  closing_stays : (s : Rep P) → StaysIn (closing k proto r s)
  closing_stays s = marking_stays s (due_of (every_in k s.at) (state_at k proto s).stopped s.kept.sent (proto.trimmed s.value) (length (state_at k proto s).log))

  closed_stays : (s : Rep P) (ts : List RepAction) → StaysIn ts → StaysIn (closed k proto r s ts)
  closed_stays s ts stays = let now = after_turns k proto r s ts in join_stays ts (closing k proto r now) stays (closing_stays now)

  here_stays : (s : Rep P) (m : Msg) → StaysIn (here k proto r s m)
  here_stays s (msg.Req content tags) =
      let c = client_of (maker_of content) in
      either (state_at k proto s).stopped (aborting k proto c s) (turn_call (took (msg.Req content tags)) ∷ []) (aborting_stays c s.abort) (λ t. refl)
  here_stays s (msg.Panic content tag) = halting_stays (client_of (maker_of content)) s
  here_stays s (msg.Checkpoint content tag) = keeping_stays s content
  here_stays s _ = λ t. refl

  taken_stays : (s : Rep P) (m : Msg) (o : Option ℕ) → StaysIn (taken_in k proto r s m o)
  taken_stays s m None = λ t. refl
  taken_stays s m (Some i) =
      either (i == s.at) (here k proto r s m) (if nat_lt i s.at then late m else []) (here_stays s m) (either (nat_lt i s.at) (late m) [] (late_stays m) (λ t. refl))

  due_stays : (s : Rep P) (m : Msg) (o : Option (List Signed)) → is_some o ≡ false → StaysIn (due_by k proto r s m o)
  due_stays s m None none = taken_stays s m (instance_in m)
  due_stays s m (Some cert) none = absurd (true≢false none)

  pub stays_without : (s : Rep P) (m : Msg) → brings m ≡ false → (rep_after k proto r s (took m)).at ≡ s.at
  stays_without s m none =
      let ts = due k proto r s (took m) in
      either (is_spent k proto r s (took m)) [] (closed k proto r s ts) (λ t. refl) (closed_stays s ts (due_stays s m (brought m) none)) s

  pub stays_timed : (s : Rep P) → (rep_after k proto r s timed).at ≡ s.at
  stays_timed s =
      let ts : List RepAction = turn_call timed ∷ [] in
      either (is_spent k proto r s timed) [] (closed k proto r s ts) (λ t. refl) (closed_stays s ts (λ t. refl)) s
