-- What is looked at in an event is what the run then has.
use Rattle.std.proofs.Common.{◌≡◌, ℕ, ◌+◌, ◌<◌, ◌≤◌, ◌⊎◌, true, false, Bool, Some, None, Option, List, [], ◌∷◌, ◌++◌, length, refl, sym, ap, ◌∙◌, subst, inl, inr, arith, append-nil, true≢false}
use Rattle.std.specs.Prelude.{Contains, flat_map, nat_le, nat_lt, ◌==◌, ◌&&◌, if◌then◌else◌}
use mathlib.Core.List.{IsPrefix}
use Rattle.std.proofs.lemmas.Bool.{cases_Bool, cases_eq, and_parts, eq-eqb, eqb-true, leb-true, ltb-true}
use Rattle.std.proofs.lemmas.Grind.{flat_map-append}
use Rattle.std.proofs.lemmas.List.Elements.{Contains-append_left, Contains-append_right, Contains-append_cases}
use Rattle.ab_num.specs.declared.party.Party.{Party}
use Rattle.ab_num.specs.declared.plan.Kind.{Kind}
use Rattle.ab_num.specs.declared.party.Party.TheVariants.{Replica, Client}
use Rattle.ab_num.proofs.Lists.{Contains-cons_cases, Contains-head}
use Rattle.ab_hist.specs.declared.request.Request.{Request}
use Rattle.ab_hist.specs.Trimmed.{Trimmed}
use Rattle.ab_msg.specs.declared.signed.Signed.{Signed}
use Rattle.ab_msg.specs.declared.message.Msg.{Msg}
use Rattle.ab_msg.specs.declared.message.Msg.TheVariants as msg
use Rattle.ab_msg.specs.Claims.{instance_in, maker_of}
use Rattle.ab_abs.specs.Faults.{is_faulty}
use Rattle.ab_abs.specs.Acts.{State, with_first}
use Rattle.ab_abs.specs.Messages.{Call, took, timed}
use Rattle.ab_abs.specs.Ensembles.{Proto, trimmed_entry}
use Rattle.ab_stable.specs.Offers.{Based}
use Rattle.ab_abs.specs.FormLaws.{KeepsForm}
use Rattle.ab_abs.proofs.Prefixes.{prefix_is_take}
use Rattle.ab_links.specs.Links.{Continues}
use Rattle.ab_links.specs.Digested.{Item, history, item_histories, item_lists, item_requests, histories_of, lists_of, requests_of, BeginsIn}
use Rattle.ab_links.proofs.ListLemmas.{HasSame, Contains-tail}
use Rattle.ab_ckpt.specs.Marks.{Mark, due_of, stable_of}
use Rattle.ab_msg.specs.declared.content.Content.{Content}
use Rattle.ab_run.specs.Setups.{RunSetup, replicas, last_instance}
use Rattle.ab_run.specs.Checkpoints.{every_in, mark_in}
use Rattle.ab_run.specs.Replicas.{Rep, RepAction, turn_enter, turn_call, turn_halt, turn_sign, turn_bring, turn_abort, turn_mark, turn_keep, turn_trim, offer_to, may_begin, state_at, pen_of, after_turn, after_turns, client_of, cert_instance, brought, aborting, aborting_with, halting, trims_with, trimming, keeping_with, keeping, late, here, taken, taken_in, due, due_by, due_with, is_spent, marking, closing, closed, turns}
use Rattle.ab_run.specs.Runs.{Event, invoke, to_replica, to_client, replica_time, client_time, Run, step, start, had_at, histories_for, lists_for, requests_for}
use Rattle.ab_run.specs.Local.{rep_after, cue_command, cue_message, cue_time, Cue}
use Rattle.ab_run.specs.Stages.{had_in_turns, had_in_call, call_histories, call_lists, call_requests}
use Rattle.ab_run.proofs.Effects.{at_call, at_cue, called, reps_apart}
use Rattle.ab_run.proofs.Shown.{grown, followed}
use Rattle.ab_premise.specs.Collisions.{checked_items, entered_items, first_items, known_of, state_items, call_items, client_items, items_of}
use Rattle.ab_premise.proofs.Holds.{Holds, holds_nothing, both_hold, message_holds, first_holds}

-- ---- the turns of an event

-- turns that leave the state where it is
pub data IsQuiet : RepAction → Type 0 where
  signs : IsQuiet turn_sign
  brings : (c : ℕ) → IsQuiet (turn_bring c)
  aborts : (c : ℕ) → IsQuiet (turn_abort c)
  marks : (n : ℕ) → IsQuiet (turn_mark n)
  keeps : (v : Mark) → IsQuiet (turn_keep v)
  trims : (n : ℕ) → IsQuiet (turn_trim n)

abbrev pub AllQuiet : List RepAction → Type 0
AllQuiet [] = Unit {0}
AllQuiet (t ∷ ts) = IsQuiet t × AllQuiet ts

-- in one instance the state stays, or the value takes one call or is stopped, and then stays
pub data IsCalm : List RepAction → Type 0 where
  still : (ts : List RepAction) → AllQuiet ts → IsCalm ts
  once : (call : Call) (ts : List RepAction) → AllQuiet ts → IsCalm (turn_call call ∷ ts)
  stops : (ts : List RepAction) → AllQuiet ts → IsCalm (turn_halt ∷ ts)

-- the same, in the instance where a replica is or in a later one that it enters first
pub data IsCalmFrom {P : Type 0} (s : Rep P) : List RepAction → Type 0 where
  stays : (ts : List RepAction) → IsCalm ts → IsCalmFrom s ts
  enters : (j : ℕ) (cert : List Signed) (n : ℕ) (h : List Request) (ts : List RepAction) → s.at ≤ j → IsCalm ts → IsCalmFrom s (turn_enter j cert n h ∷ ts)

calm_if : (b : Bool) (ts us : List RepAction) → IsCalm ts → IsCalm us → IsCalm (if b then ts else us)
calm_if true ts us one other = one
calm_if false ts us one other = other

aborting_quiet : (c : ℕ) (o : Option Signed) → AllQuiet (aborting_with c o)
aborting_quiet c None = (signs, (aborts c, tt))
aborting_quiet c (Some abort) = (aborts c, tt)

quiet_if : (b : Bool) (ts : List RepAction) → AllQuiet ts → AllQuiet (if b then ts else [])
quiet_if true ts all = all
quiet_if false ts all = tt

quiet_unless : (b : Bool) (ts : List RepAction) → AllQuiet ts → AllQuiet (if b then [] else ts)
quiet_unless true ts all = tt
quiet_unless false ts all = all

-- quiet turns that follow change nothing of it
quiet_join : (ts us : List RepAction) → AllQuiet ts → AllQuiet us → AllQuiet (ts ++ us)
quiet_join [] us all more = more
quiet_join (t ∷ ts) us all more = (all.0, quiet_join ts us all.1 more)

calm_join : (ts us : List RepAction) → IsCalm ts → AllQuiet us → IsCalm (ts ++ us)
calm_join ts us (still _ all) more = still (ts ++ us) (quiet_join ts us all more)
calm_join _ us (once call ts all) more = once call (ts ++ us) (quiet_join ts us all more)
calm_join _ us (stops ts all) more = stops (ts ++ us) (quiet_join ts us all more)

from_join : {P : Type 0} (s : Rep P) (ts us : List RepAction) → IsCalmFrom s ts → AllQuiet us → IsCalmFrom s (ts ++ us)
from_join s ts us (stays _ calm) more = stays (ts ++ us) (calm_join ts us calm more)
from_join s _ us (enters j cert n h ts le calm) more = enters j cert n h (ts ++ us) le (calm_join ts us calm more)

module _ {P : Type 0} (k : RunSetup) (proto : Proto P) where
  halting_calm : (c : ℕ) (s : Rep P) → IsCalm (halting k proto c s)
  halting_calm c s =
      let due = aborting k proto c s in
      let after = (proto.state (proto.halt s.value)).stopped in
      let quiet = aborting_quiet c s.abort in
      calm_if (state_at k proto s).stopped due (turn_halt ∷ (if after then due else [])) (still due quiet) (stops (if after then due else []) (quiet_if after due quiet))

  trims_quiet : (o : Option ℕ) → AllQuiet (trims_with k proto o)
  trims_quiet None = tt
  trims_quiet (Some n) = (trims n, tt)

  trimming_quiet : (s : Rep P) → AllQuiet (trimming k proto s)
  trimming_quiet s = trims_quiet (stable_of (replicas k) (proto.trimmed s.value) (state_at k proto s).log s.kept.marks)

  kept_quiet : (r : ℕ) (s : Rep P) (o : Option Mark) → AllQuiet (keeping_with k proto r s o)
  kept_quiet r s None = tt
  kept_quiet r s (Some v) = (keeps v, trimming_quiet (after_turn k proto r s (turn_keep v)))

  keeping_quiet : (r : ℕ) (s : Rep P) (content : Content) → AllQuiet (keeping k proto r s content)
  keeping_quiet r s content = quiet_unless (state_at k proto s).stopped (keeping_with k proto r s (mark_in content)) (kept_quiet r s (mark_in content))

  marking_quiet : (r : ℕ) (s : Rep P) (o : Option ℕ) → AllQuiet (marking k proto r s o)
  marking_quiet r s None = tt
  marking_quiet r s (Some n) = (marks n, trimming_quiet (after_turn k proto r s (turn_mark n)))

  closing_quiet : (r : ℕ) (s : Rep P) → AllQuiet (closing k proto r s)
  closing_quiet r s = marking_quiet r s (due_of (every_in k s.at) (state_at k proto s).stopped s.kept.sent (proto.trimmed s.value) (length (state_at k proto s).log))

  here_calm : (r : ℕ) (s : Rep P) (m : Msg) → IsCalm (here k proto r s m)
  here_calm r s (msg.Req content tags) =
      let c = client_of (maker_of content) in
      calm_if (state_at k proto s).stopped (aborting k proto c s) (turn_call (took (msg.Req content tags)) ∷ []) (still (aborting k proto c s) (aborting_quiet c s.abort)) (once (took (msg.Req content tags)) [] tt)
  here_calm r s (msg.Panic content tag) = halting_calm (client_of (maker_of content)) s
  here_calm r s (msg.Checkpoint content tag) = still (keeping k proto r s content) (keeping_quiet r s content)
  here_calm r s (msg.LocalCommit content tag) = still [] tt
  here_calm r s (msg.Spec spec) = still [] tt
  here_calm r s _ = once (took _) [] tt

  late_calm : (m : Msg) → IsCalm (late m)
  late_calm (msg.Req content tags) = still (turn_bring (client_of (maker_of content)) ∷ []) (brings (client_of (maker_of content)), tt)
  late_calm (msg.Panic content tag) = still (turn_bring (client_of (maker_of content)) ∷ []) (brings (client_of (maker_of content)), tt)
  late_calm _ = still [] tt

  taken_calm : (r : ℕ) (s : Rep P) (m : Msg) (i : Option ℕ) → IsCalm (taken_in k proto r s m i)
  taken_calm r s m None = still [] tt
  taken_calm r s m (Some i) =
      calm_if (i == s.at) (here k proto r s m) (if nat_lt i s.at then late m else []) (here_calm r s m) (calm_if (nat_lt i s.at) (late m) [] (late_calm m) (still [] tt))

  calm_there : (r : ℕ) (s : Rep P) (m : Msg) → IsCalmFrom s (taken k proto r s m)
  calm_there r s m = stays (taken k proto r s m) (taken_calm r s m (instance_in m))

  entering_calm : (r : ℕ) (s : Rep P) (m : Msg) (j : ℕ) (cert : List Signed) (o : Option Based) → IsCalmFrom s (due_with k proto r s m j cert o)
  entering_calm r s m j cert None = calm_there r s m
  entering_calm r s m j cert (Some b) =
      let t = turn_enter j cert b.trimmed b.base in
      let there = after_turn k proto r s t in
      let rest = nat_lt j last_instance && may_begin k proto (j + 1) b.trimmed in
      elim (cases_Bool (nat_le s.at j && rest)) [
        | inl goes ↦
            subst (IsCalmFrom s) (sym (ap (λ (z : Bool). if z then t ∷ taken k proto r there m else taken k proto r s m) goes))
            (enters j cert b.trimmed b.base (taken k proto r there m) (leb-true s.at j (and_parts (nat_le s.at j) rest goes).0) (taken_calm r there m (instance_in m)))
        | inr rests ↦ subst (IsCalmFrom s) (sym (ap (λ (z : Bool). if z then t ∷ taken k proto r there m else taken k proto r s m) rests)) (calm_there r s m)
      ]

  by_calm : (r : ℕ) (s : Rep P) (m : Msg) (o : Option (List Signed)) → IsCalmFrom s (due_by k proto r s m o)
  by_calm r s m None = calm_there r s m
  by_calm r s m (Some cert) = entering_calm r s m (cert_instance cert) cert (offer_to k proto s (cert_instance cert) cert)

  pub due_calm : (r : ℕ) (s : Rep P) (call : Call) → IsCalmFrom s (due k proto r s call)
  due_calm r s (took m) = by_calm r s m (brought m)
  due_calm r s timed = stays (turn_call timed ∷ []) (once timed [] tt)

  from_if : (s : Rep P) (b : Bool) (ts : List RepAction) → IsCalmFrom s ts → IsCalmFrom s (if b then [] else ts)
  from_if s true ts calm = stays [] (still [] tt)
  from_if s false ts calm = calm

  pub turns_calm : (r : ℕ) (s : Rep P) (call : Call) → IsCalmFrom s (turns k proto r s call)
  turns_calm r s call =
      let ts = due k proto r s call in
      let now = after_turns k proto r s ts in
      from_if s (is_spent k proto r s call) (closed k proto r s ts) (from_join s ts (closing k proto r now) (due_calm r s call) (closing_quiet r now))

  -- a replica went from s to now, and had these on the way
  record Went (s now : Rep P) (had : List (List Request)) : Type 0 where
    entered : (s.at == now.at) ≡ true → (state_at k proto now).entered ≡ (state_at k proto s).entered
    grows : (s.at == now.at) ≡ true → IsPrefix (state_at k proto s).log (state_at k proto now).log
    based : (s.at == now.at) ≡ false → now.entry.base ≡ (state_at k proto now).entered
    each : (h : List Request) → Contains had h → (Contains (had_at (state_at k proto s)) h ⊎ Contains (had_at (state_at k proto now)) h) ⊎ (h ≡ [])
    last : (h : List Request) → Contains (had_at (state_at k proto now)) h → Contains had h ⊎ Contains (had_at (state_at k proto s)) h

  -- it stays in its instance
  record Moved (s now : Rep P) (had : List (List Request)) : Type 0 where
    at : now.at ≡ s.at
    base : now.entry.base ≡ s.entry.base
    entered : (state_at k proto now).entered ≡ (state_at k proto s).entered
    grows : IsPrefix (state_at k proto s).log (state_at k proto now).log
    each : (h : List Request) → Contains had h → Contains (had_at (state_at k proto s)) h ⊎ Contains (had_at (state_at k proto now)) h
    last : (h : List Request) → Contains (had_at (state_at k proto now)) h → Contains had h ⊎ Contains (had_at (state_at k proto s)) h

  -- the state stays
  record Stays (r : ℕ) (ts : List RepAction) (s : Rep P) : Type 0 where
    at : (after_turns k proto r s ts).at ≡ s.at
    base : (after_turns k proto r s ts).entry.base ≡ s.entry.base
    same : state_at k proto (after_turns k proto r s ts) ≡ state_at k proto s
    each : (h : List Request) → Contains (had_in_turns k proto r s ts) h → Contains (had_at (state_at k proto s)) h

  record Same (s now : Rep P) : Type 0 where
    at : now.at ≡ s.at
    base : now.entry.base ≡ s.entry.base
    state : state_at k proto now ≡ state_at k proto s

  module _ {serves : Kind → Bool} (form : KeepsForm proto serves) where
    quiet_one : (r : ℕ) (t : RepAction) (s : Rep P) → IsQuiet t → Same s (after_turn k proto r s t)
    quiet_one r t s signs = record { at = refl; base = refl; state = refl }
    quiet_one r t s (brings c) = record { at = refl; base = refl; state = refl }
    quiet_one r t s (aborts c) = record { at = refl; base = refl; state = refl }
    quiet_one r t s (marks n) = record { at = refl; base = refl; state = refl }
    quiet_one r t s (keeps v) = record { at = refl; base = refl; state = refl }
    quiet_one r t s (trims n) = record { at = refl; base = refl; state = form.trim_rests n s.value }

    quiet_stays : (r : ℕ) (ts : List RepAction) (s : Rep P) → AllQuiet ts → Stays r ts s
    quiet_stays r [] s all = record { at = refl; base = refl; same = refl; each = λ h gone. absurd (omega (arith, gone.1)) }
    quiet_stays r (t ∷ ts) s all =
        let now = after_turn k proto r s t in
        let rest = quiet_stays r ts now all.1 in
        let one = quiet_one r t s all.0 in
        record {
          at = rest.at ∙ one.at;
          base = rest.base ∙ one.base;
          same = rest.same ∙ one.state;
          each = λ h has.
              subst (λ (v : State). Contains (had_at v) h) one.state
              (elim (Contains-append_cases (had_in_turns k proto r now ts) (had_at (state_at k proto now)) h has) [
                | inl later ↦ rest.each h later
                | inr first ↦ first
              ]);
        }

    -- a turn in the same instance, and then quiet ones
    then_quiet : (r : ℕ) (t : RepAction) (us : List RepAction) (s : Rep P) → AllQuiet us → (after_turn k proto r s t).at ≡ s.at → (after_turn k proto r s t).entry.base ≡ s.entry.base
        → (state_at k proto (after_turn k proto r s t)).entered ≡ (state_at k proto s).entered → IsPrefix (state_at k proto s).log (state_at k proto (after_turn k proto r s t)).log
        → Moved s (after_turns k proto r s (t ∷ us)) (had_in_turns k proto r s (t ∷ us))
    then_quiet r t us s all at base entered grows =
        let now = after_turn k proto r s t in
        let is = quiet_stays r us now all in
        record {
          at = is.at ∙ at;
          base = is.base ∙ base;
          entered = ap (λ (v : State). v.entered) is.same ∙ entered;
          grows = subst (λ (v : State). IsPrefix (state_at k proto s).log v.log) (sym is.same) grows;
          each = λ h has. inr (subst (λ (v : State). Contains (had_at v) h) (sym is.same) (elim (Contains-append_cases (had_in_turns k proto r now us) (had_at (state_at k proto now)) h has) [
            | inl later ↦ is.each h later
            | inr first ↦ first
          ]));
          last = λ h has. inl (Contains-append_right (had_in_turns k proto r now us) (had_at (state_at k proto now)) h (subst (λ (v : State). Contains (had_at v) h) is.same has));
        }

    calm_moved : (r : ℕ) (ts : List RepAction) (s : Rep P) → IsCalm ts → Moved s (after_turns k proto r s ts) (had_in_turns k proto r s ts)
    calm_moved r ts s (still _ all) =
        let is = quiet_stays r ts s all in
        record {
          at = is.at;
          base = is.base;
          entered = ap (λ (v : State). v.entered) is.same;
          grows = subst (λ (v : State). IsPrefix (state_at k proto s).log v.log) (sym is.same) ([], append-nil (state_at k proto s).log);
          each = λ h has. inl (is.each h has);
          last = λ h has. inr (subst (λ (v : State). Contains (had_at v) h) is.same has);
        }
    calm_moved r ts s (once call us all) =
        let pen = pen_of k proto r s in
        then_quiet r (turn_call call) us s all refl refl (form.entered_stays pen s.value call) (form.grows pen s.value call)
    calm_moved r ts s (stops us all) =
        then_quiet r turn_halt us s all refl refl (form.entered_rests s.value)
        (subst (IsPrefix (state_at k proto s).log) (sym (form.halts s.value).0) ([], append-nil (state_at k proto s).log))

    -- what a replica has as it enters, it has by what it entered with
    entry_had : (log h' g : List Request) (first : Option (List Request)) → (log ≡ h') ⊎ (log ≡ []) → first ≡ None → Contains (log ∷ h' ∷ with_first first) g → (h' ≡ g) ⊎ (g ≡ [])
    entry_had log h' g first begins none has = elim (Contains-cons_cases log (h' ∷ with_first first) g has) [
      | inl e ↦ elim begins [ inl based ↦ inl (sym based ∙ e) | inr empty ↦ inr (sym e ∙ empty) ]
      | inr rest ↦ elim (Contains-cons_cases h' (with_first first) g rest) [
        | inl e ↦ inl e
        | inr more ↦ let gone : Contains [] g = subst (λ o. Contains (with_first o) g) none more in absurd (omega (arith, gone.1))
      ]
    ]

    calm_went : (r : ℕ) (ts : List RepAction) (s : Rep P) → IsCalmFrom s ts → Went s (after_turns k proto r s ts) (had_in_turns k proto r s ts)
    calm_went r ts s (stays _ calm) =
        let is = calm_moved r ts s calm in
        record {
          entered = λ same. is.entered;
          grows = λ same. is.grows;
          based = λ differs. absurd (true≢false (sym (eq-eqb s.at (after_turns k proto r s ts).at (sym is.at)) ∙ differs));
          each = λ h has. inl (is.each h has);
          last = is.last;
        }
    calm_went r ts s (enters j cert n h us le calm) =
        let there = after_turn k proto r s (turn_enter j cert n h) in
        let now = after_turns k proto r there us in
        let is = calm_moved r us there calm in
        let entry = trimmed_entry h n cert in
        let begins = form.begins k.cluster (j + 1) r entry in
        let entered : (state_at k proto there).entered ≡ h = form.enters k.cluster (j + 1) r entry in
        let apart : (s.at == now.at) ≡ true → ⊥ = λ same. let e : s.at ≡ now.at = eqb-true s.at now.at same in omega (arith, e, is.at, le) in
        let own : Contains (had_at (state_at k proto now)) h =
        subst (Contains (had_at (state_at k proto now))) (is.entered ∙ entered)
        (Contains-tail (state_at k proto now).log ((state_at k proto now).entered ∷ with_first (state_at k proto now).first) (state_at k proto now).entered (Contains-head (state_at k proto now).entered (with_first (state_at k proto now).first))) in
        let first_had : (g : List Request) → Contains (had_at (state_at k proto there)) g → Contains (had_at (state_at k proto now)) g ⊎ (g ≡ []) =
        λ g has. elim (entry_had (state_at k proto there).log (state_at k proto there).entered g (state_at k proto there).first (subst (λ (e : List Request). ((state_at k proto there).log ≡ e) ⊎ ((state_at k proto there).log ≡ [])) (sym entered) begins.0) begins.1 has) [
          | inl e ↦ inl (subst (Contains (had_at (state_at k proto now))) (sym entered ∙ e) own)
          | inr none ↦ inr none
        ] in
        record {
          entered = λ same. absurd (apart same);
          grows = λ same. absurd (apart same);
          based = λ differs. is.base ∙ sym (is.entered ∙ entered);
          each = λ g has. elim (Contains-append_cases (had_in_turns k proto r there us) (had_at (state_at k proto there)) g has) [
            | inl later ↦ elim (is.each g later) [
              | inl first ↦ elim (first_had g first) [ inl here ↦ inl (inr here) | inr none ↦ inr none ]
              | inr after ↦ inl (inr after)
            ]
            | inr first ↦ elim (first_had g first) [ inl here ↦ inl (inr here) | inr none ↦ inr none ]
          ];
          last = λ g has. elim (is.last g has) [
            | inl later ↦ inl (Contains-append_left (had_in_turns k proto r there us) (had_at (state_at k proto there)) g later)
            | inr first ↦ inl (Contains-append_right (had_in_turns k proto r there us) (had_at (state_at k proto there)) g first)
          ];
        }

    call_went : (r : ℕ) (s : Rep P) (call : Call) → Went s (rep_after k proto r s call) (had_in_turns k proto r s (turns k proto r s call))
    call_went r s call = calm_went r (turns k proto r s call) s (turns_calm r s call)

-- ---- what is looked at

-- what a run has after an event is what it had, and what was looked at in it
pub record Looks {P : Type 0} (w v : Run P) (items : List Item) : Type 0 where
  pub histories : HasSame (w.had ++ histories_of items) v.had
  pub lists : HasSame (w.lists ++ lists_of items) v.lists
  pub requests : HasSame (w.asked ++ requests_of items) v.asked
  pub begins : (item : Item) → Contains items item → BeginsIn w.had item

swap : {A : Type 0} (xs ys : List A) → HasSame (xs ++ ys) (ys ++ xs)
swap xs ys a = (
  λ at. elim (Contains-append_cases xs ys a at) [
    | inl one ↦ Contains-append_right ys xs a one
    | inr other ↦ Contains-append_left ys xs a other
  ],
  λ at. elim (Contains-append_cases ys xs a at) [
    | inl one ↦ Contains-append_right xs ys a one
    | inr other ↦ Contains-append_left xs ys a other
  ],
)

-- what comes first is what is there
came_first : {A : Type 0} (was now came more : List A) → now ≡ more ++ was → came ≡ more → HasSame (was ++ came) now
came_first was now came more is are = subst (λ l. HasSame (was ++ came) l) (sym is) (subst (λ l. HasSame (was ++ l) (more ++ was)) (sym are) (swap was more))

-- what is checked alone
checked_looks : {P : Type 0} (w v : Run P) (items : List Item) (hs : List (List Request)) (ts : List Trimmed) (ms : List Request) → Holds items hs ts ms → v.had ≡ hs ++ w.had → v.lists ≡ ts ++ w.lists → v.asked ≡ ms ++ w.asked → Looks w v items
checked_looks w v items hs ts ms holds had lists asked = record {
  histories = came_first w.had v.had (histories_of items) hs had holds.histories;
  lists = came_first w.lists v.lists (lists_of items) ts lists holds.lists;
  requests = came_first w.asked v.asked (requests_of items) ms asked holds.requests;
  begins = holds.begins w.had;
}

-- nothing is looked at
nothing_looks : {P : Type 0} (w v : Run P) → v.had ≡ w.had → v.lists ≡ w.lists → v.asked ≡ w.asked → Looks w v []
nothing_looks w v had lists asked = checked_looks w v [] [] [] [] holds_nothing had lists asked

module _ {P : Type 0} (k : RunSetup) (proto : Proto P) {serves : Kind → Bool} (form : KeepsForm proto serves) where
  -- what each correct replica has, the run has, and the empty history
  pub record HasOwn (w : Run P) : Type 0 where
    pub each : (r : ℕ) → r < replicas k → is_faulty k.faulty (Replica r) ≡ false → (h : List Request) → Contains (had_at (state_at k proto (w.reps r))) h → Contains w.had h
    pub empty : Contains w.had []

  abbrev entered_part : Rep P → Rep P → List (List Request)
  entered_part s now = if s.at == now.at then [] else now.entry.base ∷ []

  entered_holds : (b : Bool) (base : List Request) → Holds (if b then [] else history base 0 ∷ []) (if b then [] else base ∷ []) [] []
  entered_holds true base = holds_nothing
  entered_holds false base = first_holds (Some base)

  -- all but the log
  rest_holds : (s now : Rep P) → Holds (entered_items k proto s now ++ first_items (state_at k proto now).first) (entered_part s now ++ with_first (state_at k proto now).first) [] []
  rest_holds s now =
      both_hold (entered_items k proto s now) (first_items (state_at k proto now).first) (entered_part s now) (with_first (state_at k proto now).first) [] [] [] []
      (entered_holds (s.at == now.at) now.entry.base) (first_holds (state_at k proto now).first)

  known_begins : (had : List (List Request)) (s now : Rep P) (b : Bool) → (b ≡ true → IsPrefix (state_at k proto s).log (state_at k proto now).log) → Contains had (state_at k proto s).log
      → Continues had (state_at k proto now).log (if b then length (state_at k proto s).log else 0)
  known_begins had s now true grows has some =
      ((state_at k proto s).log, has, subst (λ l. IsPrefix l (state_at k proto s).log) (prefix_is_take (state_at k proto s).log (state_at k proto now).log (grows refl)) ([], append-nil (state_at k proto s).log))
  known_begins had s now false grows has some = absurd (omega (arith, some))

  state_begins : (had : List (List Request)) (s now : Rep P) → ((s.at == now.at) ≡ true → IsPrefix (state_at k proto s).log (state_at k proto now).log) → Contains had (state_at k proto s).log
      → (item : Item) → Contains (state_items k proto s now) item → BeginsIn had item
  state_begins had s now grows has item at = elim (Contains-cons_cases (history (state_at k proto now).log (known_of k proto s now)) (entered_items k proto s now ++ first_items (state_at k proto now).first) item at) [
    | inl e ↦ subst (BeginsIn had) e (known_begins had s now (s.at == now.at) grows has)
    | inr more ↦ (rest_holds s now).begins had item more
  ]

  module _ (w v : Run P) (s now : Rep P) (checked : List Item) (hs more : List (List Request)) (ts : List Trimmed) (ms : List Request) (holds : Holds checked hs ts ms) (went : Went k proto s now more) (empty : Contains w.had []) (own : (h : List Request) → Contains (had_at (state_at k proto s)) h → Contains w.had h)
      (had : v.had ≡ more ++ (hs ++ w.had)) (lists : v.lists ≡ ts ++ w.lists) (asked : v.asked ≡ ms ++ w.asked) where
    abbrev items : List Item
    items = checked ++ state_items k proto s now

    abbrev New : List (List Request)
    New = (state_at k proto now).log ∷ (entered_part s now ++ with_first (state_at k proto now).first)

    histories_are : histories_of items ≡ hs ++ New
    histories_are =
        flat_map-append item_histories checked (state_items k proto s now)
        ∙ (λ j. holds.histories j ++ ((state_at k proto now).log ∷ (rest_holds s now).histories j))

    lists_are : lists_of items ≡ ts
    lists_are =
        flat_map-append item_lists checked (state_items k proto s now)
        ∙ (λ j. holds.lists j ++ (rest_holds s now).lists j)
        ∙ append-nil ts

    requests_are : requests_of items ≡ ms
    requests_are =
        flat_map-append item_requests checked (state_items k proto s now)
        ∙ (λ j. holds.requests j ++ (rest_holds s now).requests j)
        ∙ append-nil ms

    now_entered : Contains (had_at (state_at k proto now)) (state_at k proto now).entered
    now_entered =
        Contains-tail (state_at k proto now).log ((state_at k proto now).entered ∷ with_first (state_at k proto now).first) (state_at k proto now).entered
        (Contains-head (state_at k proto now).entered (with_first (state_at k proto now).first))

    of_base : (b : Bool) → (s.at == now.at) ≡ b → (h : List Request) → Contains (if b then [] else now.entry.base ∷ []) h → Contains (had_at (state_at k proto now)) h
    of_base true at h gone = absurd (omega (arith, gone.1))
    of_base false at h has = elim (Contains-cons_cases now.entry.base [] h has) [
      | inl e ↦ subst (Contains (had_at (state_at k proto now))) (sym (went.based at) ∙ e) now_entered
      | inr gone ↦ absurd (omega (arith, gone.1))
    ]

    of_new : (h : List Request) → Contains New h → Contains (had_at (state_at k proto now)) h
    of_new h has = elim (Contains-cons_cases (state_at k proto now).log (entered_part s now ++ with_first (state_at k proto now).first) h has) [
      | inl e ↦ subst (Contains (had_at (state_at k proto now))) e (Contains-head (state_at k proto now).log ((state_at k proto now).entered ∷ with_first (state_at k proto now).first))
      | inr rest ↦ elim (Contains-append_cases (entered_part s now) (with_first (state_at k proto now).first) h rest) [
        | inl base ↦ of_base (s.at == now.at) refl h base
        | inr first ↦ Contains-tail (state_at k proto now).log ((state_at k proto now).entered ∷ with_first (state_at k proto now).first) h (Contains-tail (state_at k proto now).entered (with_first (state_at k proto now).first) h first)
      ]
    ]

    behind : (h : List Request) → Contains (entered_part s now ++ with_first (state_at k proto now).first) h → Contains New h
    behind h has = Contains-tail (state_at k proto now).log (entered_part s now ++ with_first (state_at k proto now).first) h has

    entered_had : (b : Bool) → (s.at == now.at) ≡ b → Contains w.had (state_at k proto now).entered ⊎ Contains (if b then [] else now.entry.base ∷ []) (state_at k proto now).entered
    entered_had true at =
        inl (subst (Contains w.had) (sym (went.entered at))
        (own (state_at k proto s).entered (Contains-tail (state_at k proto s).log ((state_at k proto s).entered ∷ with_first (state_at k proto s).first) (state_at k proto s).entered (Contains-head (state_at k proto s).entered (with_first (state_at k proto s).first)))))
    entered_had false at = inr (subst (Contains (now.entry.base ∷ [])) (went.based at) (Contains-head now.entry.base []))

    is_looked : (h : List Request) → Contains (had_at (state_at k proto now)) h → Contains w.had h ⊎ Contains New h
    is_looked h has = elim (Contains-cons_cases (state_at k proto now).log ((state_at k proto now).entered ∷ with_first (state_at k proto now).first) h has) [
      | inl e ↦ inr (subst (Contains New) e (Contains-head (state_at k proto now).log (entered_part s now ++ with_first (state_at k proto now).first)))
      | inr rest ↦ elim (Contains-cons_cases (state_at k proto now).entered (with_first (state_at k proto now).first) h rest) [
        | inl e ↦ elim (entered_had (s.at == now.at) refl) [
          | inl old ↦ inl (subst (Contains w.had) e old)
          | inr base ↦ inr (subst (Contains New) e (behind (state_at k proto now).entered (Contains-append_left (entered_part s now) (with_first (state_at k proto now).first) (state_at k proto now).entered base)))
        ]
        | inr first ↦ inr (behind h (Contains-append_right (entered_part s now) (with_first (state_at k proto now).first) h first))
      ]
    ]

    there : (h : List Request) → Contains (w.had ++ (hs ++ New)) h → Contains (more ++ (hs ++ w.had)) h
    there h has = elim (Contains-append_cases w.had (hs ++ New) h has) [
      | inl old ↦ Contains-append_right more (hs ++ w.had) h (Contains-append_right hs w.had h old)
      | inr rest ↦ elim (Contains-append_cases hs New h rest) [
        | inl checked ↦ Contains-append_right more (hs ++ w.had) h (Contains-append_left hs w.had h checked)
        | inr new ↦ elim (went.last h (of_new h new)) [
          | inl on_way ↦ Contains-append_left more (hs ++ w.had) h on_way
          | inr before ↦ Contains-append_right more (hs ++ w.had) h (Contains-append_right hs w.had h (own h before))
        ]
      ]
    ]

    back : (h : List Request) → Contains (more ++ (hs ++ w.had)) h → Contains (w.had ++ (hs ++ New)) h
    back h has = elim (Contains-append_cases more (hs ++ w.had) h has) [
      | inl on_way ↦ elim (went.each h on_way) [
        | inl had_then ↦ elim had_then [
          | inl before ↦ Contains-append_left w.had (hs ++ New) h (own h before)
          | inr after ↦ elim (is_looked h after) [
            | inl old ↦ Contains-append_left w.had (hs ++ New) h old
            | inr new ↦ Contains-append_right w.had (hs ++ New) h (Contains-append_right hs New h new)
          ]
        ]
        | inr none ↦ Contains-append_left w.had (hs ++ New) h (subst (Contains w.had) (sym none) empty)
      ]
      | inr rest ↦ elim (Contains-append_cases hs w.had h rest) [
        | inl checked ↦ Contains-append_right w.had (hs ++ New) h (Contains-append_left hs New h checked)
        | inr old ↦ Contains-append_left w.had (hs ++ New) h old
      ]
    ]

    went_looks : Looks w v items
    went_looks = record {
      histories = subst (λ l. HasSame (w.had ++ histories_of items) l) (sym had) (subst (λ l. HasSame (w.had ++ l) (more ++ (hs ++ w.had))) (sym histories_are) (λ h. (there h, back h)));
      lists = came_first w.lists v.lists (lists_of items) ts lists lists_are;
      requests = came_first w.asked v.asked (requests_of items) ms asked requests_are;
      begins = λ item at. elim (Contains-append_cases checked (state_items k proto s now) item at) [
        | inl one ↦ holds.begins w.had item one
        | inr new ↦
            state_begins w.had s now went.grows
            (own (state_at k proto s).log (Contains-head (state_at k proto s).log ((state_at k proto s).entered ∷ with_first (state_at k proto s).first))) item new
      ];
    }

    own_again : (h : List Request) → Contains (had_at (state_at k proto now)) h → Contains v.had h
    own_again h has = subst (λ l. Contains l h) (sym had) (elim (went.last h has) [
      | inl on_way ↦ Contains-append_left more (hs ++ w.had) h on_way
      | inr before ↦ Contains-append_right more (hs ++ w.had) h (Contains-append_right hs w.had h (own h before))
    ])

  -- ---- one event

  of_bad : (p : Party) (call : Call) → is_faulty k.faulty p ≡ true → (call_histories k p call ≡ []) × (call_lists k p call ≡ []) × (call_requests k p call ≡ [])
  of_bad p (took m) bad = (rw bad refl, rw bad refl, rw bad refl)
  of_bad p timed bad = (refl, refl, refl)

  -- what a correct replica takes is looked at for what it then has checked
  call_holds : (r : ℕ) (call : Call) → is_faulty k.faulty (Replica r) ≡ false
      → Holds (checked_items k.cluster.f (Replica r) call) (call_histories k (Replica r) call) (call_lists k (Replica r) call) (call_requests k (Replica r) call)
  call_holds r (took m) good = rw good (message_holds k.cluster.f (Replica r) m)
  call_holds r timed good = holds_nothing

  pub record Seen (w v : Run P) (items : List Item) : Type 0 where
    pub looks : Looks w v items
    pub owns : HasOwn v

  others_own : (w v : Run P) (r : ℕ) → HasOwn w → ((q : ℕ) → (q ≡ r → ⊥) → v.reps q ≡ w.reps q) → ((h : List Request) → Contains w.had h → Contains v.had h)
      → (is_faulty k.faulty (Replica r) ≡ false → (h : List Request) → Contains (had_at (state_at k proto (v.reps r))) h → Contains v.had h) → HasOwn v
  others_own w v r own others more here = record {
    each = λ q lt good h has. elim (cases_eq q r) [
      | inl e ↦ here (subst (λ n. is_faulty k.faulty (Replica n) ≡ false) e good) h (subst (λ n. Contains (had_at (state_at k proto (v.reps n))) h) e has)
      | inr ne ↦ more h (own.each q lt good h (subst (λ s. Contains (had_at (state_at k proto s)) h) (others q ne) has))
    ];
    empty = more [] own.empty;
  }

  call_seen : (w : Run P) (r : ℕ) (call : Call) → HasOwn w → Seen w (at_call k proto w r call) (if nat_lt r (replicas k) then call_items k proto r (w.reps r) call else [])
  call_seen w r call own = elim (cases_Bool (nat_lt r (replicas k))) [
    | inl there ↦
        let lt = ltb-true r (replicas k) there in
        let v = at_call k proto w r call in
        let g = grown k proto w r call lt in
        let c = called k proto w r call lt in
        let s = w.reps r in
        let now = rep_after k proto r s call in
        let hs = call_histories k (Replica r) call in
        let ts = call_lists k (Replica r) call in
        let ms = call_requests k (Replica r) call in
        let more = had_in_turns k proto r s (turns k proto r s call) in
        let checked = checked_items k.cluster.f (Replica r) call in
        let all = call_items k proto r s call in
        let taken : (if nat_lt r (replicas k) then all else []) ≡ all = ap (λ (b : Bool). if b then all else []) there in
        let wider : (h : List Request) → Contains w.had h → Contains v.had h =
        λ h has. subst (λ l. Contains l h) (sym g.had) (Contains-append_right (had_in_call k proto r s call) (hs ++ w.had) h (Contains-append_right hs w.had h has)) in
        elim (cases_Bool (is_faulty k.faulty (Replica r))) [
          | inl bad ↦
              let none = of_bad (Replica r) call bad in
              let nothing : all ≡ [] = ap (λ (b : Bool). if b then [] else checked ++ state_items k proto s now) bad in
              let had : v.had ≡ w.had = g.had ∙ (λ j. (if bad j then [] else more) ++ (none.0 j ++ w.had)) in
              let lists : v.lists ≡ w.lists = g.lists ∙ ap (λ l. l ++ w.lists) none.1 in
              let asked : v.asked ≡ w.asked = g.asked ∙ ap (λ l. l ++ w.asked) none.2 in
              record {
                looks = subst (Looks w v) (sym (taken ∙ nothing)) (nothing_looks w v had lists asked);
                owns = others_own w v r own c.others wider (λ good. absurd (true≢false (sym bad ∙ good)));
              }
          | inr good ↦
              let went = call_went k proto form r s call in
              let something : all ≡ checked ++ state_items k proto s now = ap (λ (b : Bool). if b then [] else checked ++ state_items k proto s now) good in
              let holds = call_holds r call good in
              let had : v.had ≡ more ++ (hs ++ w.had) = g.had ∙ ap (λ (b : Bool). (if b then [] else more) ++ (hs ++ w.had)) good in
              record {
                looks = subst (Looks w v) (sym (taken ∙ something)) (went_looks w v s now checked hs more ts ms holds went own.empty (own.each r lt good) had g.lists g.asked);
                owns = others_own w v r own c.others wider
                    (λ _ h has. own_again w v s now checked hs more ts ms holds went own.empty (own.each r lt good) had g.lists g.asked h (subst (λ z. Contains (had_at (state_at k proto z)) h) c.own has));
              }
        ]
    | inr gone ↦ rw gone (record { looks = nothing_looks w w refl refl refl; owns = own })
  ]

  clients_own : (w v : Run P) → HasOwn w → ((q : ℕ) → v.reps q ≡ w.reps q) → ((h : List Request) → Contains w.had h → Contains v.had h) → HasOwn v
  clients_own w v own reps more = record {
    each = λ q lt good h has. more h (own.each q lt good h (subst (λ s. Contains (had_at (state_at k proto s)) h) (reps q) has));
    empty = more [] own.empty;
  }

  client_holds : (c : ℕ) (m : Msg) (b : Bool) → is_faulty k.faulty (Client c) ≡ b → Holds (client_items k proto c m) (histories_for k (Client c) m) (lists_for k (Client c) m) (requests_for k (Client c) m)
  client_holds c m true bad = rw bad holds_nothing
  client_holds c m false good = rw good (message_holds k.cluster.f (Client c) m)

  message_seen : (w : Run P) (c : ℕ) (m : Msg) → HasOwn w → Seen w (at_cue k proto w c (cue_message m)) (if nat_lt c k.cluster.clients then client_items k proto c m else [])
  message_seen w c m own = elim (cases_Bool (nat_lt c k.cluster.clients)) [
    | inl there ↦
        let lt = ltb-true c k.cluster.clients there in
        let v = at_cue k proto w c (cue_message m) in
        let f = followed k proto w c (cue_message m) lt in
        let all = client_items k proto c m in
        let taken : (if nat_lt c k.cluster.clients then all else []) ≡ all = ap (λ (b : Bool). if b then all else []) there in
        record {
          looks = subst (Looks w v) (sym taken) (checked_looks w v all (histories_for k (Client c) m) (lists_for k (Client c) m) (requests_for k (Client c) m) (client_holds c m (is_faulty k.faulty (Client c)) refl) f.had f.lists f.asked);
          owns = clients_own w v own (reps_apart k proto w c (cue_message m)) (λ h has. subst (λ l. Contains l h) (sym f.had) (Contains-append_right (histories_for k (Client c) m) w.had h has));
        }
    | inr gone ↦ rw gone (record { looks = nothing_looks w w refl refl refl; owns = own })
  ]

  silent_seen : (w : Run P) (c : ℕ) (cue : Cue) → (c < k.cluster.clients → ((at_cue k proto w c cue).had ≡ w.had) × ((at_cue k proto w c cue).lists ≡ w.lists) × ((at_cue k proto w c cue).asked ≡ w.asked)) → HasOwn w → Seen w (at_cue k proto w c cue) []
  silent_seen w c cue same own = elim (cases_Bool (nat_lt c k.cluster.clients)) [
    | inl there ↦
        let (had, lists, asked) = same (ltb-true c k.cluster.clients there) in
        record {
          looks = nothing_looks w (at_cue k proto w c cue) had lists asked;
          owns = clients_own w (at_cue k proto w c cue) own (reps_apart k proto w c cue) (λ h has. subst (λ l. Contains l h) (sym had) has);
        }
    | inr gone ↦ rw gone (record { looks = nothing_looks w w refl refl refl; owns = own })
  ]

  pub event_seen : (w : Run P) (e : Event) → HasOwn w → Seen w (step k proto w e) (items_of k proto w e)
  event_seen w (invoke c command) own = silent_seen w c (cue_command command) (λ lt. let f = followed k proto w c (cue_command command) lt in (f.had, f.lists, f.asked)) own
  event_seen w (to_replica r m) own = call_seen w r (took m) own
  event_seen w (to_client c m) own = message_seen w c m own
  event_seen w (replica_time r) own = call_seen w r timed own
  event_seen w (client_time c) own = silent_seen w c cue_time (λ lt. let f = followed k proto w c cue_time lt in (f.had, f.lists, f.asked)) own

  -- before the first event a replica has nothing
  pub start_own : HasOwn (start k proto)
  start_own = record {
    each = λ r lt good h has.
        let blank = form.starts k.cluster r in
        let had : had_at (state_at k proto ((start k proto).reps r)) ≡ [] ∷ [] ∷ [] = λ j. blank.logged j ∷ (blank.entered j ∷ with_first (blank.first j)) in
        elim (Contains-cons_cases [] ([] ∷ []) h (subst (λ l. Contains l h) had has)) [
          | inl e ↦ subst (Contains ([] ∷ [])) e (Contains-head [] [])
          | inr more ↦ more
        ];
    empty = Contains-head [] [];
  }
