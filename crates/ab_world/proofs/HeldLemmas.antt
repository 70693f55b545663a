-- The log that a correct replica had in an instance is the last one that its run keeps of it there.
use Rattle.std.proofs.Common.{◌≡◌, ◌≢◌, ℕ, zero, suc, ◌≤◌, Bool, true, false, Option, Some, None, List, [], ◌∷◌, ◌++◌, arith, length, refl, sym, ap, ◌∙◌, subst, inl, inr}
use Rattle.std.specs.Prelude.{◌==◌, ◌&&◌, if◌then◌else◌, drop, slice_get, slice_set}
use Rattle.std.proofs.lemmas.Bool.{cases_Bool, eq-eqb, eqb-true}
use Rattle.ab_num.specs.declared.party.Party.{Party}
use Rattle.ab_num.specs.declared.party.Party.TheVariants.{Replica, Client}
use Rattle.ab_hist.specs.declared.request.Request.{Request}
use Rattle.ab_msg.specs.declared.message.Msg.{Msg}
use Rattle.ab_abs.specs.Faults.{is_faulty}
use Rattle.ab_abs.specs.Messages.{Call, took, timed}
use Rattle.ab_abs.specs.Ensembles.{Proto}
use Rattle.ab_run.specs.Setups.{RunSetup}
use Rattle.ab_run.specs.Replicas.{Rep, state_at}
use Rattle.ab_run.specs.Clients.{Cli}
use Rattle.ab_run.specs.Runs.{first_rep}
use Rattle.ab_run.specs.Local.{rep_after, Cue, cue_command, cue_message, cue_time}
use Rattle.ab_run.specs.Inputs.{Input, told, came, rang, elsewhere, Opener, Speller}
use Rattle.ab_run.specs.Stages.{Stage, find_log, stage_call, stage_cue, stage_opened, stage_after}
use Rattle.ab_run.proofs.Listed.{set_hit, set_miss}
use Rattle.ab_run.proofs.LastLogs.{logs_once}
use Rattle.ab_run.proofs.Staged.{stage_back}
use Rattle.ab_world.specs.declared.left.LeftLog.{LeftLog}
use Rattle.ab_world.specs.Left.{last_left, left_by, log_at}
use Rattle.ab_world.proofs.StayLemmas.{stays_timed}
use Rattle.ab_world.proofs.LeftLemmas.{left_after, left_back, left_opened, left_taking, last_more, same_by}
use Rattle.ab_world.proofs.LogLemmas.{AreKept, all_kept, others_kept, one_there}

and_same : (b c : Bool) → c ≡ true → (b && c) ≡ b
and_same true c e = e
and_same false c e = refl

module _ {P : Type 0} (k : RunSetup) (proto : Proto P) (spell : Speller) (opens : Opener) where
  abbrev back : List Input → Stage P
  back inputs = stage_back k proto spell opens inputs

  abbrev log_of : Rep P → List Request
  log_of s = (state_at k proto s).log

  -- the log of a replica where it is, or the last that it left in an instance
  abbrev pub held : Rep P → List LeftLog → ℕ → ℕ → Option (List Request)
  held s left i r = if i == s.at then Some (log_of s) else last_left left i r

  -- ---- one event

  -- replica r is where now says after an event
  record Goes (x y : Stage P) (left more : List LeftLog) (r : ℕ) (now : Rep P) : Type 0 where
    from : Rep P
    there : slice_get x.replicas r ≡ Some from
    logs : (i : ℕ) → find_log y.logs i r ≡ (if i == now.at then log_of now else find_log x.logs i r)
    leaves : (i : ℕ) → last_left more i r ≡ last_left (left_by proto r from now left) i r

  abbrev AllGo : Stage P → Stage P → List LeftLog → List LeftLog → Type 0
  AllGo x y left more = (r : ℕ) (now : Rep P) → is_faulty k.faulty (Replica r) ≡ false → slice_get y.replicas r ≡ Some now → Goes x y left more r now

  -- a replica to which nothing happens
  rests : (x y : Stage P) (left more : List LeftLog) (r : ℕ) (now : Rep P) → find_log x.logs now.at r ≡ log_of now → slice_get x.replicas r ≡ Some now
      → ((i : ℕ) → find_log y.logs i r ≡ find_log x.logs i r) → ((i : ℕ) → last_left more i r ≡ last_left left i r) → Goes x y left more r now
  rests x y left more r now kept there logs same = record {
    from = now;
    there = there;
    logs = λ i. logs i ∙ (elim (cases_Bool (i == now.at)) [
      | inl hit ↦ ap (λ z. find_log x.logs z r) (eqb-true i now.at hit) ∙ kept ∙ sym (ap (λ (b : Bool). if b then log_of now else find_log x.logs i r) hit)
      | inr miss ↦ sym (ap (λ (b : Bool). if b then log_of now else find_log x.logs i r) miss)
    ]);
    leaves = λ i. same i ∙ ap (λ (l : List LeftLog). last_left l i r) (sym (same_by proto r now now left refl));
  }

  still_goes : (x y : Stage P) (left : List LeftLog) → AreKept k proto spell opens x → y.replicas ≡ x.replicas → y.logs ≡ x.logs → AllGo x y left left
  still_goes x y left are replicas logs r now good there =
      let was : slice_get x.replicas r ≡ Some now = ap (λ (l : List (Rep P)). slice_get l r) (sym replicas) ∙ there in
      rests x y left left r now (are r now good was) was (λ i. ap (λ l. find_log l i r) logs) (λ i. refl)

  module _ (x : Stage P) (are : AreKept k proto spell opens x) (left : List LeftLog) (q : ℕ) (call : Call) (s : Rep P) (found : slice_get x.replicas q ≡ Some s) where
    abbrev after : Rep P
    after = rep_after k proto q s call

    abbrev stage : Stage P
    stage = stage_call k proto spell x q call (Some s)

    abbrev more : List LeftLog
    more = left_by proto q s after left

    own_goes : (now : Rep P) → is_faulty k.faulty (Replica q) ≡ false → after ≡ now → Goes x stage left more q now
    own_goes now good is = record {
      from = s;
      there = found;
      logs = λ i.
          logs_once k proto q s call x.logs good (are q s good found) i q
          ∙ ap (λ (b : Bool). if b then log_of after else find_log x.logs i q) (and_same (i == after.at) (q == q) (eq-eqb q q refl))
          ∙ ap (λ (t : Rep P). if i == t.at then log_of t else find_log x.logs i q) is;
      leaves = λ i. ap (λ (t : Rep P). last_left (left_by proto q s t left) i q) is;
    }

    others_left : (r i : ℕ) → (r == q) ≡ false → last_left more i r ≡ last_left left i r
    others_left r i miss = elim (cases_Bool (s.at == after.at)) [
      | inl same ↦ ap (λ (b : Bool). last_left (if b then left else left ++ log_at proto q s ∷ []) i r) same
      | inr apart ↦
          ap (λ (b : Bool). last_left (if b then left else left ++ log_at proto q s ∷ []) i r) apart
          ∙ last_more left (log_at proto q s) i r
          ∙ ap (λ (b : Bool). if b && (i == s.at) then Some (log_of s) else last_left left i r) miss
    ]

    call_goes : AllGo x stage left more
    call_goes r now good there = elim (cases_Bool (r == q)) [
      | inl hit ↦
          subst (λ z. is_faulty k.faulty (Replica z) ≡ false → slice_get (slice_set x.replicas q after) z ≡ Some now → Goes x stage left more z now) (sym (eqb-true r q hit))
          (λ good'. λ here. own_goes now good' (one_there (slice_get (slice_set x.replicas q after) q) after now (set_hit x.replicas q after s found) here)) good there
      | inr miss ↦
          let apart : r ≢ q = λ e. absurd (cc (eq-eqb r q e, miss)) in
          let was : slice_get x.replicas r ≡ Some now = sym (set_miss x.replicas q r after apart) ∙ there in
          rests x stage left more r now (are r now good was) was (λ i. others_kept k proto spell opens x are q call s found r i miss) (λ i. others_left r i miss)
    ]

  took_goes : (x : Stage P) (left : List LeftLog) (q : ℕ) (m : Msg) (o : Option (Rep P)) → slice_get x.replicas q ≡ o → AreKept k proto spell opens x
      → AllGo x (stage_call k proto spell x q (took m) o) left (left_taking k proto q m o left)
  took_goes x left q m None found are = still_goes x (stage_call k proto spell x q (took m) None) left are refl refl
  took_goes x left q m (Some s) found are = call_goes x are left q (took m) s found

  timed_goes : (x : Stage P) (left : List LeftLog) (q : ℕ) (o : Option (Rep P)) → slice_get x.replicas q ≡ o → AreKept k proto spell opens x → AllGo x (stage_call k proto spell x q timed o) left left
  timed_goes x left q None found are = still_goes x (stage_call k proto spell x q timed None) left are refl refl
  timed_goes x left q (Some s) found are =
      subst (λ (l : List LeftLog). AllGo x (stage_call k proto spell x q timed (Some s)) left l) (same_by proto q s (rep_after k proto q s timed) left (stays_timed k proto q s))
      (call_goes x are left q timed s found)

  cue_goes : (x : Stage P) (left : List LeftLog) (c : ℕ) (cue : Cue) (o : Option Cli) → AreKept k proto spell opens x → AllGo x (stage_cue k proto spell x c cue o) left left
  cue_goes x left c cue None are = still_goes x (stage_cue k proto spell x c cue None) left are refl refl
  cue_goes x left c cue (Some s) are = still_goes x (stage_cue k proto spell x c cue (Some s)) left are refl refl

  opened_goes : (x : Stage P) (left : List LeftLog) (p : Party) (o : Option Msg) → AreKept k proto spell opens x → AllGo x (stage_opened k proto spell x p o) left (left_opened k proto x p o left)
  opened_goes x left p None are = still_goes x (stage_opened k proto spell x p None) left are refl refl
  opened_goes x left (Replica r) (Some m) are = took_goes x left r m (slice_get x.replicas r) refl are
  opened_goes x left (Client c) (Some m) are = cue_goes x left c (cue_message m) (slice_get x.clients c) are

  input_goes : (x : Stage P) (left : List LeftLog) (g : Input) → AreKept k proto spell opens x → AllGo x (stage_after k proto spell opens x g) left (left_after k proto opens x g left)
  input_goes x left (told c command) are = cue_goes x left c (cue_command command) (slice_get x.clients c) are
  input_goes x left (came p bytes) are = opened_goes x left p (opens p bytes) are
  input_goes x left (rang (Replica r)) are = timed_goes x left r (slice_get x.replicas r) refl are
  input_goes x left (rang (Client c)) are = cue_goes x left c cue_time (slice_get x.clients c) are
  input_goes x left elsewhere are = still_goes x (stage_after k proto spell opens x elsewhere) left are refl refl

  -- ---- all that came

  -- replica r was in instance i before the last of what came
  pub record Stood (inputs : List Input) (i r : ℕ) : Type 0 where
    pub later : ℕ
    pub within : later ≤ length inputs
    pub rep : Rep P
    pub there : slice_get (back (drop later inputs)).replicas r ≡ Some rep
    pub at : rep.at ≡ i

  pub record IsHeld (inputs : List Input) (i r : ℕ) (o : Option (List Request)) : Type 0 where
    pub was : (h : List Request) → o ≡ Some h → Stood inputs i r
    pub is : Stood inputs i r → o ≡ Some (find_log (back inputs).logs i r)

  abbrev pub AreHeld : List Input → Type 0
  AreHeld inputs = (r : ℕ) (s : Rep P) (i : ℕ) → is_faulty k.faulty (Replica r) ≡ false → slice_get (back inputs).replicas r ≡ Some s
      → IsHeld inputs i r (held s (left_back k proto spell opens inputs) i r)

  module _ (inputs : List Input) (g : Input) (r : ℕ) (now : Rep P) (i : ℕ) (there : slice_get (back (g ∷ inputs)).replicas r ≡ Some now) where
    abbrev before : List LeftLog
    before = left_back k proto spell opens inputs

    abbrev kept : List LeftLog
    kept = left_back k proto spell opens (g ∷ inputs)

    -- where it is elsewhere now, it has of an instance what it had
    still_held : (s : Rep P) → (i == now.at) ≡ false → last_left (left_by proto r s now before) i r ≡ held s before i r
    still_held s miss = elim (cases_Bool (s.at == now.at)) [
      | inl same ↦
          let missed : (i == s.at) ≡ false = subst (λ z. (i == z) ≡ false) (sym (eqb-true s.at now.at same)) miss in
          ap (λ (b : Bool). last_left (if b then before else before ++ log_at proto r s ∷ []) i r) same
          ∙ sym (ap (λ (b : Bool). if b then Some (log_of s) else last_left before i r) missed)
      | inr apart ↦
          ap (λ (b : Bool). last_left (if b then before else before ++ log_at proto r s ∷ []) i r) apart
          ∙ last_more before (log_at proto r s) i r
          ∙ ap (λ (b : Bool). if b && (i == s.at) then Some (log_of s) else last_left before i r) (eq-eqb r r refl)
    ]

    sooner : (later : ℕ) → later ≤ length (g ∷ inputs) → (t : Rep P) → slice_get (back (drop later (g ∷ inputs))).replicas r ≡ Some t → t.at ≡ i → (i == now.at) ≡ false → Stood inputs i r
    sooner zero within t here at miss =
        let e : t.at ≡ now.at = ap (λ (u : Rep P). u.at) (one_there (slice_get (back (g ∷ inputs)).replicas r) t now here there) in
        absurd (cc (eq-eqb i now.at (sym at ∙ e), miss))
    sooner (suc later) within t here at miss = record { later = later; within = omega (arith, within); rep = t; there = here; at = at }

    held_on : (goes : Goes (back inputs) (back (g ∷ inputs)) before kept r now) → IsHeld inputs i r (held goes.from before i r) → IsHeld (g ∷ inputs) i r (held now kept i r)
    held_on goes was = elim (cases_Bool (i == now.at)) [
      | inl hit ↦
          let is : held now kept i r ≡ Some (log_of now) = ap (λ (b : Bool). if b then Some (log_of now) else last_left kept i r) hit in
          record {
            was = λ h e. record { later = 0; within = omega arith; rep = now; there = there; at = sym (eqb-true i now.at hit) };
            is = λ stood. is ∙ ap Some (sym (goes.logs i ∙ ap (λ (b : Bool). if b then log_of now else find_log (back inputs).logs i r) hit));
          }
      | inr miss ↦
          let is : held now kept i r ≡ held goes.from before i r =
          ap (λ (b : Bool). if b then Some (log_of now) else last_left kept i r) miss ∙ goes.leaves i ∙ still_held goes.from miss in
          let same : find_log (back (g ∷ inputs)).logs i r ≡ find_log (back inputs).logs i r =
          goes.logs i ∙ ap (λ (b : Bool). if b then log_of now else find_log (back inputs).logs i r) miss in
          record {
            was = λ h e. let stood = was.was h (sym is ∙ e) in record { later = suc stood.later; within = omega (arith, stood.within); rep = stood.rep; there = stood.there; at = stood.at };
            is = λ stood. is ∙ was.is (sooner stood.later stood.within stood.rep stood.there stood.at miss) ∙ ap Some (sym same);
          }
    ]

  module _ (blank : (r : ℕ) → log_of (first_rep k proto r) ≡ []) where
    nothing_stood : (r : ℕ) (s : Rep P) (i later : ℕ) → later ≤ 0 → (t : Rep P) → slice_get (back []).replicas r ≡ Some s → slice_get (back (drop later [])).replicas r ≡ Some t → t.at ≡ i
        → (i == s.at) ≡ false → ⊥
    nothing_stood r s i zero within t there here at miss =
        let e : t.at ≡ s.at = ap (λ (u : Rep P). u.at) (one_there (slice_get (back []).replicas r) t s here there) in
        absurd (cc (eq-eqb i s.at (sym at ∙ e), miss))
    nothing_stood r s i (suc later) within t there here at miss = absurd (omega (arith, within))

    first_held : AreHeld []
    first_held r s i good there = elim (cases_Bool (i == s.at)) [
      | inl hit ↦ record {
        was = λ h e. record { later = 0; within = omega arith; rep = s; there = there; at = sym (eqb-true i s.at hit) };
        is = λ stood. ap (λ (b : Bool). if b then Some (log_of s) else None) hit ∙ ap Some (sym (all_kept k proto spell opens blank [] r s good there));
      }
      | inr miss ↦
          let none : held s [] i r ≡ None = ap (λ (b : Bool). if b then Some (log_of s) else None) miss in
          record {
            was = λ h e. let no : None ≡ Some h = sym none ∙ e in absurd (cc (no));
            is = λ stood. absurd (nothing_stood r s i stood.later stood.within stood.rep there stood.there stood.at miss);
          }
    ]

    -- each correct replica has of each instance in which it was the last log that the stage keeps of it there
    pub all_held : (inputs : List Input) → AreHeld inputs
    all_held [] = first_held
    all_held (g ∷ inputs) = λ r now i good there.
        let goes = input_goes (back inputs) (left_back k proto spell opens inputs) g (all_kept k proto spell opens blank inputs) r now good there in
        held_on inputs g r now i there goes (all_held inputs r goes.from i good goes.there)
