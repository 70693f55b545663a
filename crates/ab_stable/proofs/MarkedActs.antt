-- What replicas made CHECKPOINTs of begins their logs for good.
use Rattle.std.proofs.Common.{◌≡◌, ℕ, Bool, None, Some, ◌+◌, ◌*◌, ◌<◌, ◌≤◌, false, List, [], ◌∷◌, arith, refl, sym, ap, ◌∙◌, subst, inl, inr}
use Rattle.std.specs.Prelude.{Contains}
use Rattle.std.proofs.lemmas.List.Elements.{All-contains}
use mathlib.Core.List.{IsPrefix}
use base.Growing.{prefix_refl}
use Rattle.ab_num.proofs.Lists.{Contains-none, Contains-tail, Contains-cons_cases}
use Rattle.ab_hist.specs.declared.request.Request.{Request}
use Rattle.ab_hist.specs.Histories.{IsHistory}
use Rattle.ab_hist.specs.Digests.{NoCollision}
use Rattle.ab_num.specs.declared.party.Party.{Party}
use Rattle.ab_num.specs.declared.party.Party.TheVariants.{Replica}
use Rattle.ab_svc.specs.Machines.{Machine}
use Rattle.ab_msg.specs.declared.content.Content.{Content}
use Rattle.ab_msg.specs.declared.content.Content.TheVariants.{Abort}
use Rattle.ab_msg.specs.Claims.{maker_of}
use Rattle.ab_trim.specs.Links.{links_of_all, IsAmong}
use Rattle.ab_trim.proofs.Chains.{histories_apart, all_among}
use Rattle.ab_abs.specs.declared.rule.ReplyRule.{ReplyRule}
use Rattle.ab_abs.specs.declared.rule.ReplyRule.TheVariants as rules
use Rattle.ab_abs.specs.Faults.{is_faulty}
use Rattle.ab_abs.specs.declared.seen.Seen.{Seen}
use Rattle.ab_abs.specs.declared.seen.Seen.TheVariants.{Cert}
use Rattle.ab_abs.specs.Acts.{Setting, State, Act, Premises, observations, histories, log_at, log_of, state_of, WasMade, IsHonest}
use Rattle.ab_abs.specs.Lawful.{BeginsThere, IsLawfulBy, AreLawfulBy}
use Rattle.ab_abs.specs.Rules.{IsSound, IsCertBy, IsValidCert}
use Rattle.ab_abs.specs.TailRules.{TailCalls, IsTailSound}
use Rattle.ab_abs.proofs.AllVotes.{AllCalls, all_keeping, all_by}
use Rattle.ab_abs.proofs.Facts.{state_quiet}
use Rattle.ab_abs.proofs.Following.{AreKeeping, IsLater, stays, begins, goes_on, moves, certified, abort_made}
use Rattle.ab_abs.proofs.Prefixes.{prefix_length}
use Rattle.ab_abs.proofs.Rooted.{rooted}
use Rattle.ab_abs.proofs.Statements.{claimed, take-prefix}
use Rattle.ab_abs.proofs.Tails.{tail_keeping}
use Rattle.ab_abs.proofs.Voters.{correct_agree}
use Rattle.ab_stable.specs.Stable.{HasFront}
use Rattle.ab_stable.specs.Leaving.{mark_of, forget_of, unmarked_act, Leaves, nothing, kept, marks, forgets}
use Rattle.ab_stable.specs.CertActs.{faulty_in}
use Rattle.ab_stable.specs.MarkedActs.{AreMarked, AreActsWithMarks, AreAllThere, BeginsAll, IsStable}
use Rattle.ab_stable.proofs.LeftOut.{same_state, same_seen, same_logs}
use Rattle.ab_stable.proofs.Fronts.{common_front, grown_front}

record HadFront (acts : List Act) (r n : ℕ) (d : List ℕ) : Type 0 where
  at : State
  is_at : state_of acts r ≡ Some at
  front : HasFront at.log n d

module _ {S : Type 0} (machine : Machine S) (x : Setting) (is_mark : Content → Bool) (mark : ℕ → ℕ → List ℕ → Content) (rule : ReplyRule)
    (Calls : List Act → List Content → List Content → ℕ → State → State → Type 0) (keeping : AreKeeping Calls IsLater)
    (rising : (acts : List Act) (claims made : List Content) (r : ℕ) (old new : State) → Calls acts claims made r old new → IsHistory new.log) where
  -- one more act of the protocol leaves a log that goes on
  one_more : (a : Act) (acts : List Act) (r n : ℕ) (d : List ℕ) → IsLawfulBy rule x BeginsThere Calls acts a → HadFront acts r n d → HadFront (a ∷ acts) r n d
  one_more a acts r n d lawful had =
      elim (moves rule x BeginsThere Calls IsLater keeping acts a lawful r) [
        | stays same ↦ record { at = had.at; is_at = same ∙ had.is_at; front = had.front }
        | begins base s none rises nothing' begun is now ↦ absurd (let two : None ≡ Some had.at = sym none ∙ had.is_at in cc (two))
        | goes_on claims values made seen old new before c noted is now ↦
            let both : Some old ≡ Some had.at = sym before ∙ had.is_at in
            let e : old ≡ had.at = cc (both) in
            let later = keeping.goes acts claims made r old new c in
            record { at = new; is_at = now; front = grown_front had.at.log new.log n d (subst (λ (s : State). IsPrefix s.log new.log) e later.grown) had.front }
      ]

  bare_grows : (a : Act) (acts : List Act) (r : ℕ) → IsLawfulBy rule x BeginsThere Calls acts a → IsPrefix (log_of acts r) (log_of (a ∷ acts) r)
  bare_grows a acts r lawful =
      elim (moves rule x BeginsThere Calls IsLater keeping acts a lawful r) [
        | stays same ↦ rw (ap log_at same) (prefix_refl (log_of acts r))
        | begins base s none rises nothing' begun is now ↦ rw (ap log_at none) (log_of (a ∷ acts) r, refl)
        | goes_on claims values made seen old new before c noted is now ↦
            let later = keeping.goes acts claims made r old new c in rw (ap log_at before, ap log_at now) later.grown
      ]

  -- what a replica made a CHECKPOINT of begins its log for good
  marks_stay : (acts bare : List Act) (r n : ℕ) (d : List ℕ) → Leaves is_mark acts bare → AreLawfulBy rule x BeginsThere Calls bare → AreMarked mark acts → WasMade acts (mark r n d) → HadFront acts r n d
  marks_stay acts bare r n d nothing lawful marked made = absurd (Contains-none made.0 made.1)
  marks_stay acts bare r n d (kept a older rest more) lawful marked made =
      elim (Contains-cons_cases a older made.0 made.1) [
        | inl e ↦ let m = marked.0 r n d (subst (λ (b : Act). Contains b.made (mark r n d)) (sym e) made.2) in record { at = m.0; is_at = m.1; front = m.2 }
        | inr later ↦
            let had = marks_stay older rest r n d more lawful.2 marked.1 (made.0, later, made.2) in
            let bare_had : HadFront rest r n d = record { at = had.at; is_at = sym (same_state is_mark older rest r more) ∙ had.is_at; front = had.front } in
            let next = one_more (unmarked_act is_mark a) rest r n d lawful.0 bare_had in
            record { at = next.at; is_at = same_state is_mark (a ∷ older) (unmarked_act is_mark a ∷ rest) r (kept a older rest more) ∙ next.is_at; front = next.front }
      ]
  marks_stay acts bare r n d (marks q c older rest is more) lawful marked made =
      elim (Contains-cons_cases (mark_of q c) older made.0 made.1) [
        | inl e ↦ let m = marked.0 r n d (subst (λ (b : Act). Contains b.made (mark r n d)) (sym e) made.2) in record { at = m.0; is_at = m.1; front = m.2 }
        | inr later ↦
            let had = marks_stay older rest r n d more lawful marked.1 (made.0, later, made.2) in
            record { at = had.at; is_at = state_quiet (mark_of q c) older r refl ∙ had.is_at; front = had.front }
      ]
  marks_stay acts bare r n d (forgets q older rest more) lawful marked made =
      elim (Contains-cons_cases (forget_of q) older made.0 made.1) [
        | inl e ↦ absurd (Contains-none (mark r n d) (subst (λ (b : Act). Contains b.made (mark r n d)) (sym e) made.2))
        | inr later ↦
            let had = marks_stay older rest r n d more lawful marked.1 (made.0, later, made.2) in
            record { at = had.at; is_at = state_quiet (forget_of q) older r refl ∙ had.is_at; front = had.front }
      ]

  abbrev older_acts : List Act → List Act
  older_acts [] = []
  older_acts (a ∷ acts) = acts

  -- logs go on
  log_grows : (now bare : List Act) (r : ℕ) → Leaves is_mark now bare → AreLawfulBy rule x BeginsThere Calls bare → IsPrefix (log_of (older_acts now) r) (log_of now r)
  log_grows now bare r nothing lawful = prefix_refl []
  log_grows now bare r (kept a older rest more) lawful =
      let was : log_of older r ≡ log_of rest r = ap log_at (same_state is_mark older rest r more) in
      let is : log_of (a ∷ older) r ≡ log_of (unmarked_act is_mark a ∷ rest) r = ap log_at (same_state is_mark (a ∷ older) (unmarked_act is_mark a ∷ rest) r (kept a older rest more)) in
      rw (was, is) (bare_grows (unmarked_act is_mark a) rest r lawful.0)
  log_grows now bare r (marks q c older rest is more) lawful = rw (ap log_at (state_quiet (mark_of q c) older r refl)) (prefix_refl (log_of older r))
  log_grows now bare r (forgets q older rest more) lawful = rw (ap log_at (state_quiet (forget_of q) older r refl)) (prefix_refl (log_of older r))

  -- what is stable stays so as acts are added
  stable_later : (a : Act) (acts bare : List Act) (front : List Request) → Leaves is_mark (a ∷ acts) bare → AreLawfulBy rule x BeginsThere Calls bare → IsStable x mark acts front → IsStable x mark (a ∷ acts) front
  stable_later a acts bare front left lawful is =
      let grown = log_grows (a ∷ acts) bare is.holder left lawful in
      record {
        number = is.number;
        digest = is.digest;
        all = λ r lt. elim (is.all r lt) [ inl was ↦ inl (was.0, Contains-tail a was.0 acts was.1, was.2) | inr made ↦ inr (made.0, Contains-tail a made.0 acts made.1, made.2) ];
        holder = is.holder;
        within = is.within;
        correct = is.correct;
        reaches = omega (arith, is.reaches, prefix_length (log_of acts is.holder) (log_of (a ∷ acts) is.holder) grown);
        is_front = is.is_front ∙ sym (take-prefix is.number (log_of acts is.holder) (log_of (a ∷ acts) is.holder) grown is.reaches);
      }

  module _ (acts bare : List Act) (left : Leaves is_mark acts bare) (one : 1 ≤ x.i) (lawful : AreLawfulBy rule x BeginsThere Calls bare) (apart : NoCollision (histories bare)) (honest : IsHonest x acts)
      (owned : (r k : ℕ) (e : List ℕ) → maker_of (mark r k e) ≡ Replica r) (marked : AreMarked mark acts) (n : ℕ) (d : List ℕ) (all : AreAllThere x mark acts n d) where
    there : (r : ℕ) → r < 3 * x.cluster.f + 1 → faulty_in x r ≡ false → HadFront acts r n d
    there r lt good =
        elim (all r lt) [
          | inr made ↦ marks_stay acts bare r n d left lawful marked made
          | inl was ↦ marks_stay acts bare r n d left lawful marked (claimed machine x acts honest was.0 was.1 (mark r n d) was.2 (ap (is_faulty x.faulty) (owned r n d) ∙ good))
        ]

    has_front : (r : ℕ) → r < 3 * x.cluster.f + 1 → faulty_in x r ≡ false → HasFront (log_of acts r) n d
    has_front r lt good = let had = there r lt good in subst (λ (h : List Request). HasFront h n d) (sym (ap log_at had.is_at)) had.front

    -- where a replica is that made one, its log is among those in which no digests collide
    log_among : (r : ℕ) → r < 3 * x.cluster.f + 1 → faulty_in x r ≡ false → IsAmong (links_of_all (histories bare)) (log_of acts r)
    log_among r lt good =
        let had = there r lt good in
        let state_is = same_state is_mark acts bare r left in
        let root = rooted rule x Calls keeping rising one bare lawful r (had.at, sym state_is ∙ had.is_at) in
        subst (λ (h : List Request). IsAmong (links_of_all (histories bare)) h) (ap log_at (sym state_is)) (λ a has. all_among (histories bare) (log_of bare r) root.held a has)

    pub begins_all : BeginsAll x acts n d
    begins_all r s in_r in_s good_r good_s = (
      has_front r in_r good_r,
      common_front (faulty_in x) (log_of acts) (links_of_all (histories bare)) (3 * x.cluster.f + 1) n d (histories_apart (histories bare) apart) log_among has_front r s in_r in_s good_r good_s,
    )

-- ---- certificates

module _ {S : Type 0} (machine : Machine S) (x : Setting) (rule : ReplyRule) (Calls : List Act → List Content → List Content → ℕ → State → State → Type 0) (keeping : AreKeeping Calls IsLater)
    (valid : (claims : List Content) (h : List Request) → IsCertBy rule x claims h → IsValidCert x claims h) (bare : List Act) (lawful : AreLawfulBy rule x BeginsThere Calls bare) (premises : Premises x bare) where
  -- what begins the log of each correct replica begins each certificate history
  begins_certs : (front : List Request) → ((r : ℕ) → r < 3 * x.cluster.f + 1 → faulty_in x r ≡ false → IsPrefix front (log_of bare r)) → (p : Party) (h : List Request) → Contains (observations bare) (Cert x.i p h) → IsPrefix front h
  begins_certs front each p h has =
      let taken = certified rule x BeginsThere Calls IsLater keeping bare lawful x.i p h has in
      let cert = valid taken.0.claims h taken.2 in
      correct_agree x taken.0.claims h cert premises.few front (λ v in_votes good.
      let within = All-contains (λ w. w.by < 3 * x.cluster.f + 1) cert.votes v cert.within in_votes in
      let signed = All-contains (λ w. Contains taken.0.claims (Abort (Replica w.by) x.i w.log)) cert.votes v cert.signed in_votes in
      let made = claimed machine x bare premises.honest taken.0 taken.1 (Abort (Replica v.by) x.i v.log) signed good in
      let found = abort_made rule x BeginsThere Calls IsLater keeping bare lawful x.i v.by v.log made in
      let log_is : v.log ≡ log_of bare v.by = found.log_is ∙ sym (ap log_at found.stopped.here) in
      subst (λ (l : List Request). IsPrefix front l) (sym log_is) (each v.by within good))

-- ---- where clients commit on the votes of all, and in a chain

module _ {S : Type 0} (machine : Machine S) (x : Setting) (is_mark : Content → Bool) (mark : ℕ → ℕ → List ℕ → Content) (acts : List Act) where
  -- what is stable, as each correct replica has it
  front_of : (front : List Request) (is : IsStable x mark acts front) → BeginsAll x acts is.number is.digest → (s : ℕ) → s < 3 * x.cluster.f + 1 → faulty_in x s ≡ false → IsPrefix front (log_of acts s)
  front_of front is each s lt good = subst (λ (h : List Request). IsPrefix h (log_of acts s)) (sym is.is_front) (each is.holder s is.within lt is.correct good).1

  -- the same without CHECKPOINTs
  bare_front : (bare : List Act) → Leaves is_mark acts bare → (front : List Request) (is : IsStable x mark acts front) → BeginsAll x acts is.number is.digest → (s : ℕ) → s < 3 * x.cluster.f + 1 → faulty_in x s ≡ false → IsPrefix front (log_of bare s)
  bare_front bare left front is each s lt good = subst (λ (logs : ℕ → List Request). IsPrefix front (logs s)) (same_logs is_mark acts bare left) (front_of front is each s lt good)

  pub stays_by_all : (n : ℕ) (d : List ℕ) → AreActsWithMarks (IsSound machine x) x is_mark mark acts → AreAllThere x mark acts n d → BeginsAll x acts n d
  stays_by_all n d with_marks all =
      let sound = with_marks.sound in
      begins_all machine x is_mark mark rules.All (AllCalls machine x) (all_keeping machine x) (λ older claims made r old new is. is.rises) acts with_marks.bare with_marks.left sound.later_than_none
      (all_by machine x with_marks.bare sound.lawful) sound.premises.apart with_marks.honest with_marks.owned with_marks.marked n d all

  pub stays_in_chain : (n : ℕ) (d : List ℕ) → AreActsWithMarks (IsTailSound machine x) x is_mark mark acts → AreAllThere x mark acts n d → BeginsAll x acts n d
  stays_in_chain n d with_marks all =
      let sound = with_marks.sound in
      begins_all machine x is_mark mark rules.Tail (TailCalls machine x) (tail_keeping machine x) (λ older claims made r old new is. is.rises) acts with_marks.bare with_marks.left sound.later_than_none
      sound.lawful sound.premises.apart with_marks.honest with_marks.owned with_marks.marked n d all

  pub later_by_all : (a : Act) (front : List Request) → AreActsWithMarks (IsSound machine x) x is_mark mark (a ∷ acts) → IsStable x mark acts front → IsStable x mark (a ∷ acts) front
  later_by_all a front with_marks is =
      stable_later machine x is_mark mark rules.All (AllCalls machine x) (all_keeping machine x) (λ older claims made r old new call. call.rises) a acts with_marks.bare front with_marks.left (all_by machine x with_marks.bare with_marks.sound.lawful) is

  pub later_in_chain : (a : Act) (front : List Request) → AreActsWithMarks (IsTailSound machine x) x is_mark mark (a ∷ acts) → IsStable x mark acts front → IsStable x mark (a ∷ acts) front
  later_in_chain a front with_marks is =
      stable_later machine x is_mark mark rules.Tail (TailCalls machine x) (tail_keeping machine x) (λ older claims made r old new call. call.rises) a acts with_marks.bare front with_marks.left with_marks.sound.lawful is

  pub certified_by_all : (front : List Request) → AreActsWithMarks (IsSound machine x) x is_mark mark acts → IsStable x mark acts front → (p : Party) (h : List Request) → Contains (observations acts) (Cert x.i p h) → IsPrefix front h
  certified_by_all front with_marks is p h has =
      let bare = with_marks.bare in
      let sound = with_marks.sound in
      begins_certs machine x rules.All (AllCalls machine x) (all_keeping machine x) (λ claims k valid. valid) bare (all_by machine x bare sound.lawful) sound.premises front
      (bare_front bare with_marks.left front is (stays_by_all is.number is.digest with_marks is.all)) p h
      (subst (λ (seen : List Seen). Contains seen (Cert x.i p h)) (same_seen is_mark acts bare with_marks.left) has)

  pub certified_in_chain : (front : List Request) → AreActsWithMarks (IsTailSound machine x) x is_mark mark acts → IsStable x mark acts front → (p : Party) (h : List Request) → Contains (observations acts) (Cert x.i p h) → IsPrefix front h
  certified_in_chain front with_marks is p h has =
      let bare = with_marks.bare in
      let sound = with_marks.sound in
      begins_certs machine x rules.Tail (TailCalls machine x) (tail_keeping machine x) (λ claims k valid. valid) bare sound.lawful sound.premises front
      (bare_front bare with_marks.left front is (stays_in_chain is.number is.digest with_marks is.all)) p h
      (subst (λ (seen : List Seen). Contains seen (Cert x.i p h)) (same_seen is_mark acts bare with_marks.left) has)
