-- What holds of the acts of each instance, whatever events come to replicas that go from instance to instance.
use Rattle.std.proofs.Common.{◌≡◌, ◌≢◌, ℕ, ◌+◌, ◌<◌, ◌≤◌, Some, None, List, [], ◌∷◌, ◌⊎◌, length, refl, sym, ap, ◌∙◌, subst, inl, inr, arith}
use Rattle.std.specs.Prelude.{Bool, Contains}
use Rattle.std.proofs.lemmas.Bool.{cases_eq}
use Rattle.ab_num.specs.declared.cluster.Cluster.{Cluster}
use Rattle.ab_num.specs.declared.plan.Kind.{Kind}
use Rattle.ab_num.specs.declared.party.Party.{Party}
use Rattle.ab_num.specs.declared.party.Party.TheVariants.{Replica}
use Rattle.ab_num.proofs.Lists.{Contains-one, Contains-none}
use Rattle.ab_hist.specs.declared.request.Request.{Request}
use Rattle.ab_msg.specs.Pens.{Pen}
use Rattle.ab_abs.specs.declared.entry.Entry.{Entry}
use Rattle.ab_abs.specs.declared.seen.Seen.{Seen}
use Rattle.ab_abs.specs.declared.seen.Seen.TheVariants.{Init, Cert}
use Rattle.ab_abs.specs.Acts.{Act, Setting, State, setting, state_of}
use Rattle.ab_abs.specs.Deeds.{InstanceAct, acts_in}
use Rattle.ab_abs.specs.Ensembles.{Proto, Ensemble, EnsembleEvent, begins, asked, accepts, panics, trims, other, enters, Reached, at_first, further, entry_of, trimmed_entry, begin_of, asked_of, halt_of, did, put}
use Rattle.ab_abs.specs.FormLaws.{Belongs, begun, called, halted, trimmed}
use Rattle.ab_abs.specs.Messages.{Call}
use Rattle.ab_abs.specs.Promises.{ServesAll}
use Rattle.ab_abs.specs.Rules.{IsOther, by_client, takes, aborts}
use Rattle.ab_abs.proofs.Facts.{state_cases, state_own, state_quiet}
use Rattle.ab_abs.proofs.Reach.{did_cases, more_state, put_same, put_other}

-- an act that is no call leaves each replica where it is
pub other_quiet : (x : Setting) (acts : List Act) (a : Act) → IsOther x acts a → (r : ℕ) → state_of (a ∷ acts) r ≡ state_of acts r
other_quiet x acts a (by_client c own is) r =
    elim (state_cases a acts r) [ inl same ↦ absurd (cc (own, same.0)) | inr differ ↦ differ.1 ]
other_quiet x acts a (takes q claims h lt is valid) r = state_quiet a acts r (ap (λ b. b.state) is)
other_quiet x acts a (aborts q s lt was stopped is) r = state_quiet a acts r (ap (λ b. b.state) is)

other_apart : (x : Setting) (acts : List Act) (a : Act) → IsOther x acts a → (r : ℕ) → (a.party ≢ Replica r) ⊎ (a.state ≡ None)
other_apart x acts a (by_client c own is) r = inl (λ e. cc (own, e))
other_apart x acts a (takes q claims h lt is valid) r = inr (ap (λ b. b.state) is)
other_apart x acts a (aborts q s lt was stopped is) r = inr (ap (λ b. b.state) is)

-- where an act leaves its own replica
own_state : (j : ℕ) (a : Act) (run : List InstanceAct) (r : ℕ) (s : State) → a.party ≡ Replica r → a.state ≡ Some s → state_of (acts_in j (did j a run)) r ≡ Some s
own_state j a run r s own is =
    elim (did_cases j j a run) [
      | inl here ↦ ap (λ acts. state_of acts r) here.1 ∙ state_own a (acts_in j run) r s own is
      | inr else' ↦ absurd (else'.0 refl)
    ]

-- what holds of r with the value v, and of each other with what it had, holds of each with what it now has
put_each : {A : Type 0} (f : ℕ → A) (r : ℕ) (v : A) (M : ℕ → A → Type 0) → M r v → ((q : ℕ) → q ≢ r → M q (f q)) → (q : ℕ) → M q (put f r v q)
put_each {A} f r v M own others q =
    elim (cases_eq q r) [
      | inl e ↦ subst (λ (k : ℕ). M k (put f r v k)) (sym e) (subst (λ (u : A). M r u) (sym (put_same f r v)) own)
      | inr ne ↦ subst (λ (u : A). M q u) (sym (put_other f r q v ne)) (others q ne)
    ]

put_both : {A B : Type 0} (f : ℕ → A) (g : ℕ → B) (r : ℕ) (u : A) (v : B) (M : ℕ → A → B → Type 0) → M r u v → ((q : ℕ) → q ≢ r → M q (f q) (g q)) → (q : ℕ) → M q (put f r u q) (put g r v q)
put_both {A} {B} f g r u v M own others =
    put_each f r u (λ q a. M q a (put g r v q)) (subst (λ (b : B). M r u b) (sym (put_same g r v)) own)
    (λ q ne. subst (λ (b : B). M q (f q) b) (sym (put_other g r q v ne)) (others q ne))

module _ {P : Type 0} (proto : Proto P) (serves : Kind → Bool) (rests : (n : ℕ) (p : P) → proto.state (proto.trim n p) ≡ proto.state p) (c : Cluster) (faulty : List Party) (all : ServesAll serves c) where
  abbrev at : ℕ → Setting
  at i = setting c faulty i

  -- the acts of an instance have Q: none have it, and each further act keeps it
  pub record IsKept (Q : ℕ → List Act → Type 0) : Type 0 where
    pub nothing : (i : ℕ) → Q i []
    pub begun_by : (i r : ℕ) (e : Entry) (acts : List Act) → 1 ≤ i → (i ≡ 1 → e.base ≡ []) → state_of acts r ≡ None → Q i acts → Q i (begin_of proto (at i) r e ∷ acts)
    pub called_by : (i r : ℕ) (pen : Pen) (p : P) (call : Call) (seen : List Seen) (acts : List Act) → Belongs proto serves c i r p → state_of acts r ≡ Some (proto.state p)
        → ((j : ℕ) (q : Party) (h : List Request) → Contains seen (Cert j q h) → ⊥) → Q i acts → Q i (asked_of proto (at i) r pen p call seen ∷ acts)
    pub halted_by : (i r : ℕ) (p : P) (acts : List Act) → state_of acts r ≡ Some (proto.state p) → Q i acts → Q i (halt_of proto r p ∷ acts)
    pub other_by : (i : ℕ) (a : Act) (acts : List Act) → IsOther (at i) acts a → Q i acts → Q i (a ∷ acts)

  module _ (Q : ℕ → List Act → Type 0) (kept : IsKept Q) where
    record Keeps (w : Ensemble P) : Type 0 where
      fresh : (r i : ℕ) → w.at r < i → state_of (acts_in i w.run) r ≡ None
      belongs : (r : ℕ) → 1 ≤ w.at r → Belongs proto serves c (w.at r) r (w.value r)
      stands : (r : ℕ) → 1 ≤ w.at r → state_of (acts_in (w.at r) w.run) r ≡ Some (proto.state (w.value r))
      holds : (i : ℕ) → Q i (acts_in i w.run)

    more_holds : (j : ℕ) (a : Act) (run : List InstanceAct) → ((i : ℕ) → Q i (acts_in i run)) → Q j (a ∷ acts_in j run) → (i : ℕ) → Q i (acts_in i (did j a run))
    more_holds j a run was now i =
        elim (did_cases i j a run) [
          | inl here ↦ subst (λ (acts : List Act). Q i acts) (sym here.1) (subst (λ (k : ℕ). Q k (a ∷ acts_in k run)) here.0 now)
          | inr else' ↦ subst (λ (acts : List Act). Q i acts) (sym else'.1) (was i)
        ]

    -- replica r goes on in its instance
    goes_on : (w : Ensemble P) (r : ℕ) (p : P) (a : Act) → Keeps w → a.party ≡ Replica r → a.state ≡ Some (proto.state p) → Belongs proto serves c (w.at r) r p → Q (w.at r) (a ∷ acts_in (w.at r) w.run)
        → Keeps (record { at = w.at; value = put w.value r p; base = w.base; run = did (w.at r) a w.run })
    goes_on w r p a was own left is now =
        let run = did (w.at r) a w.run in
        record {
          fresh = λ q i lt. more_state (w.at r) a w.run i q (λ e. inl (λ other'. let same : q ≡ r = cc (own, other') in omega (arith, lt, e, ap w.at same))) ∙ was.fresh q i lt;
          belongs = put_each w.value r p (λ q v. 1 ≤ w.at q → Belongs proto serves c (w.at q) q v) (λ _. is) (λ q ne. was.belongs q);
          stands = put_each w.value r p (λ q v. 1 ≤ w.at q → state_of (acts_in (w.at q) run) q ≡ Some (proto.state v)) (λ _. own_state (w.at r) a w.run r (proto.state p) own left)
              (λ q ne begun'. more_state (w.at r) a w.run (w.at q) q (λ _. inl (λ other'. ne (cc (own, other')))) ∙ was.stands q begun');
          holds = more_holds (w.at r) a w.run was.holds now;
        }

    -- replica r begins in a later instance k
    starts : (w : Ensemble P) (r k : ℕ) (e : Entry) → e.trimmed ≤ length e.base → 1 ≤ k → w.at r < k → (k ≡ 1 → e.base ≡ []) → Keeps w
        → Keeps (record { at = put w.at r k; value = put w.value r (proto.begin c k r e); base = put w.base r e.base; run = did k (begin_of proto (at k) r e) w.run })
    starts w r k e fits one above empty was =
        let a = begin_of proto (at k) r e in
        let p = proto.begin c k r e in
        let run = did k a w.run in
        record {
          fresh = put_each w.at r k (λ q j. (i : ℕ) → j < i → state_of (acts_in i run) q ≡ None)
              (λ i over. more_state k a w.run i r (λ is. absurd (omega (arith, is, over))) ∙ was.fresh r i (omega (arith, above, over)))
              (λ q ne i over. more_state k a w.run i q (λ _. inl (λ own. ne (cc (own)))) ∙ was.fresh q i over);
          belongs = put_both w.at w.value r k p (λ q i v. 1 ≤ i → Belongs proto serves c i q v) (λ _. begun e (all k one) fits) (λ q ne. was.belongs q);
          stands = put_both w.at w.value r k p (λ q i v. 1 ≤ i → state_of (acts_in i run) q ≡ Some (proto.state v)) (λ _. own_state k a w.run r (proto.state p) refl refl)
              (λ q ne begun'. more_state k a w.run (w.at q) q (λ _. inl (λ own. ne (cc (own)))) ∙ was.stands q begun');
          holds = more_holds k a w.run was.holds (kept.begun_by k r e (acts_in k w.run) one empty (was.fresh r k above) (was.holds k));
        }

    asks : (w : Ensemble P) (r : ℕ) (pen : Pen) (m : Call) (seen : List Seen) → 1 ≤ w.at r → ((j : ℕ) (q : Party) (h : List Request) → Contains seen (Cert j q h) → ⊥) → Keeps w
        → Keeps (record { at = w.at; value = put w.value r (proto.after pen (w.value r) m); base = w.base; run = did (w.at r) (asked_of proto (at (w.at r)) r pen (w.value r) m seen) w.run })
    asks w r pen m seen one no_cert was =
        let of_it = was.belongs r one in
        goes_on w r (proto.after pen (w.value r) m) (asked_of proto (at (w.at r)) r pen (w.value r) m seen) was refl refl (called pen (w.value r) m of_it)
        (kept.called_by (w.at r) r pen (w.value r) m seen (acts_in (w.at r) w.run) of_it (was.stands r one) no_cert (was.holds (w.at r)))

    step_keeps : (w v : Ensemble P) → EnsembleEvent proto c faulty w v → Keeps w → Keeps v
    step_keeps w v (begins r lt good zero') was = starts w r 1 (entry_of [] None) (omega arith) (omega arith) (omega (arith, zero')) (λ _. refl) was
    step_keeps w v (asked r pen m lt good one formed for settled) was = asks w r pen m [] one (λ j q h none. Contains-none (Cert j q h) none) was
    step_keeps w v (accepts r j pen m h lt good one at_is formed for first_is rises took_it) was =
        asks w r pen m (Init (w.at r) r h ∷ []) (omega (arith, at_is)) (λ k q l has. let e = Contains-one (Init (w.at r) r h) (Cert k q l) has in cc (e)) was
    step_keeps w v (panics r lt good one) was =
        goes_on w r (proto.halt (w.value r)) (halt_of proto r (w.value r)) was refl refl (halted (w.value r) (was.belongs r one))
        (kept.halted_by (w.at r) r (w.value r) (acts_in (w.at r) w.run) (was.stands r one) (was.holds (w.at r)))
    step_keeps w v (trims r n lt good one low high) was =
        let p = proto.trim n (w.value r) in
        record {
          fresh = was.fresh;
          belongs = put_each w.value r p (λ q u. 1 ≤ w.at q → Belongs proto serves c (w.at q) q u) (λ _. trimmed n (w.value r) low high (was.belongs r one)) (λ q ne. was.belongs q);
          stands = put_each w.value r p (λ q u. 1 ≤ w.at q → state_of (acts_in (w.at q) w.run) q ≡ Some (proto.state u)) (λ _. was.stands r one ∙ ap Some (sym (rests n (w.value r)))) (λ q ne. was.stands q);
          holds = was.holds;
        }
    step_keeps w v (other i a one good is) was =
        let apart = other_apart (at i) (acts_in i w.run) a is in
        record {
          fresh = λ q k above. more_state i a w.run k q (λ _. apart q) ∙ was.fresh q k above;
          belongs = was.belongs;
          stands = λ q begun'. more_state i a w.run (w.at q) q (λ _. apart q) ∙ was.stands q begun';
          holds = more_holds i a w.run was.holds (kept.other_by i a (acts_in i w.run) is (was.holds i));
        }
    step_keeps w v (enters r j n held h lt good one le fits rises took_it) was =
        starts w r (j + 1) (trimmed_entry h n held) fits (omega arith) (omega (arith, le)) (λ e. absurd (omega (arith, e, one, le))) was

    keeps : (w : Ensemble P) → Reached proto c faulty w → Keeps w
    keeps w (at_first value base) = record {
      fresh = λ r i lt. refl;
      belongs = λ r one. absurd (omega (arith, one));
      stands = λ r one. absurd (omega (arith, one));
      holds = λ i. kept.nothing i;
    }
    keeps w (further {w = u} before step) = step_keeps u w step (keeps u before)

    -- so the acts of each instance have Q, whatever events come
    pub all_keep : (w : Ensemble P) → Reached proto c faulty w → (i : ℕ) → Q i (acts_in i w.run)
    all_keep w reached = (keeps w reached).holds
