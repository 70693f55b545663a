-- Each instance of a run over a protocol is a list of acts in which each call is its own.
use Rattle.std.proofs.Common.{◌≡◌, ◌≢◌, ℕ, ◌+◌, ◌*◌, ◌<◌, ◌≤◌, true, false, Option, None, Some, List, [], ◌∷◌, ◌⊎◌, refl, sym, ap, ◌∙◌, subst, inl, inr, arith, length}
use Rattle.std.proofs.lemmas.Bool.{cases_Bool, cases_eq}
use Rattle.ab_num.specs.declared.cluster.Cluster.{Cluster}
use Rattle.ab_num.specs.declared.party.Party.{Party}
use Rattle.ab_num.specs.declared.party.Party.TheVariants.{Replica}
use Rattle.ab_num.specs.Parties.{party_eq}
use Rattle.ab_num.proofs.Lists.{Contains-head}
use Rattle.ab_hist.specs.declared.request.Request.{Request}
use Rattle.ab_hist.specs.Histories.{IsHistory}
use Rattle.ab_abs.specs.declared.entry.Entry.{Entry}
use Rattle.ab_abs.specs.declared.seen.Seen.TheVariants.{Init}
use Rattle.ab_abs.specs.Faults.{is_faulty}
use Rattle.ab_abs.specs.Observations.{IsInitHistory}
use Rattle.ab_abs.specs.Acts.{Act, Setting, MayStart, unmarked, with_init, setting, observations, own_acts, state_of}
use Rattle.ab_abs.specs.Rules.{IsOther, by_client, takes as takes_cert, aborts}
use Rattle.ab_abs.specs.Deeds.{InstanceAct, acts_in}
use Rattle.ab_abs.specs.Ensembles.{Proto, Ensemble, EnsembleEvent, begins as begins_in, asked, accepts, panics, trims as trims_in, other, enters, Reached, at_first, further, MayTake, entry_of, trimmed_entry, begin_of, asked_of, halt_of, did, put}
use Rattle.ab_abs.proofs.Facts.{party_eq-Decides, init_later, init_first}
use Rattle.ab_abs.proofs.Reach.{did_cases, more_state, put_same, put_other}
use Rattle.ab_promises.specs.OwnCalls.{AreOwnCalls, none_yet, begins, takes, stops, trims, others}

-- an act that is no call is another's, or changes no state
other_apart : (x : Setting) (acts : List Act) (a : Act) → IsOther x acts a → (r : ℕ) → (a.party ≢ Replica r) ⊎ (a.state ≡ None)
other_apart x acts a (by_client c own is) r = inl (λ e. cc (own, e))
other_apart x acts a (takes_cert q claims k lt is valid) r = inr (ap (λ b. b.state) is)
other_apart x acts a (aborts q s lt was stopped is) r = inr (ap (λ b. b.state) is)

module _ {P : Type 0} (proto : Proto P) (c : Cluster) (faulty : List Party) where
  abbrev at : ℕ → Setting
  at i = setting c faulty i

  -- an init history that replica r itself observed
  abbrev IsOwnInit : List InstanceAct → ℕ → ℕ → List Request → Type 0
  IsOwnInit run i r h = IsInitHistory (observations (own_acts r (acts_in i run))) i h × IsHistory h

  -- the calls of instance i are its own, and lead to the values of the replicas that are in it
  record IsOwn (w : Ensemble P) (i : ℕ) : Type 0 where
    left : ℕ → Option P
    calls : AreOwnCalls proto (at i) (acts_in i w.run) left
    here : (r : ℕ) → w.at r ≡ i → left r ≡ Some (w.value r)

  record Keeps (w : Ensemble P) : Type 0 where
    fresh : (r i : ℕ) → w.at r < i → state_of (acts_in i w.run) r ≡ None
    based : (r : ℕ) → 1 ≤ w.at r → IsOwnInit w.run (w.at r) r (w.base r)
    own : (i : ℕ) → 1 ≤ i → IsOwn w i

  own_init_later : (i : ℕ) (a : Act) (acts : List Act) (r : ℕ) (h : List Request) → IsInitHistory (observations (own_acts r acts)) i h → IsInitHistory (observations (own_acts r (a ∷ acts))) i h
  own_init_later i a acts r h was =
      elim (cases_Bool (party_eq (Replica r) a.party)) [
        | inl same ↦ rw same (init_later (at i) a (own_acts r acts) h was)
        | inr differ ↦ rw differ was
      ]

  more_init : (j : ℕ) (a : Act) (run : List InstanceAct) (i r : ℕ) (h : List Request) → IsOwnInit run i r h → IsOwnInit (did j a run) i r h
  more_init j a run i r h was =
      elim (did_cases i j a run) [
        | inl here ↦ (subst (λ (acts : List Act). IsInitHistory (observations (own_acts r acts)) i h) (sym here.1) (own_init_later i a (acts_in i run) r h was.0), was.1)
        | inr else' ↦ (subst (λ (acts : List Act). IsInitHistory (observations (own_acts r acts)) i h) (sym else'.1) was.0, was.1)
      ]

  -- more calls of instance j, and none of any other
  module _ (j : ℕ) (a : Act) (run : List InstanceAct) where
    calls_here : (i : ℕ) (left : ℕ → Option P) → j ≡ i → acts_in i (did j a run) ≡ a ∷ acts_in i run → AreOwnCalls proto (at j) (a ∷ acts_in j run) left → AreOwnCalls proto (at i) (acts_in i (did j a run)) left
    calls_here i left same now is =
        subst (λ (acts : List Act). AreOwnCalls proto (at i) acts left) (sym now) (subst (λ (k : ℕ). AreOwnCalls proto (at k) (a ∷ acts_in k run) left) same is)

    calls_else : (i : ℕ) (left : ℕ → Option P) → acts_in i (did j a run) ≡ acts_in i run → AreOwnCalls proto (at i) (acts_in i run) left → AreOwnCalls proto (at i) (acts_in i (did j a run)) left
    calls_else i left same is = subst (λ (acts : List Act). AreOwnCalls proto (at i) acts left) (sym same) is

  -- replica r goes on in its instance
  goes_on : (w : Ensemble P) (r : ℕ) (p : P) (a : Act) → 1 ≤ w.at r → Keeps w → a.party ≡ Replica r
      → ((left : ℕ → Option P) → AreOwnCalls proto (at (w.at r)) (acts_in (w.at r) w.run) left → left r ≡ Some (w.value r) → AreOwnCalls proto (at (w.at r)) (a ∷ acts_in (w.at r) w.run) (put left r (Some p)))
      → Keeps (record { at = w.at; value = put w.value r p; base = w.base; run = did (w.at r) a w.run })
  goes_on w r p a one was own step = record {
    fresh = λ q i lt. more_state (w.at r) a w.run i q (λ e. inl (λ other'. let same : q ≡ r = cc (own, other') in omega (arith, lt, e, ap w.at same))) ∙ was.fresh q i lt;
    based = λ q begun. more_init (w.at r) a w.run (w.at q) q (w.base q) (was.based q begun);
    own = λ i one'.
        elim (did_cases i (w.at r) a w.run) [
          | inl now ↦
              let before = was.own (w.at r) one in
              record {
                left = put before.left r (Some p);
                calls = calls_here (w.at r) a w.run i (put before.left r (Some p)) now.0 now.1 (step before.left before.calls (before.here r refl));
                here = λ q in_i.
                    elim (cases_eq q r) [
                      | inl e ↦ subst (λ (z : ℕ). put before.left r (Some p) z ≡ Some (put w.value r p z)) (sym e) (put_same before.left r (Some p) ∙ ap Some (sym (put_same w.value r p)))
                      | inr ne ↦ put_other before.left r q (Some p) ne ∙ (before.here q (in_i ∙ sym now.0) ∙ ap Some (sym (put_other w.value r q p ne)))
                    ];
              }
          | inr else' ↦
              let before = was.own i one' in
              record {
                left = before.left;
                calls = calls_else (w.at r) a w.run i before.left else'.1 before.calls;
                here = λ q in_i.
                    let ne : q ≢ r = λ e. else'.0 (sym (ap w.at e) ∙ in_i) in
                    before.here q in_i ∙ ap Some (sym (put_other w.value r q p ne));
              }
        ];
  }

  -- replica r begins in a later instance k
  starts : (w : Ensemble P) (r k : ℕ) (e : Entry) → e.trimmed ≤ length e.base → r < 3 * c.f + 1 → is_faulty faulty (Replica r) ≡ false → 1 ≤ k → w.at r < k → IsHistory e.base → (k ≡ 1 → e.base ≡ []) → Keeps w
      → Keeps (record { at = put w.at r k; value = put w.value r (proto.begin c k r e); base = put w.base r e.base; run = did k (begin_of proto (at k) r e) w.run })
  starts w r k e fits lt good one above rises nothing was =
      let a = begin_of proto (at k) r e in
      let p = proto.begin c k r e in
      let may : MayStart (at k) (acts_in k w.run) r e.base = record { within = lt; correct = good; none = was.fresh r k above; rises = rises; nothing = nothing } in
      let mine : party_eq (Replica r) (Replica r) ≡ true = (party_eq-Decides (Replica r) (Replica r)).1 refl in
      let own_init : IsOwnInit (did k a w.run) k r e.base =
      elim (did_cases k k a w.run) [
        | inl here ↦ (subst (λ (acts : List Act). IsInitHistory (observations (own_acts r acts)) k e.base) (sym here.1) (rw mine (init_first (at k) (own_acts r (acts_in k w.run)) a r e.base (proto.state p) one nothing refl)), rises)
        | inr else' ↦ absurd (else'.0 refl)
      ] in
      record {
        fresh = λ q i over.
            elim (cases_eq q r) [
              | inl same ↦
                  let over' : k < i = omega (arith, over, ap (put w.at r k) same, put_same w.at r k) in
                  subst (λ (z : ℕ). state_of (acts_in i (did k a w.run)) z ≡ None) (sym same) (more_state k a w.run i r (λ is. absurd (omega (arith, is, over'))) ∙ was.fresh r i (omega (arith, above, over')))
              | inr ne ↦ more_state k a w.run i q (λ _. inl (λ own. ne (cc (own)))) ∙ was.fresh q i (omega (arith, over, put_other w.at r q k ne))
            ];
        based = λ q begun.
            elim (cases_eq q r) [
              | inl same ↦
                  subst (λ (z : ℕ). IsOwnInit (did k a w.run) (put w.at r k z) z (put w.base r e.base z)) (sym same)
                  (subst (λ (i : ℕ). IsOwnInit (did k a w.run) i r (put w.base r e.base r)) (sym (put_same w.at r k))
                  (subst (λ (h : List Request). IsOwnInit (did k a w.run) k r h) (sym (put_same w.base r e.base)) own_init))
              | inr ne ↦
                  let at_is : put w.at r k q ≡ w.at q = put_other w.at r q k ne in
                  subst (λ (i : ℕ). IsOwnInit (did k a w.run) i q (put w.base r e.base q)) (sym at_is)
                  (subst (λ (h : List Request). IsOwnInit (did k a w.run) (w.at q) q h) (sym (put_other w.base r q e.base ne))
                  (more_init k a w.run (w.at q) q (w.base q) (was.based q (subst (λ (i : ℕ). 1 ≤ i) at_is begun))))
            ];
        own = λ i one'.
            elim (did_cases i k a w.run) [
              | inl now ↦
                  let before = was.own k one in
                  record {
                    left = put before.left r (Some p);
                    calls = calls_here k a w.run i (put before.left r (Some p)) now.0 now.1 (begins r e fits before.calls may);
                    here = λ q in_i.
                        elim (cases_eq q r) [
                          | inl same ↦ subst (λ (z : ℕ). put before.left r (Some p) z ≡ Some (put w.value r p z)) (sym same) (put_same before.left r (Some p) ∙ ap Some (sym (put_same w.value r p)))
                          | inr ne ↦
                              put_other before.left r q (Some p) ne
                              ∙ (before.here q (sym (put_other w.at r q k ne) ∙ (in_i ∙ sym now.0)) ∙ ap Some (sym (put_other w.value r q p ne)))
                        ];
                  }
              | inr else' ↦
                  let before = was.own i one' in
                  record {
                    left = before.left;
                    calls = calls_else k a w.run i before.left else'.1 before.calls;
                    here = λ q in_i.
                        let ne : q ≢ r = λ same. else'.0 (sym (put_same w.at r k) ∙ (sym (ap (put w.at r k) same) ∙ in_i)) in
                        before.here q (sym (put_other w.at r q k ne) ∙ in_i) ∙ ap Some (sym (put_other w.value r q p ne));
                  }
            ];
      }

  none_before : IsHistory []
  none_before i j e less in_h = absurd (omega (arith, in_h))

  step_keeps : (w v : Ensemble P) → EnsembleEvent proto c faulty w v → Keeps w → Keeps v
  step_keeps w v (begins_in r lt good zero') was = starts w r 1 (entry_of [] None) (omega arith) lt good (omega arith) (omega (arith, zero')) none_before (λ _. refl) was
  step_keeps w v (asked r pen m lt good begun formed for settled) was =
      let x = at (w.at r) in
      let acts = acts_in (w.at r) w.run in
      let a = asked_of proto x r pen (w.value r) m [] in
      let based = was.based r begun in
      let may : MayTake proto x acts r pen (w.value r) m [] = record {
        formed = formed;
        for = for;
        noted = unmarked refl;
        settled = λ cert is. elim (settled cert is) [ inl same ↦ inl same | inr own ↦ inr (w.base r, own, init_later x a (own_acts r acts) (w.base r) based.0, based.1) ];
      } in
      goes_on w r (proto.after pen (w.value r) m) a begun was refl (λ left calls value. takes r (w.value r) pen m [] calls value may)
  step_keeps w v (accepts r j pen m h lt good one at_is formed for first_is rises took_it) was =
      let x = at (w.at r) in
      let acts = acts_in (w.at r) w.run in
      let seen = Init (w.at r) r h ∷ [] in
      let a = asked_of proto x r pen (w.value r) m seen in
      let later : 1 < w.at r = omega (arith, at_is, one) in
      let marked : IsInitHistory (observations (a ∷ own_acts r acts)) (w.at r) h = inr (later, r, Contains-head (Init (w.at r) r h) (observations (own_acts r acts))) in
      let may : MayTake proto x acts r pen (w.value r) m seen = record { formed = formed; for = for; noted = with_init h first_is rises later refl; settled = λ _ _. inr (h, first_is, marked, rises) } in
      goes_on w r (proto.after pen (w.value r) m) a (omega (arith, later)) was refl (λ left calls value. takes r (w.value r) pen m seen calls value may)
  step_keeps w v (panics r lt good begun) was = goes_on w r (proto.halt (w.value r)) (halt_of proto r (w.value r)) begun was refl (λ left calls value. stops r (w.value r) calls value)
  step_keeps w v (trims_in r n lt good begun low high) was =
      let p = proto.trim n (w.value r) in
      record {
        fresh = was.fresh;
        based = was.based;
        own = λ i one'.
            let before = was.own i one' in
            elim (cases_eq i (w.at r)) [
              | inl now ↦ record {
                left = put before.left r (Some p);
                calls = trims r n (w.value r) before.calls (before.here r (sym now)) low high;
                here = λ q in_i.
                    elim (cases_eq q r) [
                      | inl e ↦ subst (λ (z : ℕ). put before.left r (Some p) z ≡ Some (put w.value r p z)) (sym e) (put_same before.left r (Some p) ∙ ap Some (sym (put_same w.value r p)))
                      | inr ne ↦ put_other before.left r q (Some p) ne ∙ (before.here q in_i ∙ ap Some (sym (put_other w.value r q p ne)))
                    ];
              }
              | inr else' ↦ record {
                left = before.left;
                calls = before.calls;
                here = λ q in_i.
                    let ne : q ≢ r = λ e. else' (sym in_i ∙ ap w.at e) in
                    before.here q in_i ∙ ap Some (sym (put_other w.value r q p ne));
              }
            ];
      }
  step_keeps w v (other k a one good is) was = record {
    fresh = λ q i lt. more_state k a w.run i q (λ _. other_apart (at k) (acts_in k w.run) a is q) ∙ was.fresh q i lt;
    based = λ q begun. more_init k a w.run (w.at q) q (w.base q) (was.based q begun);
    own = λ i one'.
        let before = was.own i one' in
        record {
          left = before.left;
          calls = elim (did_cases i k a w.run) [
            | inl now ↦ subst (λ (acts : List Act). AreOwnCalls proto (at i) acts before.left) (sym now.1) (others a before.calls good (subst (λ (z : ℕ). IsOther (at z) (acts_in z w.run) a) now.0 is))
            | inr else' ↦ calls_else k a w.run i before.left else'.1 before.calls
          ];
          here = before.here;
        };
  }
  step_keeps w v (enters r j n held h lt good begun le fits rises took_it) was =
      starts w r (j + 1) (trimmed_entry h n held) fits lt good (omega arith) (omega (arith, le)) rises (λ e. absurd (omega (arith, e, begun, le))) was

  keeps : (w : Ensemble P) → Reached proto c faulty w → Keeps w
  keeps w (at_first value base) = record {
    fresh = λ r i lt. refl;
    based = λ r begun. absurd (omega (arith, begun));
    own = λ i one. record { left = λ r. None; calls = none_yet; here = λ r in_i. absurd (omega (arith, one, in_i)) };
  }
  keeps w (further {w = u} before step) = step_keeps u w step (keeps u before)

  pub runs_own : (w : Ensemble P) → Reached proto c faulty w → (i : ℕ) → 1 ≤ i → (left : ℕ → Option P) × AreOwnCalls proto (at i) (acts_in i w.run) left
  runs_own w reached i one = let is = (keeps w reached).own i one in (is.left, is.calls)
