-- Acts that PBFT's rules explain are of one order.
use Rattle.std.proofs.Common.{◌≡◌, ◌≢◌, ℕ, zero, suc, ◌+◌, ◌*◌, ◌<◌, true, false, Some, None, Option, List, [], ◌∷◌, ◌⊎◌, length, slice_get, refl, sym, ap, ◌∙◌, subst, inl, inr, arith}
use Rattle.std.specs.Prelude.{Contains}
use Rattle.std.proofs.lemmas.Bool.{cases_Bool, cases_lt}
use Rattle.std.proofs.lemmas.Option.{slice_get_within}
use mathlib.Core.List.{IsPrefix}
use Rattle.ab_num.specs.declared.party.Party.{Party}
use Rattle.ab_num.specs.declared.party.Party.TheVariants.{Replica, Client}
use Rattle.ab_hist.specs.declared.request.Request.{Request}
use Rattle.ab_hist.specs.Histories.{IsHistory, Comparable}
use Rattle.ab_msg.specs.declared.content.Content.{Content}
use Rattle.ab_msg.specs.Claims.{maker_of}
use Rattle.ab_abs.specs.Faults.{is_faulty}
use Rattle.ab_abs.specs.Observations.{IsInitHistory}
use Rattle.ab_abs.specs.Values.{list_of, base_in, goes}
use Rattle.ab_msg.specs.declared.value.Value.{Value}
use Rattle.ab_msg.specs.declared.value.Value.TheVariants.{Base, Request as Order}
use Rattle.ab_msg.specs.Slots.{slot_digest}
use Rattle.ab_abs.specs.Acts.{Setting, State, Act, observations, state_of, log_at, log_of, base_at, base_of, WasMade, IsHonest, own_acts}
use Rattle.ab_abs.specs.Backing.{IsCorrect}
use Rattle.ab_abs.specs.OrderRules.{WasClaimed}
use Rattle.ab_lock.specs.Steps.{Change, Cert, accepts, enters, state_of as core_of, Follows}
use Rattle.ab_lock.specs.Quorums.{RestsOn, NoCollision, Occurs, in_accepted, in_prepared, in_change, in_executed, TracePremises}
use Rattle.ab_lock.specs.Quorums as quorums
use Rattle.ab_lock.specs.Acts as lock
use Rattle.ab_lock.specs.Acts.{Prepare, Commit, ViewChange, made, Knows, taken, its_own, Backs}
use Rattle.ab_lock.proofs.ActLemmas.{steps_in, maker_made, backed_rests, lawful_follows, lawful_backs}
use Rattle.ab_lock.proofs.Executed.{executed_comparable, executed_source}
use Rattle.ab_lock.proofs.ExecutedFits.{executed_fits}
use Rattle.ab_pbft_rules.proofs.SlotValues.{log_prefix, no_collision}
use Rattle.ab_order.specs.Orders.{MayBeOrdered, IsOneOrder, is_ordering}
use Rattle.ab_order.proofs.BackupLaws.{not_both}
use Rattle.ab_lock.proofs.Settling.{executed_within}
use Rattle.std.specs.Str.{bytes_eq}
use Rattle.ab_num.proofs.Lists.{Contains-tail, Contains-cons_cases, Contains-none}
use Rattle.ab_pbft_rules.proofs.GoodValues.{good_prepared, good_executed}
use Rattle.ab_pbft_rules.proofs.ExecutedLists.{same_base, base_begins, list_some, is_empty, list_length, behind_claimed, base_init, list_rises}
use Rattle.ab_order.proofs.OwnActs.{own_state, in_own, own_within, claimed_within, init_within, ordered_within, IsWithin}
use Rattle.ab_pbft_rules.specs.Traces.{OrderStep, OrderAct, content_of, IsSource, IsTraced, IsPbftSound}

-- a source is one among more acts too
pub source_within : (x : Setting) (few many : List Act) (n : ℕ) (value : Value) → IsWithin few many → IsSource x few n value → IsSource x many n value
source_within x few many zero (Base h) within is = (init_within few many x.i h within is.0, is.1)
source_within x few many zero (Order m) within is = absurd is
source_within x few many (suc n) (Base h) within is = absurd is
source_within x few many (suc n) (Order m) within is = claimed_within few many _ within is

source_ordered : (x : Setting) (own : List Act) (n : ℕ) (value : Value) → IsSource x own n value → MayBeOrdered x own value
source_ordered x own zero (Base h) is = inl is.0
source_ordered x own zero (Order m) is = absurd is
source_ordered x own (suc n) (Base h) is = absurd is
source_ordered x own (suc n) (Order m) is = inl is

maker_is : (i : ℕ) (c : lock.LockContent (List ℕ)) → maker_of (content_of i c) ≡ Replica (lock.maker_of c)
maker_is i (Prepare r v n d) = refl
maker_is i (Commit r v n d) = refl
maker_is i (ViewChange r w entries) = refl

pub vote_orders : (i : ℕ) (c : lock.LockContent (List ℕ)) → is_ordering (content_of i c) ≡ true
vote_orders i (Prepare r v n d) = refl
vote_orders i (Commit r v n d) = refl
vote_orders i (ViewChange r w entries) = refl

-- a claim of a correct party was made
claim_made : (x : Setting) (acts : List Act) → IsHonest x acts → (s : Content) → WasClaimed acts s → is_faulty x.faulty (maker_of s) ≡ false → WasMade acts s
claim_made x [] honest s w correct = absurd (Contains-none w.0 w.1)
claim_made x (b ∷ acts) honest s w correct =
    elim (Contains-cons_cases b acts w.0 w.1) [
      | inl e ↦ let m = honest.0 s (subst (λ (c : Act). Contains c.claims s) (sym e) w.2) correct in (m.0, Contains-tail b m.0 acts m.1, m.2)
      | inr more ↦ let m = claim_made x acts honest.1 s (w.0, more, w.2) correct in (m.0, Contains-tail b m.0 acts m.1, m.2)
    ]

module _ (x : Setting) (k : ℕ) (acts : List Act) (sound : IsPbftSound x k acts) where
  abbrev pub trace : ℕ → List OrderAct
  trace r = (sound.explained r).0

  abbrev pub traces : ℕ → List OrderStep
  traces r = lock.steps_of (trace r) r

  is : (r : ℕ) → IsTraced x k r (own_acts r acts) (trace r)
  is r = (sound.explained r).1

  -- what was made by some replica's steps was made by its maker's
  abbrev pub Made : lock.LockContent (List ℕ) → Type 0
  Made c = (q : ℕ) × lock.WasMade slot_digest (trace q) c

  pub by_replica : (a : Act) (p : Party) (c : lock.LockContent (List ℕ)) → a.party ≡ p → Contains acts a → Contains a.made (content_of x.i c) → Made c
  by_replica a (Replica q) c party has makes = (q, (is q).made c (a, in_own acts q a has party, makes))
  by_replica a (Client q) c party has makes = absurd (not_both (is_ordering (content_of x.i c)) (vote_orders x.i c) (sound.clients a q (content_of x.i c) has party makes))

  known_made : (r : ℕ) (c : lock.LockContent (List ℕ)) → is_faulty x.faulty (Replica (lock.maker_of c)) ≡ false → Knows slot_digest (trace r) r c → Made c
  known_made r c good (taken a has mine claims) =
      let w = claimed_within (own_acts r acts) acts (content_of x.i c) (own_within acts r) ((is r).claimed a c has claims) in
      let m = claim_made x acts sound.premises.plain.honest (content_of x.i c) w (ap (λ p. is_faulty x.faulty p) (maker_is x.i c) ∙ good) in
      by_replica m.0 m.0.party c refl m.1 m.2
  known_made r c good (its_own was) = (r, was)

  -- and stands in its trace
  pub stepped : (c : lock.LockContent (List ℕ)) → Made c → (step : OrderStep) × Contains (traces (lock.maker_of c)) step × Contains (made slot_digest (lock.maker_of c) step) c
  stepped c made_it =
      let was = made_it.1 in
      let mine : was.act.by ≡ made_it.0 = (is made_it.0).mine was.act was.is_in in
      let by : was.act.by ≡ lock.maker_of c = maker_made slot_digest was.act.by was.step c was.makes in (
        was.step,
        subst (λ (q : ℕ). Contains (lock.steps_of (trace q) q) was.step) (sym mine ∙ by)
            (subst (λ (q : ℕ). Contains (lock.steps_of (trace made_it.0) q) was.step) mine (steps_in slot_digest (trace made_it.0) was.act was.step was.is_in was.is_step)),
        subst (λ (q : ℕ). Contains (made slot_digest q was.step) c) by was.makes,
      )

  follows : (r : ℕ) → Follows slot_digest goes k (traces r)
  follows r = lawful_follows slot_digest x.cluster.f (IsSource x (own_acts r acts)) goes k (trace r) (is r).lawful r

  backed : (r : ℕ) (step : OrderStep) → Contains (traces r) step → Backs slot_digest x.cluster.f (IsSource x (own_acts r acts)) (trace r) r step
  backed r step has = lawful_backs slot_digest x.cluster.f (IsSource x (own_acts r acts)) goes k (trace r) (is r).lawful r step has

  rests : (r : ℕ) (step : OrderStep) → Contains (traces r) step → RestsOn slot_digest x.cluster.f x.faulty traces (IsSource x acts) step
  rests r step has =
      backed_rests slot_digest x.cluster.f x.faulty traces Made stepped (trace r) r (known_made r) (IsSource x (own_acts r acts)) (IsSource x acts)
      (λ n value source. source_within x (own_acts r acts) acts n value (own_within acts r) source) step (backed r step has)

  -- what stands in a slot may be ordered
  ordered_accepts : (r n : ℕ) (value : Value) → Contains (traces r) (accepts n value) → MayBeOrdered x acts value
  ordered_accepts r n value has = source_ordered x acts n value (source_within x (own_acts r acts) acts n value (own_within acts r) (backed r (accepts n value) has))

  ordered_enters : (r w : ℕ) (vcs : List (Change Value)) (chosen : List Value) (c : Change Value) (t : ℕ) (cert : Cert Value) → Contains (traces r) (enters w vcs chosen) → Contains vcs c → slice_get c.certs t ≡ Some cert → MayBeOrdered x acts cert.value
  ordered_enters r w vcs chosen c t cert has in_vcs there = ordered_within x (own_acts r acts) acts cert.value (own_within acts r) ((is r).shown w vcs chosen c t cert has in_vcs there).1

  stands_ordered : (t : ℕ) (value : Value) → Occurs x.cluster.f x.faulty traces t value → MayBeOrdered x acts value
  stands_ordered t value (in_accepted r good has) = ordered_accepts r t value has
  stands_ordered t value (in_prepared r v h good has there) = good_prepared k (λ n z. MayBeOrdered x acts z) (traces r) (follows r) (ordered_accepts r) (ordered_enters r) v h has t value there
  stands_ordered t value (in_change r w vcs chosen c cert good has in_vcs there value_is) = subst (λ (z : Value). MayBeOrdered x acts z) value_is (ordered_enters r w vcs chosen c t cert has in_vcs there)
  stands_ordered t value (in_executed r v good has) = good_executed k (λ n z. MayBeOrdered x acts z) (traces r) (follows r) (ordered_accepts r) (ordered_enters r) v t value has

  apart : NoCollision slot_digest x.cluster.f x.faulty traces
  apart =
      no_collision x.cluster.f x.faulty traces k (λ r good. follows r)
      (λ r w vcs chosen c t cert has in_vcs there. ((is r).shown w vcs chosen c t cert has in_vcs there).0)
      (λ t h l one two e. sound.premises.slots.bases h l (stands_ordered t (Base h) one) (stands_ordered t (Base l) two) e)
      (λ t m n one two e. sound.premises.slots.requests m n (stands_ordered t (Order m) one) (stands_ordered t (Order n) two) e)

  -- the premises of the lock over views
  pub premises : TracePremises slot_digest x.cluster.f x.faulty traces (IsSource x acts) goes k
  premises = record {
    few = sound.premises.plain.few;
    follows = λ r good. follows r;
    rests = λ r good step has. rests r step has;
    apart = apart;
  }

  abbrev executed : ℕ → List Value
  executed r = (core_of (traces r)).executed

  good_of : (r : ℕ) → IsCorrect x r → quorums.IsCorrect x.cluster.f x.faulty r
  good_of r good = (good.within, good.correct)

  sources : (r : ℕ) → IsCorrect x r → (t : ℕ) (a : Value) → slice_get (executed r) t ≡ Some a → IsSource x acts t a
  sources r good t a there = executed_source slot_digest x.cluster.f x.faulty traces (IsSource x acts) goes k premises r (good_of r good) t a there

  compared : (r s : ℕ) → IsCorrect x r → IsCorrect x s → IsPrefix (executed r) (executed s) ⊎ IsPrefix (executed s) (executed r)
  compared r s one two = executed_comparable slot_digest x.cluster.f x.faulty traces (IsSource x acts) goes k premises r s (good_of r one) (good_of s two)

  -- where a replica is
  record IsWhere (r : ℕ) : Type 0 where
    log_is : log_of acts r ≡ list_of (executed r)
    base_is : base_of acts r ≡ base_in (executed r)

  where_is : (r : ℕ) → (log_of acts r ≡ []) ⊎ IsWhere r
  where_is r = of_state (state_of acts r) refl
    where
      of_state : (o : Option State) → state_of acts r ≡ o → (log_of acts r ≡ []) ⊎ IsWhere r
      of_state None none = inl (ap log_at none)
      of_state (Some s) here =
          let e = (is r).executes s (own_state acts r ∙ here) in inr (record { log_is = ap log_at here ∙ e.0; base_is = ap base_at here ∙ e.1 })

  has_some : (r : ℕ) → log_of acts r ≢ [] → IsWhere r
  has_some r some = elim (where_is r) [ inl none ↦ absurd (some none) | inr w ↦ w ]

  some_executed : (r : ℕ) → log_of acts r ≢ [] → executed r ≢ []
  some_executed r some = let w = has_some r some in list_some (executed r) (λ none. some (w.log_is ∙ none))

  one_base : (r s : ℕ) → IsCorrect x r → IsCorrect x s → executed r ≢ [] → executed s ≢ [] → base_in (executed r) ≡ base_in (executed s)
  one_base r s good_r good_s some_r some_s =
      elim (compared r s good_r good_s) [
        | inl p ↦ same_base (executed r) (executed s) p some_r
        | inr p ↦ sym (same_base (executed s) (executed r) p some_s)
      ]

  -- a correct replica that executed something, or none did
  found : (n : ℕ) → ((r : ℕ) × IsCorrect x r × (executed r ≢ [])) ⊎ ((r : ℕ) → r < n → IsCorrect x r → executed r ≡ [])
  found zero = inr (λ r lt good. absurd (omega (arith, lt)))
  found (suc n) =
      elim (found n) [
        | inl w ↦ inl w
        | inr none ↦
            elim (is_empty (executed n)) [
              | inl empty ↦ inr (λ r lt good. elim (cases_lt r n) [ inl below ↦ none r below good | inr not_below ↦ let e : r ≡ n = omega (arith, lt, not_below) in ap executed e ∙ empty ])
              | inr some ↦
                  elim (cases_Bool (is_faulty x.faulty (Replica n))) [
                    | inl faulty ↦ inr (λ r lt good. elim (cases_lt r n) [
                      | inl below ↦ none r below good
                      | inr not_below ↦ let e : r ≡ n = omega (arith, lt, not_below) in absurd (not_both (is_faulty x.faulty (Replica n)) faulty (ap (λ z. is_faulty x.faulty (Replica z)) (sym e) ∙ good.correct))
                    ])
                    | inr correct ↦
                        elim (cases_lt n (3 * x.cluster.f + 1)) [
                          | inl within ↦ inl (n, record { within = within; correct = correct }, some)
                          | inr beyond ↦ inr (λ r lt good. elim (cases_lt r n) [ inl below ↦ none r below good | inr not_below ↦ absurd (omega (arith, lt, not_below, beyond, good.within)) ])
                        ]
                  ]
            ]
      ]

  logs_comparable : (r s : ℕ) → IsCorrect x r → IsCorrect x s → Comparable (log_of acts r) (log_of acts s)
  logs_comparable r s good_r good_s =
      elim (where_is r) [
        | inl none ↦ inl (subst (λ (h : List Request). IsPrefix h (log_of acts s)) (sym none) (log_of acts s, refl))
        | inr w ↦ elim (where_is s) [
          | inl none ↦ inr (subst (λ (h : List Request). IsPrefix h (log_of acts r)) (sym none) (log_of acts r, refl))
          | inr u ↦ elim (compared r s good_r good_s) [
            | inl p ↦ inl (rw (w.log_is, u.log_is) (log_prefix (executed r) (executed s) p))
            | inr p ↦ inr (rw (w.log_is, u.log_is) (log_prefix (executed s) (executed r) p))
          ]
        ]
      ]

  log_rises : (r : ℕ) → IsCorrect x r → IsHistory (log_of acts r)
  log_rises r good =
      elim (where_is r) [
        | inl none ↦ subst (λ (h : List Request). IsHistory h) (sym none) (λ i j d lt within. absurd (omega (arith, within)))
        | inr w ↦
            subst (λ (h : List Request). IsHistory h) (sym w.log_is)
            (list_rises x k acts (executed r) (sources r good) (executed_fits slot_digest x.cluster.f x.faulty traces (IsSource x acts) goes k premises r (good_of r good)))
      ]

  -- the base that all share
  order_on : (base : List Request) → ((r : ℕ) → IsCorrect x r → executed r ≢ [] → base_in (executed r) ≡ base) → IsOneOrder x k acts
  order_on base all = record {
    base = base;
    is_init = λ r good some. subst (λ (h : List Request). IsInitHistory (observations acts) x.i h) (all r good (some_executed r some)) (base_init x acts (executed r) (sources r good) (some_executed r some));
    based = λ r good some. (has_some r some).base_is ∙ all r good (some_executed r some);
    begins = λ r good some. subst (λ (h : List Request). IsPrefix h (log_of acts r)) (all r good (some_executed r some)) (subst (λ (l : List Request). IsPrefix (base_in (executed r)) l) (sym (has_some r some).log_is) (base_begins (executed r)));
    comparable = logs_comparable;
    claimed = λ r n m good le there.
        let some : log_of acts r ≢ [] = λ none. omega (arith, ap length none, slice_get_within (log_of acts r) n m there) in
        let w = has_some r some in
        behind_claimed x acts (executed r) n m (sources r good) (omega (arith, le, ap length (all r good (some_executed r some)))) (ap (λ l. slice_get l n) (sym w.log_is) ∙ there);
    at_most = λ r good.
        elim (where_is r) [
          | inl none ↦ omega (arith, ap length none)
          | inr w ↦ elim (is_empty (executed r)) [
            | inl empty ↦ omega (arith, ap length w.log_is, ap (λ h. length (list_of h)) empty)
            | inr some ↦ omega (arith, ap length w.log_is, list_length k (executed r) (executed_within slot_digest bytes_eq goes k x.cluster.f r (traces r) (follows r)), ap length (all r good some))
          ]
        ];
    rises = log_rises;
  }

  pub one_order : IsOneOrder x k acts
  one_order =
      elim (found (3 * x.cluster.f + 1)) [
        | inl w ↦ order_on (base_in (executed w.0)) (λ r good some. one_base r w.0 good w.1 some w.2)
        | inr none ↦ order_on [] (λ r good some. absurd (some (none r good.within good)))
      ]
