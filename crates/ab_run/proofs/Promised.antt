-- Every run that meets the premises is ordered, whatever its replicas trimmed.
use Rattle.std.proofs.Common.{◌≡◌, ℕ, zero, suc, ◌+◌, ◌<◌, ◌≤◌, Bool, true, false, Option, None, Some, List, [], ◌∷◌, ◌++◌, ◌⊎◌, length, take, refl, sym, ap, ◌∙◌, subst, inl, inr, arith}
use Rattle.std.specs.Prelude.{Contains, ◌&&◌, nat_le, nat_lt, if◌then◌else◌, flat_map}
use Rattle.std.proofs.lemmas.Bool.{cases_Bool, and_parts, leb-true, lt-ltb}
use Rattle.std.proofs.lemmas.List.Elements.{Contains-append_right, Contains-append_left}
use Rattle.ab_num.specs.declared.plan.Kind.{Kind}
use Rattle.ab_num.proofs.Lists.{Contains-head, Contains-tail, Contains-cons_cases, Contains-flat_map}
use Rattle.ab_num.specs.declared.party.Party.TheVariants.{Replica, Client}
use Rattle.ab_hist.specs.declared.request.Request.{Request}
use Rattle.ab_hist.specs.Digests.{digest_of}
use Rattle.ab_hist.specs.Trimmed.{Trimmed, StandsFor, trim}
use Rattle.ab_svc.specs.Machines.{Machine}
use Rattle.ab_msg.specs.declared.content.Content.{Content}
use Rattle.ab_msg.specs.declared.content.Content.TheVariants.{TrimmedAbort}
use Rattle.ab_msg.specs.declared.signed.Signed.{Signed}
use Rattle.ab_msg.specs.declared.message.Msg.{Msg}
use Rattle.ab_msg.specs.Claims.{signed_contents, maker_of, claims}
use Rattle.ab_abs.specs.Faults.{is_faulty}
use Rattle.ab_abs.specs.Acts.{State, Premises, state_of, log_at}
use Rattle.ab_abs.specs.Certificates.{history_of}
use Rattle.ab_abs.specs.Deeds.{InstanceAct, acts_in, seen_in, named_in_run}
use Rattle.ab_abs.specs.Ensembles.{Proto, Ensemble, Reached}
use Rattle.ab_abs.specs.Instances.{EachIsAbstract}
use Rattle.ab_abs.specs.Messages.{took}
use Rattle.ab_abs.specs.Order.{Ordered}
use Rattle.ab_abs.specs.Promises.{MeetsPremises}
use Rattle.ab_stable.specs.Offers.{Based, are_whole, list_of, based_on_whole, based_on_list, offered_start, start_of}
use Rattle.ab_stable.proofs.Offered.{base_from_list, base_from_whole}
use Rattle.ab_run.proofs.Links.{no_collision}
use Rattle.ab_trim.proofs.Stands.{trims}
use Rattle.ab_run.proofs.Showing.{IsNamedList}
use Rattle.ab_run.proofs.Hears.{TakesAll}
use Rattle.ab_run.proofs.Taken.{takes_all}
use Rattle.ab_run.proofs.KeptLists.{kept_listed}
use Rattle.ab_run.specs.Clients.{CliAction, moves}
use Rattle.ab_trim.specs.Links.{NoneCollide}
use Rattle.ab_run.specs.Setups.{RunSetup, within, replicas, last_instance}
use Rattle.ab_run.specs.Replicas.{Rep, RepAction, turn_enter, brought, cert_instance, state_at, own_list, offer_to, may_begin, after_turn, after_turns, taken, due, due_by, due_with, is_spent, closing, closed, turns}
use Rattle.ab_run.specs.Runs.{Event, invoke, to_replica, to_client, replica_time, client_time, Run, checks, histories_for, run, named_by, requests_for, stated_list, lists_for, take_move, take_moves, step}
use Rattle.ab_run.specs.Acted.{deeds_of}
use Rattle.ab_run.specs.Premises.{AreFormed, RunPremises}
use Rattle.ab_run.specs.Trimming.{IsCommon}
use Rattle.ab_run.proofs.Kept.{AreRules}
use Rattle.ab_run.proofs.Reasons.{IsGood, IsVouchedFor, IsReasoned, vouched_later, reasoned_later}
use Rattle.ab_run.proofs.Dues.{Kept, Brings, is_entered, brought_checked}
use Rattle.ab_run.proofs.Events.{EventRight, AreRight, run_kept, acts_meet, whole_run_abstract, whole_run_ordered, told}
use Rattle.ab_run.proofs.Common.{IsTrimmedTo, own_log, run_vouched}
use Rattle.ab_run.proofs.Grows.{step_grew, premises_before, nothing_had, entered_had}
use Rattle.ab_run.proofs.Fronts.{IsKnown, same_fronts, front_common, front_of_log}
use Rattle.ab_run.proofs.Entering.{list_agreed}
use Rattle.ab_run.proofs.Entered.{own_logged, list_reasoned, list_certified, list_known}

-- what a correct client checks is kept
listed_now : {P : Type 0} (k : RunSetup) (c : ℕ) (m : Msg) (w : Run P) → is_faulty k.faulty (Client c) ≡ false → (s : Content) → Contains (claims k.cluster.f (Client c) m) s → (l : Trimmed) → Contains (stated_list s) l
    → Contains (checks k (Client c) m w).lists l
listed_now k c m w good s has l on =
    let all = flat_map stated_list (claims k.cluster.f (Client c) m) in
    let there : Contains (if is_faulty k.faulty (Client c) then [] else all) l = subst (λ (b : Bool). Contains (if b then [] else all) l) (sym good) (Contains-flat_map stated_list (claims k.cluster.f (Client c) m) s l has on) in
    Contains-append_left (lists_for k (Client c) m) w.lists l there

-- its moves add nothing to that
moves_add : {P : Type 0} (k : RunSetup) (c : ℕ) (ts : List CliAction) (w : Run P) → ((take_moves k c w ts).had ≡ w.had) × ((take_moves k c w ts).lists ≡ w.lists)
moves_add k c [] w = (refl, refl)
moves_add k c (t ∷ ts) w = moves_add k c ts (take_move k c w t)

checked_apart : {P : Type 0} (k : RunSetup) (proto : Proto P) (c : ℕ) (m : Msg) (w : Run P) → nat_lt c k.cluster.clients ≡ true → is_faulty k.faulty (Client c) ≡ false → NoneCollide (step k proto w (to_client c m)).had (step k proto w (to_client c m)).lists
    → NoneCollide (checks k (Client c) m w).had (checks k (Client c) m w).lists
checked_apart k proto c m w lt good apart =
    let now = checks k (Client c) m w in
    let ts = moves k c (w.clis c) m in
    let done = take_moves k c now ts in
    let at = if is_faulty k.faulty (Client c) then record now { clis = done.clis } else done in
    let here : NoneCollide at.had at.lists = subst (λ (b : Bool). NoneCollide (if b then at else w).had (if b then at else w).lists) lt apart in
    let moved : NoneCollide done.had done.lists = subst (λ (b : Bool). NoneCollide (if b then record now { clis = done.clis } else done).had (if b then record now { clis = done.clis } else done).lists) good here in
    let same = moves_add k c ts now in
    subst (λ (hs : List (List Request)). NoneCollide hs now.lists) same.0 (subst (λ (ls : List Trimmed). NoneCollide done.had ls) same.1 moved)

module _ {S P : Type 0} (machine : Machine S) (k : RunSetup) (proto : Proto P) (serves : Kind → Bool) (law : AreRules k proto serves)
    (abstract : (v : Ensemble P) → Reached proto k.cluster k.faulty v → MeetsPremises k.cluster k.faulty v.run → EachIsAbstract machine (seen_in v.run) (named_in_run k.cluster k.faulty v.run) k.faulty) where
  abbrev pub Right : List Event → Type 0
  Right events = AreRight k proto serves law events

  abbrev pub kept_of : (events : List Event) → AreFormed k events → RunPremises k proto events → Right events → Kept k proto serves law (run k proto events) (deeds_of k proto events)
  kept_of events formed premises right = run_kept k proto serves law events formed premises.honest right

  pub known_of : (events : List Event) (formed : AreFormed k events) (premises : RunPremises k proto events) (right : Right events) → IsKnown machine k proto serves law (run k proto events) (kept_of events formed premises right).ensemble
  known_of events formed premises right =
      let kept = kept_of events formed premises right in
      let v = kept.ensemble in
      let meets : MeetsPremises k.cluster k.faulty v.run = λ i one. subst (λ (d : List InstanceAct). Premises (within k i) (acts_in i d)) (sym kept.acts) (acts_meet k proto serves law events formed premises right i) in
      record { keeps = kept.keeps; vouched = run_vouched k proto serves law events formed premises.honest right; meets = meets; abstract = abstract v kept.keeps.reached meets }

  -- a replica that enters does so first
  enters_first : (r : ℕ) (s : Rep P) (m : Msg) (cert : List Signed) (b : Based) → brought m ≡ Some cert → offer_to k proto s (cert_instance cert) cert ≡ Some b → is_entered k proto serves law [] s (cert_instance cert) b ≡ true → is_spent k proto r s (took m) ≡ false
      → (rest : List RepAction) × (turns k proto r s (took m) ≡ turn_enter (cert_instance cert) cert b.trimmed b.base ∷ rest)
  enters_first r s m cert b brings offer enters rests =
      let j = cert_instance cert in
      let t = turn_enter j cert b.trimmed b.base in
      let more = taken k proto r (after_turn k proto r s t) m in
      let due_is : due k proto r s (took m) ≡ t ∷ more =
      ap (λ (o : Option (List Signed)). due_by k proto r s m o) brings ∙ ap (λ (o : Option Based). due_with k proto r s m j cert o) offer ∙ ap (λ (z : Bool). if z then t ∷ more else taken k proto r s m) enters in
      (more ++ closing k proto r (after_turns k proto r s (t ∷ more)), ap (λ (z : Bool). if z then [] else closed k proto r s (due k proto r s (took m))) rests ∙ ap (λ (ts : List RepAction). closed k proto r s ts) due_is)

  module _ (r : ℕ) (m : Msg) (events : List Event) (formed : AreFormed k (to_replica r m ∷ events)) (premises : RunPremises k proto (to_replica r m ∷ events)) (right : Right events)
      (lt : r < replicas k) (good : is_faulty k.faulty (Replica r) ≡ false) (cert : List Signed) (b : Based) (brings : brought m ≡ Some cert)
      (offer : offer_to k proto ((run k proto events).reps r) (cert_instance cert) cert ≡ Some b) (enters : is_entered k proto serves law [] ((run k proto events).reps r) (cert_instance cert) b ≡ true)
      (rests : is_spent k proto r ((run k proto events).reps r) (took m) ≡ false) where
    abbrev w : Run P
    w = run k proto events

    abbrev s : Rep P
    s = w.reps r

    abbrev log : List Request
    log = (state_at k proto s).log

    abbrev n : ℕ
    n = proto.trimmed s.value

    abbrev had : List (List Request)
    had = (run k proto (to_replica r m ∷ events)).had

    before : RunPremises k proto events
    before = premises_before k proto (to_replica r m) events premises

    abbrev v : Ensemble P
    v = (kept_of events formed.1 before right).ensemble

    known : IsKnown machine k proto serves law w v
    known = known_of events formed.1 before right

    bigger : (l : List Request) → Contains w.had l → Contains had l
    bigger = (step_grew k proto (to_replica r m) w).had

    base_had : Contains had b.base
    base_had = let first = enters_first r s m cert b brings offer enters rests in entered_had k proto serves law r m w (cert_instance cert) cert b.trimmed b.base first.0 (lt-ltb r (replicas k) lt) good first.1

    at_least : s.at ≤ cert_instance cert
    at_least = leb-true s.at (cert_instance cert) (and_parts (nat_le s.at (cert_instance cert)) (nat_lt (cert_instance cert) last_instance && may_begin k proto (cert_instance cert + 1) b.trimmed) enters).0

    log_had : (log ≡ []) ⊎ Contains had log
    log_had =
        let own = own_log k proto serves law w v r (lt, good) known.keeps in
        elim (known.vouched.had_of s.at r (lt, good)) [ inl none ↦ inl (sym own ∙ none) | inr has ↦ inr (bigger log (subst (λ (h : List Request). Contains w.had h) own has)) ]

    -- what is trimmed of its own log
    own_is : (i : ℕ) → n ≡ suc i → own_list k proto s ≡ log
    own_is i some = elim (known.vouched.trimmed_of r (lt, good)) [ inl none ↦ absurd (omega (arith, none, some)) | inr to ↦ own_logged i log s.entry.base (omega (arith, to.fits, some)) ]

    own_fits : n ≤ length (own_list k proto s)
    own_fits = by_number n refl
      where
        by_number : (i : ℕ) → n ≡ i → n ≤ length (own_list k proto s)
        by_number zero none = omega (arith, none)
        by_number (suc i) some = elim (known.vouched.trimmed_of r (lt, good)) [ inl none ↦ absurd (omega (arith, none, some)) | inr to ↦ subst (λ (h : List Request). n ≤ length h) (sym (own_is i some)) to.fits ]

    own_reasoned : b.trimmed ≡ n → ((i : ℕ) → n ≡ suc i → take n b.base ≡ take n log) → IsReasoned k w.made w.had (cert_instance cert) b.trimmed b.base
    own_reasoned same fronts = by_number n refl
      where
        by_number : (i : ℕ) → n ≡ i → IsReasoned k w.made w.had (cert_instance cert) b.trimmed b.base
        by_number zero none = inl (same ∙ none)
        by_number (suc i) some =
            elim (known.vouched.trimmed_of r (lt, good)) [
              | inl none ↦ absurd (omega (arith, none, some))
              | inr to ↦
                  let later = vouched_later k w.made w.made w.had w.had s.at (cert_instance cert) (take n log) (λ c has. has) (λ l has. has) at_least to.reason in
                  inr (subst (λ (f : List Request). IsVouchedFor k w.made w.had (cert_instance cert) f) (sym (fronts i some) ∙ ap (λ i'. take i' b.base) (sym same)) later)
            ]

    whole_reasoned : (o : Option (List Request)) → based_on_whole n (own_list k proto s) o ≡ Some b → IsReasoned k w.made w.had (cert_instance cert) b.trimmed b.base
    whole_reasoned None is = absurd (cc (is))
    whole_reasoned (Some h) is =
        let by = base_from_whole n (own_list k proto s) h b is in
        own_reasoned by.1 (λ i some.
        let own = own_is i some in
        let fits : n ≤ length log = elim (known.vouched.trimmed_of r (lt, good)) [ inl none ↦ absurd (omega (arith, none, some)) | inr to ↦ to.fits ] in
        let same : digest_of (take n b.base) ≡ digest_of (take n log) = ap (λ g. digest_of (take n g)) by.0 ∙ by.3 ∙ ap (λ g. digest_of (take n g)) own in
        same_fronts had n b.base log (no_collision had (run k proto (to_replica r m ∷ events)).lists premises.apart) (inr base_had) log_had same (omega (arith, by.2, ap length by.0)) fits)

    part_right : (o : Option Trimmed) → list_of k.cluster (cert_instance cert) cert ≡ o → based_on_list n (own_list k proto s) o ≡ Some b → are_whole cert ≡ false
        → IsReasoned k w.made w.had (cert_instance cert) b.trimmed b.base × Brings k proto serves law v.run (checks k (Replica r) m w) s (cert_instance cert) cert b
    part_right None listed is part' = absurd (cc (is))
    part_right (Some t) listed is part' =
        let j = cert_instance cert in
        let agreed = list_agreed k.cluster j cert t listed in
        let base = base_from_list n (own_list k proto s) t own_fits b is in
        let honest : (c : Content) → Contains (signed_contents cert) c → is_faulty k.faulty (maker_of c) ≡ false → Contains w.made c =
        λ c has correct. (told k proto serves law (Replica r) m w premises.honest.0 good).honest c (brought_checked k.cluster.f r m cert brings c has) correct in
        let free = no_collision had (run k proto (to_replica r m ∷ events)).lists premises.apart in
        let reasoned : IsReasoned k w.made w.had j b.trimmed b.base =
        elim base.4 [
          | inl own ↦ own_reasoned own (λ i some. ap (λ i'. take i' b.base) (sym own) ∙ base.6 ∙ ap (λ i'. take i' (own_list k proto s)) own ∙ ap (take n) (own_is i some))
          | inr listed' ↦ subst (λ (i : ℕ). IsReasoned k w.made w.had j i b.base) (sym listed') (list_reasoned machine k proto serves law w v known had free bigger premises.few j cert t honest agreed b.base base_had base.0 base.1)
        ] in
        let certified = list_certified machine k proto serves law w v known had free bigger premises.few j cert t honest agreed b.base base_had base.0 base.1 part' (nothing_had k proto events) in
        let parts = and_parts (nat_le s.at j) (nat_lt j last_instance && may_begin k proto (j + 1) b.trimmed) enters in (
          reasoned,
          record {
            later = at_least;
            fits = base.3;
            rises = base.7;
            certified = record {
              valid = certified.valid;
              honest = certified.honest;
              kept = λ l has. elim (Contains-cons_cases b.base w.had l (certified.kept l has)) [
                | inl e ↦ subst (λ (g : List Request). Contains (b.base ∷ (checks k (Replica r) m w).had) g) e (Contains-head b.base (checks k (Replica r) m w).had)
                | inr old ↦ Contains-tail b.base l (checks k (Replica r) m w).had (Contains-append_right (histories_for k (Replica r) m) w.had l old)
              ];
              opened = λ q has. Contains-append_right (requests_for k (Replica r) m) w.asked q (certified.opened q has);
            };
            begins = (and_parts (nat_lt j last_instance) (may_begin k proto (j + 1) b.trimmed) parts.1).1;
            named =
                let from : t.start ≡ offered_start k.cluster j cert = sym (ap (λ z. if z then 0 else start_of (list_of k.cluster j cert)) part' ∙ ap start_of listed) in
                subst (λ (i : ℕ). IsNamedList k v.run j b.base (trim i b.base)) from (record {
                  stands = trims t.start b.base (omega (arith, base.0));
                  known = list_known machine k proto serves law w v known had free bigger premises.few j cert t honest agreed b.base base_had base.0 base.1;
                });
            reasoned = reasoned_later k w.made w.made w.had (checks k (Replica r) m w).had j j b.trimmed b.base (λ c has. has) (λ l has. Contains-append_right (histories_for k (Replica r) m) w.had l has) (omega arith) reasoned;
          },
        )

    entry_right : IsReasoned k w.made (checks k (Replica r) m w).had (cert_instance cert) b.trimmed b.base × (are_whole cert ≡ false → Brings k proto serves law (deeds_of k proto events) (checks k (Replica r) m w) s (cert_instance cert) cert b)
    entry_right =
        let j = cert_instance cert in
        let later : IsReasoned k w.made w.had j b.trimmed b.base → IsReasoned k w.made (checks k (Replica r) m w).had j b.trimmed b.base =
        reasoned_later k w.made w.made w.had (checks k (Replica r) m w).had j j b.trimmed b.base (λ c has. has) (λ l has. Contains-append_right (histories_for k (Replica r) m) w.had l has) (omega arith) in
        let by : Bool → Option Based = λ z. if z then based_on_whole n (own_list k proto s) (history_of k.cluster j cert) else based_on_list n (own_list k proto s) (list_of k.cluster j cert) in
        elim (cases_Bool (are_whole cert)) [
          | inl whole ↦ (later (whole_reasoned (history_of k.cluster j cert) (sym (ap by whole) ∙ offer)), λ part. let both : true ≡ false = sym whole ∙ part in absurd (cc (both)))
          | inr part ↦
              let made = part_right (list_of k.cluster j cert) refl (sym (ap by part) ∙ offer) part in
              (later made.0, λ _. subst (λ (d : List InstanceAct). Brings k proto serves law d (checks k (Replica r) m w) s j cert b) (kept_of events formed.1 before right).acts made.1)
        ]

  -- and what clients take
  client_right : (c : ℕ) (m : Msg) (events : List Event) → AreFormed k (to_client c m ∷ events) → RunPremises k proto (to_client c m ∷ events) → Right events → EventRight k proto serves law (run k proto events) (deeds_of k proto events) (to_client c m)
  client_right c m events formed premises right lt good =
      let w = run k proto events in
      let before = premises_before k proto (to_client c m) events premises in
      let kept = kept_of events formed.1 before right in
      let now = checks k (Client c) m w in
      let apart = checked_apart k proto c m w lt good premises.apart in (
        subst (λ (d : List InstanceAct). TakesAll k proto serves law d now) kept.acts (takes_all machine k proto serves law w kept.ensemble (known_of events formed.1 before right) c m (nothing_had k proto events) premises.few apart),
        (
          (λ u has l on. Contains-append_right (lists_for k (Client c) m) w.lists l (kept_listed k proto events c good u has l on)),
          (λ s has l on. listed_now k c m w good s has l on),
        ),
      )

  event_right : (e : Event) (events : List Event) → AreFormed k (e ∷ events) → RunPremises k proto (e ∷ events) → Right events → EventRight k proto serves law (run k proto events) (deeds_of k proto events) e
  event_right (invoke c command) events formed premises right = tt
  event_right (to_replica r m) events formed premises right = λ lt good cert b brings offer enters rests. entry_right r m events formed premises right lt good cert b brings offer enters rests
  event_right (to_client c m) events formed premises right = λ lt good. client_right c m events formed premises right lt good
  event_right (replica_time r) events formed premises right = tt
  event_right (client_time c) events formed premises right = tt

  pub all_right : (events : List Event) → AreFormed k events → RunPremises k proto events → Right events
  all_right [] formed premises = tt
  all_right (e ∷ events) formed premises =
      let right = all_right events formed.1 (premises_before k proto e events premises) in
      (event_right e events formed premises right, right)

  -- ---- what follows

  pub run_meets : (events : List Event) → AreFormed k events → RunPremises k proto events → (i : ℕ) → Premises (within k i) (acts_in i (deeds_of k proto events))
  run_meets events formed premises = acts_meet k proto serves law events formed premises (all_right events formed premises)

  pub run_abstract : (events : List Event) → AreFormed k events → RunPremises k proto events → EachIsAbstract machine (run k proto events).seen (named_by k (run k proto events)) k.faulty
  run_abstract events formed premises = whole_run_abstract machine k proto serves law events formed premises (all_right events formed premises) abstract

  pub run_ordered : ((v : Ensemble P) → Reached proto k.cluster k.faulty v → MeetsPremises k.cluster k.faulty v.run → Ordered machine (seen_in v.run) (named_in_run k.cluster k.faulty v.run) k.faulty)
      → (events : List Event) → AreFormed k events → RunPremises k proto events → Ordered machine (run k proto events).seen (named_by k (run k proto events)) k.faulty
  run_ordered ordered events formed premises = whole_run_ordered machine k proto serves law events formed premises (all_right events formed premises) ordered

  -- what is trimmed begins the log of each correct replica that has one there
  module _ (events : List Event) (formed : AreFormed k events) (premises : RunPremises k proto events) where
    abbrev done : Run P
    done = run k proto events

    abbrev right_run : Right events
    right_run = all_right events formed premises

    known_run : IsKnown machine k proto serves law done (kept_of events formed premises right_run).ensemble
    known_run = known_of events formed premises right_run

    trimmed_if : (i n r q : ℕ) → IsGood k q → IsTrimmedTo k proto serves law done.made done.had i n (done.log i r) → (o : Option State) → state_of (acts_in i (kept_of events formed premises right_run).ensemble.run) q ≡ o
        → (done.log i q ≡ []) ⊎ IsCommon n (done.log i r) (done.log i q)
    trimmed_if i n r q good to None none = inl (known_run.keeps.log i q good.0 good.1 ∙ ap log_at none)
    trimmed_if i n r q good to (Some st) some =
        let v = (kept_of events formed premises right_run).ensemble in
        let c = front_of_log n (done.log i r) (done.log i q) to.fits (front_common machine k proto serves law done v known_run done.had (no_collision done.had done.lists premises.apart) (λ l has. has) i (take n (done.log i r)) to.reason q good to.makes st some) in
        inr (record { reaches = c.0; same = c.1 })

    pub trimmed_common : (r q : ℕ) → IsGood k r → IsGood k q → (done.log (done.reps r).at q ≡ []) ⊎ IsCommon (proto.trimmed (done.reps r).value) (done.log (done.reps r).at r) (done.log (done.reps r).at q)
    trimmed_common r q good_r good_q =
        let s = done.reps r in
        let own = own_log k proto serves law done (kept_of events formed premises right_run).ensemble r good_r known_run.keeps in
        elim (known_run.vouched.trimmed_of r good_r) [
          | inl none ↦ inr (record { reaches = omega (arith, none); same = ap (λ m. take m (done.log s.at q)) none ∙ sym (ap (λ m. take m (done.log s.at r)) none) })
          | inr to ↦
              trimmed_if s.at (proto.trimmed s.value) r q good_q (subst (λ (h : List Request). IsTrimmedTo k proto serves law done.made done.had s.at (proto.trimmed s.value) h) (sym own) to)
              (state_of (acts_in s.at (kept_of events formed premises right_run).ensemble.run) q) refl
        ]

    -- and what an ABORT of a trimmed log states is of the replica's log
    pub aborts_common : (r i n : ℕ) (d : List ℕ) (rest : List Request) → IsGood k r → Contains done.made (TrimmedAbort (Replica r) i n d rest)
        → StandsFor (record { start = n; digest = d; rest = rest }) (done.log i r) × ((q : ℕ) → IsGood k q → (done.log i q ≡ []) ⊎ IsCommon n (done.log i r) (done.log i q))
    aborts_common r i n d rest good made =
        let stated = (known_run.vouched.stated_of r i n d rest good made).0 in
        (stated.stands, λ q good_q. trimmed_if i n r q good_q (record { makes = stated.makes; fits = stated.stands.reaches; reason = stated.reason }) (state_of (acts_in i (kept_of events formed premises right_run).ensemble.run) q) refl)
