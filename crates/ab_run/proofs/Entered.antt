-- Each certificate of trimmed logs that a correct party takes is one of whole logs among acts, and what it trims has a reason.
use Rattle.std.proofs.Common.{◌≡◌, ℕ, zero, suc, ◌+◌, ◌<◌, ◌≤◌, Bool, true, false, Option, List, [], ◌∷◌, ◌⊎◌, length, take, drop, refl, sym, ap, ◌∙◌, subst, inl, inr, arith}
use Rattle.std.specs.Prelude.{Contains, if◌then◌else◌, unwrap_or, count_by}
use Rattle.std.proofs.lemmas.Bool.{cases_Bool}
use Rattle.std.proofs.lemmas.List.{take-append-le, take-append-drop}
use mathlib.Core.List.{IsPrefix}
use base.Growing.{prefix_trans}
use Rattle.ab_num.specs.declared.plan.Kind.{Kind}
use Rattle.ab_num.specs.declared.party.Party.TheVariants.{Replica}
use Rattle.ab_num.specs.Places.{kind_of}
use Rattle.ab_num.proofs.Lists.{Contains-head, Contains-tail, Contains-map_cases, flat_map_cases, Contains-one, Contains-none}
use Rattle.ab_hist.specs.declared.request.Request.{Request}
use Rattle.ab_hist.specs.Digests.{NoCollision, digest_of}
use Rattle.ab_hist.specs.Trimmed.{Trimmed, StandsFor, untrimmed, end_of, holds, digest_at}
use Rattle.ab_svc.specs.Machines.{Machine}
use Rattle.ab_msg.specs.declared.content.Content.{Content}
use Rattle.ab_msg.specs.declared.content.Content.TheVariants.{Abort, TrimmedAbort}
use Rattle.ab_msg.specs.declared.signed.Signed.{Signed}
use Rattle.ab_msg.specs.Carried.{is_replica, stated_history, stated_request}
use Rattle.ab_msg.specs.Claims.{maker_of, signed_contents}
use Rattle.ab_trim.specs.Points.{IsLastPoint}
use Rattle.ab_trim.proofs.Stands.{whole_stands}
use Rattle.ab_abs.specs.Faults.{is_faulty}
use Rattle.ab_abs.specs.Acts.{WasMade}
use Rattle.ab_abs.specs.Backing.{IsStopped}
use Rattle.ab_abs.specs.Deeds.{acts_in}
use Rattle.ab_abs.specs.Ensembles.{Proto, Ensemble, cert_claims}
use Rattle.ab_abs.specs.Rules.{IsValidCert}
use Rattle.ab_stable.specs.Certs.{Stated, lists_of, IsFair}
use Rattle.ab_stable.specs.CertActs.{MeetsForgetting, faulty_in, whole_claims}
use Rattle.ab_stable.specs.Offers.{are_whole, makes_checkpoints, votes_in, whole_log}
use Rattle.ab_stable.proofs.EnsembleLogs.{abort_logs}
use Rattle.ab_stable.proofs.Offered.{valid, held_by_one, ends_at_point}
use Rattle.ab_stable.proofs.FoundLists.{found_agrees}
use Rattle.ab_run.specs.Setups.{RunSetup, within, replicas}
use Rattle.ab_run.specs.Replicas.{Rep, logged_or, state_at}
use Rattle.ab_run.specs.Runs.{Run}
use Rattle.ab_run.specs.Acted.{entry_claims}
use Rattle.ab_run.proofs.Kept.{AreRules}
use Rattle.ab_run.proofs.Reasons.{IsGood, IsVouchedFor, IsReasoned, vouched_later}
use Rattle.ab_run.proofs.Turns.{AreCertified}
use Rattle.ab_run.proofs.Fronts.{IsKnown, front_common}
use Rattle.ab_run.proofs.Entering.{IsStatedBy, whole, trimmed, AreAgreed, votes_claimed, votes_within, cert_by, plain_abort}

-- the first entries begin the first few more
prefix_takes : (n m : ℕ) (h : List Request) → n ≤ m → IsPrefix (take n h) (take m h)
prefix_takes zero m h le = (take m h, refl)
prefix_takes (suc n) zero h le = absurd (omega arith)
prefix_takes (suc n) (suc m) [] le = ([], refl)
prefix_takes (suc n) (suc m) (x ∷ h) le = let p = prefix_takes n m h (omega arith) in (p.0, ap (λ l. x ∷ l) p.1)

-- what is logged is known, if anything is
pub own_logged : (n : ℕ) (log base : List Request) → suc n ≤ length log → logged_or log base ≡ log
own_logged n [] base le = absurd (omega arith)
own_logged n (m ∷ log) base le = refl

module _ {S P : Type 0} (machine : Machine S) (k : RunSetup) (proto : Proto P) (serves : Kind → Bool) (law : AreRules k proto serves) (w : Run P) (v : Ensemble P) (known : IsKnown machine k proto serves law w v)
    (had : List (List Request)) (apart : NoCollision had) (bigger : (l : List Request) → Contains w.had l → Contains had l) (few : count_by is_replica k.faulty ≤ k.cluster.f) where
  abbrev log_of_rep : Rep P → List Request
  log_of_rep s = (state_at k proto s).log

  -- what a correct replica says of its log as it aborts
  record IsRight (j : ℕ) (u : Stated) : Type 0 where
    stands : StandsFor u.list (w.log j u.by)
    stopped : IsStopped (acts_in j v.run) u.by
    made : WasMade (acts_in j v.run) (Abort (Replica u.by) j (w.log j u.by))
    reason : (u.list.start ≡ 0) ⊎ IsVouchedFor k w.made w.had j (take u.list.start (w.log j u.by))

  logged : (j : ℕ) (u : Stated) (h : List Request) → IsGood k u.by → WasMade (acts_in j v.run) (Abort (Replica u.by) j h) → (h ≡ w.log j u.by) × IsStopped (acts_in j v.run) u.by
  logged j u h good made =
      let l = abort_logs proto serves law.form k.cluster k.faulty law.all v known.keeps.reached j u.by h made in
      (l.0 ∙ sym (known.keeps.log j u.by good.0 good.1), l.1)

  right_of : (j : ℕ) (u : Stated) (s : Content) → IsGood k u.by → makes_checkpoints (kind_of k.cluster.plan j) ≡ true → Contains w.made s → IsStatedBy j s u → IsRight j u
  right_of j u s good makes has (whole h says list_is) =
      let has' : Contains w.made (Abort (Replica u.by) j h) = subst (λ (c : Content). Contains w.made c) says has in
      let made = (known.keeps.made (Abort (Replica u.by) j h) has').ruled refl in
      let l = logged j u h good made in
      record {
        stands = subst (λ (t : Trimmed). StandsFor t (w.log j u.by)) (sym list_is) (subst (λ (g : List Request). StandsFor (untrimmed h) g) l.0 (whole_stands h));
        stopped = l.1;
        made = subst (λ (g : List Request). WasMade (acts_in j v.run) (Abort (Replica u.by) j g)) l.0 made;
        reason = inl (ap (λ (t : Trimmed). t.start) list_is);
      }
  right_of j u s good makes has (trimmed says) =
      let t = u.list in
      let content = TrimmedAbort (Replica u.by) j t.start t.digest t.rest in
      let has' : Contains w.made content = subst (λ (c : Content). Contains w.made c) says has in
      let stated = (known.vouched.stated_of u.by j t.start t.digest t.rest good has').0 in
      let states = (known.keeps.made content has').trimmed u.by j t.start t.digest t.rest refl in
      let made : WasMade (acts_in j v.run) (Abort (Replica u.by) j states.at.log) = subst (λ (c : Content). WasMade (acts_in j v.run) c) (plain_abort (kind_of k.cluster.plan j) k.cluster.f j u.by states.at makes) states.has in
      let l = logged j u states.at.log good made in
      record {
        stands = stated.stands;
        stopped = l.1;
        made = subst (λ (g : List Request). WasMade (acts_in j v.run) (Abort (Replica u.by) j g)) l.0 made;
        reason = inr stated.reason;
      }

  -- a certificate of trimmed logs
  module _ (j : ℕ) (cert : List Signed) (t : Trimmed) (honest : (s : Content) → Contains (signed_contents cert) s → is_faulty k.faulty (maker_of s) ≡ false → Contains w.made s) (agreed : AreAgreed k.cluster j cert t) where
    abbrev pub votes_of : List Stated
    votes_of = agreed.votes

    maker_stated : (s : Content) (u : Stated) → IsStatedBy j s u → maker_of s ≡ Replica u.by
    maker_stated s u (whole h says list_is) = ap maker_of says
    maker_stated s u (trimmed says) = ap maker_of says

    right : (u : Stated) → IsFair (faulty_in (within k j)) votes_of u → IsRight j u
    right u fair =
        let c = votes_claimed k.cluster j cert votes_of agreed.stated u fair.there in
        let by = maker_stated c.content u c.vote.says in
        right_of j u c.content (c.vote.within, fair.correct) agreed.makes (honest c.content c.there (ap (is_faulty k.faulty) by ∙ fair.correct)) c.vote.says

    pub good_of : (u : Stated) → IsFair (faulty_in (within k j)) votes_of u → IsGood k u.by
    good_of u fair = ((votes_claimed k.cluster j cert votes_of agreed.stated u fair.there).vote.within, fair.correct)

    common : (u x : Stated) → IsFair (faulty_in (within k j)) votes_of u → IsFair (faulty_in (within k j)) votes_of x → IsPrefix (take u.list.start (w.log j u.by)) (w.log j x.by)
    common u x fair_u fair_x =
        let one = right u fair_u in
        let two = right x fair_x in
        elim one.reason [
          | inl none ↦ subst (λ (n : ℕ). IsPrefix (take n (w.log j u.by)) (w.log j x.by)) (sym none) (w.log j x.by, refl)
          | inr why ↦
              let later = vouched_later k w.made w.made w.had had j j (take u.list.start (w.log j u.by)) (λ c has. has) bigger (omega arith) why in
              front_common machine k proto serves law w v known had apart bigger j (take u.list.start (w.log j u.by)) later x.by (good_of x fair_x) agreed.makes two.stopped.at two.stopped.here
        ]

    pub meets : MeetsForgetting (within k j) (w.log j) votes_of
    meets = record { few = few; stands = λ u fair. (right u fair).stands; common = common }

    pub logs_had : (u : Stated) → IsFair (faulty_in (within k j)) votes_of u → (w.log j u.by ≡ []) ⊎ Contains had (w.log j u.by)
    logs_had u fair = elim (known.vouched.had_of j u.by (good_of u fair)) [ inl none ↦ inl none | inr has ↦ inr (bigger (w.log j u.by) has) ]

    -- h ends where the list does
    module _ (h : List Request) (h_had : Contains had h) (long : length h ≡ end_of t) (same : digest_of h ≡ digest_at t (end_of t)) where
      point : IsLastPoint (k.cluster.f + 1) (lists_of votes_of) (length h) (digest_of h)
      point =
          let ends = ends_at_point (k.cluster.f + 1) (lists_of votes_of) t (found_agrees (k.cluster.f + 1) (lists_of votes_of) (omega arith) t agreed.agreed) in
          subst (λ (n : ℕ). IsLastPoint (k.cluster.f + 1) (lists_of votes_of) n (digest_of h)) (sym long) (subst (λ (d : List ℕ). IsLastPoint (k.cluster.f + 1) (lists_of votes_of) (end_of t) d) (sym same) ends)

      is_valid : IsValidCert (within k j) (whole_claims (within k j) (whole_log (faulty_in (within k j)) (w.log j) h) votes_of) h
      is_valid = valid (within k j) (w.log j) votes_of h had agreed.enough point meets apart h_had logs_had (votes_within k.cluster j cert votes_of agreed.stated)

      pub holder : (u : Stated) × IsFair (faulty_in (within k j)) votes_of u × IsPrefix h (w.log j u.by) × (t.start ≤ u.list.start)
      holder = held_by_one (within k j) (w.log j) votes_of h had agreed.enough point meets apart h_had logs_had t agreed.agreed

      -- the log that has what the list has forgotten
      pub list_known : (t.start ≡ 0) ⊎ ((q : ℕ) × IsGood k q × (l : List Request) × IsPrefix (take t.start h) l × WasMade (acts_in j v.run) (Abort (Replica q) j l))
      list_known =
          let u = holder.0 in
          inr (u.by, good_of u holder.1, w.log j u.by, prefix_trans (take t.start h) h (w.log j u.by) (drop t.start h, take-append-drop t.start h) holder.2, (right u holder.1).made)

      -- what it trims has a reason
      pub list_reasoned : IsReasoned k w.made w.had j t.start h
      list_reasoned = by_start t.start refl
        where
          by_start : (n : ℕ) → t.start ≡ n → IsReasoned k w.made w.had j t.start h
          by_start zero none = inl none
          by_start (suc n) some =
              let u = holder.0 in
              let log = w.log j u.by in
              let why : IsVouchedFor k w.made w.had j (take u.list.start log) = elim (right u holder.1).reason [ inl none ↦ absurd (omega (arith, none, some, holder.3)) | inr why ↦ why ] in
              let short : t.start ≤ length h = omega (arith, long) in
              let front_is : take t.start log ≡ take t.start h = ap (take t.start) (sym holder.2.1) ∙ take-append-le t.start h holder.2.0 short in
              let begins : IsPrefix (take t.start h) (take u.list.start log) = subst (λ (g : List Request). IsPrefix g (take u.list.start log)) front_is (prefix_takes t.start u.list.start log holder.3) in
              inr (record {
                at = why.at;
                n = why.n;
                d = why.d;
                before = why.before;
                all = why.all;
                whole = why.whole;
                there = why.there;
                reaches = why.reaches;
                digest = why.digest;
                begins = prefix_trans (take t.start h) (take u.list.start log) (take why.n why.whole) begins why.begins;
              })

      -- and the certificate among acts
      pub list_certified : are_whole cert ≡ false → Contains w.had [] → AreCertified k proto serves law v.run w j (entry_claims k (w.log j) j cert h) h
      list_certified part empty =
          let list = whole_log (faulty_in (within k j)) (w.log j) h in
          let said = whole_claims (within k j) list votes_of in
          let claims_are : entry_claims k (w.log j) j cert h ≡ said =
          ap (λ (z : Bool). if z then cert_claims j cert else whole_claims (within k j) list (votes_in k.cluster j cert)) part ∙ ap (λ (o : Option (List Stated)). whole_claims (within k j) list (unwrap_or o [])) agreed.stated in
          subst (λ (cs : List Content). AreCertified k proto serves law v.run w j cs h) (sym claims_are) (record {
            valid = cert_by (kind_of k.cluster.plan j) k.cluster.f (within k j) said h agreed.makes is_valid;
            honest = λ s has correct.
                let u = Contains-map_cases (λ (x : Stated). Abort (Replica x.by) j (list x)) votes_of s has in
                let by : is_faulty k.faulty (Replica u.0.by) ≡ false = ap (λ c. is_faulty k.faulty (maker_of c)) u.2 ∙ correct in
                let list_is : w.log j u.0.by ≡ list u.0 = sym (ap (λ (bad : Bool). if bad then (if holds (length h) (digest_of h) u.0.list then h else []) else w.log j u.0.by) by) in
                subst (λ (c : Content). WasMade (acts_in j v.run) c) (ap (λ (g : List Request). Abort (Replica u.0.by) j g) list_is ∙ u.2) (right u.0 (record { there = u.1; correct = by })).made;
            kept = λ l has.
                let found = flat_map_cases stated_history said l has in
                let u = Contains-map_cases (λ (x : Stated). Abort (Replica x.by) j (list x)) votes_of found.0 found.1 in
                let l_is : list u.0 ≡ l = Contains-one (list u.0) l (subst (λ (c : Content). Contains (stated_history c) l) (sym u.2) found.2) in
                subst (λ (g : List Request). Contains (h ∷ w.had) g) l_is (list_kept u.0 u.1 empty);
            opened = λ q has.
                let found = flat_map_cases stated_request said q has in
                let u = Contains-map_cases (λ (x : Stated). Abort (Replica x.by) j (list x)) votes_of found.0 found.1 in
                absurd (Contains-none q (subst (λ (c : Content). Contains (stated_request c) q) (sym u.2) found.2));
          })
        where
          list_kept : (u : Stated) → Contains votes_of u → Contains w.had [] → Contains (h ∷ w.had) (whole_log (faulty_in (within k j)) (w.log j) h u)
          list_kept u there empty' =
              let shown = holds (length h) (digest_of h) u.list in
              elim (cases_Bool (is_faulty k.faulty (Replica u.by))) [
                | inl bad ↦ elim (cases_Bool shown) [
                  | inl yes' ↦ subst (λ (x : Bool). Contains (h ∷ w.had) (if x then (if shown then h else []) else w.log j u.by)) (sym bad) (subst (λ (x : Bool). Contains (h ∷ w.had) (if x then h else [])) (sym yes') (Contains-head h w.had))
                  | inr not' ↦ subst (λ (x : Bool). Contains (h ∷ w.had) (if x then (if shown then h else []) else w.log j u.by)) (sym bad) (subst (λ (x : Bool). Contains (h ∷ w.had) (if x then h else [])) (sym not') (Contains-tail h [] w.had empty'))
                ]
                | inr correct ↦
                    let fair : IsFair (faulty_in (within k j)) votes_of u = record { there = there; correct = correct } in
                    subst (λ (x : Bool). Contains (h ∷ w.had) (if x then (if shown then h else []) else w.log j u.by)) (sym correct)
                    (elim (known.vouched.had_of j u.by (good_of u fair)) [
                      | inl none ↦ subst (λ (g : List Request). Contains (h ∷ w.had) g) (sym none) (Contains-tail h [] w.had empty')
                      | inr has ↦ Contains-tail h (w.log j u.by) w.had has
                    ])
              ]
