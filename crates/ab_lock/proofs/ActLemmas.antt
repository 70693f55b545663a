-- Honest, lawful acts meet the premises of Lock.
use Rattle.std.proofs.Common.{◌≡◌, ℕ, suc, pred, ◌≤◌, ◌==◌, Bool, false, Some, None, Option, List, [], ◌∷◌, ◌++◌, length, slice_get, map, refl, sym, ap, ◌∙◌, subst, inl, inr, arith}
use Rattle.std.specs.Prelude.{Contains, count_by}
use Rattle.std.proofs.lemmas.Bool.{cases_Bool}
use Rattle.std.proofs.lemmas.Bool.Decides.{Decides-eqb}
use Rattle.std.proofs.lemmas.Option.{slice_get_within}
use Rattle.std.proofs.lemmas.List.Elements.{Contains-append_left, Contains-append_right, Contains-append_cases}
use Rattle.ab_num.specs.declared.party.Party.{Party}
use Rattle.ab_num.specs.declared.party.Party.TheVariants.{Replica}
use Rattle.ab_num.proofs.Lists.{Contains-tail, Contains-cons_cases, Contains-none}
use Rattle.ab_abs.specs.Faults.{is_faulty}
use Rattle.ab_lock.specs.Steps.{Change, SlotEntry, Step, accepts, signs, prepares, changes, enters, executes, entry_of, IsAt, Follows}
use Rattle.ab_lock.specs.Quorums.{IsCertified, HasPrepared, RestsOn, NoCollision, TracePremises}
use Rattle.ab_msg.specs.Carried.{is_replica}
use Rattle.ab_lock.specs.Acts.{KnowsChanges, LockContent, Prepare, Commit, ViewChange, maker_of, LockAct, steps_of, commit_of, made, WasMade, Knows, taken, its_own, IsHonest, KnowsQuorum, Backs, AreLawful}

module _ {V X : Type 0} (digest : V → X) where
  pub steps_own : (a : LockAct V X) (acts : List (LockAct V X)) (r : ℕ) → a.by ≡ r → steps_of (a ∷ acts) r ≡ a.steps ++ steps_of acts r
  steps_own a acts r own = rw ((Decides-eqb a.by r).1 own) refl

  steps_other : (a : LockAct V X) (acts : List (LockAct V X)) (r : ℕ) → (a.by == r) ≡ false → steps_of (a ∷ acts) r ≡ steps_of acts r
  steps_other a acts r other = rw other refl

  pub steps_in : (acts : List (LockAct V X)) (a : LockAct V X) (step : Step V X) → Contains acts a → Contains a.steps step → Contains (steps_of acts a.by) step
  steps_in [] a step is has = absurd (Contains-none a is)
  steps_in (b ∷ acts) a step is has =
      elim (Contains-cons_cases b acts a is) [
        | inl e ↦ subst (λ (l : List (Step V X)). Contains l step) (sym (steps_own b acts a.by (ap (λ c. c.by) e)))
            (Contains-append_left b.steps (steps_of acts a.by) step (subst (λ (c : LockAct V X). Contains c.steps step) (sym e) has))
        | inr more ↦ elim (cases_Bool (b.by == a.by)) [
          | inl same ↦ subst (λ (l : List (Step V X)). Contains l step) (sym (steps_own b acts a.by ((Decides-eqb b.by a.by).0 same)))
              (Contains-append_right b.steps (steps_of acts a.by) step (steps_in acts a step more has))
          | inr differ ↦ subst (λ (l : List (Step V X)). Contains l step) (sym (steps_other b acts a.by differ)) (steps_in acts a step more has)
        ]
      ]

  -- contents name their maker and the step that made them
  pub made_prepare : (q r v n : ℕ) (x : X) (step : Step V X) → Contains (made digest q step) (Prepare r v n x) → (q ≡ r) × (step ≡ signs v n x)
  made_prepare q r v n x (accepts m value) is = absurd (Contains-none _ is)
  made_prepare q r v n x (signs w m y) is = elim (Contains-cons_cases (Prepare q w m y) [] (Prepare r v n x) is) [ inl e ↦ (cc, cc) | inr more ↦ absurd (Contains-none _ more) ]
  made_prepare q r v n x (prepares w h) is = absurd (not_commit (slice_get h (pred (length h))) is)
    where
      not_commit : (o : Option V) → Contains (commit_of digest q w (pred (length h)) o) (Prepare r v n x) → ⊥
      not_commit None is = Contains-none _ is
      not_commit (Some value) is = elim (Contains-cons_cases (Commit q w (pred (length h)) (digest value)) [] (Prepare r v n x) is) [ inl e ↦ absurd (cc e) | inr more ↦ Contains-none _ more ]
  made_prepare q r v n x (changes w entries) is = elim (Contains-cons_cases (ViewChange q w entries) [] (Prepare r v n x) is) [ inl e ↦ absurd (cc e) | inr more ↦ absurd (Contains-none _ more) ]
  made_prepare q r v n x (enters w vcs chosen) is = absurd (Contains-none _ is)
  made_prepare q r v n x (executes w m value) is = absurd (Contains-none _ is)

  pub made_change : (q r w : ℕ) (entries : List (SlotEntry X)) (step : Step V X) → Contains (made digest q step) (ViewChange r w entries) → (q ≡ r) × (step ≡ changes w entries)
  made_change q r w entries (accepts m value) is = absurd (Contains-none _ is)
  made_change q r w entries (signs v m y) is = elim (Contains-cons_cases (Prepare q v m y) [] (ViewChange r w entries) is) [ inl e ↦ absurd (cc e) | inr more ↦ absurd (Contains-none _ more) ]
  made_change q r w entries (prepares v h) is = absurd (not_commit (slice_get h (pred (length h))) is)
    where
      not_commit : (o : Option V) → Contains (commit_of digest q v (pred (length h)) o) (ViewChange r w entries) → ⊥
      not_commit None is = Contains-none _ is
      not_commit (Some value) is = elim (Contains-cons_cases (Commit q v (pred (length h)) (digest value)) [] (ViewChange r w entries) is) [ inl e ↦ absurd (cc e) | inr more ↦ Contains-none _ more ]
  made_change q r w entries (changes u others) is = elim (Contains-cons_cases (ViewChange q u others) [] (ViewChange r w entries) is) [ inl e ↦ (cc, cc) | inr more ↦ absurd (Contains-none _ more) ]
  made_change q r w entries (enters u vcs chosen) is = absurd (Contains-none _ is)
  made_change q r w entries (executes v m value) is = absurd (Contains-none _ is)

  -- a COMMIT is made on becoming prepared
  pub record IsPrepares (v n : ℕ) (x : X) (step : Step V X) : Type 0 where
    pub values : List V
    pub is_step : step ≡ prepares v values
    pub slot : length values ≡ suc n
    pub is_at : IsAt digest values n x

  pub made_commit : (q r v n : ℕ) (x : X) (step : Step V X) → Contains (made digest q step) (Commit r v n x) → (q ≡ r) × IsPrepares v n x step
  made_commit q r v n x (accepts m value) is = absurd (Contains-none _ is)
  made_commit q r v n x (signs w m y) is = elim (Contains-cons_cases (Prepare q w m y) [] (Commit r v n x) is) [ inl e ↦ absurd (cc e) | inr more ↦ absurd (Contains-none _ more) ]
  made_commit q r v n x (prepares w h) is = of_last (slice_get h (pred (length h))) refl is
    where
      of_last : (o : Option V) → slice_get h (pred (length h)) ≡ o → Contains (commit_of digest q w (pred (length h)) o) (Commit r v n x) → (q ≡ r) × IsPrepares v n x (prepares w h)
      of_last None last is = absurd (Contains-none _ is)
      of_last (Some value) last is =
          elim (Contains-cons_cases (Commit q w (pred (length h)) (digest value)) [] (Commit r v n x) is) [
            | inr more ↦ absurd (Contains-none _ more)
            | inl e ↦
                let at : pred (length h) ≡ n = cc e in
                let view : w ≡ v = cc e in (
                  cc e,
                  record {
                    values = h;
                    is_step = ap (λ u. prepares u h) view;
                    slot = omega (arith, at, slice_get_within h (pred (length h)) value last);
                    is_at = (value, ap (slice_get h) (sym at) ∙ last, cc e);
                  },
                )
          ]
  made_commit q r v n x (changes w entries) is = elim (Contains-cons_cases (ViewChange q w entries) [] (Commit r v n x) is) [ inl e ↦ absurd (cc e) | inr more ↦ absurd (Contains-none _ more) ]
  made_commit q r v n x (enters w vcs chosen) is = absurd (Contains-none _ is)
  made_commit q r v n x (executes w m value) is = absurd (Contains-none _ is)

  pub WasMade-more : (a : LockAct V X) (acts : List (LockAct V X)) (c : LockContent X) → WasMade digest acts c → WasMade digest (a ∷ acts) c
  WasMade-more a acts c was = record { act = was.act; is_in = Contains-tail a was.act acts was.is_in; step = was.step; is_step = was.is_step; makes = was.makes }

  pub Knows-more : (a : LockAct V X) (acts : List (LockAct V X)) (r : ℕ) (c : LockContent X) → Knows digest acts r c → Knows digest (a ∷ acts) r c
  Knows-more a acts r c (taken b is own claims) = taken b (Contains-tail a b acts is) own claims
  Knows-more a acts r c (its_own was) = its_own (WasMade-more a acts c was)

  module _ (f : ℕ) where
    pub quorum_more : (a : LockAct V X) (acts : List (LockAct V X)) (r : ℕ) (what : ℕ → LockContent X) → KnowsQuorum digest f acts r what → KnowsQuorum digest f (a ∷ acts) r what
    quorum_more a acts r what many = record { by = many.by; replicas = many.replicas; enough = many.enough; each = λ q is. Knows-more a acts r (what q) (many.each q is) }

    pub changes_more : (a : LockAct V X) (acts : List (LockAct V X)) (r w : ℕ) (vcs : List (Change V)) → KnowsChanges digest f acts r w vcs → KnowsChanges digest f (a ∷ acts) r w vcs
    changes_more a acts r w vcs knows = record {
      replicas = knows.replicas;
      enough = knows.enough;
      signed = λ c is. Knows-more a acts r _ (knows.signed c is);
      fits = λ c is t cert there. let b = knows.fits c is t cert there in (b.0, quorum_more a acts r _ b.1);
    }

    module _ (Source : ℕ → V → Type 0) where
      backs_more : (a : LockAct V X) (acts : List (LockAct V X)) (r : ℕ) (step : Step V X) → Backs digest f Source acts r step → Backs digest f Source (a ∷ acts) r step
      backs_more a acts r (accepts n value) backs = backs
      backs_more a acts r (signs v n x) backs = tt
      backs_more a acts r (prepares v h) backs = λ n value len is. quorum_more a acts r _ (backs n value len is)
      backs_more a acts r (changes w entries) backs = tt
      backs_more a acts r (enters w vcs chosen) backs = changes_more a acts r w vcs backs
      backs_more a acts r (executes v n value) backs = quorum_more a acts r _ backs

      module _ (goes : List V → V → Bool) (k : ℕ) where
        pub lawful_follows : (acts : List (LockAct V X)) → AreLawful digest f Source goes k acts → (r : ℕ) → Follows digest goes k (steps_of acts r)
        lawful_follows [] lawful r = tt
        lawful_follows (a ∷ acts) lawful r =
            elim (cases_Bool (a.by == r)) [
              | inl same ↦
                  let e : a.by ≡ r = (Decides-eqb a.by r).0 same in
                  subst (λ (l : List (Step V X)). Follows digest goes k l) (sym (steps_own a acts r e)) (subst (λ (q : ℕ). Follows digest goes k (a.steps ++ steps_of acts q)) e lawful.0)
              | inr differ ↦ subst (λ (l : List (Step V X)). Follows digest goes k l) (sym (steps_other a acts r differ)) (lawful_follows acts lawful.2 r)
            ]

        pub lawful_backs : (acts : List (LockAct V X)) → AreLawful digest f Source goes k acts → (r : ℕ) (step : Step V X) → Contains (steps_of acts r) step → Backs digest f Source acts r step
        lawful_backs [] lawful r step is = absurd (Contains-none step is)
        lawful_backs (a ∷ acts) lawful r step is =
            elim (cases_Bool (a.by == r)) [
              | inl same ↦
                  let e : a.by ≡ r = (Decides-eqb a.by r).0 same in
                  elim (Contains-append_cases a.steps (steps_of acts r) step (subst (λ (l : List (Step V X)). Contains l step) (steps_own a acts r e) is)) [
                    | inl now ↦ subst (λ (q : ℕ). Backs digest f Source (a ∷ acts) q step) e (lawful.1 step now)
                    | inr before ↦ backs_more a acts r step (lawful_backs acts lawful.2 r step before)
                  ]
              | inr differ ↦ backs_more a acts r step (lawful_backs acts lawful.2 r step (subst (λ (l : List (Step V X)). Contains l step) (steps_other a acts r differ) is))
            ]

-- a content is made by its maker
pub maker_made : {V X : Type 0} (digest : V → X) (r : ℕ) (step : Step V X) (c : LockContent X) → Contains (made digest r step) c → r ≡ maker_of c
maker_made digest r step (Prepare q v n x) has = (made_prepare digest r q v n x step has).0
maker_made digest r step (Commit q v n x) has = (made_commit digest r q v n x step has).0
maker_made digest r step (ViewChange q v l) has = (made_change digest r q v l step has).0

-- where what was made stands in the traces of its makers, a step rests on what its replica knows
module _ {V X : Type 0} (digest : V → X) (f : ℕ) (faulty : List Party) (traces : ℕ → List (Step V X)) (Made : LockContent X → Type 0)
    (made_by : (c : LockContent X) → Made c → (step : Step V X) × Contains (traces (maker_of c)) step × Contains (made digest (maker_of c) step) c) where
  signs_in : (r v n : ℕ) (x : X) → Made (Prepare r v n x) → Contains (traces r) (signs v n x)
  signs_in r v n x was = let m = made_by (Prepare r v n x) was in subst (λ (z : Step V X). Contains (traces r) z) (made_prepare digest r r v n x m.0 m.2).1 m.1

  changes_in : (r w : ℕ) (entries : List (SlotEntry X)) → Made (ViewChange r w entries) → Contains (traces r) (changes w entries)
  changes_in r w entries was = let m = made_by (ViewChange r w entries) was in subst (λ (z : Step V X). Contains (traces r) z) (made_change digest r r w entries m.0 m.2).1 m.1

  pub commits_in : (r v n : ℕ) (x : X) → Made (Commit r v n x) → HasPrepared digest traces r v n x
  commits_in r v n x was =
      let m = made_by (Commit r v n x) was in
      let p = (made_commit digest r r v n x m.0 m.2).1 in
      record { values = p.values; is_in = subst (λ (z : Step V X). Contains (traces r) z) p.is_step m.1; slot = p.slot; is_at = p.is_at }

  module _ (acts : List (LockAct V X)) (r : ℕ) (knows_made : (c : LockContent X) → is_faulty faulty (Replica (maker_of c)) ≡ false → Knows digest acts r c → Made c) where
    known_certified : (v n : ℕ) (x : X) → KnowsQuorum digest f acts r (λ q. Prepare q v n x) → IsCertified f faulty traces v n x
    known_certified v n x many = record {
      by = many.by;
      replicas = many.replicas;
      enough = many.enough;
      signed = λ q is ok. signs_in q v n x (knows_made (Prepare q v n x) ok.1 (many.each q is));
    }

    pub backed_rests : (Known Source : ℕ → V → Type 0) → ((n : ℕ) (value : V) → Known n value → Source n value) → (step : Step V X) → Backs digest f Known acts r step → RestsOn digest f faulty traces Source step
    backed_rests Known Source source (accepts n value) backs = source n value backs
    backed_rests Known Source source (signs v n x) backs = tt
    backed_rests Known Source source (prepares v h) backs = λ n value len is. known_certified v n (digest value) (backs n value len is)
    backed_rests Known Source source (changes w entries) backs = tt
    backed_rests Known Source source (enters w vcs chosen) backs = record {
      replicas = backs.replicas;
      enough = backs.enough;
      signed = λ c is ok. changes_in c.by w (map (entry_of digest) c.certs) (knows_made (ViewChange c.by w (map (entry_of digest) c.certs)) ok.1 (backs.signed c is));
      fits = λ c is t cert there. let b = backs.fits c is t cert there in (b.0, known_certified cert.at t (digest cert.value) b.1);
    }
    backed_rests Known Source source (executes v n value) backs = record {
      by = backs.by;
      replicas = backs.replicas;
      enough = backs.enough;
      prepared = λ q is ok. commits_in q v n (digest value) (knows_made (Commit q v n (digest value)) ok.1 (backs.each q is));
    }

module _ {V X : Type 0} (digest : V → X) (f : ℕ) (faulty : List Party) (acts : List (LockAct V X)) (honest : IsHonest digest faulty acts) where
  claim_made : (more : List (LockAct V X)) → IsHonest digest faulty more → (a : LockAct V X) → Contains more a → (c : LockContent X) → Contains a.claims c
      → is_faulty faulty (Replica (maker_of c)) ≡ false → WasMade digest more c
  claim_made [] honest a is c claims ok = absurd (Contains-none a is)
  claim_made (b ∷ more) honest a is c claims ok =
      elim (Contains-cons_cases b more a is) [
        | inl e ↦ WasMade-more digest b more c (honest.0 c (subst (λ (z : LockAct V X). Contains z.claims c) (sym e) claims) ok)
        | inr old ↦ WasMade-more digest b more c (claim_made more honest.1 a old c claims ok)
      ]

  known_made : (r : ℕ) (c : LockContent X) → is_faulty faulty (Replica (maker_of c)) ≡ false → Knows digest acts r c → WasMade digest acts c
  known_made r c ok (taken a is own claims) = claim_made acts honest a is c claims ok
  known_made r c ok (its_own was) = was

  stepped : (c : LockContent X) → WasMade digest acts c → (step : Step V X) × Contains (steps_of acts (maker_of c)) step × Contains (made digest (maker_of c) step) c
  stepped c was =
      let by = maker_made digest was.act.by was.step c was.makes in (
        was.step,
        subst (λ (q : ℕ). Contains (steps_of acts q) was.step) by (steps_in digest acts was.act was.step was.is_in was.is_step),
        subst (λ (q : ℕ). Contains (made digest q was.step) c) by was.makes,
      )

  -- the premises of Lock, from acts
  pub premises_of : (Source : ℕ → V → Type 0) (goes : List V → V → Bool) (k : ℕ) → count_by is_replica faulty ≤ f → AreLawful digest f Source goes k acts → NoCollision digest f faulty (steps_of acts)
      → TracePremises digest f faulty (steps_of acts) Source goes k
  premises_of Source goes k few lawful apart = record {
    few = few;
    follows = λ r ok. lawful_follows digest f Source goes k acts lawful r;
    rests = λ r ok step is.
        backed_rests digest f faulty (steps_of acts) (WasMade digest acts) stepped acts r (known_made r) Source Source (λ n value source. source) step (lawful_backs digest f Source goes k acts lawful r step is);
    apart = apart;
  }
