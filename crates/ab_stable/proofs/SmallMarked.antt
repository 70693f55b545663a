-- CHECKPOINTs in the small run of an instance.
use Rattle.std.proofs.Common.{◌≡◌, ℕ, zero, suc, true, false, Some, List, [], ◌∷◌, arith, refl, sym, ap, ◌∙◌, subst, inr}
use Rattle.std.specs.Prelude.{Contains}
use Rattle.ab_num.proofs.Lists.{Contains-none, Contains-one, Contains-head}
use Rattle.ab_hist.specs.declared.request.Request.{Request}
use Rattle.ab_hist.specs.Digests.{NoCollision, digest_of}
use Rattle.ab_svc.specs.Machines.{Machine}
use Rattle.ab_msg.specs.declared.content.Content.{Content}
use Rattle.ab_abs.specs.Acts.{State, Act, IsHonest, SlotsApart, WasMade, histories, bases, requests, state_of}
use Rattle.ab_abs.specs.SmallActs.{small, small_acts, holding, asks_for, aborts_small, begun_acts, committed_acts, votes_for}
use Rattle.ab_abs.proofs.Witness.{witness, cert_is_made}
use Rattle.ab_stable.specs.Stable.{HasFront}
use Rattle.ab_stable.specs.Leaving.{Leaves, nothing, kept, marks, forgets}
use Rattle.ab_abs.specs.Rules.{IsSound}
use Rattle.ab_stable.specs.MarkedActs.{AreMarked, AreActsWithMarks, AreAllThere, IsStable}
use Rattle.ab_stable.specs.SmallMarks.{checkpoint_of, is_checkpoint, marks_small, marked_once, marked_twice, marked_thrice, marked_early, marked_aborted, marked_acts}

module _ {S : Type 0} (machine : Machine S) (m : Request) where
  committed_left : Leaves is_checkpoint (committed_acts machine m) (committed_acts machine m)
  committed_left =
      kept _ _ _ (kept _ _ _ (kept _ _ _ (kept _ _ _ (kept _ _ _ (kept _ _ _ (kept _ _ _ (kept _ _ _ (kept _ _ _ (kept _ _ _ nothing)))))))))

  early_left : Leaves is_checkpoint (marked_early machine m) (committed_acts machine m)
  early_left =
      forgets 0 _ _ (marks 3 (checkpoint_of 3 1 (digest_of (m ∷ []))) _ _ refl (marks 2 (checkpoint_of 2 1 (digest_of (m ∷ []))) _ _ refl
      (marks 1 (checkpoint_of 1 1 (digest_of (m ∷ []))) _ _ refl (marks 0 (checkpoint_of 0 1 (digest_of (m ∷ []))) _ _ refl committed_left))))

  leaves : Leaves is_checkpoint (marked_acts machine m) (small_acts machine m)
  leaves = kept _ _ _ (kept _ _ _ (kept _ _ _ (kept _ _ _ (kept _ _ _ (kept _ _ _ (kept _ _ _ early_left))))))

  honest : NoCollision (histories (small_acts machine m)) → SlotsApart (bases (small_acts machine m)) (requests (small_acts machine m)) → IsHonest small (marked_acts machine m)
  honest apart slots =
      let committed : IsHonest small (committed_acts machine m) = (witness machine m apart slots).premises.honest.1.1.1.1.1.1.1 in (
        λ c has _. cert_is_made machine m (marked_aborted machine m) (2, omega arith, refl) (1, omega arith, refl) (0, omega arith, refl) c has,
        (
          λ c has _. absurd (Contains-none c has),
          (
            λ c has _. absurd (Contains-none c has),
            (
              λ c has _. absurd (Contains-none c has),
              (
                λ c has _. absurd (Contains-none c has),
                (
                  λ c has _. absurd (Contains-none c has),
                  (
                    λ c has _. absurd (Contains-none c has),
                    (
                      λ c has _. absurd (Contains-none c has),
                      (λ c has _. absurd (Contains-none c has), (λ c has _. absurd (Contains-none c has), (λ c has _. absurd (Contains-none c has), (λ c has _. absurd (Contains-none c has), committed)))),
                    ),
                  ),
                ),
              ),
            ),
          ),
        ),
      )

  -- another content is no CHECKPOINT
  no_mark : (c : Content) (r n : ℕ) (d : List ℕ) → is_checkpoint c ≡ false → Contains (c ∷ []) (checkpoint_of r n d) → ⊥
  no_mark c r n d is has = let both : true ≡ false = sym (ap is_checkpoint (Contains-one c (checkpoint_of r n d) has)) ∙ is in cc (both)

  abbrev IsRight : List Act → ℕ → ℕ → List ℕ → Type 0
  IsRight acts r n d = (s : State) × (state_of acts r ≡ Some s) × HasFront s.log n d

  -- a CHECKPOINT of the one request that a replica has logged
  own_mark : (acts : List Act) (q : ℕ) → state_of acts q ≡ Some (holding m false) → (r n : ℕ) (d : List ℕ) → Contains (checkpoint_of q 1 (digest_of (m ∷ [])) ∷ []) (checkpoint_of r n d) → IsRight acts r n d
  own_mark acts q at r n d has =
      let e : checkpoint_of q 1 (digest_of (m ∷ [])) ≡ checkpoint_of r n d = Contains-one (checkpoint_of q 1 (digest_of (m ∷ []))) (checkpoint_of r n d) has in
      let by : q ≡ r = cc (e) in
      let number : 1 ≡ n = cc (e) in
      let digest : digest_of (m ∷ []) ≡ d = cc (e) in (
        holding m false,
        subst (λ (k : ℕ). state_of acts k ≡ Some (holding m false)) by at,
        subst (λ (k : ℕ). HasFront (m ∷ []) k d) number (record { reaches = omega arith; digest = digest }),
      )

  begun_marked : AreMarked checkpoint_of (begun_acts machine m)
  begun_marked = (λ r n d has. absurd (Contains-none (checkpoint_of r n d) has), (λ r n d has. absurd (Contains-none (checkpoint_of r n d) has), (λ r n d has. absurd (Contains-none (checkpoint_of r n d) has), (λ r n d has. absurd (Contains-none (checkpoint_of r n d) has), tt))))

  committed_marked : AreMarked checkpoint_of (committed_acts machine m)
  committed_marked = (
    λ r n d has. absurd (Contains-none (checkpoint_of r n d) has),
    (
      λ r n d has. absurd (no_mark (votes_for machine m 3) r n d refl has),
      (
        λ r n d has. absurd (no_mark (votes_for machine m 2) r n d refl has),
        (
          λ r n d has. absurd (no_mark (votes_for machine m 1) r n d refl has),
          (λ r n d has. absurd (no_mark (votes_for machine m 0) r n d refl has), (λ r n d has. absurd (no_mark (asks_for m) r n d refl has), begun_marked)),
        ),
      ),
    ),
  )

  early_marked : AreMarked checkpoint_of (marked_early machine m)
  early_marked = (
    λ r n d has. absurd (Contains-none (checkpoint_of r n d) has),
    (
      λ r n d has. own_mark (marks_small machine m 3 ∷ marked_thrice machine m) 3 refl r n d has,
      (λ r n d has. own_mark (marked_thrice machine m) 2 refl r n d has, (λ r n d has. own_mark (marked_twice machine m) 1 refl r n d has, (λ r n d has. own_mark (marked_once machine m) 0 refl r n d has, committed_marked))),
    ),
  )

  marked : AreMarked checkpoint_of (marked_acts machine m)
  marked = (
    λ r n d has. absurd (Contains-none (checkpoint_of r n d) has),
    (
      λ r n d has. absurd (no_mark (aborts_small machine m 2) r n d refl has),
      (
        λ r n d has. absurd (no_mark (aborts_small machine m 1) r n d refl has),
        (
          λ r n d has. absurd (no_mark (aborts_small machine m 0) r n d refl has),
          (λ r n d has. absurd (Contains-none (checkpoint_of r n d) has), (λ r n d has. absurd (Contains-none (checkpoint_of r n d) has), (λ r n d has. absurd (Contains-none (checkpoint_of r n d) has), early_marked))),
        ),
      ),
    ),
  )

  made_by : (r : ℕ) → Contains (marked_acts machine m) (marks_small machine m r) → WasMade (marked_acts machine m) (checkpoint_of r 1 (digest_of (m ∷ [])))
  made_by r has = (marks_small machine m r, has, Contains-head (checkpoint_of r 1 (digest_of (m ∷ []))) [])

  all : AreAllThere small checkpoint_of (marked_acts machine m) 1 (digest_of (m ∷ []))
  all zero lt = inr (made_by 0 (11, omega arith, refl))
  all (suc zero) lt = inr (made_by 1 (10, omega arith, refl))
  all (suc (suc zero)) lt = inr (made_by 2 (9, omega arith, refl))
  all (suc (suc (suc zero))) lt = inr (made_by 3 (8, omega arith, refl))
  all (suc (suc (suc (suc r)))) lt = absurd (omega (arith, lt))

  pub with_marks : NoCollision (histories (small_acts machine m)) → SlotsApart (bases (small_acts machine m)) (requests (small_acts machine m)) → AreActsWithMarks (IsSound machine small) small is_checkpoint checkpoint_of (marked_acts machine m)
  with_marks apart slots = record {
    bare = small_acts machine m;
    left = leaves;
    sound = witness machine m apart slots;
    honest = honest apart slots;
    owned = λ r n d. refl;
    marked = marked;
  }

  pub stable : IsStable small checkpoint_of (marked_acts machine m) (m ∷ [])
  stable = record { number = 1; digest = digest_of (m ∷ []); all = all; holder = 0; within = omega arith; correct = refl; reaches = omega arith; is_front = refl }
