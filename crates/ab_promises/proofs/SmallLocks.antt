-- The two replicas meet the lock's premises.
use Rattle.std.proofs.Common.{◌≡◌, ℕ, zero, suc, ◌<◌, true, false, Some, List, [], ◌∷◌, slice_get, refl, sym, subst, ap, inl, inr, arith}
use Rattle.std.specs.Prelude.{Contains, IsTrue}
use Rattle.std.specs.List.{IsDistinct}
use Rattle.std.proofs.lemmas.Option.{none-some, same_Some}
use Rattle.ab_num.specs.declared.party.Party.TheVariants.{Replica}
use Rattle.ab_num.proofs.Lists.{Contains-head, Contains-one, Contains-none, Contains-cons_cases}
use Rattle.ab_abs.specs.Faults.{is_faulty}
use Rattle.ab_lock.specs.Steps.{Step, signs, accepts, prepares, Follows}
use Rattle.ab_lock.specs.Quorums.{AreReplicas, IsCorrect, IsCommitted, HasPrepared}
use Rattle.ab_lock.specs.Acts.{LockContent, LockAct, Prepare, maker_of, WasMade, Knows, taken, its_own, KnowsQuorum, Backs, steps_of}
use Rattle.ab_lock.specs.Promises.{LockPremises}
use Rattle.ab_lock.specs.SmallActs.{digest, goes, may_stand}
use Rattle.ab_promises.specs.SmallLocks.{third_faulty, signed, signing, votes_of, preparing, both_sign, two_prepare}

abbrev S : Type 0
S = Step ℕ ℕ

abbrev Acts : Type 0
Acts = List (LockAct ℕ ℕ)

abbrev Backed : Acts → ℕ → S → Type 0
Backed acts r step = Backs digest 1 (λ (n value : ℕ). IsTrue (may_stand n value)) acts r step

-- each follows the rules
follows_signed : Follows digest goes 1 signed
follows_signed = ((refl, refl, refl, (7, refl, refl)), ((refl, omega arith, refl, refl), tt))

follows_prepared : Follows digest goes 1 (prepares 0 (7 ∷ []) ∷ signed)
follows_prepared = ((refl, omega arith, refl), follows_signed)

signed_rests : (acts : Acts) (r : ℕ) (step : S) → Contains signed step → Backed acts r step
signed_rests acts r step has =
    elim (Contains-cons_cases (signs 0 0 7) (accepts 0 7 ∷ []) step has) [
      | inl e ↦ subst (λ (z : S). Backed acts r z) e tt
      | inr more ↦ subst (λ (z : S). Backed acts r z) (Contains-one (accepts 0 7) step more) refl
    ]

-- a replica's PREPARE was made as it signed it
was_signed : (acts : Acts) (r : ℕ) → Contains acts (signing r) → WasMade digest acts (Prepare r 0 0 7)
was_signed acts r is = record { act = signing r; is_in = is; step = signs 0 0 7; is_step = Contains-head (signs 0 0 7) (accepts 0 7 ∷ []); makes = Contains-head (Prepare r 0 0 7) [] }

by_third : (acts : Acts) (c : LockContent ℕ) → Contains (Prepare 3 0 0 7 ∷ []) c → is_faulty third_faulty (Replica (maker_of c)) ≡ false → WasMade digest acts c
by_third acts c has ok =
    let faulty : is_faulty third_faulty (Replica (maker_of c)) ≡ true = ap (λ (z : LockContent ℕ). is_faulty third_faulty (Replica (maker_of z))) (sym (Contains-one (Prepare 3 0 0 7) c has)) in
    absurd (cc (faulty, ok))

votes_honest : (acts : Acts) (q : ℕ) → Contains acts (signing q) → (c : LockContent ℕ) → Contains (votes_of q) c → is_faulty third_faulty (Replica (maker_of c)) ≡ false → WasMade digest acts c
votes_honest acts q is c has ok =
    elim (Contains-cons_cases (Prepare q 0 0 7) (Prepare 3 0 0 7 ∷ []) c has) [
      | inl e ↦ subst (λ (z : LockContent ℕ). WasMade digest acts z) e (was_signed acts q is)
      | inr more ↦ by_third acts c more ok
    ]

-- the two and the third
abbrev signers : ℕ → ℕ → List ℕ
signers r q = r ∷ q ∷ 3 ∷ []

three : AreReplicas 1 (signers 1 0)
unfolding IsDistinct
three = record { distinct = ((refl, (refl, tt)), ((refl, tt), (tt, tt))); within = within }
  where
    within : (s : ℕ) → Contains (signers 1 0) s → s < 4
    within s has =
        elim (Contains-cons_cases 1 (0 ∷ 3 ∷ []) s has) [
          | inl e ↦ omega (arith, e)
          | inr more ↦ elim (Contains-cons_cases 0 (3 ∷ []) s more) [ inl e ↦ omega (arith, e) | inr last ↦ omega (arith, Contains-one 3 s last) ]
        ]

also_three : AreReplicas 1 (signers 0 1)
unfolding IsDistinct
also_three = record { distinct = ((refl, (refl, tt)), ((refl, tt), (tt, tt))); within = within }
  where
    within : (s : ℕ) → Contains (signers 0 1) s → s < 4
    within s has =
        elim (Contains-cons_cases 0 (1 ∷ 3 ∷ []) s has) [
          | inl e ↦ omega (arith, e)
          | inr more ↦ elim (Contains-cons_cases 1 (3 ∷ []) s more) [ inl e ↦ omega (arith, e) | inr last ↦ omega (arith, Contains-one 3 s last) ]
        ]

-- replica r knows the three PREPAREs, once it took those of q and of the third
knows_three : (r q : ℕ) (earlier : Acts) → AreReplicas 1 (signers r q) → Contains (preparing r q ∷ earlier) (signing r) → KnowsQuorum digest 1 (preparing r q ∷ earlier) r (λ s. Prepare s 0 0 7)
knows_three r q earlier are is = record {
  by = signers r q;
  replicas = are;
  enough = refl;
  each = λ s has.
      elim (Contains-cons_cases r (q ∷ 3 ∷ []) s has) [
        | inl e ↦ subst (λ (z : ℕ). Knows digest (preparing r q ∷ earlier) r (Prepare z 0 0 7)) e (its_own (was_signed (preparing r q ∷ earlier) r is))
        | inr more ↦ elim (Contains-cons_cases q (3 ∷ []) s more) [
          | inl e ↦ subst (λ (z : ℕ). Knows digest (preparing r q ∷ earlier) r (Prepare z 0 0 7)) e
              (taken (preparing r q) (Contains-head (preparing r q) earlier) refl (Contains-head (Prepare q 0 0 7) (Prepare 3 0 0 7 ∷ [])))
          | inr last ↦ subst (λ (z : ℕ). Knows digest (preparing r q ∷ earlier) r (Prepare z 0 0 7)) (Contains-one 3 s last)
              (taken (preparing r q) (Contains-head (preparing r q) earlier) refl (1, omega arith, refl))
        ]
      ];
}

prepared_rests : (r q : ℕ) (earlier : Acts) → AreReplicas 1 (signers r q) → Contains (preparing r q ∷ earlier) (signing r) → (step : S) → Contains (prepares 0 (7 ∷ []) ∷ []) step → Backed (preparing r q ∷ earlier) r step
prepared_rests r q earlier are is step has = subst (λ (z : S). Backed (preparing r q ∷ earlier) r z) (Contains-one (prepares 0 (7 ∷ [])) step has) rests
  where
    rests : (n value : ℕ) → 1 ≡ suc n → slice_get (7 ∷ []) n ≡ Some value → KnowsQuorum digest 1 (preparing r q ∷ earlier) r (λ s. Prepare s 0 n value)
    rests zero value len there = subst (λ (z : ℕ). KnowsQuorum digest 1 (preparing r q ∷ earlier) r (λ s. Prepare s 0 0 z)) (same_Some 7 value there) (knows_three r q earlier are is)
    rests (suc n) value len there = absurd (none-some value there)

pub locks_met : LockPremises digest may_stand goes 1 1 third_faulty two_prepare
locks_met = record {
  few = omega arith;
  honest = (
    λ c has ok. votes_honest (preparing 0 1 ∷ both_sign) 0 (2, omega arith, refl) c has ok,
    (
      λ c has ok. votes_honest both_sign 1 (0, omega arith, refl) c has ok,
      (λ c has ok. absurd (Contains-none c has), (λ c has ok. absurd (Contains-none c has), tt)),
    ),
  );
  lawful = (
    follows_prepared,
    λ step has. prepared_rests 1 0 (preparing 0 1 ∷ both_sign) three (2, omega arith, refl) step has,
    (
      follows_prepared,
      λ step has. prepared_rests 0 1 both_sign also_three (2, omega arith, refl) step has,
      (follows_signed, λ step has. signed_rests both_sign 1 step has, (follows_signed, λ step has. signed_rests (signing 0 ∷ []) 0 step has, tt)),
    ),
  );
  apart = λ t a b is_a is_b e. e;
}

pub two_committed : IsCommitted digest 1 third_faulty (steps_of two_prepare) 0 0 7
unfolding IsDistinct
two_committed = record { by = 0 ∷ 1 ∷ []; replicas = record { distinct = ((refl, tt), (tt, tt)); within = λ r has. (each r has).0.0 }; enough = omega arith; each = each }
  where
    each : (r : ℕ) → Contains (0 ∷ 1 ∷ []) r → IsCorrect 1 third_faulty r × HasPrepared digest (steps_of two_prepare) r 0 0 7
    each r has =
        elim (Contains-cons_cases 0 (1 ∷ []) r has) [
          | inl e ↦ subst (λ (z : ℕ). IsCorrect 1 third_faulty z × HasPrepared digest (steps_of two_prepare) z 0 0 7) e ((omega arith, refl), record { values = 7 ∷ []; is_in = (0, omega arith, refl); slot = refl; is_at = (7, refl, refl) })
          | inr more ↦ subst (λ (z : ℕ). IsCorrect 1 third_faulty z × HasPrepared digest (steps_of two_prepare) z 0 0 7) (Contains-one 1 r more)
              ((omega arith, refl), record { values = 7 ∷ []; is_in = (0, omega arith, refl); slot = refl; is_at = (7, refl, refl) })
        ]
