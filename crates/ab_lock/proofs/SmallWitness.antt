-- The premises are met by small_acts with a view change and an executed slot.
use Rattle.std.proofs.Common.{◌≡◌, ℕ, zero, suc, true, Some, List, [], ◌∷◌, slice_get, map, refl, sym, subst, inl, inr, arith}
use Rattle.std.specs.Prelude.{Contains}
use Rattle.std.specs.List.{IsDistinct, AllByRecursion}
use Rattle.std.proofs.lemmas.Option.{none-some, same_Some}
use Rattle.ab_num.proofs.Lists.{Contains-head, Contains-cons_cases, Contains-none}
use Rattle.ab_lock.specs.Steps.{Cert, SlotEntry, Change, Step, signs, prepares, changes, cert_at, state_of, entry_of, Lists, IsChosen, Follows}
use Rattle.ab_lock.specs.Quorums.{IsOlder, AreReplicas}
use Rattle.ab_lock.specs.Acts.{LockContent, Prepare, Commit, ViewChange, WasMade, Knows, its_own, KnowsQuorum, KnowsChanges, Backs, made}
use Rattle.ab_lock.specs.Promises.{LockPremises}
use Rattle.ab_lock.specs.SmallActs.{digest, goes, may_stand, cert, change, first_view, second_view, small_acts}
use Rattle.ab_lock.proofs.ChoosingLemmas.{chosen_of-IsChosen}

abbrev S : Type 0
S = Step ℕ ℕ

lists : Lists digest (cert_at (state_of first_view).certs) (record { at = 0; x = 7 } ∷ [])
lists = record { each = each; ends = refl }
  where
    each : (t : ℕ) (e : SlotEntry ℕ) → slice_get (record { at = 0; x = 7 } ∷ []) t ≡ Some e → (c : Cert ℕ) × (cert_at (state_of first_view).certs t ≡ Some c) × (e ≡ entry_of digest c)
    each zero e is = (cert, refl, sym (same_Some (record { at = 0; x = 7 }) e is))
    each (suc t) e is = absurd (none-some e is)

chosen : IsChosen goes 1 (change ∷ []) (7 ∷ [])
chosen = chosen_of-IsChosen goes 1 (change ∷ [])

follows : Follows digest goes 1 second_view
follows = (
  (refl, refl, omega arith, refl),
  (
    (refl, omega arith, refl),
    (
      (refl, refl, refl, (7, refl, refl)),
      (
        (inr (refl, refl), chosen),
        (
          (omega arith, lists),
          (
            (refl, omega arith, refl),
            (
              (refl, refl, refl, (7, refl, refl)),
              (
                (refl, omega arith, refl, refl),
                tt,
              ),
            ),
          ),
        ),
      ),
    ),
  ),
)

alone : AreReplicas 0 (0 ∷ [])
unfolding IsDistinct
alone = record { distinct = (tt, tt); within = λ r is. elim (Contains-cons_cases 0 [] r is) [ inl e ↦ omega (arith, e) | inr more ↦ absurd (Contains-none r more) ] }

it_made : (step : S) (c : LockContent ℕ) → Contains second_view step → Contains (made digest 0 step) c → WasMade digest small_acts c
it_made step c is makes = record { act = record { by = 0; claims = []; steps = second_view }; is_in = Contains-head (record { by = 0; claims = []; steps = second_view }) []; step = step; is_step = is; makes = makes }

many : (what : ℕ → LockContent ℕ) → WasMade digest small_acts (what 0) → KnowsQuorum digest 0 small_acts 0 what
many what was = record {
  by = 0 ∷ [];
  replicas = alone;
  enough = refl;
  each = λ q is. elim (Contains-cons_cases 0 [] q is) [
    | inl e ↦ subst (λ (z : ℕ). Knows digest small_acts 0 (what z)) e (its_own was)
    | inr more ↦ absurd (Contains-none q more)
  ];
}

signed_0 : WasMade digest small_acts (Prepare 0 0 0 7)
signed_0 = it_made (signs 0 0 7) (Prepare 0 0 0 7) (6, omega arith, refl) (Contains-head _ [])

signed_1 : WasMade digest small_acts (Prepare 0 1 0 7)
signed_1 = it_made (signs 1 0 7) (Prepare 0 1 0 7) (2, omega arith, refl) (Contains-head _ [])

committed_1 : WasMade digest small_acts (Commit 0 1 0 7)
committed_1 = it_made (prepares 1 (7 ∷ [])) (Commit 0 1 0 7) (1, omega arith, refl) (Contains-head _ [])

changed_1 : WasMade digest small_acts (ViewChange 0 1 (record { at = 0; x = 7 } ∷ []))
changed_1 = it_made (changes 1 (record { at = 0; x = 7 } ∷ [])) (ViewChange 0 1 (record { at = 0; x = 7 } ∷ [])) (4, omega arith, refl) (Contains-head _ [])

abbrev Rests : S → Type 0
Rests step = Backs digest 0 (λ (n value : ℕ). may_stand n value ≡ true) small_acts 0 step

prepared_rests : (v : ℕ) → WasMade digest small_acts (Prepare 0 v 0 7) → (n value : ℕ) → 1 ≡ suc n → slice_get (7 ∷ []) n ≡ Some value → KnowsQuorum digest 0 small_acts 0 (λ q. Prepare q v n value)
prepared_rests v was zero value len is = subst (λ (z : ℕ). KnowsQuorum digest 0 small_acts 0 (λ q. Prepare q v 0 z)) (same_Some 7 value is) (many (λ q. Prepare q v 0 7) was)
prepared_rests v was (suc n) value len is = absurd (none-some value is)

changes_rest : KnowsChanges digest 0 small_acts 0 1 (change ∷ [])
changes_rest = record {
  replicas = alone;
  enough = refl;
  signed = λ c is. elim (Contains-cons_cases change [] c is) [
    | inl e ↦ subst (λ (z : Change ℕ). Knows digest small_acts 0 (ViewChange z.by 1 (map (entry_of digest) z.certs))) e (its_own changed_1)
    | inr more ↦ absurd (Contains-none c more)
  ];
  fits = λ c is t d there. elim (Contains-cons_cases change [] c is) [
    | inl e ↦ fits t d (subst (λ (z : Change ℕ). slice_get z.certs t ≡ Some d) (sym e) there)
    | inr more ↦ absurd (Contains-none c more)
  ];
}
  where
    fits : (t : ℕ) (d : Cert ℕ) → slice_get (cert ∷ []) t ≡ Some d → IsOlder d.at 1 × KnowsQuorum digest 0 small_acts 0 (λ q. Prepare q d.at t d.value)
    fits zero d is = subst (λ (z : Cert ℕ). IsOlder z.at 1 × KnowsQuorum digest 0 small_acts 0 (λ q. Prepare q z.at 0 z.value)) (same_Some cert d is) (omega arith, many (λ q. Prepare q 0 0 7) signed_0)
    fits (suc t) d is = absurd (none-some d is)

all_in : (P : S → Type 0) (xs : List S) → AllByRecursion P xs → (step : S) → Contains xs step → P step
all_in P [] all step is = absurd (Contains-none step is)
all_in P (x ∷ xs) all step is =
    elim (Contains-cons_cases x xs step is) [
      | inl e ↦ subst (λ (z : S). P z) e all.0
      | inr more ↦ all_in P xs all.1 step more
    ]

rests : (step : S) → Contains second_view step → Rests step
rests =
    all_in Rests second_view
    (many (λ q. Commit q 1 0 7) committed_1, (prepared_rests 1 signed_1, (tt, (changes_rest, (tt, (prepared_rests 0 signed_0, (tt, (refl, tt))))))))

pub met : LockPremises digest may_stand goes 1 0 [] small_acts
met = record {
  few = omega arith;
  honest = ((λ c is ok. absurd (Contains-none c is)), tt);
  lawful = (follows, rests, tt);
  apart = λ t a b is_a is_b e. e;
}
