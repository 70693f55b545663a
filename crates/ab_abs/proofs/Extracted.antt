-- The longest history that enough lists hold, and the longest that goes on from a front.
use Rattle.std.proofs.Common.{◌≡◌, ℕ, zero, suc, ◌<◌, ◌≤◌, Bool, true, false, not, List, [], ◌∷◌, ◌⊎◌, length, take, refl, ap, subst, inl, inr, arith}
use Rattle.std.specs.Prelude.{All, Contains, nat_eq, ◌==◌, ◌&&◌, nat_le, nat_lt}
use Rattle.std.specs.List.{list_all, starts_with, filter, IsDistinct, AllByRecursion}
use Rattle.std.proofs.lemmas.Bool.{cases_Bool, cases_lt, and_parts, leb-true, ltb-true}
use Rattle.std.proofs.lemmas.List.{length-take}
use Rattle.std.proofs.lemmas.List.Elements.{All-cons, All-nil}
use mathlib.Core.List.{IsPrefix}
use base.Growing.{prefix_refl, prefix_trans}
use Rattle.ab_num.proofs.Lists.{Contains-head, Contains-tail, Contains-cons_cases, Contains-filter, Contains-filter_cases}
use Rattle.ab_hist.specs.declared.request.Request.{Request}
use Rattle.ab_hist.specs.Requests.{request_eq}
use Rattle.ab_abs.specs.Extraction.{holders, IsExtract}
use Rattle.ab_abs.specs.Rules.{IsExtension}
use Rattle.ab_abs.specs.Certificates.{best_front, best_of, extract, extension, are_apart}
use Rattle.ab_abs.proofs.Prefixes.{prefix_is_take, prefix_length}
use Rattle.ab_abs.proofs.Backed.{prefix_take}
use Rattle.ab_abs.proofs.Extracts.{starts_with-Decides}
use Rattle.ab_abs.proofs.ExtractionLaws.{all_hold_nothing, begins_one}

-- ---- distinct replicas

pub all_of : {A : Type 0} (P : A → Type 0) (xs : List A) → ((x : A) → Contains xs x → P x) → All P xs
all_of P [] each = All-nil P
all_of P (x ∷ xs) each = All-cons P x xs (each x (Contains-head x xs)) (all_of P xs (λ y has. each y (Contains-tail x y xs has)))

apart_each : (r : ℕ) (rs : List ℕ) → list_all (λ s. not (r == s)) rs ≡ true → AllByRecursion (λ y. nat_eq r y ≡ false) rs
apart_each r [] all = tt
apart_each r (s ∷ rs) all =
    let both = and_parts (not (r == s)) (list_all (λ t. not (r == t)) rs) all in (not_true (r == s) both.0, apart_each r rs both.1)
  where
    not_true : (b : Bool) → not b ≡ true → b ≡ false
    not_true true e = absurd (cc (e))
    not_true false e = refl

pub apart_distinct : (rs : List ℕ) → are_apart rs ≡ true → IsDistinct nat_eq rs
unfolding IsDistinct
apart_distinct [] apart = tt
apart_distinct (r ∷ rs) apart =
    let both = and_parts (list_all (λ s. not (r == s)) rs) (are_apart rs) apart in (apart_each r rs both.0, apart_distinct rs both.1)

-- ---- the longest of the fronts that q lists hold

module _ (q : ℕ) (lists : List (List Request)) (Keeps : List Request → Type 0) where
  -- a front of l that is held and longer than one that is fine is fine
  abbrev Gives : List Request → Type 0
  Gives l = (n : ℕ) (best : List Request) → Keeps best → q ≤ holders lists (take n l) → length best < length (take n l) → Keeps (take n l)

  abbrev NoneLonger : List Request → ℕ → List Request → Type 0
  NoneLonger l n best = (k : ℕ) → k ≤ n → q ≤ holders lists (take k l) → length (take k l) ≤ length best

  record Good (h best : List Request) (P : Type 0) : Type 0 where
    fine : Keeps best
    longer : length h ≤ length best
    none : P

  front_good : (l : List Request) → Gives l → (n : ℕ) (h : List Request) → Keeps h → Good h (best_front q lists l n h) (NoneLonger l n (best_front q lists l n h))
  front_good l gives zero h fine = record { fine = fine; longer = omega arith; none = λ k le enough. omega (arith, le, length-take k l) }
  front_good l gives (suc n) h fine =
      let r = front_good l gives n h fine in
      let was = best_front q lists l n h in
      let next = take (suc n) l in
      let grows : (k : ℕ) → k ≤ suc n → length (take k l) ≤ length next = λ k le. omega (arith, le, length-take k l, length-take (suc n) l) in
      elim (cases_Bool (nat_le q (holders lists next) && nat_lt (length was) (length next))) [
        | inl better ↦
            let both = and_parts (nat_le q (holders lists next)) (nat_lt (length was) (length next)) better in
            let above = ltb-true (length was) (length next) both.1 in
            rw better (record { fine = gives (suc n) was r.fine (leb-true q (holders lists next) both.0) above; longer = omega (arith, r.longer, above); none = λ k le also. grows k le })
        | inr worse ↦
            rw worse (record {
              fine = r.fine;
              longer = r.longer;
              none = λ k le enough.
                  elim (cases_lt n k) [
                    | inr below ↦ r.none k below enough
                    | inl above ↦
                        let e : k ≡ suc n = omega (arith, above, le) in
                        elim (cases_lt (length was) (length (take k l))) [
                          | inr short ↦ short
                          | inl long ↦ absurd (both_fail (nat_le q (holders lists next)) (nat_lt (length was) (length next)) worse
                              (le_true q (holders lists next) (subst (λ (z : ℕ). q ≤ holders lists (take z l)) e enough))
                              (lt_true (length was) (length next) (subst (λ (z : ℕ). length was < length (take z l)) e long)))
                        ]
                  ];
            })
      ]
    where
      both_fail : (a b : Bool) → (a && b) ≡ false → a ≡ true → b ≡ true → ⊥
      both_fail true true fails one two = cc (fails)
      both_fail true false fails one two = cc (two)
      both_fail false b fails one two = cc (one)

      le_true : (n m : ℕ) → n ≤ m → nat_le n m ≡ true
      le_true n m le = grind (arith, le)

      lt_true : (n m : ℕ) → n < m → nat_lt n m ≡ true
      lt_true n m lt = grind (arith, lt)

  all_good : (some : List (List Request)) → ((l : List Request) → Contains some l → Gives l) → (h : List Request) → Keeps h
      → Good h (best_of q lists some h) ((l : List Request) → Contains some l → NoneLonger l (length l) (best_of q lists some h))
  all_good [] gives h fine = record { fine = fine; longer = omega arith; none = λ l is. absurd (omega (arith, is.1)) }
  all_good (x ∷ xs) gives h fine =
      let r = front_good x (gives x (Contains-head x xs)) (length x) h fine in
      let s = all_good xs (λ l is. gives l (Contains-tail x l xs is)) (best_front q lists x (length x) h) r.fine in
      record {
        fine = s.fine;
        longer = omega (arith, r.longer, s.longer);
        none = λ l is.
            elim (Contains-cons_cases x xs l is) [
              | inl e ↦ subst (λ (y : List Request). NoneLonger y (length y) (best_of q lists (x ∷ xs) h)) e (λ k le enough. omega (arith, s.longer, r.none k le enough))
              | inr more ↦ s.none l more
            ];
      }

module _ (q : ℕ) (lists : List (List Request)) where
  abbrev AreHeld : List Request → Type 0
  AreHeld h = q ≤ holders lists h

  pub extract_is : 1 ≤ q → q ≤ length lists → IsExtract q lists (extract q lists)
  extract_is some few =
      let r = all_good q lists AreHeld lists (λ l is n best fine held longer. held) [] (omega (arith, few, all_hold_nothing lists)) in
      record {
        held = r.fine;
        longest = λ k enough.
            let one = begins_one lists k (omega (arith, some, enough)) in
            let front : k ≡ take (length k) one.0 = prefix_is_take k one.0 one.2 in
            omega (arith, ap length front, r.none one.0 one.1 (length k) (prefix_length k one.0 one.2) (subst (λ (z : List Request). q ≤ holders lists z) front enough));
      }

module _ (q : ℕ) (lists : List (List Request)) (k : List Request) where
  abbrev Extends : List Request → Type 0
  Extends h = IsPrefix k h × ((h ≡ k) ⊎ (q ≤ holders lists h))

  abbrev begun : List (List Request)
  begun = filter (λ l. starts_with request_eq l k) lists

  begun_gives : (l : List Request) → Contains begun l → Gives q lists Extends l
  begun_gives l is n best fine held longer =
      let begins = (starts_with-Decides l k).0 (Contains-filter_cases (λ l. starts_with request_eq l k) lists l is).1 in
      (prefix_take n k l begins (omega (arith, prefix_length k best fine.0, longer, length-take n l)), inr held)

  pub extension_is : 1 ≤ q → IsExtension q lists k (extension q lists k)
  extension_is some =
      let r = all_good q lists Extends begun begun_gives k (prefix_refl k, inl refl) in
      record {
        extends = r.fine.0;
        held = r.fine.1;
        longest = λ g begins enough.
            let one = begins_one lists g (omega (arith, some, enough)) in
            let front : g ≡ take (length g) one.0 = prefix_is_take g one.0 one.2 in
            let k_begins : IsPrefix k one.0 = trans k g one.0 begins one.2 in
            let stays = Contains-filter (λ l. starts_with request_eq l k) lists one.0 one.1 ((starts_with-Decides one.0 k).1 k_begins) in
            omega (arith, ap length front, r.none one.0 stays (length g) (prefix_length g one.0 one.2) (subst (λ (z : List Request). q ≤ holders lists z) front enough));
      }
    where
      trans : (a b c : List Request) → IsPrefix a b → IsPrefix b c → IsPrefix a c
      trans a b c one two = prefix_trans a b c one two
