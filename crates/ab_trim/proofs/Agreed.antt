-- Lists agree on one point.
use Rattle.std.proofs.Common.{◌≡◌, ℕ, ◌+◌, ◌<◌, ◌≤◌, Bool, true, false, Option, Some, None, List, [], ◌∷◌, length, arith, refl, sym, ap, ◌∙◌, subst, inl, inr}
use Rattle.std.specs.Prelude.{Contains, ◌&&◌, nat_le, if◌then◌else◌}
use Rattle.std.proofs.lemmas.Bool.{cases_lt, le-leb}
use Rattle.ab_hist.specs.Trimmed.{Trimmed, digest_at, Holds, holds, cut}
use Rattle.ab_trim.specs.Points.{IsLastPoint, fewer, least_holder, IsAgreedList}
use Rattle.ab_trim.proofs.Chains.{Contains-head, Contains-tail, Contains-cons_cases}
use Rattle.ab_trim.proofs.Stands.{holds-Decides}
use Rattle.ab_trim.proofs.Counts.{parts_meet}

-- ---- one point

pub one_point : (q : ℕ) (ts : List Trimmed) (n k : ℕ) (d e : List ℕ) → length ts < q + q → IsLastPoint q ts n d → IsLastPoint q ts k e → (n ≡ k) × (d ≡ e)
one_point q ts n k d e half is also =
    let number : n ≡ k = omega (arith, is.last k e also.held, also.last n d is.held) in
    let both = parts_meet (holds n d) (holds k e) ts (omega (arith, half, is.held, also.held)) in
    let one = (holds-Decides n d both.element).0 both.first in
    let two = (holds-Decides k e both.element).0 both.second in
    (number, sym one.digest ∙ (ap (digest_at both.element) number ∙ two.digest))

pub one_list : (q : ℕ) (ts : List Trimmed) (h k : Trimmed) → length ts < q + q → IsAgreedList q ts h → IsAgreedList q ts k → h ≡ k
one_list q ts h k half is also =
    let same = one_point q ts is.number also.number is.digest also.digest half is.point also.point in
    let least : Some is.holder ≡ Some also.holder = sym is.least ∙ ((λ i. least_holder (same.0 i) (same.1 i) ts) ∙ also.least) in
    let one : is.holder ≡ also.holder = cc (least) in
    is.front ∙ ((λ i. cut (same.0 i) (one i)) ∙ sym also.front)

-- ---- the holder that has forgotten the least

pub record IsLeast (n : ℕ) (d : List ℕ) (ts : List Trimmed) (t : Trimmed) : Type 0 where
  pub there : Contains ts t
  pub held : Holds t n d
  pub least : (u : Trimmed) → Contains ts u → Holds u n d → t.start ≤ u.start

module _ (n : ℕ) (d : List ℕ) where
  least_with : (t : Trimmed) (ts : List Trimmed) (h : Trimmed) (o : Option Trimmed) (b : Bool) → holds n d t ≡ b → (o ≡ None → (u : Trimmed) → Contains ts u → Holds u n d → ⊥) → ((u : Trimmed) → o ≡ Some u → IsLeast n d ts u)
      → fewer n d t o ≡ Some h → IsLeast n d (t ∷ ts) h
  least_with t ts h None true b_is none some is =
      let e : t ≡ h = cc (sym (ap (λ b. if b then Some t else None) b_is) ∙ is) in
      subst (λ (x : Trimmed). IsLeast n d (t ∷ ts) x) e (record {
        there = Contains-head t ts;
        held = (holds-Decides n d t).0 b_is;
        least = λ u has held.
            elim (Contains-cons_cases t ts u has) [
              | inl same ↦ subst (λ (x : Trimmed). t.start ≤ x.start) same (omega arith)
              | inr more ↦ absurd (none refl u more held)
            ];
      })
  least_with t ts h None false b_is none some is = let e : None ≡ Some h = sym (ap (λ b. if b then Some t else None) b_is) ∙ is in absurd (cc (e))
  least_with t ts h (Some v) true b_is none some is =
      let was = some v refl in
      elim (cases_lt v.start t.start) [
        | inr below ↦
            let test : (holds n d t && nat_le t.start v.start) ≡ true = (λ i. b_is i && le-leb t.start v.start below i) in
            let e : Some t ≡ Some h = sym (ap (λ b. if b then Some t else Some v) test) ∙ is in
            let same : t ≡ h = cc (e) in
            subst (λ (x : Trimmed). IsLeast n d (t ∷ ts) x) same (record {
              there = Contains-head t ts;
              held = (holds-Decides n d t).0 b_is;
              least = λ u has held.
                  elim (Contains-cons_cases t ts u has) [
                    | inl one ↦ subst (λ (x : Trimmed). t.start ≤ x.start) one (omega arith)
                    | inr more ↦ omega (arith, below, was.least u more held)
                  ];
            })
        | inl above ↦
            let test : (holds n d t && nat_le t.start v.start) ≡ false = (λ i. b_is i && above_false t.start v.start above i) in
            let e : Some v ≡ Some h = sym (ap (λ b. if b then Some t else Some v) test) ∙ is in
            let same : v ≡ h = cc (e) in
            subst (λ (x : Trimmed). IsLeast n d (t ∷ ts) x) same (record {
              there = Contains-tail t v ts was.there;
              held = was.held;
              least = λ u has held.
                  elim (Contains-cons_cases t ts u has) [
                    | inl one ↦ subst (λ (x : Trimmed). v.start ≤ x.start) one (omega (arith, above))
                    | inr more ↦ was.least u more held
                  ];
            })
      ]
    where
      above_false : (a b : ℕ) → b < a → nat_le a b ≡ false
      above_false a b lt = grind (arith, lt)
  least_with t ts h (Some v) false b_is none some is =
      let was = some v refl in
      let test : (holds n d t && nat_le t.start v.start) ≡ false = ap (λ b. b && nat_le t.start v.start) b_is in
      let e : Some v ≡ Some h = sym (ap (λ b. if b then Some t else Some v) test) ∙ is in
      let same : v ≡ h = cc (e) in
      subst (λ (x : Trimmed). IsLeast n d (t ∷ ts) x) same (record {
        there = Contains-tail t v ts was.there;
        held = was.held;
        least = λ u has held.
            elim (Contains-cons_cases t ts u has) [
              | inl one ↦ absurd (let both : true ≡ false = sym ((holds-Decides n d u).1 held) ∙ (ap (holds n d) (sym one) ∙ b_is) in cc (both))
              | inr more ↦ was.least u more held
            ];
      })

  fewer_none : (t : Trimmed) (o : Option Trimmed) → fewer n d t o ≡ None → (o ≡ None) × (holds n d t ≡ false)
  fewer_none t None is = (refl, test (holds n d t) refl)
    where
      test : (b : Bool) → holds n d t ≡ b → holds n d t ≡ false
      test true e = let two : Some t ≡ None = sym (ap (λ b. if b then Some t else None) e) ∙ is in absurd (cc (two))
      test false e = e
  fewer_none t (Some u) is = absurd (test (holds n d t && nat_le t.start u.start) refl)
    where
      test : (b : Bool) → (holds n d t && nat_le t.start u.start) ≡ b → ⊥
      test true e = let two : Some t ≡ None = sym (ap (λ b. if b then Some t else Some u) e) ∙ is in cc (two)
      test false e = let two : Some u ≡ None = sym (ap (λ b. if b then Some t else Some u) e) ∙ is in cc (two)

  none_holds : (ts : List Trimmed) → least_holder n d ts ≡ None → (u : Trimmed) → Contains ts u → Holds u n d → ⊥
  none_holds [] is u has held = omega (arith, has.1)
  none_holds (t ∷ ts) is u has held =
      let both = fewer_none t (least_holder n d ts) is in
      elim (Contains-cons_cases t ts u has) [
        | inl one ↦ let two : true ≡ false = sym ((holds-Decides n d u).1 held) ∙ (ap (holds n d) (sym one) ∙ both.1) in cc (two)
        | inr more ↦ none_holds ts both.0 u more held
      ]

  pub least_is : (ts : List Trimmed) (h : Trimmed) → least_holder n d ts ≡ Some h → IsLeast n d ts h
  least_is [] h is = absurd (cc (is))
  least_is (t ∷ ts) h is = least_with t ts h (least_holder n d ts) (holds n d t) refl (none_holds ts) (λ u e. least_is ts u e) is

  -- if a list holds the point, there is a least holder
  pub least_there : (ts : List Trimmed) (t : Trimmed) → Contains ts t → Holds t n d → (h : Trimmed) × (least_holder n d ts ≡ Some h)
  least_there ts t has held = found (least_holder n d ts) refl
    where
      found : (o : Option Trimmed) → least_holder n d ts ≡ o → (h : Trimmed) × (least_holder n d ts ≡ Some h)
      found None e = absurd (none_holds ts e t has held)
      found (Some h) e = (h, e)
