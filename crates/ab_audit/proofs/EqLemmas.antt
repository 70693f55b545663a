-- Two accusations are compared part by part.
use Rattle.std.proofs.Common.{◌≡◌, ℕ, ◌==◌, ◌&&◌, Bool, true, List, ◌∷◌, [], refl, ap, ◌∙◌, inl, inr, sym, subst, arith}
use Rattle.std.specs.List.{list_any, Contains}
use Rattle.std.proofs.lemmas.Bool.{false≢true, eqb-true, and_parts, or_cases, or_right}
use Rattle.std.proofs.lemmas.Bool.Decides.{nat_tests}
use Rattle.ab_num.proofs.Lists.{Contains-none, Contains-cons_cases, Contains-head}
use Rattle.ab_audit.specs.declared.accusation.Accusation.{Accusation}
use Rattle.ab_audit.specs.declared.accusation.Accusation.TheVariants.{Abort, Prepare}
use Rattle.ab_audit.specs.Accusations.{accusation_eq}
use Rattle.ab_audit.specs.contracts.accusation.AccusationPartialEq.TheImpl.{eq-value}
use Rattle.ab_audit.proofs.ListLemmas.{or_left, Contains-tail}

abbrev pub derived : Accusation → Accusation → Bool
derived = eq-value.it

derived_eq : (a b : Accusation) → derived a b ≡ accusation_eq a b
derived_eq (Abort r i) (Abort s j) = refl
derived_eq (Abort r i) (Prepare s j w l) = refl
derived_eq (Prepare r i v k) (Abort s j) = refl
derived_eq (Prepare r i v k) (Prepare s j w l) = refl

pub derived_test : (a : Accusation) → derived a ≡ accusation_eq a
derived_test a = λ j b. derived_eq a b j

same_number : (a : ℕ) → (a == a) ≡ true
same_number a = grind (arith, nat_tests)

pub one_accusation : (a b : Accusation) → accusation_eq a b ≡ true → a ≡ b
one_accusation (Abort r i) (Abort s j) h =
    let p = and_parts (r == s) (i == j) h in
    let e = eqb-true r s p.0 in
    let f = eqb-true i j p.1 in
    (λ t. Abort (e t) (f t))
one_accusation (Prepare r i v k) (Prepare s j w l) h =
    let p = and_parts (r == s) ((i == j) && ((v == w) && (k == l))) h in
    let q = and_parts (i == j) ((v == w) && (k == l)) p.1 in
    let o = and_parts (v == w) (k == l) q.1 in
    let a = eqb-true r s p.0 in
    let b = eqb-true i j q.0 in
    let c = eqb-true v w o.0 in
    let d = eqb-true k l o.1 in
    (λ t. Prepare (a t) (b t) (c t) (d t))
one_accusation (Abort r i) (Prepare s j w l) h = absurd (false≢true h)
one_accusation (Prepare r i v k) (Abort s j) h = absurd (false≢true h)

both : (a b : Bool) → a ≡ true → b ≡ true → (a && b) ≡ true
both a b e f = ap (λ t. t && b) e ∙ f

pub same_accusation : (a : Accusation) → accusation_eq a a ≡ true
same_accusation (Abort r i) = both (r == r) (i == i) (same_number r) (same_number i)
same_accusation (Prepare r i v k) =
    both (r == r) ((i == i) && ((v == v) && (k == k))) (same_number r)
    (both (i == i) ((v == v) && (k == k)) (same_number i) (both (v == v) (k == k) (same_number v) (same_number k)))

pub listed : (known : List Accusation) (a : Accusation) → list_any (accusation_eq a) known ≡ true → Contains known a
listed [] a h = absurd (false≢true h)
listed (b ∷ known) a h = elim (or_cases (accusation_eq a b) (list_any (accusation_eq a) known) h) [
  | inl here ↦ subst (Contains (b ∷ known)) (sym (one_accusation a b here)) (Contains-head b known)
  | inr more ↦ Contains-tail b known a (listed known a more)
]

pub is_listed : (known : List Accusation) (a : Accusation) → Contains known a → list_any (accusation_eq a) known ≡ true
is_listed [] a is = absurd (Contains-none a is)
is_listed (b ∷ known) a is = elim (Contains-cons_cases b known a is) [
  | inl e ↦ or_left (accusation_eq a b) (list_any (accusation_eq a) known) (ap (accusation_eq a) e ∙ same_accusation a)
  | inr more ↦ or_right (accusation_eq a b) (list_any (accusation_eq a) known) (is_listed known a more)
]
