-- Kept VIEW-CHANGEs.
use Rattle.std.proofs.Common.{◌≡◌, ◌⊎◌, ℕ, suc, ◌<◌, ◌≤◌, ◌==◌, true, false, not, cond, ◌+◌, Some, None, Option, List, [], ◌∷◌, ◌++◌, length, take, get_or, refl, sym, ap, ◌∙◌, subst, inl, inr, arith}
use Rattle.std.specs.Prelude.{count_by, nat_lt, if◌then◌else◌, slice_get, slice_set}
use Rattle.std.specs.List.{insert, filter, take_while}
use Rattle.std.proofs.lemmas.List.Recursion.{is_count_by}
use Rattle.std.proofs.lemmas.List.Sums.{take_while-cons}
use Rattle.std.proofs.lemmas.List.{take_more}
use Rattle.std.proofs.lemmas.Bool.{cases_Bool}
use Rattle.std.proofs.lemmas.Bool.Decides.{nat_tests}
use Rattle.ab_num.proofs.Tests.{nat_lt-turned, nat_lt-above, nat_lt-same}
use Rattle.ab_msg.specs.declared.value.Value.{Value}
use Rattle.ab_lock.specs.ViewChanges.{Kept, of_view, put}
use Rattle.ab_pbft_rules.specs.Rules.{without}
use Rattle.ab_slots.specs.Places.{place_by, is_by}

pub of_view_counted : (kept : List (Kept Value)) (w : ℕ) → length (of_view kept w) ≡ count_by (λ u. u.view == w) kept
of_view_counted kept w = is_count_by (λ (l : List (Kept Value)). length (of_view l w)) (λ u. u.view == w) refl step kept
  where
    step : (u : Kept Value) (l : List (Kept Value)) → length (of_view (u ∷ l) w) ≡ cond (u.view == w) (1 + length (of_view l w)) (length (of_view l w))
    step u l =
        elim (cases_Bool (u.view == w)) [
          | inl here ↦ rw here (omega arith)
          | inr other ↦ rw other refl
        ]

-- one more for the view, and one for another
of_view_pushed : (kept : List (Kept Value)) (u : Kept Value) (w : ℕ) → (u.view == w) ≡ true → of_view (kept ++ u ∷ []) w ≡ of_view kept w ++ u.change ∷ []
of_view_pushed [] u w here = rw here refl
of_view_pushed (v ∷ kept) u w here =
    elim (cases_Bool (v.view == w)) [
      | inl same ↦ rw same (ap (λ l. v.change ∷ l) (of_view_pushed kept u w here))
      | inr other ↦ rw other (of_view_pushed kept u w here)
    ]

of_view_passed : (kept : List (Kept Value)) (u : Kept Value) (w : ℕ) → (u.view == w) ≡ false → of_view (kept ++ u ∷ []) w ≡ of_view kept w
of_view_passed [] u w here = rw here refl
of_view_passed (v ∷ kept) u w here =
    elim (cases_Bool (v.view == w)) [
      | inl same ↦ rw same (ap (λ l. v.change ∷ l) (of_view_passed kept u w here))
      | inr other ↦ rw other (of_view_passed kept u w here)
    ]

pub of_view_more : (kept : List (Kept Value)) (i : ℕ) (u : Kept Value) (w : ℕ) → i < length kept → u ≡ get_or kept i u → (u.view == w) ≡ true → of_view (take (i + 1) kept) w ≡ of_view (take i kept) w ++ u.change ∷ []
of_view_more kept i u w lt is here = ap (λ l. of_view l w) (take_more kept i u lt ∙ ap (λ (v : Kept Value). take i kept ++ v ∷ []) (sym is)) ∙ of_view_pushed (take i kept) u w here

pub of_view_same : (kept : List (Kept Value)) (i : ℕ) (u : Kept Value) (w : ℕ) → i < length kept → u ≡ get_or kept i u → (u.view == w) ≡ false → of_view (take (i + 1) kept) w ≡ of_view (take i kept) w
of_view_same kept i u w lt is here = ap (λ l. of_view l w) (take_more kept i u lt ∙ ap (λ (v : Kept Value). take i kept ++ v ∷ []) (sym is)) ∙ of_view_passed (take i kept) u w here

pub without_filtered : (r : ℕ) (kept : List (Kept Value)) → without r kept ≡ filter (λ u. not (u.change.by == r)) kept
without_filtered r [] = refl
without_filtered r (u ∷ kept) =
    elim (cases_Bool (u.change.by == r)) [
      | inl same ↦ rw same (without_filtered r kept)
      | inr other ↦ rw other (ap (λ l. u ∷ l) (without_filtered r kept))
    ]

-- ---- the place of a replica

pub place_counted : (r : ℕ) (kept : List (Kept Value)) → length (take_while (λ u. nat_lt u.change.by r) kept) ≡ place_by r kept
place_counted r [] = refl
place_counted r (u ∷ kept) =
    elim (cases_Bool (nat_lt u.change.by r)) [
      | inl lower ↦ ap length (take_while-cons (λ (w : Kept Value). nat_lt w.change.by r) u kept) ∙ rw lower (ap suc (place_counted r kept))
      | inr other ↦ ap length (take_while-cons (λ (w : Kept Value). nat_lt w.change.by r) u kept) ∙ rw other refl
    ]

pub place_within : (r : ℕ) (kept : List (Kept Value)) → place_by r kept ≤ length kept
place_within r [] = omega arith
place_within r (u ∷ kept) =
    elim (cases_Bool (nat_lt u.change.by r)) [
      | inl lower ↦ rw lower (omega (arith, place_within r kept))
      | inr other ↦ rw other (omega arith)
    ]

not_same : (a b : ℕ) → nat_lt a b ≡ true → (b == a) ≡ false
not_same a b h = grind (arith, nat_tests)

same_turned : (a b : ℕ) → (a == b) ≡ true → (b == a) ≡ true
same_turned a b e = grind (arith, nat_tests)

-- one of a replica that has none there
pub put_new : (new : Kept Value) (kept : List (Kept Value)) → is_by new.change.by (slice_get kept (place_by new.change.by kept)) ≡ false → insert kept (place_by new.change.by kept) new ≡ put new kept
put_new new [] none = refl
put_new new (u ∷ kept) none = of (put_new new kept) (cases_Bool (nat_lt u.change.by new.change.by))
  where
    of : (is_by new.change.by (slice_get kept (place_by new.change.by kept)) ≡ false → insert kept (place_by new.change.by kept) new ≡ put new kept) → ((nat_lt u.change.by new.change.by ≡ true) ⊎ (nat_lt u.change.by new.change.by ≡ false)) → insert (u ∷ kept) (place_by new.change.by (u ∷ kept)) new ≡ put new (u ∷ kept)
    of rest (inl lower) =
        let a = nat_lt-turned u.change.by new.change.by lower in
        let b = not_same u.change.by new.change.by lower in
        rw (lower, a, b) (ap (λ l. u ∷ l) (rest (rw lower at none)))
    of rest (inr other) =
        let c = nat_lt-above u.change.by new.change.by other (rw other at none) in
        rw (other, c) refl

-- one of a replica that has one there
pub put_there : (new u : Kept Value) (kept : List (Kept Value)) → slice_get kept (place_by new.change.by kept) ≡ Some u → (u.change.by == new.change.by) ≡ true
    → put new kept ≡ (if nat_lt u.view new.view then slice_set kept (place_by new.change.by kept) new else kept)
put_there new u [] is same = absurd (cc is)
put_there new u (v ∷ kept) is same = of (λ there. put_there new u kept there same) (cases_Bool (nat_lt v.change.by new.change.by))
  where
    of : (slice_get kept (place_by new.change.by kept) ≡ Some u → put new kept ≡ (if nat_lt u.view new.view then slice_set kept (place_by new.change.by kept) new else kept)) → ((nat_lt v.change.by new.change.by ≡ true) ⊎ (nat_lt v.change.by new.change.by ≡ false)) → put new (v ∷ kept) ≡ (if nat_lt u.view new.view then slice_set (v ∷ kept) (place_by new.change.by (v ∷ kept)) new else v ∷ kept)
    of rest (inl lower) =
        let a = nat_lt-turned v.change.by new.change.by lower in
        let b = not_same v.change.by new.change.by lower in
        let more = rest (rw lower at is) in
        elim (cases_Bool (nat_lt u.view new.view)) [
          | inl later ↦ rw (a, b, later, lower) (ap (λ l. v ∷ l) (rw later at more))
          | inr kept_on ↦ rw (a, b, kept_on) (ap (λ l. v ∷ l) (rw kept_on at more))
        ]
    of rest (inr other) =
        let here : Some v ≡ Some u = rw other at is in
        let e : v ≡ u = cc here in
        let twin = ap (λ (w : Kept Value). w.change.by == new.change.by) e ∙ same in
        let a = nat_lt-same v.change.by new.change.by twin in
        let b = same_turned v.change.by new.change.by twin in
        let view_is : nat_lt v.view new.view ≡ nat_lt u.view new.view = ap (λ (w : Kept Value). nat_lt w.view new.view) e in
        elim (cases_Bool (nat_lt u.view new.view)) [
          | inl later ↦ let l = view_is ∙ later in rw (a, b, l, later, other) refl
          | inr kept_on ↦ let l = view_is ∙ kept_on in rw (a, b, l, kept_on) refl
        ]

pub put_replaced : (new : Kept Value) (kept replaced : List (Kept Value)) → is_by new.change.by (slice_get kept (place_by new.change.by kept)) ≡ true
    → ((u : Kept Value) → slice_get kept (place_by new.change.by kept) ≡ Some u → replaced ≡ (if nat_lt u.view new.view then slice_set kept (place_by new.change.by kept) new else kept))
    → replaced ≡ put new kept
put_replaced new kept replaced there is = of (slice_get kept (place_by new.change.by kept)) refl
  where
    of : (o : Option (Kept Value)) → slice_get kept (place_by new.change.by kept) ≡ o → replaced ≡ put new kept
    of None e = absurd (let f : is_by new.change.by (slice_get kept (place_by new.change.by kept)) ≡ false = ap (is_by new.change.by) e in cc)
    of (Some u) e = is u e ∙ sym (put_there new u kept e (sym (ap (is_by new.change.by) e) ∙ there))

pub put_replaced_at : (new : Kept Value) (kept replaced : List (Kept Value)) (n : ℕ) → n ≡ place_by new.change.by kept → is_by new.change.by (slice_get kept n) ≡ true
    → ((u : Kept Value) → slice_get kept n ≡ Some u → replaced ≡ (if nat_lt u.view new.view then slice_set kept n new else kept))
    → replaced ≡ put new kept
put_replaced_at new kept replaced n e =
    subst (λ (m : ℕ). is_by new.change.by (slice_get kept m) ≡ true → ((u : Kept Value) → slice_get kept m ≡ Some u → replaced ≡ (if nat_lt u.view new.view then slice_set kept m new else kept)) → replaced ≡ put new kept)
    (sym e)
    (put_replaced new kept replaced)
