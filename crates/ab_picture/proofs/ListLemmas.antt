-- Texts that grow by elements of items.
use Rattle.std.specs.List.{enumerate_from}
use Rattle.std.proofs.Common.{◌≡◌, ℕ, ◌+◌, ◌<◌, ◌≤◌, List, [], ◌∷◌, ◌++◌, length, get_or, take, sym, ap, ◌∙◌, subst, append_assoc, arith}
use Rattle.std.proofs.lemmas.List.{append-nil, length-take-le, take_all, take_more}
use Rattle.ab_picture.specs.Lists.{AddsAll, AddsOne, lists_more, lists_none}

-- ---- items with their numbers

-- the numbers of the items that are in front, and then that of one item more
enumerate_more : {A : Type 0} (a : ℕ) (xs : List A) (x : A) → enumerate_from a (xs ++ x ∷ []) ≡ enumerate_from a xs ++ (a + length xs, x) ∷ []
enumerate_more a [] x = let e : a ≡ a + 0 = omega arith in ap (λ n. (n, x) ∷ []) e
enumerate_more a (y ∷ xs) x =
    let e : a + 1 + length xs ≡ a + length (y ∷ xs) = omega arith in
    ap (λ t. (a, y) ∷ t) (enumerate_more (a + 1) xs x ∙ ap (λ n. enumerate_from (a + 1) xs ++ (n, x) ∷ []) e)

module _ {A : Type 0} (IsElement : A → List ℕ → Type 0) where
  pub none_added : (text : List ℕ) → AddsAll IsElement [] text text
  none_added text = record { added = record { text = []; lists = lists_none }; is = sym (append-nil text) }

  pub more_added : (xs : List A) (x : A) (start old new : List ℕ) → AddsAll IsElement xs start old → AddsOne IsElement x old new → AddsAll IsElement (xs ++ x ∷ []) start new
  more_added xs x start old new all one = record {
    added = record { text = all.added.text ++ one.element; lists = lists_more xs x all.added.text one.element all.added.lists one.shows };
    is = one.is ∙ ap (λ t. t ++ one.element) all.is ∙ append_assoc start all.added.text one.element;
  }

  -- an item that stands behind some others comes to them
  pub one_added : (front : List A) (x : A) (next : List A) (start old new : List ℕ) → next ≡ front ++ x ∷ []
      → AddsAll IsElement front start old → AddsOne IsElement x old new → AddsAll IsElement next start new
  one_added front x next start old new more all one =
      subst (λ (xs : List A). AddsAll IsElement xs start new) (sym more) (more_added front x start old new all one)

  -- what is added in one step
  pub step : (x : A) (old new element : List ℕ) → IsElement x element → new ≡ old ++ element → AddsOne IsElement x old new
  step x old new element shows is = record { element = element; shows = shows; is = is }

  -- none is left
  pub all_added : (xs ys : List A) (start new : List ℕ) → xs ≡ ys → AddsAll IsElement xs start new → AddsAll IsElement ys start new
  all_added xs ys start new same all = subst (λ (zs : List A). AddsAll IsElement zs start new) same all

-- ---- which items are in front

-- the one in place i of a list, where a type owns memory
pub taken_item : {A : Type 0} (xs : List A) (i : ℕ) (x : A) → i < length xs → x ≡ get_or xs i x → take (i + 1) xs ≡ take i xs ++ x ∷ []
taken_item xs i x within at = take_more xs i x within ∙ ap (λ y. take i xs ++ y ∷ []) (sym at)

-- and with the number that it has if the first one has the number a
pub numbered_item : {A : Type 0} (a : ℕ) (xs : List A) (i n : ℕ) (d : A) → i < length xs → n ≡ a + i
    → enumerate_from a (take (i + 1) xs) ≡ enumerate_from a (take i xs) ++ (n, get_or xs i d) ∷ []
numbered_item a xs i n d within is =
    let e : a + length (take i xs) ≡ n = omega (arith, length-take-le i xs (omega (arith, within)), is) in
    ap (enumerate_from a) (take_more xs i d within) ∙ enumerate_more a (take i xs) (get_or xs i d)
    ∙ ap (λ k. enumerate_from a (take i xs) ++ (k, get_or xs i d) ∷ []) e

-- the items in front of the end are all
pub taken_all : {A : Type 0} (xs ys : List A) (i : ℕ) → length xs ≤ i → xs ≡ ys → take i xs ≡ ys
taken_all xs ys i end same = take_all i xs end ∙ same
