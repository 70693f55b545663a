-- Texts that list items.
use Rattle.std.specs.Prelude.{◌≡◌, ℕ, List, [], ◌∷◌, ◌++◌}

-- the text has an element of each of these items, one after another, and nothing else
pub data ListsAll {A : Type 0} (IsElement : A → List ℕ → Type 0) : List A → List ℕ → Type 0 where
  lists_none : ListsAll IsElement [] []
  lists_more : (items : List A) (item : A) (text element : List ℕ) → ListsAll IsElement items text → IsElement item element
      → ListsAll IsElement (items ++ item ∷ []) (text ++ element)

-- elements of these items, one after another
pub record Listed {A : Type 0} (IsElement : A → List ℕ → Type 0) (items : List A) : Type 0 where
  pub text : List ℕ
  pub lists : ListsAll IsElement items text

-- a text grew by an element of this item
pub record AddsOne {A : Type 0} (IsElement : A → List ℕ → Type 0) (item : A) (old new : List ℕ) : Type 0 where
  pub element : List ℕ
  pub shows : IsElement item element
  pub is : new ≡ old ++ element

-- a text grew by elements of these items
pub record AddsAll {A : Type 0} (IsElement : A → List ℕ → Type 0) (items : List A) (old new : List ℕ) : Type 0 where
  pub added : Listed IsElement items
  pub is : new ≡ old ++ added.text
