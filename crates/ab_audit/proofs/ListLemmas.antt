-- Lists that are put together of parts.
use Rattle.std.proofs.Common.{◌≡◌, suc, Bool, true, ◌||◌, List, [], ◌∷◌, ◌++◌, map, ap, sym, ◌∙◌, refl, arith}
use Rattle.std.specs.List.{Contains, filter, flat_map}
use Rattle.std.proofs.lemmas.Grind.{flat_map-append}
use Rattle.std.proofs.lemmas.List.Elements.{filter-append}

-- ---- elements

pub Contains-tail : {A : Type 0} (x : A) (xs : List A) (y : A) → Contains xs y → Contains (x ∷ xs) y
Contains-tail x xs y (k, lt, is) = (suc k, omega arith, is)

-- ---- parts of parts

pub filter-flat_map : {A B : Type 0} (p : B → Bool) (f : A → List B) (xs : List A) → flat_map (λ x. filter p (f x)) xs ≡ filter p (flat_map f xs)
filter-flat_map p f [] = refl
filter-flat_map p f (x ∷ xs) = ap (λ l. filter p (f x) ++ l) (filter-flat_map p f xs) ∙ sym (filter-append p (f x) (flat_map f xs))

pub flat_map-twice : {A B C : Type 0} (g : B → List C) (f : A → List B) (xs : List A) → flat_map (λ x. flat_map g (f x)) xs ≡ flat_map g (flat_map f xs)
flat_map-twice g f [] = refl
flat_map-twice g f (x ∷ xs) = ap (λ l. flat_map g (f x) ++ l) (flat_map-twice g f xs) ∙ sym (flat_map-append g (f x) (flat_map f xs))

pub flat_map-map : {A B C : Type 0} (g : B → List C) (f : A → B) (xs : List A) → flat_map g (map f xs) ≡ flat_map (λ x. g (f x)) xs
flat_map-map g f [] = refl
flat_map-map g f (x ∷ xs) = ap (λ l. g (f x) ++ l) (flat_map-map g f xs)

-- ---- tests

pub or_left : (a b : Bool) → a ≡ true → (a || b) ≡ true
or_left a b h = ap (λ t. t || b) h
