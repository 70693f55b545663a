-- The first separator of a text.
use Rattle.std.proofs.Common.{◌≡◌, ℕ, ◌^◌, decimal, zero, suc, ◌+◌, ◌<◌, List, [], ◌∷◌, ◌++◌, length, get_or, take, drop, refl, sym, ap, ◌∙◌, arith, subst, inl, inr}
use Rattle.std.proofs.lemmas.Bool.{cases_order}
use Rattle.std.proofs.lemmas.Str.Parse.{digit_at}
use Rattle.std.proofs.lemmas.Fmt.{decimal_is_IsNumeral}
use Rattle.std.proofs.lemmas.List.{get_or_default}
use Rattle.std.proofs.Math.Seq.{take-append_seam}
use Rattle.ab_text.specs.Cores.{Lacks}

here : (s : ℕ) (a b : List ℕ) → get_or (a ++ s ∷ b) (length a) 0 ≡ s
here s [] b = refl
here s (x ∷ a) b = here s a b

within : (s : ℕ) (a b : List ℕ) (i : ℕ) → i < length a → get_or (a ++ s ∷ b) i 0 ≡ get_or a i 0
within s [] b i lt = absurd (omega arith)
within s (x ∷ a) b zero lt = refl
within s (x ∷ a) b (suc i) lt = within s a b i (omega arith)

behind : (s : ℕ) (a b : List ℕ) → drop (length a + 1) (a ++ s ∷ b) ≡ b
behind s [] b = refl
behind s (x ∷ a) b = (let e : length (x ∷ a) + 1 ≡ suc (length a + 1) = omega arith in ap (λ n. drop n (x ∷ a ++ s ∷ b)) e) ∙ behind s a b

-- the first separator is where the front without one ends
place : (s : ℕ) (a b : List ℕ) (i : ℕ) → Lacks s a → ((k : ℕ) → k < i → get_or (a ++ s ∷ b) k 0 ≡ s → ⊥) → get_or (a ++ s ∷ b) i 0 ≡ s → i ≡ length a
place s a b i none before at = elim (cases_order i (length a)) [
  | inl e ↦ e
  | inr (inl low) ↦ absurd (none i 0 low (sym (within s a b i low) ∙ at))
  | inr (inr high) ↦ absurd (before (length a) high (here s a b))
]

pub split_there : (s : ℕ) (t a b : List ℕ) (i : ℕ) → Lacks s a → t ≡ a ++ s ∷ b → ((k : ℕ) → k < i → get_or t k 0 ≡ s → ⊥) → get_or t i 0 ≡ s → (take i t ≡ a) × (drop (i + 1) t ≡ b)
split_there s t a b i none is before at =
    let at_end : i ≡ length a = place s a b i none (λ k lt e. before k lt (ap (λ xs. get_or xs k 0) is ∙ e)) (ap (λ xs. get_or xs i 0) (sym is) ∙ at) in
    ((λ j. take (at_end j) (is j)) ∙ take-append_seam a (s ∷ b), (λ j. drop (at_end j + 1) (is j)) ∙ behind s a b)

pub no_split : (s : ℕ) (t a b : List ℕ) → t ≡ a ++ s ∷ b → ((k : ℕ) → k < length t → get_or t k 0 ≡ s → ⊥) → ⊥
no_split s t a b is none = none (length a) (short t a b is) (ap (λ xs. get_or xs (length a) 0) is ∙ here s a b)
  where
    longer : (xs ys : List ℕ) → length xs < length (xs ++ s ∷ ys)
    longer [] ys = omega arith
    longer (x ∷ xs) ys = let h = longer xs ys in omega (arith, h)

    short : (ts xs ys : List ℕ) → ts ≡ xs ++ s ∷ ys → length xs < length ts
    short ts xs ys e = subst (λ zs. length xs < length zs) (sym e) (longer xs ys)

-- two texts with a first separator, which are equal, have equal parts
pub same_parts : (s : ℕ) (a b c d : List ℕ) → Lacks s a → Lacks s c → a ++ s ∷ b ≡ c ++ s ∷ d → (a ≡ c) × (b ≡ d)
same_parts s a b c d first second e =
    let before : (k : ℕ) → k < length a → get_or (a ++ s ∷ b) k 0 ≡ s → ⊥ = λ k lt at. first k 0 lt (sym (within s a b k lt) ∙ at) in
    let mine = split_there s (a ++ s ∷ b) a b (length a) first refl before (here s a b) in
    let other = split_there s (a ++ s ∷ b) c d (length a) second e before (here s a b) in
    (sym mine.0 ∙ other.0, sym mine.1 ∙ other.1)

-- digits hold no space and no dot
pub Lacks-decimal : (s n : ℕ) → s < 48 → n < 2 ^ 64 → Lacks s (decimal n)
Lacks-decimal s n low small k d lt e =
    let digit = digit_at (decimal n) k (decimal_is_IsNumeral n small).0.1 lt in
    let same : get_or (decimal n) k d ≡ get_or (decimal n) k 0 = get_or_default (decimal n) k d 0 lt in
    omega (arith, digit.0, same, e)

pub Lacks-cons : (s b : ℕ) (bs : List ℕ) → (b ≡ s → ⊥) → Lacks s bs → Lacks s (b ∷ bs)
Lacks-cons s b bs first rest zero d lt = first
Lacks-cons s b bs first rest (suc k) d lt = rest k d (omega arith)

pub Lacks-append : (s : ℕ) (a b : List ℕ) → Lacks s a → Lacks s b → Lacks s (a ++ b)
Lacks-append s [] b first second = second
Lacks-append s (x ∷ a) b first second = Lacks-cons s x (a ++ b) (first 0 0 (omega arith)) (Lacks-append s a b (λ k d lt. first (suc k) d (omega arith)) second)
