-- The parts of a line.
use Rattle.std.proofs.Common.{◌≡◌, ◌-◌, ℕ, zero, suc, List, [], ◌∷◌, ◌++◌, Option, None, Some, eqb, refl, ap, min, take, drop, length, inl, inr, ◌≤◌, arith, codes, if◌then◌else◌, Bool, true, false, sym, ◌∙◌}
use Rattle.std.specs.Option.{option_and_then}
use Rattle.std.proofs.lemmas.Bool.{cases_lt}
use Rattle.std.proofs.lemmas.List.{take_all, length-drop}
use Rattle.ab_text.specs.Heads.{stripped}
use Rattle.ab_text.specs.HexBytes.{bytes_in}
use Rattle.ab_key_text.specs.Lines.{bytes_after}
use Rattle.ab_key_text.specs.Reading.{secret_of_parts, secret_text_in}

chosen : {A : Type 0} (b : Bool) (f : List ℕ → Option A) (o : Option (List ℕ)) → option_and_then f (if b then o else None) ≡ (if b then option_and_then f o else None)
chosen true f o = refl
chosen false f o = refl

-- two words that follow one another are one
pub stripped-append : (a b l : List ℕ) → stripped (a ++ b) l ≡ option_and_then (stripped b) (stripped a l)
stripped-append [] b l = refl
stripped-append (w ∷ ws) b [] = refl
stripped-append (w ∷ ws) b (x ∷ xs) =
    ap (λ o. if eqb w x then o else None) (stripped-append ws b xs) ∙ sym (chosen (eqb w x) (stripped b) (stripped ws xs))

pub after_none : (a b l : List ℕ) → None ≡ stripped a l → None ≡ stripped (a ++ b) l
after_none a b l h = sym (stripped-append a b l ∙ ap (option_and_then (stripped b)) (sym h))

pub after_some : (a b l rest : List ℕ) → Some rest ≡ stripped a l → stripped b rest ≡ stripped (a ++ b) l
after_some a b l rest h = sym (stripped-append a b l ∙ ap (option_and_then (stripped b)) (sym h))

drop_past : (n : ℕ) (s : List ℕ) → length s ≤ n → drop n s ≡ []
drop_past zero [] h = refl
drop_past (suc n) [] h = refl
drop_past zero (x ∷ xs) h = absurd (omega arith)
drop_past (suc n) (x ∷ xs) h = drop_past n xs (omega arith)

-- what stands before and after place n, or the end
pub take_min : (n : ℕ) (s : List ℕ) → take (min (length s) n) s ≡ take n s
take_min n s = elim (cases_lt (length s) n) [
  | inl short ↦ (let e : min (length s) n ≡ length s = omega arith in ap (λ m. take m s) e ∙ take_all (length s) s (omega arith) ∙ sym (take_all n s (omega arith)))
  | inr long ↦ (let e : min (length s) n ≡ n = omega arith in ap (λ m. take m s) e)
]

pub drop_min : (n : ℕ) (s : List ℕ) → drop (min (length s) n) s ≡ drop n s
drop_min n s = elim (cases_lt (length s) n) [
  | inl short ↦ (let e : min (length s) n ≡ length s = omega arith in ap (λ m. drop m s) e ∙ drop_past (length s) s (omega arith) ∙ sym (drop_past n s (omega arith)))
  | inr long ↦ (let e : min (length s) n ≡ n = omega arith in ap (λ m. drop m s) e)
]

-- ---- a secret

pub no_id : (text : List ℕ) (m : ℕ) → m ≡ min (length text) 32 → None ≡ bytes_in 16 (take m text) → None ≡ secret_text_in text
no_id text m e h =
    let none : bytes_in 16 (take 32 text) ≡ None = sym (h ∙ ap (λ k. bytes_in 16 (take k text)) e ∙ ap (bytes_in 16) (take_min 32 text)) in
    ap (λ o. secret_of_parts o (bytes_after (codes " ") 32 (drop 32 text))) (sym none)

pub with_id : (text id : List ℕ) (m : ℕ) (seed : Option (List ℕ)) → m ≡ min (length text) 32 → Some id ≡ bytes_in 16 (take m text)
    → seed ≡ bytes_after (codes " ") 32 (take (length text - m) (drop m text)) → secret_of_parts (Some id) seed ≡ secret_text_in text
with_id text id m seed e h k =
    let first : Some id ≡ bytes_in 16 (take 32 text) = h ∙ ap (λ j. bytes_in 16 (take j text)) e ∙ ap (bytes_in 16) (take_min 32 text) in
    let second : seed ≡ bytes_after (codes " ") 32 (drop 32 text) = k ∙ ap (bytes_after (codes " ") 32) (take_all (length text - m) (drop m text) (omega (arith, length-drop m text))) ∙ ap (λ j. bytes_after (codes " ") 32 (drop j text)) e ∙ ap (bytes_after (codes " ") 32) (drop_min 32 text) in
    λ j. secret_of_parts (first j) (second j)
