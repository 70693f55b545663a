-- Lists of pieces.
use Rattle.std.proofs.Common.{◌≡◌, ℕ, zero, suc, ◌+◌, ◌<◌, List, [], ◌∷◌, ◌++◌, length, take, get_or, Option, None, Some, unwrap_or, IfSome, refl, ap, sym, ◌∙◌, arith, add-zero, append_assoc, append-nil}
use Rattle.std.specs.List.{remove}
use Rattle.ab_piece.specs.Pieces.{each_from}
use Rattle.ab_piece.specs.Joining.{message_of, body_in, without}

-- one more
pub one_more : {A : Type 0} (f : ℕ → A) (i n : ℕ) → each_from f i (suc n) ≡ each_from f i n ++ f (i + n) ∷ []
one_more f i zero = ap (λ j. f j ∷ []) (sym (add-zero i))
one_more f i (suc n) =
    let e : suc i + n ≡ i + suc n = omega arith in
    ap (λ rest. f i ∷ rest) (one_more f (suc i) n ∙ ap (λ j. each_from f (suc i) n ++ f j ∷ []) e)

pub next_piece : {A : Type 0} (f : ℕ → A) (n : ℕ) → each_from f 0 (n + 1) ≡ each_from f 0 n ++ f n ∷ []
next_piece f n =
    let s : n + 1 ≡ suc n = omega arith in
    let z : 0 + n ≡ n = omega arith in
    ap (each_from f 0) s ∙ one_more f 0 n ∙ ap (λ j. each_from f 0 n ++ f j ∷ []) z

-- one is removed that stands before the last
pub remove_before : {A : Type 0} (xs : List A) (x : A) (at : ℕ) → at < length xs → remove (xs ++ x ∷ []) at ≡ remove xs at ++ x ∷ []
remove_before [] x at lt = let no : ⊥ = omega arith in absurd no
remove_before (y ∷ ys) x zero lt = refl
remove_before (y ∷ ys) x (suc at) lt = ap (λ rest. y ∷ rest) (remove_before ys x at (omega arith))

-- one body more is message_of
message_of_next : (xs : List (Option (List ℕ))) (i : ℕ) → i < length xs → message_of (take (suc i) xs) ≡ message_of (take i xs) ++ unwrap_or (get_or xs i None) []
message_of_next [] i lt = let no : ⊥ = omega arith in absurd no
message_of_next (x ∷ xs) zero lt = append-nil (unwrap_or x [])
message_of_next (x ∷ xs) (suc i) lt =
    ap (λ rest. unwrap_or x [] ++ rest) (message_of_next xs i (omega arith)) ∙ sym (append_assoc (unwrap_or x []) (message_of (take i xs)) (unwrap_or (get_or xs i None) []))

pub message_of_more : (xs : List (Option (List ℕ))) (i : ℕ) → i < length xs → message_of (take (i + 1) xs) ≡ message_of (take i xs) ++ body_in xs i
message_of_more xs i lt =
    let n : i + 1 ≡ suc i = omega arith in
    ap (λ k. message_of (take k xs)) n ∙ message_of_next xs i lt

-- the same where one is removed, or none
pub without_before : {A : Type 0} (at : Option ℕ) (xs : List A) (x : A) → IfSome at (λ k. k < length xs) → without at (xs ++ x ∷ []) ≡ without at xs ++ x ∷ []
without_before None xs x lt = refl
without_before (Some k) xs x lt = remove_before xs x k lt
