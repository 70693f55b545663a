-- A loop that reads one value after the other, and the list that it went over.
use Rattle.std.proofs.Common.{◌≡◌, ℕ, zero, suc, List, [], ◌∷◌, ◌++◌, Result, Ok, Err, refl, sym, ap, ◌∙◌, append_assoc, append-nil}
use Rattle.ab_form.specs.declared.bad.Bad.{Bad}
use Rattle.ab_form.specs.Readers.{◌>>=◌, Reader, many, listed}
use Rattle.ab_form.proofs.StepLemmas.{bind_ok, done_is}

-- what was read before, and what is still read
abbrev pub with_front : {A : Type 0} → List A → Result (List A × List ℕ) Bad → Result (List A × List ℕ) Bad
with_front front read = read >>= λ a. Ok (front ++ a.0, a.1)

-- the loop is at this place of the whole reading
abbrev pub IsAt : {S A : Type 0} → (S → Reader A) → (S → A → S) → Result (List A × List ℕ) Bad → ℕ → S → List ℕ → Type 0
IsAt {S} {A} item next total left state rest = (front : List A) × (with_front front (many item next left state rest) ≡ total)

regroup : {A : Type 0} (front : List A) (a : A) (read : Result (List A × List ℕ) Bad) → with_front front (read >>= λ more. Ok (a ∷ more.0, more.1)) ≡ with_front (front ++ a ∷ []) read
regroup {A} front a (Ok x) = ap (λ (xs : List A). Ok (xs, x.1)) (sym (append_assoc front (a ∷ []) x.0))
regroup front a (Err f) = refl

pub starts : {S A : Type 0} (item : S → Reader A) (next : S → A → S) (state : S) (n : ℕ) (bytes : List ℕ) → IsAt item next (many item next n state bytes) n state bytes
starts item next state n bytes = ([], elim (many item next n state bytes) as (λ v. with_front [] v ≡ v) [ Ok x ↦ refl | Err e ↦ refl ])

pub goes_on : {S A : Type 0} (item : S → Reader A) (next : S → A → S) (total : Result (List A × List ℕ) Bad) (left n : ℕ) (state after : S) (rest behind : List ℕ) (a : A)
    → left ≡ suc n → item state rest ≡ Ok (a, behind) → next state a ≡ after → IsAt item next total left state rest → IsAt item next total n after behind
goes_on item next total left n state after rest behind a k h is (front, so_far) =
    let one : with_front front (many item next left state rest) ≡ with_front (front ++ a ∷ []) (many item next n after behind) = rw (k, h, is) (regroup front a (many item next n after behind)) in
    (front ++ a ∷ [], sym one ∙ so_far)

pub fails : {S A : Type 0} (item : S → Reader A) (next : S → A → S) (total : Result (List A × List ℕ) Bad) (left n : ℕ) (state : S) (rest : List ℕ) (bad : Bad)
    → left ≡ suc n → item state rest ≡ Err bad → IsAt item next total left state rest → total ≡ Err bad
fails item next total left n state rest bad k h (front, so_far) = sym so_far ∙ rw (k, h) refl

-- what is read in order is what stands there
pub listed-is : {S A : Type 0} (item : S → Reader A) (next : S → A → S) (r : Reader A) → ((state : S) (bytes : List ℕ) (a : A × List ℕ) → item state bytes ≡ Ok a → r bytes ≡ Ok a)
    → (n : ℕ) (state : S) (bytes rest : List ℕ) (xs : List A) → many item next n state bytes ≡ Ok (xs, rest) → listed r n bytes ≡ xs
unfolding listed
listed-is {S} {A} item next r same zero state bytes rest xs e = ap (λ (p : List A × List ℕ). p.0) (done_is ([], bytes) (xs, rest) e)
listed-is {S} {A} item next r same (suc n) state bytes rest xs e =
    let a = bind_ok (item state bytes) (λ a. many item next n (next state a.0) a.1 >>= λ more. Ok (a.0 ∷ more.0, more.1)) (xs, rest) e in
    let d = bind_ok (many item next n (next state a.0.0) a.0.1) (λ more. Ok (a.0.0 ∷ more.0, more.1)) (xs, rest) a.2 in
    let ih = listed-is item next r same n (next state a.0.0) a.0.1 d.0.1 d.0.0 d.1 in
    let here : r bytes ≡ Ok a.0 = same state bytes a.0 a.1 in
    rw (here, listed) (ap (λ (t : List A). a.0.0 ∷ t) ih ∙ ap (λ (q : List A × List ℕ). q.0) (done_is (a.0.0 ∷ d.0.0, d.0.1) (xs, rest) d.2))

pub ends : {S A : Type 0} (item : S → Reader A) (next : S → A → S) (r : Reader A) (first last : S) (count left : ℕ) (bytes rest : List ℕ)
    → ((state : S) (bytes : List ℕ) (a : A × List ℕ) → item state bytes ≡ Ok a → r bytes ≡ Ok a)
    → left ≡ 0 → IsAt item next (many item next count first bytes) left last rest → many item next count first bytes ≡ Ok (listed r count bytes, rest)
ends {S} {A} item next r first last count left bytes rest same k (front, so_far) =
    let whole : many item next count first bytes ≡ Ok (front, rest) = sym so_far ∙ rw k (ap (λ (xs : List A). Ok (xs, rest)) (append-nil front)) in
    whole ∙ ap (λ (xs : List A). Ok (xs, rest)) (sym (listed-is item next r same count first bytes rest front whole))
