-- What stands by its number, and who is faulty.
use Rattle.std.proofs.Common.{◌≡◌, ℕ, ◌<◌, ◌≤◌, ◌+◌, ◌-◌, ◌||◌, List, [], ◌∷◌, ◌++◌, append_assoc, map, slice_get, Some, refl, sym, ◌∙◌, ap, subst, arith}
use Rattle.std.specs.List.{list_any, range_with_len}
use Rattle.std.proofs.lemmas.Option.{slice_get-get_or}
use Rattle.std.proofs.lemmas.List.FromFn.{length-map-range_with_len, get_or-map-range_with_len, map-range_with_len_more}
use Rattle.ab_num.specs.declared.party.Party.{Party}
use Rattle.ab_num.specs.Parties.{party_eq}

-- what is made of the numbers below n stands by its number
pub stands_by_number : {X : Type 0} (f : ℕ → X) (n k : ℕ) → k < n → slice_get (map f (range_with_len 0 n)) k ≡ Some (f k)
stands_by_number f n k less =
    slice_get-get_or (map f (range_with_len 0 n)) k (f 0) (subst (λ m. k < m) (sym (length-map-range_with_len f 0 n)) less)
    ∙ ap Some (get_or-map-range_with_len f 0 n k k (f 0) less (omega arith))

-- one number more
pub one_number_more : {X : Type 0} (f : ℕ → X) (now new : List X) (x : X) (n : ℕ)
    → now ≡ map f (range_with_len 0 n) → new ≡ now ++ x ∷ [] → x ≡ f n → new ≡ map f (range_with_len 0 (n + 1))
one_number_more {X = X} f now new x n is more last =
    more ∙ ap (λ (l : List X). l ++ x ∷ []) is ∙ ap (λ (y : X). map f (range_with_len 0 n) ++ y ∷ []) last
    ∙ sym (map-range_with_len_more f 0 n n (omega arith))

-- whether a party is of the list
pub faulty_of : (p : Party) (faulty : List (Party × ℕ)) → list_any (λ e. party_eq p e.0) faulty ≡ list_any (party_eq p) (map (λ e. e.0) faulty)
faulty_of p [] = refl
faulty_of p (e ∷ es) = ap (λ b. party_eq p e.0 || b) (faulty_of p es)

-- one core more after those from the second on
pub one_twin_more : {N : Type 0} (old now new : List (N × ℕ)) (number : N) (earlier : ℕ) → 1 ≤ earlier
    → now ≡ old ++ map (λ twin. (number, twin)) (range_with_len 2 (earlier - 1)) → new ≡ now ++ (number, earlier + 1) ∷ []
    → new ≡ old ++ map (λ twin. (number, twin)) (range_with_len 2 (earlier + 1 - 1))
one_twin_more {N = N} old now new number earlier some is more =
    let twins : ℕ → List (N × ℕ) = λ n. map (λ twin. (number, twin)) (range_with_len 2 n) in
    let count : earlier - 1 + 1 ≡ earlier + 1 - 1 = omega arith in
    more ∙ ap (λ (l : List (N × ℕ)). l ++ (number, earlier + 1) ∷ []) is
    ∙ append_assoc old (twins (earlier - 1)) ((number, earlier + 1) ∷ [])
    ∙ ap (λ (l : List (N × ℕ)). old ++ l) (sym (map-range_with_len_more (λ twin. (number, twin)) 2 (earlier - 1) (earlier + 1) (omega arith)) ∙ ap twins count)
