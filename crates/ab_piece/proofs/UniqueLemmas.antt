-- Each message is open once.
use Rattle.std.proofs.Common.{◌≡◌, inl, inr, ℕ, ◌<◌, ◌≤◌, ◌==◌, List, [], ◌∷◌, ◌++◌, length, get_or, Option, None, Some, Bool, true, false, cond, refl, ap, sym, subst, ◌∙◌, eqb-true, arith}
use Rattle.std.specs.Prelude.{nat_lt}
use Rattle.std.specs.List.{count_by, position, remove}
use Rattle.std.proofs.lemmas.Bool.{and_parts, cases_Bool}
use Rattle.std.proofs.lemmas.List.Quantifiers.{position-Some}
use Rattle.std.proofs.lemmas.List.Sums.{sum_by-remove, sum_by-set, sum_by_push}
use Rattle.ab_num.specs.declared.party.Party.{Party}
use Rattle.ab_num.specs.Parties.{party_eq}
use Rattle.ab_num.proofs.PartyLemmas.{same_party}
use Rattle.ab_piece.specs.Joining.{OpenMessage, Joined, is_from, is_of, open_after, opened, step_of, with_body, with_room, without}
use Rattle.ab_piece.proofs.ChangeLemmas.{Change, alone, changes, completes, drops, extends, opens}

abbrev pub Unique : List OpenMessage → Type 0
Unique os = (s : Party) (n : ℕ) → count_by (is_of s n) os ≤ 1

abbrev pub one_if : Bool → ℕ
one_if b = cond b 1 0

pub fewer : (test : OpenMessage → Bool) (os : List OpenMessage) (at : ℕ) (d : OpenMessage) → at < length os → count_by test (remove os at) ≤ count_by test os
fewer test os at d lt = let sum = sum_by-remove (λ (o : OpenMessage). one_if (test o)) os at d lt in omega arith

pub fewer_left : (sender : Party) (test : OpenMessage → Bool) (os : List OpenMessage) (d : OpenMessage) → count_by test (with_room sender os) ≤ count_by test os
fewer_left sender test os d = go (nat_lt (count_by (is_from sender) os) 8) (position (is_from sender) os) refl where
  go : (b : Bool) (place : Option ℕ) → position (is_from sender) os ≡ place → count_by test (without (cond b None place) os) ≤ count_by test os
  go true place e = omega arith
  go false None e = omega arith
  go false (Some at) e = let f = position-Some (is_from sender) os at d e in fewer test os at d f.0

-- a further message that isn't open
pub unique_pushed : (os : List OpenMessage) (y : OpenMessage) → count_by (is_of y.sender y.number) os ≡ 0 → Unique os → Unique (os ++ y ∷ [])
unique_pushed os y closed one s n =
    let sum = sum_by_push (λ (o : OpenMessage). one_if (is_of s n o)) os y in
    let before = one s n in
    elim (cases_Bool (is_of s n y)) [
      | inl same ↦
          (let parts = and_parts (party_eq y.sender s) (y.number == n) same in
          let here : count_by (is_of s n) os ≡ 0 = ap (λ (t : Party). count_by (is_of t n) os) (sym (same_party y.sender s parts.0)) ∙ ap (λ (k : ℕ). count_by (is_of y.sender k) os) (sym (eqb-true y.number n parts.1)) ∙ closed in
          let is : one_if (is_of s n y) ≡ 1 = ap one_if same in omega (arith, sum, here, is))
      | inr differs ↦ (let is : one_if (is_of s n y) ≡ 0 = ap one_if differs in omega (arith, sum, before, is))
    ]

unique_after : (bytes : List ℕ) (os : List OpenMessage) (st : Joined) → Unique os → Change bytes os st → Unique st.after
unique_after bytes os st one (drops c e) = subst (λ (t : Joined). Unique t.after) (sym e) one
unique_after bytes os st one (alone p is single e) = subst (λ (t : Joined). Unique t.after) (sym e) one
unique_after bytes os st one (opens p is closed e) =
    subst (λ (t : Joined). Unique t.after) (sym e)
    (unique_pushed (with_room p.sender os) (opened p) (let less = fewer_left p.sender (is_of p.sender p.number) os (opened p) in omega (arith, less, closed))
    (λ s n. let less = fewer_left p.sender (is_of s n) os (opened p) in omega (arith, less, one s n)))
unique_after bytes os st one (extends p is at fills e) =
    subst (λ (t : Joined). Unique t.after) (sym e)
    (λ s n. let sum = sum_by-set (λ (o : OpenMessage). one_if (is_of s n o)) os at (with_body (get_or os at (opened p)) p.index p.body) (opened p) fills.within in omega (arith, sum, one s n))
unique_after bytes os st one (completes p is at fills last e) =
    subst (λ (t : Joined). Unique t.after) (sym e)
    (λ s n. let less = fewer (is_of s n) os at (opened p) fills.within in omega (arith, less, one s n))

pub unique_step : (os : List OpenMessage) (bytes : List ℕ) → Unique os → Unique (step_of os bytes).after
unique_step os bytes one = unique_after bytes os (step_of os bytes) one (changes os bytes)

pub unique_open : (ds : List (List ℕ)) → Unique (open_after ds)
unique_open [] s n = omega arith
unique_open (bytes ∷ ds) s n = unique_step (open_after ds) bytes (unique_open ds) s n
