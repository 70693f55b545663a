-- What a piece does to its message.
use Rattle.std.proofs.Common.{◌≡◌, ◌≢◌, inl, inr, ℕ, suc, ◌+◌, ◌<◌, ◌≤◌, ◌==◌, List, [], ◌∷◌, length, set, get_or, Option, None, Some, Result, Ok, Err, Bool, true, false, is_some, refl, ap, ◌∙◌, eqb-true, arith}
use Rattle.std.specs.Prelude.{nat_lt}
use Rattle.std.specs.List.{count_by, position, position_or_len, remove}
use Rattle.std.proofs.lemmas.Bool.{and_parts, cases_Bool, eq-eqb, ltb-true, cond-true, cond-false}
use Rattle.ab_num.specs.declared.party.Party.{Party}
use Rattle.ab_num.specs.Parties.{party_eq}
use Rattle.ab_num.proofs.PartyLemmas.{same_party}
use Rattle.ab_num.proofs.Lists.{count_by-no, count_by-yes}
use Rattle.ab_form.specs.declared.bad.Bad.{Bad}
use Rattle.ab_piece.specs.declared.taken.DropCause.TheVariants as cause
use Rattle.ab_piece.specs.Pieces.{Piece, piece_of}
use Rattle.ab_piece.specs.Joining.{OpenMessage, dropped, further_step, is_from, is_of, message_of, missing, more, opened, opening_step, piece_step, step, step_of, whole, with_body}

-- none is of it
pub not_it : (s : Party) (n : ℕ) (o : OpenMessage) → (o.sender ≡ s → o.number ≢ n) → is_of s n o ≡ false
not_it s n o apart =
    elim (cases_Bool (is_of s n o)) [
      | inl same ↦
          (let parts = and_parts (party_eq o.sender s) (o.number == n) same in
          absurd (apart (same_party o.sender s parts.0) (eqb-true o.number n parts.1)))
      | inr differs ↦ differs
    ]

pub not_from : (s : Party) (n : ℕ) (o : OpenMessage) → is_from s o ≡ false → is_of s n o ≡ false
not_from s n o differs = rw differs refl

pub by_read : (os : List OpenMessage) (bytes : List ℕ) (p : Piece) → piece_of bytes ≡ Ok p → step_of os bytes ≡ piece_step os p
unfolding step_of
by_read os bytes p is = ap (λ (r : Result Piece Bad). elim r [ Ok q ↦ piece_step os q | Err bad ↦ step (dropped cause.Header) os ]) is

pub by_place : (os : List OpenMessage) (p : Piece) (place : Option ℕ) → position (is_of p.sender p.number) os ≡ place
    → piece_step os p ≡ elim place [ None ↦ opening_step os p | Some at ↦ further_step os at (get_or os at (opened p)) p ]
by_place os p place e = ap (λ (o : Option ℕ). elim o [ None ↦ opening_step os p | Some at ↦ further_step os at (get_or os at (opened p)) p ]) e

-- a piece takes its place in an open message, of which others are missing
pub extended : (os : List OpenMessage) (at : ℕ) (p : Piece) (o : OpenMessage) → position (is_of p.sender p.number) os ≡ Some at → get_or os at (opened p) ≡ o → length o.bodies ≡ p.count → get_or o.bodies p.index None ≡ None
    → (missing o.bodies == 1) ≡ false → piece_step os p ≡ step more (set os at (with_body o p.index p.body))
extended os at p o place is count empty later =
    by_place os p (Some at) place ∙ ap (λ (q : OpenMessage). further_step os at q p) is
    ∙ cond-true (length o.bodies == p.count) _ _ (eq-eqb (length o.bodies) p.count count)
    ∙ cond-false (is_some (get_or o.bodies p.index None)) _ _ (ap (λ (b : Option (List ℕ)). is_some b) empty)
    ∙ cond-false (missing o.bodies == 1) _ _ later

-- and one of which it is the last that is missing
pub completed : (os : List OpenMessage) (at : ℕ) (p : Piece) (o : OpenMessage) → position (is_of p.sender p.number) os ≡ Some at → get_or os at (opened p) ≡ o → length o.bodies ≡ p.count → get_or o.bodies p.index None ≡ None
    → (missing o.bodies == 1) ≡ true → piece_step os p ≡ step (whole (message_of (set o.bodies p.index (Some p.body)))) (remove os at)
completed os at p o place is count empty last =
    by_place os p (Some at) place ∙ ap (λ (q : OpenMessage). further_step os at q p) is
    ∙ cond-true (length o.bodies == p.count) _ _ (eq-eqb (length o.bodies) p.count count)
    ∙ cond-false (is_some (get_or o.bodies p.index None)) _ _ (ap (λ (b : Option (List ℕ)). is_some b) empty)
    ∙ cond-true (missing o.bodies == 1) _ _ last

pub position_none : (test : OpenMessage → Bool) (os : List OpenMessage) → count_by test os ≡ 0 → position test os ≡ None
position_none test os none =
    elim (cases_Bool (nat_lt (position_or_len test os) (length os))) [
      | inl there ↦
          (let lt = ltb-true (position_or_len test os) (length os) there in absurd (omega (arith, none, met test os lt)))
      | inr nowhere_there ↦ rw nowhere_there refl
    ] where
      met : (t : OpenMessage → Bool) (xs : List OpenMessage) → position_or_len t xs < length xs → 1 ≤ count_by t xs
      met t [] lt = absurd (omega arith)
      met t (x ∷ xs) lt =
          elim (cases_Bool (t x)) [
            | inl holds ↦ (let one = count_by-yes t x xs holds in omega arith)
            | inr fails ↦ (let one = count_by-no t x xs fails in let later : 1 + position_or_len t xs < suc (length xs) = rw fails at lt in let rest = met t xs (omega arith) in omega arith)
          ]
