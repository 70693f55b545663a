-- What a datagram does to the open messages.
use Rattle.std.proofs.Common.{◌≡◌, ℕ, ◌<◌, ◌==◌, List, [], ◌∷◌, ◌++◌, length, set, get_or, Option, None, Some, Result, Ok, Err, Bool, true, false, is_some, cond, refl, eqb-true}
use Rattle.std.specs.Prelude.{nat_lt}
use Rattle.std.specs.List.{count_by, position, position_or_len, remove}
use Rattle.std.proofs.lemmas.Bool.{and_parts, ltb-false}
use Rattle.std.proofs.lemmas.List.Quantifiers.{position-Some}
use Rattle.ab_num.specs.Parties.{party_eq}
use Rattle.ab_num.proofs.PartyLemmas.{same_party}
use Rattle.ab_form.specs.declared.bad.Bad.{Bad}
use Rattle.ab_piece.specs.declared.taken.DropCause.{DropCause}
use Rattle.ab_piece.specs.declared.taken.DropCause.TheVariants as cause
use Rattle.ab_piece.specs.Pieces.{Piece, piece_of}
use Rattle.ab_piece.specs.Joining.{OpenMessage, Joined, further_step, is_of, message_of, missing, dropped, more, opened, opening_step, piece_step, step, step_of, whole, with_body, with_room}
use Rattle.ab_piece.proofs.CountLemmas.{nowhere}

-- the piece belongs to the open message at this place, and isn't there yet
pub record Fills (p : Piece) (os : List OpenMessage) (at : ℕ) : Type 0 where
  pub within : at < length os
  pub sender : (get_or os at (opened p)).sender ≡ p.sender
  pub number : (get_or os at (opened p)).number ≡ p.number
  pub count : length (get_or os at (opened p)).bodies ≡ p.count
  pub empty : is_some (get_or (get_or os at (opened p)).bodies p.index None) ≡ false

-- the five ways in which a datagram may be taken
pub data Change (bytes : List ℕ) (os : List OpenMessage) (s : Joined) : Type 0 where
  drops : (c : DropCause) → s ≡ step (dropped c) os → Change bytes os s
  alone : (p : Piece) → piece_of bytes ≡ Ok p → p.count ≡ 1 → s ≡ step (whole p.body) os → Change bytes os s
  opens : (p : Piece) → piece_of bytes ≡ Ok p → count_by (is_of p.sender p.number) os ≡ 0 → s ≡ step more (with_room p.sender os ++ opened p ∷ []) → Change bytes os s
  extends : (p : Piece) → piece_of bytes ≡ Ok p → (at : ℕ) → Fills p os at → s ≡ step more (set os at (with_body (get_or os at (opened p)) p.index p.body)) → Change bytes os s
  completes : (p : Piece) → piece_of bytes ≡ Ok p → (at : ℕ) → Fills p os at → missing (get_or os at (opened p)).bodies ≡ 1
      → s ≡ step (whole (message_of (set (get_or os at (opened p)).bodies p.index (Some p.body)))) (remove os at) → Change bytes os s

unplaced : (b : Bool) (n : ℕ) → cond b (Some n) None ≡ None → b ≡ false
unplaced true n e = cc
unplaced false n e = refl

pub none_open : (test : OpenMessage → Bool) (os : List OpenMessage) → position test os ≡ None → count_by test os ≡ 0
none_open test os e = nowhere test os (ltb-false (position_or_len test os) (length os) (unplaced (nat_lt (position_or_len test os) (length os)) (position_or_len test os) e))

module _ (os : List OpenMessage) (bytes : List ℕ) (p : Piece) (is : piece_of bytes ≡ Ok p) where
  opening : count_by (is_of p.sender p.number) os ≡ 0 → (b : Bool) → (p.count == 1) ≡ b
      → Change bytes os (cond b (step (whole p.body) os) (step more (with_room p.sender os ++ opened p ∷ [])))
  opening closed true e = alone p is (eqb-true p.count 1 e) refl
  opening closed false e = opens p is closed refl

  further : (at : ℕ) → at < length os → (get_or os at (opened p)).sender ≡ p.sender → (get_or os at (opened p)).number ≡ p.number → (b1 b2 b3 : Bool)
      → (length (get_or os at (opened p)).bodies == p.count) ≡ b1 → is_some (get_or (get_or os at (opened p)).bodies p.index None) ≡ b2 → (missing (get_or os at (opened p)).bodies == 1) ≡ b3
      → Change bytes os (cond b1 (cond b2 (step (dropped cause.Again) os)
      (cond b3 (step (whole (message_of (set (get_or os at (opened p)).bodies p.index (Some p.body)))) (remove os at))
      (step more (set os at (with_body (get_or os at (opened p)) p.index p.body)))))
      (step (dropped cause.Differs) os))
  further at lt s n false b2 b3 e1 e2 e3 = drops cause.Differs refl
  further at lt s n true true b3 e1 e2 e3 = drops cause.Again refl
  further at lt s n true false true e1 e2 e3 =
      completes p is at (record { within = lt; sender = s; number = n; count = eqb-true (length (get_or os at (opened p)).bodies) p.count e1; empty = e2 }) (eqb-true (missing (get_or os at (opened p)).bodies) 1 e3) refl
  further at lt s n true false false e1 e2 e3 =
      extends p is at (record { within = lt; sender = s; number = n; count = eqb-true (length (get_or os at (opened p)).bodies) p.count e1; empty = e2 }) refl

  by_piece : (place : Option ℕ) → position (is_of p.sender p.number) os ≡ place
      → Change bytes os (elim place [ None ↦ opening_step os p | Some at ↦ further_step os at (get_or os at (opened p)) p ])
  by_piece None e = opening (none_open (is_of p.sender p.number) os e) (p.count == 1) refl
  by_piece (Some at) e =
      let o = get_or os at (opened p) in
      let f = position-Some (is_of p.sender p.number) os at (opened p) e in
      let t = and_parts (party_eq o.sender p.sender) (o.number == p.number) f.1 in
      further at f.0 (same_party o.sender p.sender t.0) (eqb-true o.number p.number t.1) (length o.bodies == p.count) (is_some (get_or o.bodies p.index None)) (missing o.bodies == 1) refl refl refl

by_bytes : (os : List OpenMessage) (bytes : List ℕ) (r : Result Piece Bad) → piece_of bytes ≡ r
    → Change bytes os (elim r [ Ok p ↦ piece_step os p | Err bad ↦ step (dropped cause.Header) os ])
by_bytes os bytes (Ok p) is = by_piece os bytes p is (position (is_of p.sender p.number) os) refl
by_bytes os bytes (Err bad) is = drops cause.Header refl

pub changes : (os : List OpenMessage) (bytes : List ℕ) → Change bytes os (step_of os bytes)
unfolding step_of
changes os bytes = by_bytes os bytes (piece_of bytes) refl
