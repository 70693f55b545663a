-- What is open is bounded.
use Rattle.std.proofs.Common.{◌≡◌, inl, inr, ℕ, zero, suc, ◌+◌, ◌*◌, ◌<◌, ◌≤◌, List, [], ◌∷◌, ◌++◌, length, take, drop, set, get_or, replicate, Option, None, Some, Bool, true, false, unwrap_or, cond, refl, ap, sym, subst, ◌∙◌, arith, length-set}
use Rattle.std.specs.Prelude.{nat_lt}
use Rattle.std.specs.List.{All, count_by, sum_by, position, remove}
use Rattle.std.proofs.lemmas.Bool.{cases_Bool, ltb-false, ltb-true}
use Rattle.std.proofs.lemmas.List.{length-replicate}
use Rattle.std.proofs.lemmas.List.Elements.{All-append, All-cons, All-drop, All-head, All-nil, All-push, All-set, All-tail, All-take}
use Rattle.std.proofs.lemmas.List.Quantifiers.{position-Some}
use Rattle.std.proofs.lemmas.List.Sums.{sum_by-append, sum_by-cons, sum_by-le, sum_by-remove, sum_by-set, sum_by_push}
use Rattle.ab_num.specs.declared.party.Party.{Party}
use Rattle.ab_num.specs.declared.party.Party.TheVariants.{Replica, Client}
use Rattle.ab_num.specs.Parties.{party_eq}
use Rattle.ab_num.proofs.PartyLemmas.{same_party, party_eq-refl}
use Rattle.ab_num.proofs.Lists.{count_by-yes, count_by-no}
use Rattle.ab_msg.specs.Fields.{IsParty}
use Rattle.ab_piece.specs.Pieces.{Piece, IsPiece, each_from}
use Rattle.ab_piece.specs.Joining.{OpenMessage, Joined, crowded_out, is_from, open_after, opened, step_of, with_body, with_room, without}
use Rattle.ab_piece.specs.Bounds.{IsShort, kept_from, kept_of}
use Rattle.ab_piece.proofs.CountLemmas.{spread}
use Rattle.ab_piece.proofs.ReadLemmas.{body_short, piece_within}
use Rattle.ab_piece.proofs.ChangeLemmas.{Change, alone, changes, completes, drops, extends, none_open, opens}

-- ---- messages of a sender

abbrev many : Party → List OpenMessage → ℕ
many s os = count_by (is_from s) os

abbrev Few : List OpenMessage → Type 0
Few os = (s : Party) → many s os ≤ 8

few_removed : (os : List OpenMessage) (at : ℕ) (d : OpenMessage) → at < length os → Few os → Few (remove os at)
few_removed os at d lt few s = let e = sum_by-remove (λ (o : OpenMessage). cond (is_from s o) 1 0) os at d lt in omega (arith, e, few s)

few_set : (os : List OpenMessage) (at : ℕ) (d : OpenMessage) (index : ℕ) (body : List ℕ) → at < length os → Few os → Few (set os at (with_body (get_or os at d) index body))
few_set os at d index body lt few s =
    let e = sum_by-set (λ (o : OpenMessage). cond (is_from s o) 1 0) os at (with_body (get_or os at d) index body) d lt in omega (arith, e, few s)

module _ (os : List OpenMessage) (p : Piece) (few : Few os) where
  -- there is room for one more
  roomy : (b : Bool) → nat_lt (many p.sender os) 8 ≡ b → (place : Option ℕ) → position (is_from p.sender) os ≡ place → (s : Party) (c : Bool) → party_eq p.sender s ≡ c
      → many s (without (cond b None place) os) + cond c 1 0 ≤ 8
  roomy true lt place e s true same =
      let below = ltb-true (many p.sender os) 8 lt in
      subst (λ (q : Party). many q os + 1 ≤ 8) (same_party p.sender s same) (omega (arith, below))
  roomy true lt place e s false other = omega (arith, few s)
  roomy false lt None e s c same =
      let none = none_open (is_from p.sender) os e in
      let enough = ltb-false (many p.sender os) 8 lt in absurd (omega (arith, none, enough))
  roomy false lt (Some at) e s true same =
      let f = position-Some (is_from p.sender) os at (opened p) e in
      let r = sum_by-remove (λ (o : OpenMessage). cond (is_from p.sender o) 1 0) os at (opened p) f.0 in
      let here : ◌≡◌ {A = ℕ} (cond (is_from p.sender (get_or os at (opened p))) 1 0) 1 = ap (λ (b : Bool). cond b 1 0) f.1 in
      subst (λ (q : Party). many q (remove os at) + 1 ≤ 8) (same_party p.sender s same) (omega (arith, r, here, few p.sender))
  roomy false lt (Some at) e s false other =
      let f = position-Some (is_from p.sender) os at (opened p) e in
      let less = few_removed os at (opened p) f.0 few s in omega (arith, less)

few_after : (bytes : List ℕ) (os : List OpenMessage) (st : Joined) → Few os → Change bytes os st → Few st.after
few_after bytes os st few (drops c e) = subst (λ (t : Joined). Few t.after) (sym e) few
few_after bytes os st few (alone p is one e) = subst (λ (t : Joined). Few t.after) (sym e) few
few_after bytes os st few (opens p is closed e) =
    subst (λ (t : Joined). Few t.after) (sym e)
    (λ s.
    let room = roomy os p few (nat_lt (many p.sender os) 8) refl (position (is_from p.sender) os) refl s (party_eq p.sender s) refl in
    let sum = sum_by_push (λ (o : OpenMessage). cond (is_from s o) 1 0) (with_room p.sender os) (opened p) in omega (arith, room, sum))
few_after bytes os st few (extends p is at fills e) = subst (λ (t : Joined). Few t.after) (sym e) (few_set os at (opened p) p.index p.body fills.within few)
few_after bytes os st few (completes p is at fills last e) = subst (λ (t : Joined). Few t.after) (sym e) (few_removed os at (opened p) fills.within few)

pub few_open : (ds : List (List ℕ)) → Few (open_after ds)
few_open [] s = omega arith
few_open (bytes ∷ ds) s = few_after bytes (open_after ds) (step_of (open_after ds) bytes) (few_open ds) (changes (open_after ds) bytes) s

-- ---- bodies of a message

short_opened : (p : Piece) → IsPiece p → IsShort (opened p)
short_opened p is =
    let header = is.header in
    let body = body_short p is in
    let size : length (set (replicate p.count None) p.index (Some p.body)) ≡ p.count = length-set (replicate p.count None) p.index (Some p.body) ∙ length-replicate p.count None in
    record {
      sender = header.0;
      places = omega (arith, size, header.1.1.1);
      bodies = All-set (λ (b : Option (List ℕ)). length (unwrap_or b []) ≤ 8192) (replicate p.count None) p.index (Some p.body) body (empty_short p.count);
    } where
      empty_short : (n : ℕ) → All (λ (b : Option (List ℕ)). length (unwrap_or b []) ≤ 8192) (replicate n None)
      empty_short zero = All-nil (λ (b : Option (List ℕ)). length (unwrap_or b []) ≤ 8192)
      empty_short (suc n) = All-cons (λ (b : Option (List ℕ)). length (unwrap_or b []) ≤ 8192) None (replicate n None) (omega arith) (empty_short n)

short_more : (o : OpenMessage) (p : Piece) → IsPiece p → IsShort o → IsShort (with_body o p.index p.body)
short_more o p is short = record {
  sender = short.sender;
  places = omega (arith, short.places, length-set o.bodies p.index (Some p.body));
  bodies = All-set (λ (b : Option (List ℕ)). length (unwrap_or b []) ≤ 8192) o.bodies p.index (Some p.body) (body_short p is) short.bodies;
}

short_removed : (os : List OpenMessage) (at : ℕ) → All IsShort os → All IsShort (remove os at)
short_removed os at all = All-append IsShort (take at os) (drop (suc at) os) (All-take IsShort at os all) (All-drop IsShort (suc at) os all)

short_left : (os : List OpenMessage) (at : Option ℕ) → All IsShort os → All IsShort (without at os)
short_left os None all = all
short_left os (Some at) all = short_removed os at all

short_after : (bytes : List ℕ) (os : List OpenMessage) (st : Joined) → All IsShort os → Change bytes os st → All IsShort st.after
short_after bytes os st all (drops c e) = subst (λ (t : Joined). All IsShort t.after) (sym e) all
short_after bytes os st all (alone p is one e) = subst (λ (t : Joined). All IsShort t.after) (sym e) all
short_after bytes os st all (opens p is closed e) =
    subst (λ (t : Joined). All IsShort t.after) (sym e) (All-push IsShort (with_room p.sender os) (opened p) (short_left os (crowded_out p.sender os) all) (short_opened p (piece_within bytes p is)))
short_after bytes os st all (extends p is at fills e) =
    subst (λ (t : Joined). All IsShort t.after) (sym e)
    (All-set IsShort os at (with_body (get_or os at (opened p)) p.index p.body) (short_more (get_or os at (opened p)) p (piece_within bytes p is) (all at (opened p) fills.within)) all)
short_after bytes os st all (completes p is at fills last e) = subst (λ (t : Joined). All IsShort t.after) (sym e) (short_removed os at all)

pub all_short : (ds : List (List ℕ)) → All IsShort (open_after ds)
all_short [] = All-nil IsShort
all_short (bytes ∷ ds) = short_after bytes (open_after ds) (step_of (open_after ds) bytes) (all_short ds) (changes (open_after ds) bytes)

-- ---- bytes

kept_short : (o : OpenMessage) → IsShort o → kept_of o ≤ 4194304
kept_short o short = let sum = sum_by-le (λ (body : Option (List ℕ)). length (unwrap_or body [])) 8192 o.bodies short.bodies in let places = short.places in omega (arith, sum, places)

kept_by : (s : Party) (os : List OpenMessage) → All IsShort os → kept_from s os ≤ many s os * 4194304
kept_by s [] all = omega arith
kept_by s (o ∷ os) all =
    let rest = kept_by s os (All-tail IsShort o os all) in
    let here = kept_short o (All-head IsShort o os all) in
    let sum = sum_by-cons (λ (q : OpenMessage). cond (is_from s q) (kept_of q) 0) o os in
    elim (cases_Bool (is_from s o)) [
      | inl holds ↦
          (let count = count_by-yes (is_from s) o os holds in
          let mine : ◌≡◌ {A = ℕ} (cond (is_from s o) (kept_of o) 0) (kept_of o) = ap (λ (b : Bool). cond b (kept_of o) 0) holds in omega (arith, rest, here, sum, count, mine))
      | inr fails ↦
          (let count = count_by-no (is_from s) o os fails in
          let other : ◌≡◌ {A = ℕ} (cond (is_from s o) (kept_of o) 0) 0 = ap (λ (b : Bool). cond b (kept_of o) 0) fails in omega (arith, rest, sum, count, other))
    ]

pub kept_few : (ds : List (List ℕ)) (s : Party) → kept_from s (open_after ds) ≤ 33554432
kept_few ds s = let kept = kept_by s (open_after ds) (all_short ds) in let few = few_open ds s in omega (arith, kept, few)

-- ---- all senders

abbrev all_parties : List Party
all_parties = each_from Replica 0 7 ++ each_from Client 0 16

-- one of some numbers is met
met : (test : Party → Bool) (f : ℕ → Party) (i n k : ℕ) → i ≤ k → k < i + n → test (f k) ≡ true → 1 ≤ count_by test (each_from f i n)
met test f i zero k low high is = absurd (omega arith)
met test f i (suc n) k low high is =
    let sum = sum_by-cons (λ (q : Party). cond (test q) 1 0) (f i) (each_from f (suc i) n) in
    elim (cases_Bool (nat_lt i k)) [
      | inl later ↦ (let lt = ltb-true i k later in let rest = met test f (suc i) n k (omega arith) (omega arith) is in omega (arith, sum, rest))
      | inr here ↦
          (let ge = ltb-false i k here in
          let at : k ≡ i = omega arith in
          let one : ◌≡◌ {A = ℕ} (cond (test (f i)) 1 0) 1 = ap (λ (b : Bool). cond b 1 0) (ap (λ (j : ℕ). test (f j)) (sym at) ∙ is) in omega (arith, sum, one))
    ]

listed : (p : Party) → IsParty p → 1 ≤ count_by (λ q. party_eq p q) all_parties
listed (Replica r) h =
    let m = met (λ q. party_eq (Replica r) q) Replica 0 7 r (omega arith) (omega (arith, h.1)) (party_eq-refl (Replica r)) in
    let sum = sum_by-append (λ (q : Party). cond (party_eq (Replica r) q) 1 0) (each_from Replica 0 7) (each_from Client 0 16) in omega (arith, m, sum)
listed (Client c) h =
    let m = met (λ q. party_eq (Client c) q) Client 0 16 c (omega arith) (omega (arith, h.1)) (party_eq-refl (Client c)) in
    let sum = sum_by-append (λ (q : Party). cond (party_eq (Client c) q) 1 0) (each_from Replica 0 7) (each_from Client 0 16) in omega (arith, m, sum)

abbrev any : OpenMessage → Bool
any o = true

counted : (os : List OpenMessage) → count_by any os ≡ length os
counted [] = refl
counted (o ∷ os) = let one = count_by-yes any o os refl in let rest = counted os in omega arith

few_all : (ds : List (List ℕ)) → length (open_after ds) ≤ 184
few_all ds =
    let os = open_after ds in
    let shares = spread any (λ s o. is_from s o) all_parties os (λ k d lt always. listed (get_or os k d).sender (all_short ds k d lt).sender) in
    let each = sum_by-le (λ (s : Party). many s os) 8 all_parties (λ k d lt. few_open ds (get_or all_parties k d)) in
    let size : length all_parties ≡ 23 = refl in
    omega (arith, shares, each, counted os, size)

pub kept_all : (ds : List (List ℕ)) → sum_by kept_of (open_after ds) ≤ 771751936
kept_all ds =
    let sum = sum_by-le kept_of 4194304 (open_after ds) (λ k d lt. kept_short (get_or (open_after ds) k d) (all_short ds k d lt)) in
    let few = few_all ds in omega (arith, sum, few)
