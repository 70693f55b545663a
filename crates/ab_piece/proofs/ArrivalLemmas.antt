-- The pieces of a message that come in any order make it whole.
use Rattle.std.proofs.Common.{◌≡◌, ◌≢◌, inl, inr, ℕ, zero, suc, ◌+◌, ◌-◌, ◌<◌, ◌≤◌, ◌==◌, ◌&&◌, nat_eq, List, [], ◌∷◌, ◌++◌, length, set, get_or, replicate, Option, None, Some, Bool, true, false, cond, refl, ap, sym, subst, ◌∙◌, arith, length-append}
use Rattle.std.specs.Prelude.{Contains, IsPermutation, map, nat_le, nat_lt}
use Rattle.std.specs.List.{count_by, position, position_or_len, remove}
use Rattle.std.proofs.Math.Seq.{get_or-append_seam, set-append_seam}
use Rattle.std.proofs.lemmas.Bool.{cases_Bool, eq-eqb, leb-false, lt-ltb, ltb-false, cond-false, cond-true}
use Rattle.std.proofs.lemmas.List.{take_all}
use Rattle.std.proofs.lemmas.List.Elements.{All-nil, All-push}
use Rattle.std.proofs.lemmas.List.Quantifiers.{position-Some}
use Rattle.std.proofs.lemmas.List.Sorted.{length_permutation, sum_by-IsPermutation}
use Rattle.std.proofs.lemmas.List.Sums.{sum_by-cons, sum_by-le, sum_by-set, sum_by_push}
use Rattle.ab_num.specs.declared.party.Party.{Party}
use Rattle.ab_num.specs.Parties.{party_eq}
use Rattle.ab_num.proofs.PartyLemmas.{same_party, party_eq-refl}
use Rattle.ab_num.proofs.Lists.{count_by-yes}
use Rattle.ab_piece.specs.Pieces.{IsCut, Piece, count_of, cut_at, each_from, part_at, piece_at}
use Rattle.ab_piece.specs.Joining.{Answer, OpenMessage, Joined, is_from, is_of, message_of, missing, more, open_after, opened, step, step_of, whole, with_body, with_room, without}
use Rattle.ab_piece.specs.Arrivals.{AllOfOthers, AreArrivals, Arrival, IsClosed, IsOfAnother, all_indices, answers, expected, indices, other, own}
use Rattle.ab_piece.proofs.CountLemmas.{contained, count-seam, fails-front, place-front, place-seam, spread}
use Rattle.ab_piece.proofs.CutLemmas.{cut_read}
use Rattle.ab_piece.proofs.ChangeLemmas.{Change, Fills, alone, changes, completes, drops, extends, opens}
use Rattle.ab_piece.proofs.SlotLemmas.{length-slots, missing-none, missing-slots, slot_empty, slots, whole-slots}
use Rattle.ab_piece.proofs.AmongLemmas.{Among, among_pushed, among_removed, among_set}
use Rattle.ab_piece.proofs.NumberLemmas.{below_numbers, differ, length-numbers, once_numbers}
use Rattle.ab_piece.proofs.StepLemmas.{by_place, by_read, completed, extended, not_from, not_it, position_none}
use Rattle.ab_piece.proofs.UniqueLemmas.{Unique, fewer, fewer_left, one_if, unique_open, unique_pushed, unique_step}

-- ---- one message, whose pieces come among other datagrams

module _ (s : Party) (n : ℕ) (m : List ℕ) (cut : IsCut s n m) (others : List ℕ) (few : length others < 8) where
  -- the message after the pieces of these indices, the newest first
  abbrev half : List ℕ → OpenMessage
  half b = record { sender = s; number = n; bodies = slots m b }

  -- a further message of the sender is one of the others
  abbrev Known : OpenMessage → Type 0
  Known o = is_from s o ≡ true → 1 ≤ count_by (λ k. nat_eq o.number k) others

  abbrev Held : List OpenMessage → List ℕ → Type 0
  Held os b = Among Known (half b) os

  abbrev State : List OpenMessage → List ℕ → Type 0
  State os [] = count_by (is_of s n) os ≡ 0
  State os (i ∷ b) = Held os (i ∷ b)

  half_is : (b : List ℕ) → is_of s n (half b) ≡ true
  half_is b = rw (party_eq-refl s, eq-eqb n n refl) refl

  half_from : (b : List ℕ) → is_from s (half b) ≡ true
  half_from b = party_eq-refl s

  -- none before it is of the message
  none_before : (os : List OpenMessage) (b : List ℕ) (a : Held os b) → Unique os → count_by (is_of s n) a.front ≡ 0
  none_before os b a one =
      let sum = count-seam (is_of s n) a.front (half b) a.behind in
      let all : count_by (is_of s n) (a.front ++ half b ∷ a.behind) ≡ count_by (is_of s n) os = ap (λ (xs : List OpenMessage). count_by (is_of s n) xs) (sym a.split) in
      let here : one_if (is_of s n (half b)) ≡ 1 = ap one_if (half_is b) in omega (arith, sum, all, here, one s n)

  -- those of the sender behind it are fewer than the others, where one of these isn't open
  abbrev has : ℕ → OpenMessage → Bool
  has k o = is_of s k o

  known_has : (o : OpenMessage) → Known o → is_from s o ≡ true → 1 ≤ count_by (λ k. has k o) others
  known_has o known from = go (party_eq o.sender s) from (known from) where
    go : (b : Bool) → b ≡ true → 1 ≤ count_by (λ k. nat_eq o.number k) others → 1 ≤ count_by (λ k. b && (o.number == k)) others
    go true e some = some
    go false e some = cc

  few_behind : (os : List OpenMessage) (b : List ℕ) (a : Held os b) (y : OpenMessage) → y.sender ≡ s → Known y → count_by (is_of y.sender y.number) os ≡ 0 → Unique os → count_by (is_from s) a.behind + 1 < 8
  few_behind os b a y from known closed one =
      let pushed = a.behind ++ y ∷ [] in
      let shares = spread (is_from s) has others pushed (λ k d lt. known_has (get_or pushed k d) (All-push Known a.behind y a.known known k d lt)) in
      let each = sum_by-le (λ (k : ℕ). count_by (has k) pushed) 1 others (λ i d lt. once (get_or others i d)) in
      let sum = sum_by_push (λ (o : OpenMessage). one_if (is_from s o)) a.behind y in
      let last : one_if (is_from s y) ≡ 1 = ap (λ (q : Party). one_if (party_eq q s)) from ∙ ap one_if (party_eq-refl s) in
      omega (arith, shares, each, sum, last, few) where
        once : (k : ℕ) → count_by (has k) (a.behind ++ y ∷ []) ≤ 1
        once k =
            let all = unique_pushed os y closed one s k in
            let long = sum_by_push (λ (o : OpenMessage). one_if (has k o)) os y in
            let short = sum_by_push (λ (o : OpenMessage). one_if (has k o)) a.behind y in
            let seam = count-seam (has k) a.front (half b) a.behind in
            let same : count_by (has k) (a.front ++ half b ∷ a.behind) ≡ count_by (has k) os = ap (λ (xs : List OpenMessage). count_by (has k) xs) (sym a.split) in
            omega (arith, all, long, short, seam, same)

  -- another message makes room, and not this one
  room_kept : (os : List OpenMessage) (b : List ℕ) → Held os b → Unique os → (y : OpenMessage) → (y.sender ≡ s → Known y) → count_by (is_of y.sender y.number) os ≡ 0 → Held (with_room y.sender os) b
  room_kept os b a one y known closed = go (nat_lt (count_by (is_from y.sender) os) 8) (position (is_from y.sender) os) refl refl where
    -- that which goes is another one
    goes : (at : ℕ) → 8 ≤ count_by (is_from y.sender) os → position (is_from y.sender) os ≡ Some at → is_of s n (get_or os at y) ≡ false
    goes at full e =
        let f = position-Some (is_from y.sender) os at y e in
        let o = get_or os at y in
        elim (cases_Bool (party_eq y.sender s)) [
          | inl mine ↦
              (let from : y.sender ≡ s = same_party y.sender s mine in
              let less = few_behind os b a y from (known from) closed one in
              let seam = count-seam (is_from s) a.front (half b) a.behind in
              let full' : 8 ≤ count_by (is_from s) os = subst (λ (q : Party). 8 ≤ count_by (is_from q) os) from full in
              let same : count_by (is_from s) (a.front ++ half b ∷ a.behind) ≡ count_by (is_from s) os = ap (λ (xs : List OpenMessage). count_by (is_from s) xs) (sym a.split) in
              let here : one_if (is_from s (half b)) ≡ 1 = ap one_if (half_from b) in
              let some : 1 ≤ count_by (is_from s) a.front = omega (arith, less, seam, full', same, here) in
              let early = place-front (is_from s) a.front (half b ∷ a.behind) some in
              let at_is : position_or_len (is_from y.sender) os ≡ at = placed (is_from y.sender) os at e in
              let place : position_or_len (is_from s) (a.front ++ half b ∷ a.behind) ≡ at =
              ap (λ (xs : List OpenMessage). position_or_len (is_from s) xs) (sym a.split) ∙ ap (λ (q : Party). position_or_len (is_from q) os) (sym from) ∙ at_is in
              let within : at < length a.front = omega (arith, early, place) in
              ap (λ (xs : List OpenMessage). is_of s n (get_or xs at y)) a.split ∙ fails-front (is_of s n) a.front (half b ∷ a.behind) at y (none_before os b a one) within)
          | inr theirs ↦
              (let sender : o.sender ≡ y.sender = same_party o.sender y.sender f.1 in
              not_from s n o (ap (λ (q : Party). party_eq q s) sender ∙ theirs))
        ]
      where
        placed : (test : OpenMessage → Bool) (xs : List OpenMessage) (k : ℕ) → position test xs ≡ Some k → position_or_len test xs ≡ k
        placed test xs k is = pick (nat_lt (position_or_len test xs) (length xs)) is where
          pick : (c : Bool) → cond c (Some (position_or_len test xs)) None ≡ Some k → position_or_len test xs ≡ k
          pick true e' = cc
          pick false e' = cc

    go : (c : Bool) (place : Option ℕ) → nat_lt (count_by (is_from y.sender) os) 8 ≡ c → position (is_from y.sender) os ≡ place → Held (without (cond c None place) os) b
    go true place room e = a
    go false None room e = a
    go false (Some at) room e =
        let full = ltb-false (count_by (is_from y.sender) os) 8 room in
        let gone = goes at full e in
        subst (λ (xs : List OpenMessage). Held (remove xs at) b) (sym a.split)
        (among_removed Known (is_of s n) (half b) (half_is b) a.front a.behind at y (ap (λ (xs : List OpenMessage). is_of s n (get_or xs at y)) (sym a.split) ∙ gone) a.known)

  -- ---- another datagram

  known_opened : (p : Piece) → (p.sender ≡ s → (p.number ≢ n) × Contains others p.number) → Known (opened p)
  known_opened p apart from = contained others p.number (apart (same_party p.sender s from)).1

  apart_opened : (p : Piece) → (p.sender ≡ s → (p.number ≢ n) × Contains others p.number) → is_of s n (opened p) ≡ false
  apart_opened p apart = not_it s n (opened p) (λ from. (apart from).0)

  -- an open message of another piece isn't this one
  apart_filled : (p : Piece) (os : List OpenMessage) (at : ℕ) → (p.sender ≡ s → (p.number ≢ n) × Contains others p.number) → Fills p os at → is_of s n (get_or os at (opened p)) ≡ false
  apart_filled p os at apart fills = not_it s n (get_or os at (opened p)) (λ from same. (apart (sym fills.sender ∙ from)).0 (sym fills.number ∙ same))

  closed_after : (os : List OpenMessage) (bytes : List ℕ) (st : Joined) → IsOfAnother s n others bytes → count_by (is_of s n) os ≡ 0 → Change bytes os st → count_by (is_of s n) st.after ≡ 0
  closed_after os bytes st apart none (drops c e) = subst (λ (t : Joined). count_by (is_of s n) t.after ≡ 0) (sym e) none
  closed_after os bytes st apart none (alone p is one e) = subst (λ (t : Joined). count_by (is_of s n) t.after ≡ 0) (sym e) none
  closed_after os bytes st apart none (opens p is closed e) =
      subst (λ (t : Joined). count_by (is_of s n) t.after ≡ 0) (sym e)
      (let sum = sum_by_push (λ (o : OpenMessage). one_if (is_of s n o)) (with_room p.sender os) (opened p) in
      let less = fewer_left p.sender (is_of s n) os (opened p) in
      let here : one_if (is_of s n (opened p)) ≡ 0 = ap one_if (apart_opened p (apart p is)) in omega (arith, sum, less, here, none))
  closed_after os bytes st apart none (extends p is at fills e) =
      subst (λ (t : Joined). count_by (is_of s n) t.after ≡ 0) (sym e)
      (let sum = sum_by-set (λ (o : OpenMessage). one_if (is_of s n o)) os at (with_body (get_or os at (opened p)) p.index p.body) (opened p) fills.within in omega (arith, sum, none))
  closed_after os bytes st apart none (completes p is at fills last e) =
      subst (λ (t : Joined). count_by (is_of s n) t.after ≡ 0) (sym e) (let less = fewer (is_of s n) os at (opened p) fills.within in omega (arith, less, none))

  held_after : (os : List OpenMessage) (b : List ℕ) (bytes : List ℕ) (st : Joined) → IsOfAnother s n others bytes → Unique os → Held os b → Change bytes os st → Held st.after b
  held_after os b bytes st apart one a (drops c e) = subst (λ (t : Joined). Held t.after b) (sym e) a
  held_after os b bytes st apart one a (alone p is single e) = subst (λ (t : Joined). Held t.after b) (sym e) a
  held_after os b bytes st apart one a (opens p is closed e) =
      subst (λ (t : Joined). Held t.after b) (sym e)
      (among_pushed Known (is_of s n) (half b) (half_is b) (with_room p.sender os) (opened p) (known_opened p (apart p is))
      (room_kept os b a one (opened p) (λ from. known_opened p (apart p is)) closed))
  held_after os b bytes st apart one a (extends p is at fills e) =
      let o = get_or os at (opened p) in
      let y = with_body o p.index p.body in
      let differs = apart_filled p os at (apart p is) fills in
      subst (λ (t : Joined). Held t.after b) (sym e)
      (subst (λ (xs : List OpenMessage). Held (set xs at y) b) (sym a.split)
      (among_set Known (is_of s n) (half b) (half_is b) a.front a.behind at (opened p) y (ap (λ (xs : List OpenMessage). is_of s n (get_or xs at (opened p))) (sym a.split) ∙ differs)
      (subst (λ (xs : List OpenMessage). at < length xs) a.split fills.within)
      (λ known from. subst (λ (xs : List OpenMessage). Known (get_or xs at (opened p))) (sym a.split) known from) a.known))
  held_after os b bytes st apart one a (completes p is at fills last e) =
      let differs = apart_filled p os at (apart p is) fills in
      subst (λ (t : Joined). Held t.after b) (sym e)
      (subst (λ (xs : List OpenMessage). Held (remove xs at) b) (sym a.split)
      (among_removed Known (is_of s n) (half b) (half_is b) a.front a.behind at (opened p) (ap (λ (xs : List OpenMessage). is_of s n (get_or xs at (opened p))) (sym a.split) ∙ differs) a.known))

  state_after : (os : List OpenMessage) (b : List ℕ) (bytes : List ℕ) → IsOfAnother s n others bytes → Unique os → State os b → State (step_of os bytes).after b
  state_after os [] bytes apart one none = closed_after os bytes (step_of os bytes) apart none (changes os bytes)
  state_after os (i ∷ b) bytes apart one a = held_after os (i ∷ b) bytes (step_of os bytes) apart one a (changes os bytes)

  -- ---- a piece of the message

  abbrev count : ℕ
  count = count_of (length m)

  place_of : (os : List OpenMessage) (b : List ℕ) (a : Held os b) → Unique os → position (is_of s n) os ≡ Some (length a.front)
  place_of os b a one =
      let at = place-seam (is_of s n) a.front (half b) a.behind (none_before os b a one) (half_is b) in
      let within : length a.front < length (a.front ++ half b ∷ a.behind) = omega (arith, length-append a.front (half b ∷ a.behind)) in
      let found : position (is_of s n) (a.front ++ half b ∷ a.behind) ≡ Some (length a.front) =
      rw at (cond-true (nat_lt (length a.front) (length (a.front ++ half b ∷ a.behind))) _ _ (lt-ltb (length a.front) (length (a.front ++ half b ∷ a.behind)) within)) in
      ap (λ (xs : List OpenMessage). position (is_of s n) xs) a.split ∙ found

  at_place : (os : List OpenMessage) (b : List ℕ) (a : Held os b) (d : OpenMessage) → get_or os (length a.front) d ≡ half b
  at_place os b a d = ap (λ (xs : List OpenMessage). get_or xs (length a.front) d) a.split ∙ get_or-append_seam a.front (half b) a.behind d

  -- a piece that isn't the last leaves the message open
  further : (os : List OpenMessage) (b : List ℕ) (i : ℕ) → i < count → get_or (slots m b) i None ≡ None → Unique os → State os b → 2 ≤ missing (slots m b)
      → ((step_of os (cut_at s n m i)).answer ≡ more) × State (step_of os (cut_at s n m i)).after (i ∷ b)
  further os [] i lt empty one none some =
      let several : 2 ≤ count = omega (arith, some, missing-none m) in
      let p = piece_at s n m i in
      let is : step_of os (cut_at s n m i) ≡ step more (with_room s os ++ opened p ∷ []) =
      by_read os (cut_at s n m i) p (cut_read s n m i cut lt) ∙ by_place os p None (position_none (is_of s n) os none)
      ∙ cond-false (count == 1) _ _ (differ count 1 (omega arith)) in
      let result : ((step more (with_room s os ++ opened p ∷ [])).answer ≡ more) × Held (step more (with_room s os ++ opened p ∷ [])).after (i ∷ []) =
      (refl, record { front = with_room s os; behind = []; split = refl; known = All-nil Known }) in
      subst (λ (t : Joined). (t.answer ≡ more) × Held t.after (i ∷ [])) (sym is) result
  further os (j ∷ b) i lt empty one a some =
      let p = piece_at s n m i in
      let is : step_of os (cut_at s n m i) ≡ step more (set os (length a.front) (with_body (half (j ∷ b)) i (part_at m i))) =
      by_read os (cut_at s n m i) p (cut_read s n m i cut lt)
      ∙ extended os (length a.front) p (half (j ∷ b)) (place_of os (j ∷ b) a one) (at_place os (j ∷ b) a (opened p)) (length-slots m (j ∷ b)) empty (differ (missing (slots m (j ∷ b))) 1 (omega arith)) in
      let seam : set os (length a.front) (half (i ∷ (j ∷ b))) ≡ a.front ++ half (i ∷ (j ∷ b)) ∷ a.behind =
      ap (λ (xs : List OpenMessage). set xs (length a.front) (half (i ∷ (j ∷ b)))) a.split ∙ set-append_seam a.front (half (j ∷ b)) a.behind (half (i ∷ (j ∷ b))) in
      let held : Held (set os (length a.front) (half (i ∷ (j ∷ b)))) (i ∷ (j ∷ b)) = record { front = a.front; behind = a.behind; split = seam; known = a.known } in
      subst (λ (t : Joined). (t.answer ≡ more) × Held t.after (i ∷ (j ∷ b))) (sym is) (refl, held)

  -- the last piece gives the message
  finished : (os : List OpenMessage) (b : List ℕ) (i : ℕ) → i < count → get_or (slots m b) i None ≡ None → Unique os → State os b → missing (slots m b) ≡ 1
      → (step_of os (cut_at s n m i)).answer ≡ whole m
  finished os [] i lt empty one none last =
      let single : count ≡ 1 = sym (missing-none m) ∙ last in
      let p = piece_at s n m i in
      let is : step_of os (cut_at s n m i) ≡ step (whole (part_at m i)) os =
      by_read os (cut_at s n m i) p (cut_read s n m i cut lt) ∙ by_place os p None (position_none (is_of s n) os none)
      ∙ cond-true (count == 1) _ _ (eq-eqb count 1 single) in
      let first : i ≡ 0 = omega arith in
      let text : part_at m i ≡ m = ap (part_at m) first ∙ take_all 8192 m (omega arith) in
      ap (λ (t : Joined). t.answer) is ∙ ap whole text
  finished os (j ∷ b) i lt empty one a last =
      let p = piece_at s n m i in
      let is : step_of os (cut_at s n m i) ≡ step (whole (message_of (slots m (i ∷ (j ∷ b))))) (remove os (length a.front)) =
      by_read os (cut_at s n m i) p (cut_read s n m i cut lt)
      ∙ completed os (length a.front) p (half (j ∷ b)) (place_of os (j ∷ b) a one) (at_place os (j ∷ b) a (opened p)) (length-slots m (j ∷ b)) empty (eq-eqb (missing (slots m (j ∷ b))) 1 last) in
      let less = missing-slots m (j ∷ b) i lt empty in
      ap (λ (t : Joined). t.answer) is ∙ ap whole (whole-slots m (i ∷ (j ∷ b)) (omega (arith, less, last)))

  -- ---- all of them

  -- what is answered while so many pieces are to come
  abbrev answers_left : ℕ → List Answer
  answers_left zero = []
  answers_left (suc k) = replicate k more ++ whole m ∷ []

  nothing_left : (later : List Arrival) (os : List OpenMessage) → length (indices later) ≡ 0 → answers (cut_at s n m) os later ≡ []
  nothing_left [] os none = refl
  nothing_left (own i ∷ later) os none = absurd (omega arith)
  nothing_left (other bytes ∷ later) os none = nothing_left later (step_of os bytes).after none

  -- the pieces that came, and those that are to come
  record Halfway (b left : List ℕ) : Type 0 where
    once : (k : ℕ) → count_by (nat_eq k) b + count_by (nat_eq k) left ≤ 1
    below : count_by (λ k. nat_le count k) left ≡ 0
    total : length b + length left ≡ count
    rest : missing (slots m b) + length b ≡ count

  next_below : (b left : List ℕ) (i : ℕ) → Halfway b (i ∷ left) → i < count
  next_below b left i h =
      let none = h.below in
      elim (cases_Bool (nat_le count i)) [
        | inl past ↦ (let one = count_by-yes (λ k. nat_le count k) i left past in absurd (omega arith))
        | inr within ↦ leb-false count i within
      ]

  next_empty : (b left : List ℕ) (i : ℕ) → Halfway b (i ∷ left) → get_or (slots m b) i None ≡ None
  next_empty b left i h =
      let one = count_by-yes (nat_eq i) i left (eq-eqb i i refl) in
      slot_empty m b i (let once = h.once i in omega arith)

  halfway_more : (b left : List ℕ) (i : ℕ) → Halfway b (i ∷ left) → Halfway (i ∷ b) left
  halfway_more b left i h = record {
    once = λ k.
        (let done = sum_by-cons (λ (j : ℕ). one_if (nat_eq k j)) i b in
        let to_come = sum_by-cons (λ (j : ℕ). one_if (nat_eq k j)) i left in omega (arith, done, to_come, h.once k));
    below = (let to_come = sum_by-cons (λ (j : ℕ). one_if (nat_le count j)) i left in omega (arith, to_come, h.below));
    total = (let size = h.total in omega arith);
    rest = (let less = missing-slots m b i (next_below b left i h) (next_empty b left i h) in omega (arith, less, h.rest));
  }

  -- one of them, and then the others
  arrive_own : (i : ℕ) (later : List Arrival) (os : List OpenMessage) (b : List ℕ) → Unique os → State os b → Halfway b (i ∷ indices later)
      → (State (step_of os (cut_at s n m i)).after (i ∷ b) → answers (cut_at s n m) (step_of os (cut_at s n m i)).after later ≡ answers_left (length (indices later)))
      → (k : ℕ) → length (indices later) ≡ k → answers (cut_at s n m) os (own i ∷ later) ≡ answers_left (suc (length (indices later)))
  arrive_own i later os b one state h others_come zero none =
      let last : missing (slots m b) ≡ 1 = omega (arith, none, h.total, h.rest) in
      let text = finished os b i (next_below b (indices later) i h) (next_empty b (indices later) i h) one state last in
      let quiet = nothing_left later (step_of os (cut_at s n m i)).after none in
      ap (λ (a : Answer). a ∷ answers (cut_at s n m) (step_of os (cut_at s n m i)).after later) text ∙ ap (λ (rest : List Answer). whole m ∷ rest) quiet
      ∙ ap (λ j. answers_left (suc j)) (sym none)
  arrive_own i later os b one state h others_come (suc k) some =
      let several : 2 ≤ missing (slots m b) = omega (arith, some, h.total, h.rest) in
      let here = further os b i (next_below b (indices later) i h) (next_empty b (indices later) i h) one state several in
      ap (λ (a : Answer). a ∷ answers (cut_at s n m) (step_of os (cut_at s n m i)).after later) here.0
      ∙ ap (λ (answered : List Answer). more ∷ answered) (others_come here.1)
      ∙ ap (λ (j : ℕ). more ∷ answers_left j) some ∙ ap (λ j. answers_left (suc j)) (sym some)

  arrive : (arrivals : List Arrival) (os : List OpenMessage) (b : List ℕ) → Unique os → State os b → AllOfOthers s n others arrivals → Halfway b (indices arrivals)
      → answers (cut_at s n m) os arrivals ≡ answers_left (length (indices arrivals))
  arrive [] os b one state apart h = refl
  arrive (other bytes ∷ later) os b one state apart h =
      arrive later (step_of os bytes).after b (unique_step os bytes one) (state_after os b bytes apart.0 one state) apart.1 h
  arrive (own i ∷ later) os b one state apart h =
      arrive_own i later os b one state h
      (λ after. arrive later (step_of os (cut_at s n m i)).after (i ∷ b) (unique_step os (cut_at s n m i) one) after apart (halfway_more b (indices later) i h)) (length (indices later)) refl

  answers_all : (c : ℕ) → 1 ≤ c → answers_left c ≡ replicate (c - 1) more ++ whole m ∷ []
  answers_all zero some = absurd (omega arith)
  answers_all (suc c) some = let e : suc c - 1 ≡ c = omega arith in rw e refl

pub come_whole : (before : List (List ℕ)) (s : Party) (n : ℕ) (m : List ℕ) (arrivals : List Arrival) → IsClosed s n (open_after before) → AreArrivals s n m arrivals
    → answers (cut_at s n m) (open_after before) arrivals ≡ expected m
come_whole before s n m arrivals closed are =
    let c = count_of (length m) in
    let numbers = each_from (λ j. j) 0 c in
    let size : length (indices arrivals) ≡ c = length_permutation numbers (indices arrivals) are.pieces ∙ length-numbers 0 c in
    let some = are.cut.some in
    let halfway : Halfway s n m are.cut are.others are.few [] (indices arrivals) = record {
      once = λ k. (let same = sum_by-IsPermutation (λ (j : ℕ). one_if (nat_eq k j)) numbers (indices arrivals) are.pieces in let one = once_numbers k 0 c in omega (arith, same, one));
      below = sum_by-IsPermutation (λ (j : ℕ). one_if (nat_le c j)) numbers (indices arrivals) are.pieces ∙ below_numbers c 0 c (omega arith);
      total = omega (arith, size);
      rest = omega (arith, missing-none m);
    } in
    arrive s n m are.cut are.others are.few arrivals (open_after before) [] (unique_open before) closed are.apart halfway
    ∙ ap (answers_left s n m are.cut are.others are.few) size ∙ answers_all s n m are.cut are.others are.few c (omega arith)

-- the pieces by themselves, in any order
pub come_alone : (before : List (List ℕ)) (s : Party) (n : ℕ) (m : List ℕ) (order : List ℕ) → IsClosed s n (open_after before) → IsCut s n m → IsPermutation (all_indices m) order
    → answers (cut_at s n m) (open_after before) (map own order) ≡ expected m
come_alone before s n m order closed cut any =
    come_whole before s n m (map own order) closed
    (record { cut = cut; pieces = subst (λ (is : List ℕ). IsPermutation (all_indices m) is) (sym (same order)) any; others = []; few = omega arith; apart = none_between order }) where
      same : (is : List ℕ) → indices (map own is) ≡ is
      same [] = refl
      same (i ∷ is) = ap (λ (rest : List ℕ). i ∷ rest) (same is)

      none_between : (is : List ℕ) → AllOfOthers s n [] (map own is)
      none_between [] = tt
      none_between (i ∷ is) = none_between is
