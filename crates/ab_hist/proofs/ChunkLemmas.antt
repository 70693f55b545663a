-- Chunks, and the entries that they hold.
use Rattle.std.proofs.Common.{◌≡◌, ℕ, zero, suc, ◌+◌, ◌*◌, ◌-◌, ◌/◌, ◌%◌, ◌<◌, ◌≤◌, List, [], ◌∷◌, ◌++◌, length, take, drop, get_or, slice_get, Some, Contains, arith, sym, ◌∙◌, ap, refl, length-append, append_assoc, append-nil, inl, inr, subst, replicate, zero-add}
use Rattle.std.proofs.Math.Seq.{take-append-add}
use Rattle.std.proofs.Math.Nat.{div-add-mod}
use Rattle.std.proofs.lemmas.Bool.{cases_lt}
use Rattle.std.proofs.lemmas.List.{length-take, take-append-le, take-append-drop, take_at, drop_all, get_or-append-add, get_or_append_left, get_or_default}
use Rattle.std.proofs.lemmas.List.Elements.{All-append, Contains-append_cases}
use Rattle.std.proofs.lemmas.List.Sums.{fold-append}
use Rattle.std.proofs.lemmas.List.Concat.{flat_map-append}
use Rattle.std.proofs.lemmas.Option.{slice_get_within}
use Rattle.ab_hist.specs.declared.request.Request.{Request}
use Rattle.ab_hist.specs.Histories.{IsHistory, IsNext, Knows, Precedes}
use Rattle.ab_hist.specs.Digests.{link, digest_of}
use Rattle.ab_hist.specs.Chunks.{Chunk, IsChained, front, grown, entries_of, digest_from}
use Rattle.ab_num.proofs.Lists.{slice_get-push}
use Rattle.ab_hist.proofs.KeptLemmas.{slice_get-append-lt, slice_get-take}

-- all are full
abbrev AllFull : List Chunk → Type 0
AllFull cs = (n : ℕ) (c : Chunk) → slice_get cs n ≡ Some c → n + 1 < length cs → length c.requests ≡ 64

abbrev AllSmall : List Chunk → Type 0
AllSmall cs = (n : ℕ) (c : Chunk) → slice_get cs n ≡ Some c → length c.requests ≤ 64

length_before : (cs : List Chunk) (n : ℕ) → AllFull cs → n < length cs → length (entries_of (take n cs)) ≡ 64 * n
length_before [] n full lt = absurd (omega arith)
length_before (c ∷ cs) zero full lt = refl
length_before (c ∷ cs) (suc n) full lt =
    omega (arith, length-append c.requests (entries_of (take n cs)), full 0 c refl (omega arith), length_before cs n (λ k d at l. full (suc k) d at (omega arith)) (omega arith))

split : (cs : List Chunk) (n : ℕ) (c : Chunk) → slice_get cs n ≡ Some c → entries_of cs ≡ entries_of (take n cs) ++ (c.requests ++ entries_of (drop (suc n) cs))
split [] n c at = cc
split (x ∷ cs) zero c at = let one : x ≡ c = cc in ap (λ y. y.requests ++ entries_of cs) one
split (x ∷ cs) (suc n) c at = ap (λ l. x.requests ++ l) (split cs n c at) ∙ sym (append_assoc x.requests (entries_of (take n cs)) (c.requests ++ entries_of (drop (suc n) cs)))

at_most : (cs : List Chunk) → AllSmall cs → length (entries_of cs) ≤ 64 * length cs
at_most [] small = omega arith
at_most (c ∷ cs) small = omega (arith, length-append c.requests (entries_of cs), small 0 c refl, at_most cs (λ k d at. small (suc k) d at))

slice_get-add : {X : Type 0} → (xs ys : List X) (n : ℕ) → slice_get (xs ++ ys) (length xs + n) ≡ slice_get ys n
slice_get-add [] ys n = ap (slice_get ys) (zero-add n)
slice_get-add (x ∷ xs) ys n = let e : length (x ∷ xs) + n ≡ suc (length xs + n) = omega arith in ap (slice_get (x ∷ (xs ++ ys))) e ∙ slice_get-add xs ys n

-- the digest of two lists, one after the other
pub digest_on : (xs ys : List Request) → digest_of (xs ++ ys) ≡ digest_from (digest_of xs) ys
unfolding digest_of
digest_on xs ys = fold-append link (replicate 32 0) xs ys

-- entry number k, counted from 0, is entry r of chunk q
module _ (cs : List Chunk) (is : IsChained cs) (k q r : ℕ) (splits : k ≡ 64 * q + r) where
  pub chunk_within : r < 64 → k < length (entries_of cs) → q < length cs
  chunk_within small lt = omega (arith, at_most cs is.small)

  module _ (c : Chunk) (at : slice_get cs q ≡ Some c) where
    low : length (entries_of (take q cs)) ≡ 64 * q
    low = length_before cs q is.full (slice_get_within cs q c at)

    pub room_in_chunk : r ≤ 64 → k ≤ length (entries_of cs) → r ≤ length c.requests
    room_in_chunk small lt = elim (cases_lt (q + 1) (length cs)) [
      | inl more ↦ omega (arith, is.full q c at more)
      | inr last ↦
          let none : entries_of (drop (suc q) cs) ≡ [] = ap entries_of (drop_all (suc q) cs (omega arith)) in
          let whole : length (entries_of cs) ≡ 64 * q + length c.requests =
          ap length (split cs q c at ∙ ap (λ l. entries_of (take q cs) ++ (c.requests ++ l)) none)
          ∙ length-append (entries_of (take q cs)) (c.requests ++ []) ∙ ap (λ l. length (entries_of (take q cs)) + length l) (append-nil c.requests) ∙ ap (λ n. n + length c.requests) low in
          omega arith
    ]

    pub in_chunk : r < 64 → k < length (entries_of cs) → r < length c.requests
    in_chunk small lt = elim (cases_lt (q + 1) (length cs)) [
      | inl more ↦ omega (arith, is.full q c at more)
      | inr last ↦
          let none : entries_of (drop (suc q) cs) ≡ [] = ap entries_of (drop_all (suc q) cs (omega arith)) in
          let whole : length (entries_of cs) ≡ 64 * q + length c.requests =
          ap length (split cs q c at ∙ ap (λ l. entries_of (take q cs) ++ (c.requests ++ l)) none)
          ∙ length-append (entries_of (take q cs)) (c.requests ++ []) ∙ ap (λ l. length (entries_of (take q cs)) + length l) (append-nil c.requests) ∙ ap (λ n. n + length c.requests) low in
          omega arith
    ]

    pub entry_at : r < length c.requests → slice_get (entries_of cs) k ≡ slice_get c.requests r
    entry_at lt =
        let place : k ≡ length (entries_of (take q cs)) + r = omega (arith, low) in
        ap (λ n. slice_get (entries_of cs) n) place
        ∙ ap (λ l. slice_get l (length (entries_of (take q cs)) + r)) (split cs q c at)
        ∙ slice_get-add (entries_of (take q cs)) (c.requests ++ entries_of (drop (suc q) cs)) r
        ∙ slice_get-append-lt c.requests (entries_of (drop (suc q) cs)) r lt

    pub front_to : r ≤ length c.requests → take k (entries_of cs) ≡ entries_of (take q cs) ++ take r c.requests
    front_to le =
        let place : k ≡ length (entries_of (take q cs)) + r = omega (arith, low) in
        ap (λ n. take n (entries_of cs)) place
        ∙ ap (λ l. take (length (entries_of (take q cs)) + r) l) (split cs q c at)
        ∙ take-append-add (entries_of (take q cs)) (c.requests ++ entries_of (drop (suc q) cs)) r
        ∙ ap (λ l. entries_of (take q cs) ++ l) (take-append-le r c.requests (entries_of (drop (suc q) cs)) le)

    pub digest_to : r ≤ length c.requests → digest_from c.start (take r c.requests) ≡ digest_of (take k (entries_of cs))
    digest_to le =
        ap (λ d. digest_from d (take r c.requests)) (is.starts q c at) ∙ sym (digest_on (entries_of (take q cs)) (take r c.requests)) ∙ ap digest_of (sym (front_to le))

-- chunks of which all are full
pub record IsFilled (cs : List Chunk) : Type 0 where
  pub starts : (n : ℕ) (c : Chunk) → slice_get cs n ≡ Some c → c.start ≡ digest_of (entries_of (take n cs))
  pub filled : (n : ℕ) (c : Chunk) → slice_get cs n ≡ Some c → length c.requests ≡ 64

take_take : {X : Type 0} → (xs : List X) (m n : ℕ) → m ≤ n → take m (take n xs) ≡ take m xs
take_take xs zero n le = refl
take_take xs (suc m) zero le = absurd (omega arith)
take_take [] (suc m) (suc n) le = refl
take_take (x ∷ xs) (suc m) (suc n) le = ap (λ l. x ∷ l) (take_take xs m n (omega arith))

pub filled-chained : (cs : List Chunk) → IsFilled cs → IsChained cs
filled-chained cs is = record {
  starts = is.starts;
  small = λ n c at. omega (arith, is.filled n c at);
  full = λ n c at lt. is.filled n c at;
}

pub take-filled : (cs : List Chunk) (q : ℕ) → IsChained cs → q < length cs → IsFilled (take q cs)
take-filled cs q is lt = record {
  starts = λ n c at.
      let short : n < length (take q cs) = slice_get_within (take q cs) n c at in
      let low : n < q = omega (arith, length-take q cs) in
      is.starts n c (sym (slice_get-take q cs n low) ∙ at) ∙ ap (λ l. digest_of (entries_of l)) (sym (take_take cs n q (omega arith)));
  filled = λ n c at.
      let short : n < length (take q cs) = slice_get_within (take q cs) n c at in
      let low : n < q = omega (arith, length-take q cs) in
      is.full n c (sym (slice_get-take q cs n low) ∙ at) (omega arith);
}

pub all-filled : (cs : List Chunk) → IsChained cs → ((c : Chunk) → slice_get cs (length cs - 1) ≡ Some c → 64 ≤ length c.requests) → IsFilled cs
all-filled cs is last = record {
  starts = is.starts;
  filled = λ n c at.
      let short : n < length cs = slice_get_within cs n c at in
      elim (cases_lt (n + 1) (length cs)) [
        | inl more ↦ is.full n c at more
        | inr end ↦
            let here : n ≡ length cs - 1 = omega arith in
            omega (arith, is.small n c at, last c (ap (slice_get cs) (sym here) ∙ at))
      ];
}

-- full chunks and one more
module _ (cs : List Chunk) (c : Chunk) (is : IsFilled cs) (start : c.start ≡ digest_of (entries_of cs)) (small : length c.requests ≤ 64) where
  pub chained-end : IsChained (cs ++ c ∷ [])
  chained-end = record {
    starts = λ n d at. elim (cases_lt n (length cs)) [
      | inl low ↦ is.starts n d (sym (slice_get-append-lt cs (c ∷ []) n low) ∙ at) ∙ ap (λ l. digest_of (entries_of l)) (sym (take-append-le n cs (c ∷ []) (omega arith)))
      | inr high ↦
          let last = at_end n d at high in
          ap (λ x. x.start) (sym last.1) ∙ start ∙ ap (λ l. digest_of (entries_of l)) (sym (take_at cs (c ∷ []) n (sym last.0)))
    ];
    small = λ n d at. elim (cases_lt n (length cs)) [
      | inl low ↦ omega (arith, is.filled n d (sym (slice_get-append-lt cs (c ∷ []) n low) ∙ at))
      | inr high ↦ let last = at_end n d at high in subst (λ x. length x.requests ≤ 64) last.1 small
    ];
    full = λ n d at lt. is.filled n d (sym (slice_get-append-lt cs (c ∷ []) n (omega (arith, length-append cs (c ∷ [])))) ∙ at);
  } where
    at_end : (n : ℕ) (d : Chunk) → slice_get (cs ++ c ∷ []) n ≡ Some d → length cs ≤ n → (n ≡ length cs) × (c ≡ d)
    at_end n d at high =
        let within : n < length (cs ++ c ∷ []) = slice_get_within (cs ++ c ∷ []) n d at in
        let last : n ≡ length cs = omega (arith, length-append cs (c ∷ [])) in
        let here : Some c ≡ Some d = sym (slice_get-push cs c) ∙ ap (slice_get (cs ++ c ∷ [])) (sym last) ∙ at in
        let one : c ≡ d = cc in
        (last, one)

pub entries-end : (cs : List Chunk) (c : Chunk) → entries_of (cs ++ c ∷ []) ≡ entries_of cs ++ c.requests
entries-end cs c = flat_map-append (λ k. k.requests) cs (c ∷ []) ∙ ap (λ l. entries_of cs ++ l) (append-nil c.requests)

-- a number by chunks of 64
pub in_chunks : (k : ℕ) → k ≡ 64 * (k / 64) + k % 64
in_chunks k = sym (div-add-mod k 64)

pub below_64 : (k : ℕ) → k % 64 < 64
below_64 k = omega arith

-- the entries of the chunks before number q
pub front_whole : (cs : List Chunk) (is : IsChained cs) (q k : ℕ) → k ≡ 64 * q → q < length cs → entries_of (take q cs) ≡ take k (entries_of cs)
front_whole cs is q k e lt =
    sym (ap (λ l. take k (entries_of l)) (sym (take-append-drop q cs))
    ∙ ap (take k) (flat_map-append (λ c. c.requests) (take q cs) (drop q cs))
    ∙ take_at (entries_of (take q cs)) (entries_of (drop q cs)) k (length_before cs q is.full lt ∙ sym e))

pub no_more : (cs : List Chunk) (is : IsChained cs) (k : ℕ) → length cs ≤ k / 64 → length (entries_of cs) ≤ k
no_more cs is k le = omega (arith, at_most cs is.small, in_chunks k)

-- as many entries as there are need no more chunks than there are
pub some_more : (cs : List Chunk) (is : IsChained cs) (k : ℕ) → k ≤ length (entries_of cs) → k / 64 ≤ length cs
some_more cs is k le = omega (arith, at_most cs is.small, in_chunks k)

module _ (cs : List Chunk) (is : IsChained cs) (q : ℕ) (c : Chunk) (at : slice_get cs q ≡ Some c) where
  -- chunk q cut
  pub cut-chained : (r : ℕ) → IsChained (take q cs ++ front r c ∷ [])
  cut-chained r =
      chained-end (take q cs) (front r c) (take-filled cs q is (slice_get_within cs q c at)) (is.starts q c at) (omega (arith, length-take r c.requests, is.small q c at))

  -- chunk q is the last
  module _ (last : length cs ≡ q + 1) where
    pub last_split : entries_of cs ≡ entries_of (take q cs) ++ c.requests
    last_split =
        split cs q c at ∙ ap (λ l. entries_of (take q cs) ++ (c.requests ++ entries_of l)) (drop_all (suc q) cs (omega arith))
        ∙ ap (λ l. entries_of (take q cs) ++ l) (append-nil c.requests)

    module _ (m : Request) where
      pub grown-chained : length c.requests < 64 → IsChained (take q cs ++ grown c m ∷ [])
      grown-chained room =
          chained-end (take q cs) (grown c m) (take-filled cs q is (slice_get_within cs q c at)) (is.starts q c at) (omega (arith, length-append c.requests (m ∷ []), room))

      pub grown-entries : entries_of (take q cs ++ grown c m ∷ []) ≡ entries_of cs ++ m ∷ []
      grown-entries =
          entries-end (take q cs) (grown c m) ∙ sym (append_assoc (entries_of (take q cs)) c.requests (m ∷ [])) ∙ ap (λ l. l ++ m ∷ []) (sym last_split)

-- each chunk's entries are among those of all
pub next_in : (cs : List Chunk) (q : ℕ) (c : Chunk) → slice_get cs q ≡ Some c → (m : Request) → IsNext (entries_of cs) m → IsNext c.requests m
next_in cs q c at m next k d lt =
    let before = entries_of (take q cs) in
    let after = entries_of (drop (suc q) cs) in
    let whole : IsNext (before ++ (c.requests ++ after)) m = subst (λ h. IsNext h m) (split cs q c at) next in
    subst (λ x. Precedes x m) (get_or-append-add before (c.requests ++ after) k d ∙ get_or_append_left c.requests after d k lt)
    (whole (length before + k) d (omega (arith, length-append before (c.requests ++ after), length-append c.requests after)))

-- chunk q holds its part of the entries
pub chunk_room : (cs : List Chunk) (is : IsChained cs) (q : ℕ) (c : Chunk) → slice_get cs q ≡ Some c → 64 * q + length c.requests ≤ length (entries_of cs)
chunk_room cs is q c at =
    let before = length_before cs q is.full (slice_get_within cs q c at) in
    omega (arith, before, ap length (split cs q c at), length-append (entries_of (take q cs)) (c.requests ++ entries_of (drop (suc q) cs)), length-append c.requests (entries_of (drop (suc q) cs)))

-- entry p of chunk q, counted from 1
pub entry_in : (cs : List Chunk) (is : IsChained cs) (q : ℕ) (c : Chunk) → slice_get cs q ≡ Some c → (m : Request) (p : ℕ) → (1 ≤ p) × (slice_get c.requests (p - 1) ≡ Some m) → slice_get (entries_of cs) (q * 64 + p - 1) ≡ Some m
entry_in cs is q c at m p found =
    let splits : q * 64 + p - 1 ≡ 64 * q + (p - 1) = omega (arith, found.0) in
    entry_at cs is (q * 64 + p - 1) q (p - 1) splits c at (slice_get_within c.requests (p - 1) m found.1) ∙ found.1

drop_here : {X : Type 0} → (xs : List X) (n : ℕ) (x : X) → slice_get xs n ≡ Some x → drop n xs ≡ x ∷ drop (suc n) xs
drop_here [] n x at = cc
drop_here (y ∷ xs) zero x at = let one : y ≡ x = cc in ap (λ z. z ∷ xs) one
drop_here (y ∷ xs) (suc n) x at = drop_here xs n x at

-- the entries from the chunk before number n on
pub entries_behind : (cs : List Chunk) (n : ℕ) (c : Chunk) → 0 < n → slice_get cs (n - 1) ≡ Some c → entries_of (drop (n - 1) cs) ≡ c.requests ++ entries_of (drop n cs)
entries_behind cs n c some at =
    let next : suc (n - 1) ≡ n = omega arith in
    ap entries_of (drop_here cs (n - 1) c at) ∙ ap (λ k. c.requests ++ entries_of (drop k cs)) next

pub none_more : (xs ys : List Request) (m : Request) → (Contains xs m → ⊥) → (Contains ys m → ⊥) → Contains (xs ++ ys) m → ⊥
none_more xs ys m first second there = elim (Contains-append_cases xs ys m there) [
  | inl at ↦ first at
  | inr at ↦ second at
]

-- a client of which two lists have no entry
pub unknown_more : (xs ys : List Request) (client : ℕ) → (Knows xs client → ⊥) → (Knows ys client → ⊥) → Knows (xs ++ ys) client → ⊥
unknown_more xs ys client first second (k, e, lt, at, of) = elim (cases_lt k (length xs)) [
  | inl low ↦ first (k, e, low, sym (get_or_append_left xs ys e k low) ∙ at, of)
  | inr high ↦
      let back : length xs + (k - length xs) ≡ k = omega arith in
      second (k - length xs, e, omega (arith, length-append xs ys), sym (get_or-append-add xs ys (k - length xs) e) ∙ ap (λ n. get_or (xs ++ ys) n e) back ∙ at, of)
]

-- m may come next where no entry is of its client
pub next_unknown : (h : List Request) (m : Request) → (Knows h m.client → ⊥) → IsNext h m
next_unknown h m none k d lt same = absurd (none (k, get_or h k d, lt, get_or_default h k (get_or h k d) d lt, same))

-- m may come next where it may after entries of which one is of its client, and none behind those is
module _ (before mine after : List Request) (m : Request) (history : IsHistory (before ++ (mine ++ after))) (next : IsNext mine m) where
  next_of_those : Knows mine m.client → IsNext before m
  next_of_those (j, e, lt, at, of) k d low same =
      let all = before ++ (mine ++ after) in
      let there : get_or all (length before + j) d ≡ e = get_or-append-add before (mine ++ after) j d ∙ get_or_append_left mine after d j lt ∙ get_or_default mine j d e lt ∙ at in
      let rising : Precedes (get_or all k d) (get_or all (length before + j) d) =
      history k (length before + j) d (omega arith) (omega (arith, length-append before (mine ++ after), length-append mine after)) in
      let both : Precedes (get_or before k d) e = subst (λ x. Precedes x e) (get_or_append_left before (mine ++ after) d k low) (subst (λ x. Precedes (get_or all k d) x) there rising) in
      let last : Precedes e m = subst (λ x. Precedes x m) at (next j e lt) in
      omega (arith, both (same ∙ sym of), last of)

  pub next_all : Knows mine m.client → (Knows after m.client → ⊥) → IsNext (before ++ (mine ++ after)) m
  next_all knows none =
      All-append (λ x. Precedes x m) before (mine ++ after) (next_of_those knows) (All-append (λ x. Precedes x m) mine after next (next_unknown after m none))

-- m may come next, by the newest chunk that knows its client
pub next_by : (cs : List Chunk) (n : ℕ) (c : Chunk) → 0 < n → slice_get cs (n - 1) ≡ Some c → (m : Request) → IsHistory (entries_of cs) → Knows c.requests m.client
    → (Knows (entries_of (drop n cs)) m.client → ⊥) → IsNext c.requests m → IsNext (entries_of cs) m
next_by cs n c some at m history knows none next =
    let rest : suc (n - 1) ≡ n = omega arith in
    let parts = split cs (n - 1) c at ∙ ap (λ k. entries_of (take (n - 1) cs) ++ (c.requests ++ entries_of (drop k cs))) rest in
    subst (λ h. IsNext h m) (sym parts) (next_all (entries_of (take (n - 1) cs)) c.requests (entries_of (drop n cs)) m (subst IsHistory parts history) next knows none)
