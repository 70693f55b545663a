-- Whether a request is the latest of its client among the first entries, chunk by chunk.
use Rattle.std.proofs.Common.{◌≡◌, ℕ, ◌+◌, ◌*◌, ◌/◌, ◌%◌, ◌<◌, ◌≤◌, min, Bool, true, false, Some, None, List, ◌++◌, length, take, drop, map, get_or, slice_get, refl, sym, ap, ◌∙◌, subst, arith, inl, inr}
use Rattle.std.specs.Prelude.{◌&&◌, nat_le, nat_lt}
use Rattle.std.specs.List.{list_all}
use Rattle.std.proofs.lemmas.Bool.{cases_lt}
use Rattle.std.proofs.lemmas.Bool.Decides.{nat_tests, same_from_decides}
use Rattle.std.proofs.lemmas.List.{get_or-take, length-take, take_all, take-append-drop, take-take}
use Rattle.std.proofs.lemmas.List.Folds.{list_all-append}
use Rattle.std.proofs.lemmas.Option.{slice_get_within, get_or_from_slice_get}
use Rattle.ab_hist.specs.declared.request.Request.{Request}
use Rattle.ab_hist.specs.Requests.{key_of}
use Rattle.ab_hist.specs.Histories.{IsHistory, IsNext, Precedes, may_follow}
use Rattle.ab_hist.specs.Indexes.{latest_of}
use Rattle.ab_hist.specs.Known.{is_no_later, is_latest}
use Rattle.ab_hist.specs.Chunks.{Chunk, IsChained, entries_of}
use Rattle.ab_hist.proofs.RequestLemmas.{next-Decides}
use Rattle.ab_hist.proofs.IndexLemmas.{later_Some, later_None}
use Rattle.ab_hist.proofs.ChunkLemmas.{chunk_within, in_chunks, below_64, entries-end, front_to, front_whole}
use Rattle.ab_hist.proofs.FrontLemmas.{chunks_more}

-- the same command under the next stamp
abbrev past : Request → Request
past m = record { client = m.client; stamp = m.stamp + 1; command = m.command }

no_later_follows : (m e : Request) → is_no_later m e ≡ may_follow (past m) e
no_later_follows m e = grind (arith, nat_tests)

all_follow : (m : Request) (h : List Request) → list_all (is_no_later m) h ≡ list_all (may_follow (past m)) h
all_follow m h = λ i. list_all (λ e. no_later_follows m e i) h

pub latest_None : (h : List Request) (m : Request) → IsHistory h → None ≡ latest_of (map key_of h) m.client → true ≡ list_all (is_no_later m) h
latest_None h m history is = sym (all_follow m h ∙ (next-Decides h (past m)).1 (later_None h (past m) history is))

pub latest_Some : (h : List Request) (m : Request) (stamp : ℕ) → IsHistory h → Some stamp ≡ latest_of (map key_of h) m.client → nat_le stamp m.stamp ≡ list_all (is_no_later m) h
latest_Some h m stamp history is =
    let step : nat_le stamp m.stamp ≡ nat_lt stamp (m.stamp + 1) = grind (arith, nat_tests) in
    step ∙ same_from_decides (nat_lt stamp (m.stamp + 1)) (list_all (may_follow (past m)) h) (later_Some h (past m) stamp history is) (next-Decides h (past m)) ∙ sym (all_follow m h)

-- entries before a request are no later ones of its client
pub earlier : (h : List Request) (m : Request) (p n : ℕ) → IsHistory h → slice_get h p ≡ Some m → n ≤ p → list_all (is_no_later m) (take n h) ≡ true
earlier h m p n history at le =
    let within : p < length h = slice_get_within h p m at in
    let next : IsNext (take n h) (past m) = λ j d short same.
    let low : j < n = omega (arith, short, length-take n h) in
    let there : get_or (take n h) j d ≡ get_or h j d = get_or-take n h j d low in
    let rising : Precedes (get_or h j d) m = subst (Precedes (get_or h j d)) (get_or_from_slice_get h p m d at) (history j p d (omega arith) within) in
    let less = rising (sym (ap (λ (x : Request). x.client) there) ∙ same) in
    omega (arith, less, ap (λ (x : Request). x.stamp) there)
    in
    all_follow m (take n h) ∙ (next-Decides (take n h) (past m)).1 next

-- so are those of the chunks before it
pub earlier_chunks : (cs : List Chunk) (is : IsChained cs) (m : Request) (p : ℕ) → IsHistory (entries_of cs) → slice_get (entries_of cs) p ≡ Some m → list_all (is_no_later m) (entries_of (take (p / 64) cs)) ≡ true
earlier_chunks cs is m p history at =
    let within = slice_get_within (entries_of cs) p m at in
    let lt = chunk_within cs is p (p / 64) (p % 64) (in_chunks p) (below_64 p) within in
    ap (list_all (is_no_later m)) (front_whole cs is (p / 64) (64 * (p / 64)) refl lt) ∙ earlier (entries_of cs) m p (64 * (p / 64)) history at (omega (arith, in_chunks p))

-- a front up to a number that is at most the length
pub take_min : (h : List Request) (n k : ℕ) → k ≡ min n (length h) → take n h ≡ take k h
take_min h n k is = elim (cases_lt n (length h)) [
  | inl low ↦ let e : n ≡ k = omega (arith, is) in ap (λ j. take j h) e
  | inr high ↦ take_all n h (omega arith) ∙ sym (take_all k h (omega (arith, is)))
]

-- what fails in a front fails in a longer one
fails_longer : (t : Request → Bool) (h : List Request) (k n : ℕ) → k ≤ n → list_all t (take k h) ≡ false → list_all t (take n h) ≡ false
fails_longer t h k n le fails =
    let front = take k (take n h) in
    let e : take n h ≡ front ++ drop k (take n h) = sym (take-append-drop k (take n h)) in
    ap (list_all t) e ∙ list_all-append t front (drop k (take n h)) ∙ ap (λ b. b && list_all t (drop k (take n h))) (ap (list_all t) (take-take k n h le) ∙ fails)

module _ (m : Request) (cs : List Chunk) (is : IsChained cs) where
  module _ (q : ℕ) (c : Chunk) (at : slice_get cs q ≡ Some c) where
    to_end : take (64 * q + length c.requests) (entries_of cs) ≡ entries_of (take q cs) ++ c.requests
    to_end =
        front_to cs is (64 * q + length c.requests) q (length c.requests) refl c at (omega arith)
        ∙ ap (λ l. entries_of (take q cs) ++ l) (take_all (length c.requests) c.requests (omega arith))

    one_chunk : (b : Bool) → b ≡ is_latest 64 c.requests m → list_all (is_no_later m) c.requests ≡ b
    one_chunk b told = ap (list_all (is_no_later m)) (sym (take_all 64 c.requests (is.small q c at))) ∙ sym told

    -- as far as chunk q, and in it
    pub latest_more : list_all (is_no_later m) (entries_of (take q cs)) ≡ true → true ≡ is_latest 64 c.requests m → list_all (is_no_later m) (entries_of (take (q + 1) cs)) ≡ true
    latest_more so_far told =
        ap (λ ds. list_all (is_no_later m) (entries_of ds)) (chunks_more cs q c at)
        ∙ ap (list_all (is_no_later m)) (entries-end (take q cs) c)
        ∙ list_all-append (is_no_later m) (entries_of (take q cs)) c.requests
        ∙ (λ i. so_far i && one_chunk true told i)

    -- a later one in chunk q is one among more entries
    pub latest_fails : (n : ℕ) → 64 * q + 64 ≤ n → false ≡ is_latest 64 c.requests m → false ≡ is_latest n (entries_of cs) m
    latest_fails n le told =
        let b = list_all (is_no_later m) (entries_of (take q cs)) in
        let fails : list_all (is_no_later m) (take (64 * q + length c.requests) (entries_of cs)) ≡ false =
        ap (list_all (is_no_later m)) to_end ∙ list_all-append (is_no_later m) (entries_of (take q cs)) c.requests ∙ (λ i. b && one_chunk false told i) ∙ and-false b in
        sym (fails_longer (is_no_later m) (entries_of cs) (64 * q + length c.requests) n (omega (arith, is.small q c at, le)) fails)
      where
        and-false : (a : Bool) → (a && false) ≡ false
        and-false true = refl
        and-false false = refl

    -- and the last entries that are asked of stand in it
    pub latest_within : (n r : ℕ) (b : Bool) → n ≡ 64 * q + r → r ≤ length c.requests → list_all (is_no_later m) (entries_of (take q cs)) ≡ true → b ≡ is_latest r c.requests m → b ≡ is_latest n (entries_of cs) m
    latest_within n r b splits le so_far told =
        told ∙ sym (ap (list_all (is_no_later m)) (front_to cs is n q r splits c at le) ∙ list_all-append (is_no_later m) (entries_of (take q cs)) (take r c.requests)
        ∙ ap (λ a. a && list_all (is_no_later m) (take r c.requests)) so_far)

  -- there are no more chunks
  pub latest_all : (n q : ℕ) → q ≡ length cs → length (entries_of cs) ≤ n → list_all (is_no_later m) (entries_of (take q cs)) ≡ true → true ≡ is_latest n (entries_of cs) m
  latest_all n q end le so_far =
      sym (ap (list_all (is_no_later m)) (take_all n (entries_of cs) le ∙ ap entries_of (sym (take_all q cs (omega (arith, end))))) ∙ so_far)
