-- Histories that begin with others, chunk by chunk.
use Rattle.std.proofs.Common.{◌≡◌, ℕ, ◌+◌, ◌*◌, ◌<◌, ◌≤◌, List, [], ◌∷◌, ◌++◌, length, take, slice_get, Some, arith, sym, ◌∙◌, ap, length-append, inl, inr}
use Rattle.std.proofs.lemmas.Bool.{cases_lt}
use Rattle.std.proofs.lemmas.List.{length-take, take_all, take_more, take-take, append_cancel_left}
use Rattle.std.proofs.lemmas.Option.{slice_get_within, get_or_from_slice_get}
use Rattle.ab_hist.specs.declared.request.Request.{Request}
use Rattle.ab_hist.specs.Chunks.{Chunk, IsChained, entries_of}
use Rattle.ab_hist.proofs.ChunkLemmas.{chunk_room, chunk_within, entries-end, front_to, front_whole, room_in_chunk}

-- a list doesn't begin with a longer one
pub no_longer : (xs ys : List Request) → length ys < length xs → take (length xs) ys ≡ xs → ⊥
no_longer xs ys short is = omega (arith, ap length is, length-take (length xs) ys)

pub chunks_more : (cs : List Chunk) (n : ℕ) (c : Chunk) → slice_get cs n ≡ Some c → take (n + 1) cs ≡ take n cs ++ c ∷ []
chunks_more cs n c at =
    take_more cs n c (slice_get_within cs n c at) ∙ ap (λ d. take n cs ++ d ∷ []) (get_or_from_slice_get cs n c c at)

-- the chunks that so many entries need are there
pub needed : (cs : List Chunk) (is : IsChained cs) (n : ℕ) → 64 * n < length (entries_of cs) → n < length cs
needed cs is n lt =
    let splits : 64 * n ≡ 64 * n + 0 = omega arith in
    chunk_within cs is (64 * n) n 0 splits (omega arith) lt

-- and hold them all
pub needed_all : (cs : List Chunk) (is : IsChained cs) (n : ℕ) → length (entries_of cs) ≤ 64 * n → entries_of (take n cs) ≡ entries_of cs
needed_all cs is n le = elim (cases_lt n (length cs)) [
  | inl more ↦ front_whole cs is n (64 * n) (omega arith) more ∙ take_all (64 * n) (entries_of cs) le
  | inr past ↦ ap entries_of (take_all n cs past)
]

module _ (cs ds : List Chunk) (isc : IsChained cs) (isd : IsChained ds) (n : ℕ) (c d : Chunk) (there : slice_get cs n ≡ Some c) (here : slice_get ds n ≡ Some d) where
  -- where chunk n ends
  abbrev end : ℕ
  end = 64 * n + length c.requests

  before_c : entries_of (take n cs) ≡ take (64 * n) (entries_of cs)
  before_c = front_whole cs isc n (64 * n) (omega arith) (slice_get_within cs n c there)

  before_d : entries_of (take n ds) ≡ take (64 * n) (entries_of ds)
  before_d = front_whole ds isd n (64 * n) (omega arith) (slice_get_within ds n d here)

  room : end ≤ length (entries_of cs)
  room = chunk_room cs isc n c there

  len_before : length (entries_of (take n cs)) ≡ 64 * n
  len_before = omega (arith, ap length before_c, length-take (64 * n) (entries_of cs), room)

  to_end_c : take end (entries_of cs) ≡ entries_of (take n cs) ++ c.requests
  to_end_c =
      front_to cs isc end n (length c.requests) (omega arith) c there (omega arith)
      ∙ ap (λ l. entries_of (take n cs) ++ l) (take_all (length c.requests) c.requests (omega arith))

  to_end_d : length c.requests ≤ length d.requests → take end (entries_of ds) ≡ entries_of (take n ds) ++ take (length c.requests) d.requests
  to_end_d le = front_to ds isd end n (length c.requests) (omega arith) d here le

  more : entries_of (take (n + 1) cs) ≡ entries_of (take n cs) ++ c.requests
  more = ap entries_of (chunks_more cs n c there) ∙ entries-end (take n cs) c

  len_more : length (entries_of (take (n + 1) cs)) ≡ end
  len_more = ap length more ∙ length-append (entries_of (take n cs)) c.requests ∙ ap (λ k. k + length c.requests) len_before

  -- as far as chunk n, and in it
  pub front_more : take (length (entries_of (take n cs))) (entries_of ds) ≡ entries_of (take n cs) → take (length c.requests) d.requests ≡ c.requests
      → take (length (entries_of (take (n + 1) cs))) (entries_of ds) ≡ entries_of (take (n + 1) cs)
  front_more so_far in_it =
      let le : length c.requests ≤ length d.requests = omega (arith, ap length in_it, length-take (length c.requests) d.requests) in
      let same : entries_of (take n ds) ≡ entries_of (take n cs) = before_d ∙ ap (λ k. take k (entries_of ds)) (sym len_before) ∙ so_far in
      ap (λ k. take k (entries_of ds)) len_more ∙ to_end_d le
      ∙ ap (λ l. l ++ take (length c.requests) d.requests) same ∙ ap (λ l. entries_of (take n cs) ++ l) in_it ∙ sym more

  -- a history with which another begins has its chunks
  pub front_in : take (length (entries_of cs)) (entries_of ds) ≡ entries_of cs → length (entries_of cs) ≤ length (entries_of ds) → length c.requests ≤ 64
      → take (length c.requests) d.requests ≡ c.requests
  front_in front fits small =
      let le : length c.requests ≤ length d.requests = room_in_chunk ds isd end n (length c.requests) (omega arith) d here small (omega (arith, room, fits)) in
      let as_far : (k : ℕ) → k ≤ length (entries_of cs) → take k (entries_of ds) ≡ take k (entries_of cs) =
      λ k within. sym (take-take k (length (entries_of cs)) (entries_of ds) within) ∙ ap (take k) front in
      let same : entries_of (take n ds) ≡ entries_of (take n cs) = before_d ∙ as_far (64 * n) (omega (arith, room)) ∙ sym before_c in
      append_cancel_left (entries_of (take n cs)) (take (length c.requests) d.requests) c.requests
      (ap (λ l. l ++ take (length c.requests) d.requests) (sym same) ∙ sym (to_end_d le) ∙ as_far end room ∙ to_end_c)
