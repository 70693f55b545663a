-- Entries in chunks, behind others of which the digest is known.
use Rattle.std.specs.Prelude.{◌≡◌, ℕ, ◌+◌, ◌<◌, ◌≤◌, List, [], length, take, drop, ◌++◌, slice_get, Option, None, Some}
use Rattle.ab_hist.specs.declared.request.Request.{Request}
use Rattle.ab_hist.specs.Histories.{IsHistory}
use Rattle.ab_hist.specs.Chunks.{Chunk, entries_of, digest_from}

-- the entries without the first n
abbrev pub behind : ℕ → Chunk → Chunk
behind n c = record { start = digest_from c.start (take n c.requests); requests = drop n c.requests }

-- all chunks but the last are full
pub record AreFilled (cs : List Chunk) : Type 0 where
  pub small : (n : ℕ) (c : Chunk) → slice_get cs n ≡ Some c → length c.requests ≤ 64
  pub full : (n : ℕ) (c : Chunk) → slice_get cs n ≡ Some c → n + 1 < length cs → length c.requests ≡ 64

-- each chunk begins with the digest of what stands before it, where d is that of what stands before all
abbrev pub StartFrom : List ℕ → List Chunk → Type 0
StartFrom d cs = (n : ℕ) (c : Chunk) → slice_get cs n ≡ Some c → c.start ≡ digest_from d (entries_of (take n cs))

-- they are n entries of a history
pub record IsChain (d : List ℕ) (cs : List Chunk) (n : ℕ) : Type 0 where
  pub filled : AreFilled cs
  pub starts : StartFrom d cs
  pub history : IsHistory (entries_of cs)
  pub few : length (entries_of cs) ≤ 1024
  pub len : n ≡ length (entries_of cs)

-- d is the digest of what stands before c and of its first n entries
pub record IsHidden (d : List ℕ) (c : Chunk) (n : ℕ) : Type 0 where
  pub history : IsHistory c.requests
  pub small : length c.requests ≤ 64
  pub within : n ≤ length c.requests
  pub digest : d ≡ digest_from c.start (take n c.requests)

-- the entries of a chunk without the first n, if there is a chunk
abbrev pub shown : Option Chunk → ℕ → List Request
shown None n = []
shown (Some c) n = drop n c.requests

abbrev pub IsHead : List ℕ → Option Chunk → ℕ → Type 0
IsHead d part n = (c : Chunk) → part ≡ Some c → IsHidden d c n

-- the second goes on where the first ends, and together they are at most 1,024 entries of a history
pub record AreJoined (head chain : Chunk) : Type 0 where
  pub joined : chain.start ≡ digest_from head.start head.requests
  pub history : IsHistory (head.requests ++ chain.requests)
  pub few : length head.requests + length chain.requests ≤ 1024
