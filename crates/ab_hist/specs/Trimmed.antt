-- A history of which only the digest of the first entries is kept.
use Rattle.std.specs.Prelude.{◌≡◌, ℕ, ◌+◌, ◌-◌, ◌≤◌, Bool, ◌&&◌, nat_le, nat_lt, if◌then◌else◌, Option, None, Some, List, ◌∷◌, ◌++◌, length, take, drop, fold, replicate}
use Rattle.std.specs.Str.{bytes_eq}
use Rattle.ab_hist.specs.declared.request.Request.{Request}
use Rattle.ab_hist.specs.Digests.{link, digest_of}

-- the first `start` entries are forgotten but for their digest; the rest is there
pub record Trimmed : Type 0 where
  pub start : ℕ
  pub digest : List ℕ
  pub rest : List Request

-- a history of which nothing is forgotten
abbrev pub untrimmed : List Request → Trimmed
untrimmed h = record { start = 0; digest = replicate 32 0; rest = h }

-- the history without its first n entries
abbrev pub trim : ℕ → List Request → Trimmed
trim n h = record { start = n; digest = digest_of (take n h); rest = drop n h }

-- h has `start` entries with that digest, and then the rest
pub record StandsFor (t : Trimmed) (h : List Request) : Type 0 where
  pub reaches : t.start ≤ length h
  pub digest : digest_of (take t.start h) ≡ t.digest
  pub rest : drop t.start h ≡ t.rest

-- how many entries the list has, with those that it has forgotten
abbrev pub end_of : Trimmed → ℕ
end_of t = t.start + length t.rest

-- the digest that d comes to by these entries
abbrev pub linked_from : List ℕ → List Request → List ℕ
linked_from d h = fold link d h

-- the digest of the first n entries, if at least those that are forgotten are among them
abbrev pub digest_at : Trimmed → ℕ → List ℕ
digest_at t n = linked_from t.digest (take (n - t.start) t.rest)

-- the list shows that its first n entries have the digest d
pub record Holds (t : Trimmed) (n : ℕ) (d : List ℕ) : Type 0 where
  pub shown : t.start ≤ n
  pub within : n ≤ end_of t
  pub digest : digest_at t n ≡ d

-- the same as a test
abbrev pub holds : ℕ → List ℕ → Trimmed → Bool
holds n d t = nat_le t.start n && (nat_le n (end_of t) && bytes_eq (digest_at t n) d)

-- the list forgets its first n entries, and keeps its first n
abbrev pub forget : ℕ → Trimmed → Trimmed
forget n t = record { start = n; digest = digest_at t n; rest = drop (n - t.start) t.rest }

abbrev pub cut : ℕ → Trimmed → Trimmed
cut n t = record { start = t.start; digest = t.digest; rest = take (n - t.start) t.rest }

-- the list with one more entry
abbrev pub push : Trimmed → Request → Trimmed
push t m = record { start = t.start; digest = t.digest; rest = t.rest ++ m ∷ List.[] }

-- the history for which the list stands, if its forgotten entries are the first of h
abbrev pub whole_by : List Request → Trimmed → List Request
whole_by h t = take t.start h ++ t.rest

-- an offered list by a replica's own one: the same history, with the more forgotten of the two beginnings. None if neither
-- list shows where the other begins
abbrev pub grounded : Trimmed → Trimmed → Option Trimmed
grounded own t =
    if holds t.start t.digest own
    then Some t
    else if nat_lt t.start own.start && holds own.start own.digest t
    then Some (forget own.start t)
    else None
