-- The CHECKPOINTs that a replica keeps: of each replica the one of the most entries; which one is due, and what is stable.
use Rattle.std.specs.Prelude.{◌≡◌, ℕ, zero, suc, ◌+◌, ◌*◌, ◌/◌, ◌<◌, ◌≤◌, Bool, true, false, ◌&&◌, ◌||◌, nat_eq, nat_le, nat_lt, if◌then◌else◌, Option, None, Some, List, [], ◌∷◌, Contains, length, take}
use Rattle.std.specs.List.{list_any}
use Rattle.std.specs.Str.{bytes_eq}
use Rattle.ab_hist.specs.declared.request.Request.{Request}
use Rattle.ab_hist.specs.Digests.{digest_of}

-- a replica's CHECKPOINT of its first n entries, which have the digest d
pub record Mark : Type 0 where
  pub by : ℕ
  pub n : ℕ
  pub d : List ℕ

-- those of this instance, one replica's after another's, and for how many entries the own last one was sent
pub record KeptMarks : Type 0 where
  pub marks : List Mark
  pub sent : ℕ

-- none yet
abbrev pub no_marks : KeptMarks
no_marks = record { marks = []; sent = 0 }

-- at most one of each replica, in the order of the replicas, none of these below r
abbrev pub AreByReplica : ℕ → List Mark → Type 0
AreByReplica r [] = Unit {0}
AreByReplica r (k ∷ kept) = (r ≤ k.by) × AreByReplica (k.by + 1) kept

-- that of replica r
abbrev pub mark_by : ℕ → List Mark → Option Mark
mark_by r [] = None
mark_by r (k ∷ kept) = if nat_eq k.by r then Some k else mark_by r kept

-- v if it is of more entries than k is, else k
abbrev pub later_mark : Mark → Mark → Mark
later_mark v k = if nat_lt k.n v.n then v else k

-- v comes to those that are kept: it takes the place of its replica's, if it is of more entries
abbrev pub keep_mark : Mark → List Mark → List Mark
keep_mark v [] = v ∷ []
keep_mark v (k ∷ kept) =
    if nat_eq k.by v.by then later_mark v k ∷ kept
    else if nat_lt v.by k.by then v ∷ k ∷ kept
    else k ∷ keep_mark v kept

-- the same of one replica
abbrev pub later_of : Mark → Option Mark → Option Mark
later_of v None = Some v
later_of v (Some k) = Some (later_mark v k)

-- ---- what is due, and what is stable

-- of how many of len entries a CHECKPOINT is due, if each `every` entries are to have one: the replica isn't stopped, and of so many
-- entries none was sent, nor are so many trimmed
abbrev pub due_of : ℕ → Bool → ℕ → ℕ → ℕ → Option ℕ
due_of every stopped sent trimmed len =
    if nat_eq every 0 || (stopped || (nat_le (every * (len / every)) trimmed || nat_le (every * (len / every)) sent))
    then None
    else Some (every * (len / every))

-- a CHECKPOINT of replica r of these entries is kept
abbrev pub has_mark : ℕ → List ℕ → ℕ → List Mark → Bool
has_mark n d r kept = list_any (λ v. nat_eq v.by r && (nat_eq v.n n && bytes_eq v.d d)) kept

-- those of the replicas below k are all of these entries
abbrev pub all_have : ℕ → List ℕ → ℕ → List Mark → Bool
all_have n d zero kept = true
all_have n d (suc k) kept = has_mark n d k kept && all_have n d k kept

-- the log has n entries or more, and d is the digest of its first n
abbrev pub is_front : List Request → ℕ → List ℕ → Bool
is_front log n d = nat_le n (length log) && bytes_eq (digest_of (take n log)) d

-- the first n entries of the log are stable: they aren't all trimmed, and the CHECKPOINT of each replica is of them
abbrev pub is_stable : ℕ → ℕ → List Request → ℕ → List ℕ → List Mark → Bool
is_stable replicas trimmed log n d kept = nat_lt trimmed n && (is_front log n d && all_have n d replicas kept)

abbrev pub stable_by : ℕ → ℕ → List Request → List Mark → Option Mark → Option ℕ
stable_by replicas trimmed log marks None = None
stable_by replicas trimmed log marks (Some v) = if is_stable replicas trimmed log v.n v.d marks then Some v.n else None

-- how many first entries of the log are stable. If there are some, replica 0's CHECKPOINT tells how many
abbrev pub stable_of : ℕ → ℕ → List Request → List Mark → Option ℕ
stable_of replicas trimmed log marks = stable_by replicas trimmed log marks (mark_by 0 marks)

-- they begin the log, they aren't all trimmed, and each replica's CHECKPOINT is of them
pub record AreStable (replicas trimmed : ℕ) (log : List Request) (marks : List Mark) (n : ℕ) : Type 0 where
  pub more : trimmed < n
  pub within : n ≤ length log
  pub marked : (r : ℕ) → r < replicas → Contains marks (record { by = r; n = n; d = digest_of (take n log) })

-- ---- slots

-- the marks of those slots that have one; the first slot is replica r's
abbrev pub marks_from : ℕ → List (Option (ℕ × List ℕ)) → List Mark
marks_from r [] = []
marks_from r (None ∷ slots) = marks_from (r + 1) slots
marks_from r (Some p ∷ slots) = record { by = r; n = p.0; d = p.1 } ∷ marks_from (r + 1) slots

-- n is more than the number in a slot
abbrev pub is_more : ℕ → Option (ℕ × List ℕ) → Bool
is_more n None = true
is_more n (Some p) = nat_lt p.0 n

-- a slot has this number and this digest
abbrev pub is_point : ℕ → List ℕ → Option (ℕ × List ℕ) → Bool
is_point n d None = false
is_point n d (Some p) = nat_eq p.0 n && bytes_eq p.1 d
