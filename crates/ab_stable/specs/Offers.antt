-- What a certificate brings to a replica if some of its ABORTs state trimmed logs, or if the replica's own log is trimmed.
use Rattle.std.specs.Prelude.{ℕ, ◌+◌, ◌*◌, Bool, true, false, not, ◌==◌, ◌&&◌, nat_lt, if◌then◌else◌, Option, None, Some, List, [], ◌∷◌, ◌++◌, length, map, take, unwrap_or}
use Rattle.std.specs.List.{list_all, list_any}
use Rattle.std.specs.Option.{option_map}
use Rattle.ab_num.specs.declared.cluster.Cluster.{Cluster}
use Rattle.ab_num.specs.declared.plan.Kind.{Kind}
use Rattle.ab_num.specs.declared.plan.Kind.TheVariants as kind
use Rattle.ab_num.specs.Places.{kind_of}
use Rattle.ab_num.specs.declared.party.Party.TheVariants.{Replica}
use Rattle.ab_hist.specs.declared.request.Request.{Request}
use Rattle.ab_hist.specs.Digests.{digest_of}
use Rattle.ab_hist.specs.Histories.{may_follow}
use Rattle.ab_hist.specs.Trimmed.{Trimmed, untrimmed, trim, holds, grounded}
use Rattle.ab_msg.specs.declared.content.Content.{Content}
use Rattle.ab_msg.specs.declared.content.Content.TheVariants.{Abort, TrimmedAbort}
use Rattle.ab_msg.specs.declared.signed.Signed.{Signed}
use Rattle.ab_abs.specs.Certificates.{are_apart, history_of}
use Rattle.ab_stable.specs.AgreedLists.{agreed_list}
use Rattle.ab_stable.specs.Certs.{Stated, lists_of}

-- whether replicas make CHECKPOINTs, and trim their logs, in instances of this kind
abbrev pub makes_checkpoints : Kind → Bool
makes_checkpoints kind.Quorum = true
makes_checkpoints kind.ZLight = true
makes_checkpoints kind.Chain = true
makes_checkpoints kind.Backup = false
makes_checkpoints kind.ZCert = false

abbrev pub is_trimmed : Content → Bool
is_trimmed (TrimmedAbort maker i start digest rest) = true
is_trimmed _ = false

-- each ABORT states a whole log
abbrev pub are_whole : List Signed → Bool
are_whole cert = not (list_any (λ s. is_trimmed s.content) cert)

-- the list that an ABORT of instance j states
abbrev pub list_stated : Cluster → ℕ → Content → Option Stated
list_stated c j (Abort (Replica r) i h) = if (i == j) && nat_lt r (3 * c.f + 1) then Some (record { by = r; list = untrimmed h }) else None
list_stated c j (TrimmedAbort (Replica r) i n d rest) =
    if (i == j) && nat_lt r (3 * c.f + 1) then Some (record { by = r; list = record { start = n; digest = d; rest = rest } }) else None
list_stated c j _ = None

abbrev pub with_stated : Option Stated → Option (List Stated) → Option (List Stated)
with_stated None more = None
with_stated (Some v) None = None
with_stated (Some v) (Some votes) = Some (v ∷ votes)

-- all that stands in it, if these are such ABORTs alone
abbrev pub all_stated : Cluster → ℕ → List Signed → Option (List Stated)
all_stated c j [] = Some []
all_stated c j (s ∷ cert) = with_stated (list_stated c j s.content) (all_stated c j cert)

-- the lists of 2f + 1 distinct replicas
abbrev pub are_enough : ℕ → List Stated → Bool
are_enough f votes = (length votes == (2 * f + 1)) && are_apart (map (λ v. v.by) votes)

abbrev pub agreed_on : ℕ → Option (List Stated) → Option Trimmed
agreed_on f None = None
agreed_on f (Some votes) = if are_enough f votes then agreed_list (f + 1) (lists_of votes) else None

-- the list that a certificate of instance j agrees on. None if it isn't valid, or if no point has f + 1 holders
abbrev pub list_of : Cluster → ℕ → List Signed → Option Trimmed
list_of c j cert = if makes_checkpoints (kind_of c.plan j) then agreed_on c.f (all_stated c j cert) else None

-- the list that a certificate of instance j brings: its history, if each ABORT states a whole log
abbrev pub list_in : Cluster → ℕ → List Signed → Option Trimmed
list_in c j cert = if are_whole cert then option_map untrimmed (history_of c j cert) else list_of c j cert

abbrev pub start_of : Option Trimmed → ℕ
start_of None = 0
start_of (Some t) = t.start

-- how many first entries that list has forgotten
abbrev pub offered_start : Cluster → ℕ → List Signed → ℕ
offered_start c j cert = if are_whole cert then 0 else start_of (list_of c j cert)

-- ---- the same by a replica's own log

-- the history with which a replica enters an instance, and how many of its first entries are trimmed
pub record Based : Type 0 where
  pub base : List Request
  pub trimmed : ℕ

-- behind h the stamps of each client rise strictly
abbrev pub rises_behind : List Request → List Request → Bool
rises_behind h [] = true
rises_behind h (m ∷ more) = list_all (may_follow m) h && rises_behind (h ++ m ∷ []) more

abbrev pub trimmed_at : ℕ → List Request → Option Based
trimmed_at n h = if rises_behind [] h then Some (record { base = h; trimmed = n }) else None

-- a list that is grounded: what it has forgotten is known by the own log, and the stamps rise
abbrev pub known_by : List Request → Option Trimmed → Option Based
known_by own None = None
known_by own (Some t) = trimmed_at t.start (take t.start own ++ t.rest)

-- a list by a log of which the first k entries are trimmed
abbrev pub based_on_list : ℕ → List Request → Option Trimmed → Option Based
based_on_list k own None = None
based_on_list k own (Some t) = known_by own (grounded (trim k own) t)

-- a whole history by such a log: it begins with what is trimmed
abbrev pub based_on_whole : ℕ → List Request → Option (List Request) → Option Based
based_on_whole k own None = None
based_on_whole k own (Some h) = if holds k (digest_of (take k own)) (untrimmed h) then Some (record { base = h; trimmed = k }) else None

-- what a certificate of instance j brings to a replica with such a log. None if it isn't valid, or isn't grounded
abbrev pub offered_by : Cluster → ℕ → List Request → ℕ → List Signed → Option Based
offered_by c k own j cert = if are_whole cert then based_on_whole k own (history_of c j cert) else based_on_list k own (list_of c j cert)

-- ---- the whole certificate that stands for it among acts

-- the votes in it
abbrev pub votes_in : Cluster → ℕ → List Signed → List Stated
votes_in c j cert = unwrap_or (all_stated c j cert) []

-- the whole log that stands for a vote, if the certificate's history is h: a correct replica's own; of a faulty one's h if its list ends
-- there or passes through, and else nothing
abbrev pub whole_log : (ℕ → Bool) → (ℕ → List Request) → List Request → Stated → List Request
whole_log bad log h v = if bad v.by then (if holds (length h) (digest_of h) v.list then h else []) else log v.by
