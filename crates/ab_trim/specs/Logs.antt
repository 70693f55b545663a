-- Logs as they are kept: trimmed lists, and the last requests of at most 16 clients.
use Rattle.std.specs.Prelude.{◌≡◌, ℕ, ◌+◌, ◌-◌, ◌<◌, ◌≤◌, List, [], ◌∷◌, All, length, take, set, get_or, replicate, Option, None, Some, ◌⊎◌, Bool, ◌&&◌}
use Rattle.std.specs.List.{list_all}
use Rattle.ab_hist.specs.declared.request.Request.{Request}
use Rattle.ab_hist.specs.Histories.{IsHistory, may_follow}
use Rattle.ab_hist.specs.Chunks.{Chunk}
use Rattle.ab_hist.specs.Trimmed.{Trimmed, end_of, forget, cut, push, grounded}
use Rattle.ab_trim.specs.Known.{Log, Last, follows_last}

-- a list, and for each client the last of its requests that the list has forgotten, with its place
pub record TrimmedLog : Type 0 where
  pub list : Trimmed
  pub lasts : List (Option (ℕ × Request))

abbrev pub as_last : Option (ℕ × Request) → Option Last
as_last None = None
as_last (Some l) = Some (record { place = l.0; request = l.1 })

-- the last request of client c
abbrev pub last_at : List (Option (ℕ × Request)) → ℕ → Option Last
last_at lasts c = as_last (get_or lasts c None)

-- the log as laws speak of it
abbrev pub log_of : TrimmedLog → Log
log_of l = record { list = l.list; last = last_at l.lasts }

-- none of 16 clients has a request that is forgotten
abbrev pub no_lasts : List (Option (ℕ × Request))
no_lasts = replicate 16 None

-- the last requests, after the requests h that stand behind place n
abbrev pub noted : ℕ → List Request → List (Option (ℕ × Request)) → List (Option (ℕ × Request))
noted n [] lasts = lasts
noted n (m ∷ h) lasts = noted (n + 1) h (set lasts m.client (Some (n + 1, m)))

-- what is kept of the last requests while there is no entry is left out
abbrev pub padded : List (Option (ℕ × Request)) → List (Option (ℕ × Request))
padded [] = no_lasts
padded (l ∷ lasts) = l ∷ lasts

-- the log with nothing behind n forgotten entries
abbrev pub begun_log : ℕ → List ℕ → TrimmedLog
begun_log n d = record { list = record { start = n; digest = d; rest = [] }; lasts = no_lasts }

-- the log with one more entry, and with the first n
abbrev pub push_log : TrimmedLog → Request → TrimmedLog
push_log l m = record { list = push l.list m; lasts = l.lasts }

abbrev pub cut_log : ℕ → TrimmedLog → TrimmedLog
cut_log n l = record { list = cut n l.list; lasts = l.lasts }

-- the last requests of the log as far as its first n entries
abbrev pub lasts_to : ℕ → TrimmedLog → List (Option (ℕ × Request))
lasts_to n l = noted l.list.start (take (n - l.list.start) l.list.rest) l.lasts

-- the log without its first n entries
abbrev pub trim_log : ℕ → TrimmedLog → TrimmedLog
trim_log n l = record { list = forget n l.list; lasts = lasts_to n l }

-- the offered list by the own one, with the own last requests
abbrev pub with_lasts : TrimmedLog → Option Trimmed → Option TrimmedLog
with_lasts own None = None
with_lasts own (Some t) = Some (record { list = t; lasts = lasts_to t.start own })

abbrev pub grounded_log : TrimmedLog → Trimmed → Option TrimmedLog
grounded_log own t = with_lasts own (grounded own.list t)

-- the stamp of m is above those of its client
abbrev pub follows_by : TrimmedLog → Request → Bool
follows_by l m = list_all (may_follow m) l.list.rest && follows_last (last_at l.lasts m.client) m

-- no request can be added
abbrev pub IsFull : Trimmed → Type 0
IsFull t = (1024 ≤ length t.rest) ⊎ (65535 ≤ end_of t)

-- how a log is kept: entries behind n, of clients that have a place among the last requests
pub record IsTrimmed (n : ℕ) (rest : Chunk) (lasts : List (Option (ℕ × Request))) : Type 0 where
  pub history : IsHistory rest.requests
  pub few : length rest.requests ≤ 1024
  pub within : n + length rest.requests ≤ 65535
  pub clients : All (λ m. m.client < 16) rest.requests
  pub room : 0 < length rest.requests → length lasts ≡ 16
  pub each : 0 < length lasts → length lasts ≡ 16
