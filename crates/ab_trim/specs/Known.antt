-- Requests that a log still knows, as it is kept.
use Rattle.std.specs.Prelude.{◌≡◌, ℕ, ◌+◌, ◌-◌, Bool, true, ◌&&◌, nat_eq, nat_lt, if◌then◌else◌, Option, None, Some, List, [], ◌∷◌, length, take, drop}
use Rattle.std.specs.List.{list_all}
use Rattle.ab_hist.specs.declared.request.Request.{Request}
use Rattle.ab_hist.specs.Requests.{request_eq}
use Rattle.ab_hist.specs.Histories.{may_follow, place_in}
use Rattle.ab_hist.specs.Trimmed.{Trimmed, StandsFor, end_of, digest_at}

-- a client's last request among the forgotten entries, with its place
pub record Last : Type 0 where
  pub place : ℕ
  pub request : Request

-- the client's last one, if the first n entries had the given one
abbrev pub last_from : ℕ → ℕ → Option Last → List Request → Option Last
last_from c n last [] = last
last_from c n last (m ∷ h) = last_from c (n + 1) (if nat_eq m.client c then Some (record { place = n + 1; request = m }) else last) h

-- the last request of client c
abbrev pub last_of : List Request → ℕ → Option Last
last_of h c = last_from c 0 None h

-- a list, and the last request of each client among the entries that it has forgotten
pub record Log : Type 0 where
  pub list : Trimmed
  pub last : ℕ → Option Last

-- h is the whole of it
pub record IsLogOf (l : Log) (h : List Request) : Type 0 where
  pub stands : StandsFor l.list h
  pub lasts : (c : ℕ) → l.last c ≡ last_of (take l.list.start h) c

abbrev pub place_of_last : Option Last → Request → Option ℕ
place_of_last None m = None
place_of_last (Some l) m = if request_eq l.request m then Some l.place else None

abbrev pub place_behind : ℕ → Option ℕ → Option ℕ → Option ℕ
place_behind n None forgotten = forgotten
place_behind n (Some x) forgotten = Some (n + x)

-- the place of m, behind the forgotten entries or as the last of its client among them
abbrev pub place_by : Log → Request → Option ℕ
place_by l m = place_behind l.list.start (place_in l.list.rest m) (place_of_last (l.last m.client) m)

abbrev pub follows_last : Option Last → Request → Bool
follows_last None m = true
follows_last (Some l) m = nat_lt l.request.stamp m.stamp

abbrev pub can_push_by : Log → Request → Bool
can_push_by l m =
    nat_lt (length l.list.rest) 1024 && (nat_lt (end_of l.list) 65535 && (list_all (may_follow m) l.list.rest && follows_last (l.last m.client) m))

-- the log forgets its first n entries
abbrev pub forget_log : ℕ → Log → Log
forget_log n l =
    record {
      list = record { start = n; digest = digest_at l.list n; rest = drop (n - l.list.start) l.list.rest };
      last = λ c. last_from c l.list.start (l.last c) (take (n - l.list.start) l.list.rest);
    }
