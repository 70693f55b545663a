-- Requests that a log still knows if its first entries count as forgotten.
use Rattle.std.specs.Prelude.{ℕ, ◌+◌, Bool, not, ◌||◌, ◌&&◌, nat_eq, nat_le, nat_lt, if◌then◌else◌, Option, None, List, length, take}
use Rattle.std.specs.List.{list_all}
use Rattle.ab_hist.specs.declared.request.Request.{Request}
use Rattle.ab_hist.specs.Histories.{may_follow, place_in}

-- an entry isn't of m's client and later than m
abbrev pub is_no_later : Request → Request → Bool
is_no_later m e = not (nat_eq e.client m.client) || nat_le e.stamp m.stamp

-- none of the first n entries is of m's client and later than m
abbrev pub is_latest : ℕ → List Request → Request → Bool
is_latest n h m = list_all (is_no_later m) (take n h)

-- the place of a request that is known: it stands behind the first n, or is the last of its client among them
abbrev pub known_place : ℕ → List Request → Request → Option ℕ
known_place n h m = if is_latest n h m then place_in h m else None

-- there is room for m behind the forgotten entries, and m may come next
abbrev pub can_push_after : ℕ → List Request → Request → Bool
can_push_after n h m = nat_lt (length h) (n + 1024) && (nat_lt (length h) 65535 && list_all (may_follow m) h)
