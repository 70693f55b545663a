-- Where a replica's VIEW-CHANGE, and a client's request, stands among those that are kept.
use Rattle.std.specs.Prelude.{ℕ, suc, Bool, false, ◌==◌, nat_lt, if◌then◌else◌, Option, Some, None, List, [], ◌∷◌}
use Rattle.ab_hist.specs.declared.request.Request.{Request}
use Rattle.ab_msg.specs.declared.value.Value.{Value}
use Rattle.ab_lock.specs.ViewChanges.{Kept}

-- behind the lower ones
abbrev pub place_by : ℕ → List (Kept Value) → ℕ
place_by r [] = 0
place_by r (u ∷ kept) = if nat_lt u.change.by r then suc (place_by r kept) else 0

abbrev pub is_by : ℕ → Option (Kept Value) → Bool
is_by r None = false
is_by r (Some u) = u.change.by == r

abbrev pub place_of : ℕ → List Request → ℕ
place_of client [] = 0
place_of client (m ∷ kept) = if nat_lt m.client client then suc (place_of client kept) else 0

abbrev pub is_of : ℕ → Option Request → Bool
is_of client None = false
is_of client (Some m) = m.client == client
