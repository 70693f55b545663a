-- The list that enough lists agree on, computed: the points of each list are walked, and the one that stands behind most entries is kept.
use Rattle.std.specs.Prelude.{ℕ, zero, suc, ◌+◌, Bool, true, ◌&&◌, nat_le, nat_lt, if◌then◌else◌, Option, None, Some, List, [], ◌∷◌, length}
use Rattle.std.specs.Option.{option_map}
use Rattle.ab_hist.specs.Trimmed.{Trimmed, digest_at, cut}
use Rattle.ab_trim.specs.Points.{point_holders, least_holder}

-- a number of entries, and their digest
pub record Point : Type 0 where
  pub number : ℕ
  pub digest : List ℕ

-- the point that the list shows behind n of its rest
abbrev pub point_of : Trimmed → ℕ → Point
point_of t n = record { number = t.start + n; digest = digest_at t (t.start + n) }

abbrev pub is_beyond : ℕ → Option Point → Bool
is_beyond n None = true
is_beyond n (Some p) = nat_lt p.number n

-- p if enough lists hold it and it has more entries than the best so far, else that
abbrev pub farther : ℕ → List Trimmed → Point → Option Point → Option Point
farther q ts p best = if nat_le q (point_holders ts p.number p.digest) && is_beyond p.number best then Some p else best

-- the best of the points of t up to that behind n of its rest, and one that is given
abbrev pub best_point : ℕ → List Trimmed → Trimmed → ℕ → Option Point → Option Point
best_point q ts t zero best = farther q ts (point_of t 0) best
best_point q ts t (suc n) best = farther q ts (point_of t (suc n)) (best_point q ts t n best)

-- the best of all points of these lists, and one that is given
abbrev pub best_along : ℕ → List Trimmed → List Trimmed → Option Point → Option Point
best_along q ts [] best = best
best_along q ts (t ∷ more) best = best_along q ts more (best_point q ts t (length t.rest) best)

-- up to that point, the holder of it that has forgotten the least
abbrev pub agreed_at : List Trimmed → Option Point → Option Trimmed
agreed_at ts None = None
agreed_at ts (Some p) = option_map (cut p.number) (least_holder p.number p.digest ts)

-- what at least q of the lists agree on, None if no point has so many holders
abbrev pub agreed_list : ℕ → List Trimmed → Option Trimmed
agreed_list q ts = agreed_at ts (best_along q ts ts None)
