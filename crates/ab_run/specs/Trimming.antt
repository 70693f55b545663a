-- What a replica trims.
use Rattle.std.specs.Prelude.{◌≡◌, ℕ, ◌≤◌, List, length, take}
use Rattle.ab_hist.specs.declared.request.Request.{Request}

-- the first n entries of a replica's own log begin another's
pub record IsCommon (n : ℕ) (own other : List Request) : Type 0 where
  pub reaches : n ≤ length other
  pub same : take n other ≡ take n own
