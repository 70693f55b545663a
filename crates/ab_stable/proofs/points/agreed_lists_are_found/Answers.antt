use Rattle.std.proofs.Common.{ℕ, ◌+◌, ◌<◌, ◌≤◌, length, arith}
use Rattle.ab_stable.proofs.FoundLists.{found_agrees, agrees_found, none_found, none_there}
use Rattle.ab_stable.proofs.points.agreed_lists_are_found.Goals as goal

pub returns : goal.returns
returns c = record {
  agrees = λ q ts t some. found_agrees q ts some t;
  found = λ q ts t half. agrees_found q ts (above_none q (length ts) half) t half;
  none = λ q ts some. (none_found q ts some, none_there q ts some);
}
  where
    above_none : (a b : ℕ) → b < a + a → 1 ≤ a
    above_none a b lt = omega (arith, lt)
