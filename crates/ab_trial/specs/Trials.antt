-- A service beside a log.
use Rattle.std.specs.Prelude.{◌≡◌, ◌≤◌, ℕ, List, length, take}
use Rattle.ab_hist.specs.declared.request.Request.{Request}
use Rattle.ab_svc.specs.Machines.{Machine, serve}

-- it has executed the first so many requests of the log
pub record HasServed {S : Type 0} (machine : Machine S) (log : List Request) (served : ℕ) (state : S) : Type 0 where
  pub within : served ≤ length log
  pub reached : state ≡ serve machine (take served log)
