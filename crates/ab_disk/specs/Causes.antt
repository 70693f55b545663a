-- A disk's count of faults, and what it says of an answer.
use Rattle.std.specs.Prelude.{ℕ, ◌≤◌, Result, IfErr, OnErr}
use Rattle.ab_io.specs.declared.fault.Failed.{Failed}
use Rattle.ab_io.specs.declared.fault.Refused.{Refused}
use Rattle.ab_io.specs.Causes.{RefusalCause, Rose}

-- the count never falls, and a fault is answered only where it has risen
pub record HasCause {T : Type 0} (before now : ℕ) (result : Result T Failed) : Type 0 where
  pub later : before ≤ now
  pub failed : OnErr result (Rose before now)

-- the count never falls, and stands behind each refusal
pub record HasRefusalCause {T : Type 0} (before now : ℕ) (result : Result T Refused) : Type 0 where
  pub later : before ≤ now
  pub refused : IfErr result (λ why. RefusalCause why before now)
