-- The promises, from the premises on acts.
use Rattle.std.specs.Prelude.{ℕ, Bool, IsTrue, List}
use Rattle.ab_num.specs.declared.party.Party.{Party}
use Rattle.ab_lock.specs.Quorums.{TracePremises}
use Rattle.ab_lock.specs.Acts.{LockAct, steps_of}
use Rattle.ab_lock.specs.Promises.{LockPremises, ViewsLock, ExecutedAgree, ExecutedMayStand}
use Rattle.ab_lock.proofs.ActLemmas.{premises_of}
use Rattle.ab_lock.proofs.Executed.{lock, executed_comparable, executed_source}

module _ {V X : Type 0} (digest : V → X) (may_stand : ℕ → V → Bool) (goes : List V → V → Bool) (k f : ℕ) (faulty : List Party) (acts : List (LockAct V X)) (met : LockPremises digest may_stand goes k f faulty acts) where
  abbrev Source : ℕ → V → Type 0
  Source n value = IsTrue (may_stand n value)

  premises : TracePremises digest f faulty (steps_of acts) Source goes k
  premises = premises_of digest f faulty acts met.honest Source goes k met.few met.lawful met.apart

  pub views_lock : ViewsLock f faulty acts digest
  views_lock = lock digest f faulty (steps_of acts) Source goes k premises

  pub executed_agree : ExecutedAgree f faulty acts
  executed_agree = executed_comparable digest f faulty (steps_of acts) Source goes k premises

  pub executed_may_stand : ExecutedMayStand f faulty acts may_stand
  executed_may_stand = executed_source digest f faulty (steps_of acts) Source goes k premises
