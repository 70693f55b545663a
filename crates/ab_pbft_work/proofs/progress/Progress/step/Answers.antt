use Rattle.ab_lock.specs.Steps.{signs}
use Rattle.ab_pbft_work.specs.Turns.{seat_of}
use Rattle.ab_pbft_work.proofs.StepLemmas.{sign_went, later_went}
use Rattle.ab_pbft_work.proofs.progress.Progress.step.Goals as goal

pub returns-in_ok-sign-in-Some : goal.returns-in_ok-sign-in-Some
returns-in_ok-sign-in-Some c =
    sign_went (seat_of c.args.seat.now) c.args.self.now _ (signs c.args.self.now.memory.view c.args.self.now.memory.signed c.in-Some.x) c.in-Some.ensures.next c.in_ok-sign-in-Some.ensures

pub returns-in_ok-went-in-None : goal.returns-in_ok-went-in-None
returns-in_ok-went-in-None c = later_went (seat_of c.args.seat.now) c.args.self.now _ c.in_ok-went-in-None.went c.in-None.ensures.next c.in_ok-went-in-None.ensures
