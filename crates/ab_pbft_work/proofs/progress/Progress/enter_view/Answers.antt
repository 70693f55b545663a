use Rattle.ab_pbft_work.specs.Turns.{seat_of, enters_from}
use Rattle.ab_pbft_work.proofs.progress.Progress.enter_view.Goals as goal

pub returns : goal.returns
returns c = λ w shows. c.in_ok-propose.ensures (enters_from (seat_of c.args.seat.now) c.args.view c.args.changes.now w) (c.in_ok-enter.ensures (seat_of c.args.seat.now) c.args.changes.now c.in_ok-accepted.ensures w shows)
