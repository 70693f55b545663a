use Rattle.ab_pbft_work.specs.Turns.{seat_of, offers_all}
use Rattle.ab_pbft_work.proofs.progress.Progress.propose.Goals as goal

pub returns : goal.returns
returns c = λ w shows. c.in_ok-settle.ensures (offers_all (seat_of c.args.seat.now) w) (c.in_ok-offer_all.ensures w shows)
