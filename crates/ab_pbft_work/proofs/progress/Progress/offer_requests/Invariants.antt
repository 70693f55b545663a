use Rattle.std.proofs.Common.{suc}
use Rattle.ab_pbft_work.specs.Turns.{seat_of}
use Rattle.ab_pbft_work.proofs.RuleLemmas.{OffersOn}
use Rattle.ab_pbft_work.proofs.progress.Progress.offer_requests.Given as goal

abbrev pub invariant-slots : goal.invariant-slots
invariant-slots l = OffersOn (seat_of l.seat) (suc l.seat.k) l._n l.fn.self l.self
