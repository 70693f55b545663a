use Rattle.std.proofs.Common.{◌+◌, ◌*◌}
use Rattle.ab_pbft_work.specs.Turns.{seat_of}
use Rattle.ab_pbft_work.proofs.StepLemmas.{GoesOn}
use Rattle.ab_pbft_work.proofs.progress.Progress.settle.Given as goal

abbrev pub invariant-steps : goal.invariant-steps
invariant-steps l = GoesOn (seat_of l.seat) (3 * (l.seat.k + 1) + 1) l._n l.fn.self l.self
