use Rattle.std.proofs.Common.{◌≡◌, take}
use Rattle.ab_lock.specs.Quorums.{quorum}
use Rattle.ab_pbft_shelf.specs.Shelves.{signers_below}
use Rattle.ab_pbft_shelf.proofs.ballots.first_signers.Given as goal

abbrev pub invariant-loop-by : goal.invariant-loop-by
invariant-loop-by l = l.made.items ≡ take (quorum l.c.f) (signers_below l.by l.slot l.x l.ballots)
