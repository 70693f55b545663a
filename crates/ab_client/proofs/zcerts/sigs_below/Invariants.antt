use Rattle.std.proofs.Common.{◌≡◌, map}
use Rattle.ab_run.specs.Asking.{sigs_below}
use Rattle.ab_client.proofs.zcerts.sigs_below.Given as goal

abbrev pub invariant-loop-r : goal.invariant-loop-r
invariant-loop-r l = map (λ s. (s.0, s.1.now)) l.sigs.items ≡ sigs_below l.votes.ballots l.signed l.b l.r
