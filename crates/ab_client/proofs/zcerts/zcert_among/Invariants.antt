use Rattle.std.proofs.Common.{◌≡◌, drop}
use Rattle.ab_run.specs.Asking.{zcert_among}
use Rattle.ab_client.proofs.zcerts.zcert_among.Given as goal

abbrev pub invariant-loop-b : goal.invariant-loop-b
invariant-loop-b l = zcert_among l.f l.m l.votes.ballots l.signed (drop l.b-index l.ballots) ≡ zcert_among l.f l.m l.votes.ballots l.signed l.ballots
