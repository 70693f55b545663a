use Rattle.std.proofs.Common.{◌≡◌, drop}
use Rattle.ab_run.specs.Asking.{sig_of}
use Rattle.ab_client.proofs.zcerts.sig_of.Given as goal

abbrev pub invariant-loop-s : goal.invariant-loop-s
invariant-loop-s l = sig_of (drop l.s-index l.signed) l.r ≡ sig_of l.signed l.r
