use Rattle.std.proofs.Common.{◌≡◌, ◌++◌, take, drop}
use Rattle.ab_msg.specs.declared.signed.Signed.{Signed}
use Rattle.ab_run.specs.Clients.{keep}
use Rattle.ab_client.proofs.certs.place_for.Given as goal

abbrev pub invariant-loop-i : goal.invariant-loop-i
invariant-loop-i l = (v : Signed) → v.maker ≡ l.maker → keep v l.kept ≡ take l.i l.kept ++ keep v (drop l.i l.kept)
