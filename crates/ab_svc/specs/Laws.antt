-- What echo replies is short.
use Rattle.std.proofs.Common.{◌≤◌, length, arith}
use Rattle.std.proofs.lemmas.List.{length-take}
use Rattle.ab_hist.specs.declared.request.Request.{Request}
use Rattle.ab_svc.specs.Echoes.{echo_of}

pub short_law : (m : Request) → length (echo_of m).items ≤ 72
unfolding echo_of
short_law m = omega (arith, length-take 72 m.command.items)
