use Rattle.std.proofs.Common.{◌≡◌, map, take}
use Rattle.ab_client.proofs.zcerts.own_sigs.Given as goal

abbrev pub invariant-loop-s : goal.invariant-loop-s
invariant-loop-s l = l.own.items ≡ map (λ s. (s.0, s.1.now)) (take l.s-index l.sigs)
