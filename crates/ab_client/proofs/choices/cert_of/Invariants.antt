use Rattle.std.proofs.Common.{◌≡◌, take, map}
use Rattle.ab_client.proofs.choices.cert_of.Given as goal

abbrev pub invariant-loop-s : goal.invariant-loop-s
invariant-loop-s l = l.own.items ≡ map (λ s. s.now) (take l.s-index l.aborts)
