use Rattle.std.proofs.Common.{◌≡◌, take, map}
use Rattle.ab_client.proofs.choices.with_kept.Given as goal

abbrev pub invariant-loop-w : goal.invariant-loop-w
invariant-loop-w l = map (λ s. s.now) l.all.items ≡ take l.w-index l.kept
