use Rattle.std.proofs.Common.{◌≡◌, ◌-◌, length}
use Rattle.ab_lms.specs.OneTime.{chain}
use Rattle.ab_lms.proofs.one_time.chain.Given as goal

abbrev pub invariant-steps : goal.invariant-steps
invariant-steps l = (length l.value ≡ 32) × (l.value ≡ chain l.id l.q l.i l.from (l.j - l.from) l.start)
