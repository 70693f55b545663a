use Rattle.std.proofs.Common.{◌≡◌, ℕ, ◌<◌, ◌≤◌, ◌^◌, min, zero, arith}
use Rattle.std.proofs.Math.Nat.{pow-le-pow_right}
use Rattle.ab_num.proofs.cluster.doubled.Goals as goal

at_most : (times : ℕ) → 4 ≤ times → 16 ≡ min 16 (2 ^ times)
at_most times four =
    let two : zero < 2 = omega arith in
    let big : 16 ≤ 2 ^ times = pow-le-pow_right two four in
    omega arith

pub returns-in_default-clause-value : goal.returns-in_default-clause-value
returns-in_default-clause-value c = at_most c.args.times (omega arith)
