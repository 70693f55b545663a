use Rattle.std.proofs.Common.{◌≡◌, ◌*◌, ◌≤◌}
use Rattle.ab_lms.specs.OneTime.{checksum}
use Rattle.ab_lms.proofs.one_time.checksum.Given as goal

abbrev pub invariant-digits : goal.invariant-digits
invariant-digits l = (l.sum ≡ checksum l.digest l.i) × (l.sum ≤ 15 * l.i)
