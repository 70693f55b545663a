use Rattle.std.proofs.Common.{◌≡◌, ◌+◌, ◌≤◌, length}
use Rattle.ab_check.specs.Checks.{checked_from}
use Rattle.ab_check.proofs.checking.check_each.Given as goal

abbrev pub invariant-checks : goal.invariant-checks
invariant-checks g l =
    (goal.iterator-checks g).can_next l.check-iterator × (goal.iterator-checks g).is_finite l.check-iterator
    × (l.place + length l.check-iterator ≤ 4294967295)
    × (checked_from (g.C.Checker.judge l.fn.c) l.place l.check-iterator ≡ checked_from (g.C.Checker.judge l.fn.c) 0 l.fn.checks)
    × (g.C.Checker.judge l.c ≡ g.C.Checker.judge l.fn.c)
