use Rattle.std.proofs.Common.{◌≡◌, ◌≤◌, ◌-◌, ◌++◌, map}
use Rattle.std.specs.List.{range_with_len}
use Rattle.ab_cast.proofs.setup.add_twins.Given as goal

abbrev pub invariant-loop-earlier : goal.invariant-loop-earlier
invariant-loop-earlier g l =
    record {
      added : l.twins.items ≡ l.fn.twins.items ++ map (λ twin. (l.number, twin)) (range_with_len 2 (l.earlier - 1));
      first : 1 ≤ l.earlier;
      within : l.earlier - 1 ≤ l.cores - 1;
    }
