use Rattle.std.proofs.Common.{◌≡◌, Some, None}
use Rattle.std.specs.Prelude.{if◌then◌else◌}
use Rattle.ab_content.specs.Views.{history}
use Rattle.ab_wire.specs.Views.{aborts}
use Rattle.ab_extract.specs.Certs.{all_state}
use Rattle.ab_extract.specs.Causes.{one_log}
use Rattle.ab_extract.proofs.logs.one_log.Given as goal

abbrev pub invariant-others : goal.invariant-others
invariant-others l =
    (goal.iterator-others).can_next l.other-iterator × (goal.iterator-others).is_finite l.other-iterator
    × ((if all_state (history l.log) (aborts l.other-iterator) then Some (history l.log) else None) ≡ one_log (aborts l.cert))
