use Rattle.std.proofs.Common.{◌-◌, ◌≤◌}
use Rattle.ab_journal.specs.Journals.{Keeps}
use Rattle.ab_journal.proofs.ListLemmas.{ListedSoFar}
use Rattle.ab_journal.proofs.journal.Journal.bodies.Given as goal

abbrev pub invariant-entries : goal.invariant-entries
invariant-entries g l = record {
  within : l.at ≤ l.end;
  listed : ListedSoFar (g.D.Disk.model.seen l.fn.disk) l.end l.at l.bodies.items;
  keeps : Keeps g.D.Disk.model l.fn.disk l.disk;
  later : g.D.Disk.model.faults l.fn.disk ≤ g.D.Disk.model.faults l.disk;
}

abbrev pub decreases-entries : goal.decreases-entries
decreases-entries g l = l.end - l.at
