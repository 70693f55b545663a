use Rattle.std.proofs.Common.{◌≡◌, ◌+◌, length}
use Rattle.ab_form.specs.Readers.{listed}
use Rattle.ab_form.proofs.list_ref.ListRef.len.Given as goal

abbrev pub invariant-parts : goal.invariant-parts
invariant-parts g l =
    (goal.iterator-parts g).can_next l.iterator' × (goal.iterator-parts g).is_finite l.iterator'
    × (l.n + length (listed g.P.Part.reader l.iterator'.count l.iterator'.bytes.now) ≡ length (listed g.P.Part.reader l.self.count l.self.bytes.now))
