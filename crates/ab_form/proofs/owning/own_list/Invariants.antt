use Rattle.std.proofs.Common.{◌≡◌, ◌++◌, map}
use Rattle.ab_form.specs.Readers.{listed}
use Rattle.ab_form.proofs.owning.own_list.Given as goal

abbrev pub invariant-parts : goal.invariant-parts
invariant-parts g l =
    (goal.iterator-parts g).can_next l.part-iterator × (goal.iterator-parts g).is_finite l.part-iterator
    × (map g.P.Part.shown l.all.items ++ listed g.P.Part.reader l.part-iterator.count l.part-iterator.bytes.now ≡ listed g.P.Part.reader l.fn.list.count l.fn.list.bytes.now)
