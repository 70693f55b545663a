use Rattle.std.proofs.Common.{arith, length, ap}
use Rattle.ab_form.proofs.ListLemmas.{listed-few}
use Rattle.ab_form.proofs.list_ref.ListRef.len.Goals as goal

pub overflow_add-n : goal.overflow_add-n
overflow_add-n g c =
    let few = listed-few g.P.Part.reader c.args.self.now.count c.args.self.now.bytes.now in
    let step = ap length c.in-Some.ensures.steps.0 in
    omega (arith, few, step, c.parts.invariant.2)
