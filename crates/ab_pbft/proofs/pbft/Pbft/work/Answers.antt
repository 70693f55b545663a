use Rattle.std.proofs.Common.{◌∙◌, refl, ap, arith, rules}
use Rattle.std.proofs.lemmas.Result.{err_from_is_err_and}
use Rattle.ab_abs.specs.declared.protocol.StepFault.TheVariants.{Spent}
use Rattle.ab_slots.specs.Inputs.{input_of}
use Rattle.ab_pbft_work.specs.Turns.{seat_of, memory_of}
use Rattle.ab_pbft_shelf.specs.Signing.{Signing}
use Rattle.ab_pbft.proofs.Working.{same_fault, view_risen, worked, signs_as}
use Rattle.ab_pbft.proofs.pbft.Pbft.work.Goals as goal

pub left_after-left-requires : goal.left_after-left-requires
left_after-left-requires g c = view_risen c.args.self.now (input_of c.args.input) c.in_ok-turn.turn c.in_ok-turn.ensures

pub returns : goal.returns
returns g c =
    let q = c.args.self.now in
    let v = c.self.inside in
    let turn = c.in_ok-turn.turn in
    let left : Signing = record { cluster = v.cluster; order = record { seat = seat_of c.in_ok-seat.seat; memory = memory_of turn.memory }; shelf = c.in_ok-shelf.shelf; left = c.left_after-left.result } in
    let w = worked q (input_of c.args.input) (g.N.Notary.pen c.args.n.now) c.args.shelf turn left c.deref.result.now
    (record { pen = g.N.Notary.pen c.post.new.n; shelf = c.in_ok-shelf.shelf; sent = c.in_ok-shelf.outs })
    c.in_ok-turn.ensures (ap (λ (p : Signing). p.cluster) c.self.view_is) (ap seat_of c.in_ok-seat.ensures ∙ ap (λ (p : Signing). p.order.seat) c.self.view_is) refl refl c.left_after-left.ensures.count
    c.deref.ensures.value c.in_ok-shelf.ensures.ok in
    record {
      next = w.next;
      sends = w.sends;
      pen = (w.moves, omega (arith, w.signs, c.in_ok-shelf.ensures.left));
      spent = search rules;
      unused = search rules;
    }

pub returns-in_err-shelf-clause-spent : goal.returns-in_err-shelf-clause-spent
returns-in_err-shelf-clause-spent g c =
    let signs = signs_as c.args.self.now (input_of c.args.input) c.in_ok-turn.turn c.in_ok-turn.ensures c.deref.result.now c.deref.ensures.value in
    let few = c.in_err-shelf.ensures.spent in
    let p = err_from_is_err_and c.from_residual-in_err-shelf.result c.from_residual-in_err-shelf.ensures.1 in
    rw (p.1, p.2) (λ is. omega (arith, few (same_fault c.in_err-shelf.field-0.0 Spent is), signs))

pub returns-in_err-shelf-clause-unused : goal.returns-in_err-shelf-clause-unused
returns-in_err-shelf-clause-unused g c =
    let none = c.in_err-shelf.ensures.unused in
    let p = err_from_is_err_and c.from_residual-in_err-shelf.result c.from_residual-in_err-shelf.ensures.1 in
    rw (p.1, p.2) (λ is. none (same_fault c.in_err-shelf.field-0.0 Spent is))
