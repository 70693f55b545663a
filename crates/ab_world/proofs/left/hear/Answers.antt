use Rattle.std.proofs.Common.{◌∙◌, ap}
use Rattle.ab_wire.specs.Views.{message as message_of}
use Rattle.ab_world.specs.Left.{left_at}
use Rattle.ab_world.proofs.LeftLemmas.{left_kept}
use Rattle.ab_world.proofs.left.hear.Goals as goal

pub returns-clause-left : goal.returns-clause-left
returns-clause-left g c = λ s there.
    let proto = g.P.Protocol.proto in
    let x = c.args.cast.now in
    let m = message_of c.args.m in
    left_kept proto x c.args.place s m c.in_ok-log.log c.hear.new.self _ c.keep.new.left.items there c.in_ok-log.ensures (c.in_ok-effects.ensures.taken s there).after c.keep.ensures
    ∙ ap (left_at proto x.setup c.args.place s m) c.in_ok-reserve.ensures.items
