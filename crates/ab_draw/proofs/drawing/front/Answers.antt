use Rattle.std.proofs.Common.{sym, arith}
use Rattle.std.proofs.lemmas.List.{length-take-le, take_all}
use Rattle.ab_draw.specs.Draws.{most_drawn}
use Rattle.ab_draw.proofs.drawing.front.Goals as goal

pub slice_bounds-result-end : goal.slice_bounds-result-end
slice_bounds-result-end c = sym (length-take-le 2000 c.args.events.now (omega (arith, c.if-events-le-MOST_DRAWN.false)))

pub returns-then-events-le-MOST_DRAWN : goal.returns-then-events-le-MOST_DRAWN
returns-then-events-le-MOST_DRAWN c = sym (take_all most_drawn c.args.events.now c.if-events-le-MOST_DRAWN.true)
