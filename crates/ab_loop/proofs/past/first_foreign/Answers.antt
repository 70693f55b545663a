use Rattle.std.proofs.Common.{◌≡◌, ap, sym, ◌∙◌, slice_index_or}
use Rattle.ab_loop.specs.Cores.{event_of}
use Rattle.ab_loop.specs.Past.{event_in}
use Rattle.ab_loop.proofs.PastLemmas.{found, no_event}
use Rattle.ab_loop.proofs.past.first_foreign.Goals as goal

pub returns-then-is_none-clause-first : goal.returns-then-is_none-clause-first
returns-then-is_none-clause-first c =
    let at : event_in (slice_index_or c.args.bodies.now c.bodies.index c.index-bodies-index.result).items ≡ event_in c.deref.result.now = ap (λ body. event_in body.items) (sym c.index-bodies-index.is) ∙ ap event_in (sym c.deref.ensures.value) in
    found c.args.bodies.now c.bodies.index c.index-bodies-index.result c.bodies-test.true c.bodies.invariant (at ∙ no_event event_of c.event_in.result _ c.event_in.ensures c.if-is_none.ensures)
