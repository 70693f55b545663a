use Rattle.std.proofs.Common.{arith}
use Rattle.ab_trim.proofs.HeadLemmas.{not_behind}
use Rattle.ab_trim.proofs.head.place_behind.Goals as goal

pub returns-else-place-n-clause-none : goal.returns-else-place-n-clause-none
returns-else-place-n-clause-none c has =
    let found = c.in_ok-place.ensures.found in
    not_behind c.args.n c.args.part.now.requests c.args.m.now c.in_ok-place.place c.requires found.0 found.1 (omega (arith, c.if-place-n.false)) has
