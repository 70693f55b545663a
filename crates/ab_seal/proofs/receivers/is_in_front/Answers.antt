use Rattle.std.proofs.Common.{◌+◌, rules, tests, arith, eqb}
use Rattle.std.proofs.lemmas.Iterator.{YieldsList-from_range}
use Rattle.std.proofs.lemmas.Iterator.Search.{any_from_yields_List}
use Rattle.ab_num.specs.Places.{at_position_of}
use Rattle.ab_seal.proofs.receivers.is_in_front.Goals as goal

pub returns : goal.returns
returns c =
    any_from_yields_List (λ p. eqb (at_position_of c.args.c.now.f c.args.instance p) c.args.r) _ _ c.any.result c.any.ensures.ran
    (YieldsList-from_range 1 (c.args.c.now.f + 2) (c.args.c.now.f + 1) (cc) (omega arith)) (λ x b q k. search (rules, tests))
