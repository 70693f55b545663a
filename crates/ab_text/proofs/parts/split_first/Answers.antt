use Rattle.std.proofs.Common.{◌∙◌, arith}
use Rattle.std.proofs.lemmas.List.{take_rest}
use Rattle.ab_text.proofs.PartLemmas.{split_there, no_split}
use Rattle.ab_text.proofs.parts.split_first.Goals as goal

pub returns-then-b-separator-clause-only : goal.returns-then-b-separator-clause-only
returns-then-b-separator-clause-only c a b none is =
    let both = split_there c.args.separator c.args.text.now a b c.loop-i.i none is c.loop-i.invariant c.if-b-separator.true in
    (both.0, take_rest c.args.text.now _ ∙ both.1)

pub returns-clause-only : goal.returns-clause-only
returns-clause-only c a b none is = no_split c.args.separator c.args.text.now a b is (λ k lt. c.loop-i.invariant k (omega arith))
