use Rattle.std.proofs.Common.{get_or, sym, ap, ◌∙◌}
use Rattle.ab_zcert.proofs.KeepingLemmas.{apart_ends, apart_more}
use Rattle.ab_zcert.proofs.keeping.are_apart.Goals as goal

pub returns-then-not-has_none : goal.returns-then-not-has_none
returns-then-not-has_none c =
    let item = c.index-sigs-i in
    sym (c.sigs.invariant ∙ apart_ends c.args.sigs.now c.split_at.result.1.now c.sigs.i (get_or c.args.sigs.now c.sigs.i item.result).0 item.result c.sigs-test.true item.is c.split_at.ensures.back (sym (ap (λ s. s.0) item.is)) (sym c.has_none.ensures ∙ c.if-not-has_none.true))

pub sigs-preserved : goal.sigs-preserved
sigs-preserved c =
    let item = c.index-sigs-i in
    c.sigs.invariant ∙ apart_more c.args.sigs.now c.split_at.result.1.now c.sigs.i (get_or c.args.sigs.now c.sigs.i item.result).0 item.result c.sigs-test.true item.is c.split_at.ensures.back (sym (ap (λ s. s.0) item.is)) (sym c.has_none.ensures ∙ c.if-not-has_none.false)
