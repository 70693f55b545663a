use Rattle.std.proofs.Common.{arith}
use Rattle.ab_trim.specs.Points.{lists_in}
use Rattle.ab_trim.proofs.FoundLemmas.{none_there, none_more, last_found}
use Rattle.ab_trim.proofs.agreeing.last_of.Goals as goal

pub returns-then-holders-q : goal.returns-then-holders-q
returns-then-holders-q c =
    last_found c.args.q (lists_in c.args.lists.now) c.args.list.now.list c.loop-k.k c.loop-k.invariant c.len-in-loop-k.result c.holders.result c.digest_at.result
    c.len-in-loop-k.ensures.len c.digest_at.ensures c.holders.ensures (omega (arith, c.loop-k-test.true, c.len.ensures.len, c.len-in-loop-k.ensures.len, c.start.ensures.start)) c.if-holders-q.true

pub loop-k-preserved : goal.loop-k-preserved
loop-k-preserved c =
    none_more c.args.q (lists_in c.args.lists.now) c.args.list.now.list c.loop-k.k c.loop-k.invariant c.len-in-loop-k.result c.holders.result c.digest_at.result
    c.len-in-loop-k.ensures.len c.digest_at.ensures c.holders.ensures (omega (arith, c.if-holders-q.false))

pub returns : goal.returns
returns c = λ k e held.
    none_there c.args.q (lists_in c.args.lists.now) c.args.list.now.list c.loop-k.k c.loop-k.invariant k e held
    (omega (arith, c.loop-k-test.false, c.len.ensures.len, c.start.ensures.start, held.shown, held.within))
