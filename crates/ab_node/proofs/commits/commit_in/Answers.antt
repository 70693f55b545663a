use Rattle.std.proofs.Common.{◌+◌, ◌<◌, drop, length, arith, ap, sym, ◌∙◌}
use Rattle.ab_node.specs.Clients.{commit_in, first_of}
use Rattle.ab_node.proofs.CommitLemmas.{commit_here}
use Rattle.ab_node.proofs.commits.commit_in.Goals as goal

pub returns-in-Some : goal.returns-in-Some
returns-in-Some c =
    let seen = c.args.seen.now in
    let i = c.loop-s.s-index in
    let lt : i < length seen = omega (arith, c.loop-s-test.true) in
    sym (c.loop-s.invariant ∙ commit_here seen i c.s-item.result lt c.s-item.is ∙ ap (λ o. first_of o (commit_in (drop (i + 1) seen))) (sym c.in-Some.ensures))

pub loop-s-preserved : goal.loop-s-preserved
loop-s-preserved c =
    let seen = c.args.seen.now in
    let i = c.loop-s.s-index in
    let lt : i < length seen = omega (arith, c.loop-s-test.true) in
    c.loop-s.invariant ∙ commit_here seen i c.s-item.result lt c.s-item.is ∙ ap (λ o. first_of o (commit_in (drop (i + 1) seen))) (sym c.in-None.ensures)
