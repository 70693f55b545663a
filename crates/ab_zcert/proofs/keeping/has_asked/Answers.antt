use Rattle.std.proofs.Common.{◌≡◌, ◌<◌, ℕ, sym, subst, false}
use Rattle.std.specs.Prelude.{◌==◌, ◌&&◌}
use Rattle.ab_zcert.proofs.KeepingLemmas.{asked_ends, asked_more, by_other, stamped_else}
use Rattle.ab_zcert.proofs.keeping.has_asked.Goals as goal
use Rattle.ab_zcert.proofs.keeping.has_asked.Goals.{else-m-client-via-then-m-client+else-m-stamp, else-m-client-via-else-m-client}

pub returns-then-m-stamp : goal.returns-then-m-stamp
returns-then-m-stamp c =
    sym (asked_ends c.args.log.now c.args.n c.entries.before c.at-m.result.now c.args.client c.args.stamp (subst (λ (k : ℕ). c.entries.before < k) c.from-before-end.ensures c.entries-test.true) c.at-m.ensures c.if-m-client.true c.if-m-stamp.true)

pub entries-preserved : goal.entries-preserved
entries-preserved c =
    let m = c.at-m.result.now in
    let differ : ((m.client == c.args.client) && (m.stamp == c.args.stamp)) ≡ false =
    elim c.else-m-client.branch [
      | else-m-client-via-then-m-client+else-m-stamp w ↦ stamped_else (m.client == c.args.client) m.stamp c.args.stamp w.if-m-stamp.false
      | else-m-client-via-else-m-client w ↦ by_other m.client c.args.client (m.stamp == c.args.stamp) w.if-m-client.false
    ] in
    asked_more c.args.log.now c.entries.before m c.args.client c.args.stamp c.at-m.ensures differ c.entries.invariant
