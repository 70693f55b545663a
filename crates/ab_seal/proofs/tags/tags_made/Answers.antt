use Rattle.std.proofs.Common.{arith}
use Rattle.ab_seal.proofs.ReceiverLemmas.{tag_added, tag_left_out}
use Rattle.ab_seal.proofs.tags.tags_made.Goals as goal
use Rattle.ab_seal.proofs.tags.tags_made.Goals.{then-is_receiver, else-is_receiver}

pub receivers-preserved : goal.receivers-preserved
receivers-preserved c =
    let k = c.args.k.now in
    let cluster = c.cluster-c.result.now in
    elim c.if-is_receiver.branch [
      | then-is_receiver w ↦ rw w.tags-is (
        omega (arith, w.push.ensures.len),
        tag_added k cluster.plan cluster.f c.args.instance c.args.text.now c.receivers.r _ _ _ _ c.receivers.invariant.1 w.if-is_receiver.true c.is_receiver.ensures w.tag_made.ensures w.push.ensures.items,
      )
      | else-is_receiver w ↦ rw w.tags-is (
        omega (arith, c.receivers.invariant.0),
        tag_left_out k cluster.plan cluster.f c.args.instance c.args.text.now c.receivers.r _ _ c.receivers.invariant.1 w.if-is_receiver.false c.is_receiver.ensures,
      )
    ]
