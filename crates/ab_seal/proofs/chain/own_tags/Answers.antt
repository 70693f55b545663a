use Rattle.std.proofs.Common.{◌≤◌, ap, arith, length}
use Rattle.ab_seal.proofs.DraftLemmas.{few-at}
use Rattle.ab_seal.proofs.chain.own_tags.Goals as goal

pub returns-in_ok-tags-in-Replica-clause-few : goal.returns-in_ok-tags-in-Replica-clause-few
returns-in_ok-tags-in-Replica-clause-few c =
    let k = c.args.k.now in
    let l = c.args.l.now in
    let bound = c.cluster-c.result.now.in_bounds.few_faulty in
    let same = c.cluster-c.ensures.f in
    let few : k.f ≤ 2 = omega (arith, bound, same) in
    let made = ap length c.in_ok-tags-in-Replica.ensures in
    omega (arith, made, few-at k l.instance l.request.now l.n l.d.now l.reply.now c.in-Replica.r c.position_of-p.result few)
