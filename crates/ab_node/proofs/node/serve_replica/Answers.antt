use Rattle.ab_replay.proofs.TextLemmas.{all_served}
use Rattle.ab_node.proofs.node.serve_replica.Goals as goal

pub new-requires-clause-served : goal.new-requires-clause-served
new-requires-clause-served g c = λ i one. all_served c.args.keys.now.plan i
