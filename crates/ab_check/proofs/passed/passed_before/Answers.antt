use Rattle.std.proofs.Common.{ap, map, ◌+◌}
use Rattle.ab_num.specs.Places.{at_position_of}
use Rattle.ab_wire.specs.Views.{chain_tags}
use Rattle.ab_check.specs.Chains.{passed_to, said}
use Rattle.ab_check.proofs.ListLemmas.{passed-first}
use Rattle.ab_check.proofs.passed.passed_before.Goals as goal

pub returns-clause-said : goal.returns-clause-said
returns-clause-said c =
    ap (map (passed_to c.args.me (chain_tags c.args.tags))) (passed-first (λ q. said c.args.link (at_position_of c.args.k.now.f c.args.link.instance q)) (c.args.k.now.f + 1) c.args.position c.min-left.result c.min-left.ensures)
