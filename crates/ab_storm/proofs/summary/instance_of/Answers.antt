use Rattle.std.proofs.Common.{◌∙◌, sym}
use Rattle.ab_storm.proofs.SummaryLemmas.{there}
use Rattle.ab_storm.proofs.summary.instance_of.Goals as goal

pub unreachable-requires : goal.unreachable-requires
unreachable-requires g c = there (λ s. s.rep.at) c.args.world.now.cast.replicas c.args.r c.requires (sym c.in-None.is ∙ c.instance_of.ensures)
