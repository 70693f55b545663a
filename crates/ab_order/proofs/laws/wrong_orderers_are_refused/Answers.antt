use Rattle.ab_order.proofs.RefusedOrderers.{idle_keeps, no_forging, no_relaying, no_restless}
use Rattle.ab_order.proofs.laws.wrong_orderers_are_refused.Goals as goal

pub returns : goal.returns
returns c = record { idle = idle_keeps; forging = no_forging; relaying = no_relaying; restless = no_restless }
