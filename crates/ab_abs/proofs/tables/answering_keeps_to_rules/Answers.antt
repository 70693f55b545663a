use Rattle.ab_abs.proofs.RefusedTables.{keeps}
use Rattle.ab_abs.proofs.tables.answering_keeps_to_rules.Goals as goal

pub returns : goal.returns
returns g c = keeps g.S.Service.machine
