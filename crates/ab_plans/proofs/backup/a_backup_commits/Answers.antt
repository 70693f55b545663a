use Rattle.ab_plans.proofs.Computed.{commits_one, is_stopped}
use Rattle.ab_plans.proofs.backup.a_backup_commits.Goals as goal

pub returns : goal.returns
returns g c = record { log = λ orders obeys. commits_one g.S.Service.machine orders obeys; stopped = λ orders obeys. is_stopped g.S.Service.machine orders obeys }
