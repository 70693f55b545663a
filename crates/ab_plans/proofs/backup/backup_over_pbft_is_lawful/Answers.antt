use Rattle.ab_order.proofs.ProtoLaws as laws
use Rattle.ab_pbft_rules.specs.Traces.{IsPbftSound}
use Rattle.ab_pbft_rules.specs.Rules.{pbft}
use Rattle.ab_pbft_rules.specs.Standing.{PbftStands}
use Rattle.ab_pbft_rules.proofs.OrderlyOrderer.{pbft_orderly}
use Rattle.ab_pbft_rules.proofs.LawfulOrderer.{pbft_lawful}
use Rattle.ab_plans.proofs.Ordered.{backup_law}
use Rattle.ab_plans.proofs.backup.backup_over_pbft_is_lawful.Goals as goal

pub returns : goal.returns
returns g c =
    let machine = g.S.Service.machine in
    record {
      laws = λ orders obeys. backup_law machine orders obeys;
      grows = λ orders pen v call obeys. laws.grows machine orders pbft obeys pbft_orderly IsPbftSound PbftStands pbft_lawful pen v call;
      frozen = λ orders k i r pen v call obeys. laws.frozen machine orders pbft obeys pbft_orderly IsPbftSound PbftStands pbft_lawful k i r pen v call;
      silent = λ orders f r pen v call o s obeys. laws.silent machine orders pbft obeys pbft_orderly IsPbftSound PbftStands pbft_lawful f r pen v call o s;
      signed = λ orders pen v call o w obeys. laws.signed machine orders pbft obeys pbft_orderly IsPbftSound PbftStands pbft_lawful pen v call o w;
      sent = λ orders pen v call s obeys. laws.sent machine orders pbft obeys pbft_orderly IsPbftSound PbftStands pbft_lawful pen v call s;
    }
