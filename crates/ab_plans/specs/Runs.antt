-- A protocol beside a Backup over PBFT, by the kind of the instance.
use Rattle.std.specs.Prelude.{Bool}
use Rattle.ab_num.specs.declared.plan.Kind.{Kind}
use Rattle.ab_svc.specs.Machines.{Machine}
use Rattle.ab_abs.specs.Ensembles.{Proto}
use Rattle.ab_abs.specs.Members.{Member}
use Rattle.ab_chain.specs.Rules.{ChainState, is_chain, chain}
use Rattle.ab_quorum.specs.Rules.{is_quorum, quorum}
use Rattle.ab_zlight.specs.Rules.{Light, is_zlight, zlight}
use Rattle.ab_zcert.specs.Rules.{Keeper, zcert_proto}
use Rattle.ab_plans.specs.declared.choice.Choice.{Choice}
use Rattle.ab_plans.specs.ChoiceRules.{choice, either}
use Rattle.ab_order.specs.Backups.{Backing}
use Rattle.ab_abs.specs.Kinds.{is_backup, is_zcert}
use Rattle.ab_order.specs.Protos.{OrderProto, backup}
use Rattle.ab_pbft_rules.specs.Rules.{Pbft, pbft}

-- PBFT runs where the other protocol doesn't serve the kind of the instance
abbrev pub with_backup : {S P Q : Type 0} → Machine S → Proto P → (Kind → Bool) → OrderProto Q Pbft → Proto (Choice P (Backing Q))
with_backup machine proto serves orders = choice proto (backup orders pbft machine) serves

abbrev pub served : (Kind → Bool) → Kind → Bool
served serves = either serves is_backup

-- AZyzzyva: ZLight and Backup in turn
abbrev pub azyzzyva : {S Q : Type 0} → Machine S → OrderProto Q Pbft → Proto (Choice Light (Backing Q))
azyzzyva machine orders = with_backup machine (zlight machine) is_zlight orders

-- Aliph: Quorum, Chain and Backup in turn
abbrev pub is_fast : Kind → Bool
is_fast = either is_quorum is_chain

abbrev pub aliph : {S Q : Type 0} → Machine S → OrderProto Q Pbft → Proto (Choice (Choice Member ChainState) (Backing Q))
aliph machine orders = with_backup machine (choice (quorum machine) (chain machine) is_quorum) is_fast orders

-- ZCert and Backup in turn
abbrev pub zcerts : {S Q : Type 0} → Machine S → OrderProto Q Pbft → Proto (Choice Keeper (Backing Q))
zcerts machine orders = with_backup machine (zcert_proto machine) is_zcert orders
