-- A protocol for each kind of instance.
use Rattle.std.specs.Prelude.{Bool}
use Rattle.ab_num.specs.declared.plan.Kind.{Kind}
use Rattle.ab_svc.specs.Machines.{Machine}
use Rattle.ab_abs.specs.Ensembles.{Proto}
use Rattle.ab_abs.specs.Members.{Member}
use Rattle.ab_chain.specs.Rules.{ChainState, chain, is_chain}
use Rattle.ab_order.specs.Backups.{Backing}
use Rattle.ab_abs.specs.Kinds.{is_backup, is_zcert}
use Rattle.ab_order.specs.Protos.{OrderProto, backup}
use Rattle.ab_pbft_rules.specs.Rules.{Pbft, pbft}
use Rattle.ab_plans.specs.declared.choice.Choice.{Choice}
use Rattle.ab_plans.specs.ChoiceRules.{choice, either}
use Rattle.ab_quorum.specs.Rules.{is_quorum, quorum}
use Rattle.ab_zcert.specs.Rules.{Keeper, zcert_proto}
use Rattle.ab_zlight.specs.Rules.{Light, is_zlight, zlight}

-- a replica of Quorum, of ZLight, of Chain, of ZCert, or of Backup over PBFT
abbrev pub AnyKind : Type 0 → Type 0
AnyKind Q = Choice Member (Choice Light (Choice ChainState (Choice Keeper (Backing Q))))

-- it goes by the rules of its instance's kind, however PBFT's statements become messages
abbrev pub any_kind : {S Q : Type 0} → Machine S → OrderProto Q Pbft → Proto (AnyKind Q)
any_kind machine orders = choice (quorum machine) (choice (zlight machine) (choice (chain machine) (choice (zcert_proto machine) (backup orders pbft machine) is_zcert) is_chain) is_zlight) is_quorum

-- the kinds that are served: all
abbrev pub is_any_kind : Kind → Bool
is_any_kind = either is_quorum (either is_zlight (either is_chain (either is_zcert is_backup)))
