-- The protocol of each kind of instance.
use Rattle.std.specs.Prelude.{Bool}
use Rattle.ab_num.specs.declared.plan.Kind.{Kind}
use Rattle.ab_svc.specs.Machines.{Machine}
use Rattle.ab_abs.specs.Ensembles.{Proto}
use Rattle.ab_abs.specs.Members.{Member}
use Rattle.ab_quorum.specs.Rules.{quorum, is_quorum}
use Rattle.ab_zlight.specs.Rules.{Light, zlight, is_zlight}
use Rattle.ab_chain.specs.Rules.{ChainState, chain, is_chain}
use Rattle.ab_zcert.specs.Rules.{Keeper, zcert_proto}
use Rattle.ab_order.specs.Backups.{Backing}
use Rattle.ab_abs.specs.Kinds.{is_backup, is_zcert}
use Rattle.ab_order.specs.Protos.{backup}
use Rattle.ab_pbft_rules.specs.Rules.{pbft}
use Rattle.ab_pbft_shelf.specs.Signing.{Signing, signing}
use Rattle.ab_plans.specs.declared.choice.Choice.{Choice}
use Rattle.ab_plans.specs.ChoiceRules.{choice, either}

-- a replica of Quorum, of ZLight, of Chain, of ZCert, or of Backup over PBFT
abbrev pub Any : Type 0
Any = Choice Member (Choice Light (Choice ChainState (Choice Keeper (Backing Signing))))

-- it goes by the rules of its instance's kind
abbrev pub any : {S : Type 0} → Machine S → Proto Any
any machine =
    choice (quorum machine)
    (choice (zlight machine) (choice (chain machine) (choice (zcert_proto machine) (backup signing pbft machine) is_zcert) is_chain) is_zlight)
    is_quorum

-- the kinds that have a protocol: all
abbrev pub is_served : Kind → Bool
is_served = either is_quorum (either is_zlight (either is_chain (either is_zcert is_backup)))
