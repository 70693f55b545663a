-- A protocol for each kind of instance: each thing is stated once.
use Rattle.std.proofs.Common.{◌≡◌, ℕ, zero, suc, ◌<◌, ◌≤◌, Bool, false, List, [], length, refl}
use Rattle.std.specs.Prelude.{IsTrue}
use Rattle.ab_num.specs.declared.party.Party.TheVariants.{Replica}
use Rattle.ab_num.specs.declared.plan.Kind.{Kind}
use Rattle.ab_num.specs.declared.plan.Kind.TheVariants as kind
use Rattle.ab_num.specs.Places.{kind_of}
use Rattle.ab_hist.specs.declared.request.Request.{Request}
use Rattle.ab_svc.specs.Machines.{Machine, serve}
use Rattle.ab_msg.specs.declared.content.Content.TheVariants.{Prepare}
use Rattle.ab_abs.specs.Acts.{State, abort_content, setting}
use Rattle.ab_abs.specs.Faults.{is_faulty}
use Rattle.ab_abs.specs.FormLaws.{KeepsPlace, place_of}
use Rattle.ab_abs.specs.Ensembles.{Proto}
use Rattle.ab_abs.specs.Promises.{ServesAll}
use Rattle.ab_abs.specs.declared.rule.ReplyRule.{ReplyRule}
use Rattle.ab_abs.specs.declared.rule.ReplyRule.TheVariants as rules
use Rattle.ab_chain.specs.Rules.{ChainState, chain, is_chain}
use Rattle.ab_chain.specs.Laws as chains
use Rattle.ab_abs.specs.Kinds.{is_backup, is_zcert}
use Rattle.ab_order.specs.Backups.{Backing}
use Rattle.ab_order.specs.Protos.{OrderProto, Obeys, backup}
use Rattle.ab_order.proofs.ProtoLaws as laws
use Rattle.ab_pbft_rules.specs.Traces.{IsPbftSound}
use Rattle.ab_pbft_rules.specs.Rules.{Pbft, pbft}
use Rattle.ab_pbft_rules.specs.Standing.{PbftStands}
use Rattle.ab_pbft_rules.proofs.LawfulOrderer.{pbft_lawful}
use Rattle.ab_pbft_rules.proofs.OrderlyOrderer.{pbft_orderly}
use Rattle.ab_plans.specs.declared.choice.Choice.{Choice}
use Rattle.ab_plans.specs.ChoiceRules.{choice, either}
use Rattle.ab_plans.proofs.Choosing.{place_law}
use Rattle.ab_quorum.specs.Rules.{quorum, is_quorum}
use Rattle.ab_quorum.specs.Laws as quorums
use Rattle.ab_zcert.specs.Rules.{Keeper, zcert_proto}
use Rattle.ab_zcert.specs.Drafts as keepers
use Rattle.ab_zlight.specs.Rules.{Light, zlight, is_zlight}
use Rattle.ab_zlight.specs.Laws as lights
use Rattle.ab_run.specs.Setups.{RunSetup, replicas}
use Rattle.ab_run.specs.Checkpoints.{abort_after}
use Rattle.ab_run.specs.Runs.{Event, run}
use Rattle.ab_run.specs.Premises.{AreFormed}
use Rattle.ab_promises.specs.AllKinds.{any_kind, is_any_kind}
use Rattle.ab_promises.specs.ReplicaActs.{ActsKeep, AbortsOnce, AbortsOnceIn, PreparesOnce, PreparesOnceIn, StatesNone, is_prepare}
use Rattle.ab_promises.proofs.ActsAlone.{aborts_once_in, prepares_once_in}
use Rattle.ab_promises.proofs.CallKinds.{quorum_aborts, quorum_prepares, zlight_aborts, zlight_prepares, chain_aborts, chain_prepares, zcert_aborts, zcert_prepares, backup_aborts}
use Rattle.ab_promises.proofs.ChosenActs.{choice_keeps}
use Rattle.ab_promises.proofs.PreparedOnce.{prepares_once}
use Rattle.ab_promises.proofs.StatedOnce.{KeepsLogs, aborts_once, form_logs, never_made}

-- an ABORT is no PREPARE
whole_prepare_none : (rule : ReplyRule) (r i : ℕ) (s : State) → is_prepare (abort_content rule i r s) ≡ false
whole_prepare_none rules.All r i s = refl
whole_prepare_none (rules.Equal q) r i s = refl
whole_prepare_none rules.Tail r i s = refl
whole_prepare_none rules.Certified r i s = refl

stops_prepare_none : (n : ℕ) (rule : ReplyRule) (r i : ℕ) (s : State) → is_prepare (abort_after n rule i r s) ≡ false
stops_prepare_none zero rule r i s = whole_prepare_none rule r i s
stops_prepare_none (suc n) rule r i s = refl

-- where no call states a PREPARE none is made
without_prepares : {P : Type 0} (proto : Proto P) (serves : Kind → Bool) → StatesNone proto serves is_prepare → ActsKeep proto serves PreparesOnce
without_prepares proto serves none c i r acts p served one are v n d e was_d was_e =
    absurd (let never = never_made proto serves is_prepare none (λ m rule q j s. stops_prepare_none m rule q j s) (λ j q m log. refl) (setting c [] i) r acts p served are (Prepare (Replica r) i v n d) was_d in cc (never))

kind_served : (k : Kind) → IsTrue (is_any_kind k)
kind_served kind.Quorum = refl
kind_served kind.ZLight = refl
kind_served kind.Chain = refl
kind_served kind.Backup = refl
kind_served kind.ZCert = refl

module _ {S Q : Type 0} (machine : Machine S) (short : (h : List Request) (m : Request) → length (machine.answer (serve machine h) m).items ≤ 72) (orders : OrderProto Q Pbft) (obeys : Obeys orders pbft) where
  backup_logs : KeepsLogs (backup orders pbft machine) is_backup
  backup_logs = record {
    frozen = laws.frozen machine orders pbft obeys pbft_orderly IsPbftSound PbftStands pbft_lawful;
    halts = laws.halts_as machine orders pbft obeys pbft_orderly IsPbftSound PbftStands pbft_lawful;
    zcert_stays = λ c i r pen v call was stopped. refl;
    zcert_rests = λ v. refl;
    trimmed_stays = λ pen v call. refl;
    trimmed_rests = λ v. refl;
  }

  -- Backup beside ZCert, and what is beside Chain and ZLight
  abbrev after_chain : Proto (Choice Keeper (Backing Q))
  after_chain = choice (zcert_proto machine) (backup orders pbft machine) is_zcert

  abbrev after_zlight : Proto (Choice ChainState (Choice Keeper (Backing Q)))
  after_zlight = choice (chain machine) after_chain is_chain

  abbrev after_quorum : Proto (Choice Light (Choice ChainState (Choice Keeper (Backing Q))))
  after_quorum = choice (zlight machine) after_zlight is_zlight

  each_place : KeepsPlace (any_kind machine orders) is_any_kind
  each_place =
      place_law (quorum machine) after_quorum is_quorum (either is_zlight (either is_chain (either is_zcert is_backup)))
      (place_of (quorum machine) is_quorum (quorums.form_law machine short))
      (place_law (zlight machine) after_zlight is_zlight (either is_chain (either is_zcert is_backup))
      (place_of (zlight machine) is_zlight (lights.form_law machine short))
      (place_law (chain machine) after_chain is_chain (either is_zcert is_backup)
      (place_of (chain machine) is_chain (chains.form_law machine short))
      (place_law (zcert_proto machine) (backup orders pbft machine) is_zcert is_backup
      (place_of (zcert_proto machine) is_zcert (keepers.form_law machine short))
      (laws.places machine orders pbft obeys pbft_orderly IsPbftSound PbftStands pbft_lawful))))

  each_aborts : ActsKeep (any_kind machine orders) is_any_kind AbortsOnce
  each_aborts =
      choice_keeps (quorum machine) after_quorum is_quorum (either is_zlight (either is_chain (either is_zcert is_backup))) AbortsOnce
      (aborts_once (quorum machine) is_quorum (form_logs (quorum machine) is_quorum (quorums.form_law machine short)) (quorum_aborts machine))
      (choice_keeps (zlight machine) after_zlight is_zlight (either is_chain (either is_zcert is_backup)) AbortsOnce
      (aborts_once (zlight machine) is_zlight (form_logs (zlight machine) is_zlight (lights.form_law machine short)) (zlight_aborts machine))
      (choice_keeps (chain machine) after_chain is_chain (either is_zcert is_backup) AbortsOnce
      (aborts_once (chain machine) is_chain (form_logs (chain machine) is_chain (chains.form_law machine short)) (chain_aborts machine))
      (choice_keeps (zcert_proto machine) (backup orders pbft machine) is_zcert is_backup AbortsOnce
      (aborts_once (zcert_proto machine) is_zcert (form_logs (zcert_proto machine) is_zcert (keepers.form_law machine short)) (zcert_aborts machine))
      (aborts_once (backup orders pbft machine) is_backup backup_logs (backup_aborts machine orders obeys)))))

  each_prepares : ActsKeep (any_kind machine orders) is_any_kind PreparesOnce
  each_prepares =
      choice_keeps (quorum machine) after_quorum is_quorum (either is_zlight (either is_chain (either is_zcert is_backup))) PreparesOnce
      (without_prepares (quorum machine) is_quorum (quorum_prepares machine))
      (choice_keeps (zlight machine) after_zlight is_zlight (either is_chain (either is_zcert is_backup)) PreparesOnce
      (without_prepares (zlight machine) is_zlight (zlight_prepares machine))
      (choice_keeps (chain machine) after_chain is_chain (either is_zcert is_backup) PreparesOnce
      (without_prepares (chain machine) is_chain (chain_prepares machine))
      (choice_keeps (zcert_proto machine) (backup orders pbft machine) is_zcert is_backup PreparesOnce
      (without_prepares (zcert_proto machine) is_zcert (zcert_prepares machine))
      (prepares_once machine orders obeys))))

  module _ (k : RunSetup) (events : List Event) (formed : AreFormed k events) (r : ℕ) (lt : r < replicas k) (good : is_faulty k.faulty (Replica r) ≡ false) where
    each_served : ServesAll is_any_kind k.cluster
    each_served i one = kind_served (kind_of k.cluster.plan i)

    pub all_abort_once : AbortsOnceIn (run k (any_kind machine orders) events).made r
    all_abort_once = aborts_once_in k (any_kind machine orders) is_any_kind each_place each_served r lt good events formed each_aborts

    pub all_prepare_once : PreparesOnceIn (run k (any_kind machine orders) events).made r
    all_prepare_once = prepares_once_in k (any_kind machine orders) is_any_kind each_place each_served r lt good events formed each_prepares
