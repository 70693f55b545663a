-- A replica of a Backup over PBFT signs at most one PREPARE of a view and a slot, whatever the others do.
use Rattle.std.proofs.Common.{◌≡◌, ℕ, zero, suc, ◌≤◌, false, List, [], ◌∷◌, refl, sym, ap, ◌∙◌, subst, inr, arith}
use Rattle.std.specs.Prelude.{Contains, IsTrue}
use Rattle.ab_num.specs.declared.cluster.Cluster.{Cluster}
use Rattle.ab_num.specs.declared.party.Party.TheVariants.{Replica}
use Rattle.ab_num.proofs.Lists.{Contains-none, Contains-one}
use Rattle.ab_svc.specs.Machines.{Machine}
use Rattle.ab_msg.specs.declared.content.Content.TheVariants as content
use Rattle.ab_msg.specs.Slots.{slot_digest}
use Rattle.ab_abs.specs.Values.{goes}
use Rattle.ab_abs.specs.Acts.{Act, Setting, State, Premises, WasMade, setting, own_acts}
use Rattle.ab_abs.specs.declared.rule.ReplyRule.{ReplyRule}
use Rattle.ab_abs.proofs.Following.{abort_outer}
use Rattle.ab_abs.specs.Kinds.{is_backup, kind_in, rule_in, limit_in}
use Rattle.ab_abs.specs.Rules.{is_inner}
use Rattle.ab_abs.specs.Ensembles.{begin_of, asked_of, halt_of}
use Rattle.ab_lock.specs.Acts as lock
use Rattle.ab_lock.specs.Acts.{Prepare, steps_of}
use Rattle.ab_lock.specs.Steps.{signs}
use Rattle.ab_lock.proofs.ActLemmas.{made_prepare, steps_in, lawful_follows}
use Rattle.ab_lock.proofs.Traces.{signs_once}
use Rattle.ab_order.specs.Backups.{Backing}
use Rattle.ab_order.specs.Protos.{OrderProto, Obeys, backup, backup_stands, viewed}
use Rattle.ab_order.proofs.OwnActs.{own_own}
use Rattle.ab_order.proofs.ProtoLaws as laws
use Rattle.ab_pbft_rules.specs.Traces.{OrderStep, IsSource, IsPbftSound}
use Rattle.ab_pbft_rules.specs.Rules.{Pbft, pbft}
use Rattle.ab_pbft_rules.specs.Standing.{PbftStands}
use Rattle.ab_pbft_rules.proofs.LawfulOrderer.{pbft_lawful}
use Rattle.ab_pbft_rules.proofs.OrderlyOrderer.{pbft_orderly}
use Rattle.ab_run.specs.Checkpoints.{abort_after, checkpoint_of}
use Rattle.ab_promises.specs.ReplicaActs.{AreActsOf, begins, takes, stops, aborts, marks, trims, aborts_by, marks_by, ActsKeep, PreparesOnce}

-- where nothing was done and nobody is faulty the premises hold
no_premises : (c : Cluster) (i : ℕ) → Premises (setting c [] i) []
no_premises c i = record {
  few = omega arith;
  honest = tt;
  apart = λ h k a b in_h. absurd (Contains-none h in_h);
  slots = record {
    requests = λ m n in_m. absurd (Contains-none m in_m);
    lengths = λ h k in_h. absurd (Contains-none h in_h);
    digests = λ h k in_h. absurd (Contains-none h in_h);
  };
}

-- an ABORT is nothing between replicas
stop_outer : (n : ℕ) (rule : ReplyRule) (i r : ℕ) (s : State) → is_inner (abort_after n rule i r s) ≡ false
stop_outer zero rule i r s = abort_outer rule i r s
stop_outer (suc n) rule i r s = refl

module _ {S Q : Type 0} (machine : Machine S) (orders : OrderProto Q Pbft) (obeys : Obeys orders pbft) (c : Cluster) (i r : ℕ) (served : IsTrue (is_backup (kind_in (setting c [] i)))) (one : 1 ≤ i) where
  abbrev x : Setting
  x = setting c [] i

  -- the value stands where the acts left it
  stands : (acts : List Act) (v : Backing Q) → AreActsOf (backup orders pbft machine) x r acts v → backup_stands orders pbft PbftStands x v r acts
  stands _ _ (begins e fits may) =
      (laws.start machine orders pbft obeys pbft_orderly IsPbftSound PbftStands pbft_lawful x [] r e served fits may
      (laws.nil machine orders pbft obeys pbft_orderly IsPbftSound PbftStands pbft_lawful x served one (no_premises c i))).0
  stands _ _ (takes {acts} {p = v} pen call seen before may) =
      (laws.takes machine orders pbft obeys pbft_orderly IsPbftSound PbftStands pbft_lawful x acts r pen v call seen may (stands acts v before) served).0
  stands _ _ (stops {acts} {p = v} before) = (laws.halts machine orders pbft obeys pbft_orderly IsPbftSound PbftStands pbft_lawful x acts r v served (stands acts v before)).0
  stands _ _ (aborts {acts} {p = v} before stopped) =
      let at = (backup orders pbft machine).state v in
      laws.stays machine orders pbft obeys pbft_orderly IsPbftSound PbftStands pbft_lawful x acts (aborts_by (backup orders pbft machine) x r v) r v
      (inr (refl, λ s has. ap is_inner (sym (Contains-one (abort_after v.trimmed (rule_in x) i r at) s has)) ∙ stop_outer v.trimmed (rule_in x) i r at)) (stands acts v before)
  stands _ _ (marks {acts} {p = v} n before runs more within) =
      let log = ((backup orders pbft machine).state v).log in
      laws.stays machine orders pbft obeys pbft_orderly IsPbftSound PbftStands pbft_lawful x acts (marks_by (backup orders pbft machine) x r n v) r v
      (inr (refl, λ s has. ap is_inner (sym (Contains-one (checkpoint_of i r n log) s has)))) (stands acts v before)
  stands _ _ (trims {acts} {p = v} n before runs more within) =
      laws.trims machine orders pbft obeys pbft_orderly IsPbftSound PbftStands pbft_lawful x acts r n v (stands acts v before)

  -- they are its own
  own : (acts : List Act) (v : Backing Q) → AreActsOf (backup orders pbft machine) x r acts v → own_acts r acts ≡ acts
  own _ _ (begins e fits may) = own_own (begin_of (backup orders pbft machine) x r e) [] r refl
  own _ _ (takes {acts} {p = v} pen call seen before may) =
      let a = asked_of (backup orders pbft machine) x r pen v call seen in own_own a acts r refl ∙ ap (λ l. a ∷ l) (own acts v before)
  own _ _ (stops {acts} {p = v} before) = let a = halt_of (backup orders pbft machine) r v in own_own a acts r refl ∙ ap (λ l. a ∷ l) (own acts v before)
  own _ _ (aborts {acts} {p = v} before stopped) = let a = aborts_by (backup orders pbft machine) x r v in own_own a acts r refl ∙ ap (λ l. a ∷ l) (own acts v before)
  own _ _ (marks {acts} {p = v} n before runs more within) = let a = marks_by (backup orders pbft machine) x r n v in own_own a acts r refl ∙ ap (λ l. a ∷ l) (own acts v before)
  own _ _ (trims {acts} {p = v} n before runs more within) = own acts v before

  module _ (acts : List Act) (v : Backing Q) (are : AreActsOf (backup orders pbft machine) x r acts v) where
    abbrev its : PbftStands x (limit_in x) (viewed orders v).order r (own_acts r acts)
    its = (stands acts v are).0.order

    signed : (w n : ℕ) (d : List ℕ) → WasMade acts (content.Prepare (Replica r) i w n d) → Contains (steps_of its.trace r) (signs w n d)
    signed w n d was =
        let so : lock.WasMade slot_digest its.trace (Prepare r w n d) = its.mid.said (Prepare r w n d) (subst (λ (l : List Act). WasMade l (content.Prepare (Replica r) i w n d)) (sym (own acts v are)) was) in
        let m = made_prepare slot_digest so.act.by r w n d so.step so.makes in
        subst (λ (z : OrderStep). Contains (steps_of its.trace r) z) m.1 (subst (λ (q : ℕ). Contains (steps_of its.trace q) so.step) m.0 (steps_in slot_digest its.trace so.act so.step so.is_in so.is_step))

    prepares_one : PreparesOnce i r acts
    prepares_one w n d e was_d was_e =
        signs_once slot_digest goes (limit_in x) (steps_of its.trace r) w n d e (lawful_follows slot_digest c.f (IsSource x (own_acts r acts)) goes (limit_in x) its.trace its.mid.lawful r) (signed w n d was_d) (signed w n e was_e)

pub prepares_once : {S Q : Type 0} (machine : Machine S) (orders : OrderProto Q Pbft) → Obeys orders pbft → ActsKeep (backup orders pbft machine) is_backup PreparesOnce
prepares_once machine orders obeys c i r acts v served one are = prepares_one machine orders obeys c i r served one acts v are
