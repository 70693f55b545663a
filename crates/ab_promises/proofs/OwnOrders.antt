-- Own calls of a Backup over PBFT are explained by PBFT's rules, which lock.
use Rattle.std.proofs.Common.{◌≡◌, ℕ, ◌≤◌, false, List, [], ◌∷◌, refl, sym, subst, inl, inr}
use Rattle.std.specs.Prelude.{Contains, IsTrue}
use Rattle.ab_num.specs.declared.plan.Kind.{Kind}
use Rattle.ab_num.specs.declared.plan.Kind.TheVariants as kind
use Rattle.ab_num.specs.declared.party.Party.TheVariants.{Replica}
use Rattle.ab_num.proofs.Lists.{Contains-cons_cases, Contains-tail, Contains-none}
use Rattle.ab_svc.specs.Machines.{Machine}
use Rattle.ab_msg.specs.declared.content.Content.{Content}
use Rattle.ab_msg.specs.declared.content.Content.TheVariants as content
use Rattle.ab_msg.specs.Claims.{maker_of}
use Rattle.ab_msg.specs.Slots.{slot_digest}
use Rattle.ab_abs.specs.Faults.{is_faulty}
use Rattle.ab_abs.specs.Values.{goes}
use Rattle.ab_abs.specs.Acts.{Setting, Act, IsHonest, WasMade}
use Rattle.ab_abs.specs.Kinds.{is_backup, kind_in, limit_in}
use Rattle.ab_abs.specs.OrderRules.{WasClaimed}
use Rattle.ab_lock.specs.Acts.{Prepare, Commit as lock_commit}
use Rattle.ab_lock.specs.Quorums.{IsCommitted, IsCertified}
use Rattle.ab_lock.specs.Steps.{signs}
use Rattle.ab_lock.proofs.ActLemmas.{made_prepare, commits_in}
use Rattle.ab_lock.proofs.Executed.{lock}
use Rattle.ab_lock.proofs.Traces.{signs_once}
use Rattle.ab_order.specs.Protos.{OrderProto, Obeys, backup, backup_sound, backup_stands}
use Rattle.ab_order.proofs.ProtoLaws as laws
use Rattle.ab_pbft_rules.specs.Traces.{OrderStep, IsSource, IsPbftSound}
use Rattle.ab_pbft_rules.specs.Rules.{Pbft, pbft}
use Rattle.ab_pbft_rules.specs.Standing.{PbftStands}
use Rattle.ab_pbft_rules.specs.Locks.{ArePrepared}
use Rattle.ab_pbft_rules.proofs.LawfulOrderer.{pbft_lawful}
use Rattle.ab_pbft_rules.proofs.LockedActs.{locked}
use Rattle.ab_pbft_rules.proofs.OneOrder.{traces, Made, stepped, by_replica, premises}
use Rattle.ab_pbft_rules.proofs.OrderlyOrderer.{pbft_orderly}
use Rattle.ab_promises.specs.OwnCalls.{OwnCallsKeep, AreAbstract}
use Rattle.ab_promises.specs.Certified.{SignOnce, IsCertificate, IsTaken, LockViews}
use Rattle.ab_promises.proofs.OwnLaws.{own_sound}

-- what a correct party checked of a correct one was made
checked_made : (x : Setting) (acts : List Act) → IsHonest x acts → (s : Content) → WasClaimed acts s → is_faulty x.faulty (maker_of s) ≡ false → WasMade acts s
checked_made x [] honest s was correct = absurd (Contains-none was.0 was.1)
checked_made x (b ∷ acts) honest s was correct =
    elim (Contains-cons_cases b acts was.0 was.1) [
      | inl e ↦ let m = honest.0 s (subst (λ (c : Act). Contains c.claims s) (sym e) was.2) correct in (m.0, Contains-tail b m.0 acts m.1, m.2)
      | inr more ↦ let m = checked_made x acts honest.1 s (was.0, more, was.2) correct in (m.0, Contains-tail b m.0 acts m.1, m.2)
    ]

module _ (x : Setting) (k : ℕ) (acts : List Act) (sound : IsPbftSound x k acts) where
  signed : (r v n : ℕ) (d : List ℕ) → WasMade acts (content.Prepare (Replica r) x.i v n d) → Contains (traces x k acts sound r) (signs v n d)
  signed r v n d was =
      let m = stepped x k acts sound (Prepare r v n d) (by_replica x k acts sound was.0 was.0.party (Prepare r v n d) refl was.1 was.2) in
      subst (λ (z : OrderStep). Contains (traces x k acts sound r) z) (made_prepare slot_digest r r v n d m.0 m.2).1 m.1

  pub sign_once : SignOnce x acts
  sign_once r v n d e good one two =
      signs_once slot_digest goes k (traces x k acts sound r) v n d e ((premises x k acts sound).follows r (good.within, good.correct)) (signed r v n d one) (signed r v n e two)

  committed : (v n : ℕ) (d : List ℕ) → ArePrepared x acts v n d → IsCommitted slot_digest x.cluster.f x.faulty (traces x k acts sound) v n d
  committed v n d prepared = record {
    by = prepared.by;
    replicas = prepared.replicas;
    enough = prepared.enough;
    each = λ r has.
        let o = prepared.each r has in
        let was = o.1 in (
          (o.0.within, o.0.correct),
          commits_in slot_digest x.cluster.f x.faulty (traces x k acts sound) (Made x k acts sound) (stepped x k acts sound) r v n d
              (by_replica x k acts sound was.0 was.0.party (lock_commit r v n d) refl was.1 was.2),
        );
  }

  certified : (w n : ℕ) (e : List ℕ) → IsCertificate x acts w n e → IsCertified x.cluster.f x.faulty (traces x k acts sound) w n e
  certified w n e cert = record {
    by = cert.by;
    replicas = cert.replicas;
    enough = cert.enough;
    signed = λ r has good. signed r w n e (cert.signed r has (record { within = good.0; correct = good.1 }));
  }

  taken_certificate : (w n : ℕ) (e : List ℕ) → IsTaken x acts w n e → IsCertificate x acts w n e
  taken_certificate w n e cert = record {
    by = cert.by;
    replicas = cert.replicas;
    enough = cert.enough;
    signed = λ r has good. checked_made x acts sound.premises.plain.honest (content.Prepare (Replica r) x.i w n e) (cert.checked r has) good.correct;
  }

  pub lock_views : LockViews x acts
  lock_views v n d prepared =
      let holds : (w : ℕ) (e : List ℕ) → v ≤ w → IsCertificate x acts w n e → e ≡ d =
      λ w e le cert. lock slot_digest x.cluster.f x.faulty (traces x k acts sound) (IsSource x acts) goes k (premises x k acts sound) v n d (committed v n d prepared) w le e (certified w n e cert) in
      record {
        prepared = λ w q e le good was. locked x k acts sound v w n q d e prepared le good was;
        certified = holds;
        taken = λ w e le cert. holds w e le (taken_certificate w n e cert);
      }

module _ {S Q : Type 0} (machine : Machine S) (orders : OrderProto Q Pbft) (obeys : Obeys orders pbft) where
  backup_kind : (k : Kind) → k ≡ kind.Backup → IsTrue (is_backup k)
  backup_kind k is = subst (λ (z : Kind). IsTrue (is_backup z)) (sym is) refl

  sounds : OwnCallsKeep (backup orders pbft machine) kind.Backup (backup_sound machine IsPbftSound)
  sounds x acts left is one own premises =
      (own_sound (backup orders pbft machine) (backup_sound machine IsPbftSound) (backup_stands orders pbft PbftStands) is_backup
      (laws.stays machine orders pbft obeys pbft_orderly IsPbftSound PbftStands pbft_lawful)
      (laws.nil machine orders pbft obeys pbft_orderly IsPbftSound PbftStands pbft_lawful)
      (laws.start machine orders pbft obeys pbft_orderly IsPbftSound PbftStands pbft_lawful)
      (λ y more me pen v call seen served may was. laws.takes machine orders pbft obeys pbft_orderly IsPbftSound PbftStands pbft_lawful y more me pen v call seen may was served)
      (laws.halts machine orders pbft obeys pbft_orderly IsPbftSound PbftStands pbft_lawful)
      (λ y more me n p low there. laws.trims machine orders pbft obeys pbft_orderly IsPbftSound PbftStands pbft_lawful y more me n p)
      (laws.others machine orders pbft obeys pbft_orderly IsPbftSound PbftStands pbft_lawful)
      x (backup_kind (kind_in x) is) one acts left own premises).sounds

  pub own_abstract : OwnCallsKeep (backup orders pbft machine) kind.Backup (AreAbstract machine)
  own_abstract x acts left is one own premises =
      laws.abstract_of machine orders pbft obeys pbft_orderly IsPbftSound PbftStands pbft_lawful x acts (backup_kind (kind_in x) is) (sounds x acts left is one own premises)

  pub own_sign_once : OwnCallsKeep (backup orders pbft machine) kind.Backup SignOnce
  own_sign_once x acts left is one own premises = sign_once x (limit_in x) acts (sounds x acts left is one own premises).0.ordered

  pub own_lock : OwnCallsKeep (backup orders pbft machine) kind.Backup LockViews
  own_lock x acts left is one own premises = lock_views x (limit_in x) acts (sounds x acts left is one own premises).0.ordered
