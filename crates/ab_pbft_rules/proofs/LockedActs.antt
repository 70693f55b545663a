-- What the acts of an instance lock.
use Rattle.std.proofs.Common.{◌≡◌, ℕ, List, refl, subst}
use Rattle.ab_abs.specs.Values.{goes}
use Rattle.ab_msg.specs.Slots.{slot_digest}
use Rattle.ab_abs.specs.Acts.{Setting, Act, WasMade as WasMadeIn}
use Rattle.ab_lock.specs.Quorums.{IsCommitted, HasPrepared}
use Rattle.ab_lock.specs.Acts.{Commit}
use Rattle.ab_lock.proofs.Locks.{certified_of}
use Rattle.ab_lock.proofs.Executed.{lock}
use Rattle.ab_pbft_rules.specs.Traces.{IsSource, IsPbftSound}
use Rattle.ab_pbft_rules.specs.Locks.{AreLocked}
use Rattle.ab_pbft_rules.proofs.OneOrder.{traces, Made, stepped, by_replica, premises}
use Rattle.ab_lock.proofs.ActLemmas.{commits_in}
use Rattle.ab_num.specs.declared.party.Party.TheVariants.{Replica}
use Rattle.ab_msg.specs.declared.content.Content.TheVariants as content

module _ (x : Setting) (k : ℕ) (acts : List Act) (sound : IsPbftSound x k acts) where
  committed : (r v n : ℕ) (d : List ℕ) → WasMadeIn acts (content.Commit (Replica r) x.i v n d) → HasPrepared slot_digest (traces x k acts sound) r v n d
  committed r v n d was =
      commits_in slot_digest x.cluster.f x.faulty (traces x k acts sound) (Made x k acts sound) (stepped x k acts sound) r v n d (by_replica x k acts sound was.0 was.0.party (Commit r v n d) refl was.1 was.2)

  pub locked : AreLocked x acts
  locked v w n q d e prepared le good was =
      let p = premises x k acts sound in
      let held : IsCommitted slot_digest x.cluster.f x.faulty (traces x k acts sound) v n d = record {
        by = prepared.by;
        replicas = prepared.replicas;
        enough = prepared.enough;
        each = λ r has.
            let o = prepared.each r has in
            ((o.0.within, o.0.correct), committed r v n d o.1);
      } in
      let other = committed q w n e was in
      let cert = certified_of slot_digest x.cluster.f x.faulty (traces x k acts sound) (IsSource x acts) goes k p q w other.values (good.within, good.correct) other.is_in n other.is_at.0 other.is_at.1 in
      let end = lock slot_digest x.cluster.f x.faulty (traces x k acts sound) (IsSource x acts) goes k p v n d held w le (slot_digest other.is_at.0) cert in
      subst (λ (z : List ℕ). z ≡ d) other.is_at.2 end
