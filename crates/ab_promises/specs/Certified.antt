-- What PBFT locks over its views, of the acts of an instance: COMMITs, and certificates too.
use Rattle.std.specs.Prelude.{◌≡◌, ℕ, ◌≤◌, List, Contains, length}
use Rattle.ab_num.specs.declared.party.Party.TheVariants.{Replica}
use Rattle.ab_msg.specs.declared.content.Content.TheVariants.{Prepare, Commit}
use Rattle.ab_abs.specs.Acts.{Setting, Act, WasMade}
use Rattle.ab_abs.specs.Backing.{IsCorrect}
use Rattle.ab_abs.specs.OrderRules.{WasClaimed}
use Rattle.ab_lock.specs.Quorums.{AreReplicas, quorum}
use Rattle.ab_pbft_rules.specs.Locks.{ArePrepared}

-- the PREPAREs that a correct replica signs for one view and slot have one digest
abbrev pub SignOnce : Setting → List Act → Type 0
SignOnce x acts = (r v n : ℕ) (d e : List ℕ) → IsCorrect x r → WasMade acts (Prepare (Replica r) x.i v n d) → WasMade acts (Prepare (Replica r) x.i v n e) → d ≡ e

-- a valid certificate of slot n in view v, wherever it stands: PREPAREs of 2f + 1 replicas with this digest. Those of correct replicas
-- were signed
pub record IsCertificate (x : Setting) (acts : List Act) (v n : ℕ) (d : List ℕ) : Type 0 where
  pub by : List ℕ
  pub replicas : AreReplicas x.cluster.f by
  pub enough : length by ≡ quorum x.cluster.f
  pub signed : (r : ℕ) → Contains by r → IsCorrect x r → WasMade acts (Prepare (Replica r) x.i v n d)

-- one whose PREPAREs correct parties checked, as in a VIEW-CHANGE that they took
pub record IsTaken (x : Setting) (acts : List Act) (v n : ℕ) (d : List ℕ) : Type 0 where
  pub by : List ℕ
  pub replicas : AreReplicas x.cluster.f by
  pub enough : length by ≡ quorum x.cluster.f
  pub checked : (r : ℕ) → Contains by r → WasClaimed acts (Prepare (Replica r) x.i v n d)

-- what slot n holds from view v on has this digest: what a correct replica prepares there, and each certificate
pub record IsHeld (x : Setting) (acts : List Act) (v n : ℕ) (d : List ℕ) : Type 0 where
  pub prepared : (w q : ℕ) (e : List ℕ) → v ≤ w → IsCorrect x q → WasMade acts (Commit (Replica q) x.i w n e) → e ≡ d
  pub certified : (w : ℕ) (e : List ℕ) → v ≤ w → IsCertificate x acts w n e → e ≡ d
  pub taken : (w : ℕ) (e : List ℕ) → v ≤ w → IsTaken x acts w n e → e ≡ d

-- what f + 1 correct replicas prepared in a view the slot holds from then on
abbrev pub LockViews : Setting → List Act → Type 0
LockViews x acts = (v n : ℕ) (d : List ℕ) → ArePrepared x acts v n d → IsHeld x acts v n d
