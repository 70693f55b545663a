-- What a contract sees of a replica.
use Rattle.std.specs.Prelude.{◌≡◌, ℕ, ◌+◌, ◌%◌, ◌^◌, ◌≤◌, None, [], length}
use Rattle.ab_num.specs.declared.cluster.Cluster.{Cluster}
use Rattle.ab_msg.specs.Pens.{Pen}
use Rattle.ab_num.specs.Places.{kind_of}
use Rattle.ab_ckpt.specs.Marks.{no_marks}
use Rattle.ab_msg.specs.declared.content.Content.{Content}
use Rattle.ab_abs.specs.Kinds.{rule_of}
use Rattle.ab_abs.specs.Ensembles.{Proto, entry_of}
use Rattle.ab_run.specs.Setups.{RunSetup}
use Rattle.ab_run.specs.Checkpoints.{abort_after}
use Rattle.ab_run.specs.Replicas.{Rep}

-- its cluster, its number, how many signatures it can make, where it is, and how often it has entered an instance
pub record Site (P : Type 0) : Type 0 where
  pub cluster : Cluster
  pub me : ℕ
  pub signatures : ℕ
  pub rep : Rep P
  pub entries : ℕ

-- replica r of a cluster before the first event
abbrev pub first_site : {P : Type 0} → Proto P → Cluster → ℕ → ℕ → Site P
first_site proto c r signatures = record {
  cluster = c;
  me = r;
  signatures = signatures;
  rep = record { at = 1; value = proto.begin c 1 r (entry_of [] None); entry = entry_of [] None; abort = None; used = 0; kept = no_marks };
  entries = 0;
}

-- a run in which the replica stands: of its cluster, with as many signatures and with those of its pen
pub record IsSetupOf {P : Type 0} (k : RunSetup) (s : Site P) (pen : Pen) : Type 0 where
  pub cluster : k.cluster ≡ s.cluster
  pub signatures : k.signatures ≡ s.signatures
  pub sig : k.sig s.me ≡ pen.sig

-- the one in which nobody is faulty, and everybody signs as this replica does: what it does depends on neither
abbrev pub setup_of : {P : Type 0} → Site P → Pen → RunSetup
setup_of s pen = record { cluster = s.cluster; faulty = []; signatures = s.signatures; sig = λ r. pen.sig }

-- the pen has made the signatures that the replica made, and can make those that it has left
pub record IsPenOf {P : Type 0} (pen : Pen) (left : ℕ) (s : Site P) : Type 0 where
  pub used : pen.used ≡ s.rep.used
  pub rest : left + s.rep.used ≡ s.signatures

-- the pen after an event: it signs as before, and is that of the replica
pub record IsPenAfter {P : Type 0} (old new : Pen) (left : ℕ) (s : Site P) : Type 0 where
  pub sig : new.sig ≡ old.sig
  pub own : IsPenOf new left s

-- the number of a timer that has been set anew so often before, as 64 bits hold it
abbrev pub timer_number : ℕ → ℕ → ℕ
timer_number entries n = (n + entries) % 2 ^ 64

-- the log of a value has what is trimmed of it
abbrev pub IsWithin : {P : Type 0} → Proto P → P → Type 0
IsWithin proto v = proto.trimmed v ≤ length (proto.state v).log

-- what it states as it aborts with this value, by the rule of its instance
abbrev pub stated_by : {P : Type 0} → Proto P → Site P → P → Content
stated_by proto s v = abort_after (proto.trimmed v) (rule_of (kind_of s.cluster.plan s.rep.at) s.cluster.f) s.rep.at s.me (proto.state v)
