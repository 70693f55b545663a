-- The acts of one replica in an instance, whatever the others do and whoever is faulty.
use Rattle.std.specs.Prelude.{◌≡◌, ◌⊎◌, ℕ, ◌<◌, ◌≤◌, Bool, true, false, IsTrue, None, List, [], ◌∷◌, Contains, length}
use Rattle.ab_num.specs.declared.cluster.Cluster.{Cluster}
use Rattle.ab_num.specs.declared.party.Party.TheVariants.{Replica}
use Rattle.ab_num.specs.declared.plan.Kind.{Kind}
use Rattle.ab_num.specs.Places.{kind_of}
use Rattle.ab_msg.specs.declared.content.Content.{Content}
use Rattle.ab_msg.specs.declared.content.Content.TheVariants.{Abort, AbortZ, TrimmedAbort, Prepare}
use Rattle.ab_msg.specs.declared.message.Out.{Out}
use Rattle.ab_msg.specs.Claims.{maker_of, instance_of, fresh}
use Rattle.ab_msg.specs.Pens.{Pen}
use Rattle.ab_abs.specs.declared.seen.Seen.{Seen}
use Rattle.ab_abs.specs.declared.entry.Entry.{Entry}
use Rattle.ab_abs.specs.Acts.{Act, Setting, MayStart, WasMade, setting}
use Rattle.ab_abs.specs.Kinds.{rule_in}
use Rattle.ab_abs.specs.FormLaws.{Belongs}
use Rattle.ab_abs.specs.Messages.{Call}
use Rattle.ab_abs.specs.Ensembles.{Proto, MayTake, begin_of, asked_of, halt_of}
use Rattle.ab_run.specs.Checkpoints.{abort_after, checkpoint_of}

-- replica r states this, and goes on where it is
abbrev pub states : ℕ → Content → Act
states r s = record { party = Replica r; claims = []; values = []; made = s ∷ []; observations = []; state = None }

-- its ABORT, which leaves out what is trimmed of its log, and its CHECKPOINT of the first n entries
abbrev pub aborts_by : {P : Type 0} → Proto P → Setting → ℕ → P → Act
aborts_by proto x r p = states r (abort_after (proto.trimmed p) (rule_in x) x.i r (proto.state p))

abbrev pub marks_by : {P : Type 0} → Proto P → Setting → ℕ → ℕ → P → Act
marks_by proto x r n p = states r (checkpoint_of x.i r n (proto.state p).log)

-- the acts of replica r, the newest first, leave it with this value. It begins with whatever base; then it takes each call, or a stop, with
-- the value that its earlier acts left; until it is stopped it may make a CHECKPOINT of first entries of its log that aren't all trimmed,
-- and trim its log, which is no act; and once it is stopped it may make its ABORT
pub data AreActsOf {P : Type 0} (proto : Proto P) (x : Setting) (r : ℕ) : List Act → P → Type 0 where
  begins : (e : Entry) → e.trimmed ≤ length e.base → MayStart x [] r e.base → AreActsOf proto x r (begin_of proto x r e ∷ []) (proto.begin x.cluster x.i r e)
  takes : {acts : List Act} {p : P} (pen : Pen) (call : Call) (seen : List Seen) → AreActsOf proto x r acts p → MayTake proto x acts r pen p call seen
      → AreActsOf proto x r (asked_of proto x r pen p call seen ∷ acts) (proto.after pen p call)
  stops : {acts : List Act} {p : P} → AreActsOf proto x r acts p → AreActsOf proto x r (halt_of proto r p ∷ acts) (proto.halt p)
  aborts : {acts : List Act} {p : P} → AreActsOf proto x r acts p → (proto.state p).stopped ≡ true → AreActsOf proto x r (aborts_by proto x r p ∷ acts) p
  marks : {acts : List Act} {p : P} (n : ℕ) → AreActsOf proto x r acts p → (proto.state p).stopped ≡ false → proto.trimmed p < n → n ≤ length (proto.state p).log
      → AreActsOf proto x r (marks_by proto x r n p ∷ acts) p
  trims : {acts : List Act} {p : P} (n : ℕ) → AreActsOf proto x r acts p → (proto.state p).stopped ≡ false → proto.trimmed p ≤ n → n ≤ length (proto.state p).log → AreActsOf proto x r acts (proto.trim n p)

-- the same of instance i of a cluster. Who else is faulty plays no part
abbrev pub AreActsIn : {P : Type 0} → Proto P → Cluster → ℕ → ℕ → List Act → P → Type 0
AreActsIn proto c i r acts p = AreActsOf proto (setting c [] i) r acts p

-- the acts of each replica by itself keep the promise, in each instance whose kind is served
abbrev pub ActsKeep : {P : Type 0} → Proto P → (Kind → Bool) → (ℕ → ℕ → List Act → Type 0) → Type 0
ActsKeep {P} proto serves Promise = (c : Cluster) (i r : ℕ) (acts : List Act) (p : P) → IsTrue (serves (kind_of c.plan i)) → 1 ≤ i → AreActsIn proto c i r acts p → Promise i r acts

-- ---- what is stated once

abbrev pub is_abort : Content → Bool
is_abort (Abort maker i h) = true
is_abort (AbortZ maker i h zcert) = true
is_abort (TrimmedAbort maker i start digest rest) = true
is_abort _ = false

abbrev pub is_prepare : Content → Bool
is_prepare (Prepare maker i view slot x) = true
is_prepare _ = false

-- no call states such a content in what it sends
abbrev pub StatesNone : {P : Type 0} → Proto P → (Kind → Bool) → (Content → Bool) → Type 0
StatesNone {P} proto serves test =
    (c : Cluster) (i r : ℕ) (pen : Pen) (p : P) (call : Call) (o : Out) (s : Content) → Belongs proto serves c i r p → Contains (proto.sends pen p call) o
    → Contains (fresh c.f (Replica r) o.msg) s → test s ≡ false

-- an ABORT of replica r in instance i, with a certificate of answers or without
abbrev pub IsAbortOf : ℕ → ℕ → Content → Type 0
IsAbortOf r i s = (is_abort s ≡ true) × (maker_of s ≡ Replica r) × (instance_of s ≡ i)

-- those among these acts are one: they hold one history, of which as much is trimmed, and the same certificate of answers or none
abbrev pub AbortsOnce : ℕ → ℕ → List Act → Type 0
AbortsOnce i r acts = (s t : Content) → IsAbortOf r i s → IsAbortOf r i t → WasMade acts s → WasMade acts t → s ≡ t

-- its PREPAREs of a view and a slot there have one digest
abbrev pub PreparesOnce : ℕ → ℕ → List Act → Type 0
PreparesOnce i r acts = (v n : ℕ) (d e : List ℕ) → WasMade acts (Prepare (Replica r) i v n d) → WasMade acts (Prepare (Replica r) i v n e) → d ≡ e

-- ---- in runs

-- what replica r made in instance i is what its acts there made
pub record HasActsIn {P : Type 0} (proto : Proto P) (c : Cluster) (i r : ℕ) (made : List Content) : Type 0 where
  pub one : 1 ≤ i
  pub acts : List Act
  pub value : P
  pub are : AreActsIn proto c i r acts value
  pub said : (s : Content) → Contains made s → maker_of s ≡ Replica r → instance_of s ≡ i → WasMade acts s

-- it made nothing there, or that
abbrev pub ActsByItself : {P : Type 0} → Proto P → Cluster → ℕ → ℕ → List Content → Type 0
ActsByItself proto c i r made = ((s : Content) → Contains made s → maker_of s ≡ Replica r → instance_of s ≡ i → ⊥) ⊎ HasActsIn proto c i r made

-- what replica r made has one ABORT of an instance, and one PREPARE of an instance, a view and a slot
abbrev pub AbortsOnceIn : List Content → ℕ → Type 0
AbortsOnceIn made r = (i : ℕ) (s t : Content) → IsAbortOf r i s → IsAbortOf r i t → Contains made s → Contains made t → s ≡ t

abbrev pub PreparesOnceIn : List Content → ℕ → Type 0
PreparesOnceIn made r = (i v n : ℕ) (d e : List ℕ) → Contains made (Prepare (Replica r) i v n d) → Contains made (Prepare (Replica r) i v n e) → d ≡ e
