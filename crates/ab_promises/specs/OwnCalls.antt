-- The acts of an instance in which each call of the protocol is its own.
use Rattle.std.specs.Prelude.{◌≡◌, ℕ, ◌≤◌, false, Option, None, Some, List, [], ◌∷◌, length}
use Rattle.ab_num.specs.declared.plan.Kind.{Kind}
use Rattle.ab_svc.specs.Machines.{Machine}
use Rattle.ab_msg.specs.Pens.{Pen}
use Rattle.ab_abs.specs.declared.seen.Seen.{Seen}
use Rattle.ab_abs.specs.declared.entry.Entry.{Entry}
use Rattle.ab_abs.specs.Faults.{is_faulty}
use Rattle.ab_abs.specs.Acts.{Act, Setting, MayStart, Premises, observations, named_in}
use Rattle.ab_abs.specs.Instances.{IsAbstract}
use Rattle.ab_abs.specs.Kinds.{kind_in}
use Rattle.ab_abs.specs.Messages.{Call}
use Rattle.ab_abs.specs.Rules.{IsOther}
use Rattle.ab_abs.specs.Ensembles.{Proto, MayTake, begin_of, asked_of, halt_of, put}

-- the acts, the newest first, leave replica r with the value left r, None if it has not begun. A replica that has not begun may begin, with
-- whatever base; then it takes each call, or a stop, with the value that its earlier acts left. Whatever else correct parties do is
-- no call of the protocol. That a replica trims its log is no act
pub data AreOwnCalls {P : Type 0} (proto : Proto P) (x : Setting) : List Act → (ℕ → Option P) → Type 0 where
  none_yet : AreOwnCalls proto x [] (λ r. None)
  begins : {acts : List Act} {left : ℕ → Option P} (me : ℕ) (e : Entry) → e.trimmed ≤ length e.base → AreOwnCalls proto x acts left → MayStart x acts me e.base
      → AreOwnCalls proto x (begin_of proto x me e ∷ acts) (put left me (Some (proto.begin x.cluster x.i me e)))
  takes : {acts : List Act} {left : ℕ → Option P} (me : ℕ) (p : P) (pen : Pen) (call : Call) (seen : List Seen) → AreOwnCalls proto x acts left → left me ≡ Some p → MayTake proto x acts me pen p call seen
      → AreOwnCalls proto x (asked_of proto x me pen p call seen ∷ acts) (put left me (Some (proto.after pen p call)))
  stops : {acts : List Act} {left : ℕ → Option P} (me : ℕ) (p : P) → AreOwnCalls proto x acts left → left me ≡ Some p
      → AreOwnCalls proto x (halt_of proto me p ∷ acts) (put left me (Some (proto.halt p)))
  trims : {acts : List Act} {left : ℕ → Option P} (me n : ℕ) (p : P) → AreOwnCalls proto x acts left → left me ≡ Some p → proto.trimmed p ≤ n → n ≤ length (proto.state p).log
      → AreOwnCalls proto x acts (put left me (Some (proto.trim n p)))
  others : {acts : List Act} {left : ℕ → Option P} (a : Act) → AreOwnCalls proto x acts left → is_faulty x.faulty a.party ≡ false → IsOther x acts a
      → AreOwnCalls proto x (a ∷ acts) left

-- whatever meets the premises in an instance of this kind, where each call of the protocol is its own, keeps the promise
abbrev pub OwnCallsKeep : {P : Type 0} → Proto P → Kind → (Setting → List Act → Type 0) → Type 0
OwnCallsKeep {P} proto k Promise = (x : Setting) (acts : List Act) (left : ℕ → Option P) → kind_in x ≡ k → 1 ≤ x.i → AreOwnCalls proto x acts left → Premises x acts → Promise x acts

-- what Abstract promises of an instance
abbrev pub AreAbstract : {S : Type 0} → Machine S → Setting → List Act → Type 0
AreAbstract machine x acts = IsAbstract machine (observations acts) (named_in x acts) x.faulty x.i
