-- The laws of a protocol, of plain functions.
use Rattle.std.specs.Prelude.{◌≡◌, ℕ, ◌≤◌, Bool, false, IsTrue, List, [], ◌∷◌, length, Contains}
use Rattle.ab_num.specs.declared.plan.Kind.{Kind}
use Rattle.ab_svc.specs.Machines.{Machine}
use Rattle.ab_msg.specs.Pens.{Pen}
use Rattle.ab_abs.specs.declared.seen.Seen.{Seen}
use Rattle.ab_abs.specs.declared.entry.Entry.{Entry}
use Rattle.ab_abs.specs.Faults.{is_faulty}
use Rattle.ab_abs.specs.Observations.{observed_in}
use Rattle.ab_abs.specs.Instances.{IsAbstract}
use Rattle.ab_abs.specs.Acts.{Act, Setting, MayStart, Premises, observations, named_in}
use Rattle.ab_abs.specs.Kinds.{kind_in}
use Rattle.ab_abs.specs.Rules.{IsOther, IsStill}
use Rattle.ab_abs.specs.Messages.{Call}
use Rattle.ab_abs.specs.Ensembles.{Proto, begin_of, asked_of, halt_of, MayTake}
use Rattle.ab_abs.specs.FormLaws.{KeepsPlace}

-- those of the trait Protocol that a run rests on
pub record IsLawfulProto {S P : Type 0} (machine : Machine S) (proto : Proto P) (serves : Kind → Bool) (sound : Setting → List Act → Type 0) (stands : Setting → P → ℕ → List Act → Type 0) : Type 0 where
  pub placed : KeepsPlace proto serves
  pub stands_stays : (x : Setting) (acts : List Act) (a : Act) (me : ℕ) (p : P) → IsStill me a → stands x p me acts → stands x p me (a ∷ acts)
  pub sound_nil : (x : Setting) → IsTrue (serves (kind_in x)) → 1 ≤ x.i → Premises x [] → sound x []
  pub lawful_start : (x : Setting) (acts : List Act) (me : ℕ) (e : Entry) → IsTrue (serves (kind_in x)) → e.trimmed ≤ length e.base → MayStart x acts me e.base → sound x acts
      → stands x (proto.begin x.cluster x.i me e) me (begin_of proto x me e ∷ acts) × (Premises x (begin_of proto x me e ∷ acts) → sound x (begin_of proto x me e ∷ acts))
  pub lawful_on : (x : Setting) (acts : List Act) (me : ℕ) (pen : Pen) (p : P) (m : Call) (seen : List Seen) → IsTrue (serves (kind_in x)) → MayTake proto x acts me pen p m seen → stands x p me acts
      → stands x (proto.after pen p m) me (asked_of proto x me pen p m seen ∷ acts) × (sound x acts → Premises x (asked_of proto x me pen p m seen ∷ acts) → sound x (asked_of proto x me pen p m seen ∷ acts))
  pub lawful_stop : (x : Setting) (acts : List Act) (me : ℕ) (p : P) → IsTrue (serves (kind_in x)) → stands x p me acts
      → stands x (proto.halt p) me (halt_of proto me p ∷ acts) × (sound x acts → Premises x (halt_of proto me p ∷ acts) → sound x (halt_of proto me p ∷ acts))
  pub stands_trimmed : (x : Setting) (acts : List Act) (me n : ℕ) (p : P) → proto.trimmed p ≤ n → n ≤ length (proto.state p).log → stands x p me acts → stands x (proto.trim n p) me acts
  pub lawful_others : (x : Setting) (acts : List Act) (a : Act) → IsTrue (serves (kind_in x)) → is_faulty x.faulty a.party ≡ false → IsOther x acts a → sound x acts → Premises x (a ∷ acts) → sound x (a ∷ acts)
  pub sound_abstract : (x : Setting) (acts : List Act) → IsTrue (serves (kind_in x)) → sound x acts → IsAbstract machine (observations acts) (named_in x acts) x.faulty x.i
  pub sound_names : (x : Setting) (acts : List Act) → IsTrue (serves (kind_in x)) → sound x acts → (a : Act) → Contains acts a → (s : Seen) → Contains a.observations s → observed_in s ≡ x.i
