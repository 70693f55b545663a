-- A protocol that is one of two, by the kind of the instance.
use Rattle.std.specs.Prelude.{◌≡◌, ℕ, Bool, true, false, ◌||◌, Option, List}
use Rattle.ab_num.specs.declared.plan.Kind.{Kind}
use Rattle.ab_num.specs.Places.{kind_of}
use Rattle.ab_num.specs.declared.cluster.Cluster.{Cluster}
use Rattle.ab_msg.specs.declared.content.Content.{Content}
use Rattle.ab_msg.specs.declared.message.Out.{Out}
use Rattle.ab_msg.specs.Pens.{Pen}
use Rattle.ab_abs.specs.declared.entry.Entry.{Entry}
use Rattle.ab_abs.specs.Acts.{Act, Setting, State}
use Rattle.ab_abs.specs.Kinds.{kind_in}
use Rattle.ab_abs.specs.Messages.{Call}
use Rattle.ab_abs.specs.Ensembles.{Proto}
use Rattle.ab_plans.specs.declared.choice.Choice.{Choice}
use Rattle.ab_plans.specs.declared.choice.Choice.TheVariants.{First, Second}

-- the first serves these kinds, and the second what is left
abbrev pub either : (Kind → Bool) → (Kind → Bool) → Kind → Bool
either serves_p serves_q k = serves_p k || serves_q k

module _ {P Q : Type 0} (p : Proto P) (q : Proto Q) where
  abbrev pub begins : Bool → Cluster → ℕ → ℕ → Entry → Choice P Q
  begins true c i r e = First (p.begin c i r e)
  begins false c i r e = Second (q.begin c i r e)

  abbrev pub goes_on : Pen → Choice P Q → Call → Choice P Q
  goes_on pen (First v) call = First (p.after pen v call)
  goes_on pen (Second v) call = Second (q.after pen v call)

  abbrev pub sends : Pen → Choice P Q → Call → List Out
  sends pen (First v) call = p.sends pen v call
  sends pen (Second v) call = q.sends pen v call

  abbrev pub signs : Choice P Q → Call → List Content
  signs (First v) call = p.signs v call
  signs (Second v) call = q.signs v call

  abbrev pub stops : Choice P Q → Choice P Q
  stops (First v) = First (p.halt v)
  stops (Second v) = Second (q.halt v)

  abbrev pub trims : ℕ → Choice P Q → Choice P Q
  trims n (First v) = First (p.trim n v)
  trims n (Second v) = Second (q.trim n v)

  abbrev pub is_trimmed : Choice P Q → ℕ
  is_trimmed (First v) = p.trimmed v
  is_trimmed (Second v) = q.trimmed v

  abbrev pub stays : Choice P Q → State
  stays (First v) = p.state v
  stays (Second v) = q.state v

  abbrev pub choice : (Kind → Bool) → Proto (Choice P Q)
  choice serves = record {
    begin = λ c i r e. begins (serves (kind_of c.plan i)) c i r e;
    after = goes_on;
    sends = sends;
    signs = signs;
    halt = stops;
    trim = trims;
    trimmed = is_trimmed;
    state = stays;
  }

abbrev pub counted : {P Q : Type 0} → (P → Option ℕ) → (Q → Option ℕ) → Choice P Q → Option ℕ
counted p q (First v) = p v
counted p q (Second v) = q v

-- what holds of the one that serves the kind
abbrev pub chosen : Bool → Type 0 → Type 0 → Type 0
chosen true A B = A
chosen false A B = B

abbrev pub sound_by : (Kind → Bool) → (Setting → List Act → Type 0) → (Setting → List Act → Type 0) → Setting → List Act → Type 0
sound_by serves p q x acts = chosen (serves (kind_in x)) (p x acts) (q x acts)

abbrev pub stands_by : {P Q : Type 0} → (Kind → Bool) → (Setting → P → ℕ → List Act → Type 0) → (Setting → Q → ℕ → List Act → Type 0) → Setting → Choice P Q → ℕ → List Act → Type 0
stands_by serves p q x (First v) me acts = (serves (kind_in x) ≡ true) × p x v me acts
stands_by serves p q x (Second v) me acts = (serves (kind_in x) ≡ false) × q x v me acts
