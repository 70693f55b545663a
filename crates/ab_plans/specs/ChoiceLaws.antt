-- A choice between two lawful protocols is lawful.
use Rattle.std.proofs.Common.{◌≡◌, ℕ, ◌≤◌, Bool, true, false, ◌||◌, None, List, [], ◌∷◌, length, ◌⊎◌, refl, ap, inl, inr}
use Rattle.std.specs.Prelude.{IsTrue}
use Rattle.ab_num.specs.declared.plan.Kind.{Kind}
use Rattle.ab_num.specs.Places.{kind_of}
use Rattle.ab_num.specs.declared.cluster.Cluster.{Cluster}
use Rattle.ab_svc.specs.Machines.{Machine}
use Rattle.ab_msg.specs.Pens.{Pen}
use Rattle.ab_abs.specs.declared.seen.Seen.{Seen}
use Rattle.ab_abs.specs.declared.entry.Entry.{Entry}
use Rattle.ab_abs.specs.Acts.{Act, Setting, MayStart, Premises, start_of}
use Rattle.ab_abs.specs.Kinds.{kind_in, is_backup}
use Rattle.ab_abs.specs.Rules.{IsStill}
use Rattle.ab_abs.specs.Messages.{Call}
use Rattle.ab_abs.specs.Ensembles.{Proto, entry_of, begin_of, asked_of, halt_of, MayTake}
use Rattle.ab_abs.specs.RuleLaws.{KeepsRules, log_at_start, may_take}
use Rattle.ab_abs.specs.FormLaws.{KeepsForm, IsBlank, Belongs, begun, called, halted, trimmed, Arises, from_entry, by_call, by_stop, by_trim}
use Rattle.ab_plans.specs.declared.choice.Choice.{Choice}
use Rattle.ab_plans.specs.declared.choice.Choice.TheVariants.{First, Second}
use Rattle.ab_plans.specs.ChoiceRules.{either, begins, choice, chosen, stands_by}

module _ {P Q : Type 0} (p : Proto P) (q : Proto Q) (serves_p serves_q : Kind → Bool) where
  abbrev pub one_of : Proto (Choice P Q)
  one_of = choice p q serves_p

  abbrev pub serves : Kind → Bool
  serves = either serves_p serves_q

  -- whose value it is
  abbrev pub BelongsIn : Cluster → ℕ → ℕ → Choice P Q → Type 0
  BelongsIn c i r (First v) = Belongs p serves_p c i r v
  BelongsIn c i r (Second v) = Belongs q serves_q c i r v

  begun_in : (b : Bool) (c : Cluster) (i r : ℕ) (e : Entry) → serves_p (kind_of c.plan i) ≡ b → IsTrue (b || serves_q (kind_of c.plan i)) → e.trimmed ≤ length e.base → BelongsIn c i r (begins p q b c i r e)
  begun_in true c i r e is served fits = begun e is fits
  begun_in false c i r e is served fits = begun e served fits

  pub belongs : (c : Cluster) (i r : ℕ) (v : Choice P Q) → Belongs one_of serves c i r v → BelongsIn c i r v
  belongs c i r v (begun e served fits) = begun_in (serves_p (kind_of c.plan i)) c i r e refl served fits
  belongs c i r v (called pen (First w) call was) = called pen w call (belongs c i r (First w) was)
  belongs c i r v (called pen (Second w) call was) = called pen w call (belongs c i r (Second w) was)
  belongs c i r v (halted (First w) was) = halted w (belongs c i r (First w) was)
  belongs c i r v (halted (Second w) was) = halted w (belongs c i r (Second w) was)
  belongs c i r v (trimmed n (First w) low high was) = trimmed n w low high (belongs c i r (First w) was)
  belongs c i r v (trimmed n (Second w) low high was) = trimmed n w low high (belongs c i r (Second w) was)

  abbrev ArisesIn : Cluster → ℕ → ℕ → Choice P Q → Type 0
  ArisesIn c i r (First v) = Arises p serves_p c i r v
  ArisesIn c i r (Second v) = Arises q serves_q c i r v

  arises : (c : Cluster) (i r : ℕ) (v : Choice P Q) → Arises one_of serves c i r v → ArisesIn c i r v
  arises c i r v (from_entry e served placed lt entry) = from_in (serves_p (kind_of c.plan i)) refl served
    where
      from_in : (b : Bool) → serves_p (kind_of c.plan i) ≡ b → IsTrue (b || serves_q (kind_of c.plan i)) → ArisesIn c i r (begins p q b c i r e)
      from_in true is served' = from_entry e is placed lt entry
      from_in false is served' = from_entry e served' placed lt entry
  arises c i r v (by_call pen (First w) call lawful formed was) = by_call pen w call lawful formed (arises c i r (First w) was)
  arises c i r v (by_call pen (Second w) call lawful formed was) = by_call pen w call lawful formed (arises c i r (Second w) was)
  arises c i r v (by_stop (First w) was) = by_stop w (arises c i r (First w) was)
  arises c i r v (by_stop (Second w) was) = by_stop w (arises c i r (Second w) was)
  arises c i r v (by_trim n (First w) low high was) = by_trim n w low high (arises c i r (First w) was)
  arises c i r v (by_trim n (Second w) low high was) = by_trim n w low high (arises c i r (Second w) was)

  module _ (form_p : KeepsForm p serves_p) (form_q : KeepsForm q serves_q) where
    starts_in : (b : Bool) (c : Cluster) (r : ℕ) → IsBlank (one_of.state (begins p q b c 1 r (entry_of [] None)))
    starts_in true c r = form_p.starts c r
    starts_in false c r = form_q.starts c r

    halts_in : (v : Choice P Q) → ((one_of.state (one_of.halt v)).log ≡ (one_of.state v).log) × (((one_of.state (one_of.halt v)).stopped ≡ true) ⊎ (one_of.halt v ≡ v))
    halts_in (First v) = let h = form_p.halts v in (h.0, elim h.1 [ inl stopped ↦ inl stopped | inr same ↦ inr (ap First same) ])
    halts_in (Second v) = let h = form_q.halts v in (h.0, elim h.1 [ inl stopped ↦ inl stopped | inr same ↦ inr (ap Second same) ])

    enters_in : (b : Bool) (c : Cluster) (i r : ℕ) (e : Entry) → (one_of.state (begins p q b c i r e)).entered ≡ e.base
    enters_in true c i r e = form_p.enters c i r e
    enters_in false c i r e = form_q.enters c i r e

    begins_trimmed_in : (b : Bool) (c : Cluster) (i r : ℕ) (e : Entry) → one_of.trimmed (begins p q b c i r e) ≡ e.trimmed
    begins_trimmed_in true c i r e = form_p.begins_trimmed c i r e
    begins_trimmed_in false c i r e = form_q.begins_trimmed c i r e

    begins_in : (b : Bool) (c : Cluster) (i r : ℕ) (e : Entry)
        → (((one_of.state (begins p q b c i r e)).log ≡ e.base) ⊎ ((one_of.state (begins p q b c i r e)).log ≡ [])) × ((one_of.state (begins p q b c i r e)).first ≡ None)
    begins_in true c i r e = form_p.begins c i r e
    begins_in false c i r e = form_q.begins c i r e

    logs_in : (b : Bool) (c : Cluster) (i r : ℕ) (e : Entry) → serves_p (kind_of c.plan i) ≡ b → IsTrue (b || serves_q (kind_of c.plan i)) → is_backup (kind_of c.plan i) ≡ false
        → (one_of.state (begins p q b c i r e)).log ≡ e.base
    logs_in true c i r e is served other = form_p.logs c i r e is other
    logs_in false c i r e is served other = form_q.logs c i r e served other

    pub form_law : KeepsForm one_of serves
    form_law = record {
      starts = λ c r. starts_in (serves_p (kind_of c.plan 1)) c r;
      grows = λ pen. elim [ First v ↦ form_p.grows pen v | Second v ↦ form_q.grows pen v ];
      frozen = λ c i r pen. elim [
        | First v ↦ λ call was. form_p.frozen c i r pen v call (belongs c i r (First v) was)
        | Second v ↦ λ call was. form_q.frozen c i r pen v call (belongs c i r (Second v) was)
      ];
      halts = halts_in;
      begins = λ c i r e. begins_in (serves_p (kind_of c.plan i)) c i r e;
      logs = λ c i r e served other. logs_in (serves_p (kind_of c.plan i)) c i r e refl served other;
      enters = λ c i r e. enters_in (serves_p (kind_of c.plan i)) c i r e;
      entered_stays = λ pen. elim [ First v ↦ form_p.entered_stays pen v | Second v ↦ form_q.entered_stays pen v ];
      entered_rests = elim [ First v ↦ form_p.entered_rests v | Second v ↦ form_q.entered_rests v ];
      trim_rests = λ n. elim [ First v ↦ form_p.trim_rests n v | Second v ↦ form_q.trim_rests n v ];
      trims = λ n. elim [ First v ↦ form_p.trims n v | Second v ↦ form_q.trims n v ];
      begins_trimmed = λ c i r e. begins_trimmed_in (serves_p (kind_of c.plan i)) c i r e;
      trimmed_stays = λ pen. elim [ First v ↦ form_p.trimmed_stays pen v | Second v ↦ form_q.trimmed_stays pen v ];
      trimmed_rests = elim [ First v ↦ form_p.trimmed_rests v | Second v ↦ form_q.trimmed_rests v ];
      zcert_stays = λ c i r pen. elim [
        | First v ↦ λ call was. form_p.zcert_stays c i r pen v call (belongs c i r (First v) was)
        | Second v ↦ λ call was. form_q.zcert_stays c i r pen v call (belongs c i r (Second v) was)
      ];
      zcert_rests = elim [ First v ↦ form_p.zcert_rests v | Second v ↦ form_q.zcert_rests v ];
      zcert_beside = λ c i r. elim [
        | First v ↦ λ was. form_p.zcert_beside c i r v (belongs c i r (First v) was)
        | Second v ↦ λ was. form_q.zcert_beside c i r v (belongs c i r (Second v) was)
      ];
      own = λ c i r pen. elim [
        | First v ↦ λ call o s was. form_p.own c i r pen v call o s (belongs c i r (First v) was)
        | Second v ↦ λ call o s was. form_q.own c i r pen v call o s (belongs c i r (Second v) was)
      ];
      silent = λ c i r pen. elim [
        | First v ↦ λ call o s was. form_p.silent c i r pen v call o s (belongs c i r (First v) was)
        | Second v ↦ λ call o s was. form_q.silent c i r pen v call o s (belongs c i r (Second v) was)
      ];
      signed = λ pen. elim [ First v ↦ form_p.signed pen v | Second v ↦ form_q.signed pen v ];
      sent = λ pen. elim [ First v ↦ form_p.sent pen v | Second v ↦ form_q.sent pen v ];
      settles = λ c i r pen. elim [
        | First v ↦ λ call cert was. form_p.settles c i r pen v call cert (belongs c i r (First v) was)
        | Second v ↦ λ call cert was. form_q.settles c i r pen v call cert (belongs c i r (Second v) was)
      ];
      written = λ c i r. elim [
        | First v ↦ λ was. form_p.written c i r v (arises c i r (First v) was)
        | Second v ↦ λ was. form_q.written c i r v (arises c i r (Second v) was)
      ];
      zcert_written = λ c i r. elim [
        | First v ↦ λ was. form_p.zcert_written c i r v (arises c i r (First v) was)
        | Second v ↦ λ was. form_q.zcert_written c i r v (arises c i r (Second v) was)
      ];
      drafts = λ c i r pen. elim [
        | First v ↦ λ call lawful was. form_p.drafts c i r pen v call lawful (arises c i r (First v) was)
        | Second v ↦ λ call lawful was. form_q.drafts c i r pen v call lawful (arises c i r (Second v) was)
      ];
    }

  -- the one that runs it keeps to its rule table
  module _ {S : Type 0} (machine : Machine S) (rules_p : KeepsRules machine p serves_p) (rules_q : KeepsRules machine q serves_q) where
    log_begins_in : (b : Bool) (c : Cluster) (i r : ℕ) (e : Entry) → serves_p (kind_of c.plan i) ≡ b → IsTrue (b || serves_q (kind_of c.plan i))
        → (one_of.state (begins p q b c i r e)).log ≡ log_at_start (kind_of c.plan i) e.base
    log_begins_in true c i r e is served = rules_p.begins c i r e is
    log_begins_in false c i r e is served = rules_q.begins c i r e served

    abbrev Ignored : Choice P Q → Pen → Call → Type 0
    Ignored v pen call = (one_of.after pen v call ≡ v) × (one_of.sends pen v call ≡ []) × (one_of.signs v call ≡ [])

    ignores_in : (c : Cluster) (i r : ℕ) (pen : Pen) (v : Choice P Q) (call : Call) → Belongs one_of serves c i r v → may_take (kind_of c.plan i) (one_of.state v).stopped call ≡ false → Ignored v pen call
    ignores_in c i r pen (First v) call was shut = let w = rules_p.ignores c i r pen v call (belongs c i r (First v) was) shut in (ap First w.0, w.1, w.2)
    ignores_in c i r pen (Second v) call was shut = let w = rules_q.ignores c i r pen v call (belongs c i r (Second v) was) shut in (ap Second w.0, w.1, w.2)

    pub rule_law : KeepsRules machine one_of serves
    rule_law = record {
      answers = λ c i r pen. elim [
        | First v ↦ λ call o s was. rules_p.answers c i r pen v call o s (belongs c i r (First v) was)
        | Second v ↦ λ call o s was. rules_q.answers c i r pen v call o s (belongs c i r (Second v) was)
      ];
      ignores = ignores_in;
      begins = λ c i r e is. log_begins_in (serves_p (kind_of c.plan i)) c i r e refl is;
      stops = λ c i r. elim [
        | First v ↦ λ was. rules_p.stops c i r v (belongs c i r (First v) was)
        | Second v ↦ λ was. rules_q.stops c i r v (belongs c i r (Second v) was)
      ];
      rests = λ c i r. elim [
        | First v ↦ λ was is. ap First (rules_p.rests c i r v (belongs c i r (First v) was) is)
        | Second v ↦ λ was is. ap Second (rules_q.rests c i r v (belongs c i r (Second v) was) is)
      ];
      keeps_none = λ c i r. elim [
        | First v ↦ λ was. rules_p.keeps_none c i r v (belongs c i r (First v) was)
        | Second v ↦ λ was. rules_q.keeps_none c i r v (belongs c i r (Second v) was)
      ];
    }

module _ {S P Q : Type 0} (machine : Machine S) (p : Proto P) (q : Proto Q) (serves_p serves_q : Kind → Bool)
    (sound_p : Setting → List Act → Type 0) (sound_q : Setting → List Act → Type 0) (stands_p : Setting → P → ℕ → List Act → Type 0) (stands_q : Setting → Q → ℕ → List Act → Type 0) where
  abbrev of_both : Proto (Choice P Q)
  of_both = choice p q serves_p

  abbrev are_served : Setting → Type 0
  are_served x = IsTrue (serves_p (kind_in x) || serves_q (kind_in x))

  abbrev SoundOf : Bool → Setting → List Act → Type 0
  SoundOf b x acts = chosen b (sound_p x acts) (sound_q x acts)

  abbrev StandsOf : Setting → Choice P Q → ℕ → List Act → Type 0
  StandsOf x v me acts = stands_by serves_p stands_p stands_q x v me acts

  -- one more act keeps sound acts sound
  abbrev KeepsOf : Bool → Setting → List Act → Act → Type 0
  KeepsOf b x acts a = SoundOf b x acts → Premises x (a ∷ acts) → SoundOf b x (a ∷ acts)

  abbrev LawOf : {V : Type 0} → Proto V → (Kind → Bool) → (Setting → List Act → Type 0) → (Setting → V → ℕ → List Act → Type 0) → Setting → List Act → ℕ → V → Act → Type 0
  LawOf proto serves sound stands x acts me v a = stands x v me (a ∷ acts) × (sound x acts → Premises x (a ∷ acts) → sound x (a ∷ acts))

  -- the same as a replica begins after sound acts
  abbrev StartOf : {V : Type 0} → Proto V → (Kind → Bool) → (Setting → List Act → Type 0) → (Setting → V → ℕ → List Act → Type 0) → Setting → List Act → ℕ → V → Act → Type 0
  StartOf proto serves sound stands x acts me v a = sound x acts → stands x v me (a ∷ acts) × (Premises x (a ∷ acts) → sound x (a ∷ acts))

  pub stays_law : ((x : Setting) (acts : List Act) (a : Act) (me : ℕ) (v : P) → IsStill me a → stands_p x v me acts → stands_p x v me (a ∷ acts))
      → ((x : Setting) (acts : List Act) (a : Act) (me : ℕ) (v : Q) → IsStill me a → stands_q x v me acts → stands_q x v me (a ∷ acts))
      → (x : Setting) (acts : List Act) (a : Act) (me : ℕ) (v : Choice P Q) → IsStill me a → StandsOf x v me acts → StandsOf x v me (a ∷ acts)
  stays_law law_p law_q x acts a me (First v) apart was = (was.0, law_p x acts a me v apart was.1)
  stays_law law_p law_q x acts a me (Second v) apart was = (was.0, law_q x acts a me v apart was.1)

  -- it stands as it stood when it is trimmed
  abbrev TrimOf : {V : Type 0} → Proto V → (Setting → V → ℕ → List Act → Type 0) → Type 0
  TrimOf {V} proto stands = (x : Setting) (acts : List Act) (me n : ℕ) (v : V) → proto.trimmed v ≤ n → n ≤ length (proto.state v).log → stands x v me acts → stands x (proto.trim n v) me acts

  pub trim_law : TrimOf p stands_p → TrimOf q stands_q → TrimOf of_both StandsOf
  trim_law law_p law_q x acts me n (First v) low high was = (was.0, law_p x acts me n v low high was.1)
  trim_law law_p law_q x acts me n (Second v) low high was = (was.0, law_q x acts me n v low high was.1)

  module _ (x : Setting) where
    nil_in : (b : Bool) → (IsTrue (serves_p (kind_in x)) → 1 ≤ x.i → Premises x [] → sound_p x []) → (IsTrue (serves_q (kind_in x)) → 1 ≤ x.i → Premises x [] → sound_q x [])
        → serves_p (kind_in x) ≡ b → IsTrue (b || serves_q (kind_in x)) → 1 ≤ x.i → Premises x [] → SoundOf b x []
    nil_in true law_p law_q is served = law_p is
    nil_in false law_p law_q is served = law_q served

    pub nil_law : (IsTrue (serves_p (kind_in x)) → 1 ≤ x.i → Premises x [] → sound_p x []) → (IsTrue (serves_q (kind_in x)) → 1 ≤ x.i → Premises x [] → sound_q x [])
        → are_served x → 1 ≤ x.i → Premises x [] → SoundOf (serves_p (kind_in x)) x []
    nil_law law_p law_q served = nil_in (serves_p (kind_in x)) law_p law_q refl served

    module _ (acts : List Act) where
      start_in : (b : Bool) (me : ℕ) (e : Entry) → (IsTrue (serves_p (kind_in x)) → e.trimmed ≤ length e.base → MayStart x acts me e.base → StartOf p serves_p sound_p stands_p x acts me (p.begin x.cluster x.i me e) (begin_of p x me e))
          → (IsTrue (serves_q (kind_in x)) → e.trimmed ≤ length e.base → MayStart x acts me e.base → StartOf q serves_q sound_q stands_q x acts me (q.begin x.cluster x.i me e) (begin_of q x me e))
          → serves_p (kind_in x) ≡ b → IsTrue (b || serves_q (kind_in x)) → e.trimmed ≤ length e.base → MayStart x acts me e.base
          → SoundOf b x acts → StandsOf x (begins p q b x.cluster x.i me e) me (start_of x me e.base (of_both.state (begins p q b x.cluster x.i me e)) ∷ acts)
          × (Premises x (start_of x me e.base (of_both.state (begins p q b x.cluster x.i me e)) ∷ acts) → SoundOf b x (start_of x me e.base (of_both.state (begins p q b x.cluster x.i me e)) ∷ acts))
      start_in true me e law_p law_q is served low may was = let law = law_p is low may was in ((is, law.0), law.1)
      start_in false me e law_p law_q is served low may was = let law = law_q served low may was in ((is, law.0), law.1)

      pub start_law : (me : ℕ) (e : Entry) → (IsTrue (serves_p (kind_in x)) → e.trimmed ≤ length e.base → MayStart x acts me e.base → StartOf p serves_p sound_p stands_p x acts me (p.begin x.cluster x.i me e) (begin_of p x me e))
          → (IsTrue (serves_q (kind_in x)) → e.trimmed ≤ length e.base → MayStart x acts me e.base → StartOf q serves_q sound_q stands_q x acts me (q.begin x.cluster x.i me e) (begin_of q x me e))
          → are_served x → e.trimmed ≤ length e.base → MayStart x acts me e.base
          → SoundOf (serves_p (kind_in x)) x acts → StandsOf x (of_both.begin x.cluster x.i me e) me (begin_of of_both x me e ∷ acts)
          × (Premises x (begin_of of_both x me e ∷ acts) → SoundOf (serves_p (kind_in x)) x (begin_of of_both x me e ∷ acts))
      start_law me e law_p law_q served = start_in (serves_p (kind_in x)) me e law_p law_q refl served

      -- the second serves what the first does not
      second : (b : Bool) → IsTrue (b || serves_q (kind_in x)) → b ≡ false → IsTrue (serves_q (kind_in x))
      second true served differs = absurd (cc (differs))
      second false served differs = served

      -- what holds of the one holds of the chosen
      for_first : (b : Bool) → b ≡ true → (a : Act) → (sound_p x acts → Premises x (a ∷ acts) → sound_p x (a ∷ acts)) → KeepsOf b x acts a
      for_first true is a law = law
      for_first false is a law = absurd (cc (is))

      for_second : (b : Bool) → b ≡ false → (a : Act) → (sound_q x acts → Premises x (a ∷ acts) → sound_q x (a ∷ acts)) → KeepsOf b x acts a
      for_second true is a law = absurd (cc (is))
      for_second false is a law = law

      pub on_law : ((me : ℕ) (pen : Pen) (v : P) (call : Call) (seen : List Seen) → IsTrue (serves_p (kind_in x)) → MayTake p x acts me pen v call seen → stands_p x v me acts → LawOf p serves_p sound_p stands_p x acts me (p.after pen v call) (asked_of p x me pen v call seen))
          → ((me : ℕ) (pen : Pen) (v : Q) (call : Call) (seen : List Seen) → IsTrue (serves_q (kind_in x)) → MayTake q x acts me pen v call seen → stands_q x v me acts → LawOf q serves_q sound_q stands_q x acts me (q.after pen v call) (asked_of q x me pen v call seen))
          → (me : ℕ) (pen : Pen) (v : Choice P Q) (call : Call) (seen : List Seen) → are_served x → MayTake of_both x acts me pen v call seen → StandsOf x v me acts
          → StandsOf x (of_both.after pen v call) me (asked_of of_both x me pen v call seen ∷ acts) × KeepsOf (serves_p (kind_in x)) x acts (asked_of of_both x me pen v call seen)
      on_law law_p law_q me pen (First v) call seen served may was =
          let law = law_p me pen v call seen was.0 (record { formed = may.formed; for = may.for; noted = may.noted; settled = may.settled }) was.1 in
          ((was.0, law.0), for_first (serves_p (kind_in x)) was.0 (asked_of p x me pen v call seen) law.1)
      on_law law_p law_q me pen (Second v) call seen served may was =
          let law = law_q me pen v call seen (second (serves_p (kind_in x)) served was.0) (record { formed = may.formed; for = may.for; noted = may.noted; settled = may.settled }) was.1 in
          ((was.0, law.0), for_second (serves_p (kind_in x)) was.0 (asked_of q x me pen v call seen) law.1)

      pub stop_law : ((me : ℕ) (v : P) → IsTrue (serves_p (kind_in x)) → stands_p x v me acts → LawOf p serves_p sound_p stands_p x acts me (p.halt v) (halt_of p me v))
          → ((me : ℕ) (v : Q) → IsTrue (serves_q (kind_in x)) → stands_q x v me acts → LawOf q serves_q sound_q stands_q x acts me (q.halt v) (halt_of q me v))
          → (me : ℕ) (v : Choice P Q) → are_served x → StandsOf x v me acts
          → StandsOf x (of_both.halt v) me (halt_of of_both me v ∷ acts) × KeepsOf (serves_p (kind_in x)) x acts (halt_of of_both me v)
      stop_law law_p law_q me (First v) served was =
          let law = law_p me v was.0 was.1 in ((was.0, law.0), for_first (serves_p (kind_in x)) was.0 (halt_of p me v) law.1)
      stop_law law_p law_q me (Second v) served was =
          let law = law_q me v (second (serves_p (kind_in x)) served was.0) was.1 in ((was.0, law.0), for_second (serves_p (kind_in x)) was.0 (halt_of q me v) law.1)

      -- a law of acts alone
      law_in : (T : Type 0) (b : Bool) → (IsTrue (serves_p (kind_in x)) → sound_p x acts → T) → (IsTrue (serves_q (kind_in x)) → sound_q x acts → T) → serves_p (kind_in x) ≡ b → IsTrue (b || serves_q (kind_in x)) → SoundOf b x acts → T
      law_in T true law_p law_q is served = law_p is
      law_in T false law_p law_q is served = law_q served

      pub act_law : (T : Type 0) → (IsTrue (serves_p (kind_in x)) → sound_p x acts → T) → (IsTrue (serves_q (kind_in x)) → sound_q x acts → T) → are_served x → SoundOf (serves_p (kind_in x)) x acts → T
      act_law T law_p law_q served = law_in T (serves_p (kind_in x)) law_p law_q refl served

      others_in : (b : Bool) (a : Act) → (IsTrue (serves_p (kind_in x)) → sound_p x acts → Premises x (a ∷ acts) → sound_p x (a ∷ acts)) → (IsTrue (serves_q (kind_in x)) → sound_q x acts → Premises x (a ∷ acts) → sound_q x (a ∷ acts))
          → serves_p (kind_in x) ≡ b → IsTrue (b || serves_q (kind_in x)) → KeepsOf b x acts a
      others_in true a law_p law_q is served = law_p is
      others_in false a law_p law_q is served = law_q served

      pub others_law : (a : Act) → (IsTrue (serves_p (kind_in x)) → sound_p x acts → Premises x (a ∷ acts) → sound_p x (a ∷ acts)) → (IsTrue (serves_q (kind_in x)) → sound_q x acts → Premises x (a ∷ acts) → sound_q x (a ∷ acts))
          → are_served x → KeepsOf (serves_p (kind_in x)) x acts a
      others_law a law_p law_q served = others_in (serves_p (kind_in x)) a law_p law_q refl served
