-- A choice between two lawful protocols keeps the laws that a run rests on.
use Rattle.std.proofs.Common.{◌≡◌, ℕ, Bool, true, false, ◌||◌, None, List, [], ◌⊎◌, refl, ap, inl, inr}
use Rattle.std.specs.Prelude.{IsTrue}
use Rattle.ab_num.specs.declared.plan.Kind.{Kind}
use Rattle.ab_num.specs.Places.{kind_of}
use Rattle.ab_num.specs.declared.cluster.Cluster.{Cluster}
use Rattle.ab_svc.specs.Machines.{Machine}
use Rattle.ab_abs.specs.Observations.{observed_in}
use Rattle.ab_abs.specs.Instances.{IsAbstract}
use Rattle.ab_abs.specs.Acts.{Act, Setting, observations, named_in}
use Rattle.ab_abs.specs.declared.entry.Entry.{Entry}
use Rattle.ab_abs.specs.Kinds.{is_backup}
use Rattle.ab_abs.specs.Ensembles.{Proto, entry_of}
use Rattle.ab_abs.specs.FormLaws.{KeepsPlace, IsBlank, Belongs}
use Rattle.ab_plans.specs.declared.choice.Choice.{Choice}
use Rattle.ab_plans.specs.declared.choice.Choice.TheVariants.{First, Second}
use Rattle.ab_plans.specs.ChoiceRules.{either, begins, choice, sound_by, stands_by}
use Rattle.ab_plans.specs.ChoiceLaws.{BelongsIn, belongs, stays_law, nil_law, start_law, on_law, stop_law, trim_law, others_law, act_law}
use Rattle.ab_plans.specs.Lawful.{IsLawfulProto}

module _ {P Q : Type 0} (p : Proto P) (q : Proto Q) (serves_p serves_q : Kind → Bool) where
  abbrev both : Proto (Choice P Q)
  both = choice p q serves_p

  belongs_in : (c : Cluster) (i r : ℕ) (v : Choice P Q) → Belongs both (either serves_p serves_q) c i r v → BelongsIn p q serves_p serves_q c i r v
  belongs_in = belongs p q serves_p serves_q

  module _ (place_p : KeepsPlace p serves_p) (place_q : KeepsPlace q serves_q) where
    starts_in : (b : Bool) (c : Cluster) (r : ℕ) → IsBlank (both.state (begins p q b c 1 r (entry_of [] None)))
    starts_in true c r = place_p.starts c r
    starts_in false c r = place_q.starts c r

    halts_in : (v : Choice P Q) → ((both.state (both.halt v)).log ≡ (both.state v).log) × (((both.state (both.halt v)).stopped ≡ true) ⊎ (both.halt v ≡ v))
    halts_in (First v) = let h = place_p.halts v in (h.0, elim h.1 [ inl stopped ↦ inl stopped | inr same ↦ inr (ap First same) ])
    halts_in (Second v) = let h = place_q.halts v in (h.0, elim h.1 [ inl stopped ↦ inl stopped | inr same ↦ inr (ap Second same) ])

    logs_in : (b : Bool) (c : Cluster) (i r : ℕ) (e : Entry) → serves_p (kind_of c.plan i) ≡ b → IsTrue (b || serves_q (kind_of c.plan i)) → is_backup (kind_of c.plan i) ≡ false
        → (both.state (begins p q b c i r e)).log ≡ e.base
    logs_in true c i r e is served other = place_p.logs c i r e is other
    logs_in false c i r e is served other = place_q.logs c i r e served other

    enters_in : (b : Bool) (c : Cluster) (i r : ℕ) (e : Entry) → (both.state (begins p q b c i r e)).entered ≡ e.base
    enters_in true c i r e = place_p.enters c i r e
    enters_in false c i r e = place_q.enters c i r e

    begins_trimmed_in : (b : Bool) (c : Cluster) (i r : ℕ) (e : Entry) → both.trimmed (begins p q b c i r e) ≡ e.trimmed
    begins_trimmed_in true c i r e = place_p.begins_trimmed c i r e
    begins_trimmed_in false c i r e = place_q.begins_trimmed c i r e

    pub place_law : KeepsPlace both (either serves_p serves_q)
    place_law = record {
      starts = λ c r. starts_in (serves_p (kind_of c.plan 1)) c r;
      own = λ c i r pen. elim [
        | First v ↦ λ call o s was. place_p.own c i r pen v call o s (belongs_in c i r (First v) was)
        | Second v ↦ λ call o s was. place_q.own c i r pen v call o s (belongs_in c i r (Second v) was)
      ];
      settles = λ c i r pen. elim [
        | First v ↦ λ call cert was. place_p.settles c i r pen v call cert (belongs_in c i r (First v) was)
        | Second v ↦ λ call cert was. place_q.settles c i r pen v call cert (belongs_in c i r (Second v) was)
      ];
      trim_rests = λ n. elim [ First v ↦ place_p.trim_rests n v | Second v ↦ place_q.trim_rests n v ];
      grows = λ pen. elim [ First v ↦ place_p.grows pen v | Second v ↦ place_q.grows pen v ];
      frozen = λ c i r pen. elim [
        | First v ↦ λ call was. place_p.frozen c i r pen v call (belongs_in c i r (First v) was)
        | Second v ↦ λ call was. place_q.frozen c i r pen v call (belongs_in c i r (Second v) was)
      ];
      halts = halts_in;
      logs = λ c i r e served other. logs_in (serves_p (kind_of c.plan i)) c i r e refl served other;
      enters = λ c i r e. enters_in (serves_p (kind_of c.plan i)) c i r e;
      trims = λ n. elim [ First v ↦ place_p.trims n v | Second v ↦ place_q.trims n v ];
      begins_trimmed = λ c i r e. begins_trimmed_in (serves_p (kind_of c.plan i)) c i r e;
      trimmed_stays = λ pen. elim [ First v ↦ place_p.trimmed_stays pen v | Second v ↦ place_q.trimmed_stays pen v ];
      trimmed_rests = elim [ First v ↦ place_p.trimmed_rests v | Second v ↦ place_q.trimmed_rests v ];
    }

module _ {S P Q : Type 0} (machine : Machine S) (p : Proto P) (q : Proto Q) (serves_p serves_q : Kind → Bool)
    (sound_p : Setting → List Act → Type 0) (sound_q : Setting → List Act → Type 0) (stands_p : Setting → P → ℕ → List Act → Type 0) (stands_q : Setting → Q → ℕ → List Act → Type 0)
    (one : IsLawfulProto machine p serves_p sound_p stands_p) (two : IsLawfulProto machine q serves_q sound_q stands_q) where
  pub choice_law : IsLawfulProto machine (choice p q serves_p) (either serves_p serves_q) (sound_by serves_p sound_p sound_q) (stands_by serves_p stands_p stands_q)
  choice_law = record {
    placed = place_law p q serves_p serves_q one.placed two.placed;
    stands_stays = stays_law machine p q serves_p serves_q sound_p sound_q stands_p stands_q one.stands_stays two.stands_stays;
    sound_nil = λ x. nil_law machine p q serves_p serves_q sound_p sound_q stands_p stands_q x (one.sound_nil x) (two.sound_nil x);
    lawful_start = λ x acts me e. start_law machine p q serves_p serves_q sound_p sound_q stands_p stands_q x acts me e (one.lawful_start x acts me e) (two.lawful_start x acts me e);
    lawful_on = λ x acts. on_law machine p q serves_p serves_q sound_p sound_q stands_p stands_q x acts (one.lawful_on x acts) (two.lawful_on x acts);
    lawful_stop = λ x acts. stop_law machine p q serves_p serves_q sound_p sound_q stands_p stands_q x acts (one.lawful_stop x acts) (two.lawful_stop x acts);
    stands_trimmed = trim_law machine p q serves_p serves_q sound_p sound_q stands_p stands_q one.stands_trimmed two.stands_trimmed;
    lawful_others = λ x acts a served correct is.
        others_law machine p q serves_p serves_q sound_p sound_q stands_p stands_q x acts a (λ s. one.lawful_others x acts a s correct is) (λ s. two.lawful_others x acts a s correct is) served;
    sound_abstract = λ x acts served.
        act_law machine p q serves_p serves_q sound_p sound_q stands_p stands_q x acts (IsAbstract machine (observations acts) (named_in x acts) x.faulty x.i) (one.sound_abstract x acts) (two.sound_abstract x acts) served;
    sound_names = λ x acts served sound a is s has.
        act_law machine p q serves_p serves_q sound_p sound_q stands_p stands_q x acts (observed_in s ≡ x.i) (λ t h. one.sound_names x acts t h a is s has) (λ t h. two.sound_names x acts t h a is s has) served sound;
  }
