-- Own calls of a protocol that is one of two are own calls of the one that runs the instance.
use Rattle.std.proofs.Common.{◌≡◌, ℕ, ◌≤◌, Bool, false, Option, None, Some, List, [], ◌∷◌, refl, sym, ap, ◌∙◌, subst, inl, inr, length}
use Rattle.std.proofs.lemmas.Bool.{cases_eq}
use Rattle.std.proofs.lemmas.Option.{none-some, same_Some}
use Rattle.ab_num.specs.declared.cluster.Cluster.{Cluster}
use Rattle.ab_num.specs.declared.party.Party.{Party}
use Rattle.ab_num.specs.declared.plan.Kind.{Kind}
use Rattle.ab_num.specs.declared.plan.Kind.TheVariants as kind
use Rattle.ab_num.specs.Places.{kind_of}
use Rattle.ab_svc.specs.Machines.{Machine}
use Rattle.ab_msg.specs.Pens.{Pen}
use Rattle.ab_abs.specs.declared.seen.Seen.{Seen}
use Rattle.ab_abs.specs.declared.entry.Entry.{Entry}
use Rattle.ab_abs.specs.Acts.{Act, Setting, setting}
use Rattle.ab_abs.specs.Deeds.{acts_in}
use Rattle.ab_abs.specs.Kinds.{kind_in}
use Rattle.ab_abs.specs.Messages.{Call}
use Rattle.ab_abs.specs.Promises.{MeetsPremises}
use Rattle.ab_abs.specs.Ensembles.{Proto, Ensemble, Reached, MayTake, begin_of, asked_of, halt_of, put}
use Rattle.ab_abs.proofs.Reach.{put_same, put_other}
use Rattle.ab_order.specs.Backups.{Backing}
use Rattle.ab_order.specs.Protos.{OrderProto, Obeys, backup}
use Rattle.ab_pbft_rules.specs.Rules.{Pbft, pbft}
use Rattle.ab_plans.specs.declared.choice.Choice.{Choice}
use Rattle.ab_plans.specs.declared.choice.Choice.TheVariants.{Second}
use Rattle.ab_plans.specs.ChoiceRules.{choice, begins as begins_by}
use Rattle.ab_plans.specs.Runs.{with_backup}
use Rattle.ab_promises.specs.OwnCalls.{AreOwnCalls, none_yet, begins, takes, stops, trims, others, OwnCallsKeep}
use Rattle.ab_promises.specs.Certified.{SignOnce, LockViews}
use Rattle.ab_promises.proofs.OwnOrders.{own_sign_once, own_lock}
use Rattle.ab_promises.proofs.RunsOwn.{runs_own}

module _ {P Q : Type 0} (p : Proto P) (q : Proto Q) (serves : Kind → Bool) (x : Setting) (second : serves (kind_in x) ≡ false) where
  abbrev both : Proto (Choice P Q)
  both = choice p q serves

  abbrev second_of : Option Q → Option (Choice P Q)
  second_of None = None
  second_of (Some u) = Some (Second u)

  some_second : (o : Option Q) (v : Choice P Q) → second_of o ≡ Some v → (u : Q) × (o ≡ Some u) × (v ≡ Second u)
  some_second None v is = absurd (none-some v is)
  some_second (Some u) v is = (u, refl, sym (same_Some (Second u) v is))

  -- the calls are those of the second protocol, which leave the same values
  record AreSecond (acts : List Act) (left : ℕ → Option (Choice P Q)) : Type 0 where
    values : ℕ → Option Q
    calls : AreOwnCalls q x acts values
    same : (r : ℕ) → left r ≡ second_of (values r)

  put_second : (left : ℕ → Option (Choice P Q)) (values : ℕ → Option Q) (me : ℕ) (u : Q) → ((r : ℕ) → left r ≡ second_of (values r)) → (r : ℕ) → put left me (Some (Second u)) r ≡ second_of (put values me (Some u) r)
  put_second left values me u same r =
      elim (cases_eq r me) [
        | inl e ↦ subst (λ (z : ℕ). put left me (Some (Second u)) z ≡ second_of (put values me (Some u) z)) (sym e) (put_same left me (Some (Second u)) ∙ ap second_of (sym (put_same values me (Some u))))
        | inr ne ↦ put_other left me r (Some (Second u)) ne ∙ (same r ∙ ap second_of (sym (put_other values me r (Some u) ne)))
      ]

  begun_second : (me : ℕ) (e : Entry) → both.begin x.cluster x.i me e ≡ Second (q.begin x.cluster x.i me e)
  begun_second me e = ap (λ b. begins_by p q b x.cluster x.i me e) second

  abbrev Goes : List Act → (ℕ → Option (Choice P Q)) → ℕ → Pen → Call → List Seen → Choice P Q → Type 0
  Goes acts left me pen call seen v = MayTake both x acts me pen v call seen → AreSecond (asked_of both x me pen v call seen ∷ acts) (put left me (Some (both.after pen v call)))

  abbrev Stops : List Act → (ℕ → Option (Choice P Q)) → ℕ → Choice P Q → Type 0
  Stops acts left me v = AreSecond (halt_of both me v ∷ acts) (put left me (Some (both.halt v)))

  abbrev Trims : List Act → (ℕ → Option (Choice P Q)) → ℕ → ℕ → Choice P Q → Type 0
  Trims acts left me n v = both.trimmed v ≤ n → n ≤ length (both.state v).log → AreSecond acts (put left me (Some (both.trim n v)))

  second_own : (acts : List Act) (left : ℕ → Option (Choice P Q)) → AreOwnCalls both x acts left → AreSecond acts left
  second_own _ _ none_yet = record { values = λ r. None; calls = none_yet; same = λ r. refl }
  second_own _ _ (begins {acts} {left} me e fits before may) =
      let was = second_own acts left before in
      let now : AreSecond (begin_of q x me e ∷ acts) (put left me (Some (Second (q.begin x.cluster x.i me e)))) =
      record { values = put was.values me (Some (q.begin x.cluster x.i me e)); calls = begins me e fits was.calls may; same = put_second left was.values me (q.begin x.cluster x.i me e) was.same } in
      subst (λ (v : Choice P Q). AreSecond (record { party = (begin_of q x me e).party; claims = []; values = []; made = []; observations = (begin_of q x me e).observations; state = Some (both.state v) } ∷ acts) (put left me (Some v))) (sym (begun_second me e)) now
  second_own _ _ (takes {acts} {left} me v pen call seen before at may) =
      let was = second_own acts left before in
      let found = some_second (was.values me) v (sym (was.same me) ∙ at) in
      let u = found.0 in
      let next : Goes acts left me pen call seen (Second u) =
      λ so. record {
        values = put was.values me (Some (q.after pen u call));
        calls = takes me u pen call seen was.calls found.1 (record { formed = so.formed; for = so.for; noted = so.noted; settled = so.settled });
        same = put_second left was.values me (q.after pen u call) was.same;
      } in
      subst (λ (z : Choice P Q). Goes acts left me pen call seen z) (sym found.2) next may
  second_own _ _ (stops {acts} {left} me v before at) =
      let was = second_own acts left before in
      let found = some_second (was.values me) v (sym (was.same me) ∙ at) in
      let u = found.0 in
      let next : Stops acts left me (Second u) = record { values = put was.values me (Some (q.halt u)); calls = stops me u was.calls found.1; same = put_second left was.values me (q.halt u) was.same } in
      subst (λ (z : Choice P Q). Stops acts left me z) (sym found.2) next
  second_own _ _ (trims {acts} {left} me n v before at low high) =
      let was = second_own acts left before in
      let found = some_second (was.values me) v (sym (was.same me) ∙ at) in
      let u = found.0 in
      let next : Trims acts left me n (Second u) =
      λ low' high'. record { values = put was.values me (Some (q.trim n u)); calls = trims me n u was.calls found.1 low' high'; same = put_second left was.values me (q.trim n u) was.same } in
      subst (λ (z : Choice P Q). Trims acts left me n z) (sym found.2) next low high
  second_own _ _ (others {acts} {left} a before correct is) =
      let was = second_own acts left before in
      record { values = was.values; calls = others a was.calls correct is; same = was.same }

  pub chosen_own : (acts : List Act) (left : ℕ → Option (Choice P Q)) → AreOwnCalls both x acts left → (values : ℕ → Option Q) × AreOwnCalls q x acts values
  chosen_own acts left own = let is = second_own acts left own in (is.values, is.calls)

-- a run over a Backup over PBFT, beside any protocol for other kinds
module _ {S P Q : Type 0} (machine : Machine S) (proto : Proto P) (serves : Kind → Bool) (orders : OrderProto Q Pbft) (obeys : Obeys orders pbft) (not_served : serves kind.Backup ≡ false)
    (c : Cluster) (faulty : List Party) (w : Ensemble (Choice P (Backing Q))) (reached : Reached (with_backup machine proto serves orders) c faulty w) (met : MeetsPremises c faulty w.run)
    (i : ℕ) (one : 1 ≤ i) (is : kind_of c.plan i ≡ kind.Backup) where
  kept : (Promise : Setting → List Act → Type 0) → OwnCallsKeep (backup orders pbft machine) kind.Backup Promise → Promise (setting c faulty i) (acts_in i w.run)
  kept Promise keep =
      let own = runs_own (with_backup machine proto serves orders) c faulty w reached i one in
      let its = chosen_own proto (backup orders pbft machine) serves (setting c faulty i) (ap serves is ∙ not_served) (acts_in i w.run) own.0 own.1 in
      keep (setting c faulty i) (acts_in i w.run) its.0 is one its.1 (met i one)

  pub run_signs_once : SignOnce (setting c faulty i) (acts_in i w.run)
  run_signs_once = kept SignOnce (own_sign_once machine orders obeys)

  pub run_locks : LockViews (setting c faulty i) (acts_in i w.run)
  run_locks = kept LockViews (own_lock machine orders obeys)
