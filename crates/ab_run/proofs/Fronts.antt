-- What correct replicas vouched for begins the log of each, each certificate history from then on, and each log that follows from one.
use Rattle.std.proofs.Common.{◌≡◌, ℕ, zero, suc, ◌+◌, ◌<◌, ◌≤◌, Bool, true, Some, List, [], ◌∷◌, ◌⊎◌, length, take, drop, refl, sym, ap, ◌∙◌, subst, inl, inr, arith}
use Rattle.std.specs.Prelude.{Contains, ◌==◌, if◌then◌else◌}
use Rattle.std.proofs.lemmas.Bool.{cases_Bool, cases_lt}
use Rattle.std.proofs.lemmas.List.{take-append-drop, length-take, take-append-le, take_all}
use Rattle.std.proofs.lemmas.List.Elements.{Contains-append_cases, Contains-append_left, Contains-append_right}
use mathlib.Core.List.{IsPrefix}
use base.Growing.{prefix_trans}
use Rattle.ab_abs.proofs.Prefixes.{prefix_length}
use Rattle.ab_num.specs.declared.plan.Kind.{Kind}
use Rattle.ab_num.specs.declared.party.Party.TheVariants.{Replica}
use Rattle.ab_hist.specs.declared.request.Request.{Request}
use Rattle.ab_hist.specs.Digests.{NoCollision, digest_of}
use Rattle.ab_svc.specs.Machines.{Machine}
use Rattle.ab_abs.specs.declared.seen.Seen.{Seen}
use Rattle.ab_abs.specs.declared.seen.Seen.TheVariants.{Init}
use Rattle.ab_abs.specs.Kinds.{kind_in}
use Rattle.ab_abs.specs.Acts.{State, observations, state_of, log_at}
use Rattle.ab_abs.specs.Deeds.{InstanceAct, acts_in, seen_in, named_in_run}
use Rattle.ab_abs.specs.Ensembles.{Proto, Ensemble}
use Rattle.ab_abs.specs.Instances.{EachIsAbstract}
use Rattle.ab_abs.specs.Observations.{IsInitHistory, IsCertHistory}
use Rattle.ab_abs.specs.Promises.{MeetsPremises}
use Rattle.ab_stable.specs.Offers.{makes_checkpoints}
use Rattle.ab_stable.proofs.EnsembleFronts.{fronts_certified, logs_begun}
use Rattle.ab_stable.proofs.LaterInstances.{begins_later}
use Rattle.ab_run.specs.Setups.{RunSetup, within}
use Rattle.ab_run.specs.Runs.{Run}
use Rattle.ab_run.proofs.Kept.{Keeps, AreRules}
use Rattle.ab_run.proofs.Reasons.{IsGood, IsVouchedFor}
use Rattle.ab_run.proofs.Common.{IsVouched}
use Rattle.ab_run.proofs.Seen.{certs_here, inits_certified}

-- beginnings of as many entries that have one digest are equal
pub same_fronts : (had : List (List Request)) (n : ℕ) (h g : List Request) → NoCollision had → (h ≡ []) ⊎ Contains had h → (g ≡ []) ⊎ Contains had g → digest_of (take n h) ≡ digest_of (take n g) → n ≤ length h → n ≤ length g → take n h ≡ take n g
same_fronts had zero h g apart in_h in_g same le_h le_g = refl
same_fronts had (suc n) h g apart in_h in_g same le_h le_g =
    elim in_h [
      | inl none ↦ absurd (omega (arith, le_h, ap length none))
      | inr has_h ↦ elim in_g [
        | inl none ↦ absurd (omega (arith, le_g, ap length none))
        | inr has_g ↦ apart h g (take (suc n) h) (take (suc n) g) has_h has_g (drop (suc n) h, take-append-drop (suc n) h) (drop (suc n) g, take-append-drop (suc n) g) same
      ]
    ]

-- a log that begins with the first n entries of a history has them
pub front_of_log : (n : ℕ) (h g : List Request) → n ≤ length h → IsPrefix (take n h) g → (n ≤ length g) × (take n g ≡ take n h)
front_of_log n h g fits begins =
    let long : length (take n h) ≡ n = omega (arith, length-take n h, fits) in (
      omega (arith, long, prefix_length (take n h) g begins),
      ap (take n) (sym begins.1) ∙ take-append-le n (take n h) begins.0 (omega (arith, long)) ∙ take_all n (take n h) (omega (arith, long)),
    )

-- an observation of an instance is one of the run
observed_run : (i : ℕ) (run : List InstanceAct) (s : Seen) → Contains (observations (acts_in i run)) s → Contains (seen_in run) s
observed_run i [] s has = has
observed_run i (e ∷ run) s has =
    elim (cases_Bool (e.i == i)) [
      | inl here ↦
          elim (Contains-append_cases e.act.observations (observations (acts_in i run)) s (subst (λ (b : Bool). Contains (observations (if b then e.act ∷ acts_in i run else acts_in i run)) s) here has)) [
            | inl now ↦ Contains-append_left e.act.observations (seen_in run) s now
            | inr old ↦ Contains-append_right e.act.observations (seen_in run) s (observed_run i run s old)
          ]
      | inr other ↦ Contains-append_right e.act.observations (seen_in run) s (observed_run i run s (subst (λ (b : Bool). Contains (observations (if b then e.act ∷ acts_in i run else acts_in i run)) s) other has))
    ]

module _ {S P : Type 0} (machine : Machine S) (k : RunSetup) (proto : Proto P) (serves : Kind → Bool) (law : AreRules k proto serves) where
  -- what is known of a run at some time
  pub record IsKnown (w : Run P) (v : Ensemble P) : Type 0 where
    pub keeps : Keeps k proto serves w v
    pub vouched : IsVouched k proto serves law w
    pub meets : MeetsPremises k.cluster k.faulty v.run
    pub abstract : EachIsAbstract machine (seen_in v.run) (named_in_run k.cluster k.faulty v.run) k.faulty

  module _ (w : Run P) (v : Ensemble P) (known : IsKnown w v) (had : List (List Request)) (apart : NoCollision had) (bigger : (l : List Request) → Contains w.had l → Contains had l) where
    had_log : (i q : ℕ) → IsGood k q → (w.log i q ≡ []) ⊎ Contains had (w.log i q)
    had_log i q good = elim (known.vouched.had_of i q good) [ inl none ↦ inl none | inr has ↦ inr (bigger (w.log i q) has) ]

    -- each replica that vouched has the front
    front_there : (i : ℕ) (front : List Request) (x : IsVouchedFor k w.made had i front) (q : ℕ) → IsGood k q → IsPrefix front (w.log x.at q)
    front_there i front x q good =
        let o = known.vouched.made_of q x.at x.n x.d good (x.all q good) in
        let log = w.log x.at q in
        let same : take x.n log ≡ take x.n x.whole = same_fronts had x.n log x.whole apart (had_log x.at q good) (inr x.there) (o.2 ∙ sym x.digest) o.1 x.reaches in
        prefix_trans front (take x.n log) log (subst (λ (g : List Request). IsPrefix front g) (sym same) x.begins) (drop x.n log, take-append-drop x.n log)

    -- where and by whom it was vouched for
    vouched_in : (i : ℕ) (front : List Request) (x : IsVouchedFor k w.made had i front) (q : ℕ) → IsGood k q → (1 ≤ x.at) × (makes_checkpoints (kind_in (within k x.at)) ≡ true)
    vouched_in i front x q good = let o = known.vouched.made_of q x.at x.n x.d good (x.all q good) in (o.3, o.4)

    -- the front begins each certificate history from its instance on
    front_certified : (i : ℕ) (front : List Request) (x : IsVouchedFor k w.made had i front) (q : ℕ) → IsGood k q → (j : ℕ) → x.at ≤ j → (h : List Request) → IsCertHistory (seen_in v.run) j h → IsPrefix front h
    front_certified i front x q good j le h is =
        let one = vouched_in i front x q good in
        begins_later machine (seen_in v.run) (named_in_run k.cluster k.faulty v.run) k.faulty known.abstract (inits_certified proto k.cluster k.faulty v known.keeps.reached) x.at front one.0
        (λ g has. fronts_certified machine proto serves law.form k.cluster k.faulty law.all v known.keeps.reached known.meets x.at front one.0 one.1
        (λ r correct stopped. subst (λ (l : List Request). IsPrefix front l) (known.keeps.log x.at r correct.within correct.correct) (front_there i front x r (correct.within, correct.correct)))
        has.0 g (certs_here proto k.cluster k.faulty v x.at has.0 g known.keeps.reached has.1)) j le h is

    -- and each history with which a later instance is entered
    front_entered : (i : ℕ) (front : List Request) (x : IsVouchedFor k w.made had i front) (q : ℕ) → IsGood k q → (j : ℕ) → x.at < j → (h : List Request) → IsInitHistory (observations (acts_in j v.run)) j h → IsPrefix front h
    front_entered i front x q good zero lt h init = absurd (omega arith)
    front_entered i front x q good (suc m) lt h init =
        elim init [
          | inl first ↦ absurd (omega (arith, lt, first.0, (vouched_in i front x q good).0))
          | inr (more, r, has) ↦
              let one : 1 ≤ m = omega (arith, more) in
              let e : suc m ≡ m + 1 = omega arith in
              let seen : Contains (seen_in v.run) (Init (m + 1) r h) = subst (λ (n : ℕ). Contains (seen_in v.run) (Init n r h)) e (observed_run (suc m) v.run (Init (suc m) r h) has) in
              front_certified i front x q good m (omega (arith, lt)) h (Replica r, inits_certified proto k.cluster k.faulty v known.keeps.reached m r h one seen)
        ]

    -- and the log of each correct replica in a later instance whose logs begin with the histories of entry
    pub front_common : (i : ℕ) (front : List Request) (x : IsVouchedFor k w.made had i front) (q : ℕ) → IsGood k q → makes_checkpoints (kind_in (within k i)) ≡ true → (s : State) → state_of (acts_in i v.run) q ≡ Some s → IsPrefix front (w.log i q)
    front_common i front x q good makes s is =
        elim (cases_lt x.at i) [
          | inl lt ↦
              let b = logs_begun machine proto serves law.form k.cluster k.faulty law.all v known.keeps.reached i q s makes is in
              let log_is : s.log ≡ w.log i q = sym (known.keeps.log i q good.0 good.1 ∙ ap log_at is) in
              subst (λ (l : List Request). IsPrefix front l) log_is (prefix_trans front b.0 s.log (front_entered i front x q good i lt b.0 b.1) b.2)
          | inr here ↦ let same : x.at ≡ i = omega (arith, here, x.before) in subst (λ (n : ℕ). IsPrefix front (w.log n q)) same (front_there i front x q good)
        ]
