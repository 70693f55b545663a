-- What begins each certificate history of an instance begins those of later ones.
use Rattle.std.proofs.Common.{◌≡◌, ℕ, zero, suc, ◌+◌, ◌<◌, ◌≤◌, List, arith, sym, subst, inl, inr, add-one}
use Rattle.std.specs.Prelude.{Contains}
use Rattle.std.proofs.lemmas.Bool.{cases_lt}
use mathlib.Core.List.{IsPrefix}
use base.Growing.{prefix_trans}
use Rattle.ab_num.specs.declared.party.Party.{Party}
use Rattle.ab_num.specs.declared.party.Party.TheVariants.{Replica}
use Rattle.ab_hist.specs.declared.request.Request.{Request}
use Rattle.ab_svc.specs.Machines.{Machine}
use Rattle.ab_abs.specs.declared.seen.Seen.{Seen}
use Rattle.ab_abs.specs.declared.seen.Seen.TheVariants.{Init}
use Rattle.ab_abs.specs.Instances.{EachIsAbstract, EachInitHasCert}
use Rattle.ab_abs.specs.Observations.{IsCertHistory, IsInitHistory}
use Rattle.ab_stable.specs.Forgotten.{IsForgotten, settled, brought}

module _ {S : Type 0} (machine : Machine S) (seen : List Seen) (named : ℕ → ℕ → List ℕ → List Request) (faulty : List Party) (each : EachIsAbstract machine seen named faulty) (entered : EachInitHasCert seen)
    (i : ℕ) (front : List Request) (one : 1 ≤ i) (begins : (h : List Request) → IsCertHistory seen i h → IsPrefix front h) where
  pub begins_later : (j : ℕ) → i ≤ j → (h : List Request) → IsCertHistory seen j h → IsPrefix front h
  begins_later zero le h is = absurd (omega (arith, le, one))
  begins_later (suc j) le h is =
      elim (cases_lt i (suc j)) [
        | inl below ↦
            let cert : IsCertHistory seen (j + 1) h = rw add-one is in
            let first : 1 ≤ j = omega (arith, below, one) in
            let init_begins : (init : List Request) → IsInitHistory seen (j + 1) init → IsPrefix front init =
            λ init was.
            elim was [
              | inl empty ↦ absurd (omega (arith, first, empty.0))
              | inr later ↦ begins_later j (omega (arith, below)) init (Replica later.1, entered j later.1 init first later.2)
            ]
            in
            (each (j + 1) (omega arith)).init_order front h init_begins (inr cert)
        | inr above ↦
            let same : i ≡ suc j = omega (arith, above, le) in
            begins h (subst (λ (k : ℕ). IsCertHistory seen k h) (sym same) is)
      ]

module _ {S : Type 0} (machine : Machine S) (seen : List Seen) (named : ℕ → ℕ → List ℕ → List Request) (faulty : List Party) (each : EachIsAbstract machine seen named faulty) (entered : EachInitHasCert seen) where
  from_one : (i : ℕ) (front : List Request) → IsForgotten seen i front → 1 ≤ i
  from_one i front (settled j f one each_has) = one
  from_one i front (brought j k f more lt was p) = omega (arith, lt)

  pub forgotten_begins : (i : ℕ) (front : List Request) → IsForgotten seen i front → (h : List Request) → IsCertHistory seen i h → IsPrefix front h
  forgotten_begins i front (settled j f one each_has) h is = each_has h is
  forgotten_begins i front (brought j k f more lt was p) h is =
      prefix_trans f more h p
      (begins_later machine seen named faulty each entered j more (from_one j more was) (λ g there. forgotten_begins j more was g there) k (omega (arith, lt)) h is)

  pub forgotten_entered : (i j : ℕ) (front : List Request) → IsForgotten seen i front → i < j → (h : List Request) → IsInitHistory seen j h → IsPrefix front h
  forgotten_entered i zero front was lt h is = absurd (omega (arith, lt))
  forgotten_entered i (suc j) front was lt h (inl first) = let one = from_one i front was in absurd (omega (arith, one, lt, first.0))
  forgotten_entered i (suc j) front was lt h (inr later) =
      let one = from_one i front was in
      let marked : Contains seen (Init (j + 1) later.1 h) = subst (λ (k : ℕ). Contains seen (Init k later.1 h)) (let e : suc j ≡ j + 1 = omega arith in e) later.2 in
      begins_later machine seen named faulty each entered i front one (λ g there. forgotten_begins i front was g there) j (omega (arith, lt)) h
      (Replica later.1, entered j later.1 h (omega (arith, one, lt)) marked)
