-- A place that the setup gives is one where a core of its party stands.
use Rattle.std.proofs.Common.{◌≡◌, ℕ, ◌+◌, ◌*◌, ◌<◌, Bool, true, false, Option, Some, None, List, get_or, refl, sym, ap, ◌∙◌, subst, inl, inr}
use Rattle.std.specs.Prelude.{◌==◌, ◌&&◌, if◌then◌else◌, slice_get, position}
use Rattle.std.specs.Option.{option_map}
use Rattle.std.proofs.lemmas.Bool.{cases_Bool, ltb-true, eqb-true}
use Rattle.std.proofs.lemmas.Option.{slice_get-get_or, same_Some}
use Rattle.std.proofs.lemmas.List.Quantifiers.{position-Some}
use Rattle.ab_num.specs.declared.party.Party.{Party}
use Rattle.ab_num.specs.declared.party.Party.TheVariants.{Replica, Client}
use Rattle.ab_keys.specs.Keys.{is_party}
use Rattle.ab_cast.specs.declared.place.Place.{Place}
use Rattle.ab_cast.specs.declared.place.Place.TheVariants as place
use Rattle.ab_cast.specs.Setups.{Setup, is_bad, replica_twins, client_twins, own_place, twin_place, numbered_place, place_of}

-- a number of the party stands at this place of the list
abbrev pub StandsAt : List (ℕ × ℕ) → ℕ → ℕ → Type 0
StandsAt numbers at number = (k : ℕ × ℕ) × ((slice_get numbers at ≡ Some k) × (k.0 ≡ number))

abbrev pub IsThere : Setup → Place → Type 0
IsThere x (place.Replica r) = r < 3 * x.cluster.f + 1
IsThere x (place.Client c) = c < x.cluster.clients
IsThere x (place.ReplicaTwin r at) = (r < 3 * x.cluster.f + 1) × StandsAt (replica_twins x.faulty) at r
IsThere x (place.ClientTwin c at) = (c < x.cluster.clients) × StandsAt (client_twins x.faulty) at c

pub mapped_cases : {A B : Type 0} (f : A → B) (o : Option A) (b : B) → option_map f o ≡ Some b → (a : A) × ((o ≡ Some a) × (f a ≡ b))
mapped_cases f None b is = absurd (cc (is))
mapped_cases f (Some a) b is = (a, (refl, same_Some (f a) b is))

both_left : (a b : Bool) → a && b ≡ true → a ≡ true
both_left true b is = refl
both_left false b is = absurd (cc (is))

found : (numbers : List (ℕ × ℕ)) (number twin at : ℕ) → position (λ k. (k.0 == number) && (k.1 == twin)) numbers ≡ Some at → StandsAt numbers at number
found numbers number twin at is =
    let first = position-Some (λ k. (k.0 == number) && (k.1 == twin)) numbers at (0, 0) is in
    let k = get_or numbers at (0, 0) in
    (k, (slice_get-get_or numbers at (0, 0) first.0, eqb-true k.0 number (both_left (k.0 == number) (k.1 == twin) first.1)))

module _ (x : Setup) where
  own_there : (p : Party) → is_party x.cluster.f x.cluster.clients p ≡ true → IsThere x (own_place p)
  own_there (Replica r) is = ltb-true r (3 * x.cluster.f + 1) is
  own_there (Client c) is = ltb-true c x.cluster.clients is

  twin_there : (p : Party) (twin : ℕ) (at : Place) → is_party x.cluster.f x.cluster.clients p ≡ true → twin_place x.faulty p twin ≡ Some at → IsThere x at
  twin_there (Replica r) twin at party is =
      let m = mapped_cases (place.ReplicaTwin r) (position (λ k. (k.0 == r) && (k.1 == twin)) (replica_twins x.faulty)) at is in
      subst (IsThere x) m.1.1 (ltb-true r (3 * x.cluster.f + 1) party, found (replica_twins x.faulty) r twin m.0 m.1.0)
  twin_there (Client c) twin at party is =
      let m = mapped_cases (place.ClientTwin c) (position (λ k. (k.0 == c) && (k.1 == twin)) (client_twins x.faulty)) at is in
      subst (IsThere x) m.1.1 (ltb-true c x.cluster.clients party, found (client_twins x.faulty) c twin m.0 m.1.0)

  numbered_there : (p : Party) (twin : Option ℕ) (at : Place) → is_party x.cluster.f x.cluster.clients p ≡ true → numbered_place x p twin ≡ Some at → IsThere x at
  numbered_there p None at party is = subst (IsThere x) (same_Some (own_place p) at is) (own_there p party)
  numbered_there p (Some twin) at party is =
      elim (cases_Bool (is_bad x p)) [
        | inl bad ↦
            let is' : (if twin == 1 then Some (own_place p) else twin_place x.faulty p twin) ≡ Some at = sym (ap (λ b. if b then (if twin == 1 then Some (own_place p) else twin_place x.faulty p twin) else None) bad) ∙ is in
            elim (cases_Bool (twin == 1)) [
              | inl first ↦ subst (IsThere x) (same_Some (own_place p) at (sym (ap (λ b. if b then Some (own_place p) else twin_place x.faulty p twin) first) ∙ is')) (own_there p party)
              | inr further ↦ twin_there p twin at party (sym (ap (λ b. if b then Some (own_place p) else twin_place x.faulty p twin) further) ∙ is')
            ]
        | inr good ↦ absurd (let e : None ≡ Some at = sym (ap (λ b. if b then (if twin == 1 then Some (own_place p) else twin_place x.faulty p twin) else None) good) ∙ is in cc)
      ]

  pub is_there : (p : Party) (twin : Option ℕ) (at : Place) → place_of x p twin ≡ Some at → IsThere x at
  is_there p twin at is =
      elim (cases_Bool (is_party x.cluster.f x.cluster.clients p)) [
        | inl party ↦ numbered_there p twin at party (sym (ap (λ b. if b then numbered_place x p twin else None) party) ∙ is)
        | inr none ↦ absurd (let e : None ≡ Some at = sym (ap (λ b. if b then numbered_place x p twin else None) none) ∙ is in cc)
      ]
