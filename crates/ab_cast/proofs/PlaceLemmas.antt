-- A place is that of one core.
use Rattle.std.proofs.Common.{◌≡◌, ℕ, Bool, true, false, ◌&&◌, cond, eqb, List, Option, Some, None, position, slice_get, refl, sym, ◌∙◌, ap}
use Rattle.std.specs.Option.{option_map, unwrap_or}
use Rattle.std.proofs.lemmas.Bool.{and_parts}
use Rattle.std.proofs.lemmas.Bool.Decides.{Decides-eqb}
use Rattle.std.proofs.lemmas.Option.{slice_get-get_or, same_Some}
use Rattle.std.proofs.lemmas.List.Quantifiers.{position-Some}
use Rattle.ab_num.specs.declared.party.Party.{Party}
use Rattle.ab_num.specs.declared.party.Party.TheVariants.{Replica, Client}
use Rattle.ab_keys.specs.Keys.{is_party}
use Rattle.ab_cast.specs.declared.place.Place.{Place}
use Rattle.ab_cast.specs.declared.place.Place.TheVariants as place
use Rattle.ab_cast.specs.Setups.{Setup, is_bad, replica_twins, client_twins, own_place, twin_place, numbered_place, place_of, core_number, party_at}

-- the number of the core that stands at a place
abbrev number_at : List (Party × ℕ) → Place → ℕ
number_at faulty (place.Replica r) = 1
number_at faulty (place.Client c) = 1
number_at faulty (place.ReplicaTwin r at) = (unwrap_or (slice_get (replica_twins faulty) at) (0, 0)).1
number_at faulty (place.ClientTwin c at) = (unwrap_or (slice_get (client_twins faulty) at) (0, 0)).1

-- whose core stands at a place, and which
abbrev StandsAt : List (Party × ℕ) → Party → ℕ → Place → Type 0
StandsAt faulty p n at = (party_at at ≡ p) × (number_at faulty at ≡ n)

mapped : {A B : Type 0} (f : A → B) (o : Option A) (y : B) → option_map f o ≡ Some y → (x : A) × (o ≡ Some x) × (f x ≡ y)
mapped f None y e = absurd cc
mapped f (Some x) y e = (x, refl, same_Some (f x) y e)

given : {A : Type 0} (b : Bool) (o : Option A) (y : A) → cond b o None ≡ Some y → o ≡ Some y
given true o y e = e
given false o y e = absurd cc

named : (k : ℕ × ℕ) (r t : ℕ) → (eqb k.0 r && eqb k.1 t) ≡ true → k ≡ (r, t)
named k r t h =
    let b = and_parts (eqb k.0 r) (eqb k.1 t) h in
    ap (λ (n : ℕ). (n, k.1)) ((Decides-eqb k.0 r).0 b.0) ∙ ap (λ (n : ℕ). (r, n)) ((Decides-eqb k.1 t).0 b.1)

found : (r t : ℕ) (twins : List (ℕ × ℕ)) (i : ℕ) → position (λ k. eqb k.0 r && eqb k.1 t) twins ≡ Some i → slice_get twins i ≡ Some (r, t)
found r t twins i h =
    let at = position-Some (λ k. eqb k.0 r && eqb k.1 t) twins i (0, 0) h in
    slice_get-get_or twins i (0, 0) at.0 ∙ ap Some (named _ r t at.1)

own_stands : (faulty : List (Party × ℕ)) (p : Party) → StandsAt faulty p 1 (own_place p)
own_stands faulty (Replica r) = (refl, refl)
own_stands faulty (Client c) = (refl, refl)

moved : (faulty : List (Party × ℕ)) (p : Party) (n : ℕ) (a b : Place) → a ≡ b → StandsAt faulty p n a → StandsAt faulty p n b
moved faulty p n a b e s = (ap party_at (sym e) ∙ s.0, ap (number_at faulty) (sym e) ∙ s.1)

twin_stands : (faulty : List (Party × ℕ)) (p : Party) (t : ℕ) (at : Place) → twin_place faulty p t ≡ Some at → StandsAt faulty p t at
twin_stands faulty (Replica r) t at h =
    let m = mapped (place.ReplicaTwin r) _ at h in
    moved faulty (Replica r) t (place.ReplicaTwin r m.0) at m.2 (refl, ap (λ (o : Option (ℕ × ℕ)). (unwrap_or {T = ℕ × ℕ} o (0, 0)).1) (found r t (replica_twins faulty) m.0 m.1))
twin_stands faulty (Client c) t at h =
    let m = mapped (place.ClientTwin c) _ at h in
    moved faulty (Client c) t (place.ClientTwin c m.0) at m.2 (refl, ap (λ (o : Option (ℕ × ℕ)). (unwrap_or {T = ℕ × ℕ} o (0, 0)).1) (found c t (client_twins faulty) m.0 m.1))

either_stands : (faulty : List (Party × ℕ)) (p : Party) (t : ℕ) (at : Place) (first : Bool) → (first ≡ true → t ≡ 1)
    → cond first (Some (own_place p)) (twin_place faulty p t) ≡ Some at → StandsAt faulty p t at
either_stands faulty p t at true is h =
    let s = moved faulty p 1 (own_place p) at (same_Some (own_place p) at h) (own_stands faulty p) in
    (s.0, s.1 ∙ sym (is refl))
either_stands faulty p t at false is h = twin_stands faulty p t at h

numbered_stands : (x : Setup) (p : Party) (t : Option ℕ) (at : Place) → numbered_place x p t ≡ Some at → StandsAt x.faulty p (core_number t) at
numbered_stands x p None at h = moved x.faulty p 1 (own_place p) at (same_Some (own_place p) at h) (own_stands x.faulty p)
numbered_stands x p (Some t) at h = either_stands x.faulty p t at (eqb t 1) (Decides-eqb t 1).0 (given (is_bad x p) _ at h)

stands : (x : Setup) (p : Party) (t : Option ℕ) (at : Place) → place_of x p t ≡ Some at → StandsAt x.faulty p (core_number t) at
stands x p t at h = numbered_stands x p t at (given (is_party x.cluster.f x.cluster.clients p) (numbered_place x p t) at h)

pub owner_of_place : (x : Setup) (p : Party) (t : Option ℕ) (at : Place) → place_of x p t ≡ Some at → party_at at ≡ p
owner_of_place x p t at h = (stands x p t at h).0

pub one_core : (x : Setup) (p q : Party) (t u : Option ℕ) (at : Place) → place_of x p t ≡ Some at → place_of x q u ≡ Some at
    → (p ≡ q) × (core_number t ≡ core_number u)
one_core x p q t u at h k =
    let a = stands x p t at h in
    let b = stands x q u at k in
    (sym a.0 ∙ b.0, sym a.1 ∙ b.1)
