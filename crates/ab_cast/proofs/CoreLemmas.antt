-- Which cores the parties have.
use Rattle.std.proofs.Common.{◌≡◌, ◌↔◌, ℕ, zero, suc, ◌⊎◌, inl, inr, ◌≤◌, ◌+◌, ◌-◌, Bool, true, false, not, ◌&&◌, ◌||◌, cond, eqb, ltb, IsTrue, IsSome, is_some, List, [], ◌∷◌, map, position, length, get_or, Option, Some, None, All, Contains, refl, sym, ◌∙◌, ap, subst, arith, add-one}
use Rattle.std.specs.List.{list_any, range_with_len, position_or_len}
use Rattle.std.specs.Option.{option_map}
use Rattle.std.proofs.lemmas.Bool.{and_from, or_cases, and_parts}
use Rattle.std.proofs.lemmas.Bool.Decides.{Decides-eqb, nat_tests}
use Rattle.std.proofs.lemmas.List.Folds.{list_any-append, list_any_at, Any-from_list_any}
use Rattle.std.proofs.Math.Bool.{and-true}
use Rattle.ab_num.specs.declared.party.Party.{Party}
use Rattle.ab_num.specs.declared.party.Party.TheVariants.{Replica, Client}
use Rattle.ab_num.specs.Parties.{party_eq}
use Rattle.ab_num.proofs.PartyLemmas.{same_party, party_eq-refl}
use Rattle.ab_keys.specs.Keys.{is_party}
use Rattle.ab_cast.specs.declared.place.Place.{Place}
use Rattle.ab_cast.specs.Setups.{Setup, is_bad, twins_of_replica, twins_of_client, replica_twins, client_twins, own_place, twin_place, numbered_place, place_of}
use Rattle.ab_cast.proofs.SetupLemmas.{faulty_of}

-- whether party q with n cores is p and has a further core of number t
abbrev has_further : Party → ℕ → Party → ℕ → Bool
has_further p t q n = party_eq p q && (ltb 1 t && ltb t (n + 1))

abbrev is_twin : ℕ → ℕ → ℕ × ℕ → Bool
is_twin r t k = eqb k.0 r && eqb k.1 t

in_range : (r t c a n : ℕ) → list_any (is_twin r t) (map (λ u. (c, u)) (range_with_len a n)) ≡ (eqb r c && (ltb t (a + n) && not (ltb t a)))
in_range r t c a zero = grind (arith, nat_tests)
in_range r t c a (suc n) = ap (λ b. (eqb c r && eqb a t) || b) (in_range r t c (a + 1) n) ∙ grind (arith, nat_tests)

from_second : (r t c n : ℕ) → list_any (is_twin r t) (map (λ u. (c, u)) (range_with_len 2 (n - 1))) ≡ (eqb r c && (ltb 1 t && ltb t (n + 1)))
from_second r t c n = in_range r t c 2 (n - 1) ∙ grind (arith, nat_tests)

of_replica : (r t : ℕ) (q : Party) (n : ℕ) → list_any (is_twin r t) (twins_of_replica q n) ≡ has_further (Replica r) t q n
of_replica r t (Replica c) n = from_second r t c n
of_replica r t (Client c) n = refl

of_client : (r t : ℕ) (q : Party) (n : ℕ) → list_any (is_twin r t) (twins_of_client q n) ≡ has_further (Client r) t q n
of_client r t (Replica c) n = refl
of_client r t (Client c) n = from_second r t c n

further_replica : (r t : ℕ) (faulty : List (Party × ℕ)) → list_any (is_twin r t) (replica_twins faulty) ≡ list_any (λ e. has_further (Replica r) t e.0 e.1) faulty
further_replica r t [] = refl
further_replica r t (e ∷ es) =
    list_any-append (is_twin r t) (twins_of_replica e.0 e.1) (replica_twins es)
    ∙ ap (λ b. b || list_any (is_twin r t) (replica_twins es)) (of_replica r t e.0 e.1)
    ∙ ap (λ b. has_further (Replica r) t e.0 e.1 || b) (further_replica r t es)

further_client : (r t : ℕ) (faulty : List (Party × ℕ)) → list_any (is_twin r t) (client_twins faulty) ≡ list_any (λ e. has_further (Client r) t e.0 e.1) faulty
further_client r t [] = refl
further_client r t (e ∷ es) =
    list_any-append (is_twin r t) (twins_of_client e.0 e.1) (client_twins es)
    ∙ ap (λ b. b || list_any (is_twin r t) (client_twins es)) (of_client r t e.0 e.1)
    ∙ ap (λ b. has_further (Client r) t e.0 e.1 || b) (further_client r t es)

one_place : (b : Bool) (m l : ℕ) → ltb (cond (not b) (1 + m) 0) (l + 1) ≡ (b || ltb m l)
one_place true m l = grind (arith, nat_tests)
one_place false m l = grind (arith, nat_tests)

within : {X : Type 0} (p : X → Bool) (xs : List X) → ltb (position_or_len p xs) (length xs) ≡ list_any p xs
within p [] = refl
within p (x ∷ xs) =
    ap (ltb (position_or_len p (x ∷ xs))) (sym (add-one (length xs)))
    ∙ one_place (p x) (position_or_len p xs) (length xs) ∙ ap (λ b. p x || b) (within p xs)

is_some-cond : {X : Type 0} (b : Bool) (x : X) → is_some (cond b (Some x) None) ≡ b
is_some-cond true x = refl
is_some-cond false x = refl

is_some-option_map : {X Y : Type 0} (f : X → Y) (o : Option X) → is_some (option_map f o) ≡ is_some o
is_some-option_map f None = refl
is_some-option_map f (Some x) = refl

is_some-position : {X : Type 0} (p : X → Bool) (xs : List X) → is_some (position p xs) ≡ list_any p xs
is_some-position p xs = is_some-cond (ltb (position_or_len p xs) (length xs)) (position_or_len p xs) ∙ within p xs

twin_is : (faulty : List (Party × ℕ)) (p : Party) (t : ℕ) → is_some (twin_place faulty p t) ≡ list_any (λ e. has_further p t e.0 e.1) faulty
twin_is faulty (Replica r) t = is_some-option_map _ (position (is_twin r t) (replica_twins faulty)) ∙ is_some-position (is_twin r t) (replica_twins faulty) ∙ further_replica r t faulty
twin_is faulty (Client c) t = is_some-option_map _ (position (is_twin c t) (client_twins faulty)) ∙ is_some-position (is_twin c t) (client_twins faulty) ∙ further_client c t faulty

is_some-two : (bad first : Bool) (own : Place) (o : Option Place) → is_some (cond bad (cond first (Some own) o) None) ≡ (bad && (first || is_some o))
is_some-two true true own o = refl
is_some-two true false own o = refl
is_some-two false first own o = refl

is_some-in : (b : Bool) (o : Option Place) → is_some (cond b o None) ≡ (b && is_some o)
is_some-in true o = refl
is_some-in false o = refl

place_is : (x : Setup) (p : Party) (t : ℕ) → is_some (place_of x p (Some t))
    ≡ (is_party x.cluster.f x.cluster.clients p && (is_bad x p && (eqb t 1 || list_any (λ e. has_further p t e.0 e.1) x.faulty)))
place_is x p t =
    is_some-in (is_party x.cluster.f x.cluster.clients p) (numbered_place x p (Some t))
    ∙ ap (λ b. is_party x.cluster.f x.cluster.clients p && b) (is_some-two (is_bad x p) (eqb t 1) (own_place p) (twin_place x.faulty p t))
    ∙ ap (λ b. is_party x.cluster.f x.cluster.clients p && (is_bad x p && (eqb t 1 || b))) (twin_is x.faulty p t)

pub own_is : (x : Setup) (p : Party) → (IsSome (place_of x p None) ↔ IsTrue (is_party x.cluster.f x.cluster.clients p))
own_is x p =
    let e = is_some-cond (is_party x.cluster.f x.cluster.clients p) (own_place p) in
    (λ h. sym e ∙ h, λ h. e ∙ h)

-- ---- the same in words

-- the entry of a party with a number of cores that passes
entry : (p : Party) (faulty : List (Party × ℕ)) (test : ℕ → Bool) → list_any (λ e. party_eq p e.0 && test e.1) faulty ≡ true
    → (n : ℕ) × Contains faulty (p, n) × (test n ≡ true)
entry p faulty test h =
    let a = Any-from_list_any (λ e. party_eq p e.0 && test e.1) faulty h in
    let e : Party × ℕ = a.1 in
    let b = and_parts (party_eq p e.0) (test e.1) a.4 in
    let is : e ≡ (p, e.1) = ap (λ (q : Party). (q, e.1)) (sym (same_party p e.0 b.0)) in
    (e.1, (a.0, a.2, subst (λ (d : Party × ℕ). get_or faulty a.0 d ≡ d) is a.3), b.1)

-- an entry that passes is found
entered : (p : Party) (faulty : List (Party × ℕ)) (test : ℕ → Bool) (n : ℕ) → Contains faulty (p, n) → test n ≡ true
    → list_any (λ e. party_eq p e.0 && test e.1) faulty ≡ true
entered p faulty test n c h =
    list_any_at (λ e. party_eq p e.0 && test e.1) faulty c.0 (p, n) c.1
    (subst (λ (e : Party × ℕ). (party_eq p e.0 && test e.1) ≡ true) (sym c.2) (and_from (party_eq p p) (test n) (party_eq-refl p) h))

any_true : (p : Party) (faulty : List (Party × ℕ)) → list_any (λ e. party_eq p e.0 && true) faulty ≡ list_any (λ e. party_eq p e.0) faulty
any_true p [] = refl
any_true p (e ∷ es) = ap (λ b. b || list_any (λ e. party_eq p e.0 && true) es) (and-true (party_eq p e.0)) ∙ ap (λ b. party_eq p e.0 || b) (any_true p es)

bad_is : (x : Setup) (p : Party) → list_any (λ e. party_eq p e.0 && true) x.faulty ≡ is_bad x p
bad_is x p = any_true p x.faulty ∙ faulty_of p x.faulty

abbrev HasCore : Setup → Party → ℕ → Type 0
HasCore x p t = (n : ℕ) × Contains x.faulty (p, n) × (1 ≤ t) × (t ≤ n)

has_core : (x : Setup) (p : Party) (t : ℕ) → All (λ e. 1 ≤ e.1) x.faulty → is_bad x p ≡ true
    → (eqb t 1 ≡ true) ⊎ (list_any (λ e. has_further p t e.0 e.1) x.faulty ≡ true) → HasCore x p t
has_core x p t some bad (inl first) =
    let c = entry p x.faulty (λ _. true) (bad_is x p ∙ bad) in
    let is : t ≡ 1 = (Decides-eqb t 1).0 first in
    let more : 1 ≤ c.0 = subst (λ (e : Party × ℕ). 1 ≤ e.1) c.1.2 (some c.1.0 (p, c.0) c.1.1) in
    (c.0, c.1, omega arith, omega arith)
has_core x p t some bad (inr later) =
    let c = entry p x.faulty (λ n. ltb 1 t && ltb t (n + 1)) later in
    let b = and_parts (ltb 1 t) (ltb t (c.0 + 1)) c.2 in
    (c.0, c.1, grind (arith, nat_tests), grind (arith, nat_tests))

further : (t n : ℕ) → 1 ≤ t → t ≤ n → eqb t 1 ≡ false → (ltb 1 t && ltb t (n + 1)) ≡ true
further t n h k e = grind (arith, nat_tests)

first_or_later : (x : Setup) (p : Party) (t : ℕ) (first : Bool) → eqb t 1 ≡ first → HasCore x p t
    → (first || list_any (λ e. has_further p t e.0 e.1) x.faulty) ≡ true
first_or_later x p t true is c = refl
first_or_later x p t false is c = entered p x.faulty (λ n. ltb 1 t && ltb t (n + 1)) c.0 c.1 (further t c.0 c.2 c.3 is)

pub numbered_is : (x : Setup) (p : Party) (t : ℕ) → All (λ e. 1 ≤ e.1) x.faulty
    → (IsSome (place_of x p (Some t)) ↔ (IsTrue (is_party x.cluster.f x.cluster.clients p) × HasCore x p t))
numbered_is x p t some =
    let later = list_any (λ e. has_further p t e.0 e.1) x.faulty in (
      λ h.
          let a = and_parts (is_party x.cluster.f x.cluster.clients p) (is_bad x p && (eqb t 1 || later)) (sym (place_is x p t) ∙ h) in
          let b = and_parts (is_bad x p) (eqb t 1 || later) a.1 in
          (a.0, has_core x p t some b.0 (or_cases (eqb t 1) later b.1)),
      λ h.
          let bad = sym (bad_is x p) ∙ entered p x.faulty (λ _. true) h.1.0 h.1.1 refl in
          place_is x p t ∙ and_from (is_party x.cluster.f x.cluster.clients p) (is_bad x p && (eqb t 1 || later)) h.0
          (and_from (is_bad x p) (eqb t 1 || later) bad (first_or_later x p t (eqb t 1) refl h.1)),
    )
