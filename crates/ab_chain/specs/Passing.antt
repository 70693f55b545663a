-- What a position passes on has bytes: of two places along the chain there is at most one tag.
use Rattle.std.proofs.Common.{◌≡◌, ℕ, ◌+◌, ◌-◌, ◌*◌, ◌<◌, ◌≤◌, Bool, true, false, Option, None, Some, List, [], ◌∷◌, ◌++◌, length, map, refl, sym, ap, ◌∙◌, subst, inl, inr, if◌then◌else◌, arith}
use Rattle.std.specs.Prelude.{All, not, ◌==◌, ◌&&◌, nat_eq, nat_le, nat_lt}
use Rattle.std.specs.List.{IsDistinct, list_any}
use Rattle.std.proofs.lemmas.Bool.{cases_Bool, and_parts, eqb-true}
use Rattle.std.proofs.lemmas.List.{map-append, length-map}
use Rattle.std.proofs.lemmas.List.Elements.{All-head, All-tail, All-nil, All-push}
use Rattle.std.proofs.lemmas.Cmp.{nat_eq_equiv}
use Rattle.std.proofs.lemmas.Map.Keys.{IsDistinct-push}
use Rattle.std.proofs.lemmas.Map.Steps.{length-le_from_distinct_below}
use Rattle.ab_num.specs.declared.party.Party.{Party}
use Rattle.ab_num.specs.declared.party.Party.TheVariants.{Replica, Client}
use Rattle.ab_num.specs.Places.{at_position_of, position_in}
use Rattle.ab_msg.specs.declared.chain_tags.TagBetween.{TagBetween}
use Rattle.ab_abs.proofs.Facts.{party_eq-Decides}
use Rattle.ab_abs.proofs.Positions.{position_here}
use Rattle.ab_chain.specs.Tags.{place_of, passes_between, is_for_later, same_pair, firsts, passed_on}

-- what holds of all that came holds of what is kept
pub firsts-all : (P : TagBetween → Type 0) (passes : TagBetween → Bool) (kept tags : List TagBetween) → All P kept → All P tags → All P (firsts passes kept tags)
firsts-all P passes kept [] all came = all
firsts-all P passes kept (t ∷ tags) all came = firsts-all P passes (if passes t && not (list_any (same_pair t) kept) then kept ++ t ∷ [] else kept) tags (one_more (passes t && not (list_any (same_pair t) kept))) (All-tail P t tags came)
  where
    one_more : (b : Bool) → All P (if b then kept ++ t ∷ [] else kept)
    one_more true = All-push P kept t all (All-head P t tags came)
    one_more false = all

lt_of : (a b : ℕ) → nat_lt a b ≡ true → a < b
lt_of a b is = grind (arith, is)

module _ (f i client p : ℕ) where
  -- a place that is no position
  abbrev IsOutside : ℕ → Type 0
  IsOutside place = 1 ≤ place → place ≤ 3 * f + 1 → ⊥

  replica_at : (r place : ℕ) → (if nat_lt r (3 * f + 1) then Some (position_in f i r) else None) ≡ Some place → (r < 3 * f + 1) × (position_in f i r ≡ place)
  replica_at r place is =
      elim (cases_Bool (nat_lt r (3 * f + 1))) [
        | inl within ↦ (lt_of r (3 * f + 1) within, let e : Some (position_in f i r) ≡ Some place = rw within at is in cc (e))
        | inr outside ↦ let e : None ≡ Some place = rw outside at is in absurd (cc (e))
      ]

  client_at : (c own place : ℕ) → (if c == client then Some own else None) ≡ Some place → (c ≡ client) × (own ≡ place)
  client_at c own place is =
      elim (cases_Bool (c == client)) [
        | inl same ↦ (eqb-true c client same, let e : Some own ≡ Some place = rw same at is in cc (e))
        | inr differ ↦ let e : None ≡ Some place = rw differ at is in absurd (cc (e))
      ]

  -- at each place is one party
  one_at : (own place : ℕ) (a b : Party) → IsOutside own → place_of f i client own a ≡ Some place → place_of f i client own b ≡ Some place → a ≡ b
  one_at own place (Replica r) (Replica s) outside here there =
      let a = replica_at r place here in
      let b = replica_at s place there in
      let x = position_here f i r a.0 in
      let y = position_here f i s b.0 in
      ap Replica (sym x.2 ∙ (ap (λ k. at_position_of f i k) (a.1 ∙ sym b.1) ∙ y.2))
  one_at own place (Replica r) (Client c) outside here there =
      let a = replica_at r place here in
      let x = position_here f i r a.0 in
      let e = client_at c own place there in
      absurd (outside (omega (arith, a, x, e)) (omega (arith, a, x, e)))
  one_at own place (Client c) (Replica r) outside here there =
      let a = replica_at r place there in
      let x = position_here f i r a.0 in
      let e = client_at c own place here in
      absurd (outside (omega (arith, a, x, e)) (omega (arith, a, x, e)))
  one_at own place (Client c) (Client d) outside here there = ap Client ((client_at c own place here).0 ∙ sym (client_at d own place there).0)

  last_place : (place : ℕ) (a : Party) → place_of f i client (3 * f + 2) a ≡ Some place → place ≤ 3 * f + 2
  last_place place (Replica r) is = let a = replica_at r place is in let x = position_here f i r a.0 in omega (arith, a, x)
  last_place place (Client c) is = let e = client_at c (3 * f + 2) place is in omega (arith, e)

  -- the places between which a tag goes
  record IsPassing (t : TagBetween) : Type 0 where
    maker : ℕ
    receiver : ℕ
    made : place_of f i client 0 t.by ≡ Some maker
    taken : place_of f i client (3 * f + 2) t.to ≡ Some receiver
    before : maker < p
    behind : p < receiver

  passing_from : (t : TagBetween) (a b : Option ℕ) → place_of f i client 0 t.by ≡ a → place_of f i client (3 * f + 2) t.to ≡ b → passes_between f p a b ≡ true → IsPassing t
  passing_from t (Some q) (Some r) made taken is =
      let parts = and_parts (nat_lt q p && nat_lt p r) (nat_le r (q + f + 1)) is in
      let sides = and_parts (nat_lt q p) (nat_lt p r) parts.0 in
      record { maker = q; receiver = r; made = made; taken = taken; before = lt_of q p sides.0; behind = lt_of p r sides.1 }
  passing_from t (Some q) None made taken is = absurd (cc (is))
  passing_from t None b made taken is = absurd (cc (is))

  passing : (t : TagBetween) → is_for_later f i client p t ≡ true → IsPassing t
  passing t is = passing_from t (place_of f i client 0 t.by) (place_of f i client (3 * f + 2) t.to) refl refl is

  -- one number for the two places
  abbrev pair_of : Option ℕ → Option ℕ → ℕ
  pair_of (Some q) (Some r) = 7 * q + (r - 2)
  pair_of (Some q) None = 0
  pair_of None b = 0

  abbrev number : TagBetween → ℕ
  number t = pair_of (place_of f i client 0 t.by) (place_of f i client (3 * f + 2) t.to)

  number_is : (t : TagBetween) (w : IsPassing t) → number t ≡ 7 * w.maker + (w.receiver - 2)
  number_is t w = ap (λ a. pair_of a (place_of f i client (3 * f + 2) t.to)) w.made ∙ ap (λ b. pair_of (Some w.maker) b) w.taken

  module _ (few : f ≤ 2) (most : p ≤ 3 * f + 1) where
    number_few : (t : TagBetween) → IsPassing t → number t < 49
    number_few t w =
        let n = number_is t w in
        let last = last_place w.receiver t.to w.taken in
        let before = w.before in
        omega (arith, n, last, before)

    same_places : (q r x y : ℕ) → q ≤ 6 → r ≤ 8 → 2 ≤ r → x ≤ 6 → y ≤ 8 → 2 ≤ y → 7 * q + (r - 2) ≡ 7 * x + (y - 2) → (q ≡ x) × (r ≡ y)
    same_places q r x y a b c d e g same = (omega (arith, same), omega (arith, same))

    -- two tags with one number are of one pair
    one_pair : (s t : TagBetween) → IsPassing s → IsPassing t → number s ≡ number t → same_pair s t ≡ true
    one_pair s t v w same =
        let low = last_place v.receiver s.to v.taken in
        let high = last_place w.receiver t.to w.taken in
        let v_before = v.before in
        let v_behind = v.behind in
        let w_before = w.before in
        let w_behind = w.behind in
        let places = same_places v.maker v.receiver w.maker w.receiver (omega arith) (omega arith) (omega arith) (omega arith) (omega arith) (omega arith) (sym (number_is s v) ∙ (same ∙ number_is t w)) in
        let by : t.by ≡ s.by = one_at 0 w.maker t.by s.by (λ one. absurd (omega (arith, one))) w.made (v.made ∙ ap Some places.0) in
        let to : t.to ≡ s.to = one_at (3 * f + 2) w.receiver t.to s.to (λ one last. absurd (omega (arith, last))) w.taken (v.taken ∙ ap Some places.1) in
        let by_is = (party_eq-Decides t.by s.by).1 by in
        let to_is = (party_eq-Decides t.to s.to).1 to in
        rw (by_is, to_is) refl

    abbrev IsOne : TagBetween → Type 0
    IsOne t = is_for_later f i client p t ≡ true

    -- a pair that is new has a number that is new
    new_number : (t : TagBetween) (kept : List TagBetween) → IsPassing t → All IsOne kept → list_any (same_pair t) kept ≡ false → list_any (nat_eq (number t)) (map number kept) ≡ false
    new_number t [] w all is = refl
    new_number t (s ∷ kept) w all is =
        elim (cases_Bool (same_pair t s)) [
          | inl same ↦ let e : true ≡ false = rw same at is in absurd (cc (e))
          | inr differ ↦
              let rest = new_number t kept w (All-tail IsOne s kept all) (rw differ at is) in
              elim (cases_Bool (nat_eq (number t) (number s))) [
                | inl equal ↦
                    let e = one_pair t s w (passing s (All-head IsOne s kept all)) (eqb-true (number t) (number s) equal) in
                    let no' : true ≡ false = sym e ∙ differ in absurd (cc (no'))
                | inr apart ↦ rw apart rest
              ]
        ]

    record AreOnes (kept : List TagBetween) : Type 0 where
      each : All IsOne kept
      apart : IsDistinct nat_eq (map number kept)

    more_ones : (t : TagBetween) (kept : List TagBetween) (b c : Bool) → is_for_later f i client p t ≡ b → list_any (same_pair t) kept ≡ c → AreOnes kept → AreOnes (if b && not c then kept ++ t ∷ [] else kept)
    more_ones t kept true false passes new was = record {
      each = All-push IsOne kept t was.each passes;
      apart = subst (λ (ns : List ℕ). IsDistinct nat_eq ns) (sym (map-append number kept (t ∷ []))) (IsDistinct-push nat_eq_equiv (map number kept) (number t) was.apart (new_number t kept (passing t passes) was.each new));
    }
    more_ones t kept true true passes new was = was
    more_ones t kept false c passes new was = was

    are_ones : (kept tags : List TagBetween) → AreOnes kept → AreOnes (firsts (is_for_later f i client p) kept tags)
    are_ones kept [] was = was
    are_ones kept (t ∷ tags) was = are_ones (if is_for_later f i client p t && not (list_any (same_pair t) kept) then kept ++ t ∷ [] else kept) tags (more_ones t kept (is_for_later f i client p t) (list_any (same_pair t) kept) refl refl was)

    number_below : (kept : List TagBetween) → All IsOne kept → (q : ℕ) → list_any (nat_eq q) (map number kept) ≡ true → q < 49
    number_below [] all q has = absurd (cc (has))
    number_below (t ∷ kept) all q has =
        elim (cases_Bool (nat_eq q (number t))) [
          | inl same ↦ subst (λ (n : ℕ). n < 49) (sym (eqb-true q (number t) same)) (number_few t (passing t (All-head IsOne t kept all)))
          | inr differ ↦ number_below kept (All-tail IsOne t kept all) q (rw differ at has)
        ]

    few_ones : (kept : List TagBetween) → AreOnes kept → length kept ≤ 49
    few_ones kept ones =
        let short = length-le_from_distinct_below (map number kept) 49 ones.apart (number_below kept ones.each) in
        omega (arith, short, length-map kept number)

    pub few_passed : (tags : List TagBetween) → length (passed_on f i client p tags) ≤ 49
    unfolding IsDistinct
    few_passed tags = few_ones (passed_on f i client p tags) (are_ones [] tags (record { each = All-nil IsOne; apart = tt }))
