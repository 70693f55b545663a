-- A log knows of its requests what the whole history knows.
use Rattle.std.proofs.Common.{◌≡◌, ℕ, zero, suc, ◌+◌, ◌-◌, ◌<◌, ◌≤◌, Bool, true, false, not, Option, Some, None, List, [], ◌∷◌, ◌++◌, length, take, drop, get_or, arith, refl, sym, ap, ◌∙◌, subst, inl, inr}
use Rattle.std.specs.Prelude.{Contains, ◌||◌, ◌&&◌, nat_eq, nat_le, nat_lt, if◌then◌else◌}
use Rattle.std.specs.List.{list_all}
use Rattle.std.specs.Option.{option_map}
use Rattle.std.proofs.lemmas.Bool.{and_parts, ltb-true}
use Rattle.std.proofs.lemmas.Bool.Decides.{nat_tests}
use Rattle.std.proofs.lemmas.List.{take-append-drop, length-take, take_more, take_all}
use Rattle.std.specs.Cmp.Lexicographic.{pointwise}
use Rattle.std.proofs.lemmas.List.Elements.{Contains-append_right, Contains-append_cases}
use Rattle.ab_hist.specs.declared.request.Request.{Request}
use Rattle.ab_hist.specs.Requests.{request_eq}
use Rattle.ab_hist.specs.Histories.{IsHistory, Precedes, may_follow, place_in, can_push}
use Rattle.ab_hist.proofs.RequestLemmas.{request_eq-Decides, place_in-none}
use Rattle.ab_hist.proofs.KeptLemmas.{history-take}
use Rattle.ab_hist.specs.Trimmed.{digest_at}
use Rattle.ab_hist.specs.Known.{is_no_later, known_place, can_push_after}
use Rattle.ab_trim.specs.Known.{Last, last_from, last_of, Log, IsLogOf, place_of_last, place_behind, place_by, follows_last, can_push_by, forget_log}
use Rattle.ab_trim.proofs.Chains.{Contains-head, Contains-tail, Contains-cons_cases}
use Rattle.ab_trim.proofs.Stands.{ends, digests, forgets, front_split}

-- ---- the last request of a client

pub last_more : (c n : ℕ) (old : Option Last) (h k : List Request) → last_from c n old (h ++ k) ≡ last_from c (n + length h) (last_from c n old h) k
last_more c n old [] k = ap (λ m. last_from c m old k) (let e : n ≡ n + 0 = omega arith in e)
last_more c n old (m ∷ h) k =
    last_more c (n + 1) (if nat_eq m.client c then Some (record { place = n + 1; request = m }) else old) h k
    ∙ ap (λ p. last_from c p (last_from c (n + 1) (if nat_eq m.client c then Some (record { place = n + 1; request = m }) else old) h) k) (let e : n + 1 + length h ≡ n + suc (length h) = omega arith in e)

pub last_push : (c : ℕ) (h : List Request) (m : Request) → last_of (h ++ m ∷ []) c ≡ (if nat_eq m.client c then Some (record { place = length h + 1; request = m }) else last_of h c)
last_push c h m =
    last_more c 0 None h (m ∷ [])
    ∙ ap (λ p. if nat_eq m.client c then Some (record { place = p; request = m }) else last_of h c) (let e : 0 + length h + 1 ≡ length h + 1 = omega arith in e)

-- ---- tests along a list

pub all_true : {A : Type 0} (t : A → Bool) (xs : List A) (x : A) → list_all t xs ≡ true → Contains xs x → t x ≡ true
all_true t [] x is has = absurd (omega (arith, has.1))
all_true t (y ∷ xs) x is has =
    let both = and_parts (t y) (list_all t xs) is in
    elim (Contains-cons_cases y xs x has) [ inl e ↦ ap t (sym e) ∙ both.0 | inr more ↦ all_true t xs x both.1 more ]

all_from : {A : Type 0} (t : A → Bool) (xs : List A) → ((x : A) → Contains xs x → t x ≡ true) → list_all t xs ≡ true
all_from t [] each = refl
all_from t (x ∷ xs) each = (λ i. each x (Contains-head x xs) i && list_all t xs) ∙ all_from t xs (λ y has. each y (Contains-tail x y xs has))

all-append : {A : Type 0} (t : A → Bool) (xs ys : List A) → list_all t (xs ++ ys) ≡ (list_all t xs && list_all t ys)
all-append t [] ys = refl
all-append t (x ∷ xs) ys = ap (λ b. t x && b) (all-append t xs ys) ∙ and_assoc (t x) (list_all t xs) (list_all t ys)
  where
    and_assoc : (a b c : Bool) → (a && (b && c)) ≡ ((a && b) && c)
    and_assoc true b c = refl
    and_assoc false b c = refl

and-true : (a : Bool) → (a && true) ≡ a
and-true true = refl
and-true false = refl

and-false : (a : Bool) → (a && false) ≡ false
and-false true = refl
and-false false = refl

and_swap : (a b : Bool) → (a && b) ≡ (b && a)
and_swap true true = refl
and_swap true false = refl
and_swap false true = refl
and_swap false false = refl

below : (e : Request) → may_follow e e ≡ true → ⊥
below e is = grind (arith, nat_tests)

-- ---- places along a list

abbrev first_place : Option ℕ → Option ℕ → Option ℕ
first_place None b = b
first_place (Some x) b = Some x

mapped_first : (a b : Option ℕ) → option_map suc (first_place a b) ≡ first_place (option_map suc a) (option_map suc b)
mapped_first None b = refl
mapped_first (Some x) b = refl

mapped_twice : (n : ℕ) (a : Option ℕ) → option_map suc (option_map (λ x. n + x) a) ≡ option_map (λ x. suc n + x) a
mapped_twice n None = refl
mapped_twice n (Some x) = ap (λ k. Some k) (let e : suc (n + x) ≡ suc n + x = omega arith in e)

mapped_none : (a : Option ℕ) → a ≡ option_map (λ x. 0 + x) a
mapped_none None = refl
mapped_none (Some x) = ap (λ k. Some k) (let e : x ≡ 0 + x = omega arith in e)

append_by : (y : Request) (h k : List Request) (m : Request) (b : Bool) → place_in (h ++ k) m ≡ first_place (place_in h m) (option_map (λ x. length h + x) (place_in k m))
    → (if b then Some 1 else option_map suc (place_in (h ++ k) m)) ≡ first_place (if b then Some 1 else option_map suc (place_in h m)) (option_map (λ x. length (y ∷ h) + x) (place_in k m))
append_by y h k m true more = refl
append_by y h k m false more =
    ap (option_map suc) more
    ∙ (mapped_first (place_in h m) (option_map (λ x. length h + x) (place_in k m))
    ∙ ap (first_place (option_map suc (place_in h m))) (mapped_twice (length h) (place_in k m)))

place-append : (h k : List Request) (m : Request) → place_in (h ++ k) m ≡ first_place (place_in h m) (option_map (λ x. length h + x) (place_in k m))
place-append [] k m = mapped_none (place_in k m)
place-append (y ∷ h) k m = append_by y h k m (request_eq y m) (place-append h k m)

-- a request with a place stands in the list
placed_rest : (x : Request) (h : List Request) (m : Request) (n : ℕ) (o : Option ℕ) → ((k : ℕ) → o ≡ Some k → Contains h m) → option_map suc o ≡ Some n → Contains (x ∷ h) m
placed_rest x h m n None more is = absurd (cc (is))
placed_rest x h m n (Some k) more is = Contains-tail x m h (more k refl)

placed_by : (x : Request) (h : List Request) (m : Request) (n : ℕ) (b : Bool) → ((k : ℕ) → place_in h m ≡ Some k → Contains h m) → request_eq x m ≡ b → place_in (x ∷ h) m ≡ Some n → Contains (x ∷ h) m
placed_by x h m n true more e is = subst (λ (y : Request). Contains (x ∷ h) y) ((request_eq-Decides x m).0 e) (Contains-head x h)
placed_by x h m n false more e is = placed_rest x h m n (place_in h m) more (sym (ap (λ b. if b then Some 1 else option_map suc (place_in h m)) e) ∙ is)

placed : (h : List Request) (m : Request) (n : ℕ) → place_in h m ≡ Some n → Contains h m
placed [] m n is = absurd (cc (is))
placed (x ∷ h) m n is = placed_by x h m n (request_eq x m) (placed h m) refl is

tail_history : (x : Request) (xs : List Request) → IsHistory (x ∷ xs) → IsHistory xs
tail_history x xs history i j d lt within = history (suc i) (suc j) d (omega arith) (omega arith)

-- what stands earlier comes before
before : (p r : List Request) (e m : Request) → IsHistory (p ++ r) → Contains p e → Contains r m → Precedes e m
before [] r e m history has there = absurd (omega (arith, has.1))
before (x ∷ p) r e m history has there =
    elim (Contains-cons_cases x p e has) [
      | inl same ↦
          let at = Contains-append_right p r m there in
          subst (λ (y : Request). Precedes y m) same (subst (λ (y : Request). Precedes x y) (any_get (p ++ r) at.0 m x at.1 ∙ at.2) (history 0 (suc at.0) x (omega arith) (omega (arith, at.1))))
      | inr more ↦ before p r e m (tail_history x (p ++ r) history) more there
    ]
  where
    any_get : (xs : List Request) (k : ℕ) (d e : Request) → k < length xs → get_or xs k e ≡ get_or xs k d
    any_get [] k d e lt = absurd (omega arith)
    any_get (y ∷ xs) zero d e lt = refl
    any_get (y ∷ xs) (suc k) d e lt = any_get xs k d e (omega arith)

other_client : (m e : Request) → nat_eq e.client m.client ≡ false → is_no_later m e ≡ true
other_client m e is = ap (λ b. not b || nat_le e.stamp m.stamp) is

precedes_passes : (m e : Request) → Precedes e m → is_no_later m e ≡ true
precedes_passes m e p = grind (arith, nat_tests)

itself_passes : (m : Request) → is_no_later m m ≡ true
itself_passes m = grind (arith, nat_tests)

same_client : (m e : Request) → nat_eq e.client m.client ≡ true → e.client ≡ m.client
same_client m e is = grind (arith, nat_tests)

not_above : (m x : Request) → nat_eq x.client m.client ≡ true → is_no_later m x ≡ true → x.stamp ≤ m.stamp
not_above m x same passes = grind (arith, nat_tests)

differ : (x m : Request) → nat_eq x.client m.client ≡ false → request_eq x m ≡ false
differ x m is = ap (λ b. b && (nat_eq x.stamp m.stamp && pointwise nat_eq x.command.items m.command.items)) is

-- ---- the last of a client is the one that is known

abbrev KnownHere : List Request → Request → Type 0
KnownHere p m = place_of_last (last_of p m.client) m ≡ (if list_all (is_no_later m) p then place_in p m else None)

module _ (m : Request) where
  at_push : (q : List Request) (x : Request) → place_in (q ++ x ∷ []) m ≡ first_place (place_in q m) (option_map (λ k. length q + k) (if request_eq x m then Some 1 else None))
  at_push q x = place-append q (x ∷ []) m

  tests_push : (q : List Request) (x : Request) → list_all (is_no_later m) (q ++ x ∷ []) ≡ (list_all (is_no_later m) q && is_no_later m x)
  tests_push q x = all-append (is_no_later m) q (x ∷ []) ∙ ap (λ b. list_all (is_no_later m) q && b) (and-true (is_no_later m x))

  first_none : (o : Option ℕ) → first_place o None ≡ o
  first_none None = refl
  first_none (Some n) = refl

  known_step : (q : List Request) (x : Request) → IsHistory (q ++ x ∷ []) → KnownHere q m → KnownHere (q ++ x ∷ []) m
  known_step q x history was = by_client (nat_eq x.client m.client) refl
    where
      whole : List Request
      whole = q ++ x ∷ []

      by_client : (b : Bool) → nat_eq x.client m.client ≡ b → KnownHere (q ++ x ∷ []) m
      by_client false other =
          ap (λ o. place_of_last o m) (last_push m.client q x ∙ ap (λ b. if b then Some (record { place = length q + 1; request = x }) else last_of q m.client) other)
          ∙ (was
          ∙ λ i. if sym (tests_push q x ∙ (ap (λ b. list_all (is_no_later m) q && b) (other_client m x other) ∙ and-true (list_all (is_no_later m) q))) i
          then sym (at_push q x ∙ (ap (λ b. first_place (place_in q m) (option_map (λ k. length q + k) (if b then Some 1 else None))) (differ x m other) ∙ first_none (place_in q m))) i
          else None)
      by_client true same = by_request (request_eq x m) refl
        where
          here : last_of (q ++ x ∷ []) m.client ≡ Some (record { place = length q + 1; request = x })
          here = last_push m.client q x ∙ ap (λ b. if b then Some (record { place = length q + 1; request = x }) else last_of q m.client) same

          by_tests : (b : Bool) → request_eq x m ≡ false → list_all (is_no_later m) (q ++ x ∷ []) ≡ b → None ≡ (if list_all (is_no_later m) (q ++ x ∷ []) then place_in (q ++ x ∷ []) m else None)
          by_tests false other tests = sym (ap (λ b. if b then place_in (q ++ x ∷ []) m else None) tests)
          by_tests true other tests =
              let low : x.stamp ≤ m.stamp = not_above m x same (all_true (is_no_later m) (q ++ x ∷ []) x tests (Contains-append_right q (x ∷ []) x (Contains-head x []))) in
              let absent : Contains (q ++ x ∷ []) m → ⊥ =
              λ has.
              elim (Contains-append_cases q (x ∷ []) m has) [
                | inl early ↦ omega (arith, low, before q (x ∷ []) m x history early (Contains-head x []) (sym (same_client m x same)))
                | inr last ↦ elim (Contains-cons_cases x [] m last) [
                  | inl e ↦ let two : true ≡ false = sym ((request_eq-Decides x m).1 e) ∙ other in cc (two)
                  | inr none ↦ omega (arith, none.1)
                ]
              ]
              in
              sym (ap (λ b. if b then place_in (q ++ x ∷ []) m else None) tests ∙ place_in-none (q ++ x ∷ []) m absent)

          by_request : (b : Bool) → request_eq x m ≡ b → KnownHere (q ++ x ∷ []) m
          by_request false other =
              ap (λ o. place_of_last o m) here ∙ (ap (λ b. if b then Some (length q + 1) else None) other ∙ by_tests (list_all (is_no_later m) (q ++ x ∷ [])) other refl)
          by_request true equal =
              let e : x ≡ m = (request_eq-Decides x m).0 equal in
              let tests : list_all (is_no_later m) (q ++ x ∷ []) ≡ true =
              tests_push q x ∙ (λ i. all_from (is_no_later m) q (λ y has. precedes_passes m y (subst (λ (z : Request). Precedes y z) e (before q (x ∷ []) y x history has (Contains-head x [])))) i
              && (ap (is_no_later m) e ∙ itself_passes m) i)
              in
              let early : place_in q m ≡ None = place_in-none q m (λ has. let p = before q (x ∷ []) m x history has (Contains-head x []) in omega (arith, p (ap (λ (z : Request). z.client) (sym e)), ap (λ (z : Request). z.stamp) e)) in
              let at : place_in (q ++ x ∷ []) m ≡ Some (length q + 1) =
              at_push q x ∙ (λ i. first_place (early i) (option_map (λ k. length q + k) (if equal i then Some 1 else None)))
              in
              ap (λ o. place_of_last o m) here ∙ (ap (λ b. if b then Some (length q + 1) else None) equal ∙ sym (ap (λ b. if b then place_in (q ++ x ∷ []) m else None) tests ∙ at))

  -- ---- what may come next

  may_by : (e : Request) (b : Bool) → nat_eq e.client m.client ≡ b → may_follow m e ≡ (not b || nat_lt e.stamp m.stamp)
  may_by e b is = ap (λ c. not c || nat_lt e.stamp m.stamp) is

  abbrev FollowsHere : List Request → Type 0
  FollowsHere p = follows_last (last_of p m.client) m ≡ list_all (may_follow m) p

  follows_push : (q : List Request) (x : Request) → list_all (may_follow m) (q ++ x ∷ []) ≡ (list_all (may_follow m) q && may_follow m x)
  follows_push q x = all-append (may_follow m) q (x ∷ []) ∙ ap (λ b. list_all (may_follow m) q && b) (and-true (may_follow m x))

  earlier_follows : (x e : Request) → x.client ≡ m.client → x.stamp < m.stamp → Precedes e x → may_follow m e ≡ true
  earlier_follows x e same low p = grind (arith, nat_tests)

  follows_step : (q : List Request) (x : Request) → IsHistory (q ++ x ∷ []) → FollowsHere q → FollowsHere (q ++ x ∷ [])
  follows_step q x history was = by_client (nat_eq x.client m.client) refl
    where
      by_client : (b : Bool) → nat_eq x.client m.client ≡ b → FollowsHere (q ++ x ∷ [])
      by_client false other =
          ap (λ o. follows_last o m) (last_push m.client q x ∙ ap (λ b. if b then Some (record { place = length q + 1; request = x }) else last_of q m.client) other)
          ∙ (was ∙ sym (follows_push q x ∙ (ap (λ b. list_all (may_follow m) q && b) (may_by x false other) ∙ and-true (list_all (may_follow m) q))))
      by_client true same = by_stamp (nat_lt x.stamp m.stamp) refl
        where
          here : follows_last (last_of (q ++ x ∷ []) m.client) m ≡ nat_lt x.stamp m.stamp
          here = ap (λ o. follows_last o m) (last_push m.client q x ∙ ap (λ b. if b then Some (record { place = length q + 1; request = x }) else last_of q m.client) same)

          by_stamp : (b : Bool) → nat_lt x.stamp m.stamp ≡ b → FollowsHere (q ++ x ∷ [])
          by_stamp false high =
              here ∙ (high ∙ sym (follows_push q x ∙ (ap (λ b. list_all (may_follow m) q && b) (may_by x true same ∙ high) ∙ and-false (list_all (may_follow m) q))))
          by_stamp true low =
              let each : list_all (may_follow m) q ≡ true =
              all_from (may_follow m) q (λ e has. earlier_follows x e (same_client m x same) (ltb-true x.stamp m.stamp low) (before q (x ∷ []) e x history has (Contains-head x [])))
              in
              here ∙ (low ∙ sym (follows_push q x ∙ λ i. each i && (may_by x true same ∙ low) i))

  -- ---- along a history

  front_history : (n : ℕ) (h : List Request) → IsHistory h → IsHistory (take n h)
  front_history n h history = history-take h n history

  along : (P : List Request → Type 0) → P [] → ((q : List Request) (x : Request) → IsHistory (q ++ x ∷ []) → P q → P (q ++ x ∷ [])) → (h : List Request) → IsHistory h → (n : ℕ) → n ≤ length h → P (take n h)
  along P none step h history zero le = none
  along P none step [] history (suc n) le = absurd (omega (arith, le))
  along P none step (y ∷ h) history (suc n) le =
      let x = get_or (y ∷ h) n y in
      let e : take (suc n) (y ∷ h) ≡ take n (y ∷ h) ++ x ∷ [] = ap (λ k. take k (y ∷ h)) (let s : suc n ≡ n + 1 = omega arith in s) ∙ take_more (y ∷ h) n y (omega (arith, le)) in
      subst P (sym e) (step (take n (y ∷ h)) x (subst IsHistory e (front_history (suc n) (y ∷ h) history)) (along P none step (y ∷ h) history n (omega (arith, le))))

  all_along : (P : List Request → Type 0) → P [] → ((q : List Request) (x : Request) → IsHistory (q ++ x ∷ []) → P q → P (q ++ x ∷ [])) → (h : List Request) → IsHistory h → P h
  all_along P none step h history = subst P (take_all (length h) h (omega arith)) (along P none step h history (length h) (omega arith))

  known_last : (p : List Request) → IsHistory p → place_of_last (last_of p m.client) m ≡ (if list_all (is_no_later m) p then place_in p m else None)
  known_last p history = all_along (λ q. KnownHere q m) refl known_step p history

  follows_all : (p : List Request) → IsHistory p → follows_last (last_of p m.client) m ≡ list_all (may_follow m) p
  follows_all p history = all_along FollowsHere refl follows_step p history

  -- ---- of a log

  module _ (l : Log) (h : List Request) (is : IsLogOf l h) (history : IsHistory h) where
    abbrev old : List Request
    old = take l.list.start h

    abbrev new : List Request
    new = drop l.list.start h

    split : old ++ new ≡ h
    split = take-append-drop l.list.start h

    joined : IsHistory (old ++ new)
    joined = subst IsHistory (sym split) history

    long : length old ≡ l.list.start
    long = omega (arith, length-take l.list.start h, is.stands.reaches)

    place_with : (o : Option ℕ) → place_in new m ≡ o → place_behind l.list.start o (place_of_last (l.last m.client) m) ≡ known_place l.list.start h m
    place_with None at =
        ap (λ k. place_of_last k m) (is.lasts m.client)
        ∙ (known_last old (front_history l.list.start h history)
        ∙ ap (λ o. if list_all (is_no_later m) old then o else None) (sym (ap (λ k. place_in k m) (sym split) ∙ (place-append old new m ∙ (ap (λ o. first_place (place_in old m) (option_map (λ x. length old + x) o)) at ∙ first_none (place_in old m))))))
    place_with (Some y) at =
        let there = placed new m y at in
        let tests : list_all (is_no_later m) old ≡ true = all_from (is_no_later m) old (λ e has. precedes_passes m e (before old new e m joined has there)) in
        let early : place_in old m ≡ None = place_in-none old m (λ has. let p = before old new m m joined has there in omega (arith, p refl)) in
        sym (ap (λ b. if b then place_in h m else None) tests
        ∙ (ap (λ k. place_in k m) (sym split) ∙ (place-append old new m ∙ (λ i. first_place (early i) (option_map (λ x. long i + x) (at i))))))

    -- it finds the requests that are known, at their places in the whole history
    pub places_agree : place_by l m ≡ known_place l.list.start h m
    places_agree =
        ap (λ (k : List Request). place_behind l.list.start (place_in k m) (place_of_last (l.last m.client) m)) (sym is.stands.rest)
        ∙ place_with (place_in new m) refl

    room : nat_lt (length l.list.rest) 1024 ≡ nat_lt (length h) (l.list.start + 1024)
    room = let e = ends l.list h is.stands in grind (arith, nat_tests, e)

    -- and the same requests may come next
    pub pushes_agree : can_push_by l m ≡ can_push_after l.list.start h m
    pushes_agree =
        λ i. room i && (nat_lt (ends l.list h is.stands i) 65535 && (parts i))
      where
        parts : (list_all (may_follow m) l.list.rest && follows_last (l.last m.client) m) ≡ list_all (may_follow m) h
        parts =
            (λ i. list_all (may_follow m) (sym is.stands.rest i) && (ap (λ k. follows_last k m) (is.lasts m.client) ∙ follows_all old (front_history l.list.start h history)) i)
            ∙ (and_swap (list_all (may_follow m) new) (list_all (may_follow m) old) ∙ (sym (all-append (may_follow m) old new) ∙ ap (list_all (may_follow m)) split))

  -- what is not known is not logged again
  pub unknown_stays : (n : ℕ) (h : List Request) → IsHistory h → Contains h m → known_place n h m ≡ None → can_push_after n h m ≡ false
  unknown_stays n h history has unknown = by_push (can_push_after n h m) refl
    where
      by_push : (b : Bool) → can_push_after n h m ≡ b → can_push_after n h m ≡ false
      by_push false e = e
      by_push true e =
          let one = and_parts (nat_lt (length h) (n + 1024)) (nat_lt (length h) 65535 && list_all (may_follow m) h) e in
          let two = and_parts (nat_lt (length h) 65535) (list_all (may_follow m) h) one.1 in
          let self = all_true (may_follow m) h m two.1 has in
          absurd (below m self)

-- if nothing is forgotten, all is known
pub all_known : (h : List Request) (m : Request) → known_place 0 h m ≡ place_in h m
all_known h m = refl

-- two logs of one history
module _ (m : Request) (n : ℕ) (l k : Log) (h : List Request) (l_is : IsLogOf l h) (k_is : IsLogOf k h) (history : IsHistory h) (le : k.list.start ≤ l.list.start) where
  fewer_tests : list_all (is_no_later m) (take l.list.start h) ≡ true → list_all (is_no_later m) (take k.list.start h) ≡ true
  fewer_tests is =
      let front = take k.list.start h in
      let more = take (l.list.start - k.list.start) (drop k.list.start h) in
      (and_parts (list_all (is_no_later m) front) (list_all (is_no_later m) more) (sym (all-append (is_no_later m) front more) ∙ (ap (list_all (is_no_later m)) (sym (front_split k.list.start l.list.start h le)) ∙ is))).0

  known_with : (b : Bool) → list_all (is_no_later m) (take l.list.start h) ≡ b → (if list_all (is_no_later m) (take l.list.start h) then place_in h m else None) ≡ Some n → place_by k m ≡ Some n
  known_with true is at =
      places_agree m k h k_is history
      ∙ (ap (λ b. if b then place_in h m else None) (fewer_tests is) ∙ (sym (ap (λ b. if b then place_in h m else None) is) ∙ at))
  known_with false is at = absurd (let two : None ≡ Some n = sym (ap (λ b. if b then place_in h m else None) is) ∙ at in cc (two))

  pub known_by_less : place_by l m ≡ Some n → place_by k m ≡ Some n
  known_by_less at = known_with (list_all (is_no_later m) (take l.list.start h)) refl (sym (places_agree m l h l_is history) ∙ at)

pub same_digests : (n : ℕ) (l k : Log) (h : List Request) → IsLogOf l h → IsLogOf k h → l.list.start ≤ n → k.list.start ≤ n → digest_at l.list n ≡ digest_at k.list n
same_digests n l k h l_is k_is above also = digests l.list h l_is.stands n above ∙ sym (digests k.list h k_is.stands n also)

-- a log that forgets more is that of the same history
pub log_forgets : (n : ℕ) (l : Log) (h : List Request) → IsLogOf l h → l.list.start ≤ n → n ≤ length h → IsLogOf (forget_log n l) h
log_forgets n l h is le within = record {
  stands = forgets l.list h is.stands n le within;
  lasts = λ c.
      let old = take l.list.start h in
      let long : length old ≡ l.list.start = omega (arith, length-take l.list.start h, is.stands.reaches) in
      (λ i. last_from c l.list.start (is.lasts c i) (take (n - l.list.start) (sym is.stands.rest i)))
      ∙ ((λ i. last_from c ((let e : l.list.start ≡ 0 + length old = omega (arith, long) in e) i) (last_of old c) (take (n - l.list.start) (drop l.list.start h)))
      ∙ (sym (last_more c 0 None old (take (n - l.list.start) (drop l.list.start h))) ∙ ap (λ (k : List Request). last_of k c) (sym (front_split l.list.start n h le))));
}
