-- Requests that are equal, and their places.
use Rattle.std.proofs.Common.{◌≡◌, ℕ, zero, suc, ◌+◌, ◌-◌, ◌<◌, ◌≤◌, List, [], ◌∷◌, ◌++◌, length, drop, take-append-drop, map, get_or, Contains, Bool, true, false, ◌||◌, Some, None, ap, sym, ◌∙◌, arith, refl, inl, inr, take, subst, true≢false, IsTrue, slice_get, if◌then◌else◌}
use Rattle.std.specs.Bool.{Decides}
use Rattle.std.specs.List.{position, list_any, list_all}
use Rattle.std.specs.Option.{option_map}
use Rattle.std.specs.Cmp.Lexicographic.{pointwise}
use Rattle.std.proofs.lemmas.Bool.{cases_order, cases_Bool, false_from_ne_true, or_right}
use Rattle.std.proofs.lemmas.Bool.Decides.{Decides-eqb, Decides-and, Decides-like, Decides-ltb, Decides-by_and, nat_tests}
use Rattle.std.proofs.lemmas.Slice.Eq.{bytes_eq-Decides, slice_eq-Decides}
use Rattle.std.proofs.lemmas.Option.{slice_get_read, slice_get_within, get_or_from_slice_get}
use Rattle.std.proofs.lemmas.List.{get_or-map, get_or-take, length-map, length-take, take_all, take-append-le, get_or_default}
use Rattle.std.proofs.lemmas.List.Quantifiers.{position-Some}
use mathlib.Core.List.{IsPrefix}
use Rattle.ab_hist.specs.declared.request.Request.{Request}
use Rattle.ab_hist.specs.Requests.{key_of, is_key_of, request_eq}
use Rattle.ab_hist.specs.Histories.{IsHistory, IsNext, Precedes, place_in, can_push, CanPush, may_follow}

pub request_eq-Decides : (a b : Request) → Decides (request_eq a b) (a ≡ b)
request_eq-Decides a b =
    Decides-like (request_eq a b)
    (λ e. λ j. record { client = e.0 j; stamp = e.1.0 j; command = record { items = e.1.1 j } })
    (λ e. (ap (λ m. m.client) e, (ap (λ m. m.stamp) e, ap (λ m. m.command.items) e)))
    (Decides-and _ _ (Decides-eqb a.client b.client) (Decides-and _ _ (Decides-eqb a.stamp b.stamp) (bytes_eq-Decides a.command.items b.command.items)))

is_own_key : (m : Request) → is_key_of m (key_of m) ≡ true
is_own_key m = grind (arith, nat_tests)

any_key : (h : List Request) (m : Request) (k : ℕ) → k < length h → get_or h k m ≡ m → list_any (is_key_of m) (map key_of h) ≡ true
any_key [] m k lt e = absurd (omega arith)
any_key (x ∷ xs) m zero lt e = ap (λ b. b || list_any (is_key_of m) (map key_of xs)) (ap (λ y. is_key_of m (key_of y)) e ∙ is_own_key m)
any_key (x ∷ xs) m (suc k) lt e = or_right (is_key_of m (key_of x)) _ (any_key xs m k (omega arith) e)

-- a request that stands in the list has its key there
pub any_key_of : (h : List Request) (m : Request) → Contains h m → list_any (is_key_of m) (map key_of h) ≡ true
any_key_of h m at = any_key h m at.0 at.1 at.2

fst_of : (m x : Request) → is_key_of m (key_of x) ≡ true → m.client ≡ x.client
fst_of m x h = grind (arith, nat_tests)

snd_of : (m x : Request) → is_key_of m (key_of x) ≡ true → m.stamp ≡ x.stamp
snd_of m x h = grind (arith, nat_tests)

-- two places with one key are one
same_place : (h : List Request) (i k : ℕ) (d : Request) → IsHistory h → i < length h → k < length h → (get_or h i d).client ≡ (get_or h k d).client → (get_or h i d).stamp ≡ (get_or h k d).stamp → i ≡ k
same_place h i k d history low lt client stamp = elim (cases_order i k) [
  | inl e ↦ e
  | inr (inl before) ↦ absurd (omega (arith, history i k d before lt client, stamp))
  | inr (inr after) ↦ absurd (omega (arith, history k i d after low (sym client), stamp))
]

-- the entry at the first place of m's key is m, if m stands in the list at all
pub only_place : (h : List Request) (m d : Request) (i : ℕ) → IsHistory h → position (is_key_of m) (map key_of h) ≡ Some i → Contains h m → get_or h i d ≡ m
only_place h m d i history at (k, lt, e) =
    let found = position-Some (is_key_of m) (map key_of h) i (key_of d) at in
    let short : i < length h = omega (arith, found.0, length-map h key_of) in
    let key : is_key_of m (key_of (get_or h i d)) ≡ true = ap (is_key_of m) (sym (get_or-map key_of h i d (key_of d) short)) ∙ found.1 in
    let there : get_or h k d ≡ m = get_or_default h k d m lt ∙ e in
    let client : (get_or h i d).client ≡ (get_or h k d).client = sym (fst_of m (get_or h i d) key) ∙ ap (λ x. x.client) (sym there) in
    let stamp : (get_or h i d).stamp ≡ (get_or h k d).stamp = sym (snd_of m (get_or h i d) key) ∙ ap (λ x. x.stamp) (sym there) in
    let one : i ≡ k = same_place h i k d history short lt client stamp in
    ap (λ n. get_or h n d) one ∙ there

pub not_there : (h r : List Request) (keys : List (ℕ × ℕ)) (m : Request) → r ≡ h → keys ≡ map key_of r → false ≡ list_any (is_key_of m) keys → Contains h m → ⊥
not_there h r keys m view order none at = true≢false (sym (none ∙ ap (list_any (is_key_of m)) (order ∙ ap (map key_of) view) ∙ any_key_of h m at))

pub not_same : (h r : List Request) (keys : List (ℕ × ℕ)) (m x : Request) (i : ℕ) → r ≡ h → keys ≡ map key_of r → IsHistory r → Some i ≡ position (is_key_of m) keys → x ≡ get_or r i x → false ≡ request_eq x m → Contains h m → ⊥
not_same h r keys m x i view order history at here other stands =
    let e : x ≡ m = here ∙ only_place r m x i history (ap (position (is_key_of m)) (sym order) ∙ sym at) (subst (λ l. Contains l m) (sym view) stands) in
    true≢false (sym (other ∙ (request_eq-Decides x m).1 e))

pub found_at : (h r : List Request) (keys : List (ℕ × ℕ)) (m x : Request) (i : ℕ) → r ≡ h → keys ≡ map key_of r → i < length keys → x ≡ get_or r i x → true ≡ request_eq x m → slice_get h (i + 1 - 1) ≡ Some m
found_at h r keys m x i view order within here equal =
    let short : i < length r = omega (arith, within, ap length order, length-map r key_of) in
    let place : i + 1 - 1 ≡ i = omega arith in
    ap (slice_get h) place ∙ ap (λ l. slice_get l i) (sym view) ∙ slice_get_read r (length r) i x refl short here ∙ ap Some ((request_eq-Decides x m).0 (sym equal))

-- what comparing a front of another history says
pub prefix_says : (mine other front : List Request) (b : Bool) → b ≡ pointwise request_eq front mine → front ≡ take (length mine) other → (IsTrue b → take (length mine) other ≡ mine) × (take (length mine) other ≡ mine → IsTrue b)
prefix_says mine other front b equal is =
    let tells = slice_eq-Decides request_eq-Decides front mine b equal in
    ((λ t. sym is ∙ tells.0 t), (λ e. tells.1 (is ∙ e)))

-- a list begins with its front, and its front is what it begins with
pub prefix_from_front : (h k : List Request) → take (length h) k ≡ h → IsPrefix h k
prefix_from_front h k e = (drop (length h) k, ap (λ xs. xs ++ drop (length h) k) (sym e) ∙ take-append-drop (length h) k)

pub front_from_prefix : (h k : List Request) → IsPrefix h k → take (length h) k ≡ h
front_from_prefix h k (rest, e) = ap (take (length h)) (sym e) ∙ take-append-le (length h) h rest (omega arith) ∙ take_all (length h) h (omega arith)

differs : (m x : Request) → Precedes x m → is_key_of m (key_of x) ≡ false
differs m x before = elim (cases_Bool (is_key_of m (key_of x))) [
  | inl hit ↦ absurd (omega (arith, before (sym (fst_of m x hit)), snd_of m x hit))
  | inr miss ↦ miss
]

none_of : (h : List Request) (m : Request) → ((k : ℕ) (d : Request) → k < length h → Precedes (get_or h k d) m) → list_any (is_key_of m) (map key_of h) ≡ false
none_of [] m each = refl
none_of (x ∷ xs) m each =
    ap (λ b. b || list_any (is_key_of m) (map key_of xs)) (differs m x (each 0 x (omega arith)))
    ∙ none_of xs m (λ k d lt. each (suc k) d (omega arith))

-- the key of a request that may come next isn't there yet
pub fresh_key : (h : List Request) (m : Request) → IsNext h m → list_any (is_key_of m) (map key_of h) ≡ false
fresh_key h m next = none_of h m next

-- each entry may come next after those before it
pub next_at : (h : List Request) (i : ℕ) (m : Request) → IsHistory h → i < length h → m ≡ get_or h i m → IsNext (take i h) m
next_at h i m history lt at k d short =
    let low : k < i = omega (arith, length-take i h) in
    let there : get_or (take i h) k d ≡ get_or h k d = get_or-take i h k d low in
    let here : get_or h i d ≡ m = get_or_default h i d m lt ∙ sym at in
    rw there (subst (Precedes (get_or h k d)) here (history k i d low lt))

contains_more : (x : Request) (xs : List Request) (m : Request) → Contains xs m → Contains (x ∷ xs) m
contains_more x xs m (k, lt, e) = (suc k, omega arith, e)

pub place_in-none : (h : List Request) (m : Request) → (Contains h m → ⊥) → place_in h m ≡ None
place_in-none [] m absent = refl
place_in-none (x ∷ xs) m absent =
    let other : request_eq x m ≡ false = false_from_ne_true (request_eq x m) (λ e. absent (0, omega arith, (request_eq-Decides x m).0 e)) in
    ap (λ b. if b then Some 1 else option_map suc (place_in xs m)) other
    ∙ ap (option_map suc) (place_in-none xs m (λ at. absent (contains_more x xs m at)))

-- what stands in the front of a list stands in the list
pub contains_front : (n : ℕ) (h : List Request) (m : Request) → Contains (take n h) m → Contains h m
contains_front n h m (k, lt, e) =
    let low : k < n = omega (arith, length-take n h) in
    (k, omega (arith, length-take n h), sym (get_or-take n h k m low) ∙ e)

-- a request that stands at place p of a history isn't among fewer of its entries
pub not_in_front : (n : ℕ) (h : List Request) (m : Request) (p : ℕ) → IsHistory h → 1 ≤ p → slice_get h (p - 1) ≡ Some m → n < p → Contains (take n h) m → ⊥
not_in_front n h m p history first there beyond (k, lt, e) =
    let low : k < n = omega (arith, length-take n h) in
    let short : k < length h = omega (arith, length-take n h) in
    let within : p - 1 < length h = slice_get_within h (p - 1) m there in
    let here : get_or h k m ≡ m = sym (get_or-take n h k m low) ∙ e in
    let behind : get_or h (p - 1) m ≡ m = get_or_from_slice_get h (p - 1) m m there in
    let same : get_or h k m ≡ get_or h (p - 1) m = here ∙ sym behind in
    let one : k ≡ p - 1 = same_place h k (p - 1) m history short within (ap (λ x. x.client) same) (ap (λ x. x.stamp) same) in
    omega arith

tail_history : (x : Request) (xs : List Request) → IsHistory (x ∷ xs) → IsHistory xs
tail_history x xs history i j d lt within = history (suc i) (suc j) d (omega arith) (omega arith)

pub place_in-at : (h : List Request) (m : Request) (i : ℕ) → IsHistory h → slice_get h i ≡ Some m → place_in h m ≡ Some (i + 1)
place_in-at [] m i history e = cc
place_in-at (x ∷ xs) m zero history e =
    let here : request_eq x m ≡ true = (request_eq-Decides x m).1 (cc) in
    ap (λ b. if b then Some 1 else option_map suc (place_in xs m)) here
place_in-at (x ∷ xs) m (suc i) history e =
    let within : i < length xs = slice_get_within xs i m e in
    let there : get_or xs i m ≡ m = get_or_from_slice_get xs i m m e in
    let before : Precedes x m = subst (Precedes x) there (history 0 (suc i) m (omega arith) (omega arith)) in
    let other : request_eq x m ≡ false = false_from_ne_true (request_eq x m) (λ t. let one : x ≡ m = (request_eq-Decides x m).0 t in absurd (omega (arith, before (ap (λ y. y.client) one), ap (λ y. y.stamp) one))) in
    ap (λ b. if b then Some 1 else option_map suc (place_in xs m)) other
    ∙ ap (option_map suc) (place_in-at xs m i (tail_history x xs history) e)
    ∙ ap Some (let step : suc (i + 1) ≡ suc i + 1 = omega arith in step)

follows_says : (m e : Request) → may_follow m e ≡ true → Precedes e m
follows_says m e h same_client = grind (arith, nat_tests)

follows_if : (m e : Request) → Precedes e m → may_follow m e ≡ true
follows_if m e h = grind (arith, nat_tests)

-- the tests say what the definitions say
pub next-Decides : (h : List Request) (m : Request) → Decides (list_all (may_follow m) h) (IsNext h m)
next-Decides h m = Decides-by_and (may_follow m) (λ e. Precedes e m) (list_all (may_follow m)) (λ e. (follows_says m e, follows_if m e)) refl (λ _ _. refl) h

pub can_push-Decides : (h : List Request) (m : Request) → Decides (can_push h m) (CanPush h m)
can_push-Decides h m = Decides-and _ _ (Decides-ltb (length h) 1024) (next-Decides h m)
