-- Tables of how far lists agree.
use Rattle.std.proofs.Common.{◌≡◌, ℕ, zero, suc, ◌+◌, ◌-◌, ◌<◌, ◌≤◌, true, false, List, [], ◌∷◌, ◌++◌, length, take, drop, get_or, slice_get, Some, map, fold, max, arith, refl, sym, ap, ◌∙◌, subst, inl, inr, length-append, length-drop}
use Rattle.std.specs.Prelude.{if◌then◌else◌}
use Rattle.std.specs.Bool.{Decides}
use Rattle.std.proofs.lemmas.Bool.{cases_lt}
use Rattle.std.proofs.lemmas.Bool.Decides.{same_from_decides}
use Rattle.std.proofs.lemmas.List.{length-map, length-take, map-append, get_or-take, get_or-drop, get_or_default, get_or_append_left, get_or-append-add, take_more, take-append-le, take_all}
use Rattle.std.proofs.lemmas.List.Folds.{fold-map}
use Rattle.std.proofs.lemmas.Option.{slice_get_within, slice_get_read, get_or_from_slice_get}
use Rattle.ab_hist.specs.declared.request.Request.{Request}
use Rattle.ab_hist.specs.Requests.{request_eq}
use Rattle.ab_hist.proofs.RequestLemmas.{request_eq-Decides}
use Rattle.ab_extract.specs.declared.table.Branch.{Branch}
use Rattle.ab_extract.specs.Walks.{common_of}
use Rattle.ab_extract.specs.Tables.{IsTable, lists_of, list_at}
use Rattle.ab_extract.specs.Trees.{IsTree, HaveNodes, shared_of}
use Rattle.ab_extract.proofs.WalkLemmas.{map_after, map_get, common_nothing}
use Rattle.ab_extract.proofs.TreeLemmas.{HaveNodes-add}

-- ---- how far two lists agree

request_sym : (a b : Request) → request_eq a b ≡ request_eq b a
request_sym a b =
    let back : Decides (request_eq b a) (a ≡ b) = let d = request_eq-Decides b a in (λ e. sym (d.0 e), λ e. d.1 (sym e)) in
    same_from_decides (request_eq a b) (request_eq b a) (request_eq-Decides a b) back

pub common_sym : (h k : List Request) → common_of h k ≡ common_of k h
common_sym [] [] = refl
common_sym [] (y ∷ k) = refl
common_sym (x ∷ h) [] = refl
common_sym (x ∷ h) (y ∷ k) = λ j. if request_sym x y j then suc (common_sym h k j) else 0

pub common_itself : (h : List Request) → common_of h h ≡ length h
common_itself [] = refl
common_itself (x ∷ h) = ap (λ b. if b then suc (common_of h h) else 0) ((request_eq-Decides x x).1 refl) ∙ ap suc (common_itself h)

-- ---- a list that is read, entry by entry

-- past the end of a list nothing agrees
pub common_over : (n : ℕ) (h k : List Request) → length k ≤ n → common_of h (drop n k) ≡ 0
common_over zero h [] le = common_nothing h
common_over (suc n) h [] le = common_nothing h
common_over zero h (y ∷ k) le = absurd (omega arith)
common_over (suc n) h (y ∷ k) le = common_over n h k (omega arith)

common_front : (n : ℕ) (h rest k : List Request) (x y : Request) → h ≡ x ∷ rest → n < length k → get_or k n y ≡ y
    → common_of h (drop n k) ≡ (if request_eq x y then suc (common_of rest (drop (suc n) k)) else 0)
common_front n h rest [] x y is lt at = absurd (omega arith)
common_front zero h rest (z ∷ k) x y is lt at = ap (λ l. common_of l (z ∷ k)) is ∙ (λ j. if request_eq x (at j) then suc (common_of rest k) else 0)
common_front (suc n) h rest (z ∷ k) x y is lt at = common_front n h rest k x y is (omega arith) at

module _ (n : ℕ) (h rest k : List Request) (x y : Request) (total : ℕ) (so_far : n + common_of h (drop n k) ≡ total) (is : h ≡ x ∷ rest) (at : slice_get k (n + 1 - 1) ≡ Some y) where
  here : slice_get k n ≡ Some y
  here = ap (slice_get k) (let e : n ≡ n + 1 - 1 = omega arith in e) ∙ at

  front : common_of h (drop n k) ≡ (if request_eq x y then suc (common_of rest (drop (suc n) k)) else 0)
  front = common_front n h rest k x y is (slice_get_within k n y here) (get_or_from_slice_get k n y y here)

  -- the next entries are one
  pub one_entry : request_eq x y ≡ true → n + 1 + common_of rest (drop (n + 1) k) ≡ total
  one_entry same =
      let next : suc n ≡ n + 1 = omega arith in
      let more = common_of rest (drop (suc n) k) in
      let one : common_of h (drop n k) ≡ suc (common_of rest (drop (n + 1) k)) =
      front ∙ ap (λ t. if t then suc more else 0) same ∙ ap (λ i. suc (common_of rest (drop i k))) next
      in
      omega (arith, so_far, one)

  -- they differ
  pub other_entry : request_eq x y ≡ false → n ≡ total
  other_entry other =
      let more = common_of rest (drop (suc n) k) in
      let none : common_of h (drop n k) ≡ 0 = front ∙ ap (λ t. if t then suc more else 0) other in
      omega (arith, so_far, none)

-- ---- a column of the table

pub list_at_is : (bs : List Branch) (i : ℕ) (b : Branch) → i < length bs → b ≡ get_or bs i b → list_at bs i ≡ b.list
list_at_is bs i b lt at = map_get (λ x. x.list) i bs b [] lt at

abbrev pub agrees_at : List Branch → ℕ → Branch → ℕ
agrees_at bs i b = common_of (list_at bs i) b.list

one_here : (i : ℕ) (bs : List Branch) (b : Branch) → i < length bs → b ≡ get_or bs i b → take 1 (drop i bs) ≡ b ∷ []
one_here i [] b lt at = absurd (omega arith)
one_here zero (x ∷ bs) b lt at = ap (λ y. y ∷ []) (sym at)
one_here (suc i) (x ∷ bs) b lt at = one_here i bs b (omega arith) at

-- the list itself is the first
pub column_first : (bs : List Branch) (i n : ℕ) (b : Branch) → i < length bs → b ≡ get_or bs i b → n ≡ length b.list → n ∷ [] ≡ map (agrees_at bs i) (take (i + 1 - i) (drop i bs))
column_first bs i n b lt at len =
    let one : 1 ≡ i + 1 - i = omega arith in
    let is : agrees_at bs i b ≡ n = ap (λ l. common_of l b.list) (list_at_is bs i b lt at) ∙ common_itself b.list ∙ sym len in
    ap (λ m. m ∷ []) (sym is) ∙ ap (map (agrees_at bs i)) (sym (one_here i bs b lt at)) ∙ ap (λ k. map (agrees_at bs i) (take k (drop i bs))) one

module _ (bs : List Branch) (table : IsTable bs) (i j : ℕ) (b : Branch) (before : i < j) (within : j < length bs) (at : b ≡ get_or bs j b) where
  there : slice_get bs j ≡ Some b
  there = slice_get_read bs (length bs) j b refl within at

  numbers : b.shared.items ≡ map (λ x. common_of b.list x.list) (take j bs)
  numbers = table.each j b there

  -- it has a number for each place before it
  pub column_within : i < length b.shared.items
  column_within = omega (arith, before, within, ap length numbers, length-map (take j bs) (λ x. common_of b.list x.list), length-take j bs)

  abbrev a : Branch
  a = get_or bs i b

  number : (x : ℕ) → x ≡ get_or b.shared.items i x → x ≡ agrees_at bs i b
  number x is =
      let low : i < length bs = omega (arith, before, within) in
      let same : a ≡ get_or bs i a = get_or_default bs i b a low in
      let taken : a ≡ get_or (take j bs) i a = same ∙ sym (get_or-take j bs i a before) in
      let short : i < length (take j bs) = omega (arith, before, within, length-take j bs) in
      is ∙ ap (λ xs. get_or xs i x) numbers ∙ map_get (λ y. common_of b.list y.list) i (take j bs) a x short taken ∙ common_sym b.list a.list
      ∙ ap (λ l. common_of l b.list) (sym (list_at_is bs i a low same))

  -- and then each after it
  pub column_next : (made : List ℕ) (x : ℕ) → x ≡ get_or b.shared.items i x → made ≡ map (agrees_at bs i) (take (j - i) (drop i bs)) → made ++ x ∷ [] ≡ map (agrees_at bs i) (take (j + 1 - i) (drop i bs))
  column_next made x is so_far =
      let rest = drop i bs in
      let low : j - i < length rest = omega (arith, before, within, length-drop i bs) in
      let back : i + (j - i) ≡ j = omega (arith, before) in
      let is_b : get_or rest (j - i) b ≡ b = get_or-drop i bs (j - i) b ∙ ap (λ k. get_or bs k b) back ∙ sym at in
      let more : take (j - i + 1) rest ≡ take (j - i) rest ++ b ∷ [] = take_more rest (j - i) b low ∙ ap (λ y. take (j - i) rest ++ y ∷ []) is_b in
      let next : j - i + 1 ≡ j + 1 - i = omega (arith, before) in
      (λ k. so_far k ++ number x is k ∷ [])
      ∙ sym (map-append (agrees_at bs i) (take (j - i) rest) (b ∷ []))
      ∙ ap (map (agrees_at bs i)) (sym more)
      ∙ ap (λ k. map (agrees_at bs i) (take k rest)) next

pub take_drop : {A : Type 0} (i : ℕ) (xs : List A) → take (length xs - i) (drop i xs) ≡ drop i xs
take_drop i xs = take_all (length xs - i) (drop i xs) (omega (arith, length-drop i xs))

-- ---- one more

pub shared_is : (h list : List Request) (slice bs : List Branch) (lists : List (List Request)) (xs : List ℕ) → xs ≡ map (λ b. common_of h b.list) slice → slice ≡ bs → list ≡ h → lists ≡ lists_of bs
    → xs ≡ map (common_of list) lists
shared_is h list slice bs lists xs is same like seen =
    is ∙ ap (map (λ b. common_of h b.list)) same ∙ sym (map_after (λ b. b.list) (common_of h) bs) ∙ ap (map (common_of h)) (sym seen) ∙ ap (λ l. map (common_of l) lists) (sym like)

pub greatest_is : (list : List Request) (lists : List (List Request)) (xs : List ℕ) → xs ≡ map (common_of list) lists → fold max 0 xs ≡ shared_of list lists
greatest_is list lists xs is = ap (fold max 0) is ∙ fold-map max (common_of list) 0 lists

table_push : (bs : List Branch) (b : Branch) → IsTable bs → b.shared.items ≡ map (λ x. common_of b.list x.list) bs → IsTable (bs ++ b ∷ [])
table_push bs b table is = record {
  each = λ n c at.
      let long = length-append bs (b ∷ []) in
      let within : n < length (bs ++ b ∷ []) = slice_get_within (bs ++ b ∷ []) n c at in
      let there : get_or (bs ++ b ∷ []) n c ≡ c = get_or_from_slice_get (bs ++ b ∷ []) n c c at in
      elim (cases_lt n (length bs)) [
        | inl old ↦
            let here : c ≡ get_or bs n c = sym (sym (get_or_append_left bs (b ∷ []) c n old) ∙ there) in
            table.each n c (slice_get_read bs (length bs) n c refl old here)
            ∙ ap (map (λ x. common_of c.list x.list)) (sym (take-append-le n bs (b ∷ []) (omega (arith, old))))
        | inr new ↦
            let e : n ≡ length bs + 0 = omega (arith, within, long, new) in
            let last : b ≡ c = sym (get_or-append-add bs (b ∷ []) 0 c) ∙ ap (λ k. get_or (bs ++ b ∷ []) k c) (sym e) ∙ there in
            let all : take n (bs ++ b ∷ []) ≡ bs = take-append-le n bs (b ∷ []) (omega (arith, e)) ∙ take_all n bs (omega (arith, e)) in
            subst (λ (d : Branch). d.shared.items ≡ map (λ x. common_of d.list x.list) (take n (bs ++ b ∷ []))) last
            (is ∙ ap (map (λ x. common_of b.list x.list)) (sym all))
      ];
}

pub tree_push : (bs : List Branch) (b : Branch) (n more : ℕ) → length (lists_of bs) < 7 → length b.list ≤ 65535 → more ≡ length b.list - shared_of b.list (lists_of bs)
    → b.shared.items ≡ map (common_of b.list) (lists_of bs) → IsTree (lists_of bs) n → IsTable bs → IsTree (lists_of (bs ++ b ∷ [])) (n + more) × IsTable (bs ++ b ∷ [])
tree_push bs b n more room few count is tree table =
    let lists = lists_of bs in
    let next : lists ++ b.list ∷ [] ≡ lists_of (bs ++ b ∷ []) = sym (map-append (λ x. x.list) bs (b ∷ [])) in
    let long = length-append lists (b.list ∷ []) in
    let sum : n + (length b.list - shared_of b.list lists) ≡ n + more = omega (arith, count) in
    let grown : IsTree (lists ++ b.list ∷ []) (n + more) = record {
      nodes = subst (HaveNodes (lists ++ b.list ∷ [])) sum (HaveNodes-add lists b.list n tree.nodes);
      few = omega (arith, room, long);
      most = omega (arith, tree.most, few, long, count);
    } in
    (subst (λ ls. IsTree ls (n + more)) next grown, table_push bs b table (is ∙ map_after (λ x. x.list) (common_of b.list) bs))

pub no_table : IsTable []
no_table = record { each = λ n b at. absurd (let within : n < 0 = slice_get_within [] n b at in omega arith) }
