-- The store that a map holds.
use Rattle.std.proofs.Common.{◌≡◌, ℕ, suc, ◌+◌, ◌≤◌, List, [], ◌∷◌, length, map, Bool, true, false, not, ◌&&◌, cond, nat_le, is_some, Option, Some, None, ap, sym, ◌∙◌, arith, refl}
use Rattle.std.specs.Option.{option_map}
use Rattle.std.specs.declared.cmp.Ordering.TheVariants.{Less}
use Rattle.std.specs.Ordering.{nat_cmp, is_eq, eq_by_cmp}
use Rattle.std.specs.Cmp.{eq_by_cmp_equiv}
use Rattle.std.specs.Cmp.Lexicographic.{slice_cmp, nat_list_cmp_total}
use Rattle.std.specs.List.{AllByRecursion}
use Rattle.std.specs.List.Sorted.{IsStrictlySortedBy}
use Rattle.std.specs.Map.{keys_of, lookup}
use Rattle.std.specs.BTreeMap as tree
use Rattle.std.specs.BTreeMap.{BTreeMap, IsOrdered, UpdatesBy, btree_map_len, is_at}
use Rattle.std.specs.FinMap as finite
use Rattle.std.specs.FinMap.{from_entries, find, get-from_entries, get-insert, get-remove, len-empty, len-insert, same_map, nat_cmp-IsAntisymmetric, slice_cmp-IsAntisymmetric}
use Rattle.arrayvec.specs.ArrayVec.{ArrayVec}
use Rattle.std.proofs.lemmas.Bool.Decides.{nat_tests}
use Rattle.ab_kv.specs.Stores.{is_full}
use Rattle.ab_kv.specs.Contents.{key_cmp, store_of, IsContents}

abbrev Held : Type 0
Held = ArrayVec ℕ × ArrayVec ℕ

abbrev shown : Held → List ℕ × List ℕ
shown e = (e.0.items, e.1.items)

abbrev pub bytes_of : ArrayVec ℕ → List ℕ
bytes_of v = v.items

option_map-cond : {A B : Type 0} (f : A → B) (b : Bool) (x y : Option A) → option_map f (cond b x y) ≡ cond b (option_map f x) (option_map f y)
option_map-cond f true x y = refl
option_map-cond f false x y = refl

find_shown : (q : ArrayVec ℕ) (es : List Held) → find (slice_cmp nat_cmp) q.items (map shown es) ≡ option_map bytes_of (lookup (is_at (key_cmp q)) es)
find_shown q [] = refl
find_shown q (e ∷ es) =
    ap (cond (eq_by_cmp (slice_cmp nat_cmp) q.items e.0.items) (Some e.1.items)) (find_shown q es)
    ∙ sym (option_map-cond bytes_of (is_at (key_cmp q) e.0) (Some e.1) (lookup (is_at (key_cmp q)) es))

-- a key's value in the store is the one in the map
pub get_shown : (m : BTreeMap (ArrayVec ℕ) (ArrayVec ℕ)) (q : ArrayVec ℕ) → finite.get (store_of m) q.items ≡ option_map bytes_of (tree.get key_cmp m q)
get_shown m q = get-from_entries nat_list_cmp_total (map shown m.entries) q.items ∙ find_shown q m.entries

first_is_new : (k : ArrayVec ℕ) (es : List Held) → AllByRecursion (λ q. key_cmp k q ≡ Less) (keys_of es) → lookup (is_at (key_cmp k)) es ≡ None
first_is_new k [] above = refl
first_is_new k (e ∷ es) above = ap (λ o. cond (is_eq o) (Some e.1) (lookup (is_at (key_cmp k)) es)) above.0 ∙ first_is_new k es above.1

len-from : (es : List Held) → IsStrictlySortedBy key_cmp (keys_of es) → finite.len (from_entries {R = slice_cmp nat_cmp} (map shown es)) ≡ length es
unfolding IsStrictlySortedBy
len-from [] ordered = len-empty (slice_cmp nat_cmp) (List ℕ)
len-from (e ∷ es) ordered =
    let rest = from_entries {R = slice_cmp nat_cmp} (map shown es) in
    let fresh : finite.get rest e.0.items ≡ None =
    get-from_entries nat_list_cmp_total (map shown es) e.0.items ∙ find_shown e.0 es ∙ ap (option_map bytes_of) (first_is_new e.0 es ordered.0) in
    let one_more : length es + 1 ≡ suc (length es) = omega arith in
    len-insert nat_list_cmp_total rest e.0.items e.1.items
    ∙ ap (λ o. cond (is_some o) (finite.len rest) (finite.len rest + 1)) fresh
    ∙ ap (λ n. n + 1) (len-from es ordered.1)
    ∙ one_more

-- the store has as many keys as the map
pub len_shown : (m : BTreeMap (ArrayVec ℕ) (ArrayVec ℕ)) → IsOrdered key_cmp m → finite.len (store_of m) ≡ btree_map_len m
len_shown m ordered = len-from m.entries ordered

module _ (m n : BTreeMap (ArrayVec ℕ) (ArrayVec ℕ)) (k : ArrayVec ℕ) where
  changed : (w : Option (ArrayVec ℕ)) → UpdatesBy key_cmp (key_cmp k) m n w → (q : List ℕ) → finite.get (store_of n) q ≡ cond (eq_by_cmp (slice_cmp nat_cmp) q k.items) (option_map bytes_of w) (finite.get (store_of m) q)
  changed w updates q =
      let at : ArrayVec ℕ = record { items = q } in
      get_shown n at
      ∙ ap (option_map bytes_of) (updates.0 at)
      ∙ option_map-cond bytes_of (is_at (key_cmp k) at) w (tree.get key_cmp m at)
      ∙ ap (cond (is_at (key_cmp k) at) (option_map bytes_of w)) (sym (get_shown m at))
      ∙ ap (λ b. cond b (option_map bytes_of w) (finite.get (store_of m) q)) ((eq_by_cmp_equiv nat_list_cmp_total).symm k.items q)

  pub store-insert : (v : ArrayVec ℕ) → UpdatesBy key_cmp (key_cmp k) m n (Some v) → store_of n ≡ finite.insert (store_of m) k.items v.items
  store-insert v updates =
      same_map nat_list_cmp_total (slice_cmp-IsAntisymmetric nat_cmp-IsAntisymmetric) _ _
      (λ q. changed (Some v) updates q ∙ sym (get-insert nat_list_cmp_total (store_of m) k.items v.items q))

  pub store-remove : UpdatesBy key_cmp (key_cmp k) m n None → store_of n ≡ finite.remove (store_of m) k.items
  store-remove updates =
      same_map nat_list_cmp_total (slice_cmp-IsAntisymmetric nat_cmp-IsAntisymmetric) _ _
      (λ q. changed None updates q ∙ sym (get-remove nat_list_cmp_total (store_of m) k.items q))

is_some-bytes : (o : Option (ArrayVec ℕ)) → is_some (option_map bytes_of o) ≡ is_some o
is_some-bytes None = refl
is_some-bytes (Some v) = refl

-- a key is in the store where it is in the map
pub contains_shown : (m : BTreeMap (ArrayVec ℕ) (ArrayVec ℕ)) (q : ArrayVec ℕ) → finite.contains_key (store_of m) q.items ≡ is_some (tree.get key_cmp m q)
contains_shown m q = ap is_some (get_shown m q) ∙ is_some-bytes (tree.get key_cmp m q)

room_left : (b : Bool) (before after : ℕ) → before ≤ 65536 → (nat_le 65536 before && not b) ≡ false → after ≡ before + cond b 0 1 → after ≤ 65536
room_left true before after few room grown = omega arith
room_left false before after few room grown = grind (arith, nat_tests)

-- a key that is there, or finds room, leaves the map within its bound
pub few-insert : (m n : BTreeMap (ArrayVec ℕ) (ArrayVec ℕ)) (k : ArrayVec ℕ) → IsContents m → is_full (store_of m) k.items ≡ false → btree_map_len n ≡ btree_map_len m + cond (is_some (tree.get key_cmp m k)) 0 1 → btree_map_len n ≤ 65536
few-insert m n k contents room grown =
    room_left (is_some (tree.get key_cmp m k)) (btree_map_len m) (btree_map_len n) contents.few
    ((λ j. nat_le 65536 (sym (len_shown m contents.ordered) j) && not (sym (contains_shown m k) j)) ∙ room) grown
