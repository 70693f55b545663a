-- How the map of a store is kept.
use Rattle.std.specs.Prelude.{ℕ, ◌≤◌, map}
use Rattle.std.specs.declared.cmp.Ordering.{Ordering}
use Rattle.std.specs.Ordering.{nat_cmp}
use Rattle.std.specs.Cmp.Lexicographic.{slice_cmp}
use Rattle.std.specs.BTreeMap.{BTreeMap, IsOrdered, btree_map_len}
use Rattle.std.specs.FinMap.{from_entries}
use Rattle.arrayvec.specs.ArrayVec.{ArrayVec}
use Rattle.ab_kv.specs.Stores.{Store}

-- keys are in the order of their bytes
abbrev pub key_cmp : ArrayVec ℕ → ArrayVec ℕ → Ordering
key_cmp v w = slice_cmp nat_cmp v.items w.items

-- the keys and values that the map holds
abbrev pub store_of : BTreeMap (ArrayVec ℕ) (ArrayVec ℕ) → Store
store_of m = from_entries (map (λ e. (e.0.items, e.1.items)) m.entries)

pub record IsContents (m : BTreeMap (ArrayVec ℕ) (ArrayVec ℕ)) : Type 0 where
  pub ordered : IsOrdered key_cmp m
  pub few : btree_map_len m ≤ 65536
