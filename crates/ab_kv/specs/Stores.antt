-- A store of keys and values, and what commands do to it.
use Rattle.std.specs.Prelude.{◌≡◌, ◌≢◌, ℕ, List, ◌++◌, Bool, ◌&&◌, not, nat_le, if◌then◌else◌, Option, None, Some, codes}
use Rattle.std.specs.Ordering.{nat_cmp}
use Rattle.std.specs.Cmp.Lexicographic.{slice_cmp}
use Rattle.std.specs.Option.{option_map_or}
use Rattle.std.specs.Str.{bytes_eq}
use Rattle.std.specs.FinMap as map
use Rattle.ab_kv.specs.Commands.{Command, Put, Get, Del, Cas}

-- finitely many keys, each with a value
abbrev pub Store : Type 0
Store = map.FinMap (slice_cmp nat_cmp) (List ℕ)

-- the key is new, and there is no room for it
abbrev pub is_full : Store → List ℕ → Bool
is_full s k = nat_le 65536 (map.len s) && not (map.contains_key s k)

abbrev pub after_command : Store → Command → Store
after_command s (Put k v) = if is_full s k then s else map.insert s k v
after_command s (Get k) = s
after_command s (Del k) = map.remove s k
after_command s (Cas k old new) = option_map_or (λ v. if bytes_eq v old then map.insert s k new else s) (map.get s k) s

abbrev pub answer_to : Store → Command → List ℕ
answer_to s (Put k v) = if is_full s k then codes "full" else codes "ok"
answer_to s (Get k) = option_map_or (λ v. codes "val " ++ v) (map.get s k) (codes "none")
answer_to s (Del k) = if map.contains_key s k then codes "ok" else codes "none"
answer_to s (Cas k old new) = option_map_or (λ v. if bytes_eq v old then codes "ok" else codes "no") (map.get s k) (codes "none")

-- what is no command changes nothing
abbrev pub after_reading : Store → Option Command → Store
after_reading s None = s
after_reading s (Some c) = after_command s c

abbrev pub answer_to_reading : Store → Option Command → List ℕ
answer_to_reading s None = codes "bad"
answer_to_reading s (Some c) = answer_to s c

-- new has w at the key k, and at each other key what old has
pub record ChangesOnly (old new : Store) (k : List ℕ) (w : Option (List ℕ)) : Type 0 where
  pub here : map.get new k ≡ w
  pub others : (q : List ℕ) → q ≢ k → map.get new q ≡ map.get old q
