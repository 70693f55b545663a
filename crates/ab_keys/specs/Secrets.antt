-- What a replica signs with, by the seed of its cluster.
use Rattle.std.specs.Prelude.{ℕ, List, ◌++◌, take}
use Rattle.ab_num.specs.declared.party.Party.TheVariants.{Replica}
use Rattle.ab_mac.specs.Digests.{marked}
use Rattle.ab_keys.specs.Keys.{party_bytes}

-- the name of replica r's tree: the first 16 bytes of the digest of the seed and the replica behind the mark 3
unfoldable pub tree_name : List ℕ → ℕ → List ℕ
tree_name seed r = take 16 (marked 3 (seed ++ party_bytes (Replica r)))

-- the seed of its private values: the digest of the same behind the mark 4
unfoldable pub tree_seed : List ℕ → ℕ → List ℕ
tree_seed seed r = marked 4 (seed ++ party_bytes (Replica r))
