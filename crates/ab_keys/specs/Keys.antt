-- Which parties exchange tags, and the keys that a seed gives.
use Rattle.std.specs.Prelude.{ℕ, ◌+◌, ◌*◌, List, ◌∷◌, ◌++◌, Bool, true, false, not, ◌==◌, nat_lt}
use Rattle.std.specs.Int.{w16, to_be_bytes}
use Rattle.ab_num.specs.declared.party.Party.{Party}
use Rattle.ab_num.specs.declared.party.Party.TheVariants.{Replica, Client}
use Rattle.ab_mac.specs.Digests.{marked}

-- whether a cluster has the party
abbrev pub is_party : ℕ → ℕ → Party → Bool
is_party f clients (Replica r) = nat_lt r (3 * f + 1)
is_party f clients (Client c) = nat_lt c clients

-- whether two parties exchange tags: none with itself, and no client with a client
abbrev pub exchanges : Party → Party → Bool
exchanges (Replica r) (Replica s) = not (r == s)
exchanges (Replica r) (Client c) = true
exchanges (Client c) (Replica r) = true
exchanges (Client c) (Client d) = false

-- a party in bytes: 0 for a replica or 1 for a client, and its number
abbrev pub party_bytes : Party → List ℕ
party_bytes (Replica r) = 0 ∷ to_be_bytes w16 r
party_bytes (Client c) = 1 ∷ to_be_bytes w16 c

-- what is hashed for the key from a to b, behind the mark 2
unfoldable pub key_text : List ℕ → Party → Party → List ℕ
key_text seed a b = seed ++ party_bytes a ++ party_bytes b

-- the key that a seed gives from a to b: for what a states and b checks
unfoldable pub key_of : List ℕ → Party → Party → List ℕ
key_of seed a b = marked 2 (key_text seed a b)
