-- Key rings: what a party keeps to make tags for others and to check theirs.
use Rattle.std.specs.Prelude.{ℕ, ◌+◌, ◌*◌, List, ◌++◌, map, Bool, ◌&&◌, Option}
use Rattle.std.specs.List.{filter, find, range_with_len}
use Rattle.std.specs.Option.{option_map}
use Rattle.ab_num.specs.declared.party.Party.{Party}
use Rattle.ab_num.specs.declared.party.Party.TheVariants.{Replica, Client}
use Rattle.ab_num.specs.declared.plan.Plan.{Plan}
use Rattle.ab_num.specs.Parties.{party_eq}
use Rattle.ab_mac.specs.Tags.{hmac}
use Rattle.ab_keys.specs.Keys.{is_party, exchanges, key_of}

-- another party, the key to it and the key from it
pub record Peer : Type 0 where
  pub party : Party
  pub to : List ℕ
  pub from : List ℕ

-- the cluster of a party, and what it keeps for each of its peers
pub record Ring : Type 0 where
  pub f : ℕ
  pub clients : ℕ
  pub plan : Plan
  pub me : Party
  pub peers : List Peer

-- ---- what a ring has for a party

-- what is kept for a party
abbrev pub peer_in : List Peer → Party → Option Peer
peer_in peers p = find (λ x. party_eq x.party p) peers

-- the key to a party
unfoldable pub key_to : Ring → Party → Option (List ℕ)
key_to ring p = option_map (λ x. x.to) (peer_in ring.peers p)

-- the key from a party
unfoldable pub key_from : Ring → Party → Option (List ℕ)
key_from ring p = option_map (λ x. x.from) (peer_in ring.peers p)

-- the tag of a text for a party
unfoldable pub tag_to : Ring → Party → List ℕ → Option (List ℕ)
tag_to ring p text = option_map (λ key. hmac key text) (key_to ring p)

-- the tag that a text from a party has
unfoldable pub tag_from : Ring → Party → List ℕ → Option (List ℕ)
tag_from ring p text = option_map (λ key. hmac key text) (key_from ring p)

-- ---- the ring that a seed gives

-- the parties of a cluster: replicas ascending, then clients ascending
unfoldable pub parties : ℕ → ℕ → List Party
parties f clients = map Replica (range_with_len 0 (3 * f + 1)) ++ map Client (range_with_len 0 clients)

-- what me keeps for another
abbrev pub peer_of : List ℕ → Party → Party → Peer
peer_of seed me p = record { party = p; to = key_of seed me p; from = key_of seed p me }

-- what me keeps for these parties, as far as it exchanges tags with them
unfoldable pub peers_of : List ℕ → Party → List Party → List Peer
peers_of seed me ps = map (peer_of seed me) (filter (exchanges me) ps)

-- the ring of me
abbrev pub ring_of : ℕ → ℕ → Plan → List ℕ → Party → Ring
ring_of f clients plan seed me = record { f = f; clients = clients; plan = plan; me = me; peers = peers_of seed me (parties f clients) }

-- whether p is of the cluster, and me exchanges tags with it
abbrev pub exchanges_in : ℕ → ℕ → Party → Party → Bool
exchanges_in f clients me p = is_party f clients p && exchanges me p
