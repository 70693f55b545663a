-- The keys that a seed gives to a party.
use Rattle.std.specs.Prelude.{ℕ, ◌+◌, ◌*◌, List, map, Option, None, Some}
use Rattle.std.specs.List.{range_with_len}
use Rattle.ab_num.specs.declared.party.Party.{Party}
use Rattle.ab_num.specs.declared.party.Party.TheVariants.{Replica, Client}
use Rattle.ab_num.specs.declared.plan.Plan.{Plan}
use Rattle.ab_num.specs.declared.plan.ServiceName.{ServiceName}
use Rattle.ab_num.specs.declared.plan.Scheme.{Scheme}
use Rattle.ab_keys.specs.Rings.{parties, peers_of}
use Rattle.ab_keys.specs.Secrets.{tree_name, tree_seed}
use Rattle.ab_scheme.specs.Schemes.{public_by}
use Rattle.ab_key_text.specs.Keys.{Secret, PartyKeys}

-- the secret of replica r
abbrev pub secret_of : List ℕ → ℕ → Secret
secret_of seed r = record { id = tree_name seed r; seed = tree_seed seed r }

abbrev pub own_secret : List ℕ → Party → Option Secret
own_secret seed (Replica r) = Some (secret_of seed r)
own_secret seed (Client c) = None

-- the public key of replica r
unfoldable pub public_of : Scheme → List ℕ → ℕ → List ℕ
public_of lms seed r = public_by lms (tree_name seed r) (tree_seed seed r)

-- what me keeps
abbrev pub keys_of : ℕ → ℕ → Plan → ℕ → ServiceName → Scheme → List ℕ → Party → PartyKeys
keys_of f clients plan every service lms seed me = record {
  f = f;
  clients = clients;
  plan = plan;
  every = every;
  service = service;
  lms = lms;
  me = me;
  secret = own_secret seed me;
  peers = peers_of seed me (parties f clients);
  publics = map (public_of lms seed) (range_with_len 0 (3 * f + 1));
}

-- what me keeps in the cluster of which k was derived from the seed
abbrev pub keys_for : PartyKeys → List ℕ → Party → PartyKeys
keys_for k seed me = record k { me = me; secret = own_secret seed me; peers = peers_of seed me (parties k.f k.clients) }
