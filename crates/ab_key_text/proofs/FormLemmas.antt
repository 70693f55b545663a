-- The keys that a seed gives are in form.
use Rattle.std.proofs.Common.{◌≡◌, ℕ, zero, suc, ◌+◌, ◌*◌, ◌<◌, ◌≤◌, IsTrue, List, [], ◌∷◌, ◌++◌, map, take, length, refl, sym, ap, subst, arith, lit<, length-append}
use Rattle.std.specs.List.{AllByRecursion, filter, range_with_len}
use Rattle.std.specs.Int.{w32, to_be_bytes}
use Rattle.std.proofs.lemmas.Grind.{get_or_default_zero}
use Rattle.std.proofs.lemmas.List.{length-take-le}
use Rattle.std.proofs.lemmas.List.FromFn.{length-map-range_with_len}
use Rattle.ab_num.specs.Bounds.{IsInBounds}
use Rattle.ab_num.specs.declared.party.Party.{Party}
use Rattle.ab_num.specs.declared.party.Party.TheVariants.{Replica, Client}
use Rattle.ab_num.specs.declared.plan.Plan.{Plan}
use Rattle.ab_num.specs.declared.plan.ServiceName.{ServiceName}
use Rattle.ab_num.specs.declared.plan.Height.{Height}
use Rattle.ab_num.specs.declared.plan.Height.TheVariants.{Ten}
use Rattle.ab_num.specs.declared.plan.Scheme.{Scheme}
use Rattle.ab_num.specs.declared.plan.Scheme.TheVariants.{Lms, Hss}
use Rattle.ab_mac.proofs.Sha256Lemmas.{IsBytes as AreBytes, IsBytes-append, IsBytes-four, IsBytes-sha256, length-sha256}
use Rattle.ab_lms.specs.Nodes.{inner_node, leaf_node, levels, node, root, type_of}
use Rattle.ab_lms.specs.Signatures.{public_key, u32_bytes}
use Rattle.ab_scheme.specs.Schemes.{public_length}
use Rattle.ab_text.specs.Heads.{most_built}
use Rattle.ab_keys.specs.Keys.{exchanges, is_party, key_of}
use Rattle.ab_keys.specs.Rings.{parties, peer_of, peers_of}
use Rattle.ab_keys.specs.Secrets.{tree_name, tree_seed}
use Rattle.ab_key_text.specs.Derived.{keys_of, own_secret, public_of}
use Rattle.ab_key_text.specs.Keys.{IsBytes, IsPartyKeys, IsSecretOf}

-- so many bytes, by each element
in_form : (n : ℕ) (xs : List ℕ) → length xs ≡ n → AreBytes xs → IsBytes n xs
in_form n xs long are = record { long = long; small = λ i d lt. subst (λ b. b < 256) (sym (get_or_default_zero xs i d lt)) (are i) }

AreBytes-take : (n : ℕ) (xs : List ℕ) → AreBytes xs → AreBytes (take n xs)
AreBytes-take zero xs are i = lit< tt
AreBytes-take (suc n) [] are i = lit< tt
AreBytes-take (suc n) (x ∷ xs) are zero = are zero
AreBytes-take (suc n) (x ∷ xs) are (suc i) = AreBytes-take n xs (λ j. are (suc j)) i

-- ---- keys, names and seeds are digests

name_bytes : (seed : List ℕ) (r : ℕ) → AreBytes (tree_name seed r)
unfolding tree_name
name_bytes seed r = AreBytes-take 16 _ (IsBytes-sha256 _)

front_long : (xs : List ℕ) → length xs ≡ 32 → length (take 16 xs) ≡ 16
front_long xs long = length-take-le 16 xs (omega (arith, long))

name_long : (seed : List ℕ) (r : ℕ) → length (tree_name seed r) ≡ 16
unfolding tree_name
name_long seed r = front_long _ (length-sha256 _)

seed_form : (seed : List ℕ) (r : ℕ) → IsBytes 32 (tree_seed seed r)
unfolding tree_seed
seed_form seed r = in_form 32 _ (length-sha256 _) (IsBytes-sha256 _)

key_form : (seed : List ℕ) (a b : Party) → IsBytes 32 (key_of seed a b)
unfolding key_of
key_form seed a b = in_form 32 _ (length-sha256 _) (IsBytes-sha256 _)

-- ---- public keys

node_bytes : (id seed : List ℕ) (h k r : ℕ) → AreBytes (node id seed h k r)
unfolding node leaf_node inner_node
node_bytes id seed h zero r = IsBytes-sha256 _
node_bytes id seed h (suc k) r = IsBytes-sha256 _

node_long : (id seed : List ℕ) (h k r : ℕ) → length (node id seed h k r) ≡ 32
unfolding node leaf_node inner_node
node_long id seed h zero r = length-sha256 _
node_long id seed h (suc k) r = length-sha256 _

-- an LMS key of a replica
record IsKey (xs : List ℕ) : Type 0 where
  long : length xs ≡ 56
  are : AreBytes xs

key_of_tree : (lms : Height) (seed : List ℕ) (r : ℕ) → IsKey (public_key lms (tree_name seed r) (tree_seed seed r))
unfolding u32_bytes
key_of_tree lms seed r =
    let id = tree_name seed r in
    let top = root id (tree_seed seed r) (levels lms) in
    let first = to_be_bytes w32 (type_of lms) in
    let second = to_be_bytes w32 3 in
    let name = name_long seed r in
    let node = node_long id (tree_seed seed r) (levels lms) (levels lms) 1 in
    record {
      long = omega (arith, length-append first (second ++ id ++ top), length-append second (id ++ top), length-append id top, name, node);
      are = IsBytes-append first (second ++ id ++ top) (IsBytes-four (type_of lms))
          (IsBytes-append second (id ++ top) (IsBytes-four 3)
          (IsBytes-append id top (name_bytes seed r) (node_bytes id (tree_seed seed r) (levels lms) (levels lms) 1)));
    }

public_form : (lms : Scheme) (seed : List ℕ) (r : ℕ) → IsBytes (public_length lms) (public_of lms seed r)
unfolding public_of u32_bytes
public_form (Lms height) seed r =
    let key = key_of_tree height seed r in
    in_form 56 (public_key height (tree_name seed r) (tree_seed seed r)) key.long key.are
public_form Hss seed r =
    let top = public_key Ten (tree_name seed r) (tree_seed seed r) in
    let key = key_of_tree Ten seed r in
    let long = key.long in
    let two = to_be_bytes w32 2 in
    in_form 60 (two ++ top) (omega (arith, length-append two top, long)) (IsBytes-append two top (IsBytes-four 2) key.are)

-- ---- lists of them

secret_form : (seed : List ℕ) (me : Party) → IsSecretOf me (own_secret seed me)
secret_form seed (Replica r) = (in_form 16 (tree_name seed r) (name_long seed r) (name_bytes seed r), seed_form seed r)
secret_form seed (Client c) = tt

peers_are : (seed : List ℕ) (me : Party) (ps : List Party) → map (λ x. x.party) (map (peer_of seed me) ps) ≡ ps
peers_are seed me [] = refl
peers_are seed me (p ∷ ps) = ap (λ l. p ∷ l) (peers_are seed me ps)

keys_form : (seed : List ℕ) (me : Party) (ps : List Party) → AllByRecursion (λ x. IsBytes 32 x.to × IsBytes 32 x.from) (map (peer_of seed me) ps)
keys_form seed me [] = tt
keys_form seed me (p ∷ ps) = ((key_form seed me p, key_form seed p me), keys_form seed me ps)

publics_form : (lms : Scheme) (seed : List ℕ) (rs : List ℕ) → AllByRecursion (IsBytes (public_length lms)) (map (public_of lms seed) rs)
publics_form lms seed [] = tt
publics_form lms seed (r ∷ rs) = (public_form lms seed r, publics_form lms seed rs)

pub derived_form : (f clients : ℕ) (plan : Plan) (every : ℕ) (service : ServiceName) (lms : Scheme) (seed : List ℕ) (me : Party)
    → IsInBounds f clients → every ≤ most_built plan → IsTrue (is_party f clients me) → IsPartyKeys (keys_of f clients plan every service lms seed me)
unfolding peers_of
derived_form f clients plan every service lms seed me bounds dense party = record {
  bounds = bounds;
  dense = dense;
  party = party;
  secret = secret_form seed me;
  peers = peers_are seed me (filter (exchanges me) (parties f clients));
  keys = keys_form seed me (filter (exchanges me) (parties f clients));
  public_of_each = length-map-range_with_len (public_of lms seed) 0 (3 * f + 1);
  publics = publics_form lms seed (range_with_len 0 (3 * f + 1));
}
