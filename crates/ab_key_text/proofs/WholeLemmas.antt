-- What is read of a node's text is whole, and so is what a seed gives.
use Rattle.std.proofs.Common.{◌≡◌, ℕ, ◌+◌, ◌*◌, List, [], ◌∷◌, ◌++◌, Option, Some, Result, Ok, Err, codes, length, refl, ap, ◌∙◌, subst, arith, length-append}
use Rattle.std.proofs.lemmas.List.FromFn.{length-map-range_with_len}
use Rattle.ab_num.specs.declared.party.Party.{Party}
use Rattle.ab_num.specs.declared.party.Party.TheVariants.{Replica}
use Rattle.ab_keys.specs.Rings.{Peer}
use Rattle.ab_scheme.specs.Schemes.{public_length}
use Rattle.ab_key_text.specs.declared.fault.NodeFault.{NodeFault}
use Rattle.ab_num.specs.declared.plan.Plan.{Plan}
use Rattle.ab_num.specs.declared.plan.ServiceName.{ServiceName}
use Rattle.ab_num.specs.declared.plan.Scheme.{Scheme}
use Rattle.ab_key_text.specs.Derived.{keys_of, own_secret, public_of, secret_of}
use Rattle.ab_key_text.specs.Keys.{Secret, PartyKeys, IsWhole, peers_in, replicas}
use Rattle.ab_key_text.specs.Lines.{◌>>=◌, line_at, key_in}
use Rattle.ab_key_text.specs.Nodes.{NodeText, commands_at, node_in, node_of}
use Rattle.ab_key_text.specs.Reading.{Read, KeyLines, keys_after, keys_at, peers_at, publics_at, put_together, secret_at, secret_in, setting_at}

abbrev Lines : Type 0
Lines = List (List ℕ)

-- what came of two readings in a row came of each
pub bound : {A B : Type 0} (r : Result A NodeFault) (f : A → Result B NodeFault) (b : B) → (r >>= f) ≡ Ok b → (a : A) × (r ≡ Ok a) × (f a ≡ Ok b)
bound (Ok a) f b e = (a, refl, e)
bound (Err fault) f b e = let T = Unit {0} in cc

secret_there : (r n : ℕ) (ls : Lines) (x : Read (Option Secret)) → secret_at (Replica r) n ls ≡ Ok x → (s : Secret) × (x.value ≡ Some s)
secret_there r n ls x e =
    let secret = bound (line_at secret_in n ls) (λ (y : Secret × Lines). Ok (record { value = Some y.0; next = n + 1; rest = y.1 })) x e in (
      secret.0.0,
      let is : ◌≡◌ {A = Result (Read (Option Secret)) NodeFault} (Ok (record { value = Some secret.0.0; next = n + 1; rest = secret.0.1 })) (Ok x) = secret.2 in
          let same : x ≡ record { value = Some secret.0.0; next = n + 1; rest = secret.0.1 } = cc in ap (λ (y : Read (Option Secret)). y.value) same,
    )

publics_many : (long : ℕ) (ps : List Party) (done : Lines) (n : ℕ) (ls : Lines) (x : Read Lines) → publics_at long ps done n ls ≡ Ok x → length x.value ≡ length done + length ps
publics_many long [] done n ls x e =
    let same : x ≡ record { value = done; next = n; rest = ls } = cc in
    ap (λ (y : Read Lines). length y.value) same ∙ omega arith
publics_many long (p ∷ ps) done n ls x e =
    let key = bound (line_at (key_in (codes "public ") p long) n ls) (λ (y : List ℕ × Lines). publics_at long ps (done ++ y.0 ∷ []) (n + 1) y.1) x e in
    let rest = publics_many long ps (done ++ key.0.0 ∷ []) (n + 1) key.0.1 x key.2 in
    omega (arith, rest, length-append done (key.0.0 ∷ []))

many_replicas : (f : ℕ) → length (replicas f) ≡ 3 * f + 1
many_replicas f = length-map-range_with_len Replica 0 (3 * f + 1)

keys_whole : (s : KeyLines) (n : ℕ) (ls : Lines) (x : Read PartyKeys) → keys_after s n ls ≡ Ok x → IsWhole x.value
unfolding keys_after
keys_whole s n ls x e =
    let secret = bound (secret_at s.me n ls) (λ (a : Read (Option Secret)). peers_at (peers_in s.f s.clients s.me) [] a.next a.rest >>= λ b. publics_at (public_length s.lms) (replicas s.f) [] b.next b.rest >>= λ c. Ok (record { value = put_together s a.value b.value c.value; next = c.next; rest = c.rest })) x e in
    let peers = bound (peers_at (peers_in s.f s.clients s.me) [] secret.0.next secret.0.rest) (λ (b : Read (List Peer)). publics_at (public_length s.lms) (replicas s.f) [] b.next b.rest >>= λ c. Ok (record { value = put_together s secret.0.value b.value c.value; next = c.next; rest = c.rest })) x secret.2 in
    let publics = bound (publics_at (public_length s.lms) (replicas s.f) [] peers.0.next peers.0.rest) (λ (c : Read Lines). Ok (record { value = put_together s secret.0.value peers.0.value c.value; next = c.next; rest = c.rest })) x peers.2 in
    let made : Read PartyKeys = record { value = put_together s secret.0.value peers.0.value publics.0.value; next = publics.0.next; rest = publics.0.rest } in
    let is : ◌≡◌ {A = Result (Read PartyKeys) NodeFault} (Ok made) (Ok x) = publics.2 in
    let same : made ≡ x = cc in
    subst (λ (y : Read PartyKeys). IsWhole y.value) same (record {
      secret = λ r me. secret_there r n ls secret.0 (subst (λ (p : Party). secret_at p n ls ≡ Ok secret.0) me secret.1);
      public_of_each = publics_many (public_length s.lms) (replicas s.f) [] peers.0.next peers.0.rest publics.0 publics.1 ∙ let many = many_replicas s.f in omega (arith, many);
    })

pub read_whole : (ls : Lines) (n : NodeText) → node_in ls ≡ Ok n → IsWhole n.keys
unfolding node_in keys_at
read_whole ls n e =
    let keys = bound (setting_at ls >>= λ s. keys_after s.value s.next s.rest) (λ (k : Read PartyKeys). commands_at k.value.me [] k.next k.rest >>= λ (cs : Lines). Ok (node_of k.value cs)) n e in
    let setting = bound (setting_at ls) (λ (s : Read KeyLines). keys_after s.value s.next s.rest) keys.0 keys.1 in
    let commands = bound (commands_at keys.0.value.me [] keys.0.next keys.0.rest) (λ (cs : Lines). let r : Result NodeText NodeFault = Ok (node_of keys.0.value cs) in r) n keys.2 in
    let is : ◌≡◌ {A = Result NodeText NodeFault} (Ok (node_of keys.0.value commands.0)) (Ok n) = commands.2 in
    let same : node_of keys.0.value commands.0 ≡ n = cc in
    subst (λ (t : NodeText). IsWhole t.keys) same (keys_whole setting.0.value setting.0.next setting.0.rest keys.0 setting.2)

pub derived_whole : (f clients : ℕ) (plan : Plan) (every : ℕ) (service : ServiceName) (lms : Scheme) (seed : List ℕ) (me : Party) → IsWhole (keys_of f clients plan every service lms seed me)
derived_whole f clients plan every service lms seed me = record {
  secret = λ r is. (secret_of seed r, ap (own_secret seed) is);
  public_of_each = length-map-range_with_len (public_of lms seed) 0 (3 * f + 1);
}
