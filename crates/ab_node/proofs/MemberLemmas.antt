-- What holds of members in every event.
use Rattle.std.proofs.Common.{◌≡◌, ℕ, ◌+◌, ◌*◌, ◌<◌, Bool, All, List, [], map, length, Option, None, Some, IsTrue, refl, sym, ap, ◌∙◌, subst, arith, slice_get, slice_set, false}
use Rattle.std.specs.Prelude.{if◌then◌else◌}
use Rattle.std.specs.Option.{option_map}
use Rattle.std.proofs.lemmas.Bool.{ltb-true}
use Rattle.std.proofs.lemmas.List.{get_or-set_same, length-map, length-set}
use Rattle.std.proofs.lemmas.Option.{slice_get-get_or}
use Rattle.ab_num.specs.declared.cluster.Cluster.{Cluster}
use Rattle.ab_num.specs.declared.party.Party.TheVariants.{Replica}
use Rattle.ab_num.specs.declared.plan.Kind.{Kind}
use Rattle.ab_num.specs.Bounds.{IsInBounds}
use Rattle.ab_keys.specs.Keys.{is_party}
use Rattle.ab_key_text.specs.Keys.{IsWhole, PartyKeys, Secret}
use Rattle.ab_msg.specs.declared.content.Content.{Content}
use Rattle.ab_msg.specs.declared.message.Out.{Out}
use Rattle.ab_msg.specs.Contents.{spell_content}
use Rattle.ab_msg.specs.Fields.{IsSig}
use Rattle.ab_sign.specs.declared.key.SignKey.{SignKey}
use Rattle.ab_sign.specs.declared.key.SignKey.TheVariants as key
use Rattle.ab_sign.specs.Signers.{leaves_of, pen_of, signature_at, signature_of}
use Rattle.ab_sign.proofs.KeyLemmas.{signature_fits}
use Rattle.ab_abs.specs.declared.seen.Seen.{Seen}
use Rattle.ab_abs.specs.Ensembles.{Proto}
use Rattle.ab_abs.specs.Messages.{Call}
use Rattle.ab_abs.specs.FormLaws.{KeepsForm}
use Rattle.ab_abs.specs.Promises.{ServesAll}
use Rattle.ab_run.specs.declared.phase.Phase.{Phase}
use Rattle.ab_run.specs.declared.phase.Phase.TheVariants.{Idle, Waiting, Panicking}
use Rattle.ab_run.specs.Clients.{asking}
use Rattle.ab_run.specs.Forms.{IsDraftOf, IsWrittenSetup}
use Rattle.ab_run.specs.Setups.{RunSetup}
use Rattle.ab_run.specs.Local.{Cue, after_moves, marks_in_moves, sent_in_moves}
use Rattle.ab_run.specs.Runs.{first_cli}
use Rattle.ab_run.proofs.Written.{first_written}
use Rattle.ab_replica.specs.Sites.{IsSetupOf, Site, first_site}
use Rattle.ab_replica.specs.Doings.{Hears}
use Rattle.ab_client.specs.Clients.{Seat, alone, told}
use Rattle.ab_party.specs.declared.fault.CommandFault.TheVariants.{Busy}
use Rattle.ab_party.specs.Credentials.{Credentials, IsPartyRing}
use Rattle.ab_party.specs.Parties.{ClientHears, IsClientOf, IsReplicaOf, is_idle, seat_refusal}
use Rattle.ab_party.specs.Clusters.{IsSized}
use Rattle.ab_node.specs.Keys.{credentials_in, own_key, with_own}
use Rattle.ab_node.specs.Replicas.{ReplicaMember, first_replica, own_setup, replica_after}
use Rattle.ab_node.specs.Clients.{ClientMember, Does, first_client}

-- ---- keys

-- a replica's own key stands in its place
own_there : (k : PartyKeys) (r : ℕ) (s : Secret) → k.me ≡ Replica r → k.secret ≡ Some s → r < length k.publics → slice_get (credentials_in k).keys r ≡ Some (own_key k.lms s)
own_there k r s me secret lt =
    let publics : List SignKey = map key.Public k.publics in
    let lt' : r < length publics = subst (λ n. r < n) (sym (length-map k.publics key.Public)) lt in
    let keys : List SignKey = slice_set publics r (own_key k.lms s) in
    let in_keys : r < length keys = subst (λ n. r < n) (sym (length-set publics r (own_key k.lms s))) lt' in
    ap (λ p. slice_get (with_own p (option_map (own_key k.lms) k.secret) publics) r) me
    ∙ ap (λ o. slice_get (with_own (Replica r) (option_map (own_key k.lms) o) publics) r) secret
    ∙ slice_get-get_or keys r (own_key k.lms s) in_keys
    ∙ ap (λ (x : SignKey). Some x) (get_or-set_same publics r (own_key k.lms s) (own_key k.lms s) lt')

own_signs : (k : PartyKeys) (r : ℕ) (s : Secret) → slice_get (credentials_in k).keys r ≡ Some (own_key k.lms s) → (content : Content) (n : ℕ) → IsSig (signature_of (credentials_in k).keys r n (spell_content content))
own_signs k r s there content n =
    let text = spell_content content in
    subst (λ (o : Option SignKey). IsSig (signature_at o n text)) (sym there) (signature_fits k.lms s.id s.seed text n)

pub whole_signs : (k : PartyKeys) (r : ℕ) → IsWhole k → k.me ≡ Replica r → IsTrue (is_party k.f k.clients k.me) → (content : Content) (n : ℕ) → IsSig (signature_of (credentials_in k).keys r n (spell_content content))
whole_signs k r whole me party =
    let secret = whole.secret r me in
    let lt : r < 3 * k.f + 1 = ltb-true r (3 * k.f + 1) (subst (λ p. IsTrue (is_party k.f k.clients p)) me party) in
    own_signs k r secret.0 (own_there k r secret.0 me secret.1 (omega (arith, lt, whole.public_of_each)))

-- ---- commands

-- a command changes nothing while a request is open
pub busy_rests : (s now : Seat) (command : List ℕ) (outs : List Out) (seen : List Seen) (spent : Bool) → seat_refusal s ≡ Some Busy → now ≡ s → outs ≡ [] → seen ≡ [] → spent ≡ false
    → ClientHears s (told command) now outs seen spent
busy_rests s now command outs seen spent busy same nothing unseen unspent =
    let still : asking s.me s.cli s.cli.phase (record { items = command }) ≡ [] = rests s.cli.phase busy in
    record {
      after = same ∙ ap (λ ms. record s { cli = after_moves s.cli ms }) (sym still);
      sends = nothing ∙ ap (sent_in_moves (alone s.cluster) s.me s.cli) (sym still);
      shows = unseen ∙ ap (marks_in_moves s.me s.cli) (sym still);
      stamp = omega (arith, ap (λ (q : Seat). q.cli.stamp) same);
      spends = unspent;
    }
  where
    rests : (p : Phase) → (if is_idle p then None else Some Busy) ≡ Some Busy → asking s.me s.cli p (record { items = command }) ≡ []
    rests Idle none = absurd (let e : None ≡ Some Busy = none in cc)
    rests Waiting is = refl
    rests Panicking is = refl

-- ---- what comes

-- a replica that takes what comes, by the keys that it lends
module _ {P : Type 0} (proto : Proto P) (m : ReplicaMember P) (keys : Credentials) (same : keys ≡ m.credentials) (call : Call) (now : Site P) (outs : List Out) (seen : List Seen) (spent : Bool)
    (hears : (k : RunSetup) → IsSetupOf k m.site (pen_of keys.keys m.site.me 0) → Hears proto k m.site call now outs seen spent) where
  pub own_hears : Hears proto (own_setup m) m.site call now outs seen spent
  own_hears =
      hears (own_setup m) (subst (λ (k : Credentials). IsSetupOf (own_setup m) m.site (pen_of k.keys m.site.me 0)) (sym same) (record { cluster = refl; signatures = refl; sig = refl }))

  pub goes_on : record m { site = now } ≡ replica_after proto m call
  goes_on = ap (λ (s : Site P). record m { site = s }) own_hears.after

-- the same of a client
pub does : (m : ClientMember) (keys : Credentials) → keys ≡ m.credentials → (cue : Cue) (now : Seat) (outs : List Out) (seen : List Seen) (spent : Bool)
    → IsClientOf keys now → ClientHears m.seat cue now outs seen spent → All (IsDraftOf keys.ring.f keys.ring.me) outs → Does m cue (record m { seat = now }) outs seen
does m keys same cue now outs seen spent own hears drafts = record {
  after = ap (λ (s : Seat). record m { seat = s }) hears.after;
  sends = hears.sends;
  shows = hears.shows;
  drafts = subst (λ (k : Credentials). All (IsDraftOf k.ring.f k.ring.me) outs) same drafts;
  ring = subst (λ (k : Credentials). IsPartyRing k.ring) same own.ring;
}

-- ---- before the first event

ring_of_party : (k : PartyKeys) (c : Cluster) → IsSized c k.f k.clients k.plan k.every → IsTrue (is_party k.f k.clients k.me) → IsPartyRing (credentials_in k).ring
ring_of_party k c of party = record {
  bounds = subst (λ f. IsInBounds f k.clients) of.f (subst (λ n. IsInBounds c.f n) of.clients c.in_bounds);
  party = party;
}

module _ {P : Type 0} (proto : Proto P) (serves : Kind → Bool) (form : KeepsForm proto serves) where
  pub first_replica_is : (k : PartyKeys) (c : Cluster) (r : ℕ) → IsSized c k.f k.clients k.plan k.every → IsWhole k → k.me ≡ Replica r → IsTrue (is_party k.f k.clients k.me) → ServesAll serves c
      → IsReplicaOf proto serves (credentials_in k) (first_replica proto c k r).site
  first_replica_is k c r of whole me party served =
      let m : ReplicaMember P = first_replica proto c k r in
      let signs : (s : Content) (n : ℕ) → IsSig (signature_of m.credentials.keys r n (spell_content s)) = whole_signs k r whole me party in
      let setup : IsWrittenSetup (own_setup m) serves = record { serves_all = served; signs = λ q s n lt. signs s n } in
      let lt : r < 3 * k.f + 1 = ltb-true r (3 * k.f + 1) (subst (λ p. IsTrue (is_party k.f k.clients p)) me party) in
      record {
        ring = ring_of_party k c of party;
        own = me;
        f = sym of.f;
        signatures = refl;
        signs = signs;
        used = omega arith;
        serves_all = served;
        written = first_written (own_setup m) proto form setup r (subst (λ f. r < 3 * f + 1) (sym of.f) lt);
      }

  -- what was made so is it
  pub replica_made : (k : PartyKeys) (c : Cluster) (r signatures : ℕ) (site : Site P) (credentials : Credentials) → credentials ≡ credentials_in k → signatures ≡ leaves_of credentials.keys r → site ≡ first_site proto c r signatures
      → ◌≡◌ {A = ReplicaMember P} (record { site = site; credentials = credentials }) (first_replica proto c k r)
  replica_made k c r signatures site credentials keys many is =
      let same : site ≡ first_site proto c r (leaves_of (credentials_in k).keys r) = is ∙ ap (first_site proto c r) (many ∙ ap (λ x. leaves_of x.keys r) keys) in
      λ j. record { site = same j; credentials = keys j }

pub client_made : (k : PartyKeys) (c : Cluster) (n : ℕ) (seat : Seat) (credentials : Credentials) → credentials ≡ credentials_in k → seat ≡ record { me = n; cluster = c; cli = first_cli }
    → ◌≡◌ {A = ClientMember} (record { seat = seat; credentials = credentials }) (first_client c k n)
client_made k c n seat credentials keys is = λ j. record { seat = is j; credentials = keys j }
