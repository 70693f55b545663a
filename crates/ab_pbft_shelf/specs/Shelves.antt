-- What a replica of PBFT keeps beside what its rules speak of: signatures, certificates, view changes as messages, and tags.
use Rattle.std.specs.Prelude.{ℕ, zero, suc, ◌*◌, ◌+◌, ◌==◌, Bool, ◌&&◌, not, nat_lt, if◌then◌else◌, Option, Some, None, List, [], ◌∷◌, ◌++◌, map, replicate, set, take}
use Rattle.std.specs.List.{filter, list_any}
use Rattle.std.specs.Str.{bytes_eq}
use Rattle.ab_num.specs.declared.party.Party.TheVariants.{Replica}
use Rattle.ab_msg.specs.declared.content.Content.{Content}
use Rattle.ab_msg.specs.declared.content.Content.TheVariants.{ViewChange}
use Rattle.ab_msg.specs.declared.value.Value.{Value}
use Rattle.ab_msg.specs.declared.signed.Signed.{Signed}
use Rattle.ab_msg.specs.declared.change.Proof.{Proof}
use Rattle.ab_msg.specs.Slots.{slot_digest}
use Rattle.ab_lock.specs.Quorums.{quorum}
use Rattle.ab_pbft_shelf.specs.declared.kept.SignedVote.{SignedVote}
use Rattle.ab_pbft_shelf.specs.declared.kept.Certified.{Certified}
use Rattle.ab_pbft_shelf.specs.declared.kept.Tagged.{Tagged}

-- entry is the certificate that the replica entered with, and view its present view. ballots are the PREPAREs of that view, the newest
-- first; certified has each slot's last certificate, from slot 0 on; proofs are the kept VIEW-CHANGEs, by ascending replica; tagged has the
-- tags of each client's last request
pub record Shelf : Type 0 where
  pub entry : List Signed
  pub view : ℕ
  pub ballots : List SignedVote
  pub certified : List (Option Certified)
  pub proofs : List Proof
  pub tagged : List Tagged

-- before the first view of an instance that orders k requests
abbrev pub empty_shelf : ℕ → List Signed → Shelf
empty_shelf k entry = record { entry = entry; view = 0; ballots = []; certified = replicate (k + 1) None; proofs = []; tagged = [] }

-- ---- PREPAREs

-- each replica's first for a slot is kept
abbrev pub is_of : ℕ → ℕ → SignedVote → Bool
is_of by slot b = (b.by == by) && (b.slot == slot)

abbrev pub has_ballot : List SignedVote → ℕ → ℕ → Bool
has_ballot ballots by slot = list_any (is_of by slot) ballots

abbrev pub put_ballot : SignedVote → List SignedVote → List SignedVote
put_ballot b ballots = if has_ballot ballots b.by b.slot then ballots else b ∷ ballots

abbrev pub with_ballot : SignedVote → Shelf → Shelf
with_ballot b s = record s { ballots = put_ballot b s.ballots }

-- a PREPARE of the present view
abbrev pub with_ballot_of : ℕ → SignedVote → Shelf → Shelf
with_ballot_of view b s = if view == s.view then with_ballot b s else s

-- ---- certificates

-- a replica's PREPARE for a slot with this digest
abbrev pub is_for : ℕ → ℕ → List ℕ → SignedVote → Bool
is_for by slot x b = is_of by slot b && bytes_eq b.x x

abbrev pub signer_in : ℕ → ℕ → List ℕ → List SignedVote → List (ℕ × List ℕ)
signer_in by slot x [] = []
signer_in by slot x (b ∷ ballots) = if is_for by slot x b then (by, b.sig) ∷ [] else signer_in by slot x ballots

-- those of the first n replicas
abbrev pub signers_below : ℕ → ℕ → List ℕ → List SignedVote → List (ℕ × List ℕ)
signers_below zero slot x ballots = []
signers_below (suc n) slot x ballots = signers_below n slot x ballots ++ signer_in n slot x ballots

-- the PREPAREs of the lowest 2f + 1 replicas
abbrev pub certified_by : ℕ → ℕ → ℕ → Value → List SignedVote → Certified
certified_by f view slot value ballots =
    record { at = view; value = value; prepares = take (quorum f) (signers_below (3 * f + 1) slot (slot_digest value) ballots) }

abbrev pub with_certified : ℕ → ℕ → ℕ → Value → Shelf → Shelf
with_certified f view slot value s = record s { certified = set s.certified slot (Some (certified_by f view slot value s.ballots)) }

-- the certificates from slot 0 on, up to the first slot that has none
abbrev pub certified_front : List (Option Certified) → List Certified
certified_front [] = []
certified_front (None ∷ rest) = []
certified_front (Some c ∷ rest) = c ∷ certified_front rest

-- ---- VIEW-CHANGEs

-- who made it, and for which view
abbrev pub maker_in : Content → ℕ
maker_in (ViewChange (Replica r) i view entries) = r
maker_in _ = 0

abbrev pub view_in : Content → ℕ
view_in (ViewChange maker i view entries) = view
view_in _ = 0

abbrev pub maker_of : Proof → ℕ
maker_of p = maker_in p.change.content

abbrev pub view_of : Proof → ℕ
view_of p = view_in p.change.content

-- the one of the higher view, the kept one at a tie
abbrev pub later : Proof → Proof → Proof
later p q = if nat_lt (view_of q) (view_of p) then p else q

-- by ascending replica
abbrev pub put_proof : Proof → List Proof → List Proof
put_proof p [] = p ∷ []
put_proof p (q ∷ rest) =
    if nat_lt (maker_of p) (maker_of q) then p ∷ q ∷ rest else if maker_of p == maker_of q then later p q ∷ rest else q ∷ put_proof p rest

abbrev pub without_maker : ℕ → List Proof → List Proof
without_maker r proofs = filter (λ p. not (maker_of p == r)) proofs

abbrev pub with_proof : Proof → Shelf → Shelf
with_proof p s = record s { proofs = put_proof p s.proofs }

-- those of the lowest 2f + 1 replicas that are for a view
abbrev pub proofs_for : ℕ → ℕ → List Proof → List Proof
proofs_for f view proofs = take (quorum f) (filter (λ p. view_of p == view) proofs)

-- the own VIEW-CHANGE with its signature, and the values and PREPAREs of the slots that it states
abbrev pub own_proof : ℕ → Content → List Certified → List ℕ → Proof
own_proof me content certs sig = record {
  change = record { maker = me; content = content; sig = sig };
  start = 0;
  digest = replicate 32 0;
  values = map (λ c. c.value) certs;
  prepares = map (λ c. c.prepares) certs;
}

-- ---- views

-- it leaves for a view, with its VIEW-CHANGE
abbrev pub left_for : ℕ → ℕ → Proof → Shelf → Shelf
left_for me view p s = record s { view = view; ballots = []; proofs = put_proof p (without_maker me s.proofs) }

-- it enters a view. What came of the view before is kept where it had left for it
abbrev pub entered : ℕ → Shelf → Shelf
entered view s = record s { view = view; ballots = if nat_lt s.view view then [] else s.ballots }

-- ---- tags

abbrev pub put_tags : Tagged → List Tagged → List Tagged
put_tags t [] = t ∷ []
put_tags t (o ∷ rest) = if o.client == t.client then t ∷ rest else o ∷ put_tags t rest

abbrev pub with_tags : Tagged → Shelf → Shelf
with_tags t s = record s { tagged = put_tags t s.tagged }

abbrev pub tags_of : ℕ → List Tagged → List (ℕ × List ℕ)
tags_of client [] = []
tags_of client (t ∷ rest) = if t.client == client then t.tags.items else tags_of client rest
