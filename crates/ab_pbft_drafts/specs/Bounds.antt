-- What a replica of PBFT keeps, so that all that it sends is of the grammar.
use Rattle.std.specs.Prelude.{◌≡◌, ℕ, zero, suc, ◌+◌, ◌*◌, ◌<◌, ◌≤◌, Option, Some, None, List, map, length, slice_get, Contains}
use Rattle.ab_num.specs.declared.cluster.Cluster.{Cluster}
use Rattle.ab_num.specs.Places.{limit_of}
use Rattle.ab_hist.specs.declared.request.Request.{Request}
use Rattle.ab_msg.specs.declared.change.Proof.{Proof}
use Rattle.ab_msg.specs.declared.message.Msg.{Msg}
use Rattle.ab_msg.specs.declared.message.Msg.TheVariants as msg
use Rattle.ab_msg.specs.declared.value.Value.{Value}
use Rattle.ab_msg.specs.declared.value.Value.TheVariants.{Base, Request as Order}
use Rattle.ab_msg.specs.Fields.{IsView, IsRequest, IsWritten, IsSig}
use Rattle.ab_msg.specs.Certs.{AreAborts, ArePrepares, IsProof}
use Rattle.ab_msg.specs.Messages.{IsDraft}
use Rattle.ab_abs.specs.Values.{list_of}
use Rattle.ab_lock.specs.Quorums.{quorum}
use Rattle.ab_lock.specs.Steps.{Cert, State, cert_at}
use Rattle.ab_lock.specs.Votes.{SlotVote}
use Rattle.ab_lock.specs.ViewChanges.{Kept}
use Rattle.ab_pbft_rules.specs.Rules.{Placement}
use Rattle.ab_pbft_shelf.specs.declared.kept.SignedVote.{SignedVote}
use Rattle.ab_pbft_shelf.specs.declared.kept.Certified.{Certified}
use Rattle.ab_pbft_shelf.specs.declared.kept.Tagged.{Tagged}
use Rattle.ab_pbft_shelf.specs.Shelves.{Shelf, maker_of, view_of}
use Rattle.ab_pbft_shelf.specs.Signing.{Signing}

-- ---- values of slots

-- a base in slot 0, a request in another slot, and it has bytes
abbrev pub IsValueAt : ℕ → Value → Type 0
IsValueAt zero (Base h) = IsWritten h
IsValueAt zero (Order m) = ⊥
IsValueAt (suc t) (Base h) = ⊥
IsValueAt (suc t) (Order m) = IsRequest 0 15 m

abbrev pub AreValuesAt : List Value → Type 0
AreValuesAt values = (t : ℕ) (value : Value) → slice_get values t ≡ Some value → IsValueAt t value

abbrev pub IsCertAt : ℕ → Cert Value → Type 0
IsCertAt t c = IsView c.at × IsValueAt t c.value

-- the certificates of a VIEW-CHANGE
abbrev pub AreCertsAt : List (Cert Value) → Type 0
AreCertsAt certs = (t : ℕ) (c : Cert Value) → slice_get certs t ≡ Some c → IsCertAt t c

-- where a replica is that orders k requests
pub record IsCore (k : ℕ) (s : State Value) : Type 0 where
  pub view : IsView s.view
  pub few : length s.accepted ≤ suc k
  pub accepted : AreValuesAt s.accepted
  pub certs : (t : ℕ) (c : Cert Value) → cert_at s.certs t ≡ Some c → IsCertAt t c
  pub executed : IsWritten (list_of s.executed)

-- ---- what is kept signed

-- the votes are those of the kept PREPAREs, by replicas of the cluster
abbrev pub vote_of : SignedVote → SlotVote (List ℕ)
vote_of b = record { by = b.by; slot = b.slot; x = b.x }

pub record AreBallots (f : ℕ) (votes : List (SlotVote (List ℕ))) (ballots : List SignedVote) : Type 0 where
  pub same : votes ≡ map vote_of ballots
  pub within : (b : SignedVote) → Contains ballots b → b.by < 3 * f + 1
  pub signed : (b : SignedVote) → Contains ballots b → IsSig b.sig

-- a slot has signatures where the rules have a certificate
abbrev pub AreBoth : ℕ → Option (Cert Value) → Option Certified → Type 0
AreBoth t None None = Unit {0}
AreBoth t None (Some z) = ⊥
AreBoth t (Some c) None = ⊥
AreBoth t (Some c) (Some z) = IsValueAt t z.value × ArePrepares z.prepares

pub record AreCertified (k : ℕ) (certs : List (Option (Cert Value))) (certified : List (Option Certified)) : Type 0 where
  pub many : length certified ≡ suc k
  pub each : (t : ℕ) (o : Option Certified) → slice_get certified t ≡ Some o → AreBoth t (cert_at certs t) o

-- the VIEW-CHANGEs that the rules keep are those that are kept as messages: of the same replicas, for the same views
abbrev pub change_key : Kept Value → ℕ × ℕ
change_key u = (u.change.by, u.view)

abbrev pub proof_key : Proof → ℕ × ℕ
proof_key p = (maker_of p, view_of p)

pub record AreProofs (changes : List (Kept Value)) (proofs : List Proof) : Type 0 where
  pub same : map change_key changes ≡ map proof_key proofs
  pub views : (u : Kept Value) → Contains changes u → IsView u.view
  pub certs : (u : Kept Value) → Contains changes u → AreCertsAt u.change.certs
  pub formed : (p : Proof) → Contains proofs p → IsProof p

-- tags of 32 bytes
abbrev pub HasTags : Tagged → Type 0
HasTags t = (tag : ℕ × List ℕ) → Contains t.tags.items tag → length tag.1 ≡ 32

-- ---- what is sent

-- a NEW-VIEW has the view changes of one quorum
abbrev pub HasQuorum : ℕ → Msg → Type 0
HasQuorum f (msg.NewView content tag changes) = length changes ≡ quorum f
HasQuorum f _ = Unit {0}

pub record IsSent (f : ℕ) (m : Msg) : Type 0 where
  pub draft : IsDraft m
  pub enough : HasQuorum f m

-- ---- all of it

pub record IsBounded (f k : ℕ) (s : State Value) (votes : List (SlotVote (List ℕ))) (changes : List (Kept Value)) (requests : List Request) (shelf : Shelf) : Type 0 where
  pub core : IsCore k s
  pub asked : (m : Request) → Contains requests m → IsRequest 0 15 m
  pub view : shelf.view ≡ s.view
  pub ballots : AreBallots f votes shelf.ballots
  pub certified : AreCertified k s.certs shelf.certified
  pub proofs : AreProofs changes shelf.proofs
  pub entry : AreAborts 0 7 shelf.entry
  pub tags : (t : Tagged) → Contains shelf.tagged t → HasTags t

-- replica r of instance i in a cluster, which entered with a base. One that a VIEW-CHANGE can hold has bytes
abbrev pub seat_of : Cluster → ℕ → ℕ → List Request → Placement
seat_of c i r base = record { k = limit_of c.plan i; f = c.f; i = i; me = r; base = base }

pub record IsInForm (c : Cluster) (i r : ℕ) (q : Signing) : Type 0 where
  pub base : List Request
  pub written : length base ≤ 1024 → IsWritten base
  pub cluster : q.cluster ≡ c
  pub seated : q.order.seat ≡ seat_of c i r base
  pub kept : IsBounded c.f (limit_of c.plan i) q.order.memory.peer.core q.order.memory.peer.votes q.order.memory.changes q.order.memory.requests q.shelf
