-- A replica or a client with its credentials, and what it does with what comes to it.
use Rattle.std.specs.Prelude.{◌≡◌, ℕ, ◌+◌, ◌≤◌, if◌then◌else◌, Bool, true, false, List, Option, None, Some}
use Rattle.ab_num.specs.declared.party.Party.TheVariants.{Replica, Client}
use Rattle.ab_num.specs.declared.plan.Kind.{Kind}
use Rattle.ab_hist.specs.declared.request.Request.{Request}
use Rattle.ab_msg.specs.declared.content.Content.{Content}
use Rattle.ab_msg.specs.declared.message.Out.{Out}
use Rattle.ab_msg.specs.Contents.{spell_content}
use Rattle.ab_msg.specs.Fields.{IsSig}
use Rattle.ab_sign.specs.Signers.{leaves_of, signature_of}
use Rattle.ab_abs.specs.declared.ballot.Ballot.{Ballot}
use Rattle.ab_abs.specs.declared.seen.Seen.{Seen}
use Rattle.ab_abs.specs.declared.seen.Seen.TheVariants.{Committed}
use Rattle.ab_abs.specs.Ensembles.{Proto}
use Rattle.ab_abs.specs.Promises.{ServesAll}
use Rattle.ab_run.specs.declared.phase.Phase.{Phase}
use Rattle.ab_run.specs.declared.phase.Phase.TheVariants.{Idle, Waiting, Panicking}
use Rattle.ab_run.specs.Forms.{IsWrittenRep}
use Rattle.ab_run.specs.Local.{Cue, cue_command, cue_message, cue_time}
use Rattle.ab_replica.specs.Sites.{Site}
use Rattle.ab_client.specs.Clients.{Seat, after, sends, marks}
use Rattle.ab_client.specs.Moved.{IsLastVote}
use Rattle.ab_party.specs.declared.fault.CommandFault.{CommandFault}
use Rattle.ab_party.specs.declared.fault.CommandFault.TheVariants.{NoClient, Busy, OutOfMemory}
use Rattle.ab_party.specs.Credentials.{Credentials, IsPartyRing}

-- ---- what holds of a party in every event

-- the ring is the replica's own, its key gives the signatures that it can make, each with the length of one, it made no more of them, and
-- it keeps what has bytes
pub record IsReplicaOf {P : Type 0} (proto : Proto P) (serves : Kind → Bool) (c : Credentials) (s : Site P) : Type 0 where
  pub ring : IsPartyRing c.ring
  pub own : c.ring.me ≡ Replica s.me
  pub f : c.ring.f ≡ s.cluster.f
  pub signatures : s.signatures ≡ leaves_of c.keys s.me
  pub signs : (m : Content) (n : ℕ) → IsSig (signature_of c.keys s.me n (spell_content m))
  pub used : s.rep.used ≤ s.signatures
  pub serves_all : ServesAll serves s.cluster
  pub written : IsWrittenRep proto serves s.cluster s.me s.rep

-- the ring is the client's own
pub record IsClientOf (c : Credentials) (s : Seat) : Type 0 where
  pub ring : IsPartyRing c.ring
  pub own : c.ring.me ≡ Client s.me
  pub f : c.ring.f ≡ s.cluster.f

-- ---- what a client does

-- it takes what comes by the rules of a run. Its stamp goes up by one at most, and it has no signatures to spend
pub record ClientHears (s : Seat) (cue : Cue) (now : Seat) (outs : List Out) (seen : List Seen) (spent : Bool) : Type 0 where
  pub after : now ≡ after s cue
  pub sends : outs ≡ sends s cue
  pub shows : seen ≡ marks s cue
  pub stamp : now.cli.stamp ≤ s.cli.stamp + 1
  pub spends : spent ≡ false

-- what it is handed completes the equal first answers of all replicas, in an instance of Quorum or ZLight, and by them it commits what is
-- seen
abbrev pub ClientCommits : Seat → Cue → Seen → Type 0
ClientCommits s (cue_command bytes) seen = ⊥
ClientCommits s (cue_message m) seen = (r : Request) × (b : Ballot) × IsLastVote s m r b × (seen ≡ Committed s.cli.at s.me r b.n b.d b.reply)
ClientCommits s cue_time seen = ⊥

abbrev pub is_idle : Phase → Bool
is_idle Idle = true
is_idle Waiting = false
is_idle Panicking = false

-- why it takes no command, if it doesn't
abbrev pub seat_refusal : Seat → Option CommandFault
seat_refusal s = if is_idle s.cli.phase then None else Some Busy

-- a fault is the stated refusal. Memory is refused only where nothing else is
abbrev pub IsCauseOf : CommandFault → Option CommandFault → Type 0
IsCauseOf OutOfMemory refusal = refusal ≡ None
IsCauseOf NoClient refusal = refusal ≡ Some NoClient
IsCauseOf Busy refusal = refusal ≡ Some Busy
