-- What a client keeps to, and what it comes to by its moves.
use Rattle.std.specs.Prelude.{◌≡◌, ℕ, ◌+◌, ◌*◌, ◌^◌, ◌<◌, ◌≤◌, ◌≢◌, ◌⊎◌, Bool, true, false, IsTrue, All, length, List, Option, None, Some}
use Rattle.ab_num.specs.declared.plan.Kind.TheVariants.{Quorum, ZLight}
use Rattle.ab_num.specs.declared.party.Party.TheVariants.{Replica, Client}
use Rattle.ab_num.specs.Places.{kind_of}
use Rattle.ab_form.specs.Formats.{IsWithin}
use Rattle.ab_form.specs.Lists.{FitsInside}
use Rattle.ab_hist.specs.declared.request.Request.{Request}
use Rattle.ab_msg.specs.declared.content.Content.TheVariants.{Resp}
use Rattle.ab_msg.specs.declared.message.Msg.{Msg}
use Rattle.ab_msg.specs.declared.message.Msg.TheVariants as msg
use Rattle.ab_msg.specs.declared.message.Out.{Out}
use Rattle.ab_msg.specs.Fields.{IsReply, IsSigner, IsStamp}
use Rattle.ab_msg.specs.Contents.{IsStopContent}
use Rattle.ab_msg.specs.Certs.{AreAborts, IsSigned}
use Rattle.ab_abs.specs.declared.ballot.Ballot.{Ballot}
use Rattle.ab_abs.specs.declared.seen.Seen.{Seen}
use Rattle.ab_abs.specs.Votes.{has_voted, voted}
use Rattle.ab_run.specs.declared.phase.Phase.{Phase}
use Rattle.ab_run.specs.declared.phase.Phase.TheVariants.{Idle, Waiting, Panicking}
use Rattle.ab_run.specs.Clients.{Cli, CliAction}
use Rattle.ab_run.specs.Local.{after_moves, marks_in_moves, sent_in_moves}
use Rattle.ab_client.specs.Clients.{Seat, alone}
use Rattle.ab_run.specs.Forms.{IsDraftOf}

-- the request that is open
abbrev pub open_request : Phase → Option Request → Option Request
open_request Idle last = None
open_request Waiting last = last
open_request Panicking last = last

-- a request of client me that has bytes
abbrev pub IsRequestOf : ℕ → Request → Type 0
IsRequestOf me m = (m.client ≡ me) × (IsStamp m.stamp × IsWithin 1 128 (length m.command.items))

-- a vote that has bytes
abbrev pub IsBallot : Ballot → Type 0
IsBallot b = IsWithin 1 65535 b.n × (length b.d ≡ 32) × IsReply b.reply

-- where client me can be: its last request, the votes for it with their signatures, its certificate and the ABORTs that it kept have bytes
pub record IsPlaced (me : ℕ) (s : Cli) : Type 0 where
  pub instance : 1 ≤ s.at
  pub stamp : s.stamp ≤ 2 ^ 63
  pub cert : FitsInside (AreAborts 1 7) s.cert
  pub last : FitsInside (IsRequestOf me) s.last
  pub votes : All IsBallot s.votes
  pub signed : All IsSigner s.signed
  pub kept : All (IsSigned IsStopContent) s.kept

-- by these moves client s comes to now, sends this and shows this. Its stamp stays, and all that it sends gets bytes
pub record IsMoved (s : Seat) (moves : List CliAction) (now : Seat) (sent : List Out) (shown : List Seen) : Type 0 where
  pub client : now ≡ record s { cli = after_moves s.cli moves }
  pub stamp : now.cli.stamp ≡ s.cli.stamp
  pub outs : sent ≡ sent_in_moves (alone s.cluster) s.me s.cli moves
  pub marks : shown ≡ marks_in_moves s.me s.cli moves
  pub drafts : s.me ≤ 15 → All (IsDraftOf s.cluster.f (Client s.me)) sent

-- a response or a CHAIN: what a client commits by
abbrev pub is_answer : Msg → Bool
is_answer (msg.Resp content tag) = true
is_answer (msg.Chain i m n d reply tags) = true
is_answer _ = false

-- client s waits with the request m open in an instance of Quorum or ZLight, and is handed the first answer b of a replica. The first
-- answers of all other replicas are there, and all are equal
pub record IsLastVote (s : Seat) (given : Msg) (m : Request) (b : Ballot) : Type 0 where
  pub kind : (kind_of s.cluster.plan s.cli.at ≡ Quorum) ⊎ (kind_of s.cluster.plan s.cli.at ≡ ZLight)
  pub waits : s.cli.phase ≡ Waiting
  pub asked : s.cli.last ≡ Some m
  pub answer : (tag : List ℕ) × (given ≡ msg.Resp (Resp (Replica b.by) s.cli.at s.me s.cli.stamp b.n b.d b.reply) tag)
  pub replica : b.by < 3 * s.cluster.f + 1
  pub first : has_voted s.cli.votes b.by ≡ false
  pub equal : (r : ℕ) → r < 3 * s.cluster.f + 1 → r ≢ b.by → IsTrue (voted s.cli.votes b r)
