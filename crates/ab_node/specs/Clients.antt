-- One client of a cluster, with its keys: what it does with what comes to it.
use Rattle.std.specs.Prelude.{◌≡◌, ℕ, ◌+◌, ◌^◌, ◌&&◌, nat_le, nat_lt, if◌then◌else◌, Bool, true, false, List, [], ◌∷◌, length, All, Option, None, Some}
use Rattle.std.specs.Option.{option_map}
use Rattle.ab_num.specs.declared.cluster.Cluster.{Cluster}
use Rattle.ab_key_text.specs.Keys.{PartyKeys}
use Rattle.ab_abs.specs.declared.seen.Seen.{Seen}
use Rattle.ab_abs.specs.declared.seen.Seen.TheVariants.{Invoked, Init, Cert, TrimmedInit, TrimmedCert, Committed}
use Rattle.ab_run.specs.declared.phase.Phase.{Phase}
use Rattle.ab_run.specs.declared.phase.Phase.TheVariants.{Idle, Waiting, Panicking}
use Rattle.ab_msg.specs.declared.message.Out.{Out}
use Rattle.ab_run.specs.Forms.{IsDraftOf}
use Rattle.ab_run.specs.Runs.{first_cli}
use Rattle.ab_run.specs.Clients.{Cli}
use Rattle.ab_run.specs.Local.{Cue, cue_message, cue_time}
use Rattle.ab_client.specs.Clients.{Seat, told, after, sends, marks}
use Rattle.ab_party.specs.Clusters.{IsSized}
use Rattle.ab_loop.specs.declared.party_core.Commit.{Commit}
use Rattle.ab_loop.specs.Cores.{NodeEvent, invoke, message, timeout, Reaction, Rules}
use Rattle.ab_party.specs.Credentials.{Credentials, IsPartyRing, sealed_all}
use Rattle.ab_node.specs.Keys.{credentials_in, opened}
use Rattle.ab_node.specs.Replicas.{opens, still, with_opened}

-- where it is, and what it opens and seals by
pub record ClientMember : Type 0 where
  pub seat : Seat
  pub credentials : Credentials

-- a command has 1 to 128 bytes, and gets a stamp of at most 2^63
abbrev pub is_command : Cli → List ℕ → Bool
is_command s command = nat_lt s.stamp (2 ^ 63) && (nat_le 1 (length command) && nat_le (length command) 128)

abbrev pub command_cue : Cli → List ℕ → Option Cue
command_cue s command = if is_command s command then Some (told command) else None

-- what a client takes in an event: a command, the message that bytes are to it, or the end of its timer
abbrev pub cue_of : ClientMember → NodeEvent → Option Cue
cue_of m (invoke command) = command_cue m.seat.cli command
cue_of m (message bytes) = option_map cue_message (opened m.credentials bytes)
cue_of m timeout = Some cue_time

-- a commit among what is seen in an event
abbrev pub commit_of : Seen → Option Commit
commit_of (Invoked i c m) = None
commit_of (Init i r h) = None
commit_of (Cert i p h) = None
commit_of (TrimmedInit i r start digest rest) = None
commit_of (TrimmedCert i p start digest rest) = None
commit_of (Committed i c m n d reply) = Some (record { stamp = m.stamp; instance = i; n = n; reply = reply })

abbrev pub first_of : Option Commit → Option Commit → Option Commit
first_of None later = later
first_of (Some c) later = Some c

abbrev pub commit_in : List Seen → Option Commit
commit_in [] = None
commit_in (s ∷ seen) = first_of (commit_of s) (commit_in seen)

abbrev pub client_after : ClientMember → Cue → ClientMember
client_after m cue = record m { seat = after m.seat cue }

-- what it takes goes by the rules of the run, in which a command changes nothing while a request is open. No event of a client is spent
abbrev pub client_takes : ClientMember → Cue → Reaction ClientMember
client_takes m cue = record {
  after = client_after m cue;
  sends = sealed_all m.credentials.ring (sends m.seat cue);
  commit = commit_in (marks m.seat cue);
  spent = false;
  opened = true;
}

abbrev pub client_may_take : ClientMember → Option Cue → Reaction ClientMember
client_may_take m None = still m
client_may_take m (Some cue) = client_takes m cue

abbrev pub client_step : ClientMember → NodeEvent → Reaction ClientMember
client_step m e = with_opened (opens m.credentials e) (client_may_take m (cue_of m e))

-- its timer is on while a request is open
abbrev pub seat_timer : Phase → ℕ → Option ℕ
seat_timer Idle n = None
seat_timer Waiting n = Some n
seat_timer Panicking n = Some n

abbrev pub client_rules : Rules ClientMember
client_rules = record { step = client_step; timer = λ m. seat_timer m.seat.cli.phase (m.seat.cli.stamp + m.seat.cli.at) }

-- ---- before the first event

abbrev pub first_client : Cluster → PartyKeys → ℕ → ClientMember
first_client c k n = record { seat = record { me = n; cluster = c; cli = first_cli }; credentials = credentials_in k }

-- client n of these keys before its first event
pub record IsFirstClient (k : PartyKeys) (n : ℕ) (m : ClientMember) : Type 0 where
  pub cluster : Cluster
  pub of_keys : IsSized cluster k.f k.clients k.plan k.every
  pub is : m ≡ first_client cluster k n

-- ---- what it does

-- it takes a cue by the rules of the run, and all that it sends gets bytes
pub record Does (m : ClientMember) (cue : Cue) (now : ClientMember) (outs : List Out) (seen : List Seen) : Type 0 where
  pub after : now ≡ client_after m cue
  pub sends : outs ≡ sends m.seat cue
  pub shows : seen ≡ marks m.seat cue
  pub drafts : All (IsDraftOf now.credentials.ring.f now.credentials.ring.me) outs
  pub ring : IsPartyRing now.credentials.ring
