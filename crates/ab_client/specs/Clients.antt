-- What a contract sees of a client.
use Rattle.std.specs.Prelude.{◌≡◌, ◌≢◌, ℕ, ◌<◌, ◌≤◌, Bool, true, false, Option, None, Some, List, [], replicate}
use Rattle.ab_num.specs.declared.cluster.Cluster.{Cluster}
use Rattle.ab_num.specs.declared.party.Party.TheVariants.{Client}
use Rattle.ab_hist.specs.declared.request.Request.{Request}
use Rattle.ab_msg.specs.declared.content.Content.{Content}
use Rattle.ab_msg.specs.declared.content.Content.TheVariants.{Req, Panic}
use Rattle.ab_msg.specs.declared.zcert.Zcert.{Zcert}
use Rattle.ab_msg.specs.declared.message.Msg.{Msg}
use Rattle.ab_msg.specs.declared.message.Msg.TheVariants as msg
use Rattle.ab_msg.specs.declared.message.Out.{Out}
use Rattle.ab_abs.specs.declared.seen.Seen.{Seen}
use Rattle.ab_run.specs.declared.phase.Phase.{Phase}
use Rattle.ab_run.specs.declared.phase.Phase.TheVariants.{Idle, Waiting, Panicking}
use Rattle.ab_run.specs.Setups.{RunSetup}
use Rattle.ab_run.specs.Clients.{Cli, CliAction}
use Rattle.ab_run.specs.Asking.{teller}
use Rattle.ab_run.specs.Local.{Cue, cue_command, moves_at, cli_after, cli_sends, cli_marks}
use Rattle.ab_client.specs.declared.client.InvokeFault.{InvokeFault}
use Rattle.ab_client.specs.declared.client.InvokeFault.TheVariants.{Busy, TooLong, Empty, OutOfMemory}

-- its number, its cluster, and where it is
pub record Seat : Type 0 where
  pub me : ℕ
  pub cluster : Cluster
  pub cli : Cli

abbrev pub is_waiting : Phase → Bool
is_waiting Idle = false
is_waiting Waiting = true
is_waiting Panicking = false

-- what comes to a client with a command
abbrev pub told : List ℕ → Cue
told command = cue_command (record { items = command })

-- a cluster in which nobody is faulty and nothing is signed: what a client does depends on neither
abbrev pub alone : Cluster → RunSetup
alone c = record { cluster = c; faulty = []; signatures = 0; sig = λ r s n. [] }

-- where a client is after what comes to it, what it sends, and what is seen of it
abbrev pub after : Seat → Cue → Seat
after s cue = record s { cli = cli_after (alone s.cluster) s.me s.cli cue }

abbrev pub sends : Seat → Cue → List Out
sends s cue = cli_sends (alone s.cluster) s.me s.cli cue

abbrev pub marks : Seat → Cue → List Seen
marks s cue = cli_marks (alone s.cluster) s.me s.cli cue

-- what it does as something comes to it
abbrev pub moves_on : Seat → Cue → List CliAction
moves_on s cue = moves_at (alone s.cluster) s.me s.cli cue

-- a client's request in an instance, before it has tags
abbrev pub request_msg : ℕ → Request → Msg
request_msg i m = msg.Req (Req (Client m.client) i m) (record { items = [] })

-- what asks the replicas to stop an instance, before it has a tag
unfoldable pub panic_msg : ℕ → ℕ → Msg
panic_msg i c = msg.Panic (Panic (Client c) i) (replicate 32 0)

-- the replica that tells by this content that it keeps the certificate which client c sent in instance i, or one with a higher number
abbrev pub told_by : ℕ → ℕ → ℕ → Option Zcert → Content → Option ℕ
told_by f i c None s = None
told_by f i c (Some z) s = teller f i c z s

-- when a command is refused: a request is open, or the command is too long or empty
abbrev pub InvokeCause : InvokeFault → Phase → ℕ → Type 0
InvokeCause Busy phase length = phase ≢ Idle
InvokeCause TooLong phase length = (phase ≡ Idle) × (128 < length)
InvokeCause Empty phase length = (phase ≡ Idle) × (length ≡ 0)
InvokeCause OutOfMemory phase length = (phase ≡ Idle) × (1 ≤ length) × (length ≤ 128)
