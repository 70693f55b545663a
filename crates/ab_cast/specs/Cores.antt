-- A core of a party, and what it does with what comes to it.
use Rattle.std.specs.Prelude.{ℕ, ◌+◌, Bool, false, List, []}
use Rattle.ab_num.specs.declared.party.Party.{Party}
use Rattle.ab_num.specs.declared.party.Party.TheVariants.{Replica, Client}
use Rattle.ab_msg.specs.declared.content.Content.{Content}
use Rattle.ab_msg.specs.declared.message.Out.{Out}
use Rattle.ab_msg.specs.Claims.{claims}
use Rattle.ab_abs.specs.declared.seen.Seen.{Seen}
use Rattle.ab_abs.specs.Messages.{Call, took, timed}
use Rattle.ab_abs.specs.Ensembles.{Proto}
use Rattle.ab_run.specs.Setups.{RunSetup}
use Rattle.ab_run.specs.Replicas.{is_spent, turns}
use Rattle.ab_replica.specs.Sites.{Site}
use Rattle.ab_replica.specs.Doings.{entries_in}
use Rattle.ab_run.specs.Local.{Cue, cue_command, cue_message, cue_time, rep_after, rep_sends, rep_marks, cli_after, cli_sends, cli_marks}
use Rattle.ab_client.specs.Clients.{Seat}
use Rattle.ab_party.specs.Parties.{ClientCommits}
use Rattle.ab_cast.specs.Setups.{Setup, run_setup}

-- a replica or a client, where it is
pub data Core (P : Type 0) : Type 0 where
  replica : (s : Site P) → Core P
  client : (s : Seat) → Core P

abbrev pub number_of : Party → ℕ
number_of (Replica r) = r
number_of (Client c) = c

-- what party p checks in what comes, where f replicas may be faulty
abbrev pub cue_claims : ℕ → Party → Cue → List Content
cue_claims f p (cue_command bytes) = []
cue_claims f p (cue_message m) = claims f p m
cue_claims f p cue_time = []

-- what a core is handed makes it commit what is seen. A replica commits nothing
abbrev pub CommitsAtOnce : {P : Type 0} → Core P → Cue → Seen → Type 0
CommitsAtOnce (replica s) cue seen = ⊥
CommitsAtOnce (client s) cue seen = ClientCommits s cue seen

-- where a replica is after a call
abbrev pub site_after : {P : Type 0} → RunSetup → Proto P → ℕ → Site P → Call → Site P
site_after k proto r s call = record s { rep = rep_after k proto r s.rep call; entries = s.entries + entries_in (turns k proto r s.rep call) }

module _ {P : Type 0} (x : Setup) (proto : Proto P) where
  -- where a core of party p is after what comes to it, what it sends, what is seen of it, and whether the event is spent for want of
  -- signatures. A replica takes no command
  abbrev pub core_after : Party → Core P → Cue → Core P
  core_after p (replica s) (cue_command bytes) = replica s
  core_after p (replica s) (cue_message m) = replica (site_after (run_setup x) proto (number_of p) s (took m))
  core_after p (replica s) cue_time = replica (site_after (run_setup x) proto (number_of p) s timed)
  core_after p (client s) cue = client (record s { cli = cli_after (run_setup x) (number_of p) s.cli cue })

  abbrev pub core_sends : Party → Core P → Cue → List Out
  core_sends p (replica s) (cue_command bytes) = []
  core_sends p (replica s) (cue_message m) = rep_sends (run_setup x) proto (number_of p) s.rep (took m)
  core_sends p (replica s) cue_time = rep_sends (run_setup x) proto (number_of p) s.rep timed
  core_sends p (client s) cue = cli_sends (run_setup x) (number_of p) s.cli cue

  abbrev pub core_marks : Party → Core P → Cue → List Seen
  core_marks p (replica s) (cue_command bytes) = []
  core_marks p (replica s) (cue_message m) = rep_marks (run_setup x) proto (number_of p) s.rep (took m)
  core_marks p (replica s) cue_time = rep_marks (run_setup x) proto (number_of p) s.rep timed
  core_marks p (client s) cue = cli_marks (run_setup x) (number_of p) s.cli cue

  abbrev pub core_spends : Party → Core P → Cue → Bool
  core_spends p (replica s) (cue_command bytes) = false
  core_spends p (replica s) (cue_message m) = is_spent (run_setup x) proto (number_of p) s.rep (took m)
  core_spends p (replica s) cue_time = is_spent (run_setup x) proto (number_of p) s.rep timed
  core_spends p (client s) cue = false
