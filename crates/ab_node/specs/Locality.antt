-- What parties come to over their events, as a run says it: whatever happens elsewhere, and in whichever order the events of different
-- parties come.
use Rattle.std.specs.Prelude.{◌≡◌, ℕ, ◌+◌, ◌*◌, ◌<◌, ◌==◌, if◌then◌else◌, false, List, [], ◌∷◌, ◌++◌, Contains, reverse, Option}
use Rattle.std.specs.List.{cons_option, filter_map}
use Rattle.std.specs.Option.{option_map, option_to_list}
use Rattle.ab_num.specs.declared.cluster.Cluster.{Cluster}
use Rattle.ab_num.specs.declared.party.Party.{Party}
use Rattle.ab_num.specs.declared.party.Party.TheVariants.{Replica, Client}
use Rattle.ab_hist.specs.declared.request.Request.{Request}
use Rattle.ab_key_text.specs.Keys.{PartyKeys}
use Rattle.ab_msg.specs.declared.message.Out.{Out}
use Rattle.ab_sign.specs.Signers.{leaves_of, pen_of}
use Rattle.ab_abs.specs.declared.seen.Seen.{Seen}
use Rattle.ab_abs.specs.declared.seen.Seen.TheVariants.{Committed}
use Rattle.ab_abs.specs.Faults.{is_faulty}
use Rattle.ab_abs.specs.Ensembles.{Proto, put}
use Rattle.ab_abs.specs.Messages.{Call, took, timed}
use Rattle.ab_run.specs.Setups.{RunSetup}
use Rattle.ab_run.specs.Replicas.{Rep}
use Rattle.ab_run.specs.Clients.{Cli}
use Rattle.ab_run.specs.Runs.{Event as Happening, invoke, to_replica, to_client, replica_time, client_time, first_cli, first_rep, run}
use Rattle.ab_run.specs.Local.{Cue, cue_command, cue_message, cue_time, cli_after, cli_local, cli_sends, rep_after, rep_local, rep_sends}
use Rattle.ab_replica.specs.Sites.{IsSetupOf}
use Rattle.ab_loop.specs.declared.party_core.Commit.{Commit}
use Rattle.ab_loop.specs.Cores.{NodeEvent}
use Rattle.ab_loop.specs.Folds.{commits_in, core_after, sends_in}
use Rattle.ab_party.specs.Credentials.{Credentials, sealed_all}
use Rattle.ab_node.specs.Keys.{credentials_in}
use Rattle.ab_node.specs.Replicas.{ReplicaMember, call_of, first_replica, replica_rules, replica_step}
use Rattle.ab_node.specs.Clients.{ClientMember, client_rules, client_step, cue_of, first_client}

-- ---- one replica

-- what it takes in these events, the oldest first
abbrev pub calls_in : Credentials → List NodeEvent → List Call
calls_in c events = filter_map (call_of c) events

-- what replica r sends as these come to it, the oldest first
abbrev pub sent_locally : {P : Type 0} → RunSetup → Proto P → ℕ → Rep P → List Call → List Out
sent_locally k proto r s [] = []
sent_locally k proto r s (call ∷ calls) = rep_sends k proto r s call ++ sent_locally k proto r (rep_after k proto r s call) calls

-- it takes part in the run: it stands where the run begins, and has its cluster, its signatures and as many of them
pub record StartsIn {P : Type 0} (k : RunSetup) (proto : Proto P) (m : ReplicaMember P) : Type 0 where
  pub first : m.site.rep ≡ first_rep k proto m.site.me
  pub setup : IsSetupOf k m.site (pen_of m.credentials.keys m.site.me 0)

-- these events lead it where what it takes in them leads a replica in the run, and what it sends in them is what that one sends, sealed
pub record IsLocalReplica {P : Type 0} (k : RunSetup) (proto : Proto P) (counted : P → Option ℕ) (m : ReplicaMember P) (events : List NodeEvent) : Type 0 where
  pub state : (core_after (replica_rules proto counted) m events).site.rep ≡ rep_local k proto m.site.me (reverse (calls_in m.credentials events))
  pub bytes : sends_in (replica_rules proto counted) m events ≡ sealed_all m.credentials.ring (sent_locally k proto m.site.me m.site.rep (calls_in m.credentials events))

-- ---- one client

-- what it takes in these events, the oldest first. Which commands it takes depends on its stamp
abbrev pub cues_in : ClientMember → List NodeEvent → List Cue
cues_in m [] = []
cues_in m (e ∷ events) = cons_option (cue_of m e) (cues_in (client_step m e).after events)

abbrev pub asked_locally : RunSetup → ℕ → Cli → List Cue → List Out
asked_locally k c s [] = []
asked_locally k c s (cue ∷ cues) = cli_sends k c s cue ++ asked_locally k c (cli_after k c s cue) cues

pub record IsLocalClient (k : RunSetup) (m : ClientMember) (events : List NodeEvent) : Type 0 where
  pub state : (core_after client_rules m events).seat.cli ≡ cli_local k m.seat.me (reverse (cues_in m events))
  pub bytes : sends_in client_rules m events ≡ sealed_all m.credentials.ring (asked_locally k m.seat.me m.seat.cli (cues_in m events))

-- ---- all parties

-- each replica and each client of a cluster, by its number
pub record Members (P : Type 0) : Type 0 where
  pub replicas : ℕ → ReplicaMember P
  pub clients : ℕ → ClientMember

-- what a party takes, as an event of a run
abbrev pub call_event : ℕ → Call → Happening
call_event r (took m) = to_replica r m
call_event r timed = replica_time r

abbrev pub cue_event : ℕ → Cue → Happening
cue_event c (cue_command command) = invoke c command
cue_event c (cue_message m) = to_client c m
cue_event c cue_time = client_time c

module _ {P : Type 0} (proto : Proto P) where
  -- an event at a party: where all are after it, and what it is in a run
  abbrev pub members_after : Members P → Party → NodeEvent → Members P
  members_after w (Replica r) e = record w { replicas = put w.replicas r (replica_step proto (w.replicas r) e).after }
  members_after w (Client c) e = record w { clients = put w.clients c (client_step (w.clients c) e).after }

  abbrev pub happens : Members P → Party → NodeEvent → List Happening
  happens w (Replica r) e = option_to_list (option_map (call_event r) (call_of (w.replicas r).credentials e))
  happens w (Client c) e = option_to_list (option_map (cue_event c) (cue_of (w.clients c) e))

  -- the same of events at parties one after another, the oldest first. As events of a run the newest comes first
  abbrev pub all_after : Members P → List (Party × NodeEvent) → Members P
  all_after w [] = w
  all_after w (x ∷ xs) = all_after (members_after w x.0 x.1) xs

  abbrev pub all_happens : Members P → List (Party × NodeEvent) → List Happening
  all_happens w [] = []
  all_happens w (x ∷ xs) = all_happens (members_after w x.0 x.1) xs ++ happens w x.0 x.1

-- those of them that came to one party, the oldest first
abbrev pub events_at_replica : ℕ → List (Party × NodeEvent) → List NodeEvent
events_at_replica r [] = []
events_at_replica r ((Replica q, e) ∷ xs) = if q == r then e ∷ events_at_replica r xs else events_at_replica r xs
events_at_replica r ((Client c, e) ∷ xs) = events_at_replica r xs

abbrev pub events_at_client : ℕ → List (Party × NodeEvent) → List NodeEvent
events_at_client c [] = []
events_at_client c ((Replica q, e) ∷ xs) = events_at_client c xs
events_at_client c ((Client d, e) ∷ xs) = if d == c then e ∷ events_at_client c xs else events_at_client c xs

-- all of them stand where the run begins, each in its place
pub record AllStartIn {P : Type 0} (k : RunSetup) (proto : Proto P) (w : Members P) : Type 0 where
  pub replicas : (r : ℕ) → r < 3 * k.cluster.f + 1 → StartsIn k proto (w.replicas r) × ((w.replicas r).site.me ≡ r)
  pub clients : (c : ℕ) → c < k.cluster.clients → ((w.clients c).seat.cli ≡ first_cli) × ((w.clients c).seat.me ≡ c) × (k.cluster ≡ (w.clients c).seat.cluster)

-- the members before their first events, each with some keys, and each replica with as many signatures
pub record AreFirst {P : Type 0} (proto : Proto P) (c : Cluster) (signatures : ℕ) (w : Members P) : Type 0 where
  pub replicas : (r : ℕ) → r < 3 * c.f + 1 → (keys : PartyKeys) × (w.replicas r ≡ first_replica proto c keys r) × (leaves_of (credentials_in keys).keys r ≡ signatures)
  pub clients : (q : ℕ) → q < c.clients → (keys : PartyKeys) × (w.clients q ≡ first_client c keys q)

-- the setup of their run, where these of them are faulty
abbrev pub setup_among : {P : Type 0} → Cluster → List Party → ℕ → Members P → RunSetup
setup_among c faulty signatures w = record { cluster = c; faulty = faulty; signatures = signatures; sig = λ r. (pen_of (w.replicas r).credentials.keys r 0).sig }

-- client c's commit was seen, of a request with its stamp
pub record IsSeen (c : ℕ) (commit : Commit) (seen : List Seen) : Type 0 where
  pub request : Request
  pub digest : List ℕ
  pub there : Contains seen (Committed commit.instance c request commit.n digest commit.reply)
  pub stamp : request.stamp ≡ commit.stamp

-- the events of the members make a run: each party is where its own events lead it, and that is where the run leaves it; and what a
-- correct client commits is seen in the run
pub record AreRun {P : Type 0} (k : RunSetup) (proto : Proto P) (counted : P → Option ℕ) (w : Members P) (xs : List (Party × NodeEvent)) : Type 0 where
  pub replicas : (r : ℕ) → r < 3 * k.cluster.f + 1 → (run k proto (all_happens proto w xs)).reps r ≡ (core_after (replica_rules proto counted) (w.replicas r) (events_at_replica r xs)).site.rep
  pub clients : (c : ℕ) → c < k.cluster.clients → (run k proto (all_happens proto w xs)).clis c ≡ (core_after client_rules (w.clients c) (events_at_client c xs)).seat.cli
  pub commits : (c : ℕ) → c < k.cluster.clients → is_faulty k.faulty (Client c) ≡ false → (commit : Commit) → Contains (commits_in client_rules (w.clients c) (events_at_client c xs)) commit → IsSeen c commit (run k proto (all_happens proto w xs)).seen
