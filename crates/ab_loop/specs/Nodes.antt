-- A node: one core, driven by the turn rule.
use Rattle.std.specs.Prelude.{◌≡◌, ◌⊎◌, ℕ, ◌+◌, List, [], ◌∷◌, ◌++◌, map, drop, length, Option, None, Some, Bool, true, false, is_some, slice_get, nat_le, Result, Ok, Err, OnOk, IfSome, IsSomeAnd, ◌==◌, ◌&&◌, ◌≤◌, ⊤, if◌then◌else◌}
use Rattle.std.specs.List.{flat_map}
use Rattle.std.specs.Option.{option_map}
use Rattle.arrayvec.specs.ArrayVec.{ArrayVec}
use Rattle.ab_io.specs.Datagrams.{Datagram, given_of}
use Rattle.ab_loop.specs.declared.fault.ServeFault.{ServeFault}
use Rattle.ab_num.specs.declared.party.Party.{Party}
use Rattle.ab_num.specs.declared.party.Party.TheVariants.{Replica, Client}
use Rattle.ab_num.specs.Limits.{longest_message}
use Rattle.ab_piece.specs.Pieces.{cut_of}
use Rattle.ab_piece.specs.Joining.{OpenMessage, Answer, whole, more, dropped, open_after, step_of}
use Rattle.ab_loop.specs.declared.party_core.Commit.{Commit}
use Rattle.ab_loop.specs.Cores.{NodeEvent, invoke, message, timeout, Reaction, Rules}
use Rattle.ab_msg.specs.Packets.{Packet}
use Rattle.ab_loop.specs.Edges.{capped, Effect, replies, writing, keeping, sending, bodies_in, Edge, Does, Counted, Crash}
use Rattle.ab_loop.specs.Past.{body_of}
use Rattle.ab_loop.specs.Texts.{event_text, reply_text}
use Rattle.ab_loop.specs.Settings.{NodeSetting}

-- ---- a node's state

-- these are open after some datagrams
pub record AreOpened (messages : List OpenMessage) : Type 0 where
  pub datagrams : List (List ℕ)
  pub after : messages ≡ open_after datagrams

-- a whole message has at most 4 MiB
abbrev pub IsShortAnswer : Answer → Type 0
IsShortAnswer (whole m) = length m ≤ longest_message
IsShortAnswer more = ⊤
IsShortAnswer (dropped c) = ⊤

pub record Node (C : Type 0) : Type 0 where
  pub core : C
  pub joiner : List OpenMessage
  -- when the timer runs out, where it is on
  pub deadline : ℕ
  -- the number of the last message that was sent
  pub number : ℕ
  -- the commands that aren't answered, the open one at the front
  pub commands : List (ArrayVec ℕ)
  -- what was committed and isn't printed
  pub commit : Option Commit
  -- how many events were handled, how many datagrams were handed to send, how many events were spent
  pub events : ℕ
  pub sent : ℕ
  pub spent : ℕ

-- a node, what it does outside to come there, in order, and the events that its core handled on the way
pub record Out (C : Type 0) : Type 0 where
  pub node : Node C
  pub effects : List Effect
  pub events : List NodeEvent

abbrev pub no_step : {C : Type 0} → Node C → Out C
no_step node = record { node = node; effects = []; events = [] }

-- the line of a commit is written
abbrev pub told_step : {C : Type 0} → Node C → Commit → Out C
told_step node c = record { node = node; effects = replies c ∷ writing (reply_text c); events = [] }

abbrev pub and_then : {C : Type 0} → Out C → (Node C → Out C) → Out C
and_then a f = record { node = (f a.node).node; effects = a.effects ++ (f a.node).effects; events = a.events ++ (f a.node).events }

-- ---- sending

abbrev pub port_of : ℕ → Party → ℕ
port_of base (Replica r) = base + r
port_of base (Client c) = base + 100 + c

-- the datagrams of a message
unfoldable pub parcel_of : NodeSetting → ℕ → Packet → List Datagram
parcel_of s number m = map (λ piece. (port_of s.base m.to, piece)) (cut_of s.me number m.bytes)

-- the datagrams of each message, where the last one before them had this number
abbrev pub parcels_of : NodeSetting → ℕ → List Packet → List (List Datagram)
parcels_of s number [] = []
parcels_of s number (m ∷ ms) = parcel_of s (capped (number + 1)) m ∷ parcels_of s (capped (number + 1)) ms

abbrev pub datagrams_in : List (List Datagram) → List Datagram
datagrams_in parcels = flat_map (λ p. p) parcels

-- ---- one event

-- t and W, and the last number where that is more
abbrev pub next_deadline : NodeSetting → ℕ → ℕ
next_deadline s t = capped (t + s.wait)

abbrev pub same_timer : Option ℕ → Option ℕ → Bool
same_timer None None = true
same_timer None (Some b) = false
same_timer (Some a) None = false
same_timer (Some a) (Some b) = a == b

abbrev pub latest : Option Commit → Option Commit → Option Commit
latest old None = old
latest old (Some c) = Some c

-- the deadline after an event: a new one where the core's timer changed
abbrev pub deadline_after : NodeSetting → ℕ → ℕ → Option ℕ → Option ℕ → ℕ
deadline_after s t deadline old new = if same_timer old new then deadline else next_deadline s t

-- the node after what the core did at time t
abbrev pub node_after : {C : Type 0} → Rules C → NodeSetting → ℕ → Node C → Reaction C → Node C
node_after rules s t node done = record {
  core = done.after;
  joiner = node.joiner;
  deadline = deadline_after s t node.deadline (rules.timer node.core) (rules.timer done.after);
  number = capped (node.number + length done.sends);
  commands = node.commands;
  commit = latest node.commit done.commit;
  events = capped (node.events + 1);
  sent = capped (node.sent + length (datagrams_in (parcels_of s node.number done.sends)));
  spent = if done.spent then capped (node.spent + 1) else node.spent;
}

-- the line of an event, where a trace is wanted
abbrev pub trace_text : NodeSetting → NodeEvent → List ℕ
trace_text s e = if s.trace then event_text s.me e else []

-- what is kept of an event: its body, but for a message that didn't open
abbrev pub kept_of : Bool → NodeEvent → List (List ℕ)
kept_of opened e = if opened then body_of e ∷ [] else []

-- an event at time t: its line is written, and it is kept, before anything of it is sent
unfoldable pub event_step : {C : Type 0} → Rules C → NodeSetting → ℕ → NodeEvent → Node C → Out C
event_step rules s t e node =
    let done = rules.step node.core e in
    record {
      node = node_after rules s t node done;
      effects = writing (trace_text s e) ++ (keeping (kept_of done.opened e) ++ sending (datagrams_in (parcels_of s node.number done.sends)));
      events = e ∷ [];
    }

-- ---- one turn

-- what a turn is given: the clock's reading, and what the link gave
pub record Turn : Type 0 where
  pub reading : ℕ
  pub got : Option (List ℕ)

abbrev pub has_expired : {C : Type 0} → Rules C → ℕ → Node C → Bool
has_expired rules t node = is_some (rules.timer node.core) && nat_le node.deadline t

abbrev pub with_deadline : {C : Type 0} → ℕ → Out C → Out C
with_deadline deadline o = record { node = record o.node { deadline = deadline }; effects = o.effects; events = o.events }

-- the timer runs out, if it is on and its time has come
unfoldable pub timer_step : {C : Type 0} → Rules C → NodeSetting → ℕ → Node C → Out C
timer_step rules s t node = if has_expired rules t node then with_deadline (next_deadline s t) (event_step rules s t timeout node) else no_step node

abbrev pub with_joiner : {C : Type 0} → List OpenMessage → Node C → Node C
with_joiner joiner node = record node { joiner = joiner }

abbrev pub joined_step : {C : Type 0} → Rules C → NodeSetting → ℕ → Answer → Node C → Out C
joined_step rules s t (whole m) node = event_step rules s t (message m) node
joined_step rules s t more node = no_step node
joined_step rules s t (dropped c) node = no_step node

-- a datagram, which may complete a message
unfoldable pub datagram_step : {C : Type 0} → Rules C → NodeSetting → ℕ → Option (List ℕ) → Node C → Out C
datagram_step rules s t None node = no_step node
datagram_step rules s t (Some bytes) node = joined_step rules s t (step_of node.joiner bytes).answer (with_joiner (step_of node.joiner bytes).after node)

-- the next command, if there is one
unfoldable pub command_step : {C : Type 0} → Rules C → NodeSetting → ℕ → Node C → Out C
command_step rules s t node = elim (slice_get node.commands 0) [ None ↦ no_step node | Some c ↦ event_step rules s t (invoke c.items) node ]

-- the node without its open command and its commit
abbrev pub after_reply : {C : Type 0} → Node C → Node C
after_reply node = record node { commands = drop 1 node.commands; commit = None }

-- a commit is printed, and the next command invoked
unfoldable pub reply_step : {C : Type 0} → Rules C → NodeSetting → ℕ → Node C → Out C
reply_step rules s t node = elim node.commit [
  | None ↦ no_step node
  | Some c ↦ and_then (told_step (after_reply node) c) (command_step rules s t)
]

-- one turn: the clock, the timer, the link, the message, the reply
unfoldable pub turn_step : {C : Type 0} → Rules C → NodeSetting → Turn → Node C → Out C
turn_step rules s turn node =
    and_then (and_then (timer_step rules s turn.reading node) (datagram_step rules s turn.reading turn.got)) (reply_step rules s turn.reading)

-- ---- events of earlier runs

-- with a commit the open command goes
abbrev pub without_answered : Option Commit → List (ArrayVec ℕ) → List (ArrayVec ℕ)
without_answered None commands = commands
without_answered (Some c) commands = drop 1 commands

-- the node after what the core did once more at time t: none of it is sent
abbrev pub node_again : {C : Type 0} → Rules C → NodeSetting → ℕ → Node C → Reaction C → Node C
node_again rules s t node done = record {
  core = done.after;
  joiner = node.joiner;
  deadline = deadline_after s t node.deadline (rules.timer node.core) (rules.timer done.after);
  number = capped (node.number + length done.sends);
  commands = without_answered done.commit node.commands;
  commit = node.commit;
  events = capped (node.events + 1);
  sent = node.sent;
  spent = if done.spent then capped (node.spent + 1) else node.spent;
}

-- the node after all of them
abbrev pub past_node : {C : Type 0} → Rules C → NodeSetting → ℕ → List NodeEvent → Node C → Node C
past_node rules s t [] node = node
past_node rules s t (e ∷ es) node = past_node rules s t es (node_again rules s t node (rules.step node.core e))

abbrev pub line_again : Option Commit → List ℕ
line_again None = []
line_again (Some c) = reply_text c

-- their lines once more, and with each commit its line
abbrev pub past_text : {C : Type 0} → Rules C → NodeSetting → C → List NodeEvent → List ℕ
past_text rules s core [] = []
past_text rules s core (e ∷ es) = (trace_text s e ++ line_again (rules.step core e).commit) ++ past_text rules s (rules.step core e).after es

-- whether a command that was invoked is unanswered after this event
abbrev pub waits_after : Bool → NodeEvent → Option Commit → Bool
waits_after waits e (Some c) = false
waits_after waits (invoke command) None = true
waits_after waits (message bytes) None = waits
waits_after waits timeout None = waits

-- and after all of them
abbrev pub waits_in : {C : Type 0} → Rules C → C → Bool → List NodeEvent → Bool
waits_in rules core waits [] = waits
waits_in rules core waits (e ∷ es) = waits_in rules (rules.step core e).after (waits_after waits e (rules.step core e).commit) es

-- the events of earlier runs, at time t: nothing of them is kept or sent again
abbrev pub past_step : {C : Type 0} → Rules C → NodeSetting → ℕ → List NodeEvent → Node C → Out C
past_step rules s t past node = record { node = past_node rules s t past node; effects = writing (past_text rules s node.core past); events = past }

-- and then the next command, but for one that was invoked and is unanswered
unfoldable pub begin_step : {C : Type 0} → Rules C → NodeSetting → ℕ → List NodeEvent → Node C → Out C
begin_step rules s t past node = and_then (past_step rules s t past node) (if waits_in rules node.core false past then no_step else command_step rules s t)

-- ---- the whole run

abbrev pub is_client : Party → Bool
is_client (Replica r) = false
is_client (Client c) = true

-- a client whose commands are answered
abbrev pub is_done : {C : Type 0} → NodeSetting → Node C → Bool
is_done s node = is_client s.me && (length node.commands == 0)

-- a node before its first event
abbrev pub new_node : {C : Type 0} → NodeSetting → ℕ → C → List (ArrayVec ℕ) → Node C
new_node s t core commands = record {
  core = core;
  joiner = [];
  deadline = next_deadline s t;
  number = 0;
  commands = commands;
  commit = None;
  events = 0;
  sent = 0;
  spent = 0;
}

-- after the events of earlier runs and the first command, if there is one, at the reading before the first turn
unfoldable pub first_step : {C : Type 0} → Rules C → NodeSetting → ℕ → C → List NodeEvent → List (ArrayVec ℕ) → Out C
first_step rules s t core past commands = begin_step rules s t past (new_node s t core commands)

-- after these turns, the newest first
abbrev pub run_after : {C : Type 0} → Rules C → NodeSetting → Out C → List Turn → Out C
run_after rules s start [] = start
run_after rules s start (turn ∷ before) = and_then (run_after rules s start before) (turn_step rules s turn)

-- ---- how code goes along a definition

-- The node and what was done outside are those of the definition, or after a fault a front of what is done outside. At any moment a
-- crash leaves a front of what is kept.
pub record Follows {C : Type 0} (new : Node C) (e1 e2 : Edge) (crash : Crash) (out : Out C) (result : Result ℕ ServeFault) : Type 0 where
  pub node : OnOk result (new ≡ out.node)
  pub did : Does e1 e2 out.effects result
  pub counted : Counted e1 e2 result
  pub any_moment : crash (bodies_in out.effects)

-- what the link gave is what was next, and nothing only where nothing is to come
abbrev pub IsNext : List (List ℕ) → Option (List ℕ) → Type 0
IsNext datagrams None = datagrams ≡ []
IsNext datagrams (Some bytes) = IsSomeAnd (slice_get datagrams 0) (λ next. bytes ≡ given_of next)

abbrev pub left_by : Option (List ℕ) → Option (List (List ℕ)) → Option (List (List ℕ))
left_by None known = known
left_by (Some bytes) known = option_map (drop 1) known

-- what is to come after such a step: after a fault the link may not have been asked
abbrev pub Leaves : Option (List ℕ) → Option (List (List ℕ)) → Option (List (List ℕ)) → Result ℕ ServeFault → Type 0
Leaves got old new (Ok lost) = new ≡ left_by got old
Leaves got old new (Err why) = (new ≡ left_by got old) ⊎ (new ≡ old)

-- a step that takes what the link gives
pub record Takes {C : Type 0} (f : Option (List ℕ) → Out C) (new : Node C) (e1 e2 : Edge) (crash : Crash) (result : Result ℕ ServeFault) : Type 0 where
  pub got : Option (List ℕ)
  pub next : IfSome e1.link.to_come (λ datagrams. IsNext datagrams got)
  pub left : Leaves got e1.link.to_come e2.link.to_come result
  pub follows : Follows new e1 e2 crash (f got) result
