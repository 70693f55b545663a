-- What follows from the causes of a node's statuses.
use Rattle.std.proofs.Common.{◌≡◌, ℕ, List, true, false, Result, Ok, Err, refl, sym, ap, ◌∙◌, subst, inl, inr, arith}
use Rattle.ab_num.specs.declared.party.Party.{Party}
use Rattle.ab_num.specs.declared.party.Party.TheVariants.{Replica, Client}
use Rattle.ab_io.specs.Causes.{Rose}
use Rattle.ab_text.specs.Lines.{lines_of}
use Rattle.ab_key_text.specs.declared.fault.NodeFault.{NodeFault}
use Rattle.ab_key_text.specs.Keys.{PartyKeys}
use Rattle.ab_key_text.specs.Nodes.{NodeText, node_in}
use Rattle.ab_words.specs.Commands.{NodeCommand}
use Rattle.ab_words.specs.declared.command.Command.TheVariants as command
use Rattle.ab_loop.specs.declared.fault.ServeFault.TheVariants.{LinkFailed, WriteFailed, KeepFailed, TurnsSpent as Unanswered}
use Rattle.ab_loop.specs.declared.fault.ServeFault.TheVariants as serving
use Rattle.ab_loop.specs.Edges.{Crash}
use Rattle.ab_loop.specs.Nodes.{is_client}
use Rattle.ab_replay.specs.declared.refusal.Refusal.{Refusal}
use Rattle.ab_replay.specs.Streams.{IsInput}
use Rattle.ab_node.specs.declared.stop.Stop.{Stop}
use Rattle.ab_node.specs.declared.stop.Stop.TheVariants as stop
use Rattle.ab_node.specs.Nodes.{IsRefused, IsStopped, NodeCall, PartyStopped, StopCause, no_crash}
use Rattle.ab_command.specs.declared.status.Bound.TheVariants.{Bytes, Events, Packets}
use Rattle.ab_command.specs.declared.status.Status.{Status}
use Rattle.ab_command.specs.declared.status.Status.TheVariants.{Done, Broken, Usage, Refused, ReadFault, WriteFault, LinkFault, Limit, TurnsSpent, OutOfMemory, DiskFault, JournalRefused, ChildFault}
use Rattle.ab_command.specs.Texts.{code_of, stop_status}
use Rattle.ab_command.specs.Calls.{Call, call_of}
use Rattle.ab_command.specs.Commands.{AsksNode}
use Rattle.ab_command.specs.Endings.{Says, Settles}
use Rattle.ab_command.specs.Statuses.{HasFront, IsClearForNode, IsServedOut, StatusCause}
use Rattle.ab_command.proofs.StatusLemmas.{bad_words, input_or_node, keys_or_node, not_none, not_too_long, replay_or_node, same_input, settled, storm_or_node, tells_words}

-- ---- whose counts rose, whatever the party

pub link_rose : (me : Party) (k : PartyKeys) (commands : List (List ℕ)) (x : NodeCall) (crash : Crash) → PartyStopped me k commands x crash LinkFailed → Rose x.old.link.faults x.new.link.faults
link_rose (Replica r) k commands x crash stopped = stopped.fault.counted.1
link_rose (Client c) k commands x crash stopped = stopped.fault.counted.1

pub out_rose : (me : Party) (k : PartyKeys) (commands : List (List ℕ)) (x : NodeCall) (crash : Crash) → PartyStopped me k commands x crash WriteFailed → Rose x.old.out.faults x.new.out.faults
out_rose (Replica r) k commands x crash stopped = stopped.fault.counted.1
out_rose (Client c) k commands x crash stopped = stopped.fault.counted.1

pub keep_rose : (me : Party) (k : PartyKeys) (commands : List (List ℕ)) (x : NodeCall) (crash : Crash) → PartyStopped me k commands x crash KeepFailed → Rose x.old.keep.faults x.new.keep.faults
keep_rose (Replica r) k commands x crash stopped = stopped.fault.counted.1
keep_rose (Client c) k commands x crash stopped = stopped.fault.counted.1

-- only a client leaves commands
pub leaves_as_client : (me : Party) (k : PartyKeys) (commands : List (List ℕ)) (x : NodeCall) (crash : Crash) (n : ℕ) → PartyStopped me k commands x crash (Unanswered n) → is_client me ≡ true
leaves_as_client (Replica r) k commands x crash n stopped = stopped.fault.client
leaves_as_client (Client c) k commands x crash n stopped = refl

module _ (c : Call) (k : NodeCommand) (clear : IsClearForNode c k) where
  read_as : (text : List ℕ) (r : Result NodeText NodeFault) → IsInput c.met.input.before.left text → node_in (lines_of text) ≡ r → Ok clear.node ≡ r
  read_as text r input reads = sym clear.reads ∙ (ap (λ (t : List ℕ). node_in (lines_of t)) (sym (same_input c.met.input.before.left clear.text text clear.input input)) ∙ reads)

  not_refused : (text : List ℕ) (r : Refusal) → IsInput c.met.input.before.left text → IsRefused text r → ⊥
  not_refused text r input refused = let e : ◌≡◌ {A = Result NodeText NodeFault} (Ok clear.node) (Err refused.fault) = read_as text (Err refused.fault) input refused.reads in cc

  is_clients : (text : List ℕ) (n : ℕ) (x : NodeCall) → IsInput c.met.input.before.left text → IsStopped text x no_crash (Unanswered n) → is_client clear.node.keys.me ≡ true
  is_clients text n x input stopped =
      let e : ◌≡◌ {A = Result NodeText NodeFault} (Ok clear.node) (Ok stopped.node) = read_as text (Ok stopped.node) input stopped.reads in
      let same : stopped.node ≡ clear.node = cc in
      let node = stopped.node in
      subst (λ (m : NodeText). is_client m.keys.me ≡ true) same (leaves_as_client node.keys.me node.keys node.commands x no_crash n stopped.fault)

  pub node_status : (s : Status) → StatusCause s c → IsServedOut (code_of s) clear.node c
  node_status Done (inl told, kept) = absurd (input_or_node c.words k (tells_words c true told) clear.words)
  node_status Done (inr (inl (j, asks, written)), kept) = absurd (keys_or_node c.words j k asks clear.words)
  node_status Done (inr (inr (inl (j, summary, asks, storms, written))), kept) = absurd (storm_or_node c.words j k asks clear.words)
  node_status Done (inr (inr (inr served)), kept) = inl (refl, served)
  node_status Broken (inl told, kept) = absurd (input_or_node c.words k (tells_words c false told) clear.words)
  node_status Broken (inr (j, summary, asks, storms, written), kept) = absurd (storm_or_node c.words j k asks clear.words)
  node_status Usage (none, kept, said) = absurd (not_none c.words (command.Node k) clear.words none)
  node_status (Refused r) (inl (bad, kept), said) = absurd (input_or_node c.words k (bad_words c r bad) clear.words)
  node_status (Refused r) (inr (j, asks, ((text, input, refused), untouched)), said) = absurd (not_refused text r input refused)
  node_status ReadFault (inl (words, rose, kept), said) = absurd (clear.read rose)
  node_status ReadFault (inr (j, asks, (rose, untouched)), said) = absurd (clear.read rose)
  node_status WriteFault (rose, front) = elim rose [
    | inl out ↦ absurd (clear.out out.0)
    | inr err ↦ absurd (clear.err err)
  ]
  node_status LinkFault ((j, asks, (text, input, stopped)), said) =
      let node = stopped.node in
      absurd (clear.link (link_rose node.keys.me node.keys node.commands (call_of j c) no_crash stopped.fault))
  node_status (Limit Bytes) (inl (words, long, kept), said) = absurd (input_or_node c.words k words clear.words)
  node_status (Limit Bytes) (inr (j, asks, (long, untouched)), said) = absurd (not_too_long c.met.input.before.left clear.text clear.input clear.short long)
  node_status (Limit Events) (words, input, kept, said) = absurd (replay_or_node c.words k words clear.words)
  node_status (Limit Packets) (inl (words, input), kept, said) = absurd (replay_or_node c.words k words clear.words)
  node_status (Limit Packets) (inr (j, asks, passes), kept, said) = absurd (storm_or_node c.words j k asks clear.words)
  node_status (TurnsSpent n) ((j, asks, (text, input, stopped)), said) =
      inr (inl (refl, is_clients text n (call_of j c) input stopped, (n, (j, asks, (text, input, stopped)))))
  node_status OutOfMemory cause = inr (inr refl)
  node_status DiskFault never = absurd never
  node_status (JournalRefused n) never = absurd never
  node_status ChildFault never = absurd never

-- ---- a node that stopped

stopped_status : (c : Call) (k : NodeCommand) (why : Stop) → AsksNode c.words k → StopCause why c.met.input (call_of k c) → HasFront c → Says (stop_status why) c.met.err → StatusCause (stop_status why) c
stopped_status c k stop.Read asks cause front said = (inr (k, asks, cause), said)
stopped_status c k stop.TooLong asks cause front said = (inr (k, asks, cause), said)
stopped_status c k (stop.Refused r) asks cause front said = (inr (k, asks, cause), said)
stopped_status c k (stop.Serving serving.LinkFailed) asks cause front said = ((k, asks, cause), said)
stopped_status c k (stop.Serving serving.WriteFailed) asks (text, input, stopped) front said =
    let node = stopped.node in
    (inl (out_rose node.keys.me node.keys node.commands (call_of k c) no_crash stopped.fault, said), front)
-- where nothing is kept nothing fails
stopped_status c k (stop.Serving serving.KeepFailed) asks (text, input, stopped) front said =
    let node = stopped.node in
    let rose : Rose 0 0 = keep_rose node.keys.me node.keys node.commands (call_of k c) no_crash stopped.fault in
    absurd (omega (arith, rose))
stopped_status c k (stop.Serving serving.OutOfMemory) asks cause front said = (front, inl said)
stopped_status c k (stop.Serving (serving.TurnsSpent n)) asks cause front said = ((k, asks, cause), said)
stopped_status c k stop.Disk asks cause front said = absurd cause
stopped_status c k (stop.Journal n) asks cause front said = absurd cause
stopped_status c k stop.OutOfMemory asks cause front said = (front, inl said)

-- and that was to be said
pub stop_settled : (c : Call) (k : NodeCommand) (r : Status) (why : Stop) → Settles r (stop_status why) c.met.err → AsksNode c.words k
    → StopCause why c.met.input (call_of k c) → StatusCause r c
stop_settled c k r why how asks cause =
    let front : HasFront c = inr (inr (inr (inr (why, (k, asks, cause))))) in
    settled c r (stop_status why) how (stopped_status c k why asks cause front) front
