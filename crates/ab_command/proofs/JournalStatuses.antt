-- What was to be said of a node with a journal has its cause, and what follows from the causes of its statuses.
use Rattle.std.proofs.Common.{◌≡◌, ◌⊎◌, ℕ, ◌≤◌, List, Option, Result, Some, Ok, Err, true, IfSome, refl, sym, ap, ◌∙◌, subst, inl, inr, arith}
use Rattle.ab_num.specs.declared.party.Party.{Party}
use Rattle.ab_num.specs.declared.party.Party.TheVariants.{Replica, Client}
use Rattle.ab_io.specs.Causes.{Rose}
use Rattle.ab_io.specs.States.{LinkState, SinkState}
use Rattle.ab_text.specs.Lines.{lines_of}
use Rattle.ab_key_text.specs.declared.fault.NodeFault.{NodeFault}
use Rattle.ab_key_text.specs.Nodes.{NodeText, node_in}
use Rattle.ab_words.specs.Commands.{NodeCommand}
use Rattle.ab_loop.specs.declared.fault.ServeFault.{ServeFault}
use Rattle.ab_loop.specs.declared.fault.ServeFault.TheVariants as serving
use Rattle.ab_loop.specs.Edges.{Counted, Edge}
use Rattle.ab_loop.specs.Nodes.{is_client}
use Rattle.ab_replay.specs.declared.refusal.Refusal.{Refusal}
use Rattle.ab_replay.specs.Streams.{IsInput}
use Rattle.ab_node.specs.declared.stop.Stop.{Stop}
use Rattle.ab_node.specs.declared.stop.Stop.TheVariants as stop
use Rattle.ab_node.specs.Nodes.{IsRefused, IsStopped, NodeCall}
use Rattle.ab_node.specs.Journals.{IsStoppedOn, JournalCrash, Refuses, Resumes}
use Rattle.ab_command.specs.declared.status.Bound.TheVariants.{Bytes, Events, Packets}
use Rattle.ab_command.specs.declared.status.Status.{Status}
use Rattle.ab_command.specs.declared.status.Status.TheVariants.{Done, Broken, Usage, Refused, ReadFault, WriteFault, LinkFault, Limit, TurnsSpent, OutOfMemory, DiskFault, JournalRefused, ChildFault}
use Rattle.ab_command.specs.Endings.{Says, Settles}
use Rattle.ab_command.specs.Journals.{DiskCall, HasJournalCauseOf, HasNodeFront, IsClearOnDisk, IsServedOutOn, JournalStatusCause, StopsOn, on_disk}
use Rattle.ab_command.specs.Texts.{code_of, stop_status}
use Rattle.ab_command.proofs.NodeStatuses.{keep_rose, leaves_as_client, link_rose, out_rose}
use Rattle.ab_command.proofs.Settled.{settled_as}
use Rattle.ab_command.proofs.StatusLemmas.{not_too_long, same_input}

-- ---- a node that stopped

module _ (k : NodeCommand) (c : DiskCall) (crash : JournalCrash) where
  -- a count that rose from a later one rose
  rose_from : (first before now : ℕ) → first ≤ before → Rose before now → Rose first now
  rose_from first before now later rose = omega (arith, later, rose)

  stopped_link : (text : List ℕ) → IsStoppedOn text (on_disk k c) crash serving.LinkFailed → Rose c.call.met.link.before.faults c.call.met.link.after.faults
  stopped_link text stopped =
      let node = stopped.fault.node in
      let rose = link_rose node.keys.me node.keys node.commands stopped.node _ stopped.fault.fault in
      subst (λ (l : LinkState). Rose l.faults c.call.met.link.after.faults) stopped.resumes.link (subst (λ (e : Edge). Rose stopped.node.old.link.faults e.link.faults) stopped.resumes.new rose)

  stopped_out : (text : List ℕ) → IsStoppedOn text (on_disk k c) crash serving.WriteFailed → Rose c.call.met.out.before.faults c.call.met.out.after.faults
  stopped_out text stopped =
      let node = stopped.fault.node in
      let rose = out_rose node.keys.me node.keys node.commands stopped.node _ stopped.fault.fault in
      subst (λ (o : SinkState). Rose o.faults c.call.met.out.after.faults) stopped.resumes.out (subst (λ (e : Edge). Rose stopped.node.old.out.faults e.out.faults) stopped.resumes.new rose)

  stopped_disk : (text : List ℕ) → IsStoppedOn text (on_disk k c) crash serving.KeepFailed → Rose c.disk.before.faults c.disk.after.faults
  stopped_disk text stopped =
      let node = stopped.fault.node in
      let rose = keep_rose node.keys.me node.keys node.commands stopped.node _ stopped.fault.fault in
      rose_from c.disk.before.faults stopped.node.old.keep.faults c.disk.after.faults stopped.resumes.later
      (subst (λ (e : Edge). Rose stopped.node.old.keep.faults e.keep.faults) stopped.resumes.new rose)

  stopped_status : (why : Stop) → StopsOn why k c crash → HasNodeFront k c crash → Says (stop_status why) c.call.met.err → JournalStatusCause (stop_status why) k c crash
  stopped_status stop.Read cause front said = (cause, said)
  stopped_status stop.TooLong cause front said = (cause, said)
  stopped_status (stop.Refused r) cause front said = (cause, said)
  stopped_status (stop.Serving serving.LinkFailed) cause front said = (cause, said)
  stopped_status (stop.Serving serving.WriteFailed) (text, input, stopped) front said = (inl (stopped_out text stopped, said), front)
  stopped_status (stop.Serving serving.KeepFailed) cause front said = (inr cause, said)
  stopped_status (stop.Serving serving.OutOfMemory) cause front said = (front, inl said)
  stopped_status (stop.Serving (serving.TurnsSpent n)) cause front said = (cause, said)
  stopped_status stop.Disk cause front said = (inl cause, said)
  stopped_status (stop.Journal n) cause front said = (cause, said)
  stopped_status stop.OutOfMemory cause front said = (front, inl said)

  -- and that was to be said
  pub journal_settled : (r : Status) (why : Stop) → Settles r (stop_status why) c.call.met.err → StopsOn why k c crash → JournalStatusCause r k c crash
  journal_settled r why how cause =
      let front : HasNodeFront k c crash = inr (why, cause) in
      settled_as (λ s. JournalStatusCause s k c crash) r (stop_status why) c.call.met.err how (stopped_status why cause front) (λ rose. (inr rose, front)) (λ says. (front, says))

  -- ---- what follows

  ten : (s : Status) → JournalStatusCause s k c crash → 10 ≡ code_of s → Rose c.disk.before.faults c.disk.after.faults
  ten Done cause e = absurd (cc)
  ten Broken cause e = absurd (cc)
  ten Usage cause e = absurd (cc)
  ten (Refused r) cause e = absurd (cc)
  ten ReadFault cause e = absurd (cc)
  ten WriteFault cause e = absurd (cc)
  ten LinkFault cause e = absurd (cc)
  ten (Limit b) cause e = absurd (cc)
  ten (TurnsSpent n) cause e = absurd (cc)
  ten OutOfMemory cause e = absurd (cc)
  ten DiskFault (inl failed, said) e = failed.0
  ten DiskFault (inr (text, input, stopped), said) e = stopped_disk text stopped
  ten (JournalRefused n) cause e = absurd (cc)
  ten ChildFault cause e = absurd (cc)

  module _ (clear : IsClearOnDisk c) where
    read_as : (text : List ℕ) (r : Result NodeText NodeFault) → IsInput c.call.met.input.before.left text → node_in (lines_of text) ≡ r → Ok clear.node ≡ r
    read_as text r input reads = sym clear.reads ∙ (ap (λ (t : List ℕ). node_in (lines_of t)) (sym (same_input c.call.met.input.before.left clear.text text clear.input input)) ∙ reads)

    not_refused : (text : List ℕ) (r : Refusal) → IsInput c.call.met.input.before.left text → IsRefused text r → ⊥
    not_refused text r input refused = let e : ◌≡◌ {A = Result NodeText NodeFault} (Ok clear.node) (Err refused.fault) = read_as text (Err refused.fault) input refused.reads in cc

    not_foreign : (text : List ℕ) (n : ℕ) → IsInput c.call.met.input.before.left text → Refuses c.disk.before text n → ⊥
    not_foreign text n input refuses =
        clear.journal n (subst (λ (t : List ℕ). Refuses c.disk.before t n) (same_input c.call.met.input.before.left clear.text text clear.input input) refuses)

    is_clients : (text : List ℕ) (n : ℕ) → IsInput c.call.met.input.before.left text → IsStoppedOn text (on_disk k c) crash (serving.TurnsSpent n) → is_client clear.node.keys.me ≡ true
    is_clients text n input stopped =
        let node = stopped.fault.node in
        let e : ◌≡◌ {A = Result NodeText NodeFault} (Ok clear.node) (Ok node) = read_as text (Ok node) input stopped.fault.reads in
        let same : node ≡ clear.node = cc in
        subst (λ (m : NodeText). is_client m.keys.me ≡ true) same (leaves_as_client node.keys.me node.keys node.commands stopped.node _ n stopped.fault.fault)

    served_out : (s : Status) → JournalStatusCause s k c crash → IsServedOutOn (code_of s) clear.node k c crash
    served_out Done (served, kept) = inl (refl, served)
    served_out Broken never = absurd never
    served_out Usage never = absurd never
    served_out (Refused r) (((text, input, refused), untouched), said) = absurd (not_refused text r input refused)
    served_out ReadFault ((rose, untouched), said) = absurd (clear.read rose)
    served_out WriteFault (rose, front) = elim rose [
      | inl out ↦ absurd (clear.out out.0)
      | inr err ↦ absurd (clear.err err)
    ]
    served_out LinkFault ((text, input, stopped), said) = absurd (clear.link (stopped_link text stopped))
    served_out (Limit Bytes) ((long, untouched), said) = absurd (not_too_long c.call.met.input.before.left clear.text clear.input clear.short long)
    served_out (Limit Events) never = absurd never
    served_out (Limit Packets) never = absurd never
    served_out (TurnsSpent n) ((text, input, stopped), said) = inr (inl (refl, is_clients text n input stopped, (n, (text, input, stopped))))
    served_out OutOfMemory cause = inr (inr refl)
    served_out DiskFault (inl failed, said) = absurd (clear.disk failed.0)
    served_out DiskFault (inr (text, input, stopped), said) = absurd (clear.disk (stopped_disk text stopped))
    served_out (JournalRefused n) (((text, input, refuses), silent), said) = absurd (not_foreign text n input refuses)
    served_out ChildFault never = absurd never

-- the number of a status that has its cause
pub journal_answers : (n : ℕ) (k : NodeCommand) (c : DiskCall) (crash : JournalCrash) (s : Status) → n ≡ code_of s → JournalStatusCause s k c crash → HasJournalCauseOf n k c crash
journal_answers n k c crash s code cause = record {
  status = s;
  code = code;
  cause = cause;
  failed = λ is. ten k c crash s cause (sym is ∙ code);
  complete = λ clear. subst (λ (m : ℕ). IsServedOutOn m clear.node k c crash) (sym code) (served_out k c crash clear s cause);
}
