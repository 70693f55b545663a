-- What follows from the causes of an audit's statuses, and that what was to be said or written of an audit has its cause.
use Rattle.std.proofs.Common.{◌≡◌, ℕ, List, Bool, true, false, not, Result, Ok, Err, refl, sym, ap, ◌∙◌, subst, inl, inr, if◌then◌else◌}
use Rattle.ab_text.specs.Lines.{lines_of}
use Rattle.ab_key_text.specs.declared.fault.NodeFault.{NodeFault}
use Rattle.ab_audit_text.specs.Texts.{AuditText, audit_in}
use Rattle.ab_audit.specs.Tellings.{Accuses, Audits}
use Rattle.ab_words.specs.declared.command.Command.TheVariants as command
use Rattle.ab_replay.specs.declared.refusal.Refusal.{Refusal}
use Rattle.ab_replay.specs.declared.fault.ReplayFault.{ReplayFault}
use Rattle.ab_replay.specs.declared.fault.ReplayFault.TheVariants as replaying
use Rattle.ab_replay.specs.Streams.{IsInput}
use Rattle.ab_command.specs.declared.status.Bound.TheVariants.{Bytes, Events, Packets}
use Rattle.ab_command.specs.declared.status.Status.{Status}
use Rattle.ab_command.specs.declared.status.Status.TheVariants.{Done, Broken, Usage, Refused, ReadFault, WriteFault, LinkFault, Limit, TurnsSpent, OutOfMemory, DiskFault, JournalRefused, ChildFault}
use Rattle.ab_command.specs.Audits.{AuditCause, IsNoAudit}
use Rattle.ab_command.specs.Calls.{Call}
use Rattle.ab_command.specs.Commands.{AsksAudit, IsAudit}
use Rattle.ab_command.specs.Endings.{HasInput, Says, Settles, WritesOrSays}
use Rattle.ab_command.specs.Outputs.{IsKept}
use Rattle.ab_command.specs.Statuses.{HasAudit, IsClearForAudit, IsVerdict, StatusCause}
use Rattle.ab_command.specs.Texts.{code_of, fault_status}
use Rattle.ab_command.proofs.StatusLemmas.{audit_or_keys, audit_or_node, audit_or_storm, not_none, not_too_long, replay_or_audit, same_input, settled, text_told}

module _ (c : Call) (clear : IsClearForAudit c) where
  read_as : (text : List ℕ) (r : Result AuditText NodeFault) → IsInput c.met.input.before.left text → audit_in (lines_of text) ≡ r → Ok clear.audit ≡ r
  read_as text r input reads = sym clear.reads ∙ (ap (λ (t : List ℕ). audit_in (lines_of t)) (sym (same_input c.met.input.before.left clear.text text clear.input input)) ∙ reads)

  not_refused : (text : List ℕ) (r : Refusal) → IsInput c.met.input.before.left text → IsNoAudit text r → ⊥
  not_refused text r input bad = let e : ◌≡◌ {A = Result AuditText NodeFault} (Ok clear.audit) (Err bad.fault) = read_as text (Err bad.fault) input bad.reads in cc

  -- what was audited is what the input tells
  same_audit : (why : Bool) (text report : List ℕ) (accuses : Bool) → IsInput c.met.input.before.left text → (audits : Audits why text report accuses) → audits.audit ≡ clear.audit
  same_audit why text report accuses input audits = let e : ◌≡◌ {A = Result AuditText NodeFault} (Ok clear.audit) (Ok audits.audit) = read_as text (Ok audits.audit) input audits.reads in cc

  nobody : HasAudit false c → IsVerdict 0 clear.audit
  nobody (why, report, asks, (text, input, audits), got) =
      inl (refl, λ a. let e : false ≡ true = audits.says.1 (subst Accuses (sym (same_audit why text report false input audits)) a) in cc)

  someone : HasAudit true c → IsVerdict 1 clear.audit
  someone (why, report, asks, (text, input, audits), got) = inr (inl (refl, subst Accuses (same_audit why text report true input audits) (audits.says.0 refl)))

  pub audit_status : (s : Status) → StatusCause s c → IsVerdict (code_of s) clear.audit
  audit_status Done (inl (inl (words, report)), kept) = absurd (replay_or_audit c.words words clear.words)
  audit_status Done (inl (inr report), kept) = nobody report
  audit_status Done (inr (inl (k, asks, written)), kept) = absurd (audit_or_keys c.words k clear.words asks)
  audit_status Done (inr (inr (inl (k, summary, asks, storms, written))), kept) = absurd (audit_or_storm c.words k clear.words asks)
  audit_status Done (inr (inr (inr (k, asks, served))), kept) = absurd (audit_or_node c.words k clear.words asks)
  audit_status Broken (inl (inl (words, report)), kept) = absurd (replay_or_audit c.words words clear.words)
  audit_status Broken (inl (inr report), kept) = someone report
  audit_status Broken (inr (k, summary, asks, storms, written), kept) = absurd (audit_or_storm c.words k clear.words asks)
  audit_status Usage (none, kept, said) = absurd (not_none c.words (command.Audit clear.words.0) clear.words.1 none)
  audit_status (Refused r) (inl (inl (words, input), kept), said) = absurd (replay_or_audit c.words words clear.words)
  audit_status (Refused r) (inl (inr (words, (text, input, bad)), kept), said) = absurd (not_refused text r input bad)
  audit_status (Refused r) (inr (k, asks, why), said) = absurd (audit_or_node c.words k clear.words asks)
  audit_status ReadFault (inl (words, rose, kept), said) = absurd (clear.read rose)
  audit_status ReadFault (inr (k, asks, why), said) = absurd (audit_or_node c.words k clear.words asks)
  audit_status WriteFault (rose, front) = elim rose [
    | inl out ↦ absurd (clear.out out.0)
    | inr err ↦ absurd (clear.err err)
  ]
  audit_status LinkFault ((k, asks, why), said) = absurd (audit_or_node c.words k clear.words asks)
  audit_status (Limit Bytes) (inl (words, long, kept), said) = absurd (not_too_long c.met.input.before.left clear.text clear.input clear.short long)
  audit_status (Limit Bytes) (inr (k, asks, why), said) = absurd (audit_or_node c.words k clear.words asks)
  audit_status (Limit Events) (words, input, kept, said) = absurd (replay_or_audit c.words words clear.words)
  audit_status (Limit Packets) (inl (words, input), kept, said) = absurd (replay_or_audit c.words words clear.words)
  audit_status (Limit Packets) (inr (k, asks, passes), kept, said) = absurd (audit_or_storm c.words k clear.words asks)
  audit_status (TurnsSpent n) ((k, asks, why), said) = absurd (audit_or_node c.words k clear.words asks)
  audit_status OutOfMemory cause = inr (inr refl)
  audit_status DiskFault never = absurd never
  audit_status (JournalRefused n) never = absurd never
  audit_status ChildFault never = absurd never

audited_whole : (c : Call) (accuses : Bool) → HasAudit accuses c → IsKept c.met.err → StatusCause (if not accuses then Done else Broken) c
audited_whole c true report kept = (inl (inr report), kept)
audited_whole c false report kept = (inl (inr report), kept)

-- a report that was to be written
pub audit_told : (c : Call) (r s : Status) (why : Bool) (report : List ℕ) (accuses : Bool) → WritesOrSays r s report c.met.out c.met.err → s ≡ (if not accuses then Done else Broken) → AsksAudit c.words why
    → HasInput (λ text. Audits why text report accuses) c.met.input.before.left → StatusCause r c
audit_told c r s why report accuses how is asks input =
    text_told c r s report how
    (λ got kept. subst (λ (x : Status). StatusCause x c) (sym is) (audited_whole c accuses (why, report, asks, input, got) kept))
    (λ part. inr (inl (inr (why, report, accuses, asks, input, part))))

fault_said : (c : Call) (fault : ReplayFault) → IsAudit c.words → AuditCause fault c.met.input.before.left c.met.input.before.faults c.met.input.after.faults → IsKept c.met.out → Says (fault_status fault) c.met.err → StatusCause (fault_status fault) c
fault_said c replaying.Read audit rose kept said = (inl (inr audit, rose, kept), said)
fault_said c replaying.TooLong audit long kept said = (inl (inr audit, long, kept), said)
fault_said c (replaying.Refused r) audit refused kept said = (inl (inr (audit, refused), kept), said)
fault_said c replaying.TooManyEvents audit never kept said = absurd never
fault_said c replaying.TooManyPackets audit never kept said = absurd never
fault_said c replaying.OutOfMemory audit cause kept said = (inl kept, inl said)

-- why there is no report
pub audit_settled : (c : Call) (r : Status) (fault : ReplayFault) → Settles r (fault_status fault) c.met.err → IsAudit c.words
    → AuditCause fault c.met.input.before.left c.met.input.before.faults c.met.input.after.faults → IsKept c.met.out → StatusCause r c
audit_settled c r fault how audit cause kept = settled c r (fault_status fault) how (fault_said c fault audit cause kept) (inl kept)
