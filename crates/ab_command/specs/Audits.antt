-- Audits of the input, and why one has no report.
use Rattle.std.specs.Prelude.{◌≡◌, ⊤, ℕ, Option, List, Err}
use Rattle.ab_io.specs.Causes.{Rose}
use Rattle.ab_text.specs.Lines.{lines_of}
use Rattle.ab_key_text.specs.declared.fault.NodeFault.{NodeFault}
use Rattle.ab_key_text.specs.declared.fault.NodeFault.TheVariants as text_fault
use Rattle.ab_audit_text.specs.Texts.{audit_in}
use Rattle.ab_replay.specs.declared.refusal.RefusalCause.TheVariants.{BadLine, NoEnd}
use Rattle.ab_replay.specs.declared.refusal.Refusal.{Refusal}
use Rattle.ab_replay.specs.declared.fault.ReplayFault.{ReplayFault}
use Rattle.ab_replay.specs.declared.fault.ReplayFault.TheVariants as replaying
use Rattle.ab_replay.specs.Streams.{IsTooLong}
use Rattle.ab_command.specs.Endings.{HasInput}

abbrev pub fault_of_audit : NodeFault → ReplayFault
fault_of_audit (text_fault.BadLine n) = replaying.Refused (record { line = n; cause = BadLine })
fault_of_audit (text_fault.NoEnd n) = replaying.Refused (record { line = n; cause = NoEnd })
fault_of_audit text_fault.OutOfMemory = replaying.OutOfMemory

-- a line is out of form or missing
pub record IsNoAudit (text : List ℕ) (r : Refusal) : Type 0 where
  pub fault : NodeFault
  pub reads : audit_in (lines_of text) ≡ Err fault
  pub refuses : fault_of_audit fault ≡ replaying.Refused r

-- when each fault of an audit of an input comes: by what was left of it, and its count of faults
abbrev pub AuditCause : ReplayFault → Option (List ℕ) → ℕ → ℕ → Type 0
AuditCause (replaying.Refused r) left before now = HasInput (λ text. IsNoAudit text r) left
AuditCause replaying.TooManyEvents left before now = ⊥
AuditCause replaying.TooManyPackets left before now = ⊥
AuditCause replaying.OutOfMemory left before now = ⊤
AuditCause replaying.Read left before now = Rose before now
AuditCause replaying.TooLong left before now = IsTooLong left

-- the same of a text that is there
abbrev pub TextCause : ReplayFault → List ℕ → Type 0
TextCause (replaying.Refused r) text = IsNoAudit text r
TextCause replaying.TooManyEvents text = ⊥
TextCause replaying.TooManyPackets text = ⊥
TextCause replaying.OutOfMemory text = ⊤
TextCause replaying.Read text = ⊥
TextCause replaying.TooLong text = ⊥
