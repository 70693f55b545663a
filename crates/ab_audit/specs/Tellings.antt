-- What is told of the text of an audit.
use Rattle.std.specs.Prelude.{◌≡◌, ◌↔◌, ℕ, List, [], Bool, true, false, IsTrue, Result, Ok, Err, Contains, count_by, length, map}
use Rattle.std.specs.List.{IsDistinct}
use Rattle.std.specs.List.Sorted.{IsNonDecreasingBy}
use Rattle.ab_form.specs.declared.bad.Bad.{Bad}
use Rattle.ab_msg.specs.declared.message.Msg.{Msg}
use Rattle.ab_open.specs.Messages.{message_of}
use Rattle.ab_sign.specs.declared.key.SignKey.{SignKey}
use Rattle.ab_sign.specs.declared.key.SignKey.TheVariants.{Public}
use Rattle.ab_text.specs.Lines.{lines_of}
use Rattle.ab_audit_text.specs.Texts.{AuditText, audit_in}
use Rattle.ab_audit.specs.declared.accusation.Accusation.{Accusation}
use Rattle.ab_audit.specs.Accusations.{IsAccused, accusation_eq, rank}
use Rattle.ab_audit.specs.Exhibits.{evidence}
use Rattle.ab_audit.specs.Kept.{Finding, finding_of}
use Rattle.ab_audit.specs.Reports.{report_text}

abbrev pub is_none : Result Msg Bad → Bool
is_none (Ok m) = false
is_none (Err bad) = true

-- the bytes are no message
abbrev pub is_bad : List ℕ → Bool
is_bad bytes = is_none (message_of bytes)

abbrev pub keys_in : AuditText → List SignKey
keys_in t = map Public t.publics

-- by the messages of the text this is an accusation
abbrev pub IsAccusedIn : AuditText → Accusation → Type 0
IsAccusedIn t a = IsAccused (keys_in t) t.messages a

-- these are all accusations, each once: by replica, then ABORTs before PREPAREs, then by instance, view and slot
pub record AreAllOf (t : AuditText) (listed : List Accusation) : Type 0 where
  pub exact : (a : Accusation) → Contains listed a ↔ IsAccusedIn t a
  pub once : IsDistinct accusation_eq listed
  pub rising : IsNonDecreasingBy rank listed

-- someone is accused
abbrev pub Accuses : AuditText → Type 0
Accuses t = (a : Accusation) × IsAccusedIn t a

-- what stands behind an accusation: what shows it, if the report tells why
abbrev pub told_why : Bool → AuditText → Accusation → List Finding
told_why false t a = []
told_why true t a = map finding_of (evidence (keys_in t) t.messages a)

-- the text is that of an audit, this is its report, which may tell why, and it says whether someone is accused
pub record Audits (why : Bool) (text report : List ℕ) (accuses : Bool) : Type 0 where
  pub audit : AuditText
  pub reads : audit_in (lines_of text) ≡ Ok audit
  pub listed : List Accusation
  pub accused : AreAllOf audit listed
  pub reports : report ≡ report_text (told_why why audit) listed (length audit.messages) (count_by is_bad audit.messages)
  pub says : IsTrue accuses ↔ Accuses audit
