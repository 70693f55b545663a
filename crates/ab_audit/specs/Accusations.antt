-- Statements whose signatures verify, and replicas that contradict themselves by them.
use Rattle.std.specs.Prelude.{◌≡◌, ◌≢◌, ℕ, ◌+◌, ◌*◌, ◌^◌, ◌==◌, Bool, false, ◌&&◌, List, [], ◌∷◌, flat_map, Option, Some, None, Result, Ok, Err, Contains, if◌then◌else◌}
use Rattle.ab_num.specs.declared.party.Party.TheVariants.{Replica, Client}
use Rattle.ab_form.specs.declared.bad.Bad.{Bad}
use Rattle.ab_msg.specs.declared.content.Content.{Content}
use Rattle.ab_msg.specs.declared.content.Content.TheVariants as content
use Rattle.ab_msg.specs.declared.message.Msg.{Msg}
use Rattle.ab_msg.specs.Claims.{maker_of}
use Rattle.ab_msg.specs.Contents.{spell_content}
use Rattle.ab_open.specs.Messages.{message_of}
use Rattle.ab_sign.specs.declared.key.SignKey.{SignKey}
use Rattle.ab_sign.specs.Judges.{is_sig_from}
use Rattle.ab_audit.specs.declared.accusation.Accusation.{Accusation}
use Rattle.ab_audit.specs.declared.accusation.Accusation.TheVariants.{Abort, Prepare}
use Rattle.ab_audit.specs.Statements.{Statement, statements_in}

-- ---- found

-- a content is found by a statement whose signature is its maker's under these keys
abbrev pub found_by : List SignKey → Statement → List Content
found_by keys s = if is_sig_from keys (maker_of s.content) (spell_content s.content) s.sig then s.content ∷ [] else []

abbrev pub found_in : List SignKey → Msg → List Content
found_in keys m = flat_map (found_by keys) (statements_in m)

-- nothing is found in bytes that are no message
abbrev pub found_as : List SignKey → Result Msg Bad → List Content
found_as keys (Ok m) = found_in keys m
found_as keys (Err bad) = []

-- what is found in the bytes of messages, one after the other
abbrev pub found_among : List SignKey → List (List ℕ) → List Content
found_among keys inputs = flat_map (λ bytes. found_as keys (message_of bytes)) inputs

-- ---- accused

-- what a correct replica states once: its ABORT of an instance, whole or trimmed, with or without a certificate of answers, and its PREPARE of a view
-- and a slot
abbrev pub subject_of : Content → Option Accusation
subject_of (content.Req maker i m) = None
subject_of (content.Order maker i n m) = None
subject_of (content.Resp maker i client stamp n d reply) = None
subject_of (content.ChainTag maker i client stamp n d) = None
subject_of (content.Panic maker i) = None
subject_of (content.Abort (Replica r) i h) = Some (Abort r i)
subject_of (content.Abort (Client c) i h) = None
subject_of (content.PrePrepare maker i view slot x) = None
subject_of (content.Prepare (Replica r) i view slot x) = Some (Prepare r i view slot)
subject_of (content.Prepare (Client c) i view slot x) = None
subject_of (content.Commit maker i view slot x) = None
subject_of (content.ViewChange maker i view entries) = None
subject_of (content.NewView maker i view) = None
subject_of (content.Checkpoint maker i n d) = None
subject_of (content.Spec maker i client stamp n d reply) = None
subject_of (content.LocalCommit maker i client stamp n d) = None
subject_of (content.AbortZ (Replica r) i h z) = Some (Abort r i)
subject_of (content.AbortZ (Client c) i h z) = None
subject_of (content.TrimmedAbort (Replica r) i start digest rest) = Some (Abort r i)
subject_of (content.TrimmedAbort (Client c) i start digest rest) = None

-- two different contents are found that a correct replica states once
pub record IsContradicted (found : List Content) (a : Accusation) : Type 0 where
  pub one : Content
  pub other : Content
  pub one_found : Contains found one
  pub other_found : Contains found other
  pub one_subject : subject_of one ≡ Some a
  pub other_subject : subject_of other ≡ Some a
  pub differ : one ≢ other

-- by the messages among these bytes a replica contradicts itself
abbrev pub IsAccused : List SignKey → List (List ℕ) → Accusation → Type 0
IsAccused keys inputs a = IsContradicted (found_among keys inputs) a

-- ---- told

-- by replica, then ABORTs before PREPAREs, then by instance, view and slot
abbrev pub rank : Accusation → ℕ
rank (Abort replica instance) = replica * 2 * 2 ^ 72 + instance * 2 ^ 40
rank (Prepare replica instance view slot) = (replica * 2 + 1) * 2 ^ 72 + instance * 2 ^ 40 + view * 2 ^ 8 + slot

abbrev pub accusation_eq : Accusation → Accusation → Bool
accusation_eq (Abort r i) (Abort s j) = (r == s) && (i == j)
accusation_eq (Prepare r i v k) (Prepare s j w l) = (r == s) && ((i == j) && ((v == w) && (k == l)))
accusation_eq (Abort r i) (Prepare s j w l) = false
accusation_eq (Prepare r i v k) (Abort s j) = false
