-- An audit: keys, and what is kept of the messages so far.
use Rattle.std.specs.Prelude.{ℕ, ◌+◌, List, [], ◌∷◌, flat_map, Option, Some, None, Result, Ok, Err, Bool, not}
use Rattle.std.specs.List.{filter}
use Rattle.std.specs.List.Sorted.{IsPermutation, IsNonDecreasingBy}
use Rattle.ab_form.specs.declared.bad.Bad.{Bad}
use Rattle.ab_msg.specs.declared.message.Msg.{Msg}
use Rattle.ab_check.specs.Checks.{Check}
use Rattle.ab_open.specs.Messages.{message_of}
use Rattle.ab_sign.specs.declared.key.SignKey.{SignKey}
use Rattle.ab_audit.specs.declared.accusation.Accusation.{Accusation}
use Rattle.ab_audit.specs.declared.added.Added.{Added}
use Rattle.ab_audit.specs.declared.added.Added.TheVariants as added
use Rattle.ab_audit.specs.declared.kept.Found.{Found}
use Rattle.ab_audit.specs.Statements.{signed_at}
use Rattle.ab_audit.specs.Accusations.{found_as, found_by, rank}
use Rattle.ab_audit.specs.Kept.{Kept, Note, is_known, keep_all, note_at, note_in, nothing}

pub record Auditing : Type 0 where
  pub keys : List SignKey
  pub kept : Kept

-- no message has come
abbrev pub begun : List SignKey → Auditing
begun keys = record { keys = keys; kept = nothing }

-- the message of this number comes, or bytes that are none
abbrev pub told : Auditing → ℕ → Result Msg Bad → Auditing
told a n read = record a { kept = keep_all a.kept (flat_map (note_at n) (found_as a.keys read)) }

-- messages come, of which the first has this number
abbrev pub told_from : Auditing → ℕ → List (List ℕ) → Auditing
told_from a n [] = a
told_from a n (bytes ∷ inputs) = told_from (told a n (message_of bytes)) (n + 1) inputs

abbrev pub told_all : Auditing → List (List ℕ) → Auditing
told_all a inputs = told_from a 1 inputs

-- what is answered of bytes
abbrev pub answer_to : Result Msg Bad → Added
answer_to (Ok m) = added.Taken
answer_to (Err bad) = added.Bad bad

-- these are the accused, in the order in which they are told
pub record IsToldOf (accused listed : List Accusation) : Type 0 where
  pub each : IsPermutation accused listed
  pub rising : IsNonDecreasingBy rank listed

-- ---- of one message

-- the notes of what is found by a check
abbrev pub check_notes : List SignKey → ℕ → Check → List Note
check_notes keys n k = flat_map (note_at n) (flat_map (found_by keys) (signed_at k))

abbrev pub is_new : Kept → Note → Bool
is_new k n = not (is_known k n.0 n.1.text)

-- those of them that tell something new
abbrev pub news_of : Auditing → ℕ → Check → List Note
news_of a n k = filter (is_new a.kept) (check_notes a.keys n k)

abbrev pub option_note : Option (Accusation × Found) → List Note
option_note None = []
option_note (Some e) = note_in e ∷ []
