-- What is kept of statements.
use Rattle.std.specs.Prelude.{ℕ, List, [], ◌∷◌, ◌++◌, map, fold, Bool, false, ◌||◌, if◌then◌else◌, Option, Some, None, is_some}
use Rattle.std.specs.Borrow.{Bor}
use Rattle.std.specs.Option.{option_to_list}
use Rattle.std.specs.Str.{bytes_eq}
use Rattle.std.specs.Map.{lookup}
use Rattle.ab_msg.specs.declared.content.Content.{Content}
use Rattle.ab_msg.specs.Contents.{spell_content}
use Rattle.ab_audit.specs.declared.accusation.Accusation.{Accusation}
use Rattle.ab_audit.specs.declared.kept.Found.{Found}
use Rattle.ab_audit.specs.Accusations.{accusation_eq, subject_of}
use Rattle.ab_audit.specs.Exhibits.{Exhibit, exhibit, words_of}

-- the number of a message, the bytes of a content that is found in it, and the content in words
pub record Finding : Type 0 where
  pub number : ℕ
  pub text : List ℕ
  pub words : List ℕ

abbrev pub finding_of : Exhibit → Finding
finding_of e = record { number = e.number; text = spell_content e.content; words = words_of e.content }

-- a subject, and a finding about it
abbrev pub Note : Type 0
Note = Accusation × Finding

abbrev pub noted : Finding → Option Accusation → List Note
noted f None = []
noted f (Some a) = (a, f) ∷ []

-- the note of what is found, if it has a subject
abbrev pub note_of : Exhibit → List Note
note_of e = noted (finding_of e) (subject_of e.content)

abbrev pub note_at : ℕ → Content → List Note
note_at n c = note_of (exhibit n c)

-- the first finding about each subject, and the first one with other bytes
pub record Kept : Type 0 where
  pub first : List Note
  pub others : List Note

abbrev pub nothing : Kept
nothing = record { first = []; others = [] }

abbrev pub first_of : Kept → Accusation → Option Finding
first_of k a = lookup (accusation_eq a) k.first

abbrev pub other_of : Kept → Accusation → Option Finding
other_of k a = lookup (accusation_eq a) k.others

-- the subjects about which there are others
abbrev pub accused_in : Kept → List Accusation
accused_in k = map (λ n. n.0) k.others

-- what shows an accusation
abbrev pub shown_in : Kept → Accusation → List Finding
shown_in k a = option_to_list (first_of k a) ++ option_to_list (other_of k a)

-- the same, if the report tells why
abbrev pub shown_if : Bool → Kept → Accusation → List Finding
shown_if why k a = if why then shown_in k a else []

abbrev pub is_text : List ℕ → Option Finding → Bool
is_text text None = false
is_text text (Some known) = bytes_eq known.text text

-- these bytes about a subject tell nothing that isn't known
abbrev pub is_known : Kept → Accusation → List ℕ → Bool
is_known k a text = is_some (other_of k a) || is_text text (first_of k a)

abbrev pub keep_beside : Kept → Note → Option Finding → Kept
keep_beside k n None = record k { first = k.first ++ n ∷ [] }
keep_beside k n (Some known) = record k { others = k.others ++ n ∷ [] }

-- one more note
abbrev pub keep : Kept → Note → Kept
keep k n = if is_known k n.0 n.1.text then k else keep_beside k n (first_of k n.0)

abbrev pub keep_all : Kept → List Note → Kept
keep_all k notes = fold keep k notes

-- ---- in maps

abbrev pub finding : Found → Finding
finding f = record { number = f.number; text = f.text.items; words = f.words.items }

abbrev pub note_in : Accusation × Found → Note
note_in e = (e.0, finding e.1)

abbrev pub notes_in : List (Accusation × Found) → List Note
notes_in entries = map note_in entries

abbrev pub kept_in : List (Accusation × Found) → List (Accusation × Found) → Kept
kept_in first others = record { first = notes_in first; others = notes_in others }

abbrev pub found_in : Option (Bor Found) → Option Finding
found_in None = None
found_in (Some f) = Some (finding f.now)
