-- What shows an accusation: two contents that are found, with the numbers of their messages.
use Rattle.std.specs.Prelude.{◌≡◌, ◌≢◌, ℕ, ◌+◌, Bool, false, not, List, [], ◌∷◌, ◌++◌, map, filter, take, Option, Some, None, Contains, slice_get, codes, decimal}
use Rattle.std.specs.Str.{bytes_eq}
use Rattle.hex.specs.Hex.{encode_lower}
use Rattle.ab_num.specs.declared.party.Party.TheVariants.{Replica}
use Rattle.ab_hist.specs.Requests.{key_of}
use Rattle.ab_text.specs.Reports.{◌then◌, log_line}
use Rattle.ab_msg.specs.declared.content.Content.{Content}
use Rattle.ab_msg.specs.declared.content.Content.TheVariants as content
use Rattle.ab_msg.specs.Contents.{spell_content}
use Rattle.ab_open.specs.Messages.{message_of}
use Rattle.ab_sign.specs.declared.key.SignKey.{SignKey}
use Rattle.ab_audit.specs.declared.accusation.Accusation.{Accusation}
use Rattle.ab_audit.specs.Accusations.{accusation_eq, found_as, subject_of}

-- a content that is found, and the number of its message
pub record Exhibit : Type 0 where
  pub number : ℕ
  pub content : Content

abbrev pub exhibit : ℕ → Content → Exhibit
exhibit n c = record { number = n; content = c }

-- what is found in messages, of which the first has this number
abbrev pub exhibits_from : List SignKey → ℕ → List (List ℕ) → List Exhibit
exhibits_from keys n [] = []
exhibits_from keys n (bytes ∷ inputs) = map (exhibit n) (found_as keys (message_of bytes)) ++ exhibits_from keys (n + 1) inputs

abbrev pub is_subject : Accusation → Option Accusation → Bool
is_subject a None = false
is_subject a (Some b) = accusation_eq a b

abbrev pub is_about : Accusation → Exhibit → Bool
is_about a e = is_subject a (subject_of e.content)

-- they have different contents
abbrev pub is_other : Exhibit → Exhibit → Bool
is_other e f = not (bytes_eq (spell_content e.content) (spell_content f.content))

-- the first, and the first one with another content
abbrev pub first_two : List Exhibit → List Exhibit
first_two [] = []
first_two (e ∷ es) = e ∷ take 1 (filter (is_other e) es)

-- what shows an accusation among these messages, whose numbers begin with 1
abbrev pub evidence : List SignKey → List (List ℕ) → Accusation → List Exhibit
evidence keys inputs a = first_two (filter (is_about a) (exhibits_from keys 1 inputs))

-- ---- what it means

-- its content is found in the message of its number, and is about a
pub record IsExhibit (keys : List SignKey) (inputs : List (List ℕ)) (a : Accusation) (e : Exhibit) : Type 0 where
  pub index : ℕ
  pub number : e.number ≡ index + 1
  pub bytes : List ℕ
  pub message : slice_get inputs index ≡ Some bytes
  pub found : Contains (found_as keys (message_of bytes)) e.content
  pub about : subject_of e.content ≡ Some a

-- they are two, with different contents
pub record Contradict (keys : List SignKey) (inputs : List (List ℕ)) (a : Accusation) (es : List Exhibit) : Type 0 where
  pub one : Exhibit
  pub other : Exhibit
  pub are : es ≡ one ∷ other ∷ []
  pub one_is : IsExhibit keys inputs a one
  pub other_is : IsExhibit keys inputs a other
  pub differ : one.content ≢ other.content

-- ---- in words

-- how many entries of a log are trimmed, and their digest
abbrev pub trimmed_line : ℕ → List ℕ → List ℕ
trimmed_line start digest = codes "trimmed " then decimal start then codes " " then encode_lower digest then codes "\n"

-- the log that an ABORT states, behind what is trimmed of it, or the digest that a PREPARE states
abbrev pub words_of : Content → List ℕ
words_of (content.Abort (Replica r) i h) = log_line r i 0 (map key_of h)
words_of (content.AbortZ (Replica r) i h z) = log_line r i 0 (map key_of h)
words_of (content.TrimmedAbort (Replica r) i start digest rest) = trimmed_line start digest ++ log_line r i 0 (map key_of rest)
words_of (content.Prepare maker i view slot x) = codes "digest " then encode_lower x then codes "\n"
words_of _ = []
