-- The text of an audit: the public keys of a cluster's replicas, then messages, then the end.
use Rattle.std.specs.Prelude.{ℕ, ◌+◌, List, [], ◌∷◌, ◌++◌, Option, None, Some, Result, Err, Bool, codes, length, ◌&&◌, nat_le, if◌then◌else◌}
use Rattle.std.specs.Str.{bytes_eq}
use Rattle.std.specs.Option.{option_and_then}
use Rattle.hex.specs.Hex.{decode_of}
use Rattle.ab_num.specs.declared.plan.Scheme.{Scheme}
use Rattle.ab_num.specs.Limits.{longest_message}
use Rattle.ab_text.specs.Heads.{stripped, spelled_in, lms_line, schemes}
use Rattle.ab_scheme.specs.Schemes.{public_length}
use Rattle.ab_key_text.specs.declared.fault.NodeFault.{NodeFault}
use Rattle.ab_key_text.specs.declared.fault.NodeFault.TheVariants.{NoEnd}
use Rattle.ab_text.specs.HexBytes.{in_lower_case}
use Rattle.ab_key_text.specs.Keys.{replicas}
use Rattle.ab_key_text.specs.Lines.{◌>>=◌, found_at, line_at, number_in}
use Rattle.ab_key_text.specs.Reading.{publics_at, ended}

-- the replicas of a cluster are 3f + 1, and each has a public key
pub record AuditText : Type 0 where
  pub f : ℕ
  pub lms : Scheme
  pub publics : List (List ℕ)
  pub messages : List (List ℕ)

abbrev pub audit_of : ℕ → Scheme → List (List ℕ) → List (List ℕ) → AuditText
audit_of f lms publics messages = record { f = f; lms = lms; publics = publics; messages = messages }

-- ---- a message

-- 1 to 4,194,304 bytes
abbrev pub is_sized : List ℕ → Bool
is_sized bytes = nat_le 1 (length bytes) && nat_le (length bytes) longest_message

abbrev pub sized : Option (List ℕ) → Option (List ℕ)
sized None = None
sized (Some bytes) = if is_sized bytes then Some bytes else None

-- the bytes whose text in lower case this is
unfoldable pub message_bytes : List ℕ → Option (List ℕ)
message_bytes text = sized (in_lower_case text (decode_of text))

abbrev pub message_in : List ℕ → Option (List ℕ)
message_in l = option_and_then message_bytes (stripped (codes "message ") l)

abbrev pub with_message : AuditText → List ℕ → AuditText
with_message t message = record t { messages = t.messages ++ message ∷ [] }

-- line n is the end or a message
abbrev pub messages_at : AuditText → ℕ → List (List ℕ) → Result AuditText NodeFault
messages_at t n [] = Err (NoEnd n)
messages_at t n (l ∷ ls) =
    if bytes_eq l (codes "end") then ended t (n + 1) ls
    else found_at n ls (message_in l) >>= λ x. messages_at (with_message t x.0) (n + 1) ls

-- ---- all lines

-- the first line
abbrev pub name_in : List ℕ → Option (Unit {0})
name_in l = if bytes_eq l (codes "audit 1") then Some tt else None

-- what the lines of an audit's text give
unfoldable pub audit_in : List (List ℕ) → Result AuditText NodeFault
audit_in ls = do
  name ← line_at name_in 1 ls
  f ← line_at (number_in (codes "f ") 1 2) 2 name.1
  lms ← line_at (spelled_in lms_line schemes) 3 f.1
  publics ← publics_at (public_length lms.0) (replicas f.0) [] 4 lms.1
  messages_at (audit_of f.0 lms.0 publics.value []) publics.next publics.rest
