-- How the text of an audit is spelled.
use Rattle.std.specs.Prelude.{◌≡◌, ℕ, ◌+◌, ◌*◌, ◌≤◌, List, [], ◌∷◌, ◌++◌, map, codes, decimal, length}
use Rattle.std.specs.List.{AllByRecursion}
use Rattle.hex.specs.Hex.{encode_lower}
use Rattle.ab_text.specs.EventLines.{IsInjected}
use Rattle.ab_text.specs.Heads.{lms_line}
use Rattle.ab_scheme.specs.Schemes.{public_length}
use Rattle.ab_key_text.specs.Keys.{IsBytes}
use Rattle.ab_key_text.specs.Spelling.{public_lines}
use Rattle.ab_audit_text.specs.Texts.{AuditText}

abbrev pub message_line : List ℕ → List ℕ
message_line bytes = codes "message " ++ encode_lower bytes

abbrev pub audit_lines : AuditText → List (List ℕ)
audit_lines t =
    codes "audit 1" ∷ (codes "f " ++ decimal t.f) ∷ lms_line t.lms
    ∷ (public_lines 0 t.publics ++ (map message_line t.messages ++ codes "end" ∷ []))

-- a public key for each replica, as long as the scheme has it, and messages of 1 to 4,194,304 bytes
pub record IsAuditText (t : AuditText) : Type 0 where
  pub some_faulty : 1 ≤ t.f
  pub few_faulty : t.f ≤ 2
  pub public_of_each : length t.publics ≡ 3 * t.f + 1
  pub publics : AllByRecursion (IsBytes (public_length t.lms)) t.publics
  pub messages : AllByRecursion IsInjected t.messages
