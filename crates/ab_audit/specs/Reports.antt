-- The report of an audit.
use Rattle.std.specs.Prelude.{ℕ, List, ◌++◌, codes, decimal, flat_map}
use Rattle.sha2.specs.Sha256.{sha256}
use Rattle.hex.specs.Hex.{encode_lower}
use Rattle.ab_text.specs.Reports.{◌then◌}
use Rattle.ab_audit.specs.declared.accusation.Accusation.{Accusation}
use Rattle.ab_audit.specs.declared.accusation.Accusation.TheVariants.{Abort, Prepare}
use Rattle.ab_audit.specs.Kept.{Finding}

abbrev pub accusation_line : Accusation → List ℕ
accusation_line (Abort r i) = codes "accuse r" then decimal r then codes " abort " then decimal i then codes "\n"
accusation_line (Prepare r i v s) =
    codes "accuse r" then decimal r then codes " prepare " then decimal i then codes " " then decimal v then codes " " then decimal s then codes "\n"

-- the number of a message, and the digest of a content that is found in it
abbrev pub why_line : ℕ → List ℕ → List ℕ
why_line n text = codes "why " then decimal n then codes " " then encode_lower (sha256 text) then codes "\n"

abbrev pub finding_lines : Finding → List ℕ
finding_lines f = why_line f.number f.text ++ f.words

-- an accusation, and what shows it
abbrev pub accusation_text : (Accusation → List Finding) → Accusation → List ℕ
accusation_text why a = accusation_line a ++ flat_map finding_lines (why a)

-- how many messages there were, how many of them could not be read, and the end
abbrev pub counts_text : ℕ → ℕ → List ℕ
counts_text messages bad = codes "messages " then decimal messages then codes "\nbad " then decimal bad then codes "\nend\n"

abbrev pub report_text : (Accusation → List Finding) → List Accusation → ℕ → ℕ → List ℕ
report_text why listed messages bad = flat_map (accusation_text why) listed ++ counts_text messages bad
