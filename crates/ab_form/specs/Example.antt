-- A format that is put together, to be copied: 1 to 9 entries behind their count, each a place and a text of
-- 1 to 4 bytes, where the places ascend.
use Rattle.std.specs.Prelude.{ℕ, suc, List, ◌++◌, length}
use Rattle.std.specs.Int.{w8}
use Rattle.ab_form.specs.declared.bad.Bad.TheVariants.{BadLength, BadField}
use Rattle.ab_form.specs.Readers.{Reader, ranged_at, text_at, after, both, many}
use Rattle.ab_form.specs.Formats.{IsWithin, EachFits, u8_bytes, u8_text, spell_each}

unfoldable pub entry_at : ℕ → Reader (ℕ × List ℕ)
entry_at low bytes = both (ranged_at w8 low 99 BadField) (text_at w8 1 4) bytes

abbrev pub spell_entry : ℕ × List ℕ → List ℕ
spell_entry entry = u8_bytes entry.0 ++ u8_text entry.1

abbrev pub IsEntry : ℕ → ℕ × List ℕ → Type 0
IsEntry low entry = IsWithin low 99 entry.0 × IsWithin 1 4 (length entry.1)

abbrev pub above : ℕ → ℕ × List ℕ → ℕ
above low entry = suc entry.0

unfoldable pub entries_at : Reader (List (ℕ × List ℕ))
entries_at bytes = after (ranged_at w8 1 9 BadLength) (λ n. many entry_at above n 0) bytes

abbrev pub spell_entries : List (ℕ × List ℕ) → List ℕ
spell_entries entries = u8_bytes (length entries) ++ spell_each spell_entry entries

abbrev pub AreEntries : List (ℕ × List ℕ) → Type 0
AreEntries entries = IsWithin 1 9 (length entries) × EachFits IsEntry above 0 entries
