-- The law of the example, as it is put together.
use Rattle.std.proofs.Common.{ℕ, lit<}
use Rattle.ab_form.specs.declared.bad.Bad.TheVariants.{BadField}
use Rattle.ab_form.specs.Readers.{whole}
use Rattle.ab_form.specs.Formats.{IsFormat, IsWhole}
use Rattle.ab_form.specs.Example.{entry_at, spell_entry, IsEntry, above, entries_at, spell_entries, AreEntries}
use Rattle.ab_form.proofs.FormatLemmas.{both-format, whole-law}
use Rattle.ab_form.proofs.PartLemmas.{u8-format, u8_text-format, u8_list-format}

entry-format : (low : ℕ) → IsFormat (entry_at low) spell_entry (IsEntry low)
unfolding entry_at
entry-format low = both-format _ _ _ _ _ _ (u8-format low 99 BadField (lit< tt)) (u8_text-format 1 4 (lit< tt))

pub entries-format : IsFormat entries_at spell_entries AreEntries
unfolding entries_at
entries-format = u8_list-format 1 9 entry_at above spell_entry IsEntry 0 (lit< tt) entry-format

pub entries-whole : IsWhole (whole entries_at) spell_entries AreEntries
entries-whole = whole-law entries_at spell_entries AreEntries entries-format
