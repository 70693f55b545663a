use Rattle.ab_form.proofs.PartLemmas.{bytes-format, u8_text-format, u16_text-format}
use Rattle.ab_form.proofs.laws.texts_are_formats.Goals as goal

pub returns : goal.returns
returns c = record { bytes = bytes-format; u8 = u8_text-format; u16 = u16_text-format }
