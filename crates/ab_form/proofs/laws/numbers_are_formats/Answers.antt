use Rattle.ab_form.proofs.PartLemmas.{u8-format, u16-format, u32-format, u64-format}
use Rattle.ab_form.proofs.laws.numbers_are_formats.Goals as goal

pub returns : goal.returns
returns c = record { u8 = u8-format; u16 = u16-format; u32 = u32-format; u64 = u64-format }
