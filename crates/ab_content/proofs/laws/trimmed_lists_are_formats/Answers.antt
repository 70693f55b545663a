use Rattle.ab_content.proofs.TrimmedLemmas.{trimmed-format}
use Rattle.ab_content.proofs.laws.trimmed_lists_are_formats.Goals as goal

pub returns : goal.returns
returns c = trimmed-format
