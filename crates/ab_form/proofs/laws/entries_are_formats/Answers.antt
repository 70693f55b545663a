use Rattle.ab_form.proofs.ExampleLemmas.{entries-format, entries-whole}
use Rattle.ab_form.proofs.laws.entries_are_formats.Goals as goal

pub returns : goal.returns
returns c = record { front = entries-format; whole = entries-whole }
