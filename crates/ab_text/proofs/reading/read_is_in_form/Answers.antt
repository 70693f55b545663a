use Rattle.ab_text.proofs.FormLemmas.{read_in_form}
use Rattle.ab_text.proofs.reading.read_is_in_form.Goals as goal

pub returns : goal.returns
returns c text s reads = read_in_form text s reads
