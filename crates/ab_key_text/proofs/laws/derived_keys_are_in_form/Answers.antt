use Rattle.ab_key_text.proofs.FormLemmas.{derived_form}
use Rattle.ab_key_text.proofs.laws.derived_keys_are_in_form.Goals as goal

pub returns : goal.returns
returns c = derived_form
