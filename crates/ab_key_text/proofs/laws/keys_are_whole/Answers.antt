use Rattle.ab_key_text.proofs.WholeLemmas.{derived_whole, read_whole}
use Rattle.ab_key_text.proofs.laws.keys_are_whole.Goals as goal

pub returns-clause-read : goal.returns-clause-read
returns-clause-read c = read_whole

pub returns-clause-derived : goal.returns-clause-derived
returns-clause-derived c = derived_whole
