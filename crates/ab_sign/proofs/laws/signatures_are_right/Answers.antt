use Rattle.ab_msg.specs.Contents.{spell_content}
use Rattle.ab_sign.proofs.KeyLemmas.{derived-leaves, derived-right}
use Rattle.ab_sign.proofs.laws.signatures_are_right.Goals as goal

pub returns-clause-many : goal.returns-clause-many
returns-clause-many c = λ f scheme seed r lt. derived-leaves f scheme seed r lt

pub returns-clause-right : goal.returns-clause-right
returns-clause-right c = λ f scheme seed ring r used n content lt low. derived-right f scheme seed r n (spell_content content) lt low
