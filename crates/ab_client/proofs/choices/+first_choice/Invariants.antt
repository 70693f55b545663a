use Rattle.std.proofs.Common.{length}
use Rattle.ab_client.proofs.choices.+first_choice.Given as goal

abbrev pub decreases-first_choice : goal.decreases-first_choice
decreases-first_choice l = length l.rest.now
