use Rattle.ab_stable.proofs.NamedLists.{same_place}
use Rattle.ab_stable.proofs.wholes.whole_places_are_states.Goals as goal

pub returns : goal.returns
returns c = same_place
