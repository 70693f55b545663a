use Rattle.ab_trim.proofs.KnownPlaces.{known_by_less, same_digests}
use Rattle.ab_trim.proofs.known.logs_of_one_history_agree.Goals as goal

pub returns : goal.returns
returns c = record { places = known_by_less; digests = same_digests }
