use Rattle.ab_cast.proofs.CoreLemmas.{own_is, numbered_is}
use Rattle.ab_cast.proofs.PlaceLemmas.{owner_of_place, one_core}
use Rattle.ab_cast.proofs.laws.faulty_parties_have_their_cores.Goals as goal

pub returns-clause-own : goal.returns-clause-own
returns-clause-own c = own_is

pub returns-clause-numbered : goal.returns-clause-numbered
returns-clause-numbered c = numbered_is

pub returns-clause-owner : goal.returns-clause-owner
returns-clause-owner c = owner_of_place

pub returns-clause-apart : goal.returns-clause-apart
returns-clause-apart c = one_core
