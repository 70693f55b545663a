use Rattle.ab_premise.proofs.Watches.{free_told, earliest_told}
use Rattle.ab_premise.proofs.laws.collisions_are_told.Goals as goal

pub returns : goal.returns
returns g c = record {
  free = λ k proto serves opens inputs form. free_told k proto form opens inputs;
  earliest = λ k proto serves opens inputs found form. earliest_told k proto form opens inputs found;
}
