use Rattle.ab_order.proofs.Untold.{other_instance, unspoken_untold}
use Rattle.ab_order.proofs.laws.others_tell_nothing.Goals as goal

pub returns : goal.returns
returns c = record { instance = other_instance; unspoken = unspoken_untold }
