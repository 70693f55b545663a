use Rattle.std.proofs.lemmas.List.Elements.{All-contains}
use Rattle.ab_world.proofs.SentLemmas.{IsWithin, all_within}
use Rattle.ab_world.proofs.laws.packets_go_to_parties.Goals as goal

pub returns : goal.returns
returns g c = λ x es w so p has. All-contains (IsWithin x) w.packets p (all_within g.P.Protocol.proto x es w so) has
