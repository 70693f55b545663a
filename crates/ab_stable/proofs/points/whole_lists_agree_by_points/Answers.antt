use Rattle.ab_stable.proofs.WholeLists.{agreed_there, agreed_back}
use Rattle.ab_stable.proofs.points.whole_lists_agree_by_points.Goals as goal

pub returns : goal.returns
returns c = record { there = λ q hs h none some. agreed_there q hs none some h; back = λ q hs t none some. agreed_back q hs none some t }
