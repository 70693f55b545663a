use Rattle.ab_piece.proofs.ArrivalLemmas.{come_alone, come_whole}
use Rattle.ab_piece.proofs.laws.cut_messages_come_whole.Goals as goal

pub returns : goal.returns
returns c = record {
  alone = λ before s n m order closed cut any. come_alone before s n m order closed cut any;
  mixed = λ before s n m arrivals closed are. come_whole before s n m arrivals closed are;
}
