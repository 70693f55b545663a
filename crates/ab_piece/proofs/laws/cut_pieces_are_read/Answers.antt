use Rattle.ab_piece.proofs.CutLemmas.{cut_read}
use Rattle.ab_piece.proofs.laws.cut_pieces_are_read.Goals as goal

pub returns : goal.returns
returns c = λ s n m i cut below. cut_read s n m i cut below
