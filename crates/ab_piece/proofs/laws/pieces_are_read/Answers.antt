use Rattle.ab_piece.proofs.SpellLemmas.{piece_read, piece_spelled}
use Rattle.ab_piece.proofs.laws.pieces_are_read.Goals as goal

pub returns : goal.returns
returns c = record { spelled = λ bytes p fits e. piece_spelled bytes p fits e; read = λ p is. piece_read p is }
