use Rattle.std.proofs.Common.{◌≡◌, take, set, Some}
use Rattle.ab_piece.specs.Joining.{message_of}
use Rattle.ab_piece.proofs.open_message.OpenMessage.whole.Given as goal

abbrev pub invariant-bodies : goal.invariant-bodies
invariant-bodies l = l.whole.items ≡ message_of (take l.i (set l.self.bodies l.index (Some l.body)))
