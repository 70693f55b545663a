use Rattle.std.proofs.Common.{◌≡◌, replicate, None}
use Rattle.ab_piece.proofs.open_message.places.Given as goal

abbrev pub invariant-places : goal.invariant-places
invariant-places l = l.bodies.items ≡ replicate l._i None
