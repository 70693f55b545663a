use Rattle.std.proofs.Common.{◌≡◌}
use Rattle.ab_world.proofs.packets.share_all.Given as goal

abbrev pub invariant-sharing : goal.invariant-sharing
invariant-sharing l = l.packets.items ≡ l.initial.packets.items
