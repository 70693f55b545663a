-- The bytes of packets.
use Rattle.std.proofs.Common.{◌≡◌, ◌+◌, List, [], ◌∷◌, ◌++◌, arith}
use Rattle.ab_msg.specs.Packets.{Packet}
use Rattle.ab_world.specs.Packets.{total}

pub total_append : (ps qs : List Packet) → total (ps ++ qs) ≡ total ps + total qs
total_append [] qs = omega arith
total_append (p ∷ ps) qs = omega (arith, total_append ps qs)
