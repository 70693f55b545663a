use Rattle.std.proofs.Common.{◌≡◌, ◌+◌, ◌≤◌, drop}
use Rattle.ab_world.specs.Packets.{total, most_bytes}
use Rattle.ab_world.proofs.packets.with_packets.Given as goal

-- the bytes so far and those of what is left are all
abbrev pub invariant-loop-packet : goal.invariant-loop-packet
invariant-loop-packet l = record {
  counted : l.sum + total (drop l.packet-index l.packets) ≡ l.bytes + total l.packets;
  within : l.sum ≤ most_bytes;
}
