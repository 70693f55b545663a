use Rattle.std.proofs.Common.{◌≡◌, map, take}
use Rattle.ab_draw.specs.Draws.{parcel_of}
use Rattle.ab_draw.proofs.parcels.parcels_of.Given as goal

abbrev pub invariant-loop-packet : goal.invariant-loop-packet
invariant-loop-packet l = l.parcels.items ≡ map parcel_of (take l.packet-index l.packets)
