-- What was sent in a run.
use Rattle.std.specs.Prelude.{ℕ, zero, suc, ◌+◌, List, [], ◌∷◌, length, Option, None, slice_get}
use Rattle.ab_msg.specs.Packets.{Packet}

-- how many bytes there are in all of them
abbrev pub total : List Packet → ℕ
total [] = 0
total (p ∷ ps) = length p.bytes + total ps

-- how many bytes are kept at most
abbrev pub most_bytes : ℕ
most_bytes = 268435456

-- the n-th, counted from 1
abbrev pub nth : List Packet → ℕ → Option Packet
nth packets zero = None
nth packets (suc n) = slice_get packets n
