use Rattle.std.proofs.Common.{◌≡◌, map, take, bit_xor, length}
use Rattle.ab_mac.proofs.tag.keyed.Given as goal

abbrev pub invariant-bytes : goal.invariant-bytes
invariant-bytes l = (length l.out ≡ 32) × (take l.i l.out ≡ map (λ b. bit_xor b l.pad) (take l.i l.key))
