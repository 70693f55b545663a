use Rattle.std.proofs.Common.{arith, bit_xor, ◌∙◌, length-set}
use Rattle.ab_mac.proofs.Pads.{map-step, map-end}
use Rattle.ab_mac.proofs.tag.keyed.Goals as goal

pub bytes-preserved : goal.bytes-preserved
bytes-preserved c = (length-set _ _ _ ∙ c.bytes.invariant.0, map-step (λ b. bit_xor b c.args.pad) _ _ _ (omega arith) (omega arith) c.bytes.invariant.1)

pub returns : goal.returns
returns c = map-end (λ b. bit_xor b c.args.pad) _ _ c.bytes.i (omega arith) (omega arith) c.bytes.invariant.1
