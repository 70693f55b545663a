use Rattle.std.proofs.Common.{◌≡◌, map, take}
use Rattle.ab_sign.specs.declared.key.SignKey.TheVariants.{Public}
use Rattle.ab_node.proofs.keys.public_keys.Given as goal

abbrev pub invariant-loop-public : goal.invariant-loop-public
invariant-loop-public l = l.keys.items ≡ map Public (take l.public-index l.publics)
