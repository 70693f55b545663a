use Rattle.std.proofs.Common.{◌≡◌, map, take}
use Rattle.ab_keys.specs.Rings.{peer_of}
use Rattle.ab_key_text.proofs.derive.peers_of.Given as goal

abbrev pub invariant-loop-p : goal.invariant-loop-p
invariant-loop-p l = l.shared.items ≡ map (peer_of l.seed l.me) (take l.p-index l.p-items)
