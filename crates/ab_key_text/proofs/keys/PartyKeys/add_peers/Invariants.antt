use Rattle.std.proofs.Common.{◌≡◌, ◌++◌, take}
use Rattle.std.specs.Prelude.{flat_map}
use Rattle.ab_key_text.specs.Spelling.{peer_lines}
use Rattle.ab_text.specs.Texts.{text_of}
use Rattle.ab_key_text.proofs.keys.PartyKeys.add_peers.Given as goal

abbrev pub invariant-loop-peer : goal.invariant-loop-peer
invariant-loop-peer l = l.out.items ≡ l.fn.out.items ++ text_of (flat_map peer_lines (take l.peer-index l.self.peers))
