use Rattle.std.proofs.Common.{ℕ, map}
use Rattle.arrayvec.specs.ArrayVec.{ArrayVec}
use Rattle.ab_text.specs.Lines.{lines_of}
use Rattle.ab_key_text.specs.Nodes.{node_of}
use Rattle.ab_node.proofs.node.read_party.Goals as goal

pub returns-in-Ok-clause-whole : goal.returns-in-Ok-clause-whole
returns-in-Ok-clause-whole c =
    let read = c.in-Ok.party in
    c.keys_are_whole.ensures.read (lines_of c.args.text.now) (node_of read.0 (map (λ (v : ArrayVec ℕ). v.items) read.1)) c.in-Ok.ensures
