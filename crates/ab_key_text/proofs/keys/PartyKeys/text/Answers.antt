use Rattle.std.proofs.Common.{◌≡◌, [], ◌++◌, ap, ◌∙◌}
use Rattle.std.specs.Prelude.{flat_map}
use Rattle.ab_num.proofs.Lists.{five_parts}
use Rattle.ab_key_text.specs.Spelling.{cluster_lines, name_lines, secret_lines, peer_lines, public_lines}
use Rattle.ab_text.specs.Texts.{text_of}
use Rattle.ab_text.proofs.WritingLemmas.{added}
use Rattle.ab_key_text.proofs.keys.PartyKeys.text.Goals as goal

pub returns : goal.returns
returns c =
    let k = c.args.self.now in
    let one = c.add_cluster.new.out.items in
    let two = c.add_names.new.out.items in
    let three = c.add_secret.new.out.items in
    let four = c.add_peers.new.out.items in
    let first : one ≡ [] ++ text_of (cluster_lines k) = c.in_ok-add_cluster.ensures ∙ ap (λ t. t ++ text_of (cluster_lines k)) c.new-out.ensures.items in
    let second = added [] one two (cluster_lines k) (name_lines k) first c.in_ok-add_names.ensures in
    let third = added [] two three (cluster_lines k ++ name_lines k) (secret_lines k.secret) second c.in_ok-add_secret.ensures in
    let fourth = added [] three four (cluster_lines k ++ name_lines k ++ secret_lines k.secret) (flat_map peer_lines k.peers) third c.in_ok-add_peers.ensures in
    added [] four c.add_publics.new.out.items (cluster_lines k ++ name_lines k ++ secret_lines k.secret ++ flat_map peer_lines k.peers) (public_lines 0 k.publics) fourth c.in_ok-add_publics.ensures
    ∙ ap text_of (five_parts (cluster_lines k) (name_lines k) (secret_lines k.secret) (flat_map peer_lines k.peers) (public_lines 0 k.publics))
