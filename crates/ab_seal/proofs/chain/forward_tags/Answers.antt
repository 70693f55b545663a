use Rattle.std.proofs.Common.{ℕ, ◌+◌, List, [], ◌∷◌, ◌++◌, map, refl, sym, ap, ◌∙◌}
use Rattle.std.specs.List.{range_with_len}
use Rattle.std.proofs.lemmas.List.FromFn.{map-range_with_len_more}
use Rattle.ab_num.specs.declared.party.Party.TheVariants.{Replica}
use Rattle.ab_num.specs.Places.{at_position_of}
use Rattle.ab_msg.specs.declared.chain_tags.TagBetween.{TagBetween}
use Rattle.ab_seal.specs.Sealing.{tag_for}
use Rattle.ab_seal.proofs.chain.forward_tags.Goals as goal

pub positions-preserved : goal.positions-preserved
positions-preserved c =
    let k = c.args.k.now in
    let text = c.args.text.now in
    let a = c.args.p + 1 in
    let i = c.positions.i in
    let F : ℕ → TagBetween = λ q. tag_for k text (Replica (at_position_of c.cluster-c.result.now.f c.args.instance q)) in
    let made = c.tag_for.ensures ∙ ap (λ r. tag_for k text (Replica r)) c.at_position-r.ensures.place in
    c.in_ok-push.ensures.items
    ∙ ap (λ (l : List TagBetween). l ++ c.tag_for.result ∷ []) c.positions.invariant
    ∙ ap (λ (t : TagBetween). map F (range_with_len a i) ++ t ∷ []) made
    ∙ sym (map-range_with_len_more F a i (a + i) refl)
