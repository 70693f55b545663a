use Rattle.std.proofs.Common.{sym, ap, ◌∙◌, unwrap_or}
use Rattle.ab_wire.specs.Inside.{tag_in}
use Rattle.ab_pbft_shelf.specs.Posts.{no_tag}
use Rattle.ab_pbft_shelf.proofs.ListLemmas.{tags_in, tags_of-find}
use Rattle.ab_pbft_shelf.proofs.sending.tag_for.Goals as goal

pub returns-in-Some : goal.returns-in-Some
returns-in-Some c =
    let tags = tags_of-find c.args.client c.args.tagged.now ∙ ap tags_in (sym c.in-Some.ensures) in
    c.tag_among.ensures ∙ (ap (λ l. unwrap_or (tag_in c.args.r l) no_tag) (c.as_slice.ensures.value ∙ sym tags))

pub returns-in-None : goal.returns-in-None
returns-in-None c =
    let tags = tags_of-find c.args.client c.args.tagged.now ∙ ap tags_in (sym c.in-None.ensures) in
    sym (ap (λ l. unwrap_or (tag_in c.args.r l) no_tag) tags)
