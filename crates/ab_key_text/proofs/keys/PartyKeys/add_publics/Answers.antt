use Rattle.std.proofs.Common.{ℕ, List, ◌≡◌, ◌<◌, [], ◌∷◌, ◌++◌, codes, take, get_or, length, sym, ap, ◌∙◌, rules}
use Rattle.std.proofs.lemmas.List.{get_or_default}
use Rattle.ab_num.specs.declared.party.Party.TheVariants.{Replica}
use Rattle.ab_key_text.specs.Spelling.{key_line, public_lines}
use Rattle.ab_key_text.proofs.WritingLemmas.{public_lines_more}
use Rattle.ab_text.specs.Texts.{text_of}
use Rattle.ab_text.proofs.WritingLemmas.{added}
use Rattle.ab_key_text.proofs.keys.PartyKeys.add_publics.Goals as goal

pub loop-r-preserved : goal.loop-r-preserved
loop-r-preserved c =
    let keys = c.args.self.now.publics in
    let r = c.loop-r.r in
    let inside : r < length keys = search rules in
    let key = c.key-item.result in
    let mine : c.self.inside.publics.items ≡ keys = search rules in
    let here : key ≡ get_or keys r key = c.key-item.is ∙ ap (λ (xs : List (List ℕ)). get_or xs r key) (c.deref-key-items.ensures.value ∙ mine) in
    let said : c.as_str.result.now ≡ key_line (codes "public ") (Replica r) key = search rules in
    let line : c.as_str.result.now ≡ key_line (codes "public ") (Replica r) (get_or keys r []) = said ∙ ap (key_line (codes "public ") (Replica r)) (here ∙ get_or_default keys r key [] inside) in
    let more = c.in_ok-add_line.ensures ∙ ap (λ t. c.loop-r.out.items ++ text_of (t ∷ [])) line in
    added c.args.out.now.items c.loop-r.out.items c.add_line.new.out.items (public_lines 0 (take r keys)) (key_line (codes "public ") (Replica r) (get_or keys r []) ∷ []) c.loop-r.invariant more
    ∙ ap (λ ls. c.args.out.now.items ++ text_of ls) (sym (public_lines_more keys r inside))
