use Rattle.std.proofs.Common.{◌≡◌, ℕ, List, [], ◌∷◌, ◌++◌, codes, decimal, ap, ◌∙◌, rules}
use Rattle.ab_text.specs.Heads.{abstract_line, plan_line}
use Rattle.ab_text.specs.Texts.{text_of}
use Rattle.ab_text.proofs.WritingLemmas.{added}
use Rattle.ab_text.proofs.head_writing.add_cluster.Goals as goal

pub returns : goal.returns
returns c =
    let cluster = c.args.cluster.now in
    let version = c.args.version in
    let begun : c.as_bytes.result.now ≡ abstract_line version = search rules in
    let faulty : c.as_bytes-2.result.now ≡ codes "f " ++ decimal cluster.f = search rules in
    let count : c.as_bytes-4.result.now ≡ codes "clients " ++ decimal cluster.clients = search rules in
    let named : c.as_bytes-3.result.now ≡ plan_line cluster.plan = search rules in
    let old = c.args.out.now.items in
    let one = c.add_line.new.out.items in
    let two = c.add_line-2.new.out.items in
    let three = c.add_line-3.new.out.items in
    let front : List (List ℕ) = abstract_line version ∷ [] in
    let second : List (List ℕ) = (codes "f " ++ decimal cluster.f) ∷ [] in
    let third : List (List ℕ) = plan_line cluster.plan ∷ [] in
    let last : List (List ℕ) = (codes "clients " ++ decimal cluster.clients) ∷ [] in
    let e1 = c.in_ok-add_line.ensures ∙ ap (λ t. old ++ text_of (t ∷ [])) begun in
    let e2 = added old one two front second e1 (c.in_ok-add_line-2.ensures ∙ ap (λ t. one ++ text_of (t ∷ [])) faulty) in
    let e3 = added old two three (front ++ second) third e2 (c.in_ok-add_line-3.ensures ∙ ap (λ t. two ++ text_of (t ∷ [])) named) in
    added old three c.add_line-4.new.out.items (front ++ second ++ third) last e3 (c.in_ok-add_line-4.ensures ∙ ap (λ t. three ++ text_of (t ∷ [])) count)
