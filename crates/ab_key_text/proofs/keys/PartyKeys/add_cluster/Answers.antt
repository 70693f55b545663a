use Rattle.std.proofs.Common.{◌≡◌, ℕ, List, [], ◌∷◌, ◌++◌, codes, decimal, ap, ◌∙◌, rules}
use Rattle.ab_text.specs.Cores.{party_text}
use Rattle.ab_key_text.specs.Spelling.{keys_line}
use Rattle.ab_key_text.specs.Versions.{key_version_of}
use Rattle.ab_text.specs.Texts.{text_of}
use Rattle.ab_text.proofs.WritingLemmas.{added}
use Rattle.ab_key_text.proofs.keys.PartyKeys.add_cluster.Goals as goal

pub returns : goal.returns
returns c =
    let version = keys_line (key_version_of c.args.self.now.every c.args.self.now.lms) in
    let begun : c.keys_text.result.now ≡ version = search rules in
    let party : c.as_str.result.now ≡ codes "party " ++ party_text c.args.self.now.me = search rules in
    let faulty : c.as_str-2.result.now ≡ codes "f " ++ decimal c.args.self.now.f = search rules in
    let count : c.as_str-3.result.now ≡ codes "clients " ++ decimal c.args.self.now.clients = search rules in
    let old = c.args.out.now.items in
    let one = c.add_line.new.out.items in
    let two = c.add_line-2.new.out.items in
    let three = c.add_line-3.new.out.items in
    let front : List (List ℕ) = version ∷ [] in
    let second : List (List ℕ) = (codes "party " ++ party_text c.args.self.now.me) ∷ [] in
    let third : List (List ℕ) = (codes "f " ++ decimal c.args.self.now.f) ∷ [] in
    let last : List (List ℕ) = (codes "clients " ++ decimal c.args.self.now.clients) ∷ [] in
    let e1 = c.in_ok-add_line.ensures ∙ ap (λ t. old ++ text_of (t ∷ [])) begun in
    let e2 = added old one two front second e1 (c.in_ok-add_line-2.ensures ∙ ap (λ t. one ++ text_of (t ∷ [])) party) in
    let e3 = added old two three (front ++ second) third e2 (c.in_ok-add_line-3.ensures ∙ ap (λ t. two ++ text_of (t ∷ [])) faulty) in
    added old three c.add_line-4.new.out.items (front ++ second ++ third) last e3 (c.in_ok-add_line-4.ensures ∙ ap (λ t. three ++ text_of (t ∷ [])) count)
