-- Tags along a chain.
use Rattle.std.proofs.Common.{◌≡◌, ℕ, ◌+◌, List, [], ◌∷◌, ◌++◌, length, refl, sym, ap, ◌∙◌, append_assoc, length-append}
use Rattle.ab_form.specs.Formats.{spell_each, u8_bytes}
use Rattle.ab_form.specs.Lists.{u8_list}
use Rattle.ab_msg.specs.declared.chain_tags.TagBetween.{TagBetween}
use Rattle.ab_msg.specs.Fields.{spell_between}

pub each-both : {A : Type 0} (spell : A → List ℕ) (xs ys : List A) → spell_each spell (xs ++ ys) ≡ spell_each spell xs ++ spell_each spell ys
each-both spell [] ys = refl
each-both spell (x ∷ xs) ys = ap (λ (l : List ℕ). spell x ++ l) (each-both spell xs ys) ∙ sym (append_assoc (spell x) (spell_each spell xs) (spell_each spell ys))

regroup : (z a b c d e n x y : List ℕ) → ((((z ++ (a ++ (b ++ (c ++ (d ++ e))))) ++ n) ++ x) ++ y) ≡ z ++ (a ++ (b ++ (c ++ (d ++ (e ++ (n ++ (x ++ y)))))))
regroup z a b c d e n x y = simp append_assoc

-- what is written part by part is the whole
pub chain-written : (o0 o1 o2 o3 o4 o5 a b c d e : List ℕ) (xs ys : List TagBetween) (n : ℕ)
    → o0 ≡ [] → o1 ≡ o0 ++ u8_bytes 4 → o2 ≡ o1 ++ (a ++ (b ++ (c ++ (d ++ e)))) → o3 ≡ o2 ++ u8_bytes n → n ≡ length xs + length ys
    → o4 ≡ o3 ++ spell_each spell_between xs → o5 ≡ o4 ++ spell_each spell_between ys
    → o5 ≡ u8_bytes 4 ++ (a ++ (b ++ (c ++ (d ++ (e ++ u8_list spell_between (xs ++ ys))))))
chain-written o0 o1 o2 o3 o4 o5 a b c d e xs ys n p0 p1 p2 p3 count p4 p5 =
    let ex = spell_each spell_between xs in
    let ey = spell_each spell_between ys in
    let link = a ++ (b ++ (c ++ (d ++ e))) in
    let more : n ≡ length (xs ++ ys) = count ∙ sym (length-append xs ys) in
    p5 ∙ ap (λ (l : List ℕ). l ++ ey) (p4 ∙ ap (λ (l : List ℕ). l ++ ex) (p3 ∙ ap (λ (l : List ℕ). l ++ u8_bytes n) (p2 ∙ ap (λ (l : List ℕ). l ++ link) (p1 ∙ ap (λ (l : List ℕ). l ++ u8_bytes 4) p0))))
    ∙ regroup (u8_bytes 4) a b c d e (u8_bytes n) ex ey
    ∙ ap (λ (l : List ℕ). u8_bytes 4 ++ (a ++ (b ++ (c ++ (d ++ (e ++ (u8_bytes n ++ l))))))) (sym (each-both spell_between xs ys))
    ∙ ap (λ k. u8_bytes 4 ++ (a ++ (b ++ (c ++ (d ++ (e ++ (u8_bytes k ++ spell_each spell_between (xs ++ ys)))))))) more
