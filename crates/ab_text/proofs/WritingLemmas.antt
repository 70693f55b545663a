-- Lines as they are written, one behind the other.
use Rattle.std.proofs.Common.{◌≡◌, ℕ, List, [], ◌∷◌, ◌++◌, append_assoc, sym, ap, ◌∙◌, refl}
use Rattle.ab_text.specs.Texts.{text_of}

pub text_of-append : (front back : List (List ℕ)) → text_of (front ++ back) ≡ text_of front ++ text_of back
text_of-append [] back = refl
text_of-append (a ∷ front) back = ap (λ t. (a ++ 10 ∷ []) ++ t) (text_of-append front back) ∙ sym (append_assoc (a ++ 10 ∷ []) (text_of front) (text_of back))

-- lines that are added one after the other
pub added : (old one two : List ℕ) (front back : List (List ℕ)) → one ≡ old ++ text_of front → two ≡ one ++ text_of back → two ≡ old ++ text_of (front ++ back)
added old one two front back first second =
    second ∙ ap (λ t. t ++ text_of back) first ∙ append_assoc old (text_of front) (text_of back) ∙ ap (λ t. old ++ t) (sym (text_of-append front back))
