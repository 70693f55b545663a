-- Each subject is accused once.
use Rattle.std.proofs.Common.{◌≡◌, List, [], ◌∷◌, ◌||◌, Bool, true, false, cond, map, Option, Some, None, is_some, ap, sym, ◌∙◌, refl, subst, inl, inr, true≢false}
use Rattle.std.specs.Cmp.{IsEquivalence}
use Rattle.std.specs.List.{IsDistinct, list_any}
use Rattle.std.specs.Map.{lookup}
use Rattle.std.proofs.lemmas.Bool.{cases_Bool, or_parts}
use Rattle.std.proofs.lemmas.List.{map-append}
use Rattle.std.proofs.lemmas.Map.Keys.{IsDistinct-push}
use Rattle.ab_audit.specs.declared.accusation.Accusation.{Accusation}
use Rattle.ab_audit.specs.Accusations.{accusation_eq}
use Rattle.ab_audit.specs.Kept.{Finding, Kept, Note, accused_in, first_of, is_known, is_text, keep, keep_all, keep_beside, other_of}
use Rattle.ab_audit.proofs.EqLemmas.{one_accusation, same_accusation}
use Rattle.ab_audit.proofs.KeptLemmas.{known_keep, new_keep}

other_way : (a b : Accusation) → accusation_eq a b ≡ true → accusation_eq b a ≡ true
other_way a b h = subst (λ c. accusation_eq c a ≡ true) (one_accusation a b h) (same_accusation a)

pub symmetric : (a b : Accusation) → accusation_eq a b ≡ accusation_eq b a
symmetric a b = elim (cases_Bool (accusation_eq a b)) [
  | inl hit ↦ hit ∙ sym (other_way a b hit)
  | inr miss ↦ elim (cases_Bool (accusation_eq b a)) [
    | inl hit ↦ absurd (true≢false (sym (other_way b a hit) ∙ miss))
    | inr both ↦ miss ∙ sym both
  ]
]

equivalence : IsEquivalence accusation_eq
equivalence = record {
  refl = same_accusation;
  symm = symmetric;
  congr = λ x y z h. ap (λ a. accusation_eq a z) (one_accusation x y h);
}

some_or : (b : Bool) (f : Finding) (o : Option Finding) → (b || is_some o) ≡ is_some (cond b (Some f) o)
some_or true f o = refl
some_or false f o = refl

-- a subject is among those of the notes if there is a finding about it
pub any_subject : (a : Accusation) (notes : List Note) → list_any (accusation_eq a) (map (λ n. n.0) notes) ≡ is_some (lookup (accusation_eq a) notes)
any_subject a [] = refl
any_subject a (n ∷ ns) = ap (λ t. accusation_eq a n.0 || t) (any_subject a ns) ∙ some_or (accusation_eq a n.0) n.1 (lookup (accusation_eq a) ns)

once_beside : (k : Kept) (n : Note) (o : Option Finding) → is_some (other_of k n.0) ≡ false → IsDistinct accusation_eq (accused_in k) → IsDistinct accusation_eq (accused_in (keep_beside k n o))
once_beside k n None free once = once
once_beside k n (Some known) free once =
    subst (IsDistinct accusation_eq) (sym (map-append (λ (m : Note). m.0) k.others (n ∷ [])))
    (IsDistinct-push equivalence (accused_in k) n.0 once (any_subject n.0 k.others ∙ free))

once_kept : (k : Kept) (n : Note) → IsDistinct accusation_eq (accused_in k) → IsDistinct accusation_eq (accused_in (keep k n))
once_kept k n once = elim (cases_Bool (is_known k n.0 n.1.text)) [
  | inl known ↦ subst (λ (q : Kept). IsDistinct accusation_eq (accused_in q)) (sym (known_keep k n known)) once
  | inr new ↦ subst (λ (q : Kept). IsDistinct accusation_eq (accused_in q)) (sym (new_keep k n (first_of k n.0) new refl))
      (once_beside k n (first_of k n.0) (or_parts (is_some (other_of k n.0)) (is_text n.1.text (first_of k n.0)) new).0 once)
]

pub once_all : (k : Kept) (ns : List Note) → IsDistinct accusation_eq (accused_in k) → IsDistinct accusation_eq (accused_in (keep_all k ns))
once_all k [] once = once
once_all k (n ∷ ns) once = once_all (keep k n) ns (once_kept k n once)
