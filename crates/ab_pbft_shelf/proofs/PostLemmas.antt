-- What is posted deed by deed.
use Rattle.std.proofs.Common.{◌≡◌, ℕ, ◌+◌, ◌<◌, ◌≤◌, List, [], ◌∷◌, ◌++◌, refl, sym, ap, ◌∙◌, arith, length, take, get_or}
use Rattle.std.specs.Prelude.{cond, count_by}
use Rattle.std.proofs.lemmas.Grind.{flat_map-append}
use Rattle.std.proofs.lemmas.List.{append-nil, length-append, take_more}
use Rattle.std.proofs.lemmas.List.Folds.{length-flat_map-take}
use Rattle.std.proofs.lemmas.List.Sums.{sum_by-cons}
use Rattle.ab_slots.specs.declared.notice.Notice.{Notice}
use Rattle.ab_slots.specs.declared.notice.Notice.TheVariants.{Signs, Prepares, Changes, Enters, Offers, Leads}
use Rattle.ab_pbft_shelf.specs.declared.author.Author.{Author}
use Rattle.ab_pbft_shelf.specs.Posts.{Post, is_signed, posts, posts_all, signed_by, signed_in_all, signings}

module _ (by : Author) where
  posts_both : (xs ys : List Notice) (p : Post) → posts_all by (xs ++ ys) p ≡ posts_all by ys (posts_all by xs p)
  posts_both [] ys p = refl
  posts_both (d ∷ xs) ys p = posts_both xs ys (posts by d p)

  signings_both : (xs ys : List Notice) → signings by (xs ++ ys) ≡ signings by xs + signings by ys
  signings_both xs ys = ap length (flat_map-append (signed_by by) xs ys) ∙ length-append (signed_in_all by xs) (signed_in_all by ys)

  signings_one : (d : Notice) → signings by (d ∷ []) ≡ length (signed_by by d)
  signings_one d = ap length (append-nil (signed_by by d))

  signed_as : (d : Notice) → length (signed_by by d) ≡ cond (is_signed d) 1 0
  signed_as (Signs view slot x) = refl
  signed_as (Prepares view slot value) = refl
  signed_as (Changes view entries) = refl
  signed_as (Enters view) = refl
  signed_as (Offers view slot value) = refl
  signed_as (Leads view) = refl

  -- so many of them are signed
  pub signings_as : (deeds : List Notice) → signings by deeds ≡ count_by is_signed deeds
  signings_as [] = refl
  signings_as (d ∷ deeds) =
      let both : length (signed_by by d) + signings by deeds ≡ cond (is_signed d) 1 0 + count_by is_signed deeds = λ j. signed_as d j + signings_as deeds j in
      length-append (signed_by by d) (signed_in_all by deeds) ∙ (both ∙ sym (sum_by-cons (λ x. cond (is_signed x) 1 0) d deeds))

  module _ (deeds : List Notice) (i : ℕ) (d : Notice) (lt : i < length deeds) (there : d ≡ get_or deeds i d) where
    taken : take (i + 1) deeds ≡ take i deeds ++ d ∷ []
    taken = take_more deeds i d lt ∙ ap (λ z. take i deeds ++ z ∷ []) (sym there)

    pub one_more : (p q r : Post) → posts_all by (take i deeds) p ≡ q → posts by d q ≡ r → posts_all by (take (i + 1) deeds) p ≡ r
    one_more p q r before now = ap (λ l. posts_all by l p) taken ∙ (posts_both (take i deeds) (d ∷ []) p ∙ (ap (posts by d) before ∙ now))

    pub signs_more : signings by (take (i + 1) deeds) ≡ signings by (take i deeds) + length (signed_by by d)
    signs_more = ap (signings by) taken ∙ (signings_both (take i deeds) (d ∷ []) ∙ ap (λ n. signings by (take i deeds) + n) (signings_one d))

    pub signs_most : signings by (take i deeds) + length (signed_by by d) ≤ signings by deeds
    signs_most =
        let most = length-flat_map-take (signed_by by) deeds i d lt in
        let same : length (signed_by by (get_or deeds i d)) ≡ length (signed_by by d) = ap (λ z. length (signed_by by z)) (sym there) in
        omega (arith, most, same)
