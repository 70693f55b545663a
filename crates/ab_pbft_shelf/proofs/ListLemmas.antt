-- Lists that are kept in order, and what is found in them.
use Rattle.std.proofs.Common.{◌≡◌, ◌≢◌, ℕ, zero, suc, ◌<◌, ◌≤◌, ◌==◌, true, false, List, [], ◌∷◌, ◌++◌, Option, Some, None, refl, sym, ap, ◌∙◌, subst, inl, inr, arith, length, take, drop, get_or, set}
use Rattle.std.specs.Prelude.{nat_lt, unwrap_or, option_map}
use Rattle.std.specs.List.{find}
use Rattle.std.proofs.lemmas.Bool.{cases_Bool}
use Rattle.std.proofs.lemmas.Bool.Decides.{Decides-eqb, nat_tests}
use Rattle.std.proofs.lemmas.List.{get_or_default, set-get_or}
use Rattle.ab_msg.specs.declared.change.Proof.{Proof}
use Rattle.ab_wire.specs.Inside.{tag_in}
use Rattle.ab_pbft_shelf.specs.declared.kept.Tagged.{Tagged}
use Rattle.ab_pbft_shelf.specs.declared.kept.SignedVote.{SignedVote}
use Rattle.ab_pbft_shelf.specs.Posts.{no_tag}
use Rattle.ab_pbft_shelf.specs.Shelves.{is_for, signer_in, maker_of, view_of, later, put_proof, put_tags, tags_of}

-- ---- VIEW-CHANGEs

pub put_equal : (p : Proof) (xs : List Proof) (i : ℕ) → i < length xs → ((k : ℕ) → k < i → maker_of (get_or xs k p) < maker_of p) → maker_of (get_or xs i p) ≡ maker_of p → put_proof p xs ≡ set xs i (later p (get_or xs i p))
put_equal p [] i lt below here = absurd (omega (arith, lt))
put_equal p (q ∷ xs) zero lt below here =
    let not_less : nat_lt (maker_of p) (maker_of q) ≡ false = grind (arith, nat_tests) in
    let same : (maker_of p == maker_of q) ≡ true = (Decides-eqb (maker_of p) (maker_of q)).1 (sym here) in
    rw (not_less, same) refl
put_equal p (q ∷ xs) (suc i) lt below here =
    let first : maker_of q < maker_of p = below zero (omega arith) in
    let not_less : nat_lt (maker_of p) (maker_of q) ≡ false = grind (arith, nat_tests) in
    let other : (maker_of p == maker_of q) ≡ false = grind (arith, nat_tests) in
    let rest = put_equal p xs i (omega (arith, lt)) (λ k less. below (suc k) (omega (arith, less))) here in
    rw (not_less, other) (ap (λ l. q ∷ l) rest)

pub put_between : (p : Proof) (xs : List Proof) (i : ℕ) → i ≤ length xs → ((k : ℕ) → k < i → maker_of (get_or xs k p) < maker_of p) → (i < length xs → maker_of p < maker_of (get_or xs i p)) → put_proof p xs ≡ take i xs ++ p ∷ drop i xs
put_between p [] zero le below here = refl
put_between p [] (suc i) le below here = absurd (omega (arith, le))
put_between p (q ∷ xs) zero le below here =
    let above : maker_of p < maker_of q = here (omega arith) in
    let less : nat_lt (maker_of p) (maker_of q) ≡ true = grind (arith, nat_tests) in
    rw less refl
put_between p (q ∷ xs) (suc i) le below here =
    let first : maker_of q < maker_of p = below zero (omega arith) in
    let not_less : nat_lt (maker_of p) (maker_of q) ≡ false = grind (arith, nat_tests) in
    let other : (maker_of p == maker_of q) ≡ false = grind (arith, nat_tests) in
    let rest = put_between p xs i (omega (arith, le)) (λ k less. below (suc k) (omega (arith, less))) (λ less. here (omega (arith, less))) in
    rw (not_less, other) (ap (λ l. q ∷ l) rest)

-- ---- tags

tags_at : (t : Tagged) (xs : List Tagged) (i : ℕ) → i < length xs → ((k : ℕ) → k < i → ((get_or xs k t).client == t.client) ≡ false) → ((get_or xs i t).client == t.client) ≡ true → put_tags t xs ≡ set xs i t
tags_at t [] i lt below here = absurd (omega (arith, lt))
tags_at t (o ∷ xs) zero lt below here = rw here refl
tags_at t (o ∷ xs) (suc i) lt below here =
    let first : (o.client == t.client) ≡ false = below zero (omega arith) in
    rw first (ap (λ l. o ∷ l) (tags_at t xs i (omega (arith, lt)) (λ k less. below (suc k) (omega (arith, less))) here))

tags_none : (t : Tagged) (xs : List Tagged) → ((k : ℕ) → k < length xs → ((get_or xs k t).client == t.client) ≡ false) → put_tags t xs ≡ xs ++ t ∷ []
tags_none t [] below = refl
tags_none t (o ∷ xs) below =
    let first : (o.client == t.client) ≡ false = below zero (omega arith) in
    rw first (ap (λ l. o ∷ l) (tags_none t xs (λ k less. below (suc k) (omega (arith, less)))))

module _ (t : Tagged) (xs ys : List Tagged) (i : ℕ) (same : ys ≡ xs) (below : (k : ℕ) (d : Tagged) → k < i → (get_or ys k d).client ≡ t.client → ⊥) where
  differs : (k : ℕ) → k < i → ((get_or xs k t).client == t.client) ≡ false
  differs k less =
      elim (cases_Bool ((get_or xs k t).client == t.client)) [
        | inl its ↦ absurd (subst (λ (l : List Tagged). (get_or l k t).client ≡ t.client → ⊥) same (below k t less) ((Decides-eqb (get_or xs k t).client t.client).0 its))
        | inr other ↦ other
      ]

  pub tags_over : i < length xs → ((d : Tagged) → i < length ys → (get_or ys i d).client ≡ t.client) → put_tags t xs ≡ set xs i t
  tags_over lt here =
      let its = subst (λ (l : List Tagged). i < length l → (get_or l i t).client ≡ t.client) same (here t) lt in
      tags_at t xs i lt differs ((Decides-eqb (get_or xs i t).client t.client).1 its)

  pub tags_after : length xs ≤ i → put_tags t xs ≡ xs ++ t ∷ []
  tags_after full = tags_none t xs (λ k less. differs k (omega (arith, less, full)))

pub tag_in-find : (r : ℕ) (tags : List (ℕ × List ℕ)) → tag_in r tags ≡ option_map (λ t. t.1) (find (λ t. t.0 == r) tags)
tag_in-find r [] = refl
tag_in-find r (t ∷ tags) = elim (cases_Bool (t.0 == r)) [ inl here ↦ rw here refl | inr other ↦ rw other (tag_in-find r tags) ]

-- a kept VIEW-CHANGE that is as late stays
pub later_is : (p q : Proof) (xs : List Proof) (i : ℕ) → i < length xs → q ≡ get_or xs i q → view_of p ≤ view_of q → xs ≡ set xs i (later p (get_or xs i p))
later_is p q xs i lt there late =
    let as_late : nat_lt (view_of q) (view_of p) ≡ false = grind (arith, nat_tests) in
    let e : later p (get_or xs i p) ≡ get_or xs i p = subst (λ (z : Proof). later p z ≡ z) (there ∙ get_or_default xs i q p lt) (rw as_late refl) in
    sym (ap (λ z. set xs i z) e ∙ set-get_or xs i p)

module _ (p : Proof) (maker : ℕ) (xs ys : List Proof) (i : ℕ) (same : ys ≡ xs) (made : maker ≡ maker_of p) (below : (k : ℕ) (d : Proof) → k < i → maker_of (get_or ys k d) < maker) where
  below_it : (k : ℕ) → k < i → maker_of (get_or xs k p) < maker_of p
  below_it k less = let h = subst (λ (l : List Proof). maker_of (get_or l k p) < maker) same (below k p less) in omega (arith, h, made)

  pub put_over : (q : Proof) → i < length xs → q ≡ get_or xs i q → maker_of q ≡ maker → put_proof p xs ≡ set xs i (later p (get_or xs i p))
  put_over q lt there its = put_equal p xs i lt below_it (ap maker_of (sym (there ∙ get_or_default xs i q p lt)) ∙ (its ∙ made))

  pub put_before : (q : Proof) → i < length xs → ((d : Proof) → i < length ys → maker ≤ maker_of (get_or ys i d)) → q ≡ get_or xs i q → (maker_of q ≡ maker → ⊥) → put_proof p xs ≡ take i xs ++ p ∷ drop i xs
  put_before q lt here there differs =
      put_between p xs i (omega (arith, lt)) below_it (λ less.
      let h : maker ≤ maker_of (get_or xs i q) = subst (λ (l : List Proof). i < length l → maker ≤ maker_of (get_or l i q)) same (here q) lt in
      let e : maker_of (get_or xs i p) ≡ maker_of q = ap maker_of (get_or_default xs i p q lt ∙ sym there) in
      let g : maker_of (get_or xs i q) ≡ maker_of q = ap maker_of (sym there) in
      let apart : maker_of q ≢ maker = differs in
      omega (arith, h, e, g, apart, made))

  pub put_last : length xs ≤ i → i ≤ length ys → put_proof p xs ≡ take i xs ++ p ∷ drop i xs
  put_last full within = put_between p xs i (subst (λ (l : List Proof). i ≤ length l) same within) below_it (λ less. absurd (omega (arith, full, less)))

-- ---- what is found

abbrev pub signed_as : ℕ → Option SignedVote → List (ℕ × List ℕ)
signed_as by None = []
signed_as by (Some b) = (by, b.sig) ∷ []

pub signer_in-find : (by slot : ℕ) (x : List ℕ) (ballots : List SignedVote) → signer_in by slot x ballots ≡ signed_as by (find (is_for by slot x) ballots)
signer_in-find by slot x [] = refl
signer_in-find by slot x (b ∷ ballots) = elim (cases_Bool (is_for by slot x b)) [ inl here ↦ rw here refl | inr other ↦ rw other (signer_in-find by slot x ballots) ]

abbrev pub tags_in : Option Tagged → List (ℕ × List ℕ)
tags_in None = []
tags_in (Some t) = t.tags.items

pub tags_of-find : (client : ℕ) (tagged : List Tagged) → tags_of client tagged ≡ tags_in (find (λ t. t.client == client) tagged)
tags_of-find client [] = refl
tags_of-find client (t ∷ tagged) = elim (cases_Bool (t.client == client)) [ inl here ↦ rw here refl | inr other ↦ rw other (tags_of-find client tagged) ]

pub tag_found : (r : ℕ) (tags : List (ℕ × List ℕ)) (t : ℕ × List ℕ) → find (λ u. u.0 == r) tags ≡ Some t → unwrap_or (tag_in r tags) no_tag ≡ t.1
tag_found r tags t is = ap (λ o. unwrap_or o no_tag) (tag_in-find r tags ∙ ap (option_map (λ (u : ℕ × List ℕ). u.1)) is)

pub tag_missing : (r : ℕ) (tags : List (ℕ × List ℕ)) → find (λ u. u.0 == r) tags ≡ None → unwrap_or (tag_in r tags) no_tag ≡ no_tag
tag_missing r tags is = ap (λ o. unwrap_or o no_tag) (tag_in-find r tags ∙ ap (option_map (λ (u : ℕ × List ℕ). u.1)) is)
