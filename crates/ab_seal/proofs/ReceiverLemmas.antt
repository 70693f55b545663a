-- The tags of a request, receiver by receiver.
use Rattle.std.proofs.Common.{◌≡◌, ℕ, zero, suc, ◌+◌, Bool, true, false, cond, List, [], ◌∷◌, ◌++◌, map, refl, sym, ap, ◌∙◌, arith, append-nil}
use Rattle.std.specs.List.{filter, range_with_len}
use Rattle.std.proofs.lemmas.List.{map-append}
use Rattle.std.proofs.lemmas.List.Elements.{filter-append}
use Rattle.ab_num.specs.declared.party.Party.TheVariants.{Replica}
use Rattle.ab_num.specs.declared.plan.Plan.{Plan}
use Rattle.ab_num.specs.Places.{kind_of}
use Rattle.ab_keys.specs.Rings.{Ring}
use Rattle.ab_seal.specs.Receivers.{is_receiver}
use Rattle.ab_seal.specs.Sealing.{tag_made}

range_with_len-more : (a n : ℕ) → range_with_len a (suc n) ≡ range_with_len a n ++ (a + n) ∷ []
range_with_len-more a zero = ap (λ k. k ∷ []) (let e : a ≡ a + zero = omega arith in e)
range_with_len-more a (suc n) =
    ap (λ l. a ∷ l) (range_with_len-more (a + 1) n ∙ ap (λ k. range_with_len (a + 1) n ++ k ∷ []) (let e : a + 1 + n ≡ a + suc n = omega arith in e))

cond-map : {A B : Type 0} (g : A → B) (b : Bool) (x : A) → map g (cond b (x ∷ []) []) ≡ cond b (g x ∷ []) []
cond-map g true x = refl
cond-map g false x = refl

-- one number more
picked-more : {A : Type 0} (g : ℕ → A) (test : ℕ → Bool) (n : ℕ)
    → map g (filter test (range_with_len 0 (n + 1))) ≡ map g (filter test (range_with_len 0 n)) ++ cond (test n) (g n ∷ []) []
picked-more g test n =
    ap (λ k. map g (filter test (range_with_len 0 k))) (let e : n + 1 ≡ suc n = omega arith in e)
    ∙ ap (λ l. map g (filter test l)) (range_with_len-more 0 n)
    ∙ ap (λ k. map g (filter test (range_with_len 0 n ++ k ∷ []))) (let e : 0 + n ≡ n = omega arith in e)
    ∙ ap (map g) (filter-append test (range_with_len 0 n) (n ∷ []))
    ∙ map-append g (filter test (range_with_len 0 n)) (filter test (n ∷ []))
    ∙ ap (λ l. map g (filter test (range_with_len 0 n)) ++ l) (cond-map g (test n) n)

-- the number passes the test, and is taken
picked : {A : Type 0} (g : ℕ → A) (test : ℕ → Bool) (n : ℕ) (xs ys : List A)
    → xs ≡ map g (filter test (range_with_len 0 n)) → test n ≡ true → ys ≡ xs ++ g n ∷ [] → ys ≡ map g (filter test (range_with_len 0 (n + 1)))
picked g test n xs ys is passes more =
    more ∙ ap (λ l. l ++ g n ∷ []) is ∙ sym (picked-more g test n ∙ ap (λ b. map g (filter test (range_with_len 0 n)) ++ cond b (g n ∷ []) []) passes)

-- the number doesn't pass the test, and is left out
passed_over : {A : Type 0} (g : ℕ → A) (test : ℕ → Bool) (n : ℕ) (xs : List A)
    → xs ≡ map g (filter test (range_with_len 0 n)) → test n ≡ false → xs ≡ map g (filter test (range_with_len 0 (n + 1)))
passed_over g test n xs is fails =
    is ∙ sym (picked-more g test n ∙ ap (λ b. map g (filter test (range_with_len 0 n)) ++ cond b (g n ∷ []) []) fails ∙ append-nil (map g (filter test (range_with_len 0 n))))

-- the tags for the receivers below r
abbrev pub tags_below : Ring → Plan → ℕ → ℕ → List ℕ → ℕ → List (ℕ × List ℕ)
tags_below ring plan f instance text r = map (λ n. (n, tag_made ring (Replica n) text)) (filter (is_receiver (kind_of plan instance) f instance) (range_with_len 0 r))

pub tag_added : (ring : Ring) (plan : Plan) (f instance : ℕ) (text : List ℕ) (r : ℕ) (tag : List ℕ) (xs ys : List (ℕ × List ℕ)) (b : Bool)
    → xs ≡ tags_below ring plan f instance text r → b ≡ true → b ≡ is_receiver (kind_of plan instance) f instance r → tag ≡ tag_made ring (Replica r) text → ys ≡ xs ++ (r, tag) ∷ []
    → ys ≡ tags_below ring plan f instance text (r + 1)
tag_added ring plan f instance text r tag xs ys b is is_true tells made more =
    picked (λ n. (n, tag_made ring (Replica n) text)) (is_receiver (kind_of plan instance) f instance) r xs ys is (sym tells ∙ is_true)
    (more ∙ ap (λ t. xs ++ (r, t) ∷ []) made)

pub tag_left_out : (ring : Ring) (plan : Plan) (f instance : ℕ) (text : List ℕ) (r : ℕ) (xs : List (ℕ × List ℕ)) (b : Bool)
    → xs ≡ tags_below ring plan f instance text r → b ≡ false → b ≡ is_receiver (kind_of plan instance) f instance r
    → xs ≡ tags_below ring plan f instance text (r + 1)
tag_left_out ring plan f instance text r xs b is is_false tells =
    passed_over (λ n. (n, tag_made ring (Replica n) text)) (is_receiver (kind_of plan instance) f instance) r xs is (sym tells ∙ is_false)
