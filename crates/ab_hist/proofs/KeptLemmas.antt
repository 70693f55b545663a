-- What is kept beside the requests, when a chunk changes.
use Rattle.std.proofs.Common.{◌≡◌, ℕ, zero, suc, ◌+◌, ◌<◌, List, [], ◌∷◌, ◌++◌, length, take, get_or, slice_get, Some, arith, sym, ◌∙◌, ap, refl, length-append, inl, inr, min}
use Rattle.std.specs.List.{take-map}
use Rattle.std.proofs.lemmas.List.{map-append, length-take, get_or-take, take_all, take-append-le}
use Rattle.std.proofs.lemmas.Bool.{cases_lt}
use Rattle.std.proofs.lemmas.List.Sums.{fold_push}
use Rattle.std.proofs.lemmas.List.Quantifiers.{all_pairs_push}
use Rattle.std.proofs.lemmas.Grind.{common_steps}
use Rattle.ab_num.proofs.Lists.{slice_get-push}
use Rattle.ab_hist.specs.declared.request.Request.{Request}
use Rattle.ab_hist.specs.Requests.{key_of}
use Rattle.ab_hist.specs.Histories.{IsHistory, IsNext, Precedes}
use Rattle.ab_hist.specs.Digests.{link}
use Rattle.ab_hist.specs.Chunks.{digest_from}
use Rattle.ab_hist.specs.Kept.{IsKept}

pub slice_get-append-lt : {X : Type 0} → (xs ys : List X) (i : ℕ) → i < length xs → slice_get (xs ++ ys) i ≡ slice_get xs i
slice_get-append-lt [] ys i h = absurd (omega arith)
slice_get-append-lt (x ∷ xs) ys zero h = refl
slice_get-append-lt (x ∷ xs) ys (suc i) h = slice_get-append-lt xs ys i (omega arith)

pub slice_get-take : {X : Type 0} → (n : ℕ) (xs : List X) (i : ℕ) → i < n → slice_get (take n xs) i ≡ slice_get xs i
slice_get-take zero xs i h = absurd (omega arith)
slice_get-take (suc n) [] i h = refl
slice_get-take (suc n) (x ∷ xs) zero h = refl
slice_get-take (suc n) (x ∷ xs) (suc i) h = slice_get-take n xs i (omega arith)

take_within : {X : Type 0} → (xs : List X) (i n : ℕ) → i < n → take (i + 1) (take n xs) ≡ take (i + 1) xs
take_within xs i n h = grind (arith, common_steps)

pub history-take : (h : List Request) (n : ℕ) → IsHistory h → IsHistory (take n h)
history-take h n history i j d lt within =
    let short : j < length h = omega (arith, length-take n h) in
    let low : j < n = omega (arith, length-take n h) in
    let first : get_or (take n h) i d ≡ get_or h i d = get_or-take n h i d (omega arith) in
    let second : get_or (take n h) j d ≡ get_or h j d = get_or-take n h j d low in
    rw (first, second) (history i j d lt short)

pub IsKept-take : (start : List ℕ) (requests : List Request) (digests : List (List ℕ)) (keys : List (ℕ × ℕ)) (n : ℕ) → IsKept start requests digests keys → IsKept start (take n requests) (take n digests) (take n keys)
IsKept-take start requests digests keys n kept = record {
  history = history-take requests n kept.history;
  few = omega (arith, kept.few, length-take n requests);
  each = length-take n digests ∙ ap (min n) kept.each ∙ sym (length-take n requests);
  digest = λ k lt.
      let low : k < n = omega (arith, length-take n requests) in
      slice_get-take n digests k low ∙ kept.digest k (omega (arith, length-take n requests))
      ∙ ap (λ h. Some (digest_from start h)) (sym (take_within requests k n low));
  in_order = ap (take n) kept.in_order ∙ take-map key_of n requests;
}

module _ (start : List ℕ) (requests : List Request) (digests : List (List ℕ)) (keys : List (ℕ × ℕ)) (m : Request) (kept : IsKept start requests digests keys) where
  digest-push : (k : ℕ) → k < length (requests ++ m ∷ []) → slice_get (digests ++ link (digest_from start requests) m ∷ []) k ≡ Some (digest_from start (take (k + 1) (requests ++ m ∷ [])))
  digest-push k lt = elim (cases_lt k (length requests)) [
    | inl low ↦
        let at : k < length digests = omega (arith, kept.each) in
        slice_get-append-lt digests (link (digest_from start requests) m ∷ []) k at ∙ kept.digest k low
        ∙ ap (λ h. Some (digest_from start h)) (sym (take-append-le (k + 1) requests (m ∷ []) (omega arith)))
    | inr high ↦
        let here : k ≡ length digests = omega (arith, kept.each, length-append requests (m ∷ [])) in
        ap (slice_get (digests ++ link (digest_from start requests) m ∷ [])) here ∙ slice_get-push digests (link (digest_from start requests) m)
        ∙ ap Some (sym (fold_push link start requests m))
        ∙ ap (λ h. Some (digest_from start h)) (sym (take_all (k + 1) (requests ++ m ∷ []) (omega (arith, length-append requests (m ∷ [])))))
  ]

  pub IsKept-push : length requests < 64 → IsNext requests m → IsKept start (requests ++ m ∷ []) (digests ++ link (digest_from start requests) m ∷ []) (keys ++ key_of m ∷ [])
  IsKept-push room next = record {
    history = all_pairs_push Precedes requests m kept.history next;
    few = omega (arith, length-append requests (m ∷ []));
    each = length-append digests (link (digest_from start requests) m ∷ []) ∙ ap (λ n. n + 1) kept.each ∙ sym (length-append requests (m ∷ []));
    digest = digest-push;
    in_order = ap (λ ks. ks ++ key_of m ∷ []) kept.in_order ∙ sym (map-append key_of requests (m ∷ []));
  }
