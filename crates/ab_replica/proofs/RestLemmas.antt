-- What stands in a log behind its first entries.
use Rattle.std.proofs.Common.{◌≡◌, ℕ, ◌+◌, ◌<◌, ◌≤◌, List, [], ◌∷◌, ◌++◌, length, take, drop, get_or, slice_get, Some, ap, ◌∙◌, arith}
use Rattle.std.proofs.lemmas.List.{get_or-take, get_or-drop, get_or_default, length-take, length-drop, take_more}
use Rattle.std.proofs.lemmas.Option.{slice_get_within, get_or_from_slice_get}
use Rattle.ab_hist.specs.declared.request.Request.{Request}
use Rattle.ab_hist.specs.Histories.{CanAdd, IsHistory, Precedes}

module _ (h : List Request) (n k : ℕ) (m : Request) (there : slice_get h (n + k) ≡ Some m) where
  here : get_or h (n + k) m ≡ m
  here = get_or_from_slice_get h (n + k) m m there

  within : n + k < length h
  within = slice_get_within h (n + k) m there

  pub behind_more : take (k + 1) (drop n h) ≡ take k (drop n h) ++ m ∷ []
  behind_more =
      let short : k < length (drop n h) = omega (arith, length-drop n h, within) in
      take_more (drop n h) k m short ∙ ap (λ y. take k (drop n h) ++ y ∷ []) (get_or-drop n h k m ∙ here)

  -- it may follow those before it
  pub behind_next : IsHistory h → length h ≤ 65535 → CanAdd (take k (drop n h)) m
  behind_next history few = (
    omega (arith, length-take k (drop n h), length-drop n h, within),
    λ j d short same.
        let low : j < k = omega (arith, short, length-take k (drop n h)) in
        let first : get_or (take k (drop n h)) j d ≡ get_or h (n + j) d = get_or-take k (drop n h) j d low ∙ get_or-drop n h j d in
        let second : get_or h (n + k) d ≡ m = get_or_default h (n + k) d m within ∙ here in
        let pair : Precedes (get_or h (n + j) d) (get_or h (n + k) d) = history (n + j) (n + k) d (omega (arith, low)) within in
        let back : Precedes (get_or (take k (drop n h)) j d) m = rw (first, ← second) pair in
        back same,
  )
