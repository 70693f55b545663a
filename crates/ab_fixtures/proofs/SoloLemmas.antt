-- Lists as they are kept.
use Rattle.std.proofs.Common.{◌≡◌, ℕ, ◌-◌, Bool, true, false, List, [], ◌∷◌, ◌++◌, refl, sym, ap, ◌∙◌, arith, length, drop, length-append, append_assoc}
use Rattle.std.specs.Prelude.{nat_lt, ◌&&◌, if◌then◌else◌}
use Rattle.std.proofs.Math.Seq.{drop-nil}
use Rattle.std.proofs.lemmas.List.{append-nil}
use Rattle.ab_hist.specs.declared.request.Request.{Request}
use Rattle.ab_hist.specs.Histories.{can_push}
use Rattle.ab_fixtures.specs.SoloRules.{list_if}

-- nothing stands behind a base that isn't executed
pub not_begun : (b : Bool) (h log : List Request) → b ≡ false → log ≡ list_if b h (drop (length h) log) → h ≡ h ++ drop (length h) log
not_begun true h log is was = absurd (cc (is))
not_begun false h log is was = sym (append-nil h) ∙ ap (λ (l : List Request). h ++ l) (sym (ap (λ (l : List Request). drop (length h) l) was ∙ drop-nil (length h)))

added_if : (h ms : List Request) (m : Request) (b : Bool) → (if b then (h ++ ms) ++ m ∷ [] else h ++ ms) ≡ h ++ (if b then ms ++ m ∷ [] else ms)
added_if h ms m true = append_assoc h ms (m ∷ [])
added_if h ms m false = refl

-- what is added to the list is added behind the base
pub added : (h ms log log' : List Request) (m : Request) (k size base : ℕ) → log ≡ h ++ ms → size ≡ length log → base ≡ length h
    → log' ≡ (if nat_lt (size - base) k && can_push log m then log ++ m ∷ [] else log) → log' ≡ h ++ (if nat_lt (length ms) k && can_push (h ++ ms) m then ms ++ m ∷ [] else ms)
added h ms log log' m k size base is size_is base_is more =
    let behind : size - base ≡ length ms = omega (arith, size_is, base_is, ap length is, length-append h ms) in
    more
    ∙ (ap (λ (l : List Request). if nat_lt (size - base) k && can_push l m then l ++ m ∷ [] else l) is
    ∙ (ap (λ (n : ℕ). if nat_lt n k && can_push (h ++ ms) m then (h ++ ms) ++ m ∷ [] else h ++ ms) behind
    ∙ added_if h ms m (nat_lt (length ms) k && can_push (h ++ ms) m)))
