-- Lists of signatures of which none stands twice, and requests that stand in the front of a log.
use Rattle.std.proofs.Common.{◌≡◌, ℕ, ◌+◌, ◌-◌, ◌<◌, ◌≤◌, Bool, true, false, not, Some, List, [], ◌∷◌, length, drop, take, get_or, map, slice_get, refl, sym, ap, ◌∙◌, subst, arith, length-take, eq-eqb, inl, inr}
use Rattle.std.proofs.lemmas.Bool.{cases_Bool, eqb-true}
use Rattle.std.specs.Prelude.{◌==◌, ◌&&◌, ◌||◌}
use Rattle.std.specs.List.{list_all, list_any}
use Rattle.std.proofs.lemmas.List.{get_or-take}
use Rattle.std.proofs.lemmas.List.Folds.{list_all-map, list_any-append, list_any_at}
use Rattle.std.proofs.lemmas.Option.{get_or_from_slice_get, slice_get_within}
use Rattle.ab_num.proofs.Lists.{drop_read}
use Rattle.ab_hist.specs.declared.request.Request.{Request}
use Rattle.ab_abs.specs.Certificates.{are_apart}
use Rattle.ab_abs.proofs.BookLemmas.{take_more}
use Rattle.ab_zcert.specs.Rules.{has_asked}

module _ {B : Type 0} where
  others : (r : ℕ) (sigs : List (ℕ × B)) → list_all (λ q. not (r == q)) (map (λ (s : ℕ × B). s.0) sigs) ≡ list_all (λ (s : ℕ × B). not (r == s.0)) sigs
  others r sigs = list_all-map (λ q. not (r == q)) (λ (s : ℕ × B). s.0) sigs

  pub apart_ends : (sigs rest : List (ℕ × B)) (i r : ℕ) (s : ℕ × B) → i < length sigs → s ≡ get_or sigs i s → rest ≡ drop (i + 1) sigs → r ≡ s.0 → list_all (λ (t : ℕ × B). not (r == t.0)) rest ≡ false
      → are_apart (map (λ (t : ℕ × B). t.0) (drop i sigs)) ≡ false
  apart_ends sigs rest i r s lt is behind own twice =
      let all : list_all (λ q. not (s.0 == q)) (map (λ (t : ℕ × B). t.0) (drop (i + 1) sigs)) ≡ false =
      others s.0 (drop (i + 1) sigs) ∙ (ap (λ (l : List (ℕ × B)). list_all (λ (t : ℕ × B). not (s.0 == t.0)) l) (sym behind) ∙ (ap (λ (k : ℕ). list_all (λ (t : ℕ × B). not (k == t.0)) rest) (sym own) ∙ twice)) in
      ap (λ l. are_apart (map (λ (t : ℕ × B). t.0) l)) (drop_read sigs i s lt is) ∙ ap (λ b. b && are_apart (map (λ (t : ℕ × B). t.0) (drop (i + 1) sigs))) all

  pub apart_more : (sigs rest : List (ℕ × B)) (i r : ℕ) (s : ℕ × B) → i < length sigs → s ≡ get_or sigs i s → rest ≡ drop (i + 1) sigs → r ≡ s.0 → list_all (λ (t : ℕ × B). not (r == t.0)) rest ≡ true
      → are_apart (map (λ (t : ℕ × B). t.0) (drop i sigs)) ≡ are_apart (map (λ (t : ℕ × B). t.0) (drop (i + 1) sigs))
  apart_more sigs rest i r s lt is behind own once =
      let all : list_all (λ q. not (s.0 == q)) (map (λ (t : ℕ × B). t.0) (drop (i + 1) sigs)) ≡ true =
      others s.0 (drop (i + 1) sigs) ∙ (ap (λ (l : List (ℕ × B)). list_all (λ (t : ℕ × B). not (s.0 == t.0)) l) (sym behind) ∙ (ap (λ (k : ℕ). list_all (λ (t : ℕ × B). not (k == t.0)) rest) (sym own) ∙ once)) in
      ap (λ l. are_apart (map (λ (t : ℕ × B). t.0) l)) (drop_read sigs i s lt is) ∙ ap (λ b. b && are_apart (map (λ (t : ℕ × B). t.0) (drop (i + 1) sigs))) all

-- the request after the first k is the one
pub asked_ends : (log : List Request) (n k : ℕ) (m : Request) (c stamp : ℕ) → k < n → slice_get log (k + 1 - 1) ≡ Some m → m.client ≡ c → m.stamp ≡ stamp → has_asked (take n log) c stamp ≡ true
asked_ends log n k m c stamp lt is by stamped =
    let same : ((m.client == c) && (m.stamp == stamp)) ≡ true = ap (λ b. b && (m.stamp == stamp)) (eq-eqb m.client c by) ∙ eq-eqb m.stamp stamp stamped in
    let at : k + 1 - 1 ≡ k = omega arith in
    let there : slice_get log k ≡ Some m = subst (λ (j : ℕ). slice_get log j ≡ Some m) at is in
    let within = slice_get_within log k m there in
    let read = get_or-take n log k m lt ∙ get_or_from_slice_get log k m m there in
    list_any_at (λ (e : Request). (e.client == c) && (e.stamp == stamp)) (take n log) k m (omega (arith, lt, within, length-take n log)) (ap (λ (e : Request). (e.client == c) && (e.stamp == stamp)) read ∙ same)

no_equal : (a b : ℕ) → (a ≡ b → ⊥) → (a == b) ≡ false
no_equal a b differ = elim (cases_Bool (a == b)) [ inl is ↦ absurd (differ (eqb-true a b is)) | inr other ↦ other ]

pub by_other : (a b : ℕ) (t : Bool) → (a ≡ b → ⊥) → ((a == b) && t) ≡ false
by_other a b t differ = ap (λ s. s && t) (no_equal a b differ)

pub stamped_else : (s : Bool) (a b : ℕ) → (a ≡ b → ⊥) → (s && (a == b)) ≡ false
stamped_else true a b differ = no_equal a b differ
stamped_else false a b differ = refl

-- it isn't
pub asked_more : (log : List Request) (k : ℕ) (m : Request) (c stamp : ℕ) → slice_get log (k + 1 - 1) ≡ Some m → ((m.client == c) && (m.stamp == stamp)) ≡ false → has_asked (take k log) c stamp ≡ false
    → has_asked (take (k + 1) log) c stamp ≡ false
asked_more log k m c stamp is differ none =
    ap (λ l. has_asked l c stamp) (take_more log log k (k + 1) (k + 1 - 1) m refl refl (omega arith) is)
    ∙ (list_any-append (λ (e : Request). (e.client == c) && (e.stamp == stamp)) (take k log) (m ∷ [])
    ∙ (ap (λ b. b || list_any (λ (e : Request). (e.client == c) && (e.stamp == stamp)) (m ∷ [])) none ∙ ap (λ b. b || false) differ))
