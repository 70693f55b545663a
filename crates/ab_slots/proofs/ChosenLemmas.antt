-- The values that VIEW-CHANGEs choose, slot by slot.
use Rattle.std.proofs.Common.{◌≡◌, ℕ, suc, ◌+◌, ◌-◌, ◌<◌, ◌≤◌, List, [], ◌∷◌, ◌++◌, length, drop, get_or, sym, ap, ◌∙◌, arith}
use Rattle.std.specs.Prelude.{slice_get}
use Rattle.std.proofs.Math.Seq.{drop-cons}
use Rattle.ab_abs.specs.Values.{goes}
use Rattle.ab_lock.specs.Steps.{Change}
use Rattle.ab_lock.specs.Choosing.{better, best_in, chosen_from, chosen_of}
use Rattle.ab_msg.specs.declared.value.Value.{Value}

-- one VIEW-CHANGE more
pub best_step : (changes : List (Change Value)) (i : ℕ) (c : Change Value) (t : ℕ) → 0 < i → i ≤ length changes → c ≡ get_or changes (i - 1) c
    → best_in (drop (i - 1) changes) t ≡ better c.by (slice_get c.certs t) (best_in (drop i changes) t)
best_step changes i c t some within is =
    let lt : i - 1 < length changes = omega arith in
    let next : suc (i - 1) ≡ i = omega arith in
    ap (λ l. best_in l t) (drop-cons changes (i - 1) c lt ∙ (ap (λ d. d ∷ drop (suc (i - 1)) changes) (sym is) ∙ ap (λ n. c ∷ drop n changes) next))

module _ (vcs : List (Change Value)) where
  abbrev from : ℕ → List Value → List Value
  from n chosen = chosen_from goes vcs n chosen

  -- from the first slot on
  pub chosen_begins : (k : ℕ) (chosen : List Value) → chosen ≡ [] → chosen_of goes k vcs ≡ from (suc k - 0) chosen
  chosen_begins k chosen none =
      let e : suc k ≡ suc k - 0 = omega arith in
      ap (λ n. from n []) e ∙ ap (from (suc k - 0)) (sym none)

  pub chosen_more : (k n : ℕ) (old new : List Value) → n < k + 1 → ((m : ℕ) → from (suc m) old ≡ from m new) → chosen_of goes k vcs ≡ from (suc k - n) old → chosen_of goes k vcs ≡ from (suc k - (n + 1)) new
  chosen_more k n old new lt next so_far =
      let e : suc k - n ≡ suc (suc k - (n + 1)) = omega arith in
      so_far ∙ (ap (λ m. from m old) e ∙ next (suc k - (n + 1)))

  pub chosen_stops : (k n : ℕ) (old new : List Value) → n < k + 1 → ((m : ℕ) → from (suc m) old ≡ new) → chosen_of goes k vcs ≡ from (suc k - n) old → new ≡ chosen_of goes k vcs
  chosen_stops k n old new lt next so_far =
      let e : suc k - n ≡ suc (suc k - (n + 1)) = omega arith in
      sym (so_far ∙ (ap (λ m. from m old) e ∙ next (suc k - (n + 1))))
