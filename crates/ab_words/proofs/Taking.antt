-- What clap answers, in terms of the language.
use Rattle.std.proofs.Common.{◌≡◌, ℕ, List, [], ◌++◌, Option, None, Some, true, false, refl, ap, sym, ◌∙◌, map, subst, not, option_map, fold}
use Rattle.std.proofs.lemmas.Bool.{and_parts, not-true}
use Rattle.clap.specs.Words.{Row, Text, fault_of, matches_of}
use Rattle.clap.specs.Walk.{with_default}
use Rattle.ab_words.specs.Uses.{Use, uses_in}
use Rattle.ab_words.specs.Options.{app_with, has}
use Rattle.ab_words.proofs.Taken.{row_of_use}
use Rattle.ab_words.specs.Found.{uses_of_rows, Answers, HasOnly, EachOnce, Refuses, are_names, are_different, has_dashes}
use Rattle.ab_words.proofs.Opening.{more, more-is}
use Rattle.ab_words.proofs.Rules.{rules, fault-is, matches-is}
use Rattle.ab_words.proofs.Sound.{sound}
use Rattle.ab_words.proofs.Complete.{complete}
use Rattle.ab_words.proofs.Ends.{Defaulted, defaulted}
use Rattle.ab_words.proofs.Lookups.{uses-are, answers}
use Rattle.ab_words.proofs.Counting.{has-only, each-taken}

map-same : {X : Type 0} (o : Option (List X)) → option_map (λ us. [] ++ us) o ≡ o
map-same None = refl
map-same (Some us) = refl

read-is : (ws : List (List ℕ)) → uses_in ws ≡ more None ws
unfolding uses_in
read-is ws = more-is ws [] None ∙ map-same (more None ws)

-- what is known where clap takes the words
pub record Takes (names : List Text) (ws : List (List ℕ)) (rows : List Row) : Type 0 where
  pub read : uses_in ws ≡ Some (uses_of_rows rows)
  pub answers : Answers rows
  pub only : HasOnly names (uses_of_rows rows)

pub takes : (names : List Text) (ws : List (List ℕ)) (rows : List Row) → are_names names ≡ true → has_dashes ws ≡ false → fault_of (app_with names) ws ≡ [] → rows ≡ matches_of (app_with names) ws
    → Takes names ws rows
takes names ws rows fit none free is =
    let parts = and_parts (not (has [] names)) (are_different names) fit in
    let s = ((sound names ws none).0 [] None (sym (fault-is names ws) ∙ free)).1 in
    let ends : rows ≡ fold with_default (map row_of_use s.uses) (rules names) = is ∙ matches-is names ws ∙ ap (λ rs. fold with_default rs (rules names)) s.ends in
    let d : Defaulted (map row_of_use s.uses) rows = subst (Defaulted (map row_of_use s.uses)) (sym ends) (defaulted names (map row_of_use s.uses)) in
    let uses = uses-are names [] rows s.uses s.taken d in
    record {
      read = read-is ws ∙ s.read ∙ ap Some (sym uses);
      answers = answers names rows s.uses s.taken d;
      only = subst (HasOnly names) (sym uses) (has-only names s.uses parts.1 s.taken);
    }

free-is : (names : List Text) (ws : List (List ℕ)) (us : List Use) → are_names names ≡ true → uses_in ws ≡ Some us → EachOnce names us → HasOnly names us
    → (fault_of (app_with names) ws ≡ []) × (has_dashes ws ≡ false)
free-is names ws us fit read each only =
    let parts = and_parts (not (has [] names)) (are_different names) fit in
    let t = each-taken names us parts.1 each only in
    let f = (complete names ws (not-true (has [] names) parts.0)).0 [] [] None us refl refl (sym (read-is ws) ∙ read) (record { taken = t.0; plain = t.1; given = t.2 }) in
    (fault-is names ws ∙ f.0, f.1)

pub refuses-faults : (names : List Text) (ws : List (List ℕ)) → are_names names ≡ true → (fault_of (app_with names) ws ≡ [] → ⊥) → Refuses names ws
refuses-faults names ws fit faults us read each only = faults (free-is names ws us fit read each only).0

pub refuses-dashes : (names : List Text) (ws : List (List ℕ)) → are_names names ≡ true → has_dashes ws ≡ true → Refuses names ws
refuses-dashes names ws fit there us read each only = let f = (free-is names ws us fit read each only).1 in cc (f, there)
