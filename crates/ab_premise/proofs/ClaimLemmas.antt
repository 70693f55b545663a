-- Claims that aren't forged are skipped.
use Rattle.std.proofs.Common.{◌≡◌, ℕ, Bool, true, false, List, [], ◌∷◌, map, Some, refl, sym, ap, ◌∙◌}
use Rattle.std.specs.Prelude.{◌||◌, if◌then◌else◌}
use Rattle.std.specs.List.{list_any}
use Rattle.std.specs.Str.{bytes_eq}
use Rattle.ab_num.specs.declared.party.Party.{Party}
use Rattle.ab_num.specs.Parties.{party_eq}
use Rattle.ab_msg.specs.declared.content.Content.{Content}
use Rattle.ab_msg.specs.Claims.{maker_of}
use Rattle.ab_abs.specs.Faults.{is_faulty}
use Rattle.ab_run.specs.Setups.{RunSetup}
use Rattle.ab_run.specs.Inputs.{Speller}
use Rattle.ab_run.specs.Stages.{forged_in}

-- whether a party is of the list
pub faulty_of : (p : Party) (faulty : List (Party × ℕ)) → list_any (λ e. party_eq p e.0) faulty ≡ list_any (party_eq p) (map (λ e. e.0) faulty)
faulty_of p [] = refl
faulty_of p (e ∷ es) = ap (λ b. party_eq p e.0 || b) (faulty_of p es)

module _ (k : RunSetup) (spell : Speller) (made : List (List ℕ)) (s : Content) (more : List Content) where
  pub faulty_skipped : is_faulty k.faulty (maker_of s) ≡ true → forged_in k spell made (s ∷ more) ≡ forged_in k spell made more
  faulty_skipped bad = ap (λ b. if b || list_any (bytes_eq (spell s)) made then forged_in k spell made more else Some (maker_of s)) bad

  pub made_skipped : list_any (bytes_eq (spell s)) made ≡ true → forged_in k spell made (s ∷ more) ≡ forged_in k spell made more
  made_skipped there = skipped (is_faulty k.faulty (maker_of s))
    where
      skipped : (bad : Bool) → (if bad || list_any (bytes_eq (spell s)) made then forged_in k spell made more else Some (maker_of s)) ≡ forged_in k spell made more
      skipped true = refl
      skipped false = ap (λ b. if b then forged_in k spell made more else Some (maker_of s)) there

-- one that names a correct party which didn't make it is the first that is forged
pub forged_here : (k : RunSetup) (spell : Speller) (made : List (List ℕ)) (s : Content) (more : List Content) (maker : Party) (bytes : List ℕ)
    → maker ≡ maker_of s → bytes ≡ spell s → is_faulty k.faulty maker ≡ false → list_any (bytes_eq bytes) made ≡ false → Some maker ≡ forged_in k spell made (s ∷ more)
forged_here k spell made s more maker bytes is text good new =
    ap Some is
    ∙ sym (ap (λ b. if b || list_any (bytes_eq (spell s)) made then forged_in k spell made more else Some (maker_of s)) (ap (is_faulty k.faulty) (sym is) ∙ good)
    ∙ ap (λ b. if b then forged_in k spell made more else Some (maker_of s)) (ap (λ t. list_any (bytes_eq t) made) (sym text) ∙ new))
