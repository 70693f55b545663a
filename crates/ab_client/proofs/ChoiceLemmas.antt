-- Sets of kept ABORTs, and the first of them that brings a list.
use Rattle.std.proofs.Common.{◌≡◌, ℕ, zero, suc, ◌+◌, ◌*◌, Bool, true, false, Option, Some, None, List, [], ◌∷◌, ◌++◌, length, map, arith, refl, sym, ap, ◌∙◌, append-nil, append_assoc, inl}
use Rattle.std.specs.Prelude.{◌≤◌, ◌==◌, ◌&&◌, ◌⊎◌, if◌then◌else◌, is_some, All, IsNone, IfSome, IfOk, Result, Ok, Err}
use Rattle.std.specs.List.{filter}
use Rattle.std.specs.Option.{option_map}
use Rattle.std.proofs.lemmas.Bool.{and_parts, eqb-true}
use Rattle.std.proofs.lemmas.List.Elements.{All-nil}
use Rattle.ab_num.specs.declared.cluster.Cluster.{Cluster}
use Rattle.ab_num.specs.declared.memory.OutOfMemory.{OutOfMemory}
use Rattle.ab_num.specs.Places.{kind_of}
use Rattle.ab_hist.specs.declared.request.Request.{Request}
use Rattle.ab_hist.specs.Trimmed.{Trimmed, untrimmed}
use Rattle.ab_msg.specs.declared.signed.Signed.{Signed}
use Rattle.ab_msg.specs.Contents.{IsStopContent}
use Rattle.ab_msg.specs.Certs.{IsSigned, AreAborts}
use Rattle.ab_abs.specs.Kinds.{needs_equal}
use Rattle.ab_abs.specs.Certificates.{are_apart, history_of}
use Rattle.ab_stable.specs.Certs.{Stated}
use Rattle.ab_stable.specs.Offers.{are_whole, makes_checkpoints, list_stated, with_stated, all_stated, are_enough, agreed_on, list_of, list_in}
use Rattle.ab_run.specs.Clients.{keep, same_list, choices, first_valid, own_cert}
use Rattle.ab_client.specs.Choices.{with_list, or_else, first_choice}
use Rattle.ab_client.proofs.CertLemmas.{history_aborts}

-- ---- a certificate that brings a list has as many ABORTs as one has

module _ (c : Cluster) (j : ℕ) where
  more_count : (n : ℕ) (votes : List Stated) (v : Option Stated) (o : Option (List Stated)) → ((vs : List Stated) → o ≡ Some vs → length vs ≡ n) → with_stated v o ≡ Some votes → length votes ≡ suc n
  more_count n votes None o more both = absurd (cc (both))
  more_count n votes (Some v) None more both = absurd (cc (both))
  more_count n votes (Some v) (Some vs) more both = let all : v ∷ vs ≡ votes = cc (both) in ap length (sym all) ∙ ap suc (more vs refl)

  stated_count : (cert : List Signed) (votes : List Stated) → all_stated c j cert ≡ Some votes → length votes ≡ length cert
  stated_count [] votes is = let none : [] ≡ votes = cc (is) in ap length (sym none)
  stated_count (s ∷ cert) votes is = more_count (length cert) votes (list_stated c j s.content) (all_stated c j cert) (λ vs more. stated_count cert vs more) is

  module _ (cert : List Signed) (t : Trimmed) (formed : All (IsSigned IsStopContent) cert) where
    by_history : (o : Option (List Request)) → history_of c j cert ≡ o → option_map untrimmed o ≡ Some t → AreAborts 1 7 cert
    by_history None is brings = absurd (cc (brings))
    by_history (Some h) is brings = history_aborts c j cert h formed is

    by_enough : (votes : List Stated) (b : Bool) (o : Option Trimmed) → all_stated c j cert ≡ Some votes → are_enough c.f votes ≡ b → (if b then o else None) ≡ Some t → AreAborts 1 7 cert
    by_enough votes true o is enough brings =
        let count = eqb-true (length votes) (2 * c.f + 1) (and_parts (length votes == (2 * c.f + 1)) (are_apart (map (λ v. v.by) votes)) enough).0 in
        let few = c.in_bounds.few_faulty in
        let same = stated_count cert votes is in
        ((omega (arith, count, same), omega (arith, count, same, few)), formed)
    by_enough votes false o is enough brings = absurd (cc (brings))

    by_votes : (o : Option (List Stated)) → all_stated c j cert ≡ o → agreed_on c.f o ≡ Some t → AreAborts 1 7 cert
    by_votes None is brings = absurd (cc (brings))
    by_votes (Some votes) is brings = by_enough votes (are_enough c.f votes) _ is refl brings

    by_kind : (b : Bool) → (if b then agreed_on c.f (all_stated c j cert) else None) ≡ Some t → AreAborts 1 7 cert
    by_kind true brings = by_votes (all_stated c j cert) refl brings
    by_kind false brings = absurd (cc (brings))

    by_whole : (b : Bool) → (if b then option_map untrimmed (history_of c j cert) else list_of c j cert) ≡ Some t → AreAborts 1 7 cert
    by_whole true brings = by_history (history_of c j cert) refl brings
    by_whole false brings = by_kind (makes_checkpoints (kind_of c.plan j)) brings

    pub list_aborts : list_in c j cert ≡ Some t → AreAborts 1 7 cert
    list_aborts brings = by_whole (are_whole cert) brings

-- ---- the first that brings a list

or_else-assoc : {A : Type 0} (x y z : Option A) → or_else (or_else x y) z ≡ or_else x (or_else y z)
or_else-assoc None y z = refl
or_else-assoc (Some x) y z = refl

or_else-none : {A : Type 0} (x : Option A) → or_else x None ≡ x
or_else-none None = refl
or_else-none (Some x) = refl

-- the sets, each behind those that are chosen
abbrev behind : List Signed → List (List Signed) → List (List Signed)
behind chosen sets = map (λ s. chosen ++ s) sets

behind_one : (chosen : List Signed) (s : Signed) (sets : List (List Signed)) → behind chosen (map (λ r. s ∷ r) sets) ≡ behind (chosen ++ s ∷ []) sets
behind_one chosen s [] = refl
behind_one chosen s (r ∷ sets) = λ i. sym (append_assoc chosen (s ∷ []) r) i ∷ behind_one chosen s sets i

behind_both : (chosen : List Signed) (xs ys : List (List Signed)) → behind chosen (xs ++ ys) ≡ behind chosen xs ++ behind chosen ys
behind_both chosen [] ys = refl
behind_both chosen (r ∷ xs) ys = ap (λ l. (chosen ++ r) ∷ l) (behind_both chosen xs ys)

behind_none : (sets : List (List Signed)) → behind [] sets ≡ sets
behind_none [] = refl
behind_none (r ∷ sets) = ap (λ l. r ∷ l) (behind_none sets)

module _ (c : Cluster) (j : ℕ) where
  -- no ABORT brings no list
  nothing_brings : (o : Option Trimmed) → list_in c j [] ≡ o → o ≡ None
  nothing_brings None is = refl
  nothing_brings (Some t) is = absurd (let one = list_aborts c j [] t (All-nil (IsSigned IsStopContent)) is in omega (arith, one.0.0))

  with_none : with_list c j [] ≡ None
  with_none = ap (option_map (λ t. ([], t))) (nothing_brings (list_in c j []) refl)

  with_either : (s other : List Signed) (o : Option Trimmed) → list_in c j s ≡ o → with_list c j (if is_some o then s else other) ≡ or_else (option_map (λ t. (s, t)) o) (with_list c j other)
  with_either s other None is = refl
  with_either s other (Some t) is = ap (option_map (λ u. (s, u))) is

  with_first : (s : List Signed) (sets : List (List Signed)) → with_list c j (first_valid c j (s ∷ sets)) ≡ or_else (with_list c j s) (with_list c j (first_valid c j sets))
  with_first s sets = with_either s (first_valid c j sets) (list_in c j s) refl

  first_both : (xs ys : List (List Signed)) → with_list c j (first_valid c j (xs ++ ys)) ≡ or_else (with_list c j (first_valid c j xs)) (with_list c j (first_valid c j ys))
  first_both [] ys = ap (λ o. or_else o (with_list c j (first_valid c j ys))) (sym with_none)
  first_both (s ∷ xs) ys =
      with_first s (xs ++ ys)
      ∙ ap (or_else (with_list c j s)) (first_both xs ys)
      ∙ sym (or_else-assoc (with_list c j s) (with_list c j (first_valid c j xs)) (with_list c j (first_valid c j ys)))
      ∙ ap (λ o. or_else o (with_list c j (first_valid c j ys))) (sym (with_first s xs))

  chosen_first : (n : ℕ) (chosen rest : List Signed) → first_choice c j chosen n rest ≡ with_list c j (first_valid c j (behind chosen (choices n rest)))
  chosen_first zero chosen rest =
      sym (with_first (chosen ++ []) [] ∙ ap (or_else (with_list c j (chosen ++ []))) with_none ∙ or_else-none (with_list c j (chosen ++ [])) ∙ ap (with_list c j) (append-nil chosen))
  chosen_first (suc n) chosen [] = sym with_none
  chosen_first (suc n) chosen (s ∷ rest) =
      let here = choices n rest in
      let others = choices (suc n) rest in
      (λ i. or_else (chosen_first n (chosen ++ s ∷ []) rest i) (chosen_first (suc n) chosen rest i))
      ∙ sym (first_both (behind (chosen ++ s ∷ []) here) (behind chosen others))
      ∙ ap (λ sets. with_list c j (first_valid c j (sets ++ behind chosen others))) (sym (behind_one chosen s here))
      ∙ ap (λ sets. with_list c j (first_valid c j sets)) (sym (behind_both chosen (map (λ r. s ∷ r) here) others))

  module _ (v : Signed) (kept : List Signed) where
    abbrev pub all : List Signed
    all = keep v kept

    own_by : (equal many : Bool) → needs_equal (kind_of c.plan j) ≡ equal → makes_checkpoints (kind_of c.plan j) ≡ many
        → own_cert c j v kept ≡ (if equal then filter (λ w. same_list v.content w.content) all else if many then first_valid c j (choices (2 * c.f + 1) all) else all)
    own_by equal many e m = λ i. if e i then filter (λ w. same_list v.content w.content) all else if m i then first_valid c j (choices (2 * c.f + 1) all) else all

    pub own_equal : needs_equal (kind_of c.plan j) ≡ true → own_cert c j v kept ≡ filter (λ w. same_list v.content w.content) all
    own_equal e = own_by true (makes_checkpoints (kind_of c.plan j)) e refl

    pub own_all : needs_equal (kind_of c.plan j) ≡ false → makes_checkpoints (kind_of c.plan j) ≡ false → own_cert c j v kept ≡ all
    own_all e m = own_by false false e m

    pub own_chosen : needs_equal (kind_of c.plan j) ≡ false → makes_checkpoints (kind_of c.plan j) ≡ true → first_choice c j [] (2 * c.f + 1) all ≡ with_list c j (own_cert c j v kept)
    own_chosen e m =
        chosen_first (2 * c.f + 1) [] all
        ∙ ap (λ sets. with_list c j (first_valid c j sets)) (behind_none (choices (2 * c.f + 1) all))
        ∙ ap (with_list c j) (sym (own_by false true e m))

-- ---- what is said of a certificate and its list

module _ (c : Cluster) (j : ℕ) (own : List Signed) where
  some_is : (o : Option Trimmed) (x : List Signed × Trimmed) → list_in c j own ≡ o → Some x ≡ option_map (λ t. (own, t)) o → (x.0 ≡ own) × (list_in c j own ≡ Some x.1)
  some_is None x is both = absurd (cc (both))
  some_is (Some t) x is both = let same : x ≡ (own, t) = cc (both) in (ap (λ y. y.0) same, is ∙ ap (λ y. Some y.1) (sym same))

  none_is : (o : Option Trimmed) → ◌≡◌ {A = Option (List Signed × Trimmed)} None (option_map (λ t. (own, t)) o) → o ≡ None
  none_is None both = refl
  none_is (Some t) both = absurd (cc (both))

  pub completed : (r : Result (Option (List Signed × Trimmed)) OutOfMemory) → IfOk r (λ o. o ≡ with_list c j own) → IfOk r (λ o. IfSome o (λ x. AreAborts 1 7 x.0))
      → IfOk r (λ o. IfSome o (λ x. (x.0 ≡ own) × AreAborts 1 7 x.0))
  completed (Ok None) is aborts = tt
  completed (Ok (Some x)) is aborts = ((some_is (list_in c j own) x refl is).0, aborts)
  completed (Err e) is aborts = tt

  pub completed_list : (r : Result (Option (List Signed × Trimmed)) OutOfMemory) → IfOk r (λ o. o ≡ with_list c j own) → IfOk r (λ o. IfSome o (λ x. list_in c j own ≡ Some x.1))
  completed_list (Ok None) is = tt
  completed_list (Ok (Some x)) is = (some_is (list_in c j own) x refl is).1
  completed_list (Err e) is = tt

  pub completed_none : (at : ℕ) (r : Result (Option (List Signed × Trimmed)) OutOfMemory) → IfOk r (λ o. o ≡ with_list c j own) → IfOk r (λ o. IsNone o → (list_in c j own ≡ None) ⊎ (4294967295 ≤ at))
  completed_none at (Ok None) is = λ _. inl (none_is (list_in c j own) is)
  completed_none at (Ok (Some x)) is = λ none. absurd (cc (none))
  completed_none at (Err e) is = tt
