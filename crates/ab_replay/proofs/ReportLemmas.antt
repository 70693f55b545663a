-- The logs of a report, one after another.
use Rattle.std.proofs.Common.{◌≡◌, ℕ, ◌+◌, ◌<◌, List, ◌∷◌, ◌++◌, Bool, true, false, Option, Some, IfSome, if◌then◌else◌, drop, flat_map, length, slice_get, sym, ap, ◌∙◌, append_assoc, subst, inl, inr, arith}
use Rattle.std.proofs.lemmas.List.{at_drop_more}
use Rattle.std.proofs.lemmas.Option.{slice_get_within, slice_get_cases, get_or_from_slice_get}
use Rattle.ab_num.specs.declared.party.Party.TheVariants.{Replica}
use Rattle.ab_text.specs.Reports.{log_text}
use Rattle.ab_abs.specs.Ensembles.{Proto}
use Rattle.ab_replica.specs.Sites.{Site}
use Rattle.ab_cast.specs.Setups.{Setup, is_bad}
use Rattle.ab_replay.specs.Replays.{log_of, logs_from}

next_is : {P : Type 0} (xs : List (Site P)) (r : ℕ) (s : Site P) → slice_get xs r ≡ Some s → drop r xs ≡ s ∷ drop (r + 1) xs
next_is xs r s e = at_drop_more (λ t. t) xs r s (slice_get_within xs r s e) ∙ ap (λ x. x ∷ drop (r + 1) xs) (get_or_from_slice_get xs r s s e)

-- the logs from replica r on, where this says whether it is faulty
logs_at : {P : Type 0} (proto : Proto P) (x : Setup) (xs : List (Site P)) (r : ℕ) (s : Site P) (bad : Bool) → slice_get xs r ≡ Some s → is_bad x (Replica r) ≡ bad
    → logs_from proto x r (drop r xs) ≡ (if bad then logs_from proto x (r + 1) (drop (r + 1) xs) else log_of proto r s ∷ logs_from proto x (r + 1) (drop (r + 1) xs))
logs_at proto x xs r s bad e is =
    ap (logs_from proto x r) (next_is xs r s e)
    ∙ ap (λ b. if b then logs_from proto x (r + 1) (drop (r + 1) xs) else log_of proto r s ∷ logs_from proto x (r + 1) (drop (r + 1) xs)) is

-- the bytes before a faulty replica make one whole with the logs after it
passed : {P : Type 0} (proto : Proto P) (x : Setup) (whole before : List ℕ) (xs : List (Site P)) (r : ℕ) (s : Site P) → slice_get xs r ≡ Some s → is_bad x (Replica r) ≡ true
    → before ++ flat_map log_text (logs_from proto x r (drop r xs)) ≡ whole
    → before ++ flat_map log_text (logs_from proto x (r + 1) (drop (r + 1) xs)) ≡ whole
passed proto x whole before xs r s e bad so = ap (λ t. before ++ flat_map log_text t) (sym (logs_at proto x xs r s true e bad)) ∙ so

-- and those with the log of a correct one
written : {P : Type 0} (proto : Proto P) (x : Setup) (whole before now : List ℕ) (xs : List (Site P)) (r : ℕ) (s : Site P) → slice_get xs r ≡ Some s → is_bad x (Replica r) ≡ false
    → now ≡ before ++ log_text (log_of proto r s)
    → before ++ flat_map log_text (logs_from proto x r (drop r xs)) ≡ whole
    → now ++ flat_map log_text (logs_from proto x (r + 1) (drop (r + 1) xs)) ≡ whole
written proto x whole before now xs r s e good is so =
    let rest = flat_map log_text (logs_from proto x (r + 1) (drop (r + 1) xs)) in
    ap (λ t. t ++ rest) is
    ∙ append_assoc before (log_text (log_of proto r s)) rest
    ∙ ap (λ t. before ++ flat_map log_text t) (sym (logs_at proto x xs r s false e good))
    ∙ so

pub passed_by : {P : Type 0} (proto : Proto P) (x : Setup) (whole before : List ℕ) (xs : List (Site P)) (r : ℕ) → r < length xs → is_bad x (Replica r) ≡ true
    → before ++ flat_map log_text (logs_from proto x r (drop r xs)) ≡ whole
    → before ++ flat_map log_text (logs_from proto x (r + 1) (drop (r + 1) xs)) ≡ whole
passed_by proto x whole before xs r within bad so =
    elim (slice_get_cases xs r).1 [
      | inl at ↦ passed proto x whole before xs r at.0 at.2 bad so
      | inr past ↦ absurd (omega (arith, within, past.0))
    ]

pub written_log : {P : Type 0} (proto : Proto P) (x : Setup) (whole before now : List ℕ) (xs : List (Site P)) (r : ℕ) → r < length xs → is_bad x (Replica r) ≡ false
    → IfSome (slice_get xs r) (λ s. now ≡ before ++ log_text (log_of proto r s))
    → before ++ flat_map log_text (logs_from proto x r (drop r xs)) ≡ whole
    → now ++ flat_map log_text (logs_from proto x (r + 1) (drop (r + 1) xs)) ≡ whole
written_log {P = P} proto x whole before now xs r within good is so =
    elim (slice_get_cases xs r).1 [
      | inl at ↦ written proto x whole before now xs r at.0 at.2 good (subst (λ (o : Option (Site P)). IfSome o (λ s. now ≡ before ++ log_text (log_of proto r s))) at.2 is) so
      | inr past ↦ absurd (omega (arith, within, past.0))
    ]
