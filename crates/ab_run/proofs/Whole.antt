-- What parties show of lists that have forgotten their first entries stands for what was seen.
use Rattle.std.proofs.Common.{◌≡◌, ℕ, ◌+◌, ◌-◌, ◌≤◌, Bool, true, false, List, [], ◌∷◌, ◌++◌, ◌⊎◌, length, map, take, drop, refl, sym, ap, ◌∙◌, subst, inl, inr, arith}
use Rattle.std.specs.Prelude.{Contains, ◌==◌, if◌then◌else◌}
use Rattle.std.proofs.lemmas.Bool.{eqb-true}
use Rattle.std.proofs.lemmas.List.{take-append-drop}
use mathlib.Core.List.{IsPrefix}
use Rattle.ab_num.specs.declared.party.Party.{Party}
use Rattle.ab_num.specs.declared.party.Party.TheVariants.{Replica}
use Rattle.ab_hist.specs.declared.request.Request.{Request}
use Rattle.ab_hist.specs.Digests.{NoCollision, digest_of}
use Rattle.ab_hist.specs.Trimmed.{Trimmed, StandsFor}
use Rattle.ab_msg.specs.declared.content.Content.TheVariants.{Abort}
use Rattle.ab_abs.specs.declared.seen.Seen.{Seen}
use Rattle.ab_abs.specs.declared.seen.Seen.TheVariants.{Invoked, Init, Cert, TrimmedInit, TrimmedCert, Committed}
use Rattle.ab_abs.specs.Acts.{WasMade}
use Rattle.ab_abs.specs.Deeds.{InstanceAct, acts_in}
use Rattle.ab_abs.specs.Observations.{history_at, is_whole_seen, init_seen, cert_seen, whole_in, seen_whole}
use Rattle.ab_abs.proofs.Fronts.{named_front}
use Rattle.ab_run.specs.Setups.{RunSetup, replicas}
use Rattle.ab_run.proofs.Fronts.{same_fronts, front_of_log}
use Rattle.ab_run.proofs.Named.{named_nothing}
use Rattle.ab_run.proofs.Reasons.{IsGood}
use Rattle.ab_run.proofs.Showing.{IsNamedList, IsShownAs, as_it_is, as_init, as_cert, AreShown, nothing, also}

-- where each ABORT states the log, and digests tell beginnings apart, the history that is named is the one that was forgotten
module _ (k : RunSetup) (deeds : List InstanceAct) (log : ℕ → ℕ → List Request) (had : List (List Request)) (apart : NoCollision had)
    (logs_had : (i q : ℕ) → IsGood k q → (log i q ≡ []) ⊎ Contains had (log i q))
    (stated : (i q : ℕ) (l : List Request) → IsGood k q → WasMade (acts_in i deeds) (Abort (Replica q) i l) → l ≡ log i q) where
  abbrev named : ℕ → ℕ → List ℕ → List Request
  named i = history_at k.faulty (replicas k) (log i)

  named_is : (i n q : ℕ) (h : List Request) → IsGood k q → n ≤ length h → IsPrefix (take n h) (log i q) → named i n (digest_of (take n h)) ≡ take n h
  named_is i n q h good fits begins =
      let own = front_of_log n h (log i q) fits begins in
      let front = named_front k.faulty (log i) n (digest_of (take n h)) (replicas k) q good.0 good.1 own.0 (ap digest_of own.1) in
      front.front_is
      ∙ same_fronts had n (log i front.r) (log i q) apart (logs_had i front.r (front.within, front.correct)) (logs_had i q good) (front.digest ∙ ap digest_of (sym own.1)) front.reaches own.0
      ∙ own.1

  pub whole_is : (i : ℕ) (h : List Request) (t : Trimmed) → IsNamedList k deeds i h t → named i t.start t.digest ≡ take t.start h
  whole_is i h t is = by_start t.start refl is.known
    where
      by_start : (n : ℕ) → t.start ≡ n → (t.start ≡ 0) ⊎ ((q : ℕ) × IsGood k q × (l : List Request) × IsPrefix (take t.start h) l × WasMade (acts_in i deeds) (Abort (Replica q) i l)) → named i t.start t.digest ≡ take t.start h
      by_start n at (inl none) = ap (λ m. named i m t.digest) none ∙ named_nothing k.faulty (replicas k) (log i) t.digest ∙ ap (λ m. take m h) (sym none)
      by_start n at (inr (q, good, l, begins, made)) =
          ap (λ d. named i t.start d) (sym is.stands.digest) ∙ named_is i t.start q h good is.stands.reaches (subst (λ (g : List Request). IsPrefix (take t.start h) g) (stated i q l good made) begins)

  pub whole_list : (i : ℕ) (h : List Request) (t : Trimmed) → IsNamedList k deeds i h t → whole_in named i t ≡ h
  whole_list i h t is = ap (λ (g : List Request). g ++ t.rest) (whole_is i h t is) ∙ ap (λ (g : List Request). take t.start h ++ g) (sym is.stands.rest) ∙ take-append-drop t.start h

  from_start : (h : List Request) (t : Trimmed) → StandsFor t h → t.start ≡ 0 → t.rest ≡ h
  from_start h t stands none = sym stands.rest ∙ ap (λ n. drop n h) none

  init_whole : (i r : ℕ) (h : List Request) (t : Trimmed) → IsNamedList k deeds i h t → (b : Bool) → (t.start == 0) ≡ b → seen_whole named (if b then Init (i + 1) r t.rest else TrimmedInit (i + 1) r t.start t.digest t.rest) ≡ Init (i + 1) r h
  init_whole i r h t is true test = ap (λ (g : List Request). Init (i + 1) r g) (from_start h t is.stands (eqb-true t.start 0 test))
  init_whole i r h t is false test =
      let before : i + 1 - 1 ≡ i = omega arith in
      ap (λ (j : ℕ). Init (i + 1) r (whole_in named j t)) before ∙ ap (λ (g : List Request). Init (i + 1) r g) (whole_list i h t is)

  cert_whole : (i : ℕ) (p : Party) (h : List Request) (t : Trimmed) → IsNamedList k deeds i h t → (b : Bool) → (t.start == 0) ≡ b → seen_whole named (if b then Cert i p t.rest else TrimmedCert i p t.start t.digest t.rest) ≡ Cert i p h
  cert_whole i p h t is true test = ap (λ (g : List Request). Cert i p g) (from_start h t is.stands (eqb-true t.start 0 test))
  cert_whole i p h t is false test = ap (λ (g : List Request). Cert i p g) (whole_list i h t is)

  plain_whole : (s : Seen) → is_whole_seen s ≡ true → s ≡ seen_whole named s
  plain_whole (Invoked i c m) whole = refl
  plain_whole (Init i r h) whole = refl
  plain_whole (Cert i p h) whole = refl
  plain_whole (TrimmedInit i r start digest rest) whole = absurd (cc (whole))
  plain_whole (TrimmedCert i p start digest rest) whole = absurd (cc (whole))
  plain_whole (Committed i c m n d reply) whole = refl

  one_whole : (s t : Seen) → IsShownAs k deeds s t → s ≡ seen_whole named t
  one_whole s t (as_it_is u whole) = plain_whole u whole
  one_whole s t (as_init i r h l is) = sym (init_whole i r h l is (l.start == 0) refl)
  one_whole s t (as_cert i p h l is) = sym (cert_whole i p h l is (l.start == 0) refl)

  pub all_whole : (ss ts : List Seen) → AreShown k deeds ss ts → ss ≡ map (seen_whole named) ts
  all_whole ss ts nothing = refl
  all_whole ss ts (also s t us vs one more) = (λ j. one_whole s t one j ∷ all_whole us vs more j)
