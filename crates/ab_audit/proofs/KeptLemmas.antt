-- Notes that are kept.
use Rattle.std.proofs.Common.{◌≡◌, ℕ, List, [], ◌∷◌, ◌++◌, ◌||◌, map, Bool, true, false, cond, not, Option, Some, None, is_some, ap, sym, ◌∙◌, refl, if◌then◌else◌, inl, inr, true≢false}
use Rattle.std.specs.List.{filter}
use Rattle.std.specs.Map.{lookup}
use Rattle.std.specs.Borrow.{Bor}
use Rattle.std.specs.Option.{option_copied, option_map}
use Rattle.std.proofs.lemmas.Bool.{cases_Bool, false≢true, or_parts, or_right, or_cases}
use Rattle.std.proofs.lemmas.List.{map-append}
use Rattle.ab_audit.specs.declared.accusation.Accusation.{Accusation}
use Rattle.ab_audit.specs.declared.kept.Found.{Found}
use Rattle.ab_audit.specs.Accusations.{accusation_eq}
use Rattle.ab_audit.specs.Audits.{is_new}
use Rattle.ab_audit.specs.Kept.{Finding, Kept, Note, finding, first_of, found_in, is_known, is_text, keep, keep_all, keep_beside, kept_in, note_in, notes_in, other_of}
use Rattle.ab_audit.proofs.EqLemmas.{derived, derived_test}
use Rattle.ab_audit.proofs.ListLemmas.{or_left}

-- ---- looking up behind more notes

pub lookup_stays : (a : Accusation) (f : Finding) (notes more : List Note) → lookup (accusation_eq a) notes ≡ Some f → lookup (accusation_eq a) (notes ++ more) ≡ Some f
lookup_stays a f [] more h = absurd (cc)
lookup_stays a f (n ∷ ns) more h = elim (cases_Bool (accusation_eq a n.0)) [
  | inl hit ↦ ap (λ (b : Bool). cond b (Some n.1) (lookup (accusation_eq a) (ns ++ more))) hit ∙ (sym (ap (λ (b : Bool). cond b (Some n.1) (lookup (accusation_eq a) ns)) hit) ∙ h)
  | inr miss ↦
      ap (λ (b : Bool). cond b (Some n.1) (lookup (accusation_eq a) (ns ++ more))) miss
      ∙ lookup_stays a f ns more (sym (ap (λ (b : Bool). cond b (Some n.1) (lookup (accusation_eq a) ns)) miss) ∙ h)
]

pub lookup_end : (a : Accusation) (n : Note) (notes : List Note) → lookup (accusation_eq a) notes ≡ None → lookup (accusation_eq a) (notes ++ n ∷ []) ≡ cond (accusation_eq a n.0) (Some n.1) None
lookup_end a n [] h = refl
lookup_end a n (m ∷ ms) h = elim (cases_Bool (accusation_eq a m.0)) [
  | inl hit ↦
      let found : Some m.1 ≡ None = sym (ap (λ (b : Bool). cond b (Some m.1) (lookup (accusation_eq a) ms)) hit) ∙ h in
      absurd (cc)
  | inr miss ↦
      ap (λ (b : Bool). cond b (Some m.1) (lookup (accusation_eq a) (ms ++ n ∷ []))) miss
      ∙ lookup_end a n ms (sym (ap (λ (b : Bool). cond b (Some m.1) (lookup (accusation_eq a) ms)) miss) ∙ h)
]

pub lookup_other : (a : Accusation) (n : Note) (notes : List Note) → accusation_eq a n.0 ≡ false → lookup (accusation_eq a) (notes ++ n ∷ []) ≡ lookup (accusation_eq a) notes
lookup_other a n [] miss = ap (λ (b : Bool). cond b (Some n.1) None) miss
lookup_other a n (m ∷ ms) miss = ap (λ o. cond (accusation_eq a m.0) (Some m.1) o) (lookup_other a n ms miss)

-- ---- in maps

lookup_step : (b : Bool) (f : Found) (found : Option Finding) (rest : Option Found) → found ≡ option_map finding rest
    → cond b (Some (finding f)) found ≡ option_map finding (cond b (Some f) rest)
lookup_step true f found rest is = refl
lookup_step false f found rest is = is

lookup_notes : (test : Accusation → Bool) (es : List (Accusation × Found)) → lookup test (notes_in es) ≡ option_map finding (lookup test es)
lookup_notes test [] = refl
lookup_notes test (e ∷ es) = lookup_step (test e.0) e.1 (lookup test (notes_in es)) (lookup test es) (lookup_notes test es)

-- a finding, as a map has it
pub map_found : (es : List (Accusation × Found)) (about : Accusation) (found : Option Found) → found ≡ lookup (derived about) es
    → lookup (accusation_eq about) (notes_in es) ≡ option_map finding found
map_found es about found is =
    lookup_notes (accusation_eq about) es ∙ ap (λ test. option_map finding (lookup test es)) (sym (derived_test about)) ∙ ap (option_map finding) (sym is)

some_map : (o : Option Found) → is_some o ≡ is_some (option_map finding o)
some_map None = refl
some_map (Some f) = refl

some_found : (es : List (Accusation × Found)) (about : Accusation) → is_some (lookup (derived about) es) ≡ is_some (lookup (accusation_eq about) (notes_in es))
some_found es about = some_map (lookup (derived about) es) ∙ ap is_some (sym (map_found es about (lookup (derived about) es) refl))

module _ (first others : List (Accusation × Found)) (about : Accusation) (text : List ℕ) where
  -- whether it is known, by what the two maps have
  pub known_found : (r : Bool) (found : Option Found) → r ≡ is_some (lookup (derived about) others) → found ≡ lookup (derived about) first
      → (r || is_text text (option_map finding found)) ≡ is_known (kept_in first others) about text
  known_found r found there is =
      ap (λ b. b || is_text text (option_map finding found)) (there ∙ some_found others about)
      ∙ ap (λ o. is_some (other_of (kept_in first others) about) || is_text text o) (sym (map_found first about found is))

pub subjects_kept : (es : List (Accusation × Found)) → map (λ (e : Accusation × Found). e.0) es ≡ map (λ (n : Note). n.0) (notes_in es)
subjects_kept [] = refl
subjects_kept (e ∷ es) = ap (λ l. e.0 ∷ l) (subjects_kept es)

pub borrowed : (o : Option (Bor Found)) → found_in o ≡ option_map finding (option_copied o)
borrowed None = refl
borrowed (Some f) = refl

-- ---- one more note

pub known_keep : (k : Kept) (n : Note) → is_known k n.0 n.1.text ≡ true → keep k n ≡ k
known_keep k n known = ap (λ (b : Bool). if b then k else keep_beside k n (first_of k n.0)) known

pub new_keep : (k : Kept) (n : Note) (o : Option Finding) → is_known k n.0 n.1.text ≡ false → first_of k n.0 ≡ o → keep k n ≡ keep_beside k n o
new_keep k n o new is = ap (λ (b : Bool). if b then k else keep_beside k n (first_of k n.0)) new ∙ ap (keep_beside k n) is

-- ---- one more note, in maps

is_none : (o : Option Found) → is_some o ≡ false → o ≡ None
is_none None h = refl
is_none (Some f) h = absurd (true≢false h)

module _ (first others : List (Accusation × Found)) (about : Accusation) (found : Found) (new : is_known (kept_in first others) about found.text.items ≡ false) where
  abbrev note : Note
  note = note_in (about, found)

  kept_beside : (was : Option Found) → was ≡ lookup (derived about) first → keep_beside (kept_in first others) note (option_map finding was) ≡ keep (kept_in first others) note
  kept_beside was is = sym (new_keep (kept_in first others) note (option_map finding was) new (map_found first about was is))

  free : lookup (derived about) others ≡ None
  free =
      is_none (lookup (derived about) others)
      (some_found others about ∙ (or_parts (is_some (other_of (kept_in first others) about)) (is_text found.text.items (first_of (kept_in first others) about)) new).0)

  pub kept_other : (there : Bool) (after : List (Accusation × Found)) → there ≡ true → there ≡ is_some (lookup (derived about) first) → (lookup (derived about) others ≡ None → after ≡ others ++ (about, found) ∷ [])
      → kept_in first after ≡ keep (kept_in first others) note
  kept_other there after is_there tested added = by (lookup (derived about) first) refl (sym tested ∙ is_there)
    where
      by : (o : Option Found) → o ≡ lookup (derived about) first → is_some o ≡ true → kept_in first after ≡ keep (kept_in first others) note
      by None is has = absurd (false≢true has)
      by (Some known) is has =
          ap (kept_in first) (added free)
          ∙ ap (λ l. record { first = notes_in first; others = l }) (map-append note_in others ((about, found) ∷ []))
          ∙ kept_beside (Some known) is

  pub kept_first : (there : Bool) (after : List (Accusation × Found)) → there ≡ false → there ≡ is_some (lookup (derived about) first) → (lookup (derived about) first ≡ None → after ≡ first ++ (about, found) ∷ [])
      → kept_in after others ≡ keep (kept_in first others) note
  kept_first there after not_there tested added = by (lookup (derived about) first) refl (sym tested ∙ not_there)
    where
      by : (o : Option Found) → o ≡ lookup (derived about) first → is_some o ≡ false → kept_in after others ≡ keep (kept_in first others) note
      by None is has =
          ap (λ l. kept_in l others) (added (sym is))
          ∙ ap (λ l. record { first = l; others = notes_in others }) (map-append note_in first ((about, found) ∷ []))
          ∙ kept_beside None is
      by (Some known) is has = absurd (true≢false has)

-- ---- what is known stays known

text_stays : (t : List ℕ) (o p : Option Finding) → ((f : Finding) → o ≡ Some f → p ≡ Some f) → is_text t o ≡ true → is_text t p ≡ true
text_stays t None p stays h = absurd (false≢true h)
text_stays t (Some f) p stays h = ap (is_text t) (stays f refl) ∙ h

some_stays : (a : Accusation) (notes more : List Note) → is_some (lookup (accusation_eq a) notes) ≡ true → is_some (lookup (accusation_eq a) (notes ++ more)) ≡ true
some_stays a notes more h = by (lookup (accusation_eq a) notes) refl h
  where
    by : (o : Option Finding) → lookup (accusation_eq a) notes ≡ o → is_some o ≡ true → is_some (lookup (accusation_eq a) (notes ++ more)) ≡ true
    by None is has = absurd (false≢true has)
    by (Some f) is has = ap is_some (lookup_stays a f notes more is)

known_beside : (k : Kept) (n : Note) (a : Accusation) (t : List ℕ) (o : Option Finding) → is_known k a t ≡ true → is_known (keep_beside k n o) a t ≡ true
known_beside k n a t None h = elim (or_cases (is_some (other_of k a)) (is_text t (first_of k a)) h) [
  | inl accused ↦ or_left (is_some (other_of k a)) (is_text t (lookup (accusation_eq a) (k.first ++ n ∷ []))) accused
  | inr text ↦ or_right (is_some (other_of k a)) (is_text t (lookup (accusation_eq a) (k.first ++ n ∷ [])))
      (text_stays t (first_of k a) (lookup (accusation_eq a) (k.first ++ n ∷ [])) (λ f is. lookup_stays a f k.first (n ∷ []) is) text)
]
known_beside k n a t (Some known) h = elim (or_cases (is_some (other_of k a)) (is_text t (first_of k a)) h) [
  | inl accused ↦ or_left (is_some (lookup (accusation_eq a) (k.others ++ n ∷ []))) (is_text t (first_of k a)) (some_stays a k.others (n ∷ []) accused)
  | inr text ↦ or_right (is_some (lookup (accusation_eq a) (k.others ++ n ∷ []))) (is_text t (first_of k a)) text
]

known_stays : (k : Kept) (n : Note) (a : Accusation) (t : List ℕ) → is_known k a t ≡ true → is_known (keep k n) a t ≡ true
known_stays k n a t h = elim (cases_Bool (is_known k n.0 n.1.text)) [
  | inl known ↦ ap (λ q. is_known q a t) (known_keep k n known) ∙ h
  | inr new ↦ ap (λ q. is_known q a t) (new_keep k n (first_of k n.0) new refl) ∙ known_beside k n a t (first_of k n.0) h
]

-- notes that tell nothing new may be left out
news_kept : (old k : Kept) → ((a : Accusation) (t : List ℕ) → is_known old a t ≡ true → is_known k a t ≡ true) → (ns : List Note) → keep_all k (filter (is_new old) ns) ≡ keep_all k ns
news_kept old k more [] = refl
news_kept old k more (n ∷ ns) = elim (cases_Bool (is_known old n.0 n.1.text)) [
  | inl known ↦
      ap (λ (b : Bool). keep_all k (cond (not b) (n ∷ filter (is_new old) ns) (filter (is_new old) ns))) known
      ∙ news_kept old k more ns
      ∙ sym (ap (λ q. keep_all q ns) (known_keep k n (more n.0 n.1.text known)))
  | inr new ↦
      ap (λ (b : Bool). keep_all k (cond (not b) (n ∷ filter (is_new old) ns) (filter (is_new old) ns))) new
      ∙ news_kept old (keep k n) (λ a t h. known_stays k n a t (more a t h)) ns
]

pub keep_all-news : (k : Kept) (ns : List Note) → keep_all k (filter (is_new k) ns) ≡ keep_all k ns
keep_all-news k ns = news_kept k k (λ a t h. h) ns
