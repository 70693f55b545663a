-- The end of the words: flags that were not used get their default, and each option has to be there.
use Rattle.std.proofs.Common.{◌≡◌, List, [], ◌∷◌, ◌++◌, Option, None, Some, Bool, true, false, refl, ap, sym, ◌∙◌, codes, inl, inr, subst, cond, not, ◌||◌, ◌&&◌, ◌⊎◌, fold, find}
use Rattle.std.specs.Str.{bytes_eq}
use Rattle.std.specs.List.{list_any}
use Rattle.std.specs.Option.{option_map_or}
use Rattle.std.proofs.lemmas.Bool.{cases_Bool}
use Rattle.std.proofs.lemmas.Slice.Eq.{bytes_eq-Decides}
use Rattle.clap.specs.Words.{Rule, Text, Row}
use Rattle.clap.specs.Walk.{has_row, settled_rows, with_default, more_values}
use Rattle.clap.specs.Takes.{is_given}
use Rattle.clap.specs.Facts.{explicit_source}
use Rattle.clap.specs.Faults.{defaults_fault, default_fault, check_fault}
use Rattle.clap.specs.Kinds.{or_else, check_kinds}
use Rattle.clap.specs.declared.builder.value_parser.Reading.TheVariants.{AsWritten}
use Rattle.clap.specs.declared.parser.matches.ValueSource.TheVariants.{DefaultValue}
use Rattle.ab_words.specs.Options.{is_flag, is_optional}
use Rattle.ab_words.proofs.Rules.{full_as, full, rules, top, held, ending}
use Rattle.ab_words.proofs.Turns.{settling, at_row-new}

abbrev pub flag_name : Text
flag_name = codes "trace"

-- the row of a flag that was not used
abbrev pub default_row : Row
default_row = record { id = flag_name; values = codes "false" ∷ []; count = None; source = Some DefaultValue; reading = AsWritten }

option-default : (n : Text) (rows : List Row) → with_default rows (full_as false n) ≡ rows
option-default n rows = elim (cases_Bool (has_row n rows)) [ inl t ↦ rw t refl | inr f ↦ rw f refl ]

used-default : (n : Text) (rows : List Row) → has_row n rows ≡ true → with_default rows (full_as true n) ≡ rows
used-default n rows t = rw t refl

unused-default : (rows : List Row) → has_row flag_name rows ≡ false → with_default rows (full_as true flag_name) ≡ rows ++ default_row ∷ []
unused-default rows f =
    let new = at_row-new flag_name (more_values DefaultValue (codes "false" ∷ [])) (default_row ∷ []) rows f in
    rw f new

is-flag-name : (n : Text) → is_flag n ≡ true → n ≡ flag_name
is-flag-name n e = (bytes_eq-Decides n flag_name).0 e

stays : (ns : List Text) (rows : List Row) → has_row flag_name rows ≡ true → fold with_default rows (rules ns) ≡ rows
stays [] rows t = refl
stays (n ∷ ns) rows t = elim (cases_Bool (is_flag n)) [
  | inl e ↦ ap (λ r. fold with_default r (rules ns)) (ap (λ b. with_default rows (full_as b n)) e ∙ used-default n rows (ap (λ m. has_row m rows) (is-flag-name n e) ∙ t)) ∙ stays ns rows t
  | inr e ↦ ap (λ r. fold with_default r (rules ns)) (ap (λ b. with_default rows (full_as b n)) e ∙ option-default n rows) ∙ stays ns rows t
]

has-last : (rows : List Row) → has_row flag_name (rows ++ default_row ∷ []) ≡ true
has-last [] = refl
has-last (r ∷ rs) = elim (cases_Bool (bytes_eq r.id flag_name)) [ inl t ↦ rw t refl | inr f ↦ rw f (has-last rs) ]

-- the rows with the defaults
abbrev pub Defaulted : List Row → List Row → Type 0
Defaulted rows all = (all ≡ rows) ⊎ ((has_row flag_name rows ≡ false) × (all ≡ rows ++ default_row ∷ []))

pub defaulted : (ns : List Text) (rows : List Row) → Defaulted rows (fold with_default rows (rules ns))
defaulted [] rows = inl refl
defaulted (n ∷ ns) rows = elim (cases_Bool (is_flag n)) [
  | inr e ↦ subst (λ r. Defaulted rows (fold with_default r (rules ns))) (sym (ap (λ b. with_default rows (full_as b n)) e ∙ option-default n rows)) (defaulted ns rows)
  | inl e ↦ elim (cases_Bool (has_row flag_name rows)) [
    | inl t ↦ inl (ap (λ r. fold with_default r (rules ns)) (ap (λ b. with_default rows (full_as b n)) e ∙ used-default n rows (ap (λ m. has_row m rows) (is-flag-name n e) ∙ t)) ∙ stays ns rows t)
    | inr f ↦ inr (
      f,
      ap (λ r. fold with_default r (rules ns)) (ap (λ b. with_default rows (full_as b n)) e ∙ ap (λ m. with_default rows (full_as true m)) (is-flag-name n e) ∙ unused-default rows f)
          ∙ stays ns (rows ++ default_row ∷ []) (has-last rows),
    )
  ]
]

-- ---- look-ups past a default

abbrev by_name : Text → List Row → Option Row
by_name n rows = find (λ r. bytes_eq r.id n) rows

find-past : (n : Text) (d : Row) (rows : List Row) → bytes_eq d.id n ≡ false → by_name n (rows ++ d ∷ []) ≡ by_name n rows
find-past n d [] e = rw e refl
find-past n d (r ∷ rs) e = ap (λ o. cond (bytes_eq r.id n) (Some r) o) (find-past n d rs e)

pub flip : (a b : Text) (c : Bool) → bytes_eq a b ≡ c → bytes_eq b a ≡ c
flip a b true e = (bytes_eq-Decides b a).1 (sym ((bytes_eq-Decides a b).0 e))
flip a b false e = elim (cases_Bool (bytes_eq b a)) [
  | inl t ↦ let u : bytes_eq a b ≡ true = (bytes_eq-Decides a b).1 (sym ((bytes_eq-Decides b a).0 t)) in absurd cc (e, u)
  | inr f ↦ f
]

pub found-past : (n : Text) (rows all : List Row) → is_flag n ≡ false → Defaulted rows all → by_name n all ≡ by_name n rows
found-past n rows all e (inl same) = ap (by_name n) same
found-past n rows all e (inr p) = ap (by_name n) p.1 ∙ find-past n default_row rows (flip n flag_name false e)

-- ---- nothing fails

default-free : (rows : List Row) (n : Text) (b : Bool) → default_fault rows (full_as b n) ≡ []
default-free rows n b = elim (cases_Bool (has_row n rows)) [ inl t ↦ by-true b t | inr f ↦ by-false b f ]
  where
    by-true : (b : Bool) → has_row n rows ≡ true → default_fault rows (full_as b n) ≡ []
    by-true true t = rw t refl
    by-true false t = rw t refl

    by-false : (b : Bool) → has_row n rows ≡ false → default_fault rows (full_as b n) ≡ []
    by-false true f = rw f refl
    by-false false f = rw f refl

defaults-free : (ns : List Text) (rows : List Row) → defaults_fault rows (rules ns) ≡ []
unfolding defaults_fault
defaults-free [] rows = refl
defaults-free (n ∷ ns) rows = ap (λ k. or_else k (defaults_fault (with_default rows (full n)) (rules ns))) (default-free rows n (is_flag n)) ∙ defaults-free ns (with_default rows (full n))

-- each of these options is there that may not be left out
abbrev pub AllGiven : List Text → List Row → Type 0
AllGiven [] rows = Unit {0}
AllGiven (n ∷ ns) rows = (is_flag n ≡ false → is_optional n ≡ false → is_given n rows ≡ true) × AllGiven ns rows

abbrev misses : List Row → Rule → Bool
misses rows a = a.required && not (is_given a.id rows)

none-missing : (ns : List Text) (rows all : List Row) → Defaulted rows all → AllGiven ns rows → list_any (misses all) (rules ns) ≡ false
none-missing [] rows all d g = refl
none-missing (n ∷ ns) rows all d g = elim (cases_Bool (is_flag n)) [
  | inl e ↦ ap (λ b. misses all (full_as b n) || list_any (misses all) (rules ns)) e ∙ none-missing ns rows all d g.1
  | inr e ↦ elim (cases_Bool (is_optional n)) [
    | inl o ↦
        ap (λ b. misses all (full_as b n) || list_any (misses all) (rules ns)) e ∙ ap (λ b. (not b && not (is_given n all)) || list_any (misses all) (rules ns)) o ∙ none-missing ns rows all d g.1
    | inr o ↦
        let here : is_given n all ≡ true = ap (λ o. option_map_or (λ (r : Row). explicit_source r.source) o false) (found-past n rows all e d) ∙ g.0 e o in
        ap (λ b. misses all (full_as b n) || list_any (misses all) (rules ns)) e ∙ ap (λ b. (not b && not (is_given n all)) || list_any (misses all) (rules ns)) o
        ∙ ap (λ b. not b || list_any (misses all) (rules ns)) here ∙ none-missing ns rows all d g.1
  ]
]

pub ends-free : (names : List Text) (rows base : List Row) (p : Option (Text × List Text)) → settling names rows p ≡ [] → settled_rows (rules names) p rows ≡ base → AllGiven names base
    → ending names (held rows p) ≡ []
ends-free names rows base p free is all_given =
    let all = fold with_default (settled_rows (rules names) p rows) (rules names) in
    let d : Defaulted base all = subst (λ b. Defaulted b all) is (defaulted names (settled_rows (rules names) p rows)) in
    ap (λ k. or_else k (or_else (defaults_fault (settled_rows (rules names) p rows) (rules names)) (check_fault (top (rules names)) all false))) free
    ∙ ap (λ k. or_else k (check_fault (top (rules names)) all false)) (defaults-free names (settled_rows (rules names) p rows))
    ∙ ap (λ b. check_kinds false false b) (none-missing names base all d all_given)
