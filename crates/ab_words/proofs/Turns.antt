-- One word more.
use Rattle.std.proofs.Common.{◌≡◌, List, [], ◌∷◌, ◌++◌, Option, None, Some, Bool, true, false, refl, ap, sym, ◌∙◌, codes, inl, inr, slice_get, chars, length, append-nil, ◌⊎◌}
use Rattle.std.specs.Str.{bytes_eq}
use Rattle.std.proofs.lemmas.Bool.{cases_Bool, or_parts}
use Rattle.std.proofs.lemmas.Slice.Eq.{bytes_eq-Decides}
use Rattle.clap.specs.Words.{Rule, Text, Row}
use Rattle.clap.specs.Lexer.{long_of, short_of}
use Rattle.clap.specs.Walk.{Walk, Held, Waiting, Step, idle, option, plain, walked, used, has_row, settled_rows, long_met, after_flag, after_step, at_row, without, with_values, more_values, bundle_met, bundle_step, bundle, plain_word, subcommand_met, positional}
use Rattle.clap.specs.Faults.{turn_fault, settle_fault, long_fault, step_fault, use_fault, flags_fault, bundle_fault, bundle_step_fault}
use Rattle.clap.specs.Kinds.{Kinds, or_else}
use Rattle.clap.specs.declared.builder.value_parser.Reading.TheVariants.{AsWritten}
use Rattle.clap.specs.declared.parser.matches.ValueSource.TheVariants.{CommandLine}
use Rattle.clap.specs.declared.error.kind.ErrorKind.TheVariants as kind
use Rattle.ab_words.specs.Options.{is_flag, has}
use Rattle.ab_words.proofs.Taken.{kept, row_named, unvalued}
use Rattle.ab_words.proofs.Rules.{full_as, rules, top, found, by-id, by-long, by-short, by-index, held, at, waits_for, or-else-nil}

-- ---- rows

-- the values that clap is given of a use
abbrev pub given : Option Text → List Text
given (Some v) = v ∷ []
given None = []

pub at_row-new : (id : Text) (change : Row → List Row) (missing rows : List Row) → has_row id rows ≡ false → at_row id change missing rows ≡ rows ++ missing
at_row-new id change missing [] h = refl
at_row-new id change missing (r ∷ rs) h =
    let p = or_parts (bytes_eq r.id id) (has_row id rs) h in
    rw p.0 (ap (λ (t : List Row). r ∷ t) (at_row-new id change missing rs p.1))

row-new : (n : Text) (v : Option Text) (rows : List Row) → has_row n rows ≡ false → with_values n AsWritten CommandLine (kept v) (without n rows) ≡ rows ++ row_named n v ∷ []
row-new n v rows h =
    let gone : without n rows ≡ rows = at_row-new n (λ _. []) [] rows h ∙ append-nil rows in
    ap (with_values n AsWritten CommandLine (kept v)) gone ∙ at_row-new n (more_values CommandLine (kept v)) (row_named n v ∷ []) rows h

pub used-new : (n : Text) (v : Option Text) (rows : List Row) → has_row n rows ≡ false → used (full_as (unvalued v) n) (given v) rows ≡ rows ++ row_named n v ∷ []
used-new n None rows h = row-new n None rows h
used-new n (Some v) rows h = row-new n (Some v) rows h

pub use-free : (n : Text) (v : Option Text) (rows : List Row) → has_row n rows ≡ false → use_fault false (full_as (unvalued v) n) (given v) rows ≡ []
use-free n None rows h = rw h refl
use-free n (Some v) rows h = rw h refl

use-conflicts : (n : Text) (v : Option Text) (rows : List Row) → has_row n rows ≡ true → use_fault false (full_as (unvalued v) n) (given v) rows ≡ kind.ArgumentConflict ∷ []
use-conflicts n None rows h = rw h refl
use-conflicts n (Some v) rows h = rw h refl

pub use-fresh : (n : Text) (v : Option Text) (rows : List Row) → use_fault false (full_as (unvalued v) n) (given v) rows ≡ [] → has_row n rows ≡ false
use-fresh n v rows h = elim (cases_Bool (has_row n rows)) [
  | inl t ↦ let e = use-conflicts n v rows t in absurd cc (e, h)
  | inr f ↦ f
]

-- ---- a word with a name, between two uses

abbrev pub turn_of : List Text → Held → Text → Option Rule → Option Text → Kinds
turn_of names h x o v =
    let met = after_flag (rules names) idle x (long_met (rules names) o v h).0 (long_met (rules names) o v h).1 in
    or_else (long_fault (rules names) false o v h) (step_fault (top (rules names)) 1 met.0 met.1)

abbrev pub walk_of : List Text → Held → Text → Option Rule → Option Text → Walk
walk_of names h x o v =
    let met = after_flag (rules names) idle x (long_met (rules names) o v h).0 (long_met (rules names) o v h).1 in
    after_step (rules names) x (at h) met.0 met.1

pub turn-named : (names : List Text) (h : Held) (x n : Text) (v : Option Text) → bytes_eq x (codes "--") ≡ false → long_of x ≡ Some (n, v)
    → turn_fault (top (rules names)) [] (at h) x ≡ turn_of names h x (found (has n names) n) v
turn-named names h x n v dash long = rw (dash, long) (ap (λ o. turn_of names h x o v) (by-long names n))

pub walked-named : (names : List Text) (h : Held) (x n : Text) (v : Option Text) → bytes_eq x (codes "--") ≡ false → long_of x ≡ Some (n, v)
    → walked (rules names) [] (at h) x ≡ walk_of names h x (found (has n names) n) v
unfolding walked
walked-named names h x n v dash long = rw (dash, long) (ap (λ o. walk_of names h x o v) (by-long names n))

-- ---- any other word

-- the flags of a word are unknown, or it has none, where its bytes are no text
bundle-is : (names : List Text) (flags : Text) (rows : List Row) (p : Option (Text × List Text))
    → (bundle_fault (rules names) false flags (held rows p) ≡ kind.UnknownArgument ∷ [])
    ⊎ ((bundle_fault (rules names) false flags (held rows p) ≡ []) × (bundle (rules names) flags (held rows p) ≡ (held rows p, plain)))
unfolding flags_fault bundle_met
bundle-is names [] rows p = inr (refl, refl)
bundle-is names (f ∷ fs) rows p =
    let flags = f ∷ fs in
    let h = held rows p in
    elim (slice_get (chars flags) 0) as (λ c. (bundle_step_fault (rules names) false c flags 0 h (flags_fault (rules names) false (length fs)) ≡ kind.UnknownArgument ∷ [])
    ⊎ ((bundle_step_fault (rules names) false c flags 0 h (flags_fault (rules names) false (length fs)) ≡ []) × (bundle_step (rules names) c flags 0 plain h (bundle_met (rules names) (length fs)) ≡ (h, plain)))) [
      | None ↦ inr (refl, refl)
      | Some c ↦ inl (rw (by-short names c) refl)
    ]

-- what a word is that is no flag, and what fails of it
abbrev pub plain_turn : List Text → Waiting → Text → Held → Kinds
plain_turn names waiting x h = step_fault (top (rules names)) 1 (plain_word (rules names) waiting x h).0 (plain_word (rules names) waiting x h).1

abbrev pub plain_walk : List Text → Walk → Text → Walk
plain_walk names w x = after_step (rules names) x w (plain_word (rules names) w.waiting x w.held).0 (plain_word (rules names) w.waiting x w.held).1

abbrev pub walk_at : Held → Waiting → Walk
walk_at h waiting = record { held = h; waiting = waiting; position = 1; is_trailing = false; stopped = None }

-- the word fails, or is no flag
pub data Plain (names : List Text) (h : Held) (waiting : Waiting) (x : Text) : Type 0 where
  fails : turn_fault (top (rules names)) [] (walk_at h waiting) x ≡ kind.UnknownArgument ∷ [] → Plain names h waiting x
  is_plain : turn_fault (top (rules names)) [] (walk_at h waiting) x ≡ plain_turn names waiting x h
      → walked (rules names) [] (walk_at h waiting) x ≡ plain_walk names (walk_at h waiting) x → Plain names h waiting x

subcommand-none : (waiting : Waiting) (x : Text) → subcommand_met [] waiting x ≡ None
subcommand-none idle x = refl
subcommand-none (option n) x = refl
subcommand-none positional x = refl

pub plain-turn : (names : List Text) (h : Held) (waiting : Waiting) (x : Text) → bytes_eq x (codes "--") ≡ false → long_of x ≡ None → short_of x ≡ None
    → turn_fault (top (rules names)) [] (walk_at h waiting) x ≡ plain_turn names waiting x h
plain-turn names h waiting x dash long short = rw (subcommand-none waiting x, dash, long, short) refl

pub plain-walk : (names : List Text) (h : Held) (waiting : Waiting) (x : Text) → bytes_eq x (codes "--") ≡ false → long_of x ≡ None → short_of x ≡ None
    → walked (rules names) [] (walk_at h waiting) x ≡ plain_walk names (walk_at h waiting) x
unfolding walked
plain-walk names h waiting x dash long short = rw (subcommand-none waiting x, dash, long, short) refl

short_turn : (names : List Text) (rows : List Row) (p : Option (Text × List Text)) (waiting : Waiting) (x flags : Text) → bytes_eq x (codes "--") ≡ false → long_of x ≡ None → short_of x ≡ Some flags
    → Plain names (held rows p) waiting x
unfolding walked
short_turn names rows p waiting x flags dash long short = elim (bundle-is names flags rows p) [
  | inl e ↦ fails (rw (subcommand-none waiting x, dash, long, short, e) refl)
  | inr b ↦ is_plain (rw (subcommand-none waiting x, dash, long, short, b.0, b.1) refl) (rw (subcommand-none waiting x, dash, long, short, b.1) refl)
]

pub plain-is : (names : List Text) (rows : List Row) (p : Option (Text × List Text)) (waiting : Waiting) (x : Text) → bytes_eq x (codes "--") ≡ false → long_of x ≡ None
    → Plain names (held rows p) waiting x
plain-is names rows p waiting x dash long = go (short_of x) refl
  where
    go : (o : Option Text) → short_of x ≡ o → Plain names (held rows p) waiting x
    go None e = is_plain (plain-turn names (held rows p) waiting x dash long e) (plain-walk names (held rows p) waiting x dash long e)
    go (Some flags) e = short_turn names rows p waiting x flags dash long e

-- ---- what is known after the word

-- a value that waits to be used
abbrev pub with_value : Text → Text → Option (Text × List Text)
with_value n v = Some (n, v ∷ [])

pub value-settles : (names : List Text) (rows : List Row) (n v : Text) → has n names ≡ true → is_flag n ≡ false
    → settle_fault (rules names) false (held rows (with_value n v)) ≡ use_fault false (full_as false n) (v ∷ []) rows
value-settles names rows n v known kind = rw (by-id names n, known, kind) refl

pub value-settled : (names : List Text) (rows : List Row) (n v : Text) → has n names ≡ true → is_flag n ≡ false
    → settled_rows (rules names) (with_value n v) rows ≡ used (full_as false n) (v ∷ []) rows
value-settled names rows n v known kind = rw (by-id names n, known, kind) refl

-- a name without its value can't be used
pub name-fails : (names : List Text) (rows : List Row) (n : Text) → has n names ≡ true → is_flag n ≡ false
    → settle_fault (rules names) false (held rows (Some (n, []))) ≡ kind.InvalidValue ∷ []
name-fails names rows n known kind = rw (by-id names n, known, kind) refl

-- a word that is the value of a name
pub value-turn : (names : List Text) (rows : List Row) (n x : Text) → plain_turn names (option n) x (held rows (Some (n, []))) ≡ []
value-turn names rows n x = refl

pub value-walk : (names : List Text) (rows : List Row) (n x : Text) → has n names ≡ true → is_flag n ≡ false
    → plain_walk names (waits_for n rows) x ≡ at (held rows (with_value n x))
value-walk names rows n x known flag = rw (by-id names n, known, flag, (bytes_eq-Decides n n).1 refl) refl

-- a word that is no flag, between two uses
pub stray-turn : (names : List Text) (h : Held) (x : Text) → plain_turn names idle x h ≡ kind.UnknownArgument ∷ []
stray-turn names h x = rw (by-index names 1) refl

abbrev pub settling : List Text → List Row → Option (Text × List Text) → Kinds
settling names rows p = settle_fault (rules names) false (held rows p)

-- a word with a name that is a whole use: what fails of it, and where it leads
pub used-turn : (names : List Text) (rows : List Row) (p : Option (Text × List Text)) (x n : Text) (v : Option Text)
    → turn_of names (held rows p) x (Some (full_as (unvalued v) n)) v
    ≡ or_else (or_else (settling names rows p) (use_fault false (full_as (unvalued v) n) (given v) (settled_rows (rules names) p rows))) []
used-turn names rows p x n None = refl
used-turn names rows p x n (Some v) = refl

pub used-walk : (names : List Text) (rows : List Row) (p : Option (Text × List Text)) (x n : Text) (v : Option Text)
    → walk_of names (held rows p) x (Some (full_as (unvalued v) n)) v ≡ at (held (used (full_as (unvalued v) n) (given v) (settled_rows (rules names) p rows)) None)
used-walk names rows p x n None = refl
used-walk names rows p x n (Some v) = refl

-- a name whose value comes next
pub name-turn : (names : List Text) (rows : List Row) (p : Option (Text × List Text)) (x n : Text)
    → turn_of names (held rows p) x (Some (full_as false n)) None ≡ or_else (settling names rows p) []
name-turn names rows p x n = refl

pub name-walk : (names : List Text) (rows : List Row) (p : Option (Text × List Text)) (x n : Text)
    → walk_of names (held rows p) x (Some (full_as false n)) None ≡ waits_for n (settled_rows (rules names) p rows)
name-walk names rows p x n = refl

-- where a name waits, a word with another name fails
pub long-fails : (names : List Text) (rows : List Row) (n m : Text) (v : Option Text) → has n names ≡ true → is_flag n ≡ false
    → long_fault (rules names) false (found (has m names) m) v (held rows (Some (n, []))) ≡ [] → ⊥
long-fails names rows n m v known is =
    let stuck = name-fails names rows n known is in
    elim (cases_Bool (has m names)) [
      | inr f ↦ λ e. let u : long_fault (rules names) false (found (has m names) m) v (held rows (Some (n, []))) ≡ kind.UnknownArgument ∷ [] = rw f refl in absurd cc (e, u)
      | inl t ↦ λ e. by-kind (is_flag m) v (ap (λ b. long_fault (rules names) false (found b m) v (held rows (Some (n, [])))) (sym t) ∙ e) stuck
    ]
  where
    by-kind : (b : Bool) (v : Option Text) → long_fault (rules names) false (Some (full_as b m)) v (held rows (Some (n, []))) ≡ [] → settling names rows (Some (n, [])) ≡ kind.InvalidValue ∷ [] → ⊥
    by-kind true (Some v) e stuck = absurd cc (e)
    by-kind true None e stuck = let z = (or-else-nil (settling names rows (Some (n, []))) (use_fault false (full_as true m) [] (settled_rows (rules names) (Some (n, [])) rows)) e).0 in absurd cc (z, stuck)
    by-kind false (Some v) e stuck = let z = (or-else-nil (settling names rows (Some (n, []))) (use_fault false (full_as false m) (v ∷ []) (settled_rows (rules names) (Some (n, [])) rows)) e).0 in absurd cc (z, stuck)
    by-kind false None e stuck = absurd cc (e, stuck)

pub waiting-turn : (names : List Text) (rows : List Row) (n m x : Text) (v : Option Text) → bytes_eq x (codes "--") ≡ false → long_of x ≡ Some (m, v)
    → turn_fault (top (rules names)) [] (waits_for n rows) x ≡ [] → long_fault (rules names) false (found (has m names) m) v (held rows (Some (n, []))) ≡ []
waiting-turn names rows n m x v dash long e =
    let h = held rows (Some (n, [])) in
    let met : Option Rule → Held × Step = λ o. after_flag (rules names) (option n) x (long_met (rules names) o v h).0 (long_met (rules names) o v h).1 in
    let is : turn_fault (top (rules names)) [] (waits_for n rows) x ≡ or_else (long_fault (rules names) false (found (has m names) m) v h) (step_fault (top (rules names)) 1 (met (found (has m names) m)).0 (met (found (has m names) m)).1) =
    rw (dash, long) (ap (λ o. or_else (long_fault (rules names) false o v h) (step_fault (top (rules names)) 1 (met o).0 (met o).1)) (by-long names m)) in
    (or-else-nil _ _ (sym is ∙ e)).0
