-- What clap takes is of the language.
use Rattle.std.proofs.Common.{◌≡◌, List, [], ◌∷◌, ◌++◌, Option, None, Some, Bool, true, false, refl, ap, sym, ◌∙◌, codes, inl, inr, map, subst, append-nil, append_assoc, option_map}
use Rattle.std.specs.Str.{bytes_eq}
use Rattle.std.proofs.lemmas.Bool.{cases_Bool, or_parts}
use Rattle.std.proofs.lemmas.Slice.Eq.{bytes_eq-Decides}
use Rattle.clap.specs.Words.{Text, Row}
use Rattle.clap.specs.Lexer.{long_of}
use Rattle.clap.specs.Walk.{Walk, idle, option, walked, settled_rows}
use Rattle.clap.specs.Faults.{turn_fault, walk_fault}
use Rattle.clap.specs.Kinds.{Kinds}
use Rattle.clap.specs.declared.error.kind.ErrorKind.TheVariants as kind
use Rattle.ab_words.specs.Uses.{Use, whole, waits, opened, use_with}
use Rattle.ab_words.specs.Options.{is_flag, has}
use Rattle.ab_words.specs.Found.{dashes, has_dashes}
use Rattle.ab_words.proofs.Taken.{row_named, row_of_use, IsTaken, AreTaken, unvalued}
use Rattle.ab_words.proofs.Opening.{more, opened_more, opening-is, opening, opened_as}
use Rattle.ab_words.proofs.Rules.{full_as, full, rules, top, found, held, at, waits_for, or-else-nil, fault_from, fault-step, walk_on}
use Rattle.ab_words.proofs.Turns.{turn_of, walk_of, turn-named, walked-named, used-new, use-fresh, Plain, fails, is_plain, plain-is, stray-turn, value-walk, with_value, value-settles, value-settled, name-fails, used-turn, used-walk, name-turn, name-walk, long-fails, waiting-turn, settling}

-- what the words from here are, if clap takes them
pub record Sound (names : List Text) (rows : List Row) (w : Walk) (waiting : Option Text) (ws : List Text) : Type 0 where
  pub uses : List Use
  pub read : more waiting ws ≡ Some uses
  pub taken : AreTaken names rows uses
  pub ends : settled_rows (rules names) (walk_on names w ws).held.pending (walk_on names w ws).held.rows ≡ rows ++ map row_of_use uses

abbrev pub SoundIdle : List Text → List Text → Type 0
SoundIdle names ws = (rows : List Row) (p : Option (Text × List Text)) → fault_from names (at (held rows p)) ws ≡ []
    → (settling names rows p ≡ []) × Sound names (settled_rows (rules names) p rows) (at (held rows p)) None ws

abbrev pub SoundWaiting : List Text → List Text → Type 0
SoundWaiting names ws = (rows : List Row) (n : Text) → has n names ≡ true → is_flag n ≡ false → fault_from names (waits_for n rows) ws ≡ []
    → Sound names rows (waits_for n rows) (Some n) ws

no : {X : Type 0} (k : _) (ks : Kinds) (a : Kinds) → a ≡ k ∷ ks → a ≡ [] → X
no k ks a e z = absurd cc (e, z)

-- a use more, from where its row is
abbrev pub one : Text → Option Text → Use
one n v = record { name = n; value = v }

sound-more : (names : List Text) (rows : List Row) (w u : Walk) (x : Text) (ws : List Text) (n : Text) (v waiting : Option Text)
    → walked (rules names) [] w x ≡ u → IsTaken names rows (one n v) → (s : Sound names (rows ++ row_named n v ∷ []) u None ws)
    → more waiting (x ∷ ws) ≡ Some (one n v ∷ s.uses) → Sound names rows w waiting (x ∷ ws)
sound-more names rows w u x ws n v waiting goes taken s read = record {
  uses = one n v ∷ s.uses;
  read = read;
  taken = (taken, s.taken);
  ends = ap (λ (y : Walk). settled_rows (rules names) (walk_on names y ws).held.pending (walk_on names y ws).held.rows) goes ∙ s.ends ∙ append_assoc rows (row_named n v ∷ []) (map row_of_use s.uses);
}

-- the value that a name waits for
pub sound-value : (names : List Text) (x : Text) (ws : List Text) → SoundIdle names ws → (rows : List Row) (n : Text) → has n names ≡ true → is_flag n ≡ false
    → walked (rules names) [] (waits_for n rows) x ≡ at (held rows (with_value n x)) → fault_from names (walked (rules names) [] (waits_for n rows) x) ws ≡ []
    → Sound names rows (waits_for n rows) (Some n) (x ∷ ws)
sound-value names x ws idle-sound rows n known is goes free =
    let later = idle-sound rows (with_value n x) (ap (λ y. fault_from names y ws) (sym goes) ∙ free) in
    let fresh = use-fresh n (Some x) rows (sym (value-settles names rows n x known is) ∙ later.0) in
    let as_rows = value-settled names rows n x known is ∙ used-new n (Some x) rows fresh in
    let s : Sound names (rows ++ row_named n (Some x) ∷ []) (at (held rows (with_value n x))) None ws = subst (λ rs. Sound names rs (at (held rows (with_value n x))) None ws) as_rows later.1 in
    sound-more names rows (waits_for n rows) _ x ws n (Some x) (Some n) goes (record { known = known; kind = is; fresh = fresh }) s (ap (option_map (λ us. use_with n x ∷ us)) s.read)

-- ---- one word more

step-free : (names : List Text) (w : Walk) (x : Text) (ws : List Text) → fault_from names w (x ∷ ws) ≡ []
    → (turn_fault (top (rules names)) [] w x ≡ []) × (fault_from names (walked (rules names) [] w x) ws ≡ [])
step-free names w x ws free = or-else-nil _ _ (sym (fault-step names w x ws) ∙ free)

sound-waiting : (names : List Text) (x : Text) (ws : List Text) → SoundIdle names ws → bytes_eq x dashes ≡ false → SoundWaiting names (x ∷ ws)
sound-waiting names x ws idle-sound dash rows n known is free = by-long (long_of x) refl
  where
    both : (turn_fault (top (rules names)) [] (waits_for n rows) x ≡ []) × (fault_from names (walked (rules names) [] (waits_for n rows) x) ws ≡ [])
    both = step-free names (waits_for n rows) x ws free

    by-plain : Plain names (held rows (Some (n, []))) (option n) x → Sound names rows (waits_for n rows) (Some n) (x ∷ ws)
    by-plain (fails e) = no _ _ _ e both.0
    by-plain (is_plain t w) = sound-value names x ws idle-sound rows n known is (w ∙ value-walk names rows n x known is) both.1

    by-long : (o : Option (Text × Option Text)) → long_of x ≡ o → Sound names rows (waits_for n rows) (Some n) (x ∷ ws)
    by-long (Some (m, v)) long = absurd (long-fails names rows n m v known is (waiting-turn names rows n m x v dash long both.0))
    by-long None long = by-plain (plain-is names rows (Some (n, [])) (option n) x dash long)

-- a whole use
pub opens-use : (n : Text) (v : Option Text) → is_flag n ≡ unvalued v → opened_as (is_flag n) (n, v) ≡ whole (one n v)
opens-use n None e = ap (λ b. opened_as b (n, None)) e ∙ ap (λ (m : Text). whole (one m None)) (sym ((bytes_eq-Decides n (codes "trace")).0 e))
opens-use n (Some v) e = refl

pub opens-name : (n : Text) → is_flag n ≡ false → opened_as (is_flag n) (n, None) ≡ waits n
opens-name n e = ap (λ b. opened_as b (n, None)) e

abbrev Idle : List Text → List Row → Option (Text × List Text) → Text → List Text → Type 0
Idle names rows p x ws = (settling names rows p ≡ []) × Sound names (settled_rows (rules names) p rows) (at (held rows p)) None (x ∷ ws)

opened-is : (x n : Text) (v : Option Text) → bytes_eq x dashes ≡ false → long_of x ≡ Some (n, v) → opened x ≡ Some (opened_as (is_flag n) (n, v))
opened-is x n v dash long = opening-is x dash ∙ ap opening long

module _ (names : List Text) (x : Text) (ws : List Text) (rows : List Row) (p : Option (Text × List Text)) (n : Text) (dash : bytes_eq x dashes ≡ false) where
  abbrev base : List Row
  base = settled_rows (rules names) p rows

  sound-use : SoundIdle names ws → (v : Option Text) → long_of x ≡ Some (n, v) → has n names ≡ true → is_flag n ≡ unvalued v
      → turn_fault (top (rules names)) [] (at (held rows p)) x ≡ [] → fault_from names (walked (rules names) [] (at (held rows p)) x) ws ≡ [] → Idle names rows p x ws
  sound-use idle-sound v long known is turn free =
      let which : found (has n names) n ≡ Some (full_as (unvalued v) n) = ap (λ b. found b n) known ∙ ap (λ b. Some (full_as b n)) is in
      let falls = sym (turn-named names (held rows p) x n v dash long ∙ ap (λ o. turn_of names (held rows p) x o v) which ∙ used-turn names rows p x n v) ∙ turn in
      let parts = or-else-nil _ _ (or-else-nil _ _ falls).0 in
      let fresh = use-fresh n v base parts.1 in
      let goes = walked-named names (held rows p) x n v dash long ∙ ap (λ o. walk_of names (held rows p) x o v) which ∙ used-walk names rows p x n v
      ∙ ap (λ rs. at (held rs None)) (used-new n v base fresh) in
      let later = idle-sound (base ++ row_named n v ∷ []) None (ap (λ y. fault_from names y ws) (sym goes) ∙ free) in
      let opens = opened-is x n v dash long ∙ ap Some (opens-use n v is) in
      let read = ap (λ o. opened_more o (more None ws) (λ m. more (Some m) ws)) opens ∙ ap (option_map (λ us. one n v ∷ us)) later.1.read in
      (parts.0, sound-more names base (at (held rows p)) _ x ws n v None goes (record { known = known; kind = is; fresh = fresh }) later.1 read)

  sound-name : SoundWaiting names ws → long_of x ≡ Some (n, None) → has n names ≡ true → is_flag n ≡ false
      → turn_fault (top (rules names)) [] (at (held rows p)) x ≡ [] → fault_from names (walked (rules names) [] (at (held rows p)) x) ws ≡ [] → Idle names rows p x ws
  sound-name waiting-sound long known is turn free =
      let which : found (has n names) n ≡ Some (full_as false n) = ap (λ b. found b n) known ∙ ap (λ b. Some (full_as b n)) is in
      let falls = sym (turn-named names (held rows p) x n None dash long ∙ ap (λ o. turn_of names (held rows p) x o None) which ∙ name-turn names rows p x n) ∙ turn in
      let goes = walked-named names (held rows p) x n None dash long ∙ ap (λ o. walk_of names (held rows p) x o None) which ∙ name-walk names rows p x n in
      let later = waiting-sound base n known is (ap (λ y. fault_from names y ws) (sym goes) ∙ free) in
      let opens = opened-is x n None dash long ∙ ap Some (opens-name n is) in (
        (or-else-nil _ _ falls).0,
        record {
          uses = later.uses;
          read = ap (λ o. opened_more o (more None ws) (λ m. more (Some m) ws)) opens ∙ later.read;
          taken = later.taken;
          ends = ap (λ (y : Walk). settled_rows (rules names) (walk_on names y ws).held.pending (walk_on names y ws).held.rows) goes ∙ later.ends;
        },
      )

  sound-long : SoundIdle names ws → SoundWaiting names ws → (v : Option Text) → long_of x ≡ Some (n, v)
      → turn_fault (top (rules names)) [] (at (held rows p)) x ≡ [] → fault_from names (walked (rules names) [] (at (held rows p)) x) ws ≡ [] → Idle names rows p x ws
  sound-long idle-sound waiting-sound v long turn free = elim (cases_Bool (has n names)) [
    | inl t ↦ by-kind v long t (is_flag n) refl (sym (turn-named names (held rows p) x n v dash long ∙ ap (λ b. turn_of names (held rows p) x (found b n) v) t) ∙ turn)
    | inr f ↦ let e : turn_of names (held rows p) x (found (has n names) n) v ≡ kind.UnknownArgument ∷ [] = ap (λ b. turn_of names (held rows p) x (found b n) v) f in
        no _ _ _ (turn-named names (held rows p) x n v dash long ∙ e) turn
  ]
    where
      by-kind : (v : Option Text) → long_of x ≡ Some (n, v) → has n names ≡ true → (b : Bool) → is_flag n ≡ b → turn_of names (held rows p) x (Some (full n)) v ≡ [] → Idle names rows p x ws
      by-kind (Some v) long t true is e = no _ _ _ (ap (λ b. turn_of names (held rows p) x (Some (full_as b n)) (Some v)) is) e
      by-kind (Some v) long t false is e = sound-use idle-sound (Some v) long t is turn free
      by-kind None long t true is e = sound-use idle-sound None long t is turn free
      by-kind None long t false is e = sound-name waiting-sound long t is turn free

sound-idle : (names : List Text) (x : Text) (ws : List Text) → SoundIdle names ws → SoundWaiting names ws → bytes_eq x dashes ≡ false → SoundIdle names (x ∷ ws)
sound-idle names x ws idle-sound waiting-sound dash rows p free = by-long (long_of x) refl
  where
    both : (turn_fault (top (rules names)) [] (at (held rows p)) x ≡ []) × (fault_from names (walked (rules names) [] (at (held rows p)) x) ws ≡ [])
    both = step-free names (at (held rows p)) x ws free

    by-plain : Plain names (held rows p) idle x → Idle names rows p x ws
    by-plain (fails e) = no _ _ _ e both.0
    by-plain (is_plain t w) = no _ _ _ (t ∙ stray-turn names (held rows p) x) both.0

    by-long : (o : Option (Text × Option Text)) → long_of x ≡ o → Idle names rows p x ws
    by-long (Some (n, v)) long = sound-long names x ws rows p n dash idle-sound waiting-sound v long both.0 both.1
    by-long None long = by-plain (plain-is names rows p idle x dash long)

-- clap takes no other words than those of the language that use each option once
pub sound : (names : List Text) (ws : List Text) → has_dashes ws ≡ false → SoundIdle names ws × SoundWaiting names ws
unfolding walk_fault
sound names [] none = (
  λ rows p free. ((or-else-nil _ _ free).0, record { uses = []; read = refl; taken = tt; ends = sym (append-nil (settled_rows (rules names) p rows)) }),
  λ rows n known is free. no _ _ _ (name-fails names rows n known is) (or-else-nil _ _ free).0,
)
sound names (x ∷ ws) none =
    let dash = or_parts (bytes_eq x dashes) (has_dashes ws) none in
    let later = sound names ws dash.1 in
    (sound-idle names x ws later.0 later.1 dash.0, sound-waiting names x ws later.0 dash.0)
