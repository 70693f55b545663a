-- Events and the bodies that spell them.
use Rattle.std.proofs.Common.{◌≡◌, ℕ, zero, suc, ◌+◌, ◌≤◌, ◌<◌, List, [], ◌∷◌, map, length, Option, None, Some, Bool, true, false, All, refl, ap, sym, subst, arith, if◌then◌else◌, nat_le, ◌==◌, ◌&&◌, slice_index_or}
use Rattle.std.specs.Prelude.{Vec, is_some}
use Rattle.std.specs.Option.{option_map}
use Rattle.std.specs.declared.alloc.Global.{Global}
use Rattle.std.proofs.lemmas.Bool.{and_parts, le-leb, leb-true, eqb-true}
use Rattle.std.proofs.lemmas.Option.{none-some}
use Rattle.ab_loop.specs.Cores.{NodeEvent, invoke, message, timeout}
use Rattle.ab_num.specs.Limits.{longest_message}
use Rattle.ab_loop.specs.Past.{IsEvent, IsFirstForeign, IsSpelled, Spell, body_of, event_in, event_spelled, longest_command, sized, texts_of}

-- ---- a body that was made

is_sized : (most : ℕ) (bytes : List ℕ) (e : NodeEvent) → 1 ≤ length bytes → length bytes ≤ most → sized most bytes e ≡ Some e
is_sized most bytes e some few = ap (λ b. if b then Some e else None) (λ j. le-leb 1 (length bytes) some j && le-leb (length bytes) most few j)

pub spelled : (e : NodeEvent) → IsEvent e → event_in (body_of e) ≡ Some e
unfolding event_in
spelled (invoke command) good = is_sized longest_command command (invoke command) good.0 good.1
spelled (message bytes) good = is_sized longest_message bytes (message bytes) good.0 good.1
spelled timeout good = refl

-- what a keeper takes
pub body_is_short : (e : NodeEvent) → IsEvent e → length (body_of e) ≤ 4194305
body_is_short (invoke command) good = omega (arith, good.1)
body_is_short (message bytes) good = omega (arith, good.1)
body_is_short timeout good = omega arith

-- ---- a body that spells an event

was_sized : (most : ℕ) (bytes : List ℕ) (e f : NodeEvent) (holds : Bool) → (nat_le 1 (length bytes) && nat_le (length bytes) most) ≡ holds
    → (if holds then Some e else None) ≡ Some f → (e ≡ f) × ((1 ≤ length bytes) × (length bytes ≤ most))
was_sized most bytes e f true is spells =
    let both = and_parts (nat_le 1 (length bytes)) (nat_le (length bytes) most) is in
    (cc, (leb-true 1 (length bytes) both.0, leb-true (length bytes) most both.1))
was_sized most bytes e f false is spells = absurd (none-some _ spells)

empty : (bytes : List ℕ) → (length bytes == 0) ≡ true → bytes ≡ []
empty [] is = refl
empty (b ∷ bs) is = absurd (omega (arith, eqb-true (suc (length bs)) 0 is))

abbrev Spells : List ℕ → NodeEvent → Type 0
Spells body e = (body ≡ body_of e) × IsEvent e

by_code : (code : ℕ) (bytes : List ℕ) (e : NodeEvent) (one two three : Bool) → (code == 1) ≡ one → (code == 2) ≡ two → ((code == 3) && (length bytes == 0)) ≡ three
    → (if one then sized longest_command bytes (invoke bytes) else if two then sized longest_message bytes (message bytes) else if three then Some timeout else None) ≡ Some e
    → Spells (code ∷ bytes) e
by_code code bytes e true two three is is2 is3 spells =
    let was = was_sized longest_command bytes (invoke bytes) e _ refl spells in
    subst (Spells (code ∷ bytes)) was.0 (ap (λ c. c ∷ bytes) (eqb-true code 1 is), was.1)
by_code code bytes e false true three is1 is is3 spells =
    let was = was_sized longest_message bytes (message bytes) e _ refl spells in
    subst (Spells (code ∷ bytes)) was.0 (ap (λ c. c ∷ bytes) (eqb-true code 2 is), was.1)
by_code code bytes e false false true is1 is2 is spells =
    let both = and_parts (code == 3) (length bytes == 0) is in
    let here : timeout ≡ e = cc in
    subst (Spells (code ∷ bytes)) here (λ j. eqb-true code 3 both.0 j ∷ empty bytes both.1 j, tt)
by_code code bytes e false false false is1 is2 is3 spells = absurd (none-some _ spells)

pub alone : (body : List ℕ) (e : NodeEvent) → event_in body ≡ Some e → Spells body e
unfolding event_in
alone [] e spells = absurd (none-some _ spells)
alone (code ∷ bytes) e spells = by_code code bytes e (code == 1) (code == 2) ((code == 3) && (length bytes == 0)) refl refl refl spells

-- ---- many bodies

pub no_event : {R : Type 0} (f : R → NodeEvent) (r : Option R) (event : Option NodeEvent) → option_map f r ≡ event → is_some r ≡ false → event ≡ None
no_event f None event is no_one = sym is
no_event f (Some x) event is no_one = cc

pub found : (bodies : List (Vec ℕ Global)) (n : ℕ) (d : Vec ℕ Global) → n < length bodies → ((k : ℕ) (d : Vec ℕ Global) → k < n → IsSpelled (slice_index_or bodies k d))
    → event_in (slice_index_or bodies n d).items ≡ None → IsFirstForeign (texts_of bodies) (n + 1)
found [] n d lt were none = absurd (omega (arith, lt))
found (b ∷ bs) zero d lt were none =
    record { before = []; events = []; foreign = b.items; behind = texts_of bs; split = refl; spell = refl; none = none; place = refl }
found (b ∷ bs) (suc n) d lt were none =
    let f = found bs n d (omega (arith, lt)) (λ k e less. were (suc k) e (omega (arith, less))) none in
    record {
      before = b.items ∷ f.before;
      events = event_spelled b.items ∷ f.events;
      foreign = f.foreign;
      behind = f.behind;
      split = ap (λ rest. b.items ∷ rest) f.split;
      spell = λ j. were 0 b (omega arith) j ∷ f.spell j;
      none = f.none;
      place = omega (arith, f.place);
    }

pub all_spell : (bodies : List (Vec ℕ Global)) → All IsSpelled bodies → Spell (texts_of bodies) (map (λ body. event_spelled body.items) bodies)
all_spell [] all = refl
all_spell (b ∷ bs) all = λ j. all 0 b (omega arith) j ∷ all_spell bs (λ k d lt. all (suc k) d (omega (arith, lt))) j
