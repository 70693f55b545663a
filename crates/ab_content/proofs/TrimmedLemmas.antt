-- Lists that have forgotten their first entries, as bytes.
use Rattle.std.proofs.Common.{◌≡◌, ◌≢◌, ◌∙◌, ℕ, ◌-◌, ◌^◌, ◌<◌, ◌≤◌, leb, eqb, cond, Bool, true, false, ◌&&◌, ◌||◌, List, ◌++◌, length, Result, Ok, Err, IfOk, refl, sym, ap, subst, arith, lit<, append_assoc}
use Rattle.std.specs.Prelude.{min}
use Rattle.std.specs.Int.{w16}
use Rattle.std.proofs.lemmas.Bool.{leb-true, le-leb, eqb-true, eqb-false, ne_eqb, and_parts, or_right}
use Rattle.ab_hist.specs.declared.request.Request.{Request}
use Rattle.ab_form.specs.declared.bad.Bad.{Bad}
use Rattle.ab_form.specs.declared.bad.Bad.TheVariants.{BadLength, BadField}
use Rattle.ab_form.specs.Readers.{Reader, number_at, bytes_at, ranged_at, made, both, either, within, Gives}
use Rattle.ab_form.specs.Formats.{IsBytes, Takes, IsFormat, IsWithin, EachFits, Stays, spell_each, u16_bytes}
use Rattle.ab_form.proofs.StepLemmas.{bind_ok, done_is, passed}
use Rattle.ab_form.proofs.FormatLemmas.{same-format, inject-format, either-format, both-format, after-format, checked-format, made-stays, respelled, many-format, many-stays}
use Rattle.ab_form.proofs.PartLemmas.{u16-format, bytes-format}
use Rattle.ab_msg.specs.Fields.{IsWritten, IsSpellable, spell_history, spell_request, spell_trimmed}
use Rattle.ab_content.specs.Histories.{entry_at, later, no_stamps, history_at}
use Rattle.ab_content.proofs.PartLemmas.{IsEntry, entry-format, entries-written, written-entries, above-none, history-format, u16_number-format}
use Rattle.ab_hist.specs.Trimmed.{Trimmed, untrimmed}
use Rattle.ab_content.specs.TrimmedLists.{entries_at, rest_at, trimmed_from, forgot_at, first_at, trimmed_at}

-- ---- the first number

-- no first number
pub at_no_number : (forgets : Bool) (bytes : List ℕ) (bad : Bad) → number_at w16 bytes ≡ Err bad → trimmed_at forgets bytes ≡ Err bad
unfolding trimmed_at
at_no_number forgets bytes bad e = rw e refl

counted-by : (forgets : Bool) (bytes : List ℕ) (a : ℕ × List ℕ) (few : Bool) → number_at w16 bytes ≡ Ok a → (forgets && eqb a.0 65535) ≡ false → leb a.0 1024 ≡ few
    → trimmed_at forgets bytes ≡ made untrimmed history_at bytes
unfolding trimmed_at history_at ranged_at
counted-by forgets bytes a true e other is =
    let differs : eqb a.0 65535 ≡ false = ne_eqb a.0 65535 (λ same. absurd (omega (arith, same, leb-true a.0 1024 is))) in
    let low : leb 0 a.0 ≡ true = le-leb 0 a.0 (omega arith) in
    rw (e, is, low, differs) refl
counted-by forgets bytes a false e other is =
    let low : leb 0 a.0 ≡ true = le-leb 0 a.0 (omega arith) in
    rw (e, is, low, other) refl

-- the first number is a count
pub at_count : (forgets : Bool) (bytes : List ℕ) (a : ℕ × List ℕ) → number_at w16 bytes ≡ Ok a → (forgets && eqb a.0 65535) ≡ false → trimmed_at forgets bytes ≡ made untrimmed history_at bytes
at_count forgets bytes a e other = counted-by forgets bytes a (leb a.0 1024) e other refl

-- the first number says that entries are forgotten
pub at_mark : (forgets : Bool) (bytes : List ℕ) (a : ℕ × List ℕ) → number_at w16 bytes ≡ Ok a → (forgets && eqb a.0 65535) ≡ true → trimmed_at forgets bytes ≡ forgot_at a.1
unfolding trimmed_at
at_mark forgets bytes a e marked =
    let passes : (leb a.0 1024 || (forgets && eqb a.0 65535)) ≡ true = or_right (leb a.0 1024) (forgets && eqb a.0 65535) marked in
    rw (e, passes, (and_parts forgets (eqb a.0 65535) marked).1) refl

-- the number of entries behind the forgotten ones is a count of a history
pub at_rest : (start most : ℕ) (bytes : List ℕ) (a : ℕ × List ℕ) → most ≡ min 1024 (65535 - start) → ranged_at w16 0 most BadLength bytes ≡ Ok a → rest_at start bytes ≡ history_at bytes
unfolding rest_at history_at ranged_at
at_rest start most bytes a is e =
    let n = bind_ok (number_at w16 bytes) (λ m. cond (within 0 most m.0) (Ok m) (Err BadLength)) a e in
    let g = passed (within 0 most n.0.0) BadLength n.0 a n.2 in
    let p = and_parts (leb 0 n.0.0) (leb n.0.0 most) g.0 in
    let small : leb n.0.0 1024 ≡ true = le-leb n.0.0 1024 (omega (arith, is, leb-true n.0.0 most p.1)) in
    rw (← is, n.1, g.0, p.0, small) refl

pub at_no_rest : (start most : ℕ) (bytes : List ℕ) (bad : Bad) → most ≡ min 1024 (65535 - start) → ranged_at w16 0 most BadLength bytes ≡ Err bad → rest_at start bytes ≡ Err bad
unfolding rest_at
at_no_rest start most bytes bad is e = rw (← is, e) refl

-- ---- today's readers

today-by : (bytes : List ℕ) (v : Result (ℕ × List ℕ) Bad) → number_at w16 bytes ≡ v → trimmed_at false bytes ≡ made untrimmed history_at bytes
unfolding history_at ranged_at
today-by bytes (Ok a) e = at_count false bytes a e refl
today-by bytes (Err bad) e = at_no_number false bytes bad e ∙ sym (rw e refl)

pub today : (bytes : List ℕ) → trimmed_at false bytes ≡ made untrimmed history_at bytes
today bytes = today-by bytes (number_at w16 bytes) refl

-- ---- entries

entries-stays : (n : ℕ) → Stays (entries_at n)
entries-stays n = many-stays entry_at later (λ last. (entry-format last).stays) n no_stamps

entries-format : (n : ℕ) → n ≤ 1024 → IsFormat (entries_at n) (spell_each spell_request) (λ h. (length h ≡ n) × IsWritten h)
entries-format n few =
    same-format (entries_at n) (spell_each spell_request) (λ h. (length h ≡ n) × EachFits IsEntry later no_stamps h) (λ h. (length h ≡ n) × IsWritten h)
    (λ h p. (let w = entries-written h no_stamps refl p.1 in (p.0, ((omega arith, omega (arith, p.0, few)), (w.0, w.1.0)))))
    (λ h p. (p.0, written-entries h no_stamps refl p.1.1.0 p.1.1.1 (above-none h p.1.1.0)))
    (many-format entry_at later spell_request IsEntry entry-format n no_stamps)

-- ---- lists that have forgotten entries

abbrev room : ℕ → ℕ
room start = min 1024 (65535 - start)

abbrev IsRest : ℕ → List Request → Type 0
IsRest start h = IsWithin 0 (room start) (length h) × IsWritten h

rest-format : (start : ℕ) → IsFormat (rest_at start) spell_history (IsRest start)
unfolding rest_at
rest-format start =
    after-format length (ranged_at w16 0 (room start) BadLength) u16_bytes (IsWithin 0 (room start)) entries_at (spell_each spell_request) IsWritten
    (u16-format 0 (room start) BadLength (omega arith)) (λ n fits. entries-format n (omega (arith, fits.1))) entries-stays

abbrev IsFront : ℕ × List ℕ → Type 0
IsFront front = IsWithin 1 65535 front.0 × (length front.1 ≡ 32)

abbrev front_of : Trimmed → ℕ × List ℕ
front_of t = (t.start, t.digest)

abbrev IsForgot : Trimmed → Type 0
IsForgot t = IsFront (front_of t) × IsRest t.start t.rest

behind_front : (front : ℕ × List ℕ) (t : Trimmed) → (front_of t ≡ front) × IsRest t.start t.rest → (h : List Request) × (t ≡ trimmed_from front h) × IsRest front.0 h
behind_front front t g =
    (t.rest, ap (λ (p : ℕ × List ℕ). trimmed_from p t.rest) g.0, subst (λ (p : ℕ × List ℕ). IsRest p.0 t.rest) g.0 g.1)

abbrev spell_forgot : Trimmed → List ℕ
spell_forgot t = u16_bytes t.start ++ (t.digest ++ spell_history t.rest)

forgot-format : IsFormat forgot_at spell_forgot IsForgot
unfolding forgot_at
forgot-format =
    respelled _ (λ t. (u16_bytes t.start ++ t.digest) ++ spell_history t.rest) spell_forgot IsForgot (λ t. append_assoc (u16_bytes t.start) t.digest (spell_history t.rest))
    (after-format front_of (both (ranged_at w16 1 65535 BadField) (bytes_at 32)) (λ front. u16_bytes front.0 ++ front.1) IsFront
    (λ front. made (trimmed_from front) (rest_at front.0)) (λ t. spell_history t.rest) (λ t. IsRest t.start t.rest)
    (both-format _ _ _ _ _ _ (u16-format 1 65535 BadField (lit< tt)) (bytes-format 32))
    (λ front _. inject-format (trimmed_from front) (rest_at front.0) spell_history (IsRest front.0) (λ t. spell_history t.rest) (λ t. (front_of t ≡ front) × IsRest t.start t.rest)
    (λ h. refl) (λ h g. (refl, g)) (behind_front front) (rest-format front.0))
    (λ front. made-stays (trimmed_from front) (rest_at front.0) (rest-format front.0).stays))

-- ---- either

-- the same spelling of the values that fit
respelled-fit : {A : Type 0} (r : Reader A) (s s' : A → List ℕ) (F : A → Type 0) → ((x : A) → F x → s x ≡ s' x) → IsFormat r s F → IsFormat r s' F
respelled-fit r s s' F same one = record {
  takes = λ bytes rest x fits e. (let t = one.takes bytes rest x fits e in (subst (λ (text : List ℕ). Takes bytes text rest) (same x t.1) t.0, t.1));
  again = λ x rest h. ap r (ap (λ (text : List ℕ). text ++ rest) (sym (same x h))) ∙ one.again x rest h;
  short = λ x part back h e none. one.short x part back h (e ∙ sym (same x h)) none;
  stays = one.stays;
}

-- the first number of a list's bytes, and what stands behind it
abbrev first_of : Trimmed → ℕ
first_of t = cond (eqb t.start 0) (length t.rest) 65535

abbrev spell_behind : Trimmed → List ℕ
spell_behind t = cond (eqb t.start 0) (spell_each spell_request t.rest) (spell_forgot t)

abbrev IsFirst : ℕ → Type 0
IsFirst n = ((leb n 1024 || (true && eqb n 65535)) ≡ true) × (n < 2 ^ 16)

abbrev IsBehind : ℕ → Trimmed → Type 0
IsBehind n t = (first_of t ≡ n) × IsSpellable t

forgot-behind : (n : ℕ) → n ≡ 65535 → (t : Trimmed) → IsForgot t → IsBehind n t
forgot-behind n is t g =
    let some : eqb t.start 0 ≡ false = ne_eqb t.start 0 (λ z. absurd (omega (arith, z, g.0.0.0))) in
    let first : first_of t ≡ 65535 = rw some refl in (
      first ∙ sym is,
      record {
        rest = g.1.1;
        few = omega (arith, g.0.0.1, g.1.0.1);
        digest = g.0.1;
        nothing = λ z. absurd (omega (arith, z, g.0.0.0));
      },
    )

behind-forgot : (n : ℕ) → n ≡ 65535 → (t : Trimmed) (none : Bool) → eqb t.start 0 ≡ none → IsBehind n t → IsForgot t
behind-forgot n is t true none g =
    let first : first_of t ≡ length t.rest = rw none refl in
    absurd (omega (arith, is, first, g.0, g.1.rest.0.1))
behind-forgot n is t false none g =
    let some : t.start ≢ 0 = eqb-false t.start 0 none in
    let low : 1 ≤ t.start = positive t.start some in
    (((low, omega (arith, g.1.few)), g.1.digest), ((omega arith, omega (arith, g.1.few, g.1.rest.0.1)), g.1.rest))
  where
    positive : (k : ℕ) → k ≢ 0 → 1 ≤ k
    positive k other = omega (arith, other)

pub whole_fits : (h : List Request) → IsWritten h → IsSpellable (untrimmed h)
whole_fits h w = record { rest = w; few = omega (arith, w.0.1); digest = refl; nothing = λ z. refl }

whole-behind : (n : ℕ) (h : List Request) → (length h ≡ n) × IsWritten h → IsBehind n (untrimmed h)
whole-behind n h g = (g.0, whole_fits h g.1)

pub whole_list : (t : Trimmed) → IsSpellable t → t.start ≡ 0 → t ≡ untrimmed t.rest
whole_list t is none = λ i. record { start = none i; digest = is.nothing none i; rest = t.rest }

behind-whole : (n : ℕ) → n ≢ 65535 → (t : Trimmed) (none : Bool) → eqb t.start 0 ≡ none → IsBehind n t → (h : List Request) × (t ≡ untrimmed h) × ((length h ≡ n) × IsWritten h)
behind-whole n other t true none g =
    let first : first_of t ≡ length t.rest = rw none refl in
    (t.rest, whole_list t g.1 (eqb-true t.start 0 none), (sym first ∙ g.0, g.1.rest))
behind-whole n other t false none g =
    let first : first_of t ≡ 65535 = rw none refl in
    absurd (other (sym g.0 ∙ first))

few-first : (n : ℕ) (few : Bool) → leb n 1024 ≡ few → IsFirst n → eqb n 65535 ≡ false → n ≤ 1024
few-first n true is g other = leb-true n 1024 is
few-first n false is g other = absurd (no (leb n 1024) (eqb n 65535) is other g.0)
  where
    no : (a b : Bool) → a ≡ false → b ≡ false → (a || (true && b)) ≡ true → ⊥
    no a b p q r = (let bad : false ≡ true = rw (p, q) at r in cc)

abbrev behind_at : ℕ → Reader Trimmed
behind_at n = either (eqb n 65535) forgot_at (made untrimmed (entries_at n))

spelled-forgot : (t : Trimmed) → IsForgot t → spell_forgot t ≡ spell_behind t
spelled-forgot t g =
    let some : eqb t.start 0 ≡ false = ne_eqb t.start 0 (λ z. absurd (omega (arith, z, g.0.0.0))) in
    rw some refl

behind-format : (n : ℕ) → IsFirst n → IsFormat (behind_at n) spell_behind (IsBehind n)
behind-format n first =
    either-format (eqb n 65535) forgot_at (made untrimmed (entries_at n)) spell_behind (IsBehind n)
    (λ is. same-format forgot_at spell_behind IsForgot (IsBehind n)
    (forgot-behind n (eqb-true n 65535 is)) (λ t g. behind-forgot n (eqb-true n 65535 is) t (eqb t.start 0) refl g)
    (respelled-fit forgot_at spell_forgot spell_behind IsForgot spelled-forgot forgot-format))
    (λ other. inject-format untrimmed (entries_at n) (spell_each spell_request) (λ h. (length h ≡ n) × IsWritten h) spell_behind (IsBehind n)
    (λ h. refl) (whole-behind n) (λ t g. behind-whole n (eqb-false n 65535 other) t (eqb t.start 0) refl g)
    (entries-format n (few-first n (leb n 1024) refl first other)))

either-stays : {A : Type 0} (b : Bool) (r r' : Reader A) → Stays r → Stays r' → Stays (either b r r')
either-stays true r r' one two = one
either-stays false r r' one two = two

behind-stays : (n : ℕ) → Stays (behind_at n)
behind-stays n = either-stays (eqb n 65535) forgot_at (made untrimmed (entries_at n)) forgot-format.stays (made-stays untrimmed (entries_at n) (entries-stays n))

first-format : IsFormat (first_at true) u16_bytes IsFirst
first-format = checked-format (λ n. leb n 1024 || (true && eqb n 65535)) BadLength (number_at w16) u16_bytes (λ n. n < 2 ^ 16) u16_number-format

first-fits : (t : Trimmed) (none : Bool) → eqb t.start 0 ≡ none → IsSpellable t → IsFirst (first_of t)
first-fits t true none is =
    let first : first_of t ≡ length t.rest = rw none refl in
    let small : leb (length t.rest) 1024 ≡ true = le-leb (length t.rest) 1024 is.rest.0.1 in
    rw (first, small) (refl, omega (arith, is.rest.0.1))
first-fits t false none is =
    let first : first_of t ≡ 65535 = rw none refl in
    rw first (refl, lit< tt)

by_parts : (b : Bool) (n : ℕ) (xs ys : List ℕ) → u16_bytes (cond b n 65535) ++ cond b xs ys ≡ cond b (u16_bytes n ++ xs) (u16_bytes 65535 ++ ys)
by_parts true n xs ys = refl
by_parts false n xs ys = refl

pub trimmed-format : IsFormat (trimmed_at true) spell_trimmed IsSpellable
unfolding trimmed_at
trimmed-format =
    same-format _ spell_trimmed (λ t. IsFirst (first_of t) × IsSpellable t) IsSpellable (λ t h. h.1) (λ t h. (first-fits t (eqb t.start 0) refl h, h))
    (respelled _ (λ t. u16_bytes (first_of t) ++ spell_behind t) spell_trimmed _ (λ t. by_parts (eqb t.start 0) (length t.rest) (spell_each spell_request t.rest) (spell_forgot t))
    (after-format first_of (first_at true) u16_bytes IsFirst behind_at spell_behind IsSpellable first-format behind-format behind-stays))

-- ---- what today's readers refuse

first-mark : (t : Trimmed) (more : List ℕ) → t.start ≢ 0 → number_at w16 (spell_trimmed t ++ more) ≡ Ok (65535, spell_forgot t ++ more)
first-mark t more some =
    let other : eqb t.start 0 ≡ false = ne_eqb t.start 0 some in
    let spelled : spell_trimmed t ≡ u16_bytes 65535 ++ spell_forgot t = rw other refl in
    ap (number_at w16) (ap (λ (text : List ℕ). text ++ more) spelled ∙ append_assoc (u16_bytes 65535) (spell_forgot t) more)
    ∙ u16_number-format.again 65535 (spell_forgot t ++ more) (lit< tt)

pub history_refuses : (t : Trimmed) (more : List ℕ) → t.start ≢ 0 → history_at (spell_trimmed t ++ more) ≡ Err BadLength
unfolding history_at ranged_at
history_refuses t more some = rw (first-mark t more some) refl

pub refused : (t : Trimmed) (more : List ℕ) → t.start ≢ 0 → trimmed_at false (spell_trimmed t ++ more) ≡ Err BadLength
refused t more some = (let no = history_refuses t more some in today (spell_trimmed t ++ more) ∙ rw no refl)

-- ---- what was read can be owned

pub reads_spellable : (forgets : Bool) (bytes rest : List ℕ) (t : Trimmed) → IsBytes bytes → trimmed_at forgets bytes ≡ Ok (t, rest) → IsSpellable t
reads_spellable true bytes rest t small e = (trimmed-format.takes bytes rest t small e).1
reads_spellable false bytes rest t small e =
    let a = bind_ok (history_at bytes) (λ a. Ok (untrimmed a.0, a.1)) (t, rest) (sym (today bytes) ∙ e) in
    let u = history-format.takes bytes a.0.1 a.0.0 small a.1 in
    subst (λ (p : Trimmed × List ℕ). IsSpellable p.0) (done_is (untrimmed a.0.0, a.0.1) (t, rest) a.2) (whole_fits a.0.0 u.1)

pub reads_fit : {X : Type 0} (view : X → Trimmed × List ℕ) (forgets : Bool) (bytes : List ℕ) (r : Result X Bad) → IsBytes bytes → Gives view r (trimmed_at forgets bytes) → IfOk r (λ x. IsSpellable (view x).0)
reads_fit view forgets bytes (Ok x) small e = reads_spellable forgets bytes (view x).1 (view x).0 small e
reads_fit view forgets bytes (Err bad) small e = tt
