-- The laws of lists whose count is known, and of parts that may be there.
use Rattle.std.proofs.Common.{append_assoc, map, ◌≡◌, ℕ, zero, suc, ◌^◌, ◌<◌, ◌≤◌, eqb, Bool, true, false, List, [], ◌∷◌, ◌++◌, length, All, Result, Ok, Err, Option, None, Some, refl, sym, ap, subst, ◌∙◌, arith, lit<}
use Rattle.std.specs.Prelude.{slice_index_or}
use Rattle.std.proofs.lemmas.List.{length-map}
use Rattle.std.specs.Int.{w8}
use Rattle.std.proofs.lemmas.Bool.{eqb-true, eqb-false}
use Rattle.std.proofs.lemmas.List.Elements.{All-map, All-nil, All-cons, All-head, All-tail}
use Rattle.ab_form.specs.declared.bad.Bad.{Bad}
use Rattle.ab_form.specs.declared.bad.Bad.TheVariants.{BadLength, BadField}
use Rattle.ab_form.specs.Readers.{listed, ◌>>=◌, Reader, ranged_at, made, either}
use Rattle.ab_form.specs.Formats.{Takes, Stays, IsFormat, IsWithin, EachFits, u8_bytes, spell_each}
use Rattle.ab_form.proofs.StepLemmas.{done_is, bind_ok}
use Rattle.ab_form.proofs.FormatLemmas.{after-stays, format, same-format, after-format, inject-format, either-format, many-stays, many-format, made-stays, IsMany}
use Rattle.ab_form.proofs.PartLemmas.{u8-format}
use Rattle.ab_form.specs.Lists.{nothing, along, times, AreTimes, counted, u8_list, AreCounted, flag_of, spell_inside, optional_at, spell_optional, FitsInside}

-- ---- no bytes

-- ---- n values

each-all : {A : Type 0} (F : A → Type 0) (xs : List A) → EachFits (λ (_ : Unit {0}). F) (λ s _. s) tt xs → All F xs
each-all F [] h = All-nil F
each-all F (x ∷ xs) h = All-cons F x xs h.0 (each-all F xs h.1)

all-each : {A : Type 0} (F : A → Type 0) (xs : List A) → All F xs → EachFits (λ (_ : Unit {0}). F) (λ s _. s) tt xs
all-each F [] h = tt
all-each F (x ∷ xs) h = (All-head F x xs h, all-each F xs (All-tail F x xs h))

pub times-stays : {A : Type 0} (r : Reader A) → Stays r → (n : ℕ) → Stays (times r n)
times-stays r one n = many-stays (λ (_ : Unit {0}). r) (λ s _. s) (λ _. one) n tt

pub times-format : {A : Type 0} (r : Reader A) (s : A → List ℕ) (F : A → Type 0) → IsFormat r s F → (n : ℕ) → IsFormat (times r n) (spell_each s) (AreTimes F n)
times-format r s F one n =
    same-format (times r n) (spell_each s) (IsMany (λ (_ : Unit {0}). F) (λ t _. t) n tt) (AreTimes F n)
    (λ xs h. (h.0, each-all F xs h.1)) (λ xs h. (h.0, all-each F xs h.1))
    (many-format (λ (_ : Unit {0}). r) (λ t _. t) s (λ (_ : Unit {0}). F) (λ _. one) n tt)

-- values behind their count

pub u8_counted-format : {A : Type 0} (low high : ℕ) (r : Reader A) (s : A → List ℕ) (F : A → Type 0) → high < 2 ^ 8 → IsFormat r s F
    → IsFormat (counted w8 low high r) (u8_list s) (AreCounted low high F)
u8_counted-format low high r s F lt one =
    after-format length (ranged_at w8 low high BadLength) u8_bytes (IsWithin low high) (times r) (spell_each s) (All F)
    (u8-format low high BadLength lt) (λ n _. times-format r s F one n) (times-stays r one.stays)

-- ---- a part that is there by a flag

abbrev FitsAt : {A : Type 0} → (A → Type 0) → ℕ → Option A → Type 0
FitsAt F flag o = (flag_of o ≡ flag) × FitsInside F o

absent : {A : Type 0} (F : A → Type 0) (o : Option A) → FitsAt F 0 o → o ≡ None
absent F None h = refl
absent F (Some x) (bad, h) = absurd (omega (arith, bad))

present : {A : Type 0} (F : A → Type 0) (flag : ℕ) → (flag ≡ 0 → ⊥) → (o : Option A) → FitsAt F flag o → (x : A) × (o ≡ Some x) × F x
present F flag other None h = absurd (other (sym h.0))
present F flag other (Some x) h = (x, refl, h.1)

one-left : (flag : ℕ) → IsWithin 0 1 flag → (flag ≡ 0 → ⊥) → 1 ≡ flag
one-left flag fits other = omega arith

inside-format : {A : Type 0} (r : Reader A) (s : A → List ℕ) (F : A → Type 0) → IsFormat r s F → (flag : ℕ) → IsWithin 0 1 flag
    → IsFormat (either (eqb flag 0) (nothing None) (made Some r)) (spell_inside s) (FitsAt F flag)
inside-format {A} r s F one flag fits =
    either-format (eqb flag 0) (nothing None) (made Some r) (spell_inside s) (FitsAt F flag)
    (λ t.
    let is : flag ≡ 0 = eqb-true flag 0 t in
    format (nothing None) (spell_inside s) (FitsAt F flag)
    (λ bytes rest o bytes-fit e.
    let P : Option A × List ℕ → Type 0 = λ p. Takes bytes (spell_inside s p.0) p.1 × FitsAt F flag p.0 in
    subst P (done_is (None, bytes) (o, rest) e) (record { parts = refl; rest_fits = bytes-fit }, (sym is, tt)))
    (λ o rest h.
    let P : Option A → Type 0 = λ o. nothing None (spell_inside s o ++ rest) ≡ Ok (o, rest) in
    subst P (sym (absent F o (rw is at h))) refl)
    (λ bytes more h. refl))
    (λ f.
    let other = eqb-false flag 0 f in
    inject-format Some r s F (spell_inside s) (FitsAt F flag) (λ x. refl) (λ x h. (one-left flag fits other, h)) (present F flag other) one)

inside-stays : {A : Type 0} (r : Reader A) → Stays r → (flag : ℕ) (b : Bool) → Stays (either b (nothing None) (made Some r))
inside-stays r one flag true bytes more h = refl
inside-stays r one flag false bytes more h = made-stays Some r one bytes more h

flag-fits : {A : Type 0} (o : Option A) → IsWithin 0 1 (flag_of o)
flag-fits None = (omega arith, omega arith)
flag-fits (Some x) = (omega arith, omega arith)

pub optional-format : {A : Type 0} (r : Reader A) (s : A → List ℕ) (F : A → Type 0) → IsFormat r s F → IsFormat (optional_at r) (spell_optional s) (FitsInside F)
optional-format {A} r s F one =
    same-format (optional_at r) (spell_optional s) (λ o. IsWithin 0 1 (flag_of o) × FitsInside F o) (FitsInside F) (λ o h. h.1) (λ o h. (flag-fits o, h))
    (after-format flag_of (ranged_at w8 0 1 BadField) u8_bytes (IsWithin 0 1) (λ flag. either (eqb flag 0) (nothing None) (made Some r)) (spell_inside s) (FitsInside F)
    (u8-format 0 1 BadField (lit< tt)) (inside-format r s F one) (λ flag. inside-stays r one.stays flag (eqb flag 0)))

-- ---- a value, and one whose reader depends on it

Takes-then : (a x b y c : List ℕ) → Takes a x b → Takes b y c → Takes a (x ++ y) c
Takes-then a x b y c p q = record { parts = p.parts ∙ ap (λ (t : List ℕ). x ++ t) q.parts ∙ sym (append_assoc x y c); rest_fits = q.rest_fits }

pub along-stays : {A B : Type 0} (r : Reader A) (k : A → Reader B) → Stays r → ((a : A) → Stays (k a)) → Stays (along r k)
along-stays r k one two = after-stays r (λ a. made (λ b. (a, b)) (k a)) one (λ a. made-stays (λ b. (a, b)) (k a) (two a))

pub along-format : {A B : Type 0} (r : Reader A) (s : A → List ℕ) (F : A → Type 0) (k : A → Reader B) (s' : A → B → List ℕ) (F' : A → B → Type 0)
    → IsFormat r s F → ((a : A) → F a → IsFormat (k a) (s' a) (F' a)) → ((a : A) → Stays (k a))
    → IsFormat (along r k) (λ p. s p.0 ++ s' p.0 p.1) (λ p. F p.0 × F' p.0 p.1)
along-format {A} {B} r s F k s' F' one two stays = format (along r k) (λ p. s p.0 ++ s' p.0 p.1) (λ p. F p.0 × F' p.0 p.1)
    (λ bytes rest x fits e.
    let a = bind_ok (r bytes) (λ a. k a.0 a.1 >>= λ b. Ok ((a.0, b.0), b.1)) (x, rest) e in
    let b = bind_ok (k a.0.0 a.0.1) (λ b. Ok ((a.0.0, b.0), b.1)) (x, rest) a.2 in
    let t = one.takes bytes a.0.1 a.0.0 fits a.1 in
    let u = (two a.0.0 t.1).takes a.0.1 b.0.1 b.0.0 t.0.rest_fits b.1 in
    let P : (A × B) × List ℕ → Type 0 = λ p. Takes bytes (s p.0.0 ++ s' p.0.0 p.0.1) p.1 × (F p.0.0 × F' p.0.0 p.0.1) in
    subst P (done_is ((a.0.0, b.0.0), b.0.1) (x, rest) b.2) (Takes-then _ _ _ _ _ t.0 u.0, (t.1, u.1)))
    (λ x rest h. rw (append_assoc (s x.0) (s' x.0 x.1) rest, one.again x.0 (s' x.0 x.1 ++ rest) h.0) (rw ((two x.0 h.0).again x.1 rest h.1) refl))
    (along-stays r k one.stays stays)

-- ---- the values of one variant, each in a list

each-map : {A B : Type 0} (f : A → B) (s : A → List ℕ) (s' : B → List ℕ) → ((x : A) → s' (f x) ≡ s x) → (xs : List A) → spell_each s' (map f xs) ≡ spell_each s xs
each-map f s s' same [] = refl
each-map f s s' same (x ∷ xs) = rw (same x, each-map f s s' same xs) refl

map-back : {A B : Type 0} (f : A → B) (F : A → Type 0) (G : B → Type 0) → ((y : B) → G y → (x : A) × (y ≡ f x) × F x)
    → (ys : List B) → All G ys → (xs : List A) × (ys ≡ map f xs) × All F xs
map-back f F G back [] h = ([], refl, All-nil F)
map-back f F G back (y ∷ ys) h =
    let one = back y (All-head G y ys h) in
    let more = map-back f F G back ys (All-tail G y ys h) in
    (one.0 ∷ more.0, rw (← one.1, ← more.1) refl, All-cons F one.0 more.0 one.2 more.2)

-- n values of one variant
pub mapped-format : {A B : Type 0} (f : A → B) (r : Reader A) (s : A → List ℕ) (F : A → Type 0) (s' : B → List ℕ) (G : B → Type 0)
    → ((x : A) → s' (f x) ≡ s x) → ((x : A) → F x → G (f x)) → ((y : B) → G y → (x : A) × (y ≡ f x) × F x) → IsFormat r s F
    → (n : ℕ) → IsFormat (made (map f) (times r n)) (spell_each s') (AreTimes G n)
mapped-format {A} {B} f r s F s' G same into back one n =
    inject-format (map f) (times r n) (spell_each s) (AreTimes F n) (spell_each s') (AreTimes G n)
    (each-map f s s' same)
    (λ xs h. (length-map xs f ∙ h.0, All-map G f xs (λ k d in'. into (slice_index_or xs k d) (h.1 k d in'))))
    (λ ys h. (let b = map-back f F G back ys h.1 in (b.0, b.1, (sym (length-map b.0 f) ∙ ap length (sym b.1) ∙ h.0, b.2))))
    (times-format r s F one n)

-- ---- what stands in bytes

pub listed-few : {A : Type 0} (r : Reader A) (n : ℕ) (bytes : List ℕ) → length (listed r n bytes) ≤ n
unfolding listed
listed-few r zero bytes = omega arith
listed-few {A} r (suc n) bytes =
    elim (r bytes) as (λ (v : Result (A × List ℕ) Bad). length (elim v as (λ _. List A) [ Ok a ↦ a.0 ∷ listed r n a.1 | Err e ↦ [] ]) ≤ suc n) [
      | Ok a ↦ omega (arith, listed-few r n a.1)
      | Err e ↦ omega arith
    ]
