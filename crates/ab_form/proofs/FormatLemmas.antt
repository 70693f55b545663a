-- The law of a format, put together from those of its parts.
use Rattle.std.proofs.Common.{◌≡◌, ◌≢◌, ℕ, zero, suc, Bool, true, false, cond, eqb, ltb, List, [], ◌∷◌, ◌++◌, length, take, drop, Result, Ok, Err, refl, sym, ap, subst, ◌∙◌, append_assoc, arith, inl, inr}
use Rattle.std.proofs.lemmas.Bool.{cases_lt, le-ltb, lt-ltb, eqb-true, ne_eqb}
use Rattle.std.proofs.lemmas.List.{take-append-le, drop-append-le, length-append, append-nil, nil_from_length}
use Rattle.ab_form.specs.declared.bad.Bad.{Bad}
use Rattle.ab_form.specs.declared.bad.Bad.TheVariants.{Short, BadCode, BadLength, BadField, Trailing}
use Rattle.ab_form.specs.Readers.{◌>>=◌, Reader, checked, made, after, both, many, either, never, whole}
use Rattle.ab_form.specs.Formats.{IsBytes, Takes, with_more, Stays, IsFormat, IsWhole, spell_each, EachFits}
use Rattle.ab_form.proofs.StepLemmas.{fault, done_is, fault_is, done-fault, bind_ok, passed, behind}

-- ---- what was found stays

stays_at : {A B : Type 0} (r : Reader A) (k : A → Reader B) (bytes more : List ℕ) → Stays r → ((a : A) → Stays (k a))
    → (v : Result (A × List ℕ) Bad) → r bytes ≡ v → (v >>= λ a. k a.0 a.1) ≢ Err Short → after r k (bytes ++ more) ≡ with_more more (v >>= λ a. k a.0 a.1)
stays_at r k bytes more one two (Ok a) e h =
    let here : r bytes ≢ Err Short = λ s. done-fault a Short (sym e ∙ s) in
    let far : r (bytes ++ more) ≡ Ok (a.0, a.1 ++ more) = one bytes more here ∙ ap (with_more more) e in
    rw far (two a.0 a.1 more h)
stays_at {A} {B} r k bytes more one two (Err d) e h =
    let here : r bytes ≢ Err Short = λ s. h (ap (fault {A = B × List ℕ}) (fault_is {A = A × List ℕ} d Short (sym e ∙ s))) in
    let far : r (bytes ++ more) ≡ Err d = one bytes more here ∙ ap (with_more more) e in
    rw far refl

pub after-stays : {A B : Type 0} (r : Reader A) (k : A → Reader B) → Stays r → ((a : A) → Stays (k a)) → Stays (after r k)
after-stays r k one two bytes more h = stays_at r k bytes more one two (r bytes) refl h

pub made-stays : {A B : Type 0} (f : A → B) (r : Reader A) → Stays r → Stays (made f r)
made-stays f r one = after-stays r (λ a bytes. Ok (f a, bytes)) one (λ a bytes more h. refl)

pub both-stays : {A B : Type 0} (r : Reader A) (r' : Reader B) → Stays r → Stays r' → Stays (both r r')
both-stays r r' one two = after-stays r (λ a. made (λ b. (a, b)) r') one (λ a. made-stays (λ b. (a, b)) r' two)

test-stays : {A : Type 0} (b : Bool) (bad : Bad) (a : A) → Stays (λ bytes. cond b (Ok (a, bytes)) (Err bad))
test-stays true bad a bytes more h = refl
test-stays false bad a bytes more h = refl

pub checked-stays : {A : Type 0} (test : A → Bool) (bad : Bad) (r : Reader A) → Stays r → Stays (checked test bad r)
checked-stays test bad r one = after-stays r (λ a bytes. cond (test a) (Ok (a, bytes)) (Err bad)) one (λ a. test-stays (test a) bad a)

pub many-stays : {S A : Type 0} (item : S → Reader A) (next : S → A → S) → ((s : S) → Stays (item s)) → (n : ℕ) (s : S) → Stays (many item next n s)
many-stays item next one zero s bytes more h = refl
many-stays item next one (suc n) s bytes more h =
    after-stays (item s) (λ a. made (λ xs. a ∷ xs) (many item next n (next s a))) (one s)
    (λ a. made-stays (λ xs. a ∷ xs) (many item next n (next s a)) (many-stays item next one n (next s a))) bytes more h

-- n bytes, and what they stand for
abbrev pub front : {A : Type 0} → ℕ → (List ℕ → A) → Reader A
front n f bytes = cond (ltb (length bytes) n) (Err Short) (Ok (f (take n bytes), drop n bytes))

pub front-stays : {A : Type 0} (n : ℕ) (f : List ℕ → A) → Stays (front n f)
front-stays n f bytes more h =
    elim (cases_lt (length bytes) n) [
      | inl lt ↦ absurd (h (rw (lt-ltb (length bytes) n lt) refl))
      | inr le ↦
          (let here : ltb (length bytes) n ≡ false = le-ltb (length bytes) n le in
          let there : ltb (length (bytes ++ more)) n ≡ false = le-ltb (length (bytes ++ more)) n (omega (arith, length-append bytes more)) in
          rw (here, there, take-append-le n bytes more le, drop-append-le n bytes more le) refl)
    ]

-- ---- a cut spelling is too short

lasts : {A : Type 0} (r : Reader A) (x : A) (part back : List ℕ) (bad : Bad) → Stays r → r (part ++ back) ≡ Ok (x, []) → r part ≡ Err bad → bad ≢ Short → ⊥
lasts {A} r x part back bad stays e is other =
    let here : r part ≢ Err Short = λ s. other (fault_is {A = A × List ℕ} bad Short (sym is ∙ s)) in
    done-fault (x, []) bad (sym e ∙ stays part back here ∙ ap (with_more back) is)

cut_at : {A : Type 0} (r : Reader A) (x : A) (part back : List ℕ) → Stays r → r (part ++ back) ≡ Ok (x, []) → back ≢ []
    → (v : Result (A × List ℕ) Bad) → r part ≡ v → v ≡ Err Short
cut_at {A} r x part back stays e none (Ok a) is =
    let here : r part ≢ Err Short = λ s. done-fault a Short (sym is ∙ s) in
    let far : r (part ++ back) ≡ Ok (a.0, a.1 ++ back) = stays part back here ∙ ap (with_more back) is in
    let same : (a.0, a.1 ++ back) ≡ (x, []) = done_is (a.0, a.1 ++ back) (x, []) (sym far ∙ e) in
    absurd (none (behind a.1 back (ap (λ (p : A × List ℕ). p.1) same)))
cut_at r x part back stays e none (Err Short) is = refl
cut_at r x part back stays e none (Err BadCode) is = absurd (lasts r x part back BadCode stays e is (λ s. cc))
cut_at r x part back stays e none (Err BadLength) is = absurd (lasts r x part back BadLength stays e is (λ s. cc))
cut_at r x part back stays e none (Err BadField) is = absurd (lasts r x part back BadField stays e is (λ s. cc))
cut_at r x part back stays e none (Err Trailing) is = absurd (lasts r x part back Trailing stays e is (λ s. cc))

-- the law from three of its parts
pub format : {A : Type 0} (r : Reader A) (s : A → List ℕ) (F : A → Type 0)
    → ((bytes rest : List ℕ) (x : A) → IsBytes bytes → r bytes ≡ Ok (x, rest) → Takes bytes (s x) rest × F x)
    → ((x : A) (rest : List ℕ) → F x → r (s x ++ rest) ≡ Ok (x, rest)) → Stays r → IsFormat r s F
format r s F takes again stays = record {
  takes = takes;
  again = again;
  short = λ x part back fits e none.
      let all : r (part ++ back) ≡ Ok (x, []) = rw e (ap r (sym (append-nil (s x))) ∙ again x [] fits) in
      cut_at r x part back stays all none (r part) refl;
  stays = stays;
}

-- ---- what is put together

Takes-then : (a x b y c : List ℕ) → Takes a x b → Takes b y c → Takes a (x ++ y) c
Takes-then a x b y c p q = record { parts = p.parts ∙ ap (λ (t : List ℕ). x ++ t) q.parts ∙ sym (append_assoc x y c); rest_fits = q.rest_fits }

-- the same spelling in another form
pub respelled : {A : Type 0} (r : Reader A) (s s' : A → List ℕ) (F : A → Type 0) → ((x : A) → s x ≡ s' x) → IsFormat r s F → IsFormat r s' F
respelled r s s' F same one = record {
  takes = λ bytes rest x fits e. (let t = one.takes bytes rest x fits e in (subst (λ (text : List ℕ). Takes bytes text rest) (same x) t.0, t.1));
  again = λ x rest h. ap r (ap (λ (text : List ℕ). text ++ rest) (sym (same x))) ∙ one.again x rest h;
  short = λ x part back h e none. one.short x part back h (e ∙ sym (same x)) none;
  stays = one.stays;
}

-- the same values under another name of what fits
pub same-format : {A : Type 0} (r : Reader A) (s : A → List ℕ) (F G : A → Type 0)
    → ((x : A) → F x → G x) → ((x : A) → G x → F x) → IsFormat r s F → IsFormat r s G
same-format r s F G to from one = record {
  takes = λ bytes rest x fits e. (let t = one.takes bytes rest x fits e in (t.0, to x t.1));
  again = λ x rest g. one.again x rest (from x g);
  short = λ x part back g e none. one.short x part back (from x g) e none;
  stays = one.stays;
}

pub checked-format : {A : Type 0} (test : A → Bool) (bad : Bad) (r : Reader A) (s : A → List ℕ) (F : A → Type 0)
    → IsFormat r s F → IsFormat (checked test bad r) s (λ x. (test x ≡ true) × F x)
checked-format {A} test bad r s F one = format (checked test bad r) s (λ x. (test x ≡ true) × F x)
    (λ bytes rest x fits e.
    let a = bind_ok (r bytes) (λ a. cond (test a.0) (Ok a) (Err bad)) (x, rest) e in
    let g = passed (test a.0.0) bad a.0 (x, rest) a.2 in
    let t = one.takes bytes a.0.1 a.0.0 fits a.1 in
    let P : A × List ℕ → Type 0 = λ p. Takes bytes (s p.0) p.1 × ((test p.0 ≡ true) × F p.0) in
    subst P g.1 (t.0, (g.0, t.1)))
    (λ x rest h. rw (one.again x rest h.1) (rw h.0 refl))
    (checked-stays test bad r one.stays)

pub both-format : {A B : Type 0} (r : Reader A) (s : A → List ℕ) (F : A → Type 0) (r' : Reader B) (s' : B → List ℕ) (F' : B → Type 0)
    → IsFormat r s F → IsFormat r' s' F' → IsFormat (both r r') (λ p. s p.0 ++ s' p.1) (λ p. F p.0 × F' p.1)
both-format {A} {B} r s F r' s' F' one two = format (both r r') (λ p. s p.0 ++ s' p.1) (λ p. F p.0 × F' p.1)
    (λ bytes rest x fits e.
    let a = bind_ok (r bytes) (λ a. r' a.1 >>= λ b. Ok ((a.0, b.0), b.1)) (x, rest) e in
    let b = bind_ok (r' a.0.1) (λ b. Ok ((a.0.0, b.0), b.1)) (x, rest) a.2 in
    let t = one.takes bytes a.0.1 a.0.0 fits a.1 in
    let u = two.takes a.0.1 b.0.1 b.0.0 t.0.rest_fits b.1 in
    let P : (A × B) × List ℕ → Type 0 = λ p. Takes bytes (s p.0.0 ++ s' p.0.1) p.1 × (F p.0.0 × F' p.0.1) in
    subst P (done_is ((a.0.0, b.0.0), b.0.1) (x, rest) b.2) (Takes-then _ _ _ _ _ t.0 u.0, (t.1, u.1)))
    (λ x rest h. rw (append_assoc (s x.0) (s' x.1) rest, one.again x.0 (s' x.1 ++ rest) h.0) (rw (two.again x.1 rest h.1) refl))
    (both-stays r r' one.stays two.stays)

-- the same bytes for values that correspond
pub made-format : {A B : Type 0} (f : A → B) (g : B → A) (r : Reader A) (s : A → List ℕ) (F : A → Type 0)
    → ((x : A) → g (f x) ≡ x) → ((y : B) → f (g y) ≡ y) → IsFormat r s F → IsFormat (made f r) (λ y. s (g y)) (λ y. F (g y))
made-format {A} {B} f g r s F back forth one = format (made f r) (λ y. s (g y)) (λ y. F (g y))
    (λ bytes rest y fits e.
    let a = bind_ok (r bytes) (λ a. Ok (f a.0, a.1)) (y, rest) e in
    let t = one.takes bytes a.0.1 a.0.0 fits a.1 in
    let P : A → Type 0 = λ x. Takes bytes (s x) a.0.1 × F x in
    let Q : B × List ℕ → Type 0 = λ p. Takes bytes (s (g p.0)) p.1 × F (g p.0) in
    subst Q (done_is (f a.0.0, a.0.1) (y, rest) a.2) (subst P (sym (back a.0.0)) t))
    (λ y rest h. rw (one.again (g y) rest h) (ap (λ (b : B). Ok (b, rest)) (forth y)))
    (made-stays f r one.stays)

-- the values of one variant
pub inject-format : {A B : Type 0} (f : A → B) (r : Reader A) (s : A → List ℕ) (F : A → Type 0) (s' : B → List ℕ) (G : B → Type 0)
    → ((x : A) → s' (f x) ≡ s x) → ((x : A) → F x → G (f x)) → ((y : B) → G y → (x : A) × (y ≡ f x) × F x) → IsFormat r s F → IsFormat (made f r) s' G
inject-format {A} {B} f r s F s' G same into back one = format (made f r) s' G
    (λ bytes rest y fits e.
    let a = bind_ok (r bytes) (λ a. Ok (f a.0, a.1)) (y, rest) e in
    let t = one.takes bytes a.0.1 a.0.0 fits a.1 in
    let P : List ℕ → Type 0 = λ text. Takes bytes text a.0.1 in
    let Q : B × List ℕ → Type 0 = λ p. Takes bytes (s' p.0) p.1 × G p.0 in
    subst Q (done_is (f a.0.0, a.0.1) (y, rest) a.2) (subst P (sym (same a.0.0)) t.0, into a.0.0 t.1))
    (λ y rest g.
    let b = back y g in
    let P : B → Type 0 = λ v. made f r (s' v ++ rest) ≡ Ok (v, rest) in
    let Q : List ℕ → Type 0 = λ text. made f r (text ++ rest) ≡ Ok (f b.0, rest) in
    subst P (sym b.1) (subst Q (sym (same b.0)) (rw (one.again b.0 rest b.2) refl)))
    (made-stays f r one.stays)

-- a value behind another one that it determines
pub after-format : {A B : Type 0} (size : B → A) (r : Reader A) (s : A → List ℕ) (F : A → Type 0) (k : A → Reader B) (s' : B → List ℕ) (F' : B → Type 0)
    → IsFormat r s F → ((a : A) → F a → IsFormat (k a) s' (λ b. (size b ≡ a) × F' b)) → ((a : A) → Stays (k a)) → IsFormat (after r k) (λ b. s (size b) ++ s' b) (λ b. F (size b) × F' b)
after-format {A} {B} size r s F k s' F' one two stays = format (after r k) (λ b. s (size b) ++ s' b) (λ b. F (size b) × F' b)
    (λ bytes rest x fits e.
    let a = bind_ok (r bytes) (λ a. k a.0 a.1) (x, rest) e in
    let t = one.takes bytes a.0.1 a.0.0 fits a.1 in
    let u = (two a.0.0 t.1).takes a.0.1 rest x t.0.rest_fits a.2 in
    let P : A → Type 0 = λ n. Takes bytes (s n ++ s' x) rest × (F n × F' x) in
    subst P (sym u.1.0) (Takes-then _ _ _ _ _ t.0 u.0, (t.1, u.1.1)))
    (λ x rest h. rw (append_assoc (s (size x)) (s' x) rest, one.again (size x) (s' x ++ rest) h.0) ((two (size x) h.0).again x rest (refl, h.1)))
    (after-stays r k one.stays stays)

-- what stands behind a value that is known
pub behind-format : {A B : Type 0} (mark : A) (r : Reader A) (s : A → List ℕ) (F : A → Type 0) (r' : Reader B) (s' : B → List ℕ) (F' : B → Type 0)
    → ((a : A) → F a → a ≡ mark) → F mark → IsFormat r s F → IsFormat r' s' F' → IsFormat (after r (λ _. r')) (λ b. s mark ++ s' b) F'
behind-format {A} {B} mark r s F r' s' F' known fits one two = format (after r (λ _. r')) (λ b. s mark ++ s' b) F'
    (λ bytes rest x is-bytes e.
    let a = bind_ok (r bytes) (λ a. r' a.1) (x, rest) e in
    let t = one.takes bytes a.0.1 a.0.0 is-bytes a.1 in
    let u = two.takes a.0.1 rest x t.0.rest_fits a.2 in
    let P : A → Type 0 = λ m. Takes bytes (s m ++ s' x) rest × F' x in
    subst P (known a.0.0 t.1) (Takes-then _ _ _ _ _ t.0 u.0, u.1))
    (λ x rest h. rw (append_assoc (s mark) (s' x) rest, one.again mark (s' x ++ rest) fits) (two.again x rest h))
    (after-stays r (λ _. r') one.stays (λ _. two.stays))

-- one of two formats, by a test
pub either-format : {B : Type 0} (b : Bool) (r r' : Reader B) (s : B → List ℕ) (G : B → Type 0)
    → (b ≡ true → IsFormat r s G) → (b ≡ false → IsFormat r' s G) → IsFormat (either b r r') s G
either-format true r r' s G p q = p refl
either-format false r r' s G p q = q refl

-- nothing has this format
pub never-format : {B : Type 0} (bad : Bad) (s : B → List ℕ) (G : B → Type 0) → ((y : B) → G y → ⊥) → IsFormat (never bad) s G
never-format bad s G none = format (never bad) s G (λ bytes rest y fits e. absurd cc) (λ y rest g. absurd (none y g)) (λ bytes more h. refl)

-- ---- lists

abbrev pub IsMany : {S A : Type 0} → (S → A → Type 0) → (S → A → S) → ℕ → S → List A → Type 0
IsMany F next n s xs = (length xs ≡ n) × EachFits F next s xs

many-takes : {S A : Type 0} (item : S → Reader A) (next : S → A → S) (s : A → List ℕ) (F : S → A → Type 0) → ((state : S) → IsFormat (item state) s (F state))
    → (n : ℕ) (state : S) (bytes rest : List ℕ) (xs : List A) → IsBytes bytes → many item next n state bytes ≡ Ok (xs, rest) → Takes bytes (spell_each s xs) rest × IsMany F next n state xs
many-takes {S} {A} item next s F one zero state bytes rest xs fits e =
    let P : List A × List ℕ → Type 0 = λ p. Takes bytes (spell_each s p.0) p.1 × IsMany F next 0 state p.0 in
    subst P (done_is ([], bytes) (xs, rest) e) (record { parts = refl; rest_fits = fits }, (refl, tt))
many-takes {S} {A} item next s F one (suc n) state bytes rest xs fits e =
    let a = bind_ok (item state bytes) (λ a. many item next n (next state a.0) a.1 >>= λ more. Ok (a.0 ∷ more.0, more.1)) (xs, rest) e in
    let d = bind_ok (many item next n (next state a.0.0) a.0.1) (λ more. Ok (a.0.0 ∷ more.0, more.1)) (xs, rest) a.2 in
    let t = (one state).takes bytes a.0.1 a.0.0 fits a.1 in
    let u = many-takes item next s F one n (next state a.0.0) a.0.1 d.0.1 d.0.0 t.0.rest_fits d.1 in
    let P : List A × List ℕ → Type 0 = λ p. Takes bytes (spell_each s p.0) p.1 × IsMany F next (suc n) state p.0 in
    subst P (done_is (a.0.0 ∷ d.0.0, d.0.1) (xs, rest) d.2) (Takes-then _ _ _ _ _ t.0 u.0, (ap suc u.1.0, (t.1, u.1.1)))

many-again : {S A : Type 0} (item : S → Reader A) (next : S → A → S) (s : A → List ℕ) (F : S → A → Type 0) → ((state : S) → IsFormat (item state) s (F state))
    → (xs : List A) (state : S) (rest : List ℕ) → EachFits F next state xs → many item next (length xs) state (spell_each s xs ++ rest) ≡ Ok (xs, rest)
many-again item next s F one [] state rest h = refl
many-again item next s F one (x ∷ xs) state rest h =
    rw (append_assoc (s x) (spell_each s xs) rest, (one state).again x (spell_each s xs ++ rest) h.0) (rw (many-again item next s F one xs (next state x) rest h.1) refl)

pub many-format : {S A : Type 0} (item : S → Reader A) (next : S → A → S) (s : A → List ℕ) (F : S → A → Type 0) → ((state : S) → IsFormat (item state) s (F state))
    → (n : ℕ) (state : S) → IsFormat (many item next n state) (spell_each s) (IsMany F next n state)
many-format {S} {A} item next s F one n state = format (many item next n state) (spell_each s) (IsMany F next n state)
    (λ bytes rest xs fits e. many-takes item next s F one n state bytes rest xs fits e)
    (λ xs rest h.
    let P : ℕ → Type 0 = λ k. many item next k state (spell_each s xs ++ rest) ≡ Ok (xs, rest) in
    subst P h.0 (many-again item next s F one xs state rest h.1))
    (many-stays item next (λ t. (one t).stays) n state)

-- ---- the whole

abbrev end_of : {A : Type 0} → A × List ℕ → Result A Bad
end_of a = cond (eqb (length a.1) 0) (Ok a.0) (Err Trailing)

end-more : {A : Type 0} (x : A) (b : ℕ) (rest : List ℕ) → end_of (x, b ∷ rest) ≡ Err Trailing
end-more x b rest =
    let none : eqb (length (b ∷ rest)) 0 ≡ false = ne_eqb (length (b ∷ rest)) 0 (λ e. absurd (omega arith)) in
    rw none refl

end_at : {A : Type 0} (x : A) (rest : List ℕ) → rest ≢ [] → end_of (x, rest) ≡ Err Trailing
end_at x [] none = absurd (none refl)
end_at x (b ∷ rest) none = end-more x b rest

defect_at : {A : Type 0} (r : Reader A) (bytes more : List ℕ) (bad : Bad) → Stays r → bad ≢ Short
    → (v : Result (A × List ℕ) Bad) → r bytes ≡ v → (v >>= end_of) ≡ Err bad → whole r (bytes ++ more) ≡ Err bad
defect_at r bytes more bad stays other (Ok (x, [])) e h = absurd (done-fault x bad h)
defect_at r bytes more bad stays other (Ok (x, b ∷ rest)) e h =
    let far : r (bytes ++ more) ≡ Ok (x, b ∷ (rest ++ more)) = stays bytes more (λ s. done-fault (x, b ∷ rest) Short (sym e ∙ s)) ∙ ap (with_more more) e in
    rw far (end-more x b (rest ++ more) ∙ sym (end-more x b rest) ∙ h)
defect_at {A} r bytes more bad stays other (Err d) e h =
    let same : d ≡ bad = fault_is {A = A} d bad h in
    let here : r bytes ≢ Err Short = λ s. other (sym same ∙ fault_is {A = A × List ℕ} d Short (sym e ∙ s)) in
    let far : r (bytes ++ more) ≡ Err d = stays bytes more here ∙ ap (with_more more) e in
    rw far h

pub whole-law : {A : Type 0} (r : Reader A) (s : A → List ℕ) (F : A → Type 0) → IsFormat r s F → IsWhole (whole r) s F
whole-law {A} r s F one =
    let alone : (x : A) → F x → r (s x) ≡ Ok (x, []) = λ x fits. ap r (sym (append-nil (s x))) ∙ one.again x [] fits in
    record {
      takes = λ bytes x fits e.
          let a = bind_ok (r bytes) end_of x e in
          let g = passed (eqb (length a.0.1) 0) Trailing a.0.0 x a.2 in
          let t = one.takes bytes a.0.1 a.0.0 fits a.1 in
          let none : a.0.1 ≡ [] = nil_from_length a.0.1 (eqb-true (length a.0.1) 0 g.0) in
          let P : A → Type 0 = λ y. (bytes ≡ s y) × F y in
          subst P g.1 (t.0.parts ∙ ap (λ (rest : List ℕ). s a.0.0 ++ rest) none ∙ append-nil (s a.0.0), t.1);
      again = λ x fits. rw (alone x fits) refl;
      one = λ x y fits fits' e. ap (λ (p : A × List ℕ). p.0) (done_is (x, []) (y, []) (sym (alone x fits) ∙ ap r e ∙ alone y fits'));
      short = λ x part back fits e none. rw (one.short x part back fits e none) refl;
      trailing = λ x more fits none. rw (one.again x more fits) (end_at x more none);
      stays = λ bytes more bad e other. defect_at r bytes more bad one.stays other (r bytes) refl e;
    }
