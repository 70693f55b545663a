-- Tags that were passed along a chain, and those that a position adds.
use Rattle.std.proofs.Common.{◌≡◌, ℕ, zero, suc, ◌+◌, ◌-◌, ◌≤◌, ◌<◌, leb, eqb, cond, Bool, true, false, ◌&&◌, List, [], ◌∷◌, ◌++◌, map, All, Option, None, Some, refl, sym, ap, ◌∙◌, arith}
use Rattle.std.specs.List.{filter, range_with_len}
use Rattle.std.proofs.lemmas.Bool.{false≢true, leb-true}
use Rattle.std.proofs.lemmas.Bool.Decides.{Decides-eqb}
use Rattle.std.proofs.lemmas.List.Elements.{All-cons, All-head, All-tail}
use Rattle.ab_num.specs.declared.party.Party.{Party}
use Rattle.ab_num.specs.declared.party.Party.TheVariants.{Replica, Client}
use Rattle.ab_num.specs.Parties.{party_eq}
use Rattle.ab_num.proofs.PartyLemmas.{party_eq-refl}
use Rattle.ab_keys.specs.Rings.{Ring}
use Rattle.ab_msg.specs.declared.chain_tags.TagBetween.{TagBetween}
use Rattle.ab_msg.specs.declared.content.Content.{Content}
use Rattle.ab_msg.specs.Claims.{each_before}
use Rattle.ab_check.specs.Checks.{tag_between}
use Rattle.ab_seal.specs.Sealing.{tag_for, tag_made}

abbrev pub there : List ℕ → Option (List ℕ)
there tag = Some tag

abbrev pub missing : Option (List ℕ)
missing = None

-- ---- the first of two lists counts

abbrev first_of_two : Bool → List ℕ → Option (List ℕ) → Option (List ℕ)
first_of_two b tag rest = cond b (Some tag) rest

pub found-first : (by to : Party) (xs ys : List TagBetween) (tag : List ℕ) → tag_between by to xs ≡ there tag → tag_between by to (xs ++ ys) ≡ there tag
found-first by to [] ys tag e = absurd cc
found-first by to (t ∷ xs) ys tag e =
    (elim (party_eq t.by by && party_eq t.to to) as (λ b. first_of_two b t.tag (tag_between by to xs) ≡ there tag → first_of_two b t.tag (tag_between by to (xs ++ ys)) ≡ there tag) [
      | true ↦ λ h. h
      | false ↦ λ h. found-first by to xs ys tag h
    ]) e

pub found-later : (by to : Party) (xs ys : List TagBetween) → tag_between by to xs ≡ missing → tag_between by to (xs ++ ys) ≡ tag_between by to ys
found-later by to [] ys e = refl
found-later by to (t ∷ xs) ys e =
    (elim (party_eq t.by by && party_eq t.to to) as (λ b. first_of_two b t.tag (tag_between by to xs) ≡ missing → first_of_two b t.tag (tag_between by to (xs ++ ys)) ≡ tag_between by to ys) [
      | true ↦ λ h. absurd cc
      | false ↦ λ h. found-later by to xs ys h
    ]) e

-- ---- tags of one party for replicas

in-first : (x s : ℕ) (t : ℕ → List ℕ) (rest : Option (List ℕ)) (b : Bool) → eqb x s ≡ b → (b ≡ false → rest ≡ there (t s)) → first_of_two b (t x) rest ≡ there (t s)
in-first x s t rest true e h = ap (λ n. there (t n)) ((Decides-eqb x s).0 e)
in-first x s t rest false e h = h refl

pub in-forward : (ring : Ring) (text : List ℕ) (g : ℕ → ℕ) (s n a j : ℕ) → j < n → g (a + j) ≡ s
    → tag_between ring.me (Replica s) (map (λ q. tag_for ring text (Replica (g q))) (range_with_len a n)) ≡ there (tag_made ring (Replica s) text)
in-forward ring text g s zero a j lt at = absurd (omega arith)
in-forward ring text g s (suc n) a zero lt at =
    let rest = tag_between ring.me (Replica s) (map (λ q. tag_for ring text (Replica (g q))) (range_with_len (a + 1) n)) in
    let here : g a ≡ s = ap g (let e : a ≡ a + zero = omega arith in e) ∙ at in
    ap (λ b. first_of_two (b && eqb (g a) s) (tag_made ring (Replica (g a)) text) rest) (party_eq-refl ring.me)
    ∙ in-first (g a) s (λ x. tag_made ring (Replica x) text) rest (eqb (g a) s) refl (λ other. absurd (false≢true (sym other ∙ (Decides-eqb (g a) s).1 here)))
in-forward ring text g s (suc n) a (suc j) lt at =
    let rest = tag_between ring.me (Replica s) (map (λ q. tag_for ring text (Replica (g q))) (range_with_len (a + 1) n)) in
    let next : g (a + 1 + j) ≡ s = ap g (let e : a + 1 + j ≡ a + suc j = omega arith in e) ∙ at in
    ap (λ b. first_of_two (b && eqb (g a) s) (tag_made ring (Replica (g a)) text) rest) (party_eq-refl ring.me)
    ∙ in-first (g a) s (λ x. tag_made ring (Replica x) text) rest (eqb (g a) s) refl (λ other. in-forward ring text g s n (a + 1) j (omega arith) next)

never-both : (b : Bool) (tag : List ℕ) (rest : Option (List ℕ)) → first_of_two (b && false) tag rest ≡ rest
never-both true tag rest = refl
never-both false tag rest = refl

-- none of them is for a client
pub not-forward : (ring : Ring) (text : List ℕ) (g : ℕ → ℕ) (c : ℕ) (qs : List ℕ) → tag_between ring.me (Client c) (map (λ q. tag_for ring text (Replica (g q))) qs) ≡ missing
not-forward ring text g c [] = refl
not-forward ring text g c (q ∷ qs) =
    never-both (party_eq ring.me ring.me) (tag_made ring (Replica (g q)) text) (tag_between ring.me (Client c) (map (λ x. tag_for ring text (Replica (g x))) qs)) ∙ not-forward ring text g c qs

-- the tag for a client
pub for-client : (ring : Ring) (text : List ℕ) (c x : ℕ) → eqb c x ≡ true → tag_between ring.me (Client x) (tag_for ring text (Client c) ∷ []) ≡ there (tag_made ring (Client x) text)
for-client ring text c x e =
    ap (λ b. first_of_two (b && eqb c x) (tag_made ring (Client c) text) None) (party_eq-refl ring.me)
    ∙ ap (λ b. first_of_two b (tag_made ring (Client c) text) None) e
    ∙ ap (λ n. there (tag_made ring (Client n) text)) ((Decides-eqb c x).0 e)

-- ---- lists of claims

before-test : (P : Content → Type 0) (b : Bool) (x : Content) (xs : List Content) → (b ≡ true → P x) → All P xs → All P (cond b (x ∷ xs) xs)
before-test P true x xs h rest = All-cons P x xs (h refl) rest
before-test P false x xs h rest = rest

-- what holds of each position before p that is looked at
pub each-before : (P : Content → Type 0) (says : ℕ → Content) (k p : ℕ) → ((j : ℕ) → j < k → j + 2 ≤ p → P (says (p - (j + 1)))) → All P (each_before k says p)
each-before P says zero p h = λ i d lt. absurd (omega (arith, lt))
each-before P says (suc k) p h =
    before-test P (leb (k + 2) p) (says (p - (k + 1))) (each_before k says p) (λ e. h k (omega arith) (leb-true (k + 2) p e))
    (each-before P says k p (λ j lt le. h j (omega arith) le))

keep-test : {A : Type 0} (P : A → Type 0) (b : Bool) (x : A) (xs : List A) → All P (cond b (x ∷ xs) xs) → (b ≡ true → P x) × All P xs
keep-test P true x xs h = (λ _. All-head P x xs h, All-tail P x xs h)
keep-test P false x xs h = (λ e. absurd (false≢true e), h)

-- what holds of each that a filter keeps
pub kept : {A : Type 0} (P : A → Type 0) (test : A → Bool) (xs : List A) → All P (filter test xs) → All (λ x. test x ≡ true → P x) xs
kept P test [] h = λ i d lt. absurd (omega (arith, lt))
kept P test (x ∷ xs) h =
    let both = keep-test P (test x) x (filter test xs) h in
    All-cons (λ y. test y ≡ true → P y) x xs both.0 (kept P test xs both.1)

pub mapped : {A B : Type 0} (P : B → Type 0) (g : A → B) (xs : List A) → All P (map g xs) → All (λ x. P (g x)) xs
mapped P g [] h = λ i d lt. absurd (omega (arith, lt))
mapped P g (x ∷ xs) h = All-cons (λ y. P (g y)) x xs (All-head P (g x) (map g xs) h) (mapped P g xs (All-tail P (g x) (map g xs) h))
