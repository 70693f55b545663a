-- A client that commits by a certificate has what the rules of acts ask.
use Rattle.std.proofs.Common.{◌≡◌, ℕ, zero, suc, ◌+◌, ◌*◌, ◌<◌, Bool, true, false, not, Option, None, Some, List, [], ◌∷◌, ◌++◌, ◌⊎◌, length, map, take, refl, sym, ap, ◌∙◌, subst, inl, inr, if◌then◌else◌, arith}
use Rattle.std.specs.Prelude.{Contains, ◌==◌, ◌&&◌, ◌||◌, nat_eq, nat_lt, nat_le}
use Rattle.std.specs.List.{list_any, list_all, IsDistinct, AllByRecursion}
use Rattle.std.specs.Str.{bytes_eq}
use Rattle.std.proofs.lemmas.Bool.{and_parts, eqb-true, ltb-true, leb-true}
use Rattle.std.proofs.lemmas.Bool.Decides.{Decides-eqb, nat_tests}
use Rattle.std.proofs.lemmas.Slice.Eq.{bytes_eq-Decides}
use Rattle.std.proofs.lemmas.List.{length-take, length-map}
use Rattle.std.proofs.lemmas.List.Elements.{Contains-append_left, Contains-append_right, Contains-append_cases}
use Rattle.ab_num.specs.declared.party.Party.TheVariants.{Replica}
use Rattle.ab_num.proofs.Lists.{Contains-head, Contains-tail, Contains-none, Contains-one, Contains-cons_cases, Contains-map, Contains-map_cases}
use Rattle.ab_hist.specs.declared.request.Request.{Request}
use Rattle.ab_msg.specs.declared.content.Content.{Content}
use Rattle.ab_msg.specs.declared.content.Content.TheVariants.{Spec, LocalCommit}
use Rattle.ab_msg.specs.declared.zcert.Zcert.{Zcert}
use Rattle.ab_msg.specs.Claims.{spec_of, specs_of}
use Rattle.ab_abs.specs.declared.ballot.Ballot.{Ballot}
use Rattle.ab_abs.specs.Votes.{same_vote, voted}
use Rattle.ab_abs.specs.Acts.{Setting}
use Rattle.ab_abs.specs.Rules.{AreStated, IsCertified, by_kept}
use Rattle.ab_abs.specs.Certificates.{are_apart}
use Rattle.ab_abs.proofs.Prefixes.{take_begins, Contains-prefix}
use Rattle.ab_abs.proofs.Extracted.{all_of, apart_distinct}
use Rattle.ab_run.specs.Asking.{sig_of, with_sig, sigs_below, zcert_of_sigs, or_later, zcert_among, unless_sent, teller, is_told_full, told_claims, IsSent, AreVoters, AreTelling}
use Rattle.ab_run.proofs.Counted.{any_cases, same_vote_parts}

-- ---- a certificate of votes

sig_there : (signed : List (ℕ × List ℕ)) (r : ℕ) (sig : List ℕ) → sig_of signed r ≡ Some sig → Contains signed (r, sig)
sig_there [] r sig is = absurd (cc (is))
sig_there (s ∷ signed) r sig is = there_by s signed r sig (s.0 == r) refl is (sig_there signed r sig)
  where
    there_by : (s : ℕ × List ℕ) (signed : List (ℕ × List ℕ)) (r : ℕ) (sig : List ℕ) (t : Bool) → (s.0 == r) ≡ t → (if t then Some s.1 else sig_of signed r) ≡ Some sig → (sig_of signed r ≡ Some sig → Contains signed (r, sig)) → Contains (s ∷ signed) (r, sig)
    there_by s signed r sig true test is more =
        let e_r : s.0 ≡ r = eqb-true s.0 r test in
        let e_s : s.1 ≡ sig = cc (is) in
        subst (λ (q : ℕ × List ℕ). Contains (s ∷ signed) q) (λ i. (e_r i, e_s i)) (Contains-head s signed)
    there_by s signed r sig false test is more = Contains-tail s (r, sig) signed (more is)

sig_with : (signed : List (ℕ × List ℕ)) (k : ℕ) (o : Option (List ℕ)) (s : ℕ × List ℕ) → sig_of signed k ≡ o → Contains (with_sig k o) s → (s.0 ≡ k) × Contains signed s
sig_with signed k None s is has = absurd (Contains-none s has)
sig_with signed k (Some sig) s is has =
    let e = Contains-one (k, sig) s has in
    (sym (ap (λ (t : ℕ × List ℕ). t.0) e), subst (λ (t : ℕ × List ℕ). Contains signed t) e (sig_there signed k sig is))

sig_if : (votes : List Ballot) (signed : List (ℕ × List ℕ)) (b : Ballot) (k : ℕ) (s : ℕ × List ℕ) (t : Bool) → voted votes b k ≡ t → Contains (if t then with_sig k (sig_of signed k) else []) s → (s.0 ≡ k) × (voted votes b k ≡ true) × Contains signed s
sig_if votes signed b k s true is has = let r = sig_with signed k (sig_of signed k) s refl has in (r.0, is, r.1)
sig_if votes signed b k s false is has = absurd (Contains-none s has)

-- each stands for a vote, below k
sig_below : (votes : List Ballot) (signed : List (ℕ × List ℕ)) (b : Ballot) (k : ℕ) (s : ℕ × List ℕ) → Contains (sigs_below votes signed b k) s → (s.0 < k) × (voted votes b s.0 ≡ true) × Contains signed s
sig_below votes signed b zero s has = absurd (Contains-none s has)
sig_below votes signed b (suc k) s has =
    elim (Contains-append_cases (sigs_below votes signed b k) (if voted votes b k then with_sig k (sig_of signed k) else []) s has) [
      | inl lower ↦ let r = sig_below votes signed b k s lower in (omega (arith, r.0), r.1, r.2)
      | inr here ↦ let r = sig_if votes signed b k s (voted votes b k) refl here in (omega (arith, r.0), subst (λ (q : ℕ). voted votes b q ≡ true) (sym r.0) r.1, r.2)
    ]

-- ---- they are apart

abbrev numbers : List (ℕ × List ℕ) → List ℕ
numbers sigs = map (λ s. s.0) sigs

differs_all : (r : ℕ) (xs : List ℕ) → ((q : ℕ) → Contains xs q → q < r) → list_all (λ s. not (s == r)) xs ≡ true
differs_all r [] below = refl
differs_all r (x ∷ xs) below =
    let lt = below x (Contains-head x xs) in
    both_true (not (x == r)) (list_all (λ s. not (s == r)) xs) (differs x r lt) (differs_all r xs (λ q has. below q (Contains-tail x q xs has)))
  where
    differs : (n m : ℕ) → n < m → not (n == m) ≡ true
    differs n m lt = grind (arith, nat_tests)

    both_true : (p q : Bool) → p ≡ true → q ≡ true → (p && q) ≡ true
    both_true true q is also = also
    both_true false q is also = absurd (cc (is))

-- one more number at the end that is above all
apart_push : (xs : List ℕ) (r : ℕ) → are_apart xs ≡ true → ((q : ℕ) → Contains xs q → q < r) → are_apart (xs ++ r ∷ []) ≡ true
apart_push [] r apart below = refl
apart_push (x ∷ xs) r apart below =
    let both = and_parts (list_all (λ s. not (x == s)) xs) (are_apart xs) apart in
    let lt = below x (Contains-head x xs) in
    both_true (list_all (λ s. not (x == s)) (xs ++ r ∷ [])) (are_apart (xs ++ r ∷ [])) (all_push x xs r both.0 lt) (apart_push xs r both.1 (λ q has. below q (Contains-tail x q xs has)))
  where
    both_true : (p q : Bool) → p ≡ true → q ≡ true → (p && q) ≡ true
    both_true true q is also = also
    both_true false q is also = absurd (cc (is))

    differs : (n m : ℕ) → n < m → (not (n == m) && true) ≡ true
    differs n m lt = grind (arith, nat_tests)

    all_push : (x : ℕ) (xs : List ℕ) (r : ℕ) → list_all (λ s. not (x == s)) xs ≡ true → x < r → list_all (λ s. not (x == s)) (xs ++ r ∷ []) ≡ true
    all_push x [] r all lt = differs x r lt
    all_push x (y ∷ ys) r all lt =
        let both = and_parts (not (x == y)) (list_all (λ s. not (x == s)) ys) all in
        both_true (not (x == y)) (list_all (λ s. not (x == s)) (ys ++ r ∷ [])) both.0 (all_push x ys r both.1 lt)

map_push : (sigs : List (ℕ × List ℕ)) (s : ℕ × List ℕ) → numbers (sigs ++ s ∷ []) ≡ numbers sigs ++ s.0 ∷ []
map_push [] s = refl
map_push (t ∷ sigs) s = ap (λ ns. t.0 ∷ ns) (map_push sigs s)

push_none : {A : Type 0} (xs : List A) → xs ++ [] ≡ xs
push_none [] = refl
push_none (x ∷ xs) = ap (λ ys. x ∷ ys) (push_none xs)

sigs_apart_with : (sigs : List (ℕ × List ℕ)) (k : ℕ) (o : Option (List ℕ)) → are_apart (numbers sigs) ≡ true → ((q : ℕ) → Contains (numbers sigs) q → q < k) → are_apart (numbers (sigs ++ with_sig k o)) ≡ true
sigs_apart_with sigs k None apart below = ap (λ ss. are_apart (numbers ss)) (push_none sigs) ∙ apart
sigs_apart_with sigs k (Some sig) apart below = ap are_apart (map_push sigs (k, sig)) ∙ apart_push (numbers sigs) k apart below

sigs_apart_if : (sigs : List (ℕ × List ℕ)) (k : ℕ) (o : Option (List ℕ)) (t : Bool) → are_apart (numbers sigs) ≡ true → ((q : ℕ) → Contains (numbers sigs) q → q < k) → are_apart (numbers (sigs ++ (if t then with_sig k o else []))) ≡ true
sigs_apart_if sigs k o true apart below = sigs_apart_with sigs k o apart below
sigs_apart_if sigs k o false apart below = sigs_apart_with sigs k None apart below

sigs_apart : (votes : List Ballot) (signed : List (ℕ × List ℕ)) (b : Ballot) (k : ℕ) → are_apart (numbers (sigs_below votes signed b k)) ≡ true
sigs_apart votes signed b zero = refl
sigs_apart votes signed b (suc k) =
    sigs_apart_if (sigs_below votes signed b k) k (sig_of signed k) (voted votes b k) (sigs_apart votes signed b k) (λ q has.
    let s = Contains-map_cases (λ (t : ℕ × List ℕ). t.0) (sigs_below votes signed b k) q has in omega (arith, s.2, (sig_below votes signed b k s.0 s.1).0))

-- a front of them is apart too
apart_take : (n : ℕ) (xs : List ℕ) → are_apart xs ≡ true → are_apart (take n xs) ≡ true
apart_take zero xs apart = refl
apart_take (suc n) [] apart = refl
apart_take (suc n) (x ∷ xs) apart =
    let both = and_parts (list_all (λ s. not (x == s)) xs) (are_apart xs) apart in
    both_true (list_all (λ s. not (x == s)) (take n xs)) (are_apart (take n xs)) (all_take n x xs both.0) (apart_take n xs both.1)
  where
    both_true : (p q : Bool) → p ≡ true → q ≡ true → (p && q) ≡ true
    both_true true q is also = also
    both_true false q is also = absurd (cc (is))

    all_take : (n x : ℕ) (xs : List ℕ) → list_all (λ s. not (x == s)) xs ≡ true → list_all (λ s. not (x == s)) (take n xs) ≡ true
    all_take zero x xs all = refl
    all_take (suc n) x [] all = refl
    all_take (suc n) x (y ∷ ys) all =
        let both = and_parts (not (x == y)) (list_all (λ s. not (x == s)) ys) all in
        both_true (not (x == y)) (list_all (λ s. not (x == s)) (take n ys)) both.0 (all_take n x ys both.1)

map_take : (n : ℕ) (sigs : List (ℕ × List ℕ)) → numbers (take n sigs) ≡ take n (numbers sigs)
map_take zero sigs = refl
map_take (suc n) [] = refl
map_take (suc n) (s ∷ sigs) = ap (λ ns. s.0 ∷ ns) (map_take n sigs)

all_below : (f : ℕ) (sigs : List (ℕ × List ℕ)) → ((s : ℕ × List ℕ) → Contains sigs s → s.0 < 3 * f + 1) → list_all (λ s. nat_lt s.0 (3 * f + 1)) sigs ≡ true
all_below f [] each = refl
all_below f (s ∷ sigs) each = both_true (nat_lt s.0 (3 * f + 1)) (list_all (λ s. nat_lt s.0 (3 * f + 1)) sigs) (lt_true s.0 (3 * f + 1) (each s (Contains-head s sigs))) (all_below f sigs (λ t has. each t (Contains-tail s t sigs has)))
  where
    lt_true : (n m : ℕ) → n < m → nat_lt n m ≡ true
    lt_true n m lt = grind (arith, lt)

    both_true : (p q : Bool) → p ≡ true → q ≡ true → (p && q) ≡ true
    both_true true q is also = also
    both_true false q is also = absurd (cc (is))

below_each : (f : ℕ) (sigs : List (ℕ × List ℕ)) → list_all (λ s. nat_lt s.0 (3 * f + 1)) sigs ≡ true → (s : ℕ × List ℕ) → Contains sigs s → s.0 < 3 * f + 1
below_each f [] all s has = absurd (Contains-none s has)
below_each f (t ∷ sigs) all s has =
    let both = and_parts (nat_lt t.0 (3 * f + 1)) (list_all (λ s. nat_lt s.0 (3 * f + 1)) sigs) all in
    elim (Contains-cons_cases t sigs s has) [
      | inl e ↦ subst (λ (u : ℕ × List ℕ). u.0 < 3 * f + 1) e (ltb-true t.0 (3 * f + 1) both.0)
      | inr more ↦ below_each f sigs both.1 s more
    ]

all_three : (p q r : Bool) → p ≡ true → q ≡ true → r ≡ true → (p && (q && r)) ≡ true
all_three true true r one two three = three
all_three true false r one two three = absurd (cc (two))
all_three false q r one two three = absurd (cc (one))

eq_true : (n m : ℕ) → n ≡ m → (n == m) ≡ true
eq_true n m e = (Decides-eqb n m).1 e

-- ---- what the certificate says

module _ (f : ℕ) (m : Request) (votes : List Ballot) (signed : List (ℕ × List ℕ)) where
  abbrev Holds : Zcert → Type 0
  Holds z = IsSent f m.client m.stamp z × AreVoters votes signed z

  made_of_sigs : (b : Ballot) (z : Zcert) (t : Bool) → nat_le (2 * f + 1) (length (sigs_below votes signed b (3 * f + 1))) ≡ t
      → (if t then Some (record { client = m.client; stamp = m.stamp; n = b.n; d = b.d; reply = b.reply; sigs = take (2 * f + 1) (sigs_below votes signed b (3 * f + 1)) }) else None) ≡ Some z → Holds z
  made_of_sigs b z false test is = absurd (cc (is))
  made_of_sigs b z true test is =
      let sigs = sigs_below votes signed b (3 * f + 1) in
      let made : Zcert = record { client = m.client; stamp = m.stamp; n = b.n; d = b.d; reply = b.reply; sigs = take (2 * f + 1) sigs } in
      let e : made ≡ z = cc (is) in
      let is_there : (s : ℕ × List ℕ) → Contains (take (2 * f + 1) sigs) s → Contains sigs s = λ s has. Contains-prefix (take (2 * f + 1) sigs) sigs s (take_begins (2 * f + 1) sigs) has in
      let many : length (take (2 * f + 1) sigs) ≡ 2 * f + 1 = omega (arith, length-take (2 * f + 1) sigs, leb-true (2 * f + 1) (length sigs) test) in
      subst Holds e (
        record {
          client_is = refl;
          stamp_is = refl;
          quorum = all_three (length made.sigs == (2 * f + 1)) (are_apart (numbers made.sigs)) (list_all (λ s. nat_lt s.0 (3 * f + 1)) made.sigs)
              (eq_true (length made.sigs) (2 * f + 1) many)
              (ap are_apart (map_take (2 * f + 1) sigs) ∙ apart_take (2 * f + 1) (numbers sigs) (sigs_apart votes signed b (3 * f + 1)))
              (all_below f made.sigs (λ s has. (sig_below votes signed b (3 * f + 1) s (is_there s has)).0));
        },
        λ s has.
            let there = sig_below votes signed b (3 * f + 1) s (is_there s has) in
            let v = any_cases (λ a. (a.by == s.0) && same_vote a b) votes there.1 in
            let p = and_parts (v.0.by == s.0) (same_vote v.0 b) v.2 in
            let q = same_vote_parts v.0 b p.1 in
            (there.2, (v.0, v.1, eqb-true v.0.by s.0 p.0, q.0, q.1, q.2)),
      )

  sent_later : (z : Zcert) (o more : Option Zcert) → or_later o more ≡ Some z → ((o ≡ Some z) → Holds z) → ((more ≡ Some z) → Holds z) → Holds z
  sent_later z None more is first rest = rest is
  sent_later z (Some y) more is first rest = first is

  sent_among : (some : List Ballot) (z : Zcert) → zcert_among f m votes signed some ≡ Some z → Holds z
  sent_among [] z is = absurd (cc (is))
  sent_among (b ∷ some) z is =
      sent_later z (zcert_of_sigs f m b (sigs_below votes signed b (3 * f + 1))) (zcert_among f m votes signed some) is
      (λ e. made_of_sigs b z (nat_le (2 * f + 1) (length (sigs_below votes signed b (3 * f + 1)))) refl e) (sent_among some z)

  -- the certificate that a timeout sends
  unless_some : (o made : Option Zcert) (z : Zcert) → unless_sent o made ≡ Some z → made ≡ Some z
  unless_some (Some y) made z is = absurd (cc (is))
  unless_some None made z is = is

pub cert_holds : (f : ℕ) (m : Request) (votes : List Ballot) (signed : List (ℕ × List ℕ)) (z : Zcert) → zcert_among f m votes signed votes ≡ Some z → IsSent f m.client m.stamp z × AreVoters votes signed z
cert_holds f m votes signed z is = sent_among f m votes signed votes z is

pub timeout_sends : (f : ℕ) (m : Request) (votes : List Ballot) (signed : List (ℕ × List ℕ)) (o : Option Zcert) (z : Zcert) → unless_sent o (zcert_among f m votes signed votes) ≡ Some z
    → IsSent f m.client m.stamp z × AreVoters votes signed z
timeout_sends f m votes signed o z is = cert_holds f m votes signed z (unless_some f m votes signed o (zcert_among f m votes signed votes) z is)

-- ---- who told

pub none_telling : (f : ℕ) → AreTelling f []
unfolding IsDistinct
none_telling f = record { each_once = tt; within = λ r has. absurd (Contains-none r has) }

none_such : (r : ℕ) (told : List ℕ) → list_any (λ q. q == r) told ≡ false → AllByRecursion (λ y. nat_eq r y ≡ false) told
none_such r [] none = tt
none_such r (q ∷ told) none = (other r q (list_any (λ q. q == r) told) none, none_such r told (rest (q == r) (list_any (λ q. q == r) told) none))
  where
    other : (r q : ℕ) (b : Bool) → ((q == r) || b) ≡ false → nat_eq r q ≡ false
    other r q b e = grind (arith, nat_tests)

    rest : (a b : Bool) → (a || b) ≡ false → b ≡ false
    rest true b e = absurd (cc (e))
    rest false b e = e

pub told_more : (f : ℕ) (told : List ℕ) (r : ℕ) → AreTelling f told → r < 3 * f + 1 → list_any (λ q. q == r) told ≡ false → AreTelling f (r ∷ told)
unfolding IsDistinct
told_more f told r are lt test = record {
  each_once = (none_such r told test, are.each_once);
  within = λ q in_told. elim (Contains-cons_cases r told q in_told) [ inl e ↦ subst (λ (n : ℕ). n < 3 * f + 1) e lt | inr more ↦ are.within q more ];
}

-- the LOCAL-COMMIT of a replica that counts
teller_with : (f i c r j e stamp n : ℕ) (d : List ℕ) (z : Zcert) (t : Bool) (q : ℕ) → (((j == i) && ((e == c) && (stamp == z.stamp))) && (((n == z.n) && bytes_eq d z.d) && nat_lt r (3 * f + 1))) ≡ t → (if t then Some r else None) ≡ Some q
    → (q < 3 * f + 1) × (LocalCommit (Replica r) j e stamp n d ≡ LocalCommit (Replica q) i c z.stamp z.n z.d)
teller_with f i c r j e stamp n d z false q test is = absurd (cc (is))
teller_with f i c r j e stamp n d z true q test is =
    let r_is : r ≡ q = cc (is) in
    let p = and_parts ((j == i) && ((e == c) && (stamp == z.stamp))) (((n == z.n) && bytes_eq d z.d) && nat_lt r (3 * f + 1)) test in
    let one = and_parts (j == i) ((e == c) && (stamp == z.stamp)) p.0 in
    let own = and_parts (e == c) (stamp == z.stamp) one.1 in
    let two = and_parts ((n == z.n) && bytes_eq d z.d) (nat_lt r (3 * f + 1)) p.1 in
    let three = and_parts (n == z.n) (bytes_eq d z.d) two.0 in (
      subst (λ (s : ℕ). s < 3 * f + 1) r_is (ltb-true r (3 * f + 1) two.1),
      ap (λ (k : ℕ). LocalCommit (Replica k) j e stamp n d) r_is ∙ (ap (λ (k : ℕ). LocalCommit (Replica q) k e stamp n d) (eqb-true j i one.0) ∙ (ap (λ (k : ℕ). LocalCommit (Replica q) i k stamp n d) (eqb-true e c own.0)
          ∙ (ap (λ (k : ℕ). LocalCommit (Replica q) i c k n d) (eqb-true stamp z.stamp own.1) ∙ (ap (λ (k : ℕ). LocalCommit (Replica q) i c z.stamp k d) (eqb-true n z.n three.0)
          ∙ ap (λ (k : List ℕ). LocalCommit (Replica q) i c z.stamp z.n k) ((bytes_eq-Decides d z.d).0 three.1))))),
    )

pub teller_is : (f i c : ℕ) (z : Zcert) (s : Content) (q : ℕ) → teller f i c z s ≡ Some q → (q < 3 * f + 1) × (s ≡ LocalCommit (Replica q) i c z.stamp z.n z.d)
teller_is f i c z (LocalCommit (Replica r) j e stamp n d) q is =
    teller_with f i c r j e stamp n d z (((j == i) && ((e == c) && (stamp == z.stamp))) && (((n == z.n) && bytes_eq d z.d) && nat_lt r (3 * f + 1))) q refl is
teller_is f i c z _ q is = absurd (cc (is))

-- ---- the commit

sigs_stated : (x : Setting) (c stamp : ℕ) (told : List ℕ) (z : Zcert) → IsSent x.cluster.f c stamp z → AreStated (2 * x.cluster.f + 1) x (told_claims x.i c z told) (λ r. Spec (Replica r) x.i c stamp z.n z.d z.reply)
sigs_stated x c stamp told z is =
    let f = x.cluster.f in
    let heard = told_claims x.i c z told in
    let many = and_parts (length z.sigs == (2 * f + 1)) (are_apart (numbers z.sigs) && list_all (λ s. nat_lt s.0 (3 * f + 1)) z.sigs) is.quorum in
    let more = and_parts (are_apart (numbers z.sigs)) (list_all (λ s. nat_lt s.0 (3 * f + 1)) z.sigs) many.1 in
    record {
      by = numbers z.sigs;
      enough = length-map z.sigs (λ (s : ℕ × List ℕ). s.0) ∙ eqb-true (length z.sigs) (2 * f + 1) many.0;
      each_once = apart_distinct (numbers z.sigs) more.0;
      within = all_of (λ r. r < 3 * f + 1) (numbers z.sigs) (λ r has. let s = Contains-map_cases (λ (t : ℕ × List ℕ). t.0) z.sigs r has in subst (λ (n : ℕ). n < 3 * f + 1) s.2 (below_each f z.sigs more.1 s.0 s.1));
      stated = all_of (λ r. Contains heard (Spec (Replica r) x.i c stamp z.n z.d z.reply)) (numbers z.sigs) (λ r has.
          let s = Contains-map_cases (λ (t : ℕ × List ℕ). t.0) z.sigs r has in
          let claim = Contains-append_right (map (λ q. LocalCommit (Replica q) x.i c z.stamp z.n z.d) told) (specs_of x.i z) (spec_of x.i z s.0.0) (Contains-map (λ (t : ℕ × List ℕ). spec_of x.i z t.0) z.sigs s.0 s.1) in
          let named = ap (λ (k : ℕ). Spec (Replica s.0.0) x.i k z.stamp z.n z.d z.reply) is.client_is ∙ ap (λ (k : ℕ). Spec (Replica s.0.0) x.i c k z.n z.d z.reply) is.stamp_is in
          subst (λ (n : ℕ). Contains heard (Spec (Replica n) x.i c stamp z.n z.d z.reply)) s.2 (subst (λ (t : Content). Contains heard t) named claim));
    }

-- a client that commits as 2f + 1 replicas told has what the rules of acts ask
pub told_is_full : (x : Setting) (c stamp : ℕ) (z : Zcert) (told : List ℕ) → IsSent x.cluster.f c stamp z → AreTelling x.cluster.f told → is_told_full x.cluster.f told ≡ true
    → IsCertified x (told_claims x.i c z told) c stamp z.n z.d z.reply
told_is_full x c stamp z told sent are full =
    let heard = told_claims x.i c z told in
    by_kept (record {
      by = told;
      enough = eqb-true (length told) (2 * x.cluster.f + 1) full;
      each_once = are.each_once;
      within = all_of (λ r. r < 3 * x.cluster.f + 1) told are.within;
      stated = all_of (λ r. Contains heard (LocalCommit (Replica r) x.i c stamp z.n z.d)) told (λ r has.
          let claim = Contains-append_left (map (λ q. LocalCommit (Replica q) x.i c z.stamp z.n z.d) told) (specs_of x.i z) (LocalCommit (Replica r) x.i c z.stamp z.n z.d) (Contains-map (λ q. LocalCommit (Replica q) x.i c z.stamp z.n z.d) told r has) in
          subst (λ (k : ℕ). Contains heard (LocalCommit (Replica r) x.i c k z.n z.d)) sent.stamp_is claim);
    }) (sigs_stated x c stamp told z sent)

-- what these claims are
pub told_cases : (i c : ℕ) (z : Zcert) (told : List ℕ) (s : Content) → Contains (told_claims i c z told) s → ((r : ℕ) × Contains told r × (LocalCommit (Replica r) i c z.stamp z.n z.d ≡ s)) ⊎ Contains (specs_of i z) s
told_cases i c z told s has =
    elim (Contains-append_cases (map (λ q. LocalCommit (Replica q) i c z.stamp z.n z.d) told) (specs_of i z) s has) [
      | inl some ↦ inl (Contains-map_cases (λ q. LocalCommit (Replica q) i c z.stamp z.n z.d) told s some)
      | inr specs ↦ inr specs
    ]
