-- What is due, and what is stable, are first entries of the log.
use Rattle.std.proofs.Common.{◌≡◌, ℕ, zero, suc, ◌*◌, ◌/◌, ◌<◌, ◌≤◌, Bool, true, false, Option, Some, None, List, [], ◌∷◌, length, take, arith, refl, sym, ap, ◌∙◌, subst, inl, inr}
use Rattle.std.specs.Prelude.{Contains, ◌||◌, ◌&&◌, nat_eq, nat_le, nat_lt, if◌then◌else◌}
use Rattle.std.specs.Str.{bytes_eq}
use Rattle.std.proofs.lemmas.Bool.{cases_Bool, cases_lt, and_parts, ltb-true, leb-true}
use Rattle.std.proofs.lemmas.Bool.Decides.{nat_tests}
use Rattle.std.proofs.lemmas.Slice.Eq.{bytes_eq-Decides}
use Rattle.std.proofs.Math.Nat.{mul-div-le}
use Rattle.ab_num.proofs.Lists.{Contains-head, Contains-tail}
use Rattle.ab_hist.specs.declared.request.Request.{Request}
use Rattle.ab_hist.specs.Digests.{digest_of}
use Rattle.ab_ckpt.specs.Marks.{Mark, due_of, has_mark, all_have, is_front, is_stable, mark_by, stable_by, stable_of, AreStable}

marked : (n : ℕ) (d : List ℕ) (r : ℕ) (kept : List Mark) → has_mark n d r kept ≡ true → Contains kept (record { by = r; n = n; d = d })
marked n d r [] is = absurd (cc (is))
marked n d r (v ∷ kept) is =
    elim (cases_Bool (nat_eq v.by r && (nat_eq v.n n && bytes_eq v.d d))) [
      | inl here ↦
          let one = and_parts (nat_eq v.by r) (nat_eq v.n n && bytes_eq v.d d) here in
          let two = and_parts (nat_eq v.n n) (bytes_eq v.d d) one.1 in
          let by_is : v.by ≡ r = same v.by r one.0 in
          let n_is : v.n ≡ n = same v.n n two.0 in
          let d_is : v.d ≡ d = (bytes_eq-Decides v.d d).0 two.1 in
          let e : v ≡ record { by = r; n = n; d = d } = λ i. record { by = by_is i; n = n_is i; d = d_is i } in
          subst (λ (w : Mark). Contains (v ∷ kept) w) e (Contains-head v kept)
      | inr other ↦ Contains-tail v (record { by = r; n = n; d = d }) kept (marked n d r kept (sym (ap (λ b. b || has_mark n d r kept) other) ∙ is))
    ]
  where
    same : (a b : ℕ) → nat_eq a b ≡ true → a ≡ b
    same a b e = grind (arith, nat_tests)

all_marked : (n : ℕ) (d : List ℕ) (k : ℕ) (kept : List Mark) → all_have n d k kept ≡ true → (r : ℕ) → r < k → Contains kept (record { by = r; n = n; d = d })
all_marked n d zero kept is r lt = absurd (omega (arith, lt))
all_marked n d (suc k) kept is r lt =
    let both = and_parts (has_mark n d k kept) (all_have n d k kept) is in
    elim (cases_lt r k) [
      | inl below ↦ all_marked n d k kept both.1 r below
      | inr last ↦
          let e : k ≡ r = omega (arith, lt, last) in
          subst (λ (q : ℕ). Contains kept (record { by = q; n = n; d = d })) e (marked n d k kept both.0)
    ]

stable_is : (replicas trimmed n : ℕ) (d : List ℕ) (log : List Request) (kept : List Mark) → is_stable replicas trimmed log n d kept ≡ true → AreStable replicas trimmed log kept n
stable_is replicas trimmed n d log kept is =
    let one = and_parts (nat_lt trimmed n) (is_front log n d && all_have n d replicas kept) is in
    let two = and_parts (is_front log n d) (all_have n d replicas kept) one.1 in
    let three = and_parts (nat_le n (length log)) (bytes_eq (digest_of (take n log)) d) two.0 in
    let d_is : digest_of (take n log) ≡ d = (bytes_eq-Decides (digest_of (take n log)) d).0 three.1 in
    record {
      more = ltb-true trimmed n one.0;
      within = leb-true n (length log) three.0;
      marked = λ r lt. subst (λ (x : List ℕ). Contains kept (record { by = r; n = n; d = x })) (sym d_is) (all_marked n d replicas kept two.1 r lt);
    }

pub stable_are : (replicas trimmed n : ℕ) (log : List Request) (kept : List Mark) → stable_of replicas trimmed log kept ≡ Some n → AreStable replicas trimmed log kept n
stable_are replicas trimmed n log kept is = of_mark (mark_by 0 kept) is
  where
    of_mark : (o : Option Mark) → stable_by replicas trimmed log kept o ≡ Some n → AreStable replicas trimmed log kept n
    of_mark None none = absurd (cc (none))
    of_mark (Some v) some = by_test (is_stable replicas trimmed log v.n v.d kept) refl
      where
        by_test : (b : Bool) → is_stable replicas trimmed log v.n v.d kept ≡ b → AreStable replicas trimmed log kept n
        by_test true test =
            let e : Some v.n ≡ Some n = sym (ap (λ b. if b then Some v.n else None) test) ∙ some in
            let f : v.n ≡ n = cc (e) in
            subst (λ (j : ℕ). AreStable replicas trimmed log kept j) f (stable_is replicas trimmed v.n v.d log kept test)
        by_test false test = let e : None ≡ Some n = sym (ap (λ b. if b then Some v.n else None) test) ∙ some in absurd (cc (e))

or_parts : (a b : Bool) → (a || b) ≡ false → (a ≡ false) × (b ≡ false)
or_parts true b is = absurd (cc (is))
or_parts false b is = (refl, is)

above : (a b : ℕ) → nat_le a b ≡ false → b < a
above a b is = grind (arith, nat_tests)

pub due_is : (every sent trimmed len n : ℕ) (stopped : Bool) → due_of every stopped sent trimmed len ≡ Some n → (stopped ≡ false) × (trimmed < n) × (sent < n) × (n ≤ len)
due_is every sent trimmed len n stopped is = by_test (nat_eq every 0 || (stopped || (nat_le (every * (len / every)) trimmed || nat_le (every * (len / every)) sent))) refl
  where
    by_test : (b : Bool) → (nat_eq every 0 || (stopped || (nat_le (every * (len / every)) trimmed || nat_le (every * (len / every)) sent))) ≡ b → (stopped ≡ false) × (trimmed < n) × (sent < n) × (n ≤ len)
    by_test true test = let two : None ≡ Some n = sym (ap (λ b. if b then None else Some (every * (len / every))) test) ∙ is in absurd (cc (two))
    by_test false test =
        let m = every * (len / every) in
        let one = or_parts (nat_eq every 0) (stopped || (nat_le m trimmed || nat_le m sent)) test in
        let two = or_parts stopped (nat_le m trimmed || nat_le m sent) one.1 in
        let three = or_parts (nat_le m trimmed) (nat_le m sent) two.1 in
        let some : Some m ≡ Some n = sym (ap (λ b. if b then None else Some m) test) ∙ is in
        let e : m ≡ n = cc (some) in
        (two.0, subst (λ (j : ℕ). trimmed < j) e (above m trimmed three.0), subst (λ (j : ℕ). sent < j) e (above m sent three.1), omega (arith, e, mul-div-le len every))
