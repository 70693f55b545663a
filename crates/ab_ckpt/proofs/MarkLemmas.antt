-- The marks of slots, as marks come.
use Rattle.std.proofs.Common.{◌≡◌, ℕ, zero, suc, ◌+◌, ◌-◌, ◌<◌, ◌≤◌, Bool, true, false, Option, Some, None, List, [], ◌∷◌, length, set, get_or, arith, refl, sym, ap, ◌∙◌, subst, inl, inr}
use Rattle.std.specs.Prelude.{◌||◌, ◌&&◌, ◌↔◌, nat_eq, nat_lt, if◌then◌else◌}
use Rattle.std.specs.Str.{bytes_eq}
use Rattle.std.proofs.lemmas.Bool.{cases_Bool, cases_order, and_parts}
use Rattle.std.proofs.lemmas.Bool.Decides.{nat_tests}
use Rattle.std.proofs.lemmas.Slice.Eq.{bytes_eq-Decides}
use Rattle.std.proofs.Math.Bool.{and-false}
use Rattle.ab_hist.specs.declared.request.Request.{Request}
use Rattle.ab_ckpt.specs.Marks.{Mark, has_mark, all_have, is_front, is_stable, AreByReplica, mark_by, later_mark, keep_mark, later_of, stable_by, stable_of, marks_from, is_more, is_point}

abbrev Slots : Type 0
Slots = List (Option (ℕ × List ℕ))

same_number : (a b : ℕ) → a ≡ b → nat_eq a b ≡ true
same_number a b e = grind (arith, nat_tests, e)

other_number : (a b : ℕ) → a < b → nat_eq a b ≡ false
other_number a b lt = grind (arith, nat_tests, lt)

other_number' : (a b : ℕ) → b < a → nat_eq a b ≡ false
other_number' a b lt = grind (arith, nat_tests, lt)

less : (a b : ℕ) → a < b → nat_lt a b ≡ true
less a b lt = grind (arith, nat_tests, lt)

not_less : (a b : ℕ) → b ≤ a → nat_lt a b ≡ false
not_less a b le = grind (arith, nat_tests, le)

-- ---- one of each replica

pub fewer : (r q : ℕ) (ms : List Mark) → r ≤ q → AreByReplica q ms → AreByReplica r ms
fewer r q [] le all = tt
fewer r q (k ∷ ms) le all = (omega (arith, le, all.0), all.1)

pub by_replica : (r : ℕ) (slots : Slots) → AreByReplica r (marks_from r slots)
by_replica r [] = tt
by_replica r (None ∷ slots) = fewer r (r + 1) (marks_from (r + 1) slots) (omega arith) (by_replica (r + 1) slots)
by_replica r (Some p ∷ slots) = (omega arith, by_replica (r + 1) slots)

-- a mark of a replica before all others
kept_first : (v : Mark) (ms : List Mark) → AreByReplica (v.by + 1) ms → keep_mark v ms ≡ v ∷ ms
kept_first v [] all = refl
kept_first v (k ∷ ms) all =
    ap (λ b. if b then later_mark v k ∷ ms else if nat_lt v.by k.by then v ∷ k ∷ ms else k ∷ keep_mark v ms) (other_number' k.by v.by (omega (arith, all.0)))
    ∙ ap (λ b. if b then v ∷ k ∷ ms else k ∷ keep_mark v ms) (less v.by k.by (omega (arith, all.0)))

kept_same : (v k : Mark) (ms : List Mark) → k.by ≡ v.by → keep_mark v (k ∷ ms) ≡ later_mark v k ∷ ms
kept_same v k ms e = ap (λ b. if b then later_mark v k ∷ ms else if nat_lt v.by k.by then v ∷ k ∷ ms else k ∷ keep_mark v ms) (same_number k.by v.by e)

kept_behind : (v k : Mark) (ms : List Mark) → k.by < v.by → keep_mark v (k ∷ ms) ≡ k ∷ keep_mark v ms
kept_behind v k ms lt =
    ap (λ b. if b then later_mark v k ∷ ms else if nat_lt v.by k.by then v ∷ k ∷ ms else k ∷ keep_mark v ms) (other_number k.by v.by lt)
    ∙ ap (λ b. if b then v ∷ k ∷ ms else k ∷ keep_mark v ms) (not_less v.by k.by (omega (arith, lt)))

kept_before : (v k : Mark) (ms : List Mark) → v.by < k.by → keep_mark v (k ∷ ms) ≡ v ∷ k ∷ ms
kept_before v k ms lt =
    ap (λ b. if b then later_mark v k ∷ ms else if nat_lt v.by k.by then v ∷ k ∷ ms else k ∷ keep_mark v ms) (other_number' k.by v.by lt)
    ∙ ap (λ b. if b then v ∷ k ∷ ms else k ∷ keep_mark v ms) (less v.by k.by lt)

-- ---- a slot that changes

abbrev later_point : ℕ → List ℕ → Option (ℕ × List ℕ) → Option (ℕ × List ℕ)
later_point n d o = if is_more n o then Some (n, d) else o

module _ (n : ℕ) (d : List ℕ) where
  here_by : (b : ℕ) (p : ℕ × List ℕ) (slots : Slots) (c : Bool) → nat_lt p.0 n ≡ c
      → marks_from b ((if c then Some (n, d) else Some p) ∷ slots) ≡ (if c then record { by = b; n = n; d = d } else record { by = b; n = p.0; d = p.1 }) ∷ marks_from (b + 1) slots
  here_by b p slots true is = refl
  here_by b p slots false is = refl

  pub kept_slot : (b i q : ℕ) (slots : Slots) → q ≡ b + i → i < length slots
      → marks_from b (set slots i (later_point n d (get_or slots i None))) ≡ keep_mark (record { by = q; n = n; d = d }) (marks_from b slots)
  kept_slot b i q [] e lt = absurd (omega (arith, lt))
  kept_slot b zero q (None ∷ slots) e lt =
      let same : q ≡ b = omega (arith, e) in
      let v : Mark = record { by = b; n = n; d = d } in
      sym (ap (λ (j : ℕ). keep_mark (record { by = j; n = n; d = d }) (marks_from (b + 1) slots)) same ∙ kept_first v (marks_from (b + 1) slots) (by_replica (b + 1) slots))
  kept_slot b zero q (Some p ∷ slots) e lt =
      let same : q ≡ b = omega (arith, e) in
      let v : Mark = record { by = b; n = n; d = d } in
      let k : Mark = record { by = b; n = p.0; d = p.1 } in
      here_by b p slots (nat_lt p.0 n) refl
      ∙ sym (ap (λ (j : ℕ). keep_mark (record { by = j; n = n; d = d }) (k ∷ marks_from (b + 1) slots)) same ∙ kept_same v k (marks_from (b + 1) slots) refl)
  kept_slot b (suc i) q (None ∷ slots) e lt = kept_slot (b + 1) i q slots (omega (arith, e)) (omega (arith, lt))
  kept_slot b (suc i) q (Some p ∷ slots) e lt =
      let v : Mark = record { by = q; n = n; d = d } in
      let k : Mark = record { by = b; n = p.0; d = p.1 } in
      ap (λ ms. k ∷ ms) (kept_slot (b + 1) i q slots (omega (arith, e)) (omega (arith, lt)))
      ∙ sym (kept_behind v k (marks_from (b + 1) slots) (omega (arith, e)))

  pub point_set : (slots : Slots) (i : ℕ) → is_more n (get_or slots i None) ≡ true → marks_from 0 (set slots i (Some (n, d))) ≡ marks_from 0 (set slots i (later_point n d (get_or slots i None)))
  point_set slots i is = sym (ap (λ b. marks_from 0 (set slots i (if b then Some (n, d) else get_or slots i None))) is)

  pub point_stays : (slots : Slots) (i : ℕ) → i < length slots → is_more n (get_or slots i None) ≡ false → marks_from 0 slots ≡ marks_from 0 (set slots i (later_point n d (get_or slots i None)))
  point_stays slots i lt is = sym (ap (λ b. marks_from 0 (set slots i (if b then Some (n, d) else get_or slots i None))) is ∙ ap (marks_from 0) (set_itself slots i lt))
    where
      set_itself : (xs : Slots) (k : ℕ) → k < length xs → set xs k (get_or xs k None) ≡ xs
      set_itself [] k lt = absurd (omega (arith, lt))
      set_itself (x ∷ xs) zero lt = refl
      set_itself (x ∷ xs) (suc k) lt = ap (λ ys. x ∷ ys) (set_itself xs k (omega (arith, lt)))

  -- ---- what a slot has

  none_of : (r q : ℕ) (ms : List Mark) → r < q → AreByReplica q ms → has_mark n d r ms ≡ false
  none_of r q [] lt all = refl
  none_of r q (k ∷ ms) lt all =
      ap (λ b. (b && (nat_eq k.n n && bytes_eq k.d d)) || has_mark n d r ms) (other_number' k.by r (omega (arith, lt, all.0)))
      ∙ none_of r (k.by + 1) ms (omega (arith, lt, all.0)) all.1

  or_none : (b : Bool) → (b || false) ≡ b
  or_none true = refl
  or_none false = refl

  pub has_slot : (b i q : ℕ) (slots : Slots) → q ≡ b + i → i < length slots → has_mark n d q (marks_from b slots) ≡ is_point n d (get_or slots i None)
  has_slot b i q [] e lt = absurd (omega (arith, lt))
  has_slot b zero q (None ∷ slots) e lt = none_of q (b + 1) (marks_from (b + 1) slots) (omega (arith, e)) (by_replica (b + 1) slots)
  has_slot b zero q (Some p ∷ slots) e lt =
      let point : Bool = nat_eq p.0 n && bytes_eq p.1 d in
      (λ i. (same_number b q (omega (arith, e)) i && (nat_eq p.0 n && bytes_eq p.1 d)) || none_of q (b + 1) (marks_from (b + 1) slots) (omega (arith, e)) (by_replica (b + 1) slots) i)
      ∙ or_none (nat_eq p.0 n && bytes_eq p.1 d)
  has_slot b (suc i) q (None ∷ slots) e lt = has_slot (b + 1) i q slots (omega (arith, e)) (omega (arith, lt))
  has_slot b (suc i) q (Some p ∷ slots) e lt =
      ap (λ c. (c && (nat_eq p.0 n && bytes_eq p.1 d)) || has_mark n d q (marks_from (b + 1) slots)) (other_number b q (omega (arith, e)))
      ∙ has_slot (b + 1) i q slots (omega (arith, e)) (omega (arith, lt))

  -- one that is of other entries is enough
  pub all_have-not : (kept : List Mark) (k r : ℕ) → r < k → has_mark n d r kept ≡ false → all_have n d k kept ≡ false
  all_have-not kept zero r lt not = absurd (omega arith)
  all_have-not kept (suc k) r lt not =
      elim (cases_order r k) [
        | inl same ↦ ap (λ j. has_mark n d j kept && all_have n d k kept) (sym same) ∙ ap (λ b. b && all_have n d k kept) not
        | inr (inl below) ↦ ap (λ b. has_mark n d k kept && b) (all_have-not kept k r below not) ∙ and-false (has_mark n d k kept)
        | inr (inr above) ↦ absurd (omega arith)
      ]

abbrev marked : ℕ → Option (ℕ × List ℕ) → Option Mark
marked b None = None
marked b (Some p) = Some (record { by = b; n = p.0; d = p.1 })

none_by : (r q : ℕ) (ms : List Mark) → r < q → AreByReplica q ms → mark_by r ms ≡ None
none_by r q [] lt all = refl
none_by r q (k ∷ ms) lt all =
    ap (λ b. if b then Some k else mark_by r ms) (other_number' k.by r (omega (arith, lt, all.0)))
    ∙ none_by r (k.by + 1) ms (omega (arith, lt, all.0)) all.1

-- the first slot's
pub first_slot : (slots : Slots) → 0 < length slots → mark_by 0 (marks_from 0 slots) ≡ marked 0 (get_or slots 0 None)
first_slot [] lt = absurd (omega (arith, lt))
first_slot (None ∷ slots) lt = none_by 0 1 (marks_from 1 slots) (omega arith) (by_replica 1 slots)
first_slot (Some p ∷ slots) lt = refl

-- ---- laws

module _ (v : Mark) where
  pub stays_by_replica : (q : ℕ) (marks : List Mark) → q ≤ v.by → AreByReplica q marks → AreByReplica q (keep_mark v marks)
  stays_by_replica q [] le all = (le, tt)
  stays_by_replica q (k ∷ marks) le all =
      elim (cases_order k.by v.by) [
        | inl same ↦ subst (AreByReplica q) (sym (kept_same v k marks same)) (by_number (nat_lt k.n v.n) same)
        | inr (inl below) ↦ subst (AreByReplica q) (sym (kept_behind v k marks below)) (all.0, stays_by_replica (k.by + 1) marks (omega (arith, below)) all.1)
        | inr (inr above) ↦ subst (AreByReplica q) (sym (kept_before v k marks above)) (le, (omega (arith, above), all.1))
      ]
    where
      by_number : (c : Bool) → k.by ≡ v.by → AreByReplica q ((if c then v else k) ∷ marks)
      by_number true same = (le, subst (λ (j : ℕ). AreByReplica (j + 1) marks) same all.1)
      by_number false same = all

  later_by : (c : Bool) (k : Mark) (r : ℕ) (marks : List Mark) → nat_lt k.n v.n ≡ c → k.by ≡ r → v.by ≡ r → mark_by r ((if c then v else k) ∷ marks) ≡ Some (if c then v else k)
  later_by true k r marks is e f = ap (λ b. if b then Some v else mark_by r marks) (same_number v.by r f)
  later_by false k r marks is e f = ap (λ b. if b then Some k else mark_by r marks) (same_number k.by r e)

  pub same_replica : (q : ℕ) (marks : List Mark) → AreByReplica q marks → mark_by v.by (keep_mark v marks) ≡ later_of v (mark_by v.by marks)
  same_replica q [] all = ap (λ b. if b then Some v else None) (same_number v.by v.by refl)
  same_replica q (k ∷ marks) all =
      elim (cases_order k.by v.by) [
        | inl same ↦
            ap (mark_by v.by) (kept_same v k marks same) ∙ later_by (nat_lt k.n v.n) k v.by marks refl same refl
            ∙ sym (ap (λ b. later_of v (if b then Some k else mark_by v.by marks)) (same_number k.by v.by same))
        | inr (inl below) ↦
            ap (mark_by v.by) (kept_behind v k marks below)
            ∙ ap (λ b. if b then Some k else mark_by v.by (keep_mark v marks)) (other_number k.by v.by below)
            ∙ same_replica (k.by + 1) marks all.1
            ∙ sym (ap (λ b. later_of v (if b then Some k else mark_by v.by marks)) (other_number k.by v.by below))
        | inr (inr above) ↦
            ap (mark_by v.by) (kept_before v k marks above)
            ∙ ap (λ b. if b then Some v else mark_by v.by (k ∷ marks)) (same_number v.by v.by refl)
            ∙ sym (ap (later_of v) (none_by v.by k.by (k ∷ marks) above (omega arith, all.1)))
      ]

  pub other_replica : (r : ℕ) (marks : List Mark) → nat_eq v.by r ≡ false → mark_by r (keep_mark v marks) ≡ mark_by r marks
  other_replica r [] other = ap (λ b. if b then Some v else None) other
  other_replica r (k ∷ marks) other =
      elim (cases_order k.by v.by) [
        | inl same ↦
            ap (mark_by r) (kept_same v k marks same) ∙ by_number (nat_lt k.n v.n) (ap (λ j. nat_eq j r) same ∙ other)
        | inr (inl below) ↦
            ap (mark_by r) (kept_behind v k marks below) ∙ ap (λ o. if nat_eq k.by r then Some k else o) (other_replica r marks other)
        | inr (inr above) ↦
            ap (mark_by r) (kept_before v k marks above) ∙ ap (λ b. if b then Some v else mark_by r (k ∷ marks)) other
      ]
    where
      by_number : (c : Bool) → nat_eq k.by r ≡ false → mark_by r ((if c then v else k) ∷ marks) ≡ mark_by r (k ∷ marks)
      by_number true apart = ap (λ b. if b then Some v else mark_by r marks) other ∙ sym (ap (λ b. if b then Some k else mark_by r marks) apart)
      by_number false apart = refl

  pub each_replica : (r : ℕ) (marks : List Mark) → AreByReplica 0 marks → mark_by r (keep_mark v marks) ≡ (if nat_eq v.by r then later_of v (mark_by r marks) else mark_by r marks)
  each_replica r marks all = by_test (nat_eq v.by r) refl
    where
      by_test : (c : Bool) → nat_eq v.by r ≡ c → mark_by r (keep_mark v marks) ≡ (if c then later_of v (mark_by r marks) else mark_by r marks)
      by_test true is =
          let e : v.by ≡ r = grind (arith, nat_tests, is) in
          subst (λ (j : ℕ). mark_by j (keep_mark v marks) ≡ later_of v (mark_by j marks)) e (same_replica 0 marks all)
      by_test false is = other_replica r marks is

-- ---- what is stable

-- the one mark of a replica
one_by : (n r q : ℕ) (d : List ℕ) (marks : List Mark) → AreByReplica q marks → has_mark n d r marks ≡ true → (v : Mark) × ((mark_by r marks ≡ Some v) × ((v.n ≡ n) × (v.d ≡ d)))
one_by n r q d [] all is = absurd (cc (is))
one_by n r q d (k ∷ marks) all is =
    elim (cases_Bool (nat_eq k.by r)) [
      | inl here ↦
          let same : k.by ≡ r = number k.by r here in
          let alone : has_mark n d r marks ≡ false = none_of n d r (k.by + 1) marks (omega (arith, same)) all.1 in
          let test : ((nat_eq k.n n && bytes_eq k.d d) || false) ≡ true = sym (λ i. (here i && (nat_eq k.n n && bytes_eq k.d d)) || alone i) ∙ is in
          let both = and_parts (nat_eq k.n n) (bytes_eq k.d d) (sym (or_none n d (nat_eq k.n n && bytes_eq k.d d)) ∙ test) in
          (k, (ap (λ b. if b then Some k else mark_by r marks) here, (number k.n n both.0, (bytes_eq-Decides k.d d).0 both.1)))
      | inr other ↦
          let more = one_by n r (k.by + 1) d marks all.1 (sym (ap (λ b. (b && (nat_eq k.n n && bytes_eq k.d d)) || has_mark n d r marks) other) ∙ is) in
          (more.0, (ap (λ b. if b then Some k else mark_by r marks) other ∙ more.1.0, more.1.1))
    ]
  where
    number : (a b : ℕ) → nat_eq a b ≡ true → a ≡ b
    number a b e = grind (arith, nat_tests)

first_has : (n : ℕ) (d : List ℕ) (k : ℕ) (kept : List Mark) → all_have n d (suc k) kept ≡ true → has_mark n d 0 kept ≡ true
first_has n d zero kept is = (and_parts (has_mark n d 0 kept) (all_have n d 0 kept) is).0
first_has n d (suc k) kept is = first_has n d k kept (and_parts (has_mark n d (suc k) kept) (all_have n d (suc k) kept) is).1

module _ (replicas trimmed : ℕ) (log : List Request) (marks : List Mark) (all : AreByReplica 0 marks) (some : 1 ≤ replicas) where
  told_by : (n : ℕ) (o : Option Mark) → stable_by replicas trimmed log marks o ≡ Some n → (d : List ℕ) × (is_stable replicas trimmed log n d marks ≡ true)
  told_by n None is = absurd (cc (is))
  told_by n (Some v) is = by_test (is_stable replicas trimmed log v.n v.d marks) refl
    where
      by_test : (c : Bool) → is_stable replicas trimmed log v.n v.d marks ≡ c → (d : List ℕ) × (is_stable replicas trimmed log n d marks ≡ true)
      by_test true test =
          let e : Some v.n ≡ Some n = sym (ap (λ b. if b then Some v.n else None) test) ∙ is in
          let f : v.n ≡ n = cc (e) in
          (v.d, subst (λ (j : ℕ). is_stable replicas trimmed log j v.d marks ≡ true) f test)
      by_test false test = let e : None ≡ Some n = sym (ap (λ b. if b then Some v.n else None) test) ∙ is in absurd (cc (e))

  found_by : (n : ℕ) (d : List ℕ) (v : Mark) → mark_by 0 marks ≡ Some v → v.n ≡ n → v.d ≡ d → is_stable replicas trimmed log n d marks ≡ true → stable_of replicas trimmed log marks ≡ Some n
  found_by n d v at n_is d_is is =
      let test : is_stable replicas trimmed log v.n v.d marks ≡ true = (λ i. is_stable replicas trimmed log (n_is i) (d_is i) marks) ∙ is in
      ap (stable_by replicas trimmed log marks) at ∙ (ap (λ b. if b then Some v.n else None) test ∙ ap Some n_is)

  found : (n : ℕ) (d : List ℕ) → is_stable replicas trimmed log n d marks ≡ true → stable_of replicas trimmed log marks ≡ Some n
  found n d is =
      let one = and_parts (nat_lt trimmed n) (is_front log n d && all_have n d replicas marks) is in
      let two = and_parts (is_front log n d) (all_have n d replicas marks) one.1 in
      let more : replicas ≡ suc (replicas - 1) = omega (arith, some) in
      let first = one_by n 0 0 d marks all (first_has n d (replicas - 1) marks (sym (ap (λ k. all_have n d k marks) more) ∙ two.1)) in
      found_by n d first.0 first.1.0 first.1.1.0 first.1.1.1 is

  pub exact_from : (o : Option ℕ) → o ≡ stable_of replicas trimmed log marks → (n : ℕ) → o ≡ Some n ↔ ((d : List ℕ) × (is_stable replicas trimmed log n d marks ≡ true))
  exact_from o is n = (λ e. told_by n (mark_by 0 marks) (sym is ∙ e), λ s. is ∙ found n s.0 s.1)

  pub exact : (n : ℕ) → stable_of replicas trimmed log marks ≡ Some n ↔ ((d : List ℕ) × (is_stable replicas trimmed log n d marks ≡ true))
  exact n = (told_by n (mark_by 0 marks), λ s. found n s.0 s.1)

-- the first slot tells how many entries are stable
module _ (replicas trimmed : ℕ) (log : List Request) (slots : Slots) (marks : List Mark) (is : marks_from 0 slots ≡ marks) (some : 0 < length slots) where
  told : (o : Option (ℕ × List ℕ)) → get_or slots 0 None ≡ o → stable_of replicas trimmed log marks ≡ stable_by replicas trimmed log marks (marked 0 o)
  told o at = ap (stable_by replicas trimmed log marks) (ap (mark_by 0) (sym is) ∙ first_slot slots some ∙ ap (marked 0) at)

  pub stable_slot : (p : ℕ × List ℕ) → get_or slots 0 None ≡ Some p → is_stable replicas trimmed log p.0 p.1 marks ≡ true → Some p.0 ≡ stable_of replicas trimmed log marks
  stable_slot p at test = sym (told (Some p) at ∙ ap (λ b. if b then Some p.0 else None) test)

  pub other_slot : (p : ℕ × List ℕ) → get_or slots 0 None ≡ Some p → is_stable replicas trimmed log p.0 p.1 marks ≡ false → None ≡ stable_of replicas trimmed log marks
  other_slot p at test = sym (told (Some p) at ∙ ap (λ b. if b then Some p.0 else None) test)

  pub empty_slot : get_or slots 0 None ≡ None → None ≡ stable_of replicas trimmed log marks
  empty_slot at = sym (told None at)

  pub exactly : (o : Option ℕ) → 1 ≤ replicas → o ≡ stable_of replicas trimmed log marks → (n : ℕ) → o ≡ Some n ↔ ((d : List ℕ) × (is_stable replicas trimmed log n d marks ≡ true))
  exactly o many e = exact_from replicas trimmed log marks (subst (AreByReplica 0) is (by_replica 0 slots)) many o e
