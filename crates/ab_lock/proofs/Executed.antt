-- Lock of one slot, and what it says of executed lists.
use Rattle.std.proofs.Common.{◌≡◌, ℕ, zero, suc, ◌<◌, Bool, Some, List, [], ◌∷◌, ◌++◌, ◌⊎◌, length, slice_get, refl, sym, ap, ◌∙◌, subst, inl, inr, arith}
use Rattle.std.specs.Prelude.{Contains}
use Rattle.std.proofs.lemmas.Bool.{cases_lt}
use mathlib.Core.List.{IsPrefix}
use Rattle.ab_num.specs.declared.party.Party.{Party}
use Rattle.ab_num.proofs.Lists.{slice_get_there}
use Rattle.ab_lock.specs.Steps.{Step, accepts, signs, prepares, enters, executes, state_of}
use Rattle.ab_lock.specs.Quorums.{Occurs, IsCommittedLocally, IsCorrect, IsCertified, IsCommitted, Lock, in_accepted, in_prepared, in_executed, TracePremises}
use Rattle.ab_lock.proofs.Lists.{first_in, nth_same}
use Rattle.ab_lock.proofs.Traces.{was_allowed, executed_step, ComesFrom, by_itself, from_choice, signed_from}
use Rattle.ab_lock.proofs.QuorumLemmas.{correct_part}
use Rattle.ab_lock.proofs.Locks.{one_digest, certified_of, IsLocked, lock_list}

-- lists that agree where both have a place are comparable
module _ {A : Type 0} where
  abbrev Agree : List A → List A → Type 0
  Agree xs ys = (t : ℕ) (a b : A) → slice_get xs t ≡ Some a → slice_get ys t ≡ Some b → a ≡ b

  pub agree_comparable : (xs ys : List A) → Agree xs ys → IsPrefix xs ys ⊎ IsPrefix ys xs
  agree_comparable [] ys agree = inl (ys, refl)
  agree_comparable (x ∷ xs) [] agree = inr (x ∷ xs, refl)
  agree_comparable (x ∷ xs) (y ∷ ys) agree =
      let e : x ≡ y = agree 0 x y refl refl in
      elim (agree_comparable xs ys (λ t a b. agree (suc t) a b)) [
        | inl p ↦ inl (p.0, ap (λ z. z ∷ (xs ++ p.0)) e ∙ ap (λ zs. y ∷ zs) p.1)
        | inr p ↦ inr (p.0, ap (λ z. z ∷ (ys ++ p.0)) (sym e) ∙ ap (λ zs. x ∷ zs) p.1)
      ]

module _ {V X : Type 0} (digest : V → X) (f : ℕ) (faulty : List Party) (traces : ℕ → List (Step V X)) (Source : ℕ → V → Type 0) (goes : List V → V → Bool) (k : ℕ) (p : TracePremises digest f faulty traces Source goes k) where
  abbrev Correct : ℕ → Type 0
  Correct r = IsCorrect f faulty r

  abbrev Certified : ℕ → ℕ → X → Type 0
  Certified v n x = IsCertified f faulty traces v n x

  -- what two correct replicas prepared in one view is one list, as far as it goes
  same_prepared : (v n r q : ℕ) (h l : List V) → Correct r → Correct q → Contains (traces r) (prepares v h) → Contains (traces q) (prepares v l) → length h ≡ suc n → length l ≡ suc n → h ≡ l
  same_prepared v n r q h l ok_r ok_q in_r in_q len_h len_l =
      nth_same h l (len_h ∙ sym len_l) (λ t lt.
      let a = slice_get_there h t lt in
      let b = slice_get_there l t (omega (arith, lt, len_h, len_l)) in
      let same = one_digest digest f faulty traces Source goes k p v t (digest a.0) (digest b.0)
      (certified_of digest f faulty traces Source goes k p r v h ok_r in_r t a.0 a.1)
      (certified_of digest f faulty traces Source goes k p q v l ok_q in_q t b.0 b.1) in
      let e = p.apart t a.0 b.0 (in_prepared r v h ok_r in_r a.1) (in_prepared q v l ok_q in_q b.1) same in
      a.1 ∙ (ap Some e ∙ sym b.1))

  pub lock : (v n : ℕ) (x : X) → IsCommitted digest f faulty traces v n x → Lock f faulty traces v n x
  lock v n x held w le y cert =
      let r = first_in held.by (omega (arith, held.enough)) in
      let mine = held.each r.0 r.1 in
      let locked : IsLocked digest f faulty traces Source goes k p v mine.1.values =
      record {
        by = held.by;
        replicas = held.replicas;
        enough = held.enough;
        each = λ q is.
            let its = held.each q is in
            (its.0, subst (λ (h : List V). Contains (traces q) (prepares v h)) (same_prepared v n q r.0 its.1.values mine.1.values its.0 mine.0 its.1.is_in mine.1.is_in its.1.slot mine.1.slot) its.1.is_in);
      } in
      lock_list digest f faulty traces Source goes k p v mine.1.values locked w le n mine.1.is_at.0 mine.1.is_at.1 y cert ∙ mine.1.is_at.2

  -- what 2f + 1 committed, f + 1 correct replicas prepared
  pub committed_prepared : (v n : ℕ) (x : X) → IsCommittedLocally digest f faulty traces v n x → IsCommitted digest f faulty traces v n x
  committed_prepared v n x c =
      let part = correct_part faulty f c.by p.few c.replicas (omega (arith, c.enough)) in
      record {
        by = part.by;
        replicas = part.replicas;
        enough = part.enough;
        each = λ r is.
            let e = part.each r is in
            let ok : Correct r = (c.replicas.within r e.0, e.1) in
            (ok, c.prepared r e.0 ok);
      }

  committed_certified : (v n : ℕ) (x : X) → IsCommitted digest f faulty traces v n x → Certified v n x
  committed_certified v n x held =
      let r = first_in held.by (omega (arith, held.enough)) in
      let mine = held.each r.0 r.1 in
      subst (λ (y : X). Certified v n y) mine.1.is_at.2 (certified_of digest f faulty traces Source goes k p r.0 v mine.1.values mine.0 mine.1.is_in n mine.1.is_at.0 mine.1.is_at.1)

  -- values that are executed in one slot are one
  one_executed : (r q v w n : ℕ) (a b : V) → Correct r → Correct q → Contains (traces r) (executes v n a) → Contains (traces q) (executes w n b) → a ≡ b
  one_executed r q v w n a b ok_r ok_q in_r in_q =
      let held_a = committed_prepared v n (digest a) (p.rests r ok_r (executes v n a) in_r) in
      let held_b = committed_prepared w n (digest b) (p.rests q ok_q (executes w n b) in_q) in
      let same : digest a ≡ digest b =
      elim (cases_lt v w) [
        | inl lt ↦ sym (lock v n (digest a) held_a w (omega arith) (digest b) (committed_certified w n (digest b) held_b))
        | inr ge ↦ lock w n (digest b) held_b v (omega arith) (digest a) (committed_certified v n (digest a) held_a)
      ] in
      p.apart n a b (in_executed r v ok_r in_r) (in_executed q w ok_q in_q) same

  abbrev executed_of : ℕ → List V
  executed_of r = (state_of (traces r)).executed

  -- the executed lists of correct replicas agree
  pub executed_agree : (r q : ℕ) → Correct r → Correct q → (t : ℕ) (a b : V) → slice_get (executed_of r) t ≡ Some a → slice_get (executed_of q) t ≡ Some b → a ≡ b
  executed_agree r q ok_r ok_q t a b is_a is_b =
      let one = executed_step digest goes k (traces r) (p.follows r ok_r) t a is_a in
      let two = executed_step digest goes k (traces q) (p.follows q ok_q) t b is_b in
      one_executed r q one.0 two.0 t a b ok_r ok_q one.1 two.1

  pub executed_comparable : (r q : ℕ) → Correct r → Correct q → IsPrefix (executed_of r) (executed_of q) ⊎ IsPrefix (executed_of q) (executed_of r)
  executed_comparable r q ok_r ok_q = agree_comparable (executed_of r) (executed_of q) (executed_agree r q ok_r ok_q)

  -- a value with this digest has a source
  record HasSource (n : ℕ) (x : X) : Type 0 where
    value : V
    has : digest value ≡ x
    source : Source n value
    stands : Occurs f faulty traces n value

  correct_signer : (w n : ℕ) (x : X) → Certified w n x → (r : ℕ) × Correct r × Contains (traces r) (signs w n x)
  correct_signer w n x cert =
      let part = correct_part faulty f cert.by p.few cert.replicas (omega (arith, cert.enough)) in
      let r = first_in part.by (omega (arith, part.enough)) in
      let e = part.each r.0 r.1 in
      let ok : Correct r.0 = (cert.replicas.within r.0 e.0, e.1) in
      (r.0, ok, cert.signed r.0 e.0 ok)

  source_from : (w n r : ℕ) (value : V) → ((u : ℕ) → u < w → (x : X) → Certified u n x → HasSource n x) → Correct r → ComesFrom digest goes k (traces r) w n value → HasSource n (digest value)
  source_from w n r value before ok (by_itself is) =
      record { value = value; has = refl; source = p.rests r ok (accepts n value) is; stands = in_accepted r ok is }
  source_from w n r value before ok (from_choice vcs chosen is there) =
      let chose = (was_allowed digest goes k (traces r) (enters w vcs chosen) (p.follows r ok) is).2.1 in
      let b = chose.best n value there in
      let fits = (p.rests r ok (enters w vcs chosen) is).fits b.change b.is_in n b.cert b.stands in
      subst (λ (z : V). HasSource n (digest z)) b.value_is (before b.cert.at fits.0 (digest b.cert.value) fits.1)

  source_below : (m w n : ℕ) (x : X) → w < m → Certified w n x → HasSource n x
  source_below zero w n x lt cert = absurd (omega arith)
  source_below (suc m) w n x lt cert =
      let r = correct_signer w n x cert in
      let was = signed_from digest goes k (traces r.0) w n x (p.follows r.0 r.1) r.2 in
      subst (λ (z : X). HasSource n z) was.has (source_from w n r.0 was.value (λ u lt' y c. source_below m u n y (omega arith) c) r.1 was.comes)

  -- each executed value was accepted by a correct replica from its source
  pub executed_source : (r : ℕ) → Correct r → (t : ℕ) (a : V) → slice_get (executed_of r) t ≡ Some a → Source t a
  executed_source r ok t a is =
      let one = executed_step digest goes k (traces r) (p.follows r ok) t a is in
      let held = committed_prepared one.0 t (digest a) (p.rests r ok (executes one.0 t a) one.1) in
      let s = source_below (suc one.0) one.0 t (digest a) (omega arith) (committed_certified one.0 t (digest a) held) in
      let e : s.value ≡ a = p.apart t s.value a s.stands (in_executed r one.0 ok one.1) s.has in
      subst (λ (z : V). Source t z) e s.source
