-- Two large sets of replicas meet in a correct one.
use Rattle.std.proofs.Common.{◌≡◌, ℕ, ◌+◌, ◌*◌, ◌<◌, ◌≤◌, true, false, cond, List, [], ◌∷◌, ◌⊎◌, length, refl, sym, ap, ◌∙◌, subst, inl, inr, arith}
use Rattle.std.specs.Prelude.{Contains, ◌||◌, nat_eq, count_by}
use Rattle.std.specs.List.{IsDistinct, AllByRecursion, list_any}
use Rattle.std.proofs.lemmas.Bool.{cases_Bool}
use Rattle.std.proofs.lemmas.Bool.Decides.{Decides-eqb}
use Rattle.std.proofs.lemmas.Map.Steps.{length-le_from_distinct_below}
use Rattle.ab_num.specs.declared.party.Party.{Party}
use Rattle.ab_num.specs.declared.party.Party.TheVariants.{Replica}
use Rattle.ab_num.proofs.Lists.{count_by-yes, count_by-no, Contains-head, Contains-tail, Contains-cons_cases, Contains-none}
use Rattle.ab_msg.specs.Carried.{is_replica}
use Rattle.ab_abs.specs.Faults.{is_faulty}
use Rattle.ab_abs.proofs.Voters.{faulty_few}

-- a number that differs from each of a list does not stand in it, and the other way round
pub apart_out : (r : ℕ) (ys : List ℕ) → AllByRecursion (λ y. nat_eq r y ≡ false) ys → Contains ys r → ⊥
apart_out r [] all is = Contains-none r is
apart_out r (y ∷ ys) all is =
    elim (Contains-cons_cases y ys r is) [
      | inl e ↦ cc (all.0, (Decides-eqb r y).1 (sym e))
      | inr more ↦ apart_out r ys all.1 more
    ]

pub out_apart : (r : ℕ) (ys : List ℕ) → (Contains ys r → ⊥) → AllByRecursion (λ y. nat_eq r y ≡ false) ys
out_apart r [] out = tt
out_apart r (y ∷ ys) out = (
  elim (cases_Bool (nat_eq r y)) [
    | inl same ↦ absurd (out (subst (λ (z : ℕ). Contains (y ∷ ys) z) (sym ((Decides-eqb r y).0 same)) (Contains-head y ys)))
    | inr differ ↦ differ
  ],
  out_apart r ys (λ is. out (Contains-tail y r ys is)),
)

find_in : (r : ℕ) (ys : List ℕ) → Contains ys r ⊎ (Contains ys r → ⊥)
find_in r [] = inr (λ is. Contains-none r is)
find_in r (y ∷ ys) =
    elim (cases_Bool (nat_eq r y)) [
      | inl same ↦ inl (subst (λ (z : ℕ). Contains (y ∷ ys) z) (sym ((Decides-eqb r y).0 same)) (Contains-head y ys))
      | inr differ ↦ elim (find_in r ys) [
        | inl is ↦ inl (Contains-tail y r ys is)
        | inr out ↦ inr (λ is. elim (Contains-cons_cases y ys r is) [
          | inl e ↦ cc (differ, (Decides-eqb r y).1 (sym e))
          | inr more ↦ out more
        ])
      ]
    ]

any_is_in : (q : ℕ) (xs : List ℕ) → list_any (nat_eq q) xs ≡ true → Contains xs q
any_is_in q [] is = absurd cc
any_is_in q (x ∷ xs) is =
    elim (cases_Bool (nat_eq q x)) [
      | inl same ↦ subst (λ (z : ℕ). Contains (x ∷ xs) z) (sym ((Decides-eqb q x).0 same)) (Contains-head x xs)
      | inr differ ↦ Contains-tail x q xs (any_is_in q xs (sym (ap (λ b. b || list_any (nat_eq q) xs) differ) ∙ is))
    ]

-- two lists of distinct numbers below n that together are more than n share one
pub meet : (n : ℕ) (xs ys : List ℕ) → IsDistinct nat_eq xs → IsDistinct nat_eq ys → ((r : ℕ) → Contains xs r → r < n) → ((r : ℕ) → Contains ys r → r < n)
    → n < length xs + length ys → (r : ℕ) × Contains xs r × Contains ys r
unfolding IsDistinct
meet n [] ys d e below_xs below_ys more =
    absurd (omega (arith, more, length-le_from_distinct_below ys n e (λ q is. below_ys q (any_is_in q ys is))))
meet n (x ∷ xs) ys d e below_xs below_ys more =
    elim (find_in x ys) [
      | inl is ↦ (x, Contains-head x xs, is)
      | inr out ↦
          let r = meet n xs (x ∷ ys) d.1 (out_apart x ys out, e) (λ r is. below_xs r (Contains-tail x r xs is)) (λ r is. below_more r is) (omega (arith, more)) in
          elim (Contains-cons_cases x ys r.0 r.2) [
            | inl same ↦ absurd (apart_out x xs d.0 (subst (λ (z : ℕ). Contains xs z) (sym same) r.1))
            | inr there ↦ (r.0, Contains-tail x r.0 xs r.1, there)
          ]
    ]
  where
    below_more : (r : ℕ) → Contains (x ∷ ys) r → r < n
    below_more r is =
        elim (Contains-cons_cases x ys r is) [
          | inl e ↦ subst (λ (z : ℕ). z < n) e (below_xs x (Contains-head x xs))
          | inr there ↦ below_ys r there
        ]

-- the correct ones of a list
abbrev pub correct_of : List Party → List ℕ → List ℕ
correct_of faulty [] = []
correct_of faulty (r ∷ rs) = cond (is_faulty faulty (Replica r)) (correct_of faulty rs) (r ∷ correct_of faulty rs)

module _ (faulty : List Party) where
  correct_yes : (r : ℕ) (rs : List ℕ) → is_faulty faulty (Replica r) ≡ true → correct_of faulty (r ∷ rs) ≡ correct_of faulty rs
  correct_yes r rs is = ap (λ b. cond b (correct_of faulty rs) (r ∷ correct_of faulty rs)) is

  correct_no : (r : ℕ) (rs : List ℕ) → is_faulty faulty (Replica r) ≡ false → correct_of faulty (r ∷ rs) ≡ r ∷ correct_of faulty rs
  correct_no r rs is = ap (λ b. cond b (correct_of faulty rs) (r ∷ correct_of faulty rs)) is

  pub correct_in : (rs : List ℕ) (q : ℕ) → Contains (correct_of faulty rs) q → Contains rs q × (is_faulty faulty (Replica q) ≡ false)
  correct_in [] q is = absurd (Contains-none q is)
  correct_in (r ∷ rs) q is =
      elim (cases_Bool (is_faulty faulty (Replica r))) [
        | inl bad ↦ let w = correct_in rs q (subst (λ (l : List ℕ). Contains l q) (correct_yes r rs bad) is) in (Contains-tail r q rs w.0, w.1)
        | inr good ↦ elim (Contains-cons_cases r (correct_of faulty rs) q (subst (λ (l : List ℕ). Contains l q) (correct_no r rs good) is)) [
          | inl e ↦ (subst (λ (z : ℕ). Contains (r ∷ rs) z) e (Contains-head r rs), subst (λ (z : ℕ). is_faulty faulty (Replica z) ≡ false) e good)
          | inr more ↦ let w = correct_in rs q more in (Contains-tail r q rs w.0, w.1)
        ]
      ]

  pub correct_distinct : (rs : List ℕ) → IsDistinct nat_eq rs → IsDistinct nat_eq (correct_of faulty rs)
  unfolding IsDistinct
  correct_distinct [] d = tt
  correct_distinct (r ∷ rs) d =
      elim (cases_Bool (is_faulty faulty (Replica r))) [
        | inl bad ↦ subst (λ (l : List ℕ). IsDistinct nat_eq l) (sym (correct_yes r rs bad)) (correct_distinct rs d.1)
        | inr good ↦
            let out = out_apart r (correct_of faulty rs) (λ is. apart_out r rs d.0 (correct_in rs r is).0) in
            subst (λ (l : List ℕ). IsDistinct nat_eq l) (sym (correct_no r rs good)) (out, correct_distinct rs d.1)
      ]

  pub correct_length : (rs : List ℕ) → length (correct_of faulty rs) + count_by (λ r. is_faulty faulty (Replica r)) rs ≡ length rs
  correct_length [] = refl
  correct_length (r ∷ rs) =
      elim (cases_Bool (is_faulty faulty (Replica r))) [
        | inl bad ↦ omega (arith, correct_length rs, ap length (correct_yes r rs bad), count_by-yes (λ q. is_faulty faulty (Replica q)) r rs bad)
        | inr good ↦ omega (arith, correct_length rs, ap length (correct_no r rs good), count_by-no (λ q. is_faulty faulty (Replica q)) r rs good)
      ]

  -- of two lists of 2f + 1 replicas or more a correct one stands in both
  pub record Meets (f : ℕ) (xs ys : List ℕ) : Type 0 where
    pub at : ℕ
    pub in_one : Contains xs at
    pub in_other : Contains ys at
    pub within : at < 3 * f + 1
    pub correct : is_faulty faulty (Replica at) ≡ false

  -- distinct replicas of a cluster, and 2f + 1 of them
  pub record IsQuorum (f : ℕ) (xs : List ℕ) : Type 0 where
    pub distinct : IsDistinct nat_eq xs
    pub within : (r : ℕ) → Contains xs r → r < 3 * f + 1
    pub enough : 2 * f + 1 ≤ length xs

  pub quorums_meet : (f : ℕ) (xs ys : List ℕ) → count_by is_replica faulty ≤ f → IsQuorum f xs → IsQuorum f ys → Meets f xs ys
  quorums_meet f xs ys few x y =
      let len = correct_length xs in
      let bad = faulty_few faulty xs x.distinct in
      let r = meet (3 * f + 1) (correct_of faulty xs) ys (correct_distinct xs x.distinct) y.distinct (λ r is. x.within r (correct_in xs r is).0) y.within (omega (arith, len, bad, few, x.enough, y.enough)) in
      let c = correct_in xs r.0 r.1 in
      record { at = r.0; in_one = c.0; in_other = r.2; within = y.within r.0 r.2; correct = c.1 }
