-- Some of a list.
use Rattle.std.proofs.Common.{◌≡◌, ◌⊎◌, List, [], ◌∷◌, ◌++◌, inl, inr, refl, ap, sym, subst, ◌∙◌, append_assoc}
use Rattle.std.specs.Prelude.{Contains}
use Rattle.ab_num.proofs.Lists.{Contains-cons_cases, Contains-head, Contains-none, Contains-tail}
use Rattle.ab_loop.specs.Lives.{Among}

pub among_all : {X : Type 0} (xs : List X) → Among xs xs
among_all [] = tt
among_all (x ∷ xs) = inl (refl, among_all xs)

pub among_right : {X : Type 0} (xs bs ys : List X) → Among xs ys → Among xs (bs ++ ys)
among_right [] bs ys a = tt
among_right (x ∷ xs) [] ys a = a
among_right (x ∷ xs) (b ∷ bs) ys a = inr (among_right (x ∷ xs) bs ys a)

pub among_both : {X : Type 0} (xs bs cs ds : List X) → Among xs bs → Among cs ds → Among (xs ++ cs) (bs ++ ds)
among_both [] bs cs ds a b = among_right cs bs ds b
among_both (x ∷ xs) [] cs ds a b = absurd a
among_both (x ∷ xs) (y ∷ bs) cs ds (inl first) b = inl (first.0, among_both xs bs cs ds first.1 b)
among_both (x ∷ xs) (y ∷ bs) cs ds (inr later) b = inr (among_both (x ∷ xs) bs cs ds later b)

pub among_contains : {X : Type 0} (xs ys : List X) (x : X) → Among xs ys → Contains xs x → Contains ys x
among_contains [] ys x a has = absurd (Contains-none x has)
among_contains (y ∷ xs) [] x a has = absurd a
among_contains (y ∷ xs) (z ∷ ys) x (inl first) has =
    elim (Contains-cons_cases y xs x has) [
      | inl is ↦ subst (λ (w : _). Contains (z ∷ ys) w) (sym first.0 ∙ is) (Contains-head z ys)
      | inr more ↦ Contains-tail z x ys (among_contains xs ys x first.1 more)
    ]
among_contains (y ∷ xs) (z ∷ ys) x (inr later) has = Contains-tail z x ys (among_contains (y ∷ xs) ys x later has)

pub among_front : {X : Type 0} (xs ys : List X) → Among xs (xs ++ ys)
among_front [] ys = tt
among_front (x ∷ xs) ys = inl (refl, among_front xs ys)

pub among_then : {X : Type 0} (xs ys zs : List X) → Among xs ys → Among ys zs → Among xs zs
among_then [] ys zs a b = tt
among_then (x ∷ xs) [] zs a b = absurd a
among_then (x ∷ xs) (y ∷ ys) [] a b = absurd b
among_then (x ∷ xs) (y ∷ ys) (z ∷ zs) (inl a) (inl b) = inl (a.0 ∙ b.0, among_then xs ys zs a.1 b.1)
among_then (x ∷ xs) (y ∷ ys) (z ∷ zs) (inl a) (inr b) = inr (among_then (x ∷ xs) (y ∷ ys) zs (inl a) b)
among_then (x ∷ xs) (y ∷ ys) (z ∷ zs) (inr a) (inl b) = inr (among_then (x ∷ xs) ys zs a b.1)
among_then (x ∷ xs) (y ∷ ys) (z ∷ zs) (inr a) (inr b) = inr (among_then (x ∷ xs) (y ∷ ys) zs (inr a) b)

-- a front of a list that is some of another
pub front_among : {X : Type 0} (all front back ys : List X) → all ≡ front ++ back → Among all ys → Among front ys
front_among all front back ys e a = among_then front (front ++ back) ys (among_front front back) (subst (λ (l : List _). Among l ys) e a)

-- what is carried from one part to the next counts once
pub among_carried : {X : Type 0} (told carried more before now next : List X) → Among (told ++ carried) (before ++ now) → Among more (carried ++ next) → Among (told ++ more) (before ++ (now ++ next))
among_carried told carried more before now next a b =
    among_then (told ++ more) (told ++ (carried ++ next)) (before ++ (now ++ next))
    (among_both told told more (carried ++ next) (among_all told) b)
    (subst (λ (l : List _). Among l (before ++ (now ++ next))) (append_assoc told carried next)
    (subst (λ (l : List _). Among ((told ++ carried) ++ next) l) (append_assoc before now next)
    (among_both (told ++ carried) (before ++ now) next next a (among_all next))))

-- ---- fronts

-- a front of two lists is one of the first, or the first and a front of the second
pub front_split : {X : Type 0} (a b done left : List X) → a ++ b ≡ done ++ left
    → ((rest : List X) × (a ≡ done ++ rest)) ⊎ ((more : List X) × (done ≡ a ++ more) × (b ≡ more ++ left))
front_split [] b done left e = inr (done, refl, e)
front_split (x ∷ a) b [] left e = inl (x ∷ a, refl)
front_split {X = X} (x ∷ a) b (y ∷ done) left e =
    let heads : x ≡ y = cc in
    let tails : a ++ b ≡ done ++ left = cc in
    elim (front_split a b done left tails) [
      | inl first ↦ inl (first.0, ap (λ (l : List X). x ∷ l) first.1 ∙ ap (λ (h : X). h ∷ (done ++ first.0)) heads)
      | inr second ↦ inr (second.0, ap (λ (h : X). h ∷ done) (sym heads) ∙ ap (λ (l : List X). x ∷ l) second.1, second.2)
    ]

-- a front of nothing
pub front_none : {X : Type 0} (a b : List X) → [] ≡ a ++ b → a ≡ []
front_none [] b e = refl
front_none (x ∷ a) b e = cc
