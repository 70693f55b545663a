-- Of the ABORTs that are kept a client makes its certificate.
use Rattle.std.proofs.Common.{◌≡◌, ℕ, zero, suc, ◌+◌, ◌*◌, Bool, true, false, List, [], ◌∷◌, map, sym, subst, inl, inr}
use Rattle.std.specs.Prelude.{Contains, is_some, if◌then◌else◌}
use Rattle.std.specs.List.{filter}
use Rattle.std.proofs.lemmas.List.Elements.{Contains-append_cases}
use Rattle.ab_num.specs.declared.cluster.Cluster.{Cluster}
use Rattle.ab_num.specs.Places.{kind_of}
use Rattle.ab_num.proofs.Lists.{Contains-none, Contains-head, Contains-tail, Contains-cons_cases, Contains-one, Contains-map_cases, Contains-filter_cases}
use Rattle.ab_msg.specs.declared.signed.Signed.{Signed}
use Rattle.ab_abs.specs.Kinds.{needs_equal}
use Rattle.ab_stable.specs.Offers.{makes_checkpoints, list_in}
use Rattle.ab_run.specs.Clients.{keep, same_list, choices, first_valid, own_cert}

-- a choice has nothing else
choice_part : {A : Type 0} (n : ℕ) (xs chosen : List A) (x : A) → Contains (choices n xs) chosen → Contains chosen x → Contains xs x
choice_part zero xs chosen x is has = absurd (Contains-none x (subst (λ (z : List _). Contains z x) (sym (Contains-one [] chosen is)) has))
choice_part (suc n) [] chosen x is has = absurd (Contains-none chosen is)
choice_part (suc n) (y ∷ xs) chosen x is has =
    elim (Contains-append_cases (map (λ more. y ∷ more) (choices n xs)) (choices (suc n) xs) chosen is) [
      | inl here ↦
          let found = Contains-map_cases (λ more. y ∷ more) (choices n xs) chosen here in
          elim (Contains-cons_cases y found.0 x (subst (λ (z : List _). Contains z x) (sym found.2) has)) [
            | inl e ↦ subst (λ z. Contains (y ∷ xs) z) e (Contains-head y xs)
            | inr more ↦ Contains-tail y x xs (choice_part n xs found.0 x found.1 more)
          ]
      | inr later ↦ Contains-tail y x xs (choice_part (suc n) xs chosen x later has)
    ]

-- what is in one of two, whichever it is
in_either : (b : Bool) (xs ys zs : List Signed) (u : Signed) → (Contains xs u → Contains zs u) → (Contains ys u → Contains zs u) → Contains (if b then xs else ys) u → Contains zs u
in_either true xs ys zs u one other has = one has
in_either false xs ys zs u one other has = other has

module _ (c : Cluster) (j : ℕ) where
  -- the certificate that is made is a choice, if there is any
  valid_part : (certs : List (List Signed)) (zs : List Signed) (u : Signed) → ((cert : List Signed) → Contains certs cert → Contains cert u → Contains zs u) → Contains (first_valid c j certs) u → Contains zs u
  valid_part [] zs u each has = absurd (Contains-none u has)
  valid_part (cert ∷ certs) zs u each has =
      in_either (is_some (list_in c j cert)) cert (first_valid c j certs) zs u (each cert (Contains-head cert certs))
      (valid_part certs zs u (λ more is. each more (Contains-tail cert more certs is))) has

-- each of its ABORTs is kept
pub own_part : (c : Cluster) (j : ℕ) (v : Signed) (kept : List Signed) (u : Signed) → Contains (own_cert c j v kept) u → Contains (keep v kept) u
own_part c j v kept u has =
    let all = keep v kept in
    let equal = filter (λ (w : Signed). same_list v.content w.content) all in
    let first = first_valid c j (choices (2 * c.f + 1) all) in
    let more = if makes_checkpoints (kind_of c.plan j) then first else all in
    in_either (needs_equal (kind_of c.plan j)) equal more all u
    (λ in_equal. (Contains-filter_cases (λ (w : Signed). same_list v.content w.content) all u in_equal).0)
    (in_either (makes_checkpoints (kind_of c.plan j)) first all all u
    (valid_part c j (choices (2 * c.f + 1) all) all u (λ cert is in_cert. choice_part (2 * c.f + 1) all cert u is in_cert))
    (λ kept_one. kept_one))
    has
