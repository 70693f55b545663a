-- The list that is computed is the one on which enough lists agree.
use Rattle.std.proofs.Common.{◌≡◌, ℕ, zero, suc, ◌+◌, ◌-◌, ◌<◌, ◌≤◌, Bool, true, false, Option, Some, None, List, [], ◌∷◌, ◌⊎◌, length, arith, refl, sym, ap, ◌∙◌, subst, inl, inr}
use Rattle.std.specs.Prelude.{Contains, ◌&&◌, nat_le, nat_lt, if◌then◌else◌}
use Rattle.std.specs.Option.{option_map}
use Rattle.std.proofs.lemmas.Bool.{cases_Bool, cases_lt, and_parts, le-leb, leb-true, ltb-true}
use Rattle.std.proofs.lemmas.Bool.Decides.{nat_tests}
use Rattle.ab_num.proofs.Lists.{Contains-cons_cases}
use Rattle.ab_hist.specs.Trimmed.{Trimmed, digest_at, holds, cut}
use Rattle.ab_trim.specs.Points.{point_holders, least_holder, IsAgreedList}
use Rattle.ab_trim.proofs.Stands.{holds-Decides}
use Rattle.ab_trim.proofs.Counts.{some_passes}
use Rattle.ab_trim.proofs.Agreed.{one_list, least_there}
use Rattle.ab_stable.specs.AgreedLists.{Point, point_of, is_beyond, farther, best_point, best_along, agreed_at, agreed_list}

-- there is a point, of n entries or more
abbrev Reaches : ℕ → Option Point → Type 0
Reaches n o = (p : Point) × (o ≡ Some p) × (n ≤ p.number)

module _ (q : ℕ) (ts : List Trimmed) where
  -- a point that is there has enough holders
  abbrev IsHeld : Option Point → Type 0
  IsHeld o = (p : Point) → o ≡ Some p → q ≤ point_holders ts p.number p.digest

  farther_held : (p : Point) (o : Option Point) → IsHeld o → IsHeld (farther q ts p o)
  farther_held p o was k is = by_test (nat_le q (point_holders ts p.number p.digest) && is_beyond p.number o) refl
    where
      by_test : (b : Bool) → (nat_le q (point_holders ts p.number p.digest) && is_beyond p.number o) ≡ b → q ≤ point_holders ts k.number k.digest
      by_test true test =
          let both : Some p ≡ Some k = sym (ap (λ c. if c then Some p else o) test) ∙ is in
          let same : p ≡ k = cc (both) in
          let enough : q ≤ point_holders ts p.number p.digest = leb-true q (point_holders ts p.number p.digest) (and_parts (nat_le q (point_holders ts p.number p.digest)) (is_beyond p.number o) test).0 in
          subst (λ (x : Point). q ≤ point_holders ts x.number x.digest) same enough
      by_test false test = was k (sym (ap (λ c. if c then Some p else o) test) ∙ is)

  point_held : (t : Trimmed) (n : ℕ) (o : Option Point) → IsHeld o → IsHeld (best_point q ts t n o)
  point_held t zero o was = farther_held (point_of t 0) o was
  point_held t (suc n) o was = farther_held (point_of t (suc n)) (best_point q ts t n o) (point_held t n o was)

  along_held : (some : List Trimmed) (o : Option Point) → IsHeld o → IsHeld (best_along q ts some o)
  along_held [] o was = was
  along_held (t ∷ more) o was = along_held more (best_point q ts t (length t.rest) o) (point_held t (length t.rest) o was)

  -- what is reached stays reached
  farther_reaches : (p : Point) (n : ℕ) (o : Option Point) → Reaches n o → Reaches n (farther q ts p o)
  farther_reaches p n o was = by_test (nat_le q (point_holders ts p.number p.digest) && is_beyond p.number o) refl
    where
      by_test : (b : Bool) → (nat_le q (point_holders ts p.number p.digest) && is_beyond p.number o) ≡ b → Reaches n (farther q ts p o)
      by_test true test =
          let beyond : is_beyond p.number (Some was.0) ≡ true = sym (ap (is_beyond p.number) was.1) ∙ (and_parts (nat_le q (point_holders ts p.number p.digest)) (is_beyond p.number o) test).1 in
          let less : was.0.number < p.number = ltb-true was.0.number p.number beyond in
          (p, ap (λ c. if c then Some p else o) test, omega (arith, less, was.2))
      by_test false test = (was.0, ap (λ c. if c then Some p else o) test ∙ was.1, was.2)

  point_reaches : (t : Trimmed) (k n : ℕ) (o : Option Point) → Reaches n o → Reaches n (best_point q ts t k o)
  point_reaches t zero n o was = farther_reaches (point_of t 0) n o was
  point_reaches t (suc k) n o was = farther_reaches (point_of t (suc k)) n (best_point q ts t k o) (point_reaches t k n o was)

  along_reaches : (some : List Trimmed) (n : ℕ) (o : Option Point) → Reaches n o → Reaches n (best_along q ts some o)
  along_reaches [] n o was = was
  along_reaches (t ∷ more) n o was = along_reaches more n (best_point q ts t (length t.rest) o) (point_reaches t (length t.rest) n o was)

  -- a point that enough hold is reached when it is walked
  reached_here : (p : Point) (o : Option Point) → q ≤ point_holders ts p.number p.digest → Reaches p.number (farther q ts p o)
  reached_here p None enough = (p, ap (λ c. if c && true then Some p else None) (le-leb q (point_holders ts p.number p.digest) enough), omega arith)
  reached_here p (Some k) enough =
      elim (cases_Bool (nat_lt k.number p.number)) [
        | inl beyond ↦ (p, (λ i. if le-leb q (point_holders ts p.number p.digest) enough i && beyond i then Some p else Some k), omega arith)
        | inr within ↦ farther_reaches p p.number (Some k) (k, refl, not_less k.number p.number within)
      ]
    where
      not_less : (a b : ℕ) → nat_lt a b ≡ false → b ≤ a
      not_less a b is = grind (arith, is, nat_tests)

  reached_in : (t : Trimmed) (k n : ℕ) (o : Option Point) → k ≤ n → q ≤ point_holders ts (t.start + k) (digest_at t (t.start + k)) → Reaches (t.start + k) (best_point q ts t n o)
  reached_in t zero zero o le enough = reached_here (point_of t 0) o enough
  reached_in t (suc k) zero o le enough = absurd (omega (arith, le))
  reached_in t k (suc n) o le enough =
      elim (cases_lt k (suc n)) [
        | inl below ↦ farther_reaches (point_of t (suc n)) (t.start + k) (best_point q ts t n o) (reached_in t k n o (omega (arith, below)) enough)
        | inr last ↦
            let e : k ≡ suc n = omega (arith, le, last) in
            subst (λ (j : ℕ). Reaches (t.start + j) (best_point q ts t (suc n) o)) (sym e)
            (reached_here (point_of t (suc n)) (best_point q ts t n o) (subst (λ (j : ℕ). q ≤ point_holders ts (t.start + j) (digest_at t (t.start + j))) e enough))
      ]

  reached_along : (some : List Trimmed) (t : Trimmed) (k : ℕ) (o : Option Point) → Contains some t → k ≤ length t.rest → q ≤ point_holders ts (t.start + k) (digest_at t (t.start + k)) → Reaches (t.start + k) (best_along q ts some o)
  reached_along [] t k o has le enough = absurd (omega (arith, has.1))
  reached_along (u ∷ more) t k o has le enough =
      elim (Contains-cons_cases u more t has) [
        | inl e ↦ along_reaches more (t.start + k) (best_point q ts u (length u.rest) o)
            (subst (λ (v : Trimmed). Reaches (t.start + k) (best_point q ts v (length v.rest) o)) (sym e) (reached_in t k (length t.rest) o le enough))
        | inr later ↦ reached_along more t k (best_point q ts u (length u.rest) o) later le enough
      ]

  module _ (some : 1 ≤ q) where
    reached : (n : ℕ) (d : List ℕ) → q ≤ point_holders ts n d → Reaches n (best_along q ts ts None)
    reached n d enough =
        let r = some_passes (holds n d) ts (omega (arith, some, enough)) in
        let t = r.0 in
        let held = (holds-Decides n d t).0 r.2 in
        let k = n - t.start in
        let at : n ≡ t.start + k = omega (arith, held.shown) in
        let same : d ≡ digest_at t (t.start + k) = sym held.digest ∙ ap (digest_at t) at in
        let many : q ≤ point_holders ts (t.start + k) (digest_at t (t.start + k)) = subst (λ (e : List ℕ). q ≤ point_holders ts (t.start + k) e) same (subst (λ (j : ℕ). q ≤ point_holders ts j d) at enough) in
        subst (λ (j : ℕ). Reaches j (best_along q ts ts None)) (sym at) (reached_along ts t k None r.1 (omega (arith, held.within)) many)

    walked_held : IsHeld (best_along q ts ts None)
    walked_held = along_held ts None (λ p is. absurd (cc (is)))

    -- a point that enough hold has a least holder
    holder : (n : ℕ) (d : List ℕ) → q ≤ point_holders ts n d → (h : Trimmed) × (least_holder n d ts ≡ Some h)
    holder n d enough = let r = some_passes (holds n d) ts (omega (arith, some, enough)) in least_there n d ts r.0 r.1 ((holds-Decides n d r.0).0 r.2)

    agreed : (p : Point) → best_along q ts ts None ≡ Some p → (t : Trimmed) × (agreed_list q ts ≡ Some t) × IsAgreedList q ts t
    agreed p is =
        let enough = walked_held p is in
        let h = holder p.number p.digest enough in (
          cut p.number h.0,
          ap (agreed_at ts) is ∙ ap (option_map (cut p.number)) h.1,
          record {
            number = p.number;
            digest = p.digest;
            point = record {
              held = enough;
              last = λ k e many.
                  let r = reached k e many in
                  let both : Some r.0 ≡ Some p = sym r.1 ∙ is in
                  let same : r.0 ≡ p = cc (both) in
                  subst (λ (x : Point). k ≤ x.number) same r.2;
            };
            holder = h.0;
            least = h.1;
            front = refl;
          },
        )

    -- what is computed
    cases_found : ((agreed_list q ts ≡ None) × ((n : ℕ) (d : List ℕ) → q ≤ point_holders ts n d → ⊥)) ⊎ ((t : Trimmed) × (agreed_list q ts ≡ Some t) × IsAgreedList q ts t)
    cases_found = by_point (best_along q ts ts None) refl
      where
        by_point : (o : Option Point) → best_along q ts ts None ≡ o → ((agreed_list q ts ≡ None) × ((n : ℕ) (d : List ℕ) → q ≤ point_holders ts n d → ⊥)) ⊎ ((t : Trimmed) × (agreed_list q ts ≡ Some t) × IsAgreedList q ts t)
        by_point None is = inl (ap (agreed_at ts) is, λ n d enough. let r = reached n d enough in let both : None ≡ Some r.0 = sym is ∙ r.1 in cc (both))
        by_point (Some p) is = inr (agreed p is)

    pub found_agrees : (t : Trimmed) → agreed_list q ts ≡ Some t → IsAgreedList q ts t
    found_agrees t is =
        elim cases_found [
          | inl none ↦ absurd (let both : None ≡ Some t = sym none.0 ∙ is in cc (both))
          | inr found ↦ let both : Some found.0 ≡ Some t = sym found.1 ∙ is in let same : found.0 ≡ t = cc (both) in subst (λ (u : Trimmed). IsAgreedList q ts u) same found.2
        ]

    pub agrees_found : (t : Trimmed) → length ts < q + q → IsAgreedList q ts t → agreed_list q ts ≡ Some t
    agrees_found t half is =
        elim cases_found [
          | inl none ↦ absurd (none.1 is.number is.digest is.point.held)
          | inr found ↦ found.1 ∙ ap Some (one_list q ts found.0 t half found.2 is)
        ]

    pub none_found : agreed_list q ts ≡ None → (n : ℕ) (d : List ℕ) → q ≤ point_holders ts n d → ⊥
    none_found is =
        elim cases_found [
          | inl none ↦ none.1
          | inr found ↦ absurd (let both : None ≡ Some found.0 = sym is ∙ found.1 in cc (both))
        ]

    pub none_there : ((n : ℕ) (d : List ℕ) → q ≤ point_holders ts n d → ⊥) → agreed_list q ts ≡ None
    none_there never =
        elim cases_found [
          | inl none ↦ none.0
          | inr found ↦ absurd (let is = found.2 in never is.number is.digest is.point.held)
        ]
