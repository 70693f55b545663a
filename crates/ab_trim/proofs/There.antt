-- If some point has enough holders, there is a last one.
use Rattle.std.proofs.Common.{◌≡◌, ℕ, zero, suc, ◌+◌, ◌≤◌, List, [], ◌∷◌, ◌⊎◌, arith, refl, sym, subst, inl, inr}
use Rattle.std.specs.Prelude.{Contains}
use Rattle.std.proofs.lemmas.Bool.{cases_lt}
use Rattle.ab_hist.specs.Trimmed.{Trimmed, end_of, digest_at, Holds, holds, cut}
use Rattle.ab_trim.specs.Points.{point_holders, IsLastPoint, IsAgreedList}
use Rattle.ab_trim.proofs.Chains.{Contains-cons_cases}
use Rattle.ab_trim.proofs.Stands.{holds-Decides}
use Rattle.ab_trim.proofs.Counts.{some_passes}
use Rattle.ab_trim.proofs.Agreed.{least_there}

-- no list of these ends behind N
bound : (ts : List Trimmed) → (most : ℕ) × ((t : Trimmed) → Contains ts t → end_of t ≤ most)
bound [] = (0, λ t has. absurd (omega (arith, has.1)))
bound (t ∷ ts) =
    let r = bound ts in (
      end_of t + r.0,
      λ u has.
          elim (Contains-cons_cases t ts u has) [
            | inl e ↦ subst (λ (x : Trimmed). end_of x ≤ end_of t + r.0) e (omega arith)
            | inr more ↦ omega (arith, r.1 u more)
          ],
    )

module _ (q : ℕ) (ts : List Trimmed) (some : 1 ≤ q) where
  -- a point with a holder is that of a list
  pub holder_of : (n : ℕ) (d : List ℕ) → q ≤ point_holders ts n d → (t : Trimmed) × Contains ts t × Holds t n d
  holder_of n d enough =
      let r = some_passes (holds n d) ts (omega (arith, some, enough)) in
      (r.0, r.1, (holds-Decides n d r.0).0 r.2)

  -- some list's digest at n has enough holders, or none has
  at_number : (n : ℕ) (some' : List Trimmed) → ((t : Trimmed) × (q ≤ point_holders ts n (digest_at t n))) ⊎ ((t : Trimmed) → Contains some' t → q ≤ point_holders ts n (digest_at t n) → ⊥)
  at_number n [] = inr (λ t has enough. omega (arith, has.1))
  at_number n (t ∷ more) =
      elim (cases_lt (point_holders ts n (digest_at t n)) q) [
        | inr enough ↦ inl (t, enough)
        | inl few ↦ elim (at_number n more) [
          | inl found ↦ inl found
          | inr none ↦ inr (λ u has enough.
              elim (Contains-cons_cases t more u has) [
                | inl e ↦ let also = subst (λ (x : Trimmed). q ≤ point_holders ts n (digest_at x n)) (sym e) enough in omega (arith, few, also)
                | inr rest ↦ none u rest enough
              ])
        ]
      ]

  none_at : (n : ℕ) → ((t : Trimmed) → Contains ts t → q ≤ point_holders ts n (digest_at t n) → ⊥) → (d : List ℕ) → q ≤ point_holders ts n d → ⊥
  none_at n none d enough =
      let h = holder_of n d enough in
      none h.0 h.1 (subst (λ (e : List ℕ). q ≤ point_holders ts n e) (sym h.2.digest) enough)

  last_up_to : (most : ℕ) → ((k : ℕ) (e : List ℕ) → q ≤ point_holders ts k e → k ≤ most) → (n : ℕ) (d : List ℕ) → q ≤ point_holders ts n d → (k : ℕ) × (e : List ℕ) × IsLastPoint q ts k e
  last_up_to most below n d enough =
      elim (at_number most ts) [
        | inl found ↦ (most, digest_at found.0 most, record { held = found.1; last = below })
        | inr none ↦ lower most below none
      ]
    where
      lower : (top : ℕ) → ((k : ℕ) (e : List ℕ) → q ≤ point_holders ts k e → k ≤ top) → ((t : Trimmed) → Contains ts t → q ≤ point_holders ts top (digest_at t top) → ⊥) → (k : ℕ) × (e : List ℕ) × IsLastPoint q ts k e
      lower zero under none =
          let e : n ≡ 0 = omega (arith, under n d enough) in
          absurd (none_at 0 none d (subst (λ (k : ℕ). q ≤ point_holders ts k d) e enough))
      lower (suc top) under none =
          let less : (k : ℕ) (e : List ℕ) → q ≤ point_holders ts k e → k ≤ top =
          λ k e has.
          elim (cases_lt k (suc top)) [
            | inl low ↦ omega (arith, low)
            | inr high ↦
                let same : k ≡ suc top = omega (arith, high, under k e has) in
                absurd (none_at (suc top) none e (subst (λ (j : ℕ). q ≤ point_holders ts j e) same has))
          ]
          in
          elim (at_number top ts) [
            | inl found ↦ (top, digest_at found.0 top, record { held = found.1; last = less })
            | inr also ↦ lower top less also
          ]

  pub agreed_is_there : (n : ℕ) (d : List ℕ) → q ≤ point_holders ts n d → (t : Trimmed) × IsAgreedList q ts t
  agreed_is_there n d enough =
      let b = bound ts in
      let point = last_up_to b.0 (λ k e has. let h = holder_of k e has in omega (arith, h.2.within, b.1 h.0 h.1)) n d enough in
      let h = holder_of point.0 point.1 point.2.held in
      let least = least_there point.0 point.1 ts h.0 h.1 h.2 in
      (cut point.0 least.0, record { number = point.0; digest = point.1; point = point.2; holder = least.0; least = least.1; front = refl })

pub agreed_only : (q : ℕ) (ts : List Trimmed) (t : Trimmed) → IsAgreedList q ts t → (n : ℕ) × (d : List ℕ) × (q ≤ point_holders ts n d)
agreed_only q ts t is = (is.number, is.digest, is.point.held)
