-- On which point three lists agree.
use Rattle.std.proofs.Common.{◌≡◌, ℕ, ◌<◌, ◌≤◌, true, false, Some, None, List, [], ◌∷◌, ◌⊎◌, map, arith, refl, sym, ap, ◌∙◌, subst, inl, inr}
use Rattle.std.specs.Prelude.{Contains}
use Rattle.std.proofs.lemmas.Bool.{cases_Bool}
use Rattle.arrayvec.specs.ArrayVec.{ArrayVec}
use Rattle.ab_num.proofs.Lists.{Contains-none, Contains-cons_cases, count_by-yes, count_by-no}
use Rattle.ab_hist.specs.declared.request.Request.{Request}
use Rattle.ab_hist.specs.Digests.{digest_of, link, NoCollision}
use Rattle.ab_hist.specs.Trimmed.{Trimmed, untrimmed, digest_at, Holds, holds}
use Rattle.ab_trim.specs.Points.{point_holders, least_holder, IsAgreedList}
use Rattle.ab_trim.proofs.Chains.{digest_is}
use Rattle.ab_trim.proofs.Stands.{holds-Decides}
use Rattle.ab_trim.proofs.Agreed.{least_is, least_there}
use Rattle.ab_abs.specs.Examples.{first_of}
use Rattle.ab_abs.proofs.ExampleLists.{agree_on_first, agree_on_both}
use Rattle.ab_stable.specs.AgreedLists.{agreed_list}
use Rattle.ab_stable.proofs.WholeLists.{agreed_there}
use Rattle.ab_stable.proofs.FoundLists.{agrees_found, none_there}

-- ---- two of three

module _ (s t u : Trimmed) where
  abbrev pub three : List Trimmed
  three = s ∷ t ∷ u ∷ []

  -- two of the three hold the point
  pub data TwoHold (n : ℕ) (d : List ℕ) : Type 0 where
    first_two : Holds s n d → Holds t n d → TwoHold n d
    outer_two : Holds s n d → Holds u n d → TwoHold n d
    last_two : Holds t n d → Holds u n d → TwoHold n d

  pub enough_hold : (n : ℕ) (d : List ℕ) → TwoHold n d → 2 ≤ point_holders three n d
  enough_hold n d two = by_tests (cases_Bool (holds n d s)) (cases_Bool (holds n d t)) (cases_Bool (holds n d u)) two
    where
      no_one : (v : Trimmed) → holds n d v ≡ false → Holds v n d → ⊥
      no_one v is held = let both : true ≡ false = sym ((holds-Decides n d v).1 held) ∙ is in cc (both)

      by_tests : ((holds n d s ≡ true) ⊎ (holds n d s ≡ false)) → ((holds n d t ≡ true) ⊎ (holds n d t ≡ false)) → ((holds n d u ≡ true) ⊎ (holds n d u ≡ false)) → TwoHold n d → 2 ≤ point_holders three n d
      by_tests (inl p) (inl q) r two = omega (arith, count_by-yes (holds n d) s (t ∷ u ∷ []) p, count_by-yes (holds n d) t (u ∷ []) q)
      by_tests (inl p) (inr q) (inl r) two = omega (arith, count_by-yes (holds n d) s (t ∷ u ∷ []) p, count_by-no (holds n d) t (u ∷ []) q, count_by-yes (holds n d) u [] r)
      by_tests (inr p) (inl q) (inl r) two = omega (arith, count_by-no (holds n d) s (t ∷ u ∷ []) p, count_by-yes (holds n d) t (u ∷ []) q, count_by-yes (holds n d) u [] r)
      by_tests (inl p) (inr q) (inr r) (first_two one other) = absurd (no_one t q other)
      by_tests (inl p) (inr q) (inr r) (outer_two one other) = absurd (no_one u r other)
      by_tests (inl p) (inr q) (inr r) (last_two one other) = absurd (no_one t q one)
      by_tests (inr p) q r (first_two one other) = absurd (no_one s p one)
      by_tests (inr p) q r (outer_two one other) = absurd (no_one s p one)
      by_tests (inr p) (inr q) r (last_two one other) = absurd (no_one t q one)
      by_tests (inr p) (inl q) (inr r) (last_two one other) = absurd (no_one u r other)

  pub two_hold : (n : ℕ) (d : List ℕ) → 2 ≤ point_holders three n d → TwoHold n d
  two_hold n d enough = by_tests (cases_Bool (holds n d s)) (cases_Bool (holds n d t)) (cases_Bool (holds n d u))
    where
      by_tests : ((holds n d s ≡ true) ⊎ (holds n d s ≡ false)) → ((holds n d t ≡ true) ⊎ (holds n d t ≡ false)) → ((holds n d u ≡ true) ⊎ (holds n d u ≡ false)) → TwoHold n d
      by_tests (inl p) (inl q) r = first_two ((holds-Decides n d s).0 p) ((holds-Decides n d t).0 q)
      by_tests (inl p) (inr q) (inl r) = outer_two ((holds-Decides n d s).0 p) ((holds-Decides n d u).0 r)
      by_tests (inr p) (inl q) (inl r) = last_two ((holds-Decides n d t).0 q) ((holds-Decides n d u).0 r)
      by_tests (inl p) (inr q) (inr r) = absurd (omega (arith, enough, count_by-yes (holds n d) s (t ∷ u ∷ []) p, count_by-no (holds n d) t (u ∷ []) q, count_by-no (holds n d) u [] r))
      by_tests (inr p) (inl q) (inr r) = absurd (omega (arith, enough, count_by-no (holds n d) s (t ∷ u ∷ []) p, count_by-yes (holds n d) t (u ∷ []) q, count_by-no (holds n d) u [] r))
      by_tests (inr p) (inr q) (inl r) = absurd (omega (arith, enough, count_by-no (holds n d) s (t ∷ u ∷ []) p, count_by-no (holds n d) t (u ∷ []) q, count_by-yes (holds n d) u [] r))
      by_tests (inr p) (inr q) (inr r) = absurd (omega (arith, enough, count_by-no (holds n d) s (t ∷ u ∷ []) p, count_by-no (holds n d) t (u ∷ []) q, count_by-no (holds n d) u [] r))

  -- the holder that has forgotten less than each other one
  pub least_one : (n : ℕ) (d : List ℕ) (v : Trimmed) → Contains three v → Holds v n d → ((w : Trimmed) → Contains three w → Holds w n d → (w ≡ v) ⊎ (v.start < w.start)) → least_holder n d three ≡ Some v
  least_one n d v has held others =
      let found = least_there n d three v has held in
      let least = least_is n d three found.0 found.1 in
      elim (others found.0 least.there least.held) [
        | inl same ↦ found.1 ∙ ap Some same
        | inr less ↦ absurd (omega (arith, less, least.least v has held))
      ]

  -- each of the three
  pub by_three : (P : Trimmed → Type 0) → P s → P t → P u → (w : Trimmed) → Contains three w → P w
  by_three P of_s of_t of_u w has =
      elim (Contains-cons_cases s (t ∷ u ∷ []) w has) [
        | inl e ↦ subst P e of_s
        | inr more ↦ elim (Contains-cons_cases t (u ∷ []) w more) [
          | inl e ↦ subst P e of_t
          | inr last ↦ elim (Contains-cons_cases u [] w last) [
            | inl e ↦ subst P e of_u
            | inr none ↦ absurd (Contains-none w none)
          ]
        ]
      ]

-- ---- lists that forgot

module _ (a b c e : Request) (d : List ℕ) where
  abbrev late : Trimmed
  late = record { start = 5; digest = link (link (link d a) b) c; rest = [] }

  abbrev middle : Trimmed
  middle = record { start = 2; digest = d; rest = a ∷ b ∷ c ∷ [] }

  late_agreed : IsAgreedList 2 (three late middle (untrimmed (e ∷ []))) middle
  late_agreed = record {
    number = 5;
    digest = late.digest;
    point = record {
      held = enough_hold late middle (untrimmed (e ∷ [])) 5 late.digest (first_two of_late of_middle);
      last = λ k f enough.
          elim (two_hold late middle (untrimmed (e ∷ [])) k f enough) [
            | first_two one other ↦ omega (arith, one.within)
            | outer_two one other ↦ omega (arith, one.within)
            | last_two one other ↦ omega (arith, one.within)
          ];
    };
    holder = middle;
    least =
        least_one late middle (untrimmed (e ∷ [])) 5 late.digest middle (1, omega arith, refl) of_middle
        (by_three late middle (untrimmed (e ∷ [])) (λ w. Holds w 5 late.digest → (w ≡ middle) ⊎ (middle.start < w.start))
        (λ held. inr (omega arith))
        (λ held. inl refl)
        (λ held. absurd (omega (arith, held.within))));
    front = refl;
  }
    where
      of_late : Holds late 5 late.digest
      of_late = record { shown = omega arith; within = omega arith; digest = refl }

      of_middle : Holds middle 5 late.digest
      of_middle = record { shown = omega arith; within = omega arith; digest = refl }

  pub found_late : agreed_list 2 (three late middle (untrimmed (e ∷ []))) ≡ Some middle
  found_late = agrees_found 2 (three late middle (untrimmed (e ∷ []))) (omega arith) middle (omega arith) late_agreed

module _ (a b c : Request) (d : List ℕ) where
  abbrev far : Trimmed
  far = record { start = 5; digest = d; rest = [] }

  abbrev half : Trimmed
  half = record { start = 2; digest = digest_of (a ∷ b ∷ []); rest = c ∷ [] }

  abbrev all : Trimmed
  all = untrimmed (a ∷ b ∷ c ∷ [])

  early_agreed : IsAgreedList 2 (three far half all) all
  early_agreed = record {
    number = 3;
    digest = digest_at all 3;
    point = record {
      held = enough_hold far half all 3 (digest_at all 3) (last_two of_half of_all);
      last = λ k f enough.
          elim (two_hold far half all k f enough) [
            | first_two one other ↦ omega (arith, other.within)
            | outer_two one other ↦ omega (arith, other.within)
            | last_two one other ↦ omega (arith, other.within)
          ];
    };
    holder = all;
    least =
        least_one far half all 3 (digest_at all 3) all (2, omega arith, refl) of_all
        (by_three far half all (λ w. Holds w 3 (digest_at all 3) → (w ≡ all) ⊎ (all.start < w.start))
        (λ held. inr (omega arith))
        (λ held. inr (omega arith))
        (λ held. inl refl));
    front = refl;
  }
    where
      of_half : Holds half 3 (digest_at all 3)
      of_half = record { shown = omega arith; within = omega arith; digest = ap (λ e. link e c) (digest_is (a ∷ b ∷ [])) }

      of_all : Holds all 3 (digest_at all 3)
      of_all = record { shown = omega arith; within = omega arith; digest = refl }

  pub found_early : agreed_list 2 (three far half all) ≡ Some all
  found_early = agrees_found 2 (three far half all) (omega arith) all (omega arith) early_agreed

pub found_none : (a b : Request) (d e : List ℕ) → agreed_list 2 (record { start = 5; digest = d; rest = [] } ∷ record { start = 2; digest = e; rest = a ∷ [] } ∷ untrimmed (b ∷ []) ∷ []) ≡ None
found_none a b d e =
    let s : Trimmed = record { start = 5; digest = d; rest = [] } in
    let t : Trimmed = record { start = 2; digest = e; rest = a ∷ [] } in
    let u : Trimmed = untrimmed (b ∷ []) in
    none_there 2 (three s t u) (omega arith) (λ n f enough.
    elim (two_hold s t u n f enough) [
      | first_two one other ↦ omega (arith, one.shown, other.within)
      | outer_two one other ↦ omega (arith, one.shown, other.within)
      | last_two one other ↦ omega (arith, one.shown, other.within)
    ])

-- ---- lists that forgot nothing

pub found_first : (x y z : ArrayVec ℕ) → let a = first_of 0 x in let b = first_of 1 y in let c = first_of 2 z in let hs : List (List Request) = (a ∷ b ∷ []) ∷ (a ∷ c ∷ []) ∷ (a ∷ []) ∷ [] in
    NoCollision hs → agreed_list 2 (map untrimmed hs) ≡ Some (untrimmed (a ∷ []))
found_first x y z none =
    let a = first_of 0 x in
    let hs : List (List Request) = (a ∷ first_of 1 y ∷ []) ∷ (a ∷ first_of 2 z ∷ []) ∷ (a ∷ []) ∷ [] in
    agrees_found 2 (map untrimmed hs) (omega arith) (untrimmed (a ∷ [])) (omega arith) (agreed_there 2 hs none (omega arith) (a ∷ []) (agree_on_first x y z))

pub found_both : (x y : ArrayVec ℕ) → let a = first_of 0 x in let b = first_of 1 y in let hs : List (List Request) = (a ∷ b ∷ []) ∷ (a ∷ b ∷ []) ∷ [] ∷ [] in
    NoCollision hs → agreed_list 2 (map untrimmed hs) ≡ Some (untrimmed (a ∷ b ∷ []))
found_both x y none =
    let h : List Request = first_of 0 x ∷ first_of 1 y ∷ [] in
    let hs : List (List Request) = h ∷ h ∷ [] ∷ [] in
    agrees_found 2 (map untrimmed hs) (omega arith) (untrimmed h) (omega arith) (agreed_there 2 hs none (omega arith) h (agree_on_both x y))
