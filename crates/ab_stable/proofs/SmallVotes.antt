-- Three lists meet what is asked of those of a certificate.
use Rattle.std.proofs.Common.{◌≡◌, ℕ, ◌<◌, false, List, [], ◌∷◌, ◌⊎◌, take, arith, refl, sym, ap, ◌∙◌, subst, inl, inr}
use Rattle.std.specs.Prelude.{Contains}
use Rattle.std.proofs.lemmas.List.Elements.{Contains-append_left}
use mathlib.Core.List.{IsPrefix}
use Rattle.ab_num.proofs.Lists.{Contains-none, Contains-cons_cases}
use Rattle.ab_hist.specs.declared.request.Request.{Request}
use Rattle.ab_hist.specs.Digests.{digest_of, link}
use Rattle.ab_hist.specs.Trimmed.{StandsFor, untrimmed, trim, Holds}
use Rattle.ab_trim.specs.Links.{AreApart, links_of, links_of_all}
use Rattle.ab_trim.specs.Points.{IsAgreedList}
use Rattle.ab_trim.proofs.Chains.{digest_is, nothing, all_among}
use Rattle.ab_trim.proofs.Stands.{trims, whole_stands}
use Rattle.ab_stable.specs.Certs.{Stated, lists_of, IsFair, AreKnown, AreTold}
use Rattle.ab_stable.specs.SmallVotes.{small_bad, small_logs, small_votes, small_links}
use Rattle.ab_stable.proofs.SmallPoints.{enough_hold, two_hold, first_two, outer_two, last_two, least_one, by_three}

module _ (a b c : Request) where
  abbrev vote_0 : Stated
  vote_0 = record { by = 0; list = trim 1 (a ∷ b ∷ []) }

  abbrev vote_1 : Stated
  vote_1 = record { by = 1; list = untrimmed (a ∷ b ∷ c ∷ []) }

  abbrev vote_2 : Stated
  vote_2 = record { by = 2; list = trim 1 (a ∷ c ∷ []) }

  each_vote : (P : Stated → Type 0) → P vote_0 → P vote_1 → P vote_2 → (v : Stated) → Contains (small_votes a b c) v → P v
  each_vote P of_0 of_1 of_2 v has =
      elim (Contains-cons_cases vote_0 (vote_1 ∷ vote_2 ∷ []) v has) [
        | inl e ↦ subst P e of_0
        | inr more ↦ elim (Contains-cons_cases vote_1 (vote_2 ∷ []) v more) [
          | inl e ↦ subst P e of_1
          | inr last ↦ elim (Contains-cons_cases vote_2 [] v last) [
            | inl e ↦ subst P e of_2
            | inr none ↦ absurd (Contains-none v none)
          ]
        ]
      ]

  fair_vote : (P : Stated → Type 0) → P vote_0 → P vote_1 → (v : Stated) → IsFair small_bad (small_votes a b c) v → P v
  fair_vote P of_0 of_1 v fair = each_vote (λ w. small_bad w.by ≡ false → P w) (λ _. of_0) (λ _. of_1) (λ good. absurd (cc (good))) v fair.there fair.correct

  pub known : AreKnown 1 small_bad (small_logs a b c) (small_votes a b c)
  known = record {
    few = omega arith;
    stands = fair_vote (λ v. StandsFor v.list (small_logs a b c v.by)) (trims 1 (a ∷ b ∷ []) (omega arith)) (whole_stands (a ∷ b ∷ c ∷ []));
    common = λ v w of_v of_w.
        fair_vote (λ u. IsPrefix (take u.list.start (small_logs a b c u.by)) (small_logs a b c w.by))
        (fair_vote (λ u. IsPrefix (a ∷ []) (small_logs a b c u.by)) (b ∷ [], refl) (b ∷ c ∷ [], refl) w of_w)
        (small_logs a b c w.by, refl) v of_v;
  }

  abbrev links : List (List ℕ × Request)
  links = small_links a b c

  abbrev HasLink : List ℕ × Request → Type 0
  HasLink l = Contains links l

  first_link : HasLink (nothing, a)
  first_link = (0, omega arith, refl)

  second_link : HasLink (link nothing a, b)
  second_link = (1, omega arith, refl)

  other_link : HasLink (link nothing a, c)
  other_link = (4, omega arith, refl)

  of_list : (v : Stated) (l : List ℕ × Request) → Contains (small_votes a b c) v → Contains (links_of v.list) l → HasLink l
  of_list v l has is =
      each_vote (λ w. Contains (links_of w.list) l → HasLink l)
      (λ one. elim (Contains-cons_cases (digest_of (a ∷ []), b) [] l one) [ inl e ↦ subst HasLink (ap (λ d. (d, b)) (sym (digest_is (a ∷ []))) ∙ e) second_link | inr none ↦ absurd (Contains-none l none) ])
      (λ whole. all_among ((a ∷ b ∷ c ∷ []) ∷ (a ∷ c ∷ []) ∷ []) (a ∷ b ∷ c ∷ []) (0, omega arith, refl) l whole)
      (λ one. elim (Contains-cons_cases (digest_of (a ∷ []), c) [] l one) [ inl e ↦ subst HasLink (ap (λ d. (d, c)) (sym (digest_is (a ∷ []))) ∙ e) other_link | inr none ↦ absurd (Contains-none l none) ])
      v has is

  of_log : (v : Stated) (l : List ℕ × Request) → IsFair small_bad (small_votes a b c) v → Contains (links_of_all (small_logs a b c v.by ∷ [])) l → HasLink l
  of_log v l fair is =
      fair_vote (λ w. Contains (links_of_all (small_logs a b c w.by ∷ [])) l → HasLink l)
      (λ has. elim (Contains-cons_cases (nothing, a) ((link nothing a, b) ∷ []) l has) [
        | inl e ↦ subst HasLink e first_link
        | inr more ↦ elim (Contains-cons_cases (link nothing a, b) [] l more) [ inl e ↦ subst HasLink e second_link | inr none ↦ absurd (Contains-none l none) ]
      ])
      (λ has. Contains-append_left (links_of_all ((a ∷ b ∷ c ∷ []) ∷ [])) (links_of_all ((a ∷ c ∷ []) ∷ [])) l has)
      v fair is

  pub told : AreApart links → AreTold links small_bad (small_logs a b c) (small_votes a b c)
  told apart = record { apart = apart; lists = of_list; logs = of_log }

  -- the two correct ones hold the first two entries
  pub agreed : IsAgreedList 2 (lists_of (small_votes a b c)) (untrimmed (a ∷ b ∷ []))
  agreed = record {
    number = 2;
    digest = d;
    point = record {
      held = enough_hold vote_0.list vote_1.list vote_2.list 2 d (first_two of_0 of_1);
      last = λ k e enough.
          elim (two_hold vote_0.list vote_1.list vote_2.list k e enough) [
            | first_two one other ↦ omega (arith, one.within)
            | outer_two one other ↦ omega (arith, one.within)
            | last_two one other ↦ omega (arith, other.within)
          ];
    };
    holder = vote_1.list;
    least =
        least_one vote_0.list vote_1.list vote_2.list 2 d vote_1.list (1, omega arith, refl) of_1
        (by_three vote_0.list vote_1.list vote_2.list (λ w. Holds w 2 d → (w ≡ vote_1.list) ⊎ (vote_1.list.start < w.start)) (λ held. inr (omega arith)) (λ held. inl refl) (λ held. inr (omega arith)));
    front = refl;
  }
    where
      d : List ℕ
      d = link (link nothing a) b

      of_0 : Holds vote_0.list 2 d
      of_0 = record { shown = omega arith; within = omega arith; digest = ap (λ e. link e b) (digest_is (a ∷ [])) }

      of_1 : Holds vote_1.list 2 d
      of_1 = record { shown = omega arith; within = omega arith; digest = refl }
