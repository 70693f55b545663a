-- A certificate over trimmed lists is one over whole lists.
use Rattle.std.proofs.Common.{◌≡◌, ℕ, ◌+◌, ◌-◌, ◌*◌, ◌<◌, ◌≤◌, Bool, true, false, Some, List, [], ◌∷◌, ◌++◌, ◌⊎◌, length, map, take, drop, arith, refl, sym, ap, ◌∙◌, subst, inl, inr, length-append}
use Rattle.std.specs.Prelude.{Contains, if◌then◌else◌, count_by}
use Rattle.std.specs.List.{starts_with}
use Rattle.std.proofs.lemmas.Bool.{cases_lt, cases_Bool}
use Rattle.std.proofs.lemmas.List.{take-append-drop, length-take, take_all, take-append-le, drop-append-le, append-nil}
use mathlib.Core.List.{IsPrefix}
use Rattle.ab_num.proofs.Lists.{Contains-head, Contains-tail, Contains-cons_cases, Contains-map, Contains-map_cases, count_by-yes}
use Rattle.ab_hist.specs.declared.request.Request.{Request}
use Rattle.ab_hist.specs.Requests.{request_eq}
use Rattle.ab_hist.specs.Digests.{digest_of}
use Rattle.ab_hist.specs.Trimmed.{Trimmed, StandsFor, end_of, linked_from, Holds, holds, cut}
use Rattle.ab_trim.specs.Links.{links_from, links_of, links_of_all}
use Rattle.ab_abs.specs.Extraction.{IsExtract}
use Rattle.ab_trim.specs.Points.{point_holders, IsLastPoint, least_holder, IsAgreedList}
use Rattle.ab_stable.specs.Certs.{Stated, lists_of, IsFair, AreKnown, AreTold, list_behind, IsWholeCert, IsEqualWhole, HaveOneEnd}
use Rattle.ab_trim.proofs.Chains.{digest_is, nothing, AreAmong, among-front, among-both, same_history}
use Rattle.ab_trim.proofs.Stands.{holds-Decides, ends, digests, shows, shown, same_front, agrees}
use Rattle.ab_trim.proofs.Counts.{count_fewer, count_more, one_good, good_pass}
use Rattle.ab_trim.proofs.Agreed.{least_is}
use Rattle.ab_abs.proofs.Prefixes.{prefix_is_take}
use Rattle.ab_abs.proofs.Extracts.{starts_with-Decides}

-- the links of one history
of_one : (h : List Request) (ls : List (List ℕ × Request)) → ((a : List ℕ × Request) → Contains (links_of_all (h ∷ [])) a → Contains ls a) → AreAmong (links_from nothing h) ls
of_one h ls each a has = each a (subst (λ (xs : List (List ℕ × Request)). Contains xs a) (sym (append-nil (links_from nothing h))) has)

to_one : (h : List Request) (ls : List (List ℕ × Request)) → AreAmong (links_from nothing h) ls → (a : List ℕ × Request) → Contains (links_of_all (h ∷ [])) a → Contains ls a
to_one h ls among a has = among a (subst (λ (xs : List (List ℕ × Request)). Contains xs a) (append-nil (links_from nothing h)) has)

-- of the fair votes one has forgotten the most
pub record IsMost (bad : ℕ → Bool) (votes : List Stated) (w : Stated) : Type 0 where
  pub fair : IsFair bad votes w
  pub most : (v : Stated) → IsFair bad votes v → v.list.start ≤ w.list.start

module _ (bad : ℕ → Bool) where
  in_rest : (x : Stated) (xs : List Stated) (v : Stated) → IsFair bad (x ∷ xs) v → (x ≡ v) ⊎ IsFair bad xs v
  in_rest x xs v fair = elim (Contains-cons_cases x xs v fair.there) [ inl e ↦ inl e | inr more ↦ inr (record { there = more; correct = fair.correct }) ]

  behind : (x : Stated) (xs : List Stated) (v : Stated) → IsFair bad xs v → IsFair bad (x ∷ xs) v
  behind x xs v fair = record { there = Contains-tail x v xs fair.there; correct = fair.correct }

  most_or_none : (votes : List Stated) → ((v : Stated) → IsFair bad votes v → ⊥) ⊎ ((w : Stated) × IsMost bad votes w)
  most_or_none [] = inl (λ v fair. let lt = fair.there.1 in omega (arith, lt))
  most_or_none (x ∷ xs) =
      elim (most_or_none xs) [
        | inl none ↦ elim (cases_Bool (bad x.by)) [
          | inl is_bad ↦ inl (λ v fair.
              elim (in_rest x xs v fair) [
                | inl e ↦ let two : true ≡ false = sym is_bad ∙ (ap (λ (y : Stated). bad y.by) e ∙ fair.correct) in cc (two)
                | inr more ↦ none v more
              ])
          | inr good ↦ inr (
            x,
            record {
              fair = record { there = Contains-head x xs; correct = good };
              most = λ v fair.
                  elim (in_rest x xs v fair) [
                    | inl e ↦ subst (λ (y : Stated). y.list.start ≤ x.list.start) e (omega arith)
                    | inr more ↦ absurd (none v more)
                  ];
            },
          )
        ]
        | inr some ↦
            let w = some.0 in
            let old : IsMost bad (x ∷ xs) w ⊎ ((bad x.by ≡ false) × (w.list.start < x.list.start)) =
            elim (cases_Bool (bad x.by)) [
              | inl is_bad ↦ inl (record {
                fair = behind x xs w some.1.fair;
                most = λ v fair.
                    elim (in_rest x xs v fair) [
                      | inl e ↦ absurd (let two : true ≡ false = sym is_bad ∙ (ap (λ (y : Stated). bad y.by) e ∙ fair.correct) in cc (two))
                      | inr more ↦ some.1.most v more
                    ];
              })
              | inr good ↦ elim (cases_lt w.list.start x.list.start) [
                | inl above ↦ inr (good, above)
                | inr below ↦ inl (record {
                  fair = behind x xs w some.1.fair;
                  most = λ v fair.
                      elim (in_rest x xs v fair) [
                        | inl e ↦ subst (λ (y : Stated). y.list.start ≤ w.list.start) e below
                        | inr more ↦ some.1.most v more
                      ];
                })
              ]
            ] in
            elim old [
              | inl keeps ↦ inr (w, keeps)
              | inr better ↦ inr (
                x,
                record {
                  fair = record { there = Contains-head x xs; correct = better.0 };
                  most = λ v fair.
                      elim (in_rest x xs v fair) [
                        | inl e ↦ subst (λ (y : Stated). y.list.start ≤ x.list.start) e (omega arith)
                        | inr more ↦ omega (arith, some.1.most v more, better.1)
                      ];
                },
              )
            ]
      ]

module _ (f : ℕ) (bad : ℕ → Bool) (log : ℕ → List Request) (votes : List Stated)
    (enough : length votes ≡ 2 * f + 1) (known : AreKnown f bad log votes) where
  -- the correct ones hold what the one has forgotten that has forgotten the most
  module _ (w : Stated) (is : IsMost bad votes w) where
    front_holds : (v : Stated) → Contains votes v → bad v.by ≡ false → holds w.list.start (digest_of (take w.list.start (log w.by))) v.list ≡ true
    front_holds v has good =
        let fair : IsFair bad votes v = record { there = has; correct = good } in
        let own = known.stands w is.fair in
        let long : length (take w.list.start (log w.by)) ≡ w.list.start = omega (arith, length-take w.list.start (log w.by), own.reaches) in
        let same : take w.list.start (log w.by) ≡ take w.list.start (log v.by) =
        prefix_is_take (take w.list.start (log w.by)) (log v.by) (known.common w v is.fair fair) ∙ ap (λ n. take n (log v.by)) long
        in
        let within : w.list.start ≤ length (log v.by) = omega (arith, long, ap length same, length-take w.list.start (log v.by)) in
        (holds-Decides w.list.start (digest_of (take w.list.start (log w.by))) v.list).1
        (shows v.list (log v.by) (known.stands v fair) w.list.start (digest_of (take w.list.start (log w.by))) (is.most v fair) within (ap digest_of (sym same)))

    pub shared_front : f + 1 ≤ point_holders (lists_of votes) w.list.start (digest_of (take w.list.start (log w.by)))
    shared_front =
        let n = w.list.start in
        let d = digest_of (take w.list.start (log w.by)) in
        let many = good_pass (λ (v : Stated). bad v.by) (λ (v : Stated). holds n d v.list) votes front_holds in
        let along = count_fewer (λ (v : Stated). holds n d v.list) (holds n d) (λ (v : Stated). v.list) votes (λ v _ has. has) in
        omega (arith, many, along, known.few, enough)

  -- so the last point lies behind all that correct ones have forgotten
  pub behind_fronts : (n : ℕ) (d : List ℕ) → IsLastPoint (f + 1) (lists_of votes) n d → (v : Stated) → IsFair bad votes v → v.list.start ≤ n
  behind_fronts n d point v fair =
      elim (most_or_none bad votes) [
        | inl none ↦ absurd (none v fair)
        | inr some ↦ omega (arith, some.1.most v fair, point.last some.0.list.start (digest_of (take some.0.list.start (log some.0.by))) (shared_front some.0 some.1))
      ]

module _ (f : ℕ) (bad : ℕ → Bool) (log : ℕ → List Request) (links : List (List ℕ × Request)) (votes : List Stated)
    (enough : length votes ≡ 2 * f + 1) (known : AreKnown f bad log votes) (told : AreTold links bad log votes) where
  of_log : (v : Stated) → IsFair bad votes v → AreAmong (links_from nothing (log v.by)) links
  of_log v fair = of_one (log v.by) links (λ a. told.logs v a fair)

  -- the lists of enough replicas share a point
  pub a_point : (n : ℕ) × (d : List ℕ) × (f + 1 ≤ point_holders (lists_of votes) n d)
  a_point =
      elim (most_or_none bad votes) [
        | inl none ↦
            let r = one_good (λ (v : Stated). bad v.by) (λ (v : Stated). true) votes (omega (arith, known.few, enough, all_pass votes)) in
            absurd (none r.0 (record { there = r.1; correct = r.2 }))
        | inr some ↦ (some.0.list.start, digest_of (take some.0.list.start (log some.0.by)), shared_front f bad log votes enough known some.0 some.1)
      ]
    where
      all_pass : (xs : List Stated) → count_by (λ (v : Stated). true) xs ≡ length xs
      all_pass [] = refl
      all_pass (x ∷ xs) = omega (arith, all_pass xs, count_by-yes (λ (v : Stated). true) x xs refl)

  module _ (t : Trimmed) (n : ℕ) (d : List ℕ) (point : IsLastPoint (f + 1) (lists_of votes) n d) (least : Trimmed) (is_least : least_holder n d (lists_of votes) ≡ Some least) (front_is : t ≡ cut n least)
      (g : Stated) (fair : IsFair bad votes g) (g_holds : Holds g.list n d) where
    abbrev hist : List Request
    hist = take n (log g.by)

    abbrev list : Stated → List Request
    list v = list_behind bad log n d hist v

    says : (n ≤ length (log g.by)) × (digest_of hist ≡ d)
    says = shown g.list (log g.by) (known.stands g fair) n d g_holds

    long : length hist ≡ n
    long = omega (arith, length-take n (log g.by), says.0)

    of_hist : AreAmong (links_from nothing hist) links
    of_hist = among-front nothing hist (drop n (log g.by)) links (subst (λ (x : List Request). AreAmong (links_from nothing x) links) (sym (take-append-drop n (log g.by))) (of_log g fair))

    own : (v : Stated) → IsFair bad votes v → list v ≡ log v.by
    own v ok = ap (λ b. if b then (if holds n d v.list then hist ++ drop (n - v.list.start) v.list.rest else []) else log v.by) ok.correct

    of_holder : (v : Stated) → bad v.by ≡ true → holds n d v.list ≡ true → list v ≡ hist ++ drop (n - v.list.start) v.list.rest
    of_holder v is_bad has =
        ap (λ b. if b then (if holds n d v.list then hist ++ drop (n - v.list.start) v.list.rest else []) else log v.by) is_bad
        ∙ ap (λ b. if b then hist ++ drop (n - v.list.start) v.list.rest else []) has

    of_other : (v : Stated) → bad v.by ≡ true → holds n d v.list ≡ false → list v ≡ []
    of_other v is_bad has =
        ap (λ b. if b then (if holds n d v.list then hist ++ drop (n - v.list.start) v.list.rest else []) else log v.by) is_bad
        ∙ ap (λ b. if b then hist ++ drop (n - v.list.start) v.list.rest else []) has

    -- a list that holds the point stands for the history up to there, and for what it has behind it
    up_to : (u : Trimmed) → AreAmong (links_of u) links → Holds u n d → StandsFor (cut n u) hist
    up_to u among has =
        agrees links told.apart u (log g.by) n among (of_log g fair) says.0 (record { shown = has.shown; within = has.within; digest = has.digest ∙ sym says.1 })

    stands_behind : (u : Trimmed) → AreAmong (links_of u) links → Holds u n d → StandsFor u (hist ++ drop (n - u.start) u.rest)
    stands_behind u among has =
        let up = up_to u among has in
        let more = drop (n - u.start) u.rest in
        record {
          reaches = omega (arith, length-append hist more, up.reaches);
          digest = ap digest_of (take-append-le u.start hist more up.reaches) ∙ up.digest;
          rest = drop-append-le u.start hist more up.reaches ∙ (ap (λ (x : List Request). x ++ more) up.rest ∙ take-append-drop (n - u.start) u.rest);
        }

    covers_behind : (u : Trimmed) → AreAmong (links_of u) links → Holds u n d → AreAmong (links_from nothing (hist ++ drop (n - u.start) u.rest)) links
    covers_behind u among has =
        let is = stands_behind u among has in
        let w = hist ++ drop (n - u.start) u.rest in
        let up = up_to u among has in
        let first : take u.start w ≡ take u.start hist = take-append-le u.start hist (drop (n - u.start) u.rest) up.reaches in
        let of_first : AreAmong (links_from nothing (take u.start w)) links = subst (λ (x : List Request). AreAmong (links_from nothing x) links) (sym first)
        (among-front nothing (take u.start hist) (drop u.start hist) links (subst (λ (x : List Request). AreAmong (links_from nothing x) links) (sym (take-append-drop u.start hist)) of_hist)) in
        let at : linked_from nothing (take u.start w) ≡ u.digest = sym (digest_is (take u.start w)) ∙ is.digest in
        let of_rest : AreAmong (links_from (linked_from nothing (take u.start w)) (drop u.start w)) links =
        subst (λ (x : List ℕ). AreAmong (links_from x (drop u.start w)) links) (sym at) (subst (λ (x : List Request). AreAmong (links_from u.digest x) links) (sym is.rest) among) in
        subst (λ (x : List Request). AreAmong (links_from nothing x) links) (take-append-drop u.start w) (among-both nothing (take u.start w) (drop u.start w) links of_first of_rest)

    of_list : (v : Stated) → Contains votes v → AreAmong (links_of v.list) links
    of_list v has a is = told.lists v a has is

    starts : (v : Stated) → Contains votes v → holds n d v.list ≡ true → starts_with request_eq (list v) hist ≡ true
    starts v has held =
        let holding = (holds-Decides n d v.list).0 held in
        elim (cases_Bool (bad v.by)) [
          | inl is_bad ↦ (starts_with-Decides (list v) hist).1 (subst (λ (x : List Request). IsPrefix hist x) (sym (of_holder v is_bad held)) (drop (n - v.list.start) v.list.rest, refl))
          | inr good ↦
              let ok : IsFair bad votes v = record { there = has; correct = good } in
              let tells = shown v.list (log v.by) (known.stands v ok) n d holding in
              let same : take n (log v.by) ≡ hist = same_front links told.apart n (log v.by) (log g.by) (of_log v ok) (of_log g fair) (tells.1 ∙ sym says.1) in
              (starts_with-Decides (list v) hist).1 (subst (λ (x : List Request). IsPrefix hist x) (sym (own v ok)) (drop n (log v.by), ap (λ (x : List Request). x ++ drop n (log v.by)) (sym same) ∙ take-append-drop n (log v.by)))
        ]

    prefix_long : (k l : List Request) → IsPrefix k l → length k ≤ length l
    prefix_long k l p = omega (arith, sym (ap length p.1) ∙ length-append k p.0)

    holds_more : (k : List Request) → n < length k → (v : Stated) → Contains votes v → starts_with request_eq (list v) k ≡ true → holds (length k) (digest_of k) v.list ≡ true
    holds_more k more v has starts' =
        let p = (starts_with-Decides (list v) k).0 starts' in
        let tell : (l : List Request) → list v ≡ l → StandsFor v.list l → v.list.start ≤ n → holds (length k) (digest_of k) v.list ≡ true =
        λ l is stands low.
        let q : IsPrefix k l = subst (λ (x : List Request). IsPrefix k x) is p in
        (holds-Decides (length k) (digest_of k) v.list).1
        (shows v.list l stands (length k) (digest_of k) (omega (arith, low, more)) (prefix_long k l q) (ap digest_of (sym (prefix_is_take k l q))))
        in
        elim (cases_Bool (bad v.by)) [
          | inl is_bad ↦ elim (cases_Bool (holds n d v.list)) [
            | inl held ↦
                let holding = (holds-Decides n d v.list).0 held in
                tell (hist ++ drop (n - v.list.start) v.list.rest) (of_holder v is_bad held) (stands_behind v.list (of_list v has) holding) holding.shown
            | inr lacks ↦
                let q : IsPrefix k [] = subst (λ (x : List Request). IsPrefix k x) (of_other v is_bad lacks) p in
                absurd (omega (arith, more, prefix_long k [] q))
          ]
          | inr good ↦
              let ok : IsFair bad votes v = record { there = has; correct = good } in
              tell (log v.by) (own v ok) (known.stands v ok) (behind_fronts f bad log votes enough known n d point v ok)
        ]

    extracts : IsExtract (f + 1) (map list votes) hist
    extracts = record {
      held =
          let one = count_more (λ (v : Stated). holds n d v.list) (holds n d) (λ (v : Stated). v.list) votes (λ v _ has. has) in
          let two = count_fewer (λ (v : Stated). holds n d v.list) (λ l. starts_with request_eq l hist) list votes starts in
          omega (arith, one, two, point.held);
      longest = λ k enough'.
          elim (cases_lt n (length k)) [
            | inr below ↦ omega (arith, below, long)
            | inl above ↦
                let one = count_more (λ (v : Stated). holds (length k) (digest_of k) v.list) (λ l. starts_with request_eq l k) list votes (holds_more k above) in
                let two = count_fewer (λ (v : Stated). holds (length k) (digest_of k) v.list) (holds (length k) (digest_of k)) (λ (v : Stated). v.list) votes (λ v _ has. has) in
                absurd (omega (arith, above, point.last (length k) (digest_of k) (omega (arith, one, two, enough'))))
          ];
    }

    covered : (v : Stated) → Contains votes v → AreAmong (links_from nothing (list v)) links
    covered v has =
        elim (cases_Bool (bad v.by)) [
          | inl is_bad ↦ elim (cases_Bool (holds n d v.list)) [
            | inl held ↦ subst (λ (x : List Request). AreAmong (links_from nothing x) links) (sym (of_holder v is_bad held)) (covers_behind v.list (of_list v has) ((holds-Decides n d v.list).0 held))
            | inr lacks ↦ subst (λ (x : List Request). AreAmong (links_from nothing x) links) (sym (of_other v is_bad lacks)) (λ a none. absurd (omega (arith, none.1)))
          ]
          | inr good ↦ let ok : IsFair bad votes v = record { there = has; correct = good } in subst (λ (x : List Request). AreAmong (links_from nothing x) links) (sym (own v ok)) (of_log v ok)
        ]

    cert_at : IsWholeCert f bad log links votes t hist
    cert_at =
        let l = least_is n d (lists_of votes) least is_least in
        let s = Contains-map_cases (λ (v : Stated). v.list) votes least l.there in
        let of_least : AreAmong (links_of least) links = subst (λ (x : Trimmed). AreAmong (links_of x) links) s.2 (of_list s.0 s.1) in
        record {
          list = list;
          own = own;
          extract = extracts;
          covered = λ v a has. to_one (list v) links (covered v has) a;
          stands = subst (λ (x : Trimmed). StandsFor x hist) (sym front_is) (up_to least of_least l.held);
          holder = g;
          fair = fair;
          begins = (drop n (log g.by), take-append-drop n (log g.by));
          forgets = omega (arith, ap (λ (x : Trimmed). x.start) front_is, l.least g.list (Contains-map (λ (v : Stated). v.list) votes g fair.there) g_holds);
        }

  -- what the trimmed lists agree on is what whole lists agree on
  pub whole_cert : (t : Trimmed) → IsAgreedList (f + 1) (lists_of votes) t → (h : List Request) × IsWholeCert f bad log links votes t h
  whole_cert t is =
      let n = is.number in
      let d = is.digest in
      let counted = count_more (λ (v : Stated). holds n d v.list) (holds n d) (λ (v : Stated). v.list) votes (λ v _ has. has) in
      let r = one_good (λ (v : Stated). bad v.by) (λ (v : Stated). holds n d v.list) votes (omega (arith, counted, known.few, is.point.held)) in
      let fair : IsFair bad votes r.0 = record { there = r.1; correct = r.2 } in
      (take n (log r.0.by), cert_at t n d is.point is.holder is.least is.front r.0 fair ((holds-Decides n d r.0.list).0 r.3))

-- ---- equal lists

module _ (f : ℕ) (bad : ℕ → Bool) (log : ℕ → List Request) (links : List (List ℕ × Request)) (votes : List Stated)
    (enough : length votes ≡ f + 1) (few : count_by (λ v. bad v.by) votes ≤ f) (known : (v : Stated) → IsFair bad votes v → StandsFor v.list (log v.by)) (told : AreTold links bad log votes) where
  pub equal_cert : (t : Trimmed) → HaveOneEnd votes t → (h : List Request) × IsEqualWhole bad log votes t h
  equal_cert t is =
      let n = is.number in
      let d = is.digest in
      let r = one_good (λ (v : Stated). bad v.by) (λ (v : Stated). true) votes (omega (arith, few, enough, all_pass votes)) in
      let g = r.0 in
      let fair : IsFair bad votes g = record { there = r.1; correct = r.2 } in
      let at_end : (v : Stated) → IsFair bad votes v → (length (log v.by) ≡ n) × (digest_of (log v.by) ≡ d) =
      λ v ok.
      let stands = known v ok in
      let end : length (log v.by) ≡ n = sym (ends v.list (log v.by) stands) ∙ is.ends v ok.there in
      let all : take n (log v.by) ≡ log v.by = take_all n (log v.by) (omega (arith, end)) in
      (end, sym (ap digest_of all) ∙ (sym (digests v.list (log v.by) stands n (omega (arith, end, stands.reaches))) ∙ is.digests v ok.there))
      in
      let of_log : (v : Stated) → IsFair bad votes v → AreAmong (links_from nothing (log v.by)) links = λ v ok. of_one (log v.by) links (λ a. told.logs v a ok) in
      let l = least_is n d (lists_of votes) t is.least in
      let s = Contains-map_cases (λ (v : Stated). v.list) votes t l.there in
      let of_t : AreAmong (links_of t) links = subst (λ (x : Trimmed). AreAmong (links_of x) links) s.2 (λ a has. told.lists s.0 a s.1 has) in
      let t_ends : end_of t ≡ n = ap end_of (sym s.2) ∙ is.ends s.0 s.1 in
      let all : take n (log g.by) ≡ log g.by = take_all n (log g.by) (omega (arith, (at_end g fair).0)) in
      let cut_all : cut n t ≡ t =
      λ i. record { start = t.start; digest = t.digest; rest = take_all (n - t.start) t.rest (let le : length t.rest ≤ n - t.start = omega (arith, t_ends) in le) i }
      in
      let up : StandsFor (cut n t) (take n (log g.by)) =
      agrees links told.apart t (log g.by) n of_t (of_log g fair) (omega (arith, (at_end g fair).0))
      (record { shown = l.held.shown; within = l.held.within; digest = l.held.digest ∙ (sym (at_end g fair).1 ∙ ap digest_of (sym all)) }) in (
        log g.by,
        record {
          equal = λ v ok. same_history links told.apart (log v.by) (log g.by) (of_log v ok) (of_log g fair) ((at_end v ok).1 ∙ sym (at_end g fair).1);
          stands = subst (λ (x : Trimmed). StandsFor x (log g.by)) cut_all (subst (λ (x : List Request). StandsFor (cut n t) x) all up);
          holder = g;
          fair = fair;
          forgets = l.least g.list (Contains-map (λ (v : Stated). v.list) votes g r.1) (record { shown = omega (arith, is.ends g r.1); within = omega (arith, is.ends g r.1); digest = is.digests g r.1 });
        },
      )
    where
      all_pass : (xs : List Stated) → count_by (λ (v : Stated). true) xs ≡ length xs
      all_pass [] = refl
      all_pass (x ∷ xs) = omega (arith, all_pass xs, count_by-yes (λ (v : Stated). true) x xs refl)
