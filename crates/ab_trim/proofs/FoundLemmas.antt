-- The last point that enough lists hold, as it is looked for.
use Rattle.std.proofs.Common.{◌≡◌, ℕ, ◌+◌, ◌-◌, ◌<◌, ◌≤◌, Bool, true, false, Option, Some, None, List, length, drop, get_or, slice_get, arith, refl, sym, ap, ◌∙◌, subst, inl, inr}
use Rattle.std.specs.Prelude.{nat_le, if◌then◌else◌, IfSome, IfNone}
use Rattle.std.proofs.lemmas.Bool.{cases_lt, leb-true}
use Rattle.std.specs.Option.{option_map}
use Rattle.std.proofs.lemmas.List.{drop_more}
use Rattle.std.proofs.lemmas.Option.{slice_get_read, slice_get-map, slice_get_within, get_or_from_slice_get}
use Rattle.ab_hist.specs.Trimmed.{Trimmed, end_of, digest_at, Holds, cut}
use Rattle.ab_trim.specs.Points.{point_holders, IsLastPoint, IsAgreedList, IsLastOf, IsWithin, later_of, fewer, least_holder, lists_in}
use Rattle.ab_trim.specs.Logs.{TrimmedLog}
use Rattle.ab_trim.proofs.Agreed.{least_is, least_there}
use Rattle.ab_trim.proofs.There.{holder_of}

-- none of the first k places of t from its end on has a point with q holders
abbrev pub NoneFromEnd : ℕ → List Trimmed → Trimmed → ℕ → Type 0
NoneFromEnd q ts t k = (j : ℕ) → j < k → t.start + j ≤ end_of t → point_holders ts (end_of t - j) (digest_at t (end_of t - j)) < q

-- of the points of the first i lists, o is the last one with q holders
abbrev pub IsLastAmong : ℕ → List Trimmed → ℕ → Option (ℕ × List ℕ) → Type 0
IsLastAmong q ts i None = (j : ℕ) (t : Trimmed) → j < i → slice_get ts j ≡ Some t → (k : ℕ) (e : List ℕ) → Holds t k e → point_holders ts k e < q
IsLastAmong q ts i (Some p) =
    (q ≤ point_holders ts p.0 p.1) × ((j : ℕ) (t : Trimmed) → j < i → slice_get ts j ≡ Some t → (k : ℕ) (e : List ℕ) → Holds t k e → q ≤ point_holders ts k e → k ≤ p.0)

-- ---- the points of one list

module _ (q : ℕ) (ts : List Trimmed) (t : Trimmed) (k : ℕ) (none : NoneFromEnd q ts t k) where
  pub none_there : (m : ℕ) (e : List ℕ) → Holds t m e → end_of t < m + k → point_holders ts m e < q
  none_there m e held low =
      let at : end_of t - (end_of t - m) ≡ m = omega (arith, held.within) in
      let same : digest_at t (end_of t - (end_of t - m)) ≡ e = ap (digest_at t) at ∙ held.digest in
      subst (λ (d : List ℕ). point_holders ts m d < q) same
      (subst (λ (j : ℕ). point_holders ts j (digest_at t (end_of t - (end_of t - m))) < q) at
      (none (end_of t - m) (omega (arith, low, held.within)) (omega (arith, held.shown, held.within))))

  module _ (n got : ℕ) (d : List ℕ) (n_is : n ≡ end_of t) (d_is : d ≡ digest_at t (n - k)) (got_is : got ≡ point_holders ts (n - k) d) where
    pub none_more : got < q → NoneFromEnd q ts t (k + 1)
    none_more few j lt le =
        elim (cases_lt j k) [
          | inl low ↦ none j low le
          | inr high ↦
              let e : n - k ≡ end_of t - j = omega (arith, n_is, lt, high) in
              let same : got ≡ point_holders ts (end_of t - j) (digest_at t (end_of t - j)) = got_is ∙ (λ i. point_holders ts (e i) ((d_is ∙ ap (digest_at t) e) i)) in
              subst (λ (x : ℕ). x < q) same few
        ]

    pub last_found : k < n - t.start + 1 → q ≤ got → IsLastOf q ts t (Some (n - k))
    last_found room enough = (
      (omega (arith, n_is, room), omega (arith, n_is)),
      subst (λ (x : ℕ). q ≤ x) (got_is ∙ ap (point_holders ts (n - k)) d_is) enough,
      λ m e held has.
          elim (cases_lt (n - k) m) [
            | inl above ↦ absurd (omega (arith, has, none_there m e held (omega (arith, above, n_is, room))))
            | inr below ↦ below
          ],
    )

-- ---- the points of all lists

later_by : (q : ℕ) (ts : List Trimmed) (i : ℕ) (t : Trimmed) (p : ℕ × List ℕ) (m : ℕ) (b : Bool) → nat_le m p.0 ≡ b → slice_get ts i ≡ Some t → IsLastAmong q ts i (Some p) → IsLastOf q ts t (Some m)
    → IsLastAmong q ts (i + 1) (if b then Some p else Some (m, digest_at t m))
later_by q ts i t p m true b_is at was is = (
  was.0,
  λ j u lt at' k e held enough.
      elim (cases_lt j i) [
        | inl low ↦ was.1 j u low at' k e held enough
        | inr high ↦
            let j_is : j ≡ i = omega (arith, lt, high) in
            let both : Some u ≡ Some t = sym at' ∙ (ap (slice_get ts) j_is ∙ at) in
            let same : u ≡ t = cc (both) in
            let below : m ≤ p.0 = leb-true m p.0 b_is in
            omega (arith, below, is.2 k e (subst (λ (x : Trimmed). Holds x k e) same held) enough)
      ],
)
later_by q ts i t p m false b_is at was is = (
  is.1,
  λ j u lt at' k e held enough.
      elim (cases_lt j i) [
        | inl low ↦ let above : p.0 < m = leb-false m p.0 b_is in omega (arith, above, was.1 j u low at' k e held enough)
        | inr high ↦
            let j_is : j ≡ i = omega (arith, lt, high) in
            let both : Some u ≡ Some t = sym at' ∙ (ap (slice_get ts) j_is ∙ at) in
            let same : u ≡ t = cc (both) in
            is.2 k e (subst (λ (x : Trimmed). Holds x k e) same held) enough
      ],
)
  where
    leb-false : (a b : ℕ) → nat_le a b ≡ false → b < a
    leb-false a b is = grind (arith, is)

pub last_more : (q : ℕ) (ts : List Trimmed) (i : ℕ) (t : Trimmed) (best : Option (ℕ × List ℕ)) (n : Option ℕ) → slice_get ts i ≡ Some t → IsLastAmong q ts i best → IsLastOf q ts t n
    → IsLastAmong q ts (i + 1) (later_of best t n)
last_more q ts i t None None at was is = λ j u lt at' k e held.
    elim (cases_lt j i) [
      | inl low ↦ was j u low at' k e held
      | inr high ↦
          let j_is : j ≡ i = omega (arith, lt, high) in
          let both : Some u ≡ Some t = sym at' ∙ (ap (slice_get ts) j_is ∙ at) in
          let same : u ≡ t = cc (both) in
          is k e (subst (λ (x : Trimmed). Holds x k e) same held)
    ]
last_more q ts i t (Some p) None at was is = (
  was.0,
  λ j u lt at' k e held enough.
      elim (cases_lt j i) [
        | inl low ↦ was.1 j u low at' k e held enough
        | inr high ↦
            let j_is : j ≡ i = omega (arith, lt, high) in
            let both : Some u ≡ Some t = sym at' ∙ (ap (slice_get ts) j_is ∙ at) in
            let same : u ≡ t = cc (both) in
            absurd (omega (arith, enough, is k e (subst (λ (x : Trimmed). Holds x k e) same held)))
      ],
)
last_more q ts i t None (Some m) at was is = (
  is.1,
  λ j u lt at' k e held enough.
      elim (cases_lt j i) [
        | inl low ↦ absurd (omega (arith, enough, was j u low at' k e held))
        | inr high ↦
            let j_is : j ≡ i = omega (arith, lt, high) in
            let both : Some u ≡ Some t = sym at' ∙ (ap (slice_get ts) j_is ∙ at) in
            let same : u ≡ t = cc (both) in
            is.2 k e (subst (λ (x : Trimmed). Holds x k e) same held) enough
      ],
)
last_more q ts i t (Some p) (Some m) at was is = later_by q ts i t p m (nat_le m p.0) refl at was is

pub within_last : (q : ℕ) (ts : List Trimmed) (t : Trimmed) (n : Option ℕ) → IsLastOf q ts t n → IfSome n (λ k. IsWithin t k)
within_last q ts t None is = tt
within_last q ts t (Some n) is = is.0

module _ (q : ℕ) (ts : List Trimmed) (i : ℕ) (some : 1 ≤ q) (all : length ts ≤ i) where
  pub last_is : (best : Option (ℕ × List ℕ)) → IsLastAmong q ts i best → IfSome best (λ p. IsLastPoint q ts p.0 p.1)
  last_is None is = tt
  last_is (Some p) is = record {
    held = is.0;
    last = λ k e enough. let h = holder_of q ts some k e enough in is.1 h.1.0 h.0 (omega (arith, all, h.1.1)) (slice_get_read ts (length ts) h.1.0 h.0 refl h.1.1 (sym h.1.2)) k e h.2 enough;
  }

  pub none_is : (best : Option (ℕ × List ℕ)) → IsLastAmong q ts i best → IfNone best ((n : ℕ) (d : List ℕ) → point_holders ts n d < q)
  none_is None is = λ n d.
      elim (cases_lt (point_holders ts n d) q) [
        | inl few ↦ few
        | inr enough ↦ let h = holder_of q ts some n d enough in is h.1.0 h.0 (omega (arith, all, h.1.1)) (slice_get_read ts (length ts) h.1.0 h.0 refl h.1.1 (sym h.1.2)) n d h.2
      ]
  none_is (Some p) is = tt

-- ---- the holder that has forgotten the least

pub least_more : (n : ℕ) (d : List ℕ) (logs : List TrimmedLog) (k i : ℕ) (x : TrimmedLog) → k < length logs → i ≡ length logs - (k + 1) → x ≡ get_or logs i x
    → fewer n d x.list (least_holder n d (drop (length logs - k) (lists_in logs))) ≡ least_holder n d (drop (length logs - (k + 1)) (lists_in logs))
least_more n d logs k i x lt i_is at =
    let ts = lists_in logs in
    let j = length logs - (k + 1) in
    let next : length logs - k ≡ j + 1 = omega (arith, lt) in
    let low : j < length logs = omega (arith, lt) in
    let here : slice_get ts j ≡ Some x.list =
    slice_get-map (λ l. l.list) logs j ∙ ap (option_map (λ l. l.list)) (slice_get_read logs (length logs) j x refl low (at ∙ ap (λ m. get_or logs m x) i_is))
    in
    ap (λ m. fewer n d x.list (least_holder n d (drop m ts))) next ∙ ap (λ (t : Trimmed). fewer n d t (least_holder n d (drop (j + 1) ts))) (sym (get_or_from_slice_get ts j x.list x.list here))
    ∙ sym (ap (least_holder n d) (drop_more ts j x.list (slice_get_within ts j x.list here)))

module _ (q : ℕ) (logs : List TrimmedLog) (n : ℕ) (d : List ℕ) (is : IsLastPoint q (lists_in logs) n d) where
  -- a point that some list holds has a least holder
  pub some_least : 1 ≤ q → least_holder n d (lists_in logs) ≡ None → ⊥
  some_least some none =
      let h = holder_of q (lists_in logs) some n d is.held in
      let least = least_there n d (lists_in logs) h.0 h.1 h.2 in
      let two : None ≡ Some least.0 = sym none ∙ least.1 in
      cc (two)

  -- that holder up to the point is the list
  pub front_agreed : (t h : Trimmed) → Some t ≡ least_holder n d (lists_in logs) → h ≡ cut n t → IsAgreedList q (lists_in logs) h
  front_agreed t h least front = record { number = n; digest = d; point = is; holder = t; least = sym least; front = front }

pub holder_within : (n : ℕ) (d : List ℕ) (ts : List Trimmed) (t : Trimmed) → Some t ≡ least_holder n d ts → IsWithin t n
holder_within n d ts t least = let held = (least_is n d ts t (sym least)).held in (held.shown, held.within)
