-- What a certificate brings to a replica if lists in it forgot their first entries.
use Rattle.std.proofs.Common.{◌≡◌, ℕ, ◌+◌, ◌-◌, ◌*◌, ◌<◌, ◌≤◌, Bool, true, false, Option, None, Some, List, [], ◌∷◌, ◌++◌, ◌⊎◌, length, map, take, drop, append_assoc, arith, refl, sym, ap, ◌∙◌, subst, inl, inr, length-append}
use Rattle.std.specs.Prelude.{All, Contains, nat_eq, ◌==◌, ◌&&◌, nat_lt, if◌then◌else◌}
use Rattle.std.specs.List.{IsDistinct, list_all, starts_with}
use Rattle.std.proofs.lemmas.Bool.{cases_lt, cases_Bool, and_parts, eqb-true}
use Rattle.std.proofs.lemmas.List.{take-append-drop, take-take, take_at, take_all, length-map, length-take, length-drop, append-nil}
use Rattle.std.proofs.lemmas.List.Quantifiers.{all_pairs_push}
use mathlib.Core.List.{IsPrefix}
use base.Growing.{prefix_refl}
use Rattle.ab_num.proofs.Lists.{Contains-map}
use Rattle.ab_hist.specs.declared.request.Request.{Request}
use Rattle.ab_hist.specs.Requests.{request_eq}
use Rattle.ab_hist.specs.Digests.{NoCollision, digest_of}
use Rattle.ab_hist.specs.Histories.{IsHistory, Precedes, may_follow}
use Rattle.ab_hist.specs.Trimmed.{Trimmed, untrimmed, trim, end_of, linked_from, digest_at, Holds, holds, forget, grounded}
use Rattle.ab_trim.specs.Points.{IsLastPoint, IsAgreedList}
use Rattle.ab_trim.proofs.Chains.{digest-append, linked-append}
use Rattle.ab_trim.proofs.Stands.{holds-Decides, shows, shown, trims, whole_stands}
use Rattle.ab_trim.proofs.Counts.{count_fewer, count_more, one_good}
use Rattle.ab_trim.proofs.Agreed.{one_point, least_is}
use Rattle.ab_trim.proofs.RestLemmas.{all_follow-Decides}
use Rattle.ab_abs.specs.Acts.{Setting}
use Rattle.ab_abs.specs.Certificates.{are_apart}
use Rattle.ab_abs.specs.Extraction.{IsExtract}
use Rattle.ab_abs.specs.Rules.{IsValidCert}
use Rattle.ab_abs.proofs.Certified.{apart_distinct}
use Rattle.ab_abs.proofs.Extracts.{starts_with-Decides}
use Rattle.ab_abs.proofs.Prefixes.{prefix_length, prefix_is_take, take_is_prefix, take_begins}
use Rattle.ab_stable.specs.AgreedLists.{agreed_list}
use Rattle.ab_stable.specs.Certs.{Stated, lists_of, IsFair, AreKnown}
use Rattle.ab_stable.specs.CertActs.{MeetsForgetting, faulty_in, whole_claims}
use Rattle.ab_stable.specs.Offers.{Based, are_enough, rises_behind, known_by, based_on_list, based_on_whole, whole_log}
use Rattle.ab_stable.proofs.FoundLists.{found_agrees}
use Rattle.ab_stable.proofs.WholeCerts.{behind_fronts}
use Rattle.ab_stable.proofs.CertActs.{few_faulty, valid_by}

-- ---- the point

pub ends_at_point : (q : ℕ) (ts : List Trimmed) (t : Trimmed) → IsAgreedList q ts t → IsLastPoint q ts (end_of t) (digest_at t (end_of t))
ends_at_point q ts t is =
    let n = is.number in
    let u = is.holder in
    let held = (least_is n is.digest ts u is.least).held in
    let number : end_of t ≡ n = ap end_of is.front ∙ (let e : u.start + length (take (n - u.start) u.rest) ≡ n = omega (arith, length-take (n - u.start) u.rest, held.shown, held.within) in e) in
    let digest : digest_at t (end_of t) ≡ is.digest =
    (λ i. digest_at (is.front i) (number i)) ∙ (ap (linked_from u.digest) (take-take (n - u.start) (n - u.start) u.rest (omega arith)) ∙ held.digest)
    in
    subst (λ (p : ℕ × List ℕ). IsLastPoint q ts p.0 p.1) (λ i. (sym number i, sym digest i)) is.point

-- ---- the certificate

empty_begins : (h l : List Request) → length h ≤ 0 → IsPrefix h l
empty_begins [] l le = (l, refl)
empty_begins (m ∷ h) l le = absurd (omega (arith, le))

module _ (x : Setting) (log : ℕ → List Request) (votes : List Stated) (h : List Request) (hs : List (List Request))
    (enough : are_enough x.cluster.f votes ≡ true) (point : IsLastPoint (x.cluster.f + 1) (lists_of votes) (length h) (digest_of h))
    (meets : MeetsForgetting x log votes) (apart : NoCollision hs) (has_h : Contains hs h)
    (logs : (v : Stated) → IsFair (faulty_in x) votes v → (log v.by ≡ []) ⊎ Contains hs (log v.by)) where
  abbrev list : Stated → List Request
  list v = whole_log (faulty_in x) log h v

  both : ((length votes == (2 * x.cluster.f + 1)) ≡ true) × (are_apart (map (λ (v : Stated). v.by) votes) ≡ true)
  both = and_parts (length votes == (2 * x.cluster.f + 1)) (are_apart (map (λ (v : Stated). v.by) votes)) enough

  many : length votes ≡ 2 * x.cluster.f + 1
  many = eqb-true (length votes) (2 * x.cluster.f + 1) both.0

  each_once : IsDistinct nat_eq (map (λ (v : Stated). v.by) votes)
  each_once = apart_distinct (map (λ (v : Stated). v.by) votes) both.1

  known : AreKnown x.cluster.f (faulty_in x) log votes
  known = record { few = few_faulty x votes each_once meets.few; stands = meets.stands; common = meets.common }

  -- a correct voter whose list holds the point has the history
  begins : (v : Stated) → IsFair (faulty_in x) votes v → Holds v.list (length h) (digest_of h) → IsPrefix h (log v.by)
  begins v fair held =
      let says = shown v.list (log v.by) (meets.stands v fair) (length h) (digest_of h) held in
      elim (logs v fair) [
        | inl none ↦ empty_begins h (log v.by) (omega (arith, says.0, ap length none))
        | inr there ↦ take_is_prefix h (log v.by) (sym (apart (log v.by) h (take (length h) (log v.by)) h there has_h (take_begins (length h) (log v.by)) (prefix_refl h) says.1))
      ]

  own : (v : Stated) → faulty_in x v.by ≡ false → list v ≡ log v.by
  own v good = ap (λ b. if b then (if holds (length h) (digest_of h) v.list then h else []) else log v.by) good

  lent : (v : Stated) (b : Bool) → faulty_in x v.by ≡ true → holds (length h) (digest_of h) v.list ≡ b → list v ≡ (if b then h else [])
  lent v b is_bad test =
      ap (λ c. if c then (if holds (length h) (digest_of h) v.list then h else []) else log v.by) is_bad
      ∙ ap (λ c. if c then h else []) test

  starts : (v : Stated) → Contains votes v → holds (length h) (digest_of h) v.list ≡ true → starts_with request_eq (list v) h ≡ true
  starts v has held =
      (starts_with-Decides (list v) h).1
      (elim (cases_Bool (faulty_in x v.by)) [
        | inl is_bad ↦ subst (λ (l : List Request). IsPrefix h l) (sym (lent v true is_bad held)) (prefix_refl h)
        | inr good ↦ subst (λ (l : List Request). IsPrefix h l) (sym (own v good)) (begins v (record { there = has; correct = good }) ((holds-Decides (length h) (digest_of h) v.list).0 held))
      ])

  short : (v : Stated) → faulty_in x v.by ≡ true → length (list v) ≤ length h
  short v is_bad =
      elim (cases_Bool (holds (length h) (digest_of h) v.list)) [
        | inl held ↦ omega (arith, ap length (lent v true is_bad held))
        | inr lacks ↦ omega (arith, ap length (lent v false is_bad lacks))
      ]

  -- who has more than the history shows the point of that
  holds_more : (k : List Request) → length h < length k → (v : Stated) → Contains votes v → starts_with request_eq (list v) k ≡ true → holds (length k) (digest_of k) v.list ≡ true
  holds_more k more v has starts' =
      let p = (starts_with-Decides (list v) k).0 starts' in
      elim (cases_Bool (faulty_in x v.by)) [
        | inl is_bad ↦ absurd (omega (arith, more, prefix_length k (list v) p, short v is_bad))
        | inr good ↦
            let fair : IsFair (faulty_in x) votes v = record { there = has; correct = good } in
            let q : IsPrefix k (log v.by) = subst (λ (l : List Request). IsPrefix k l) (own v good) p in
            let low = behind_fronts x.cluster.f (faulty_in x) log votes many known (length h) (digest_of h) point v fair in
            (holds-Decides (length k) (digest_of k) v.list).1
            (shows v.list (log v.by) (meets.stands v fair) (length k) (digest_of k) (omega (arith, low, more)) (prefix_length k (log v.by) q) (ap digest_of (sym (prefix_is_take k (log v.by) q))))
      ]

  extracts : IsExtract (x.cluster.f + 1) (map list votes) h
  extracts = record {
    held =
        let one = count_more (λ (v : Stated). holds (length h) (digest_of h) v.list) (holds (length h) (digest_of h)) (λ (v : Stated). v.list) votes (λ v _ has. has) in
        let two = count_fewer (λ (v : Stated). holds (length h) (digest_of h) v.list) (λ l. starts_with request_eq l h) list votes starts in
        omega (arith, one, two, point.held);
    longest = λ k enough'.
        elim (cases_lt (length h) (length k)) [
          | inr below ↦ below
          | inl above ↦
              let one = count_more (λ (v : Stated). holds (length k) (digest_of k) v.list) (λ l. starts_with request_eq l k) list votes (holds_more k above) in
              let two = count_fewer (λ (v : Stated). holds (length k) (digest_of k) v.list) (holds (length k) (digest_of k)) (λ (v : Stated). v.list) votes (λ v _ has. has) in
              absurd (omega (arith, above, point.last (length k) (digest_of k) (omega (arith, one, two, enough'))))
        ];
  }

  pub valid : All (λ v. v.by < 3 * x.cluster.f + 1) votes → IsValidCert x (whole_claims x list votes) h
  valid within = valid_by x votes each_once list h many within extracts

  pub held_by_one : (t : Trimmed) → agreed_list (x.cluster.f + 1) (lists_of votes) ≡ Some t → (v : Stated) × IsFair (faulty_in x) votes v × IsPrefix h (log v.by) × (t.start ≤ v.list.start)
  held_by_one t found =
      let is = found_agrees (x.cluster.f + 1) (lists_of votes) (omega arith) t found in
      let n = is.number in
      let d = is.digest in
      let same = one_point (x.cluster.f + 1) (lists_of votes) n (length h) d (digest_of h) (omega (arith, many, length-map votes (λ (v : Stated). v.list))) is.point point in
      let counted = count_more (λ (v : Stated). holds n d v.list) (holds n d) (λ (v : Stated). v.list) votes (λ v _ has. has) in
      let r = one_good (λ (v : Stated). faulty_in x v.by) (λ (v : Stated). holds n d v.list) votes (omega (arith, counted, known.few, is.point.held)) in
      let fair : IsFair (faulty_in x) votes r.0 = record { there = r.1; correct = r.2 } in
      let held = (holds-Decides n d r.0.list).0 r.3 in
      let least = (least_is n d (lists_of votes) is.holder is.least).least r.0.list (Contains-map (λ (v : Stated). v.list) votes r.0 r.1) held in
      let here : Holds r.0.list (length h) (digest_of h) = subst (λ (p : ℕ × List ℕ). Holds r.0.list p.0 p.1) (λ i. (same.0 i, same.1 i)) held in
      (r.0, fair, begins r.0 fair here, (omega (arith, least, ap (λ (u : Trimmed). u.start) is.front)))

-- ---- the base

-- all that a list has comes to the digest at its end
whole_digest : (t : Trimmed) → digest_at t (end_of t) ≡ linked_from t.digest t.rest
whole_digest t = ap (linked_from t.digest) (take_all (end_of t - t.start) t.rest (let le : length t.rest ≤ end_of t - t.start = omega arith in le))

no_entries_rise : IsHistory []
no_entries_rise i j d less in_h = absurd (omega arith)

-- a history whose requests rise behind it is one with them
pub rising_history : (h more : List Request) → rises_behind h more ≡ true → IsHistory h → IsHistory (h ++ more)
rising_history h [] rises was = subst IsHistory (sym (append-nil h)) was
rising_history h (m ∷ more) rises was =
    let parts = and_parts (list_all (may_follow m) h) (rises_behind (h ++ m ∷ []) more) rises in
    subst IsHistory (append_assoc h (m ∷ []) more) (rising_history (h ++ m ∷ []) more parts.1 (all_pairs_push Precedes h m was ((all_follow-Decides m h).0 parts.0)))

-- b is the list u behind what the own log has of it
record IsBehind (own : List Request) (u : Trimmed) (b : Based) : Type 0 where
  base : b.base ≡ take u.start own ++ u.rest
  trimmed : b.trimmed ≡ u.start
  rises : IsHistory b.base

known_is : (own : List Request) (u : Trimmed) (b : Based) (p : Bool) → rises_behind [] (take u.start own ++ u.rest) ≡ p → (if p then Some (record { base = take u.start own ++ u.rest; trimmed = u.start }) else None) ≡ Some b → IsBehind own u b
known_is own u b false test is = absurd (cc (is))
known_is own u b true test is =
    let made : Based = record { base = take u.start own ++ u.rest; trimmed = u.start } in
    let same : made ≡ b = cc (is) in
    subst (λ (c : Based). IsBehind own u c) same (record { base = refl; trimmed = refl; rises = rising_history [] made.base test no_entries_rise })

module _ (k : ℕ) (own : List Request) (t : Trimmed) (le : k ≤ length own) where
  -- u is t where the own log shows what it has forgotten
  record IsGround (u : Trimmed) : Type 0 where
    first : k ≤ u.start
    within : u.start ≤ length own
    one_of : (u.start ≡ k) ⊎ (u.start ≡ t.start)
    end : end_of u ≡ end_of t
    digest : linked_from u.digest u.rest ≡ linked_from t.digest t.rest
    front : digest_of (take u.start own) ≡ u.digest

  ground_if : (p q : Bool) (u : Trimmed) → holds t.start t.digest (trim k own) ≡ p → (nat_lt t.start k && holds k (digest_of (take k own)) t) ≡ q
      → (if p then Some t else if q then Some (forget k t) else None) ≡ Some u → IsGround u
  ground_if true q u p_is q_is is =
      let e : t ≡ u = cc (is) in
      let there = (holds-Decides t.start t.digest (trim k own)).0 p_is in
      let says = shown (trim k own) own (trims k own le) t.start t.digest there in
      subst (λ (v : Trimmed). IsGround v) e (record { first = there.shown; within = says.0; one_of = inr refl; end = refl; digest = refl; front = says.1 })
  ground_if false true u p_is q_is is =
      let e : forget k t ≡ u = cc (is) in
      let parts = and_parts (nat_lt t.start k) (holds k (digest_of (take k own)) t) q_is in
      let there = (holds-Decides k (digest_of (take k own)) t).0 parts.1 in
      subst (λ (v : Trimmed). IsGround v) e (record {
        first = omega arith;
        within = le;
        one_of = inl refl;
        end = let same : k + length (drop (k - t.start) t.rest) ≡ t.start + length t.rest = omega (arith, length-drop (k - t.start) t.rest, there.shown, there.within) in same;
        digest = sym (linked-append t.digest (take (k - t.start) t.rest) (drop (k - t.start) t.rest)) ∙ ap (linked_from t.digest) (take-append-drop (k - t.start) t.rest);
        front = sym there.digest;
      })
  ground_if false false u p_is q_is is = absurd (cc (is))

  -- what the base is
  abbrev pub IsBase : Based → Type 0
  IsBase b =
      (length b.base ≡ end_of t) × (digest_of b.base ≡ digest_at t (end_of t)) × (k ≤ b.trimmed) × (b.trimmed ≤ length b.base) × ((b.trimmed ≡ k) ⊎ (b.trimmed ≡ t.start)) × (b.trimmed ≤ length own) × (take b.trimmed b.base ≡ take b.trimmed own) × IsHistory b.base

  base_of : (u : Trimmed) (b : Based) → IsGround u → IsBehind own u b → IsBase b
  base_of u b ground is =
      let front = take u.start own in
      let long : length front ≡ u.start = omega (arith, length-take u.start own, ground.within) in
      let whole : length b.base ≡ u.start + length u.rest = ap length is.base ∙ (let e : length (front ++ u.rest) ≡ u.start + length u.rest = omega (arith, length-append front u.rest, long) in e) in
      let digest : digest_of b.base ≡ digest_at t (end_of t) =
      ap digest_of is.base ∙ (digest-append front u.rest ∙ (ap (λ (d : List ℕ). linked_from d u.rest) ground.front ∙ (ground.digest ∙ sym (whole_digest t))))
      in
      let shown' : take b.trimmed b.base ≡ take b.trimmed own =
      (λ i. take (is.trimmed i) (is.base i)) ∙ (take_at front u.rest u.start long ∙ ap (λ n. take n own) (sym is.trimmed))
      in (
        whole ∙ ground.end,
        digest,
        omega (arith, is.trimmed, ground.first),
        omega (arith, is.trimmed, whole),
        subst (λ (n : ℕ). (n ≡ k) ⊎ (n ≡ t.start)) (sym is.trimmed) ground.one_of,
        omega (arith, is.trimmed, ground.within),
        shown',
        is.rises,
      )

  by_ground : (b : Based) (o : Option Trimmed) → grounded (trim k own) t ≡ o → known_by own o ≡ Some b → IsBase b
  by_ground b None found is = absurd (cc (is))
  by_ground b (Some u) found is =
      let ground = ground_if (holds t.start t.digest (trim k own)) (nat_lt t.start k && holds k (digest_of (take k own)) t) u refl refl found in
      base_of u b ground (known_is own u b (rises_behind [] (take u.start own ++ u.rest)) refl is)

  pub base_from_list : (b : Based) → based_on_list k own (Some t) ≡ Some b → IsBase b
  base_from_list b is = by_ground b (grounded (trim k own) t) refl is

-- ---- a whole history

module _ (k : ℕ) (own h : List Request) where
  abbrev pub IsWholeBase : Based → Type 0
  IsWholeBase b = (b.base ≡ h) × (b.trimmed ≡ k) × (k ≤ length h) × (digest_of (take k h) ≡ digest_of (take k own))

  whole_if : (b : Based) (p : Bool) → holds k (digest_of (take k own)) (untrimmed h) ≡ p → (if p then Some (record { base = h; trimmed = k }) else None) ≡ Some b → IsWholeBase b
  whole_if b true test is =
      let made : Based = record { base = h; trimmed = k } in
      let same : made ≡ b = cc (is) in
      let says = shown (untrimmed h) h (whole_stands h) k (digest_of (take k own)) ((holds-Decides k (digest_of (take k own)) (untrimmed h)).0 test) in
      subst (λ (c : Based). IsWholeBase c) same (refl, refl, says.0, says.1)
  whole_if b false test is = absurd (cc (is))

  pub base_from_whole : (b : Based) → based_on_whole k own (Some h) ≡ Some b → IsWholeBase b
  base_from_whole b is = whole_if b (holds k (digest_of (take k own)) (untrimmed h)) refl is

pub base_untrimmed : (own h : List Request) → based_on_whole 0 own (Some h) ≡ Some (record { base = h; trimmed = 0 })
base_untrimmed own h =
    let there = shows (untrimmed h) h (whole_stands h) 0 (digest_of (take 0 own)) (omega arith) (omega arith) refl in
    ap (λ p. if p then Some (record { base = h; trimmed = 0 }) else None) ((holds-Decides 0 (digest_of (take 0 own)) (untrimmed h)).1 there)
