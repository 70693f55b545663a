-- If nothing is forgotten, lists agree by points as they agree by entries.
use Rattle.std.proofs.Common.{◌≡◌, ℕ, ◌-◌, ◌≤◌, true, List, length, map, take, drop, replicate, arith, sym, ap, ◌∙◌, subst}
use Rattle.std.specs.Prelude.{Contains}
use Rattle.std.specs.List.{starts_with}
use Rattle.std.proofs.lemmas.List.{take-append-drop, length-take}
use mathlib.Core.List.{IsPrefix}
use Rattle.ab_num.proofs.Lists.{Contains-map, Contains-map_cases}
use Rattle.ab_hist.specs.declared.request.Request.{Request}
use Rattle.ab_hist.specs.Requests.{request_eq}
use Rattle.ab_hist.specs.Digests.{digest_of, NoCollision}
use Rattle.ab_hist.specs.Trimmed.{Trimmed, untrimmed, digest_at, Holds, holds, cut}
use Rattle.ab_trim.specs.Links.{links_from, links_of_all}
use Rattle.ab_trim.specs.Points.{point_holders, IsLastPoint, IsAgreedList}
use Rattle.ab_trim.proofs.Chains.{nothing, AreAmong, same_history, front_among, histories_apart}
use Rattle.ab_trim.proofs.Stands.{holds-Decides, whole_stands, shows, shown}
use Rattle.ab_trim.proofs.Counts.{count_fewer, count_more, some_passes}
use Rattle.ab_trim.proofs.Agreed.{least_is, least_there}
use Rattle.ab_abs.specs.Extraction.{holders, IsExtract}
use Rattle.ab_abs.proofs.Prefixes.{prefix_is_take, take_is_prefix}
use Rattle.ab_abs.proofs.Extracts.{starts_with-Decides}

module _ (hs : List (List Request)) (none : NoCollision hs) where
  prefix_holds : (l k : List Request) → starts_with request_eq l k ≡ true → holds (length k) (digest_of k) (untrimmed l) ≡ true
  prefix_holds l k starts =
      let p = (starts_with-Decides l k).0 starts in
      let front = prefix_is_take k l p in
      (holds-Decides (length k) (digest_of k) (untrimmed l)).1
      (shows (untrimmed l) l (whole_stands l) (length k) (digest_of k) (omega arith) (omega (arith, ap length front, length-take (length k) l)) (ap digest_of (sym front)))

  holds_prefix : (l k : List Request) → Contains hs l → AreAmong (links_from nothing k) (links_of_all hs) → holds (length k) (digest_of k) (untrimmed l) ≡ true → starts_with request_eq l k ≡ true
  holds_prefix l k has among held =
      let says = shown (untrimmed l) l (whole_stands l) (length k) (digest_of k) ((holds-Decides (length k) (digest_of k) (untrimmed l)).0 held) in
      let front : take (length k) l ≡ k = same_history (links_of_all hs) (histories_apart hs none) (take (length k) l) k
      (front_among hs l (take (length k) l) has (drop (length k) l, take-append-drop (length k) l)) among says.1 in
      (starts_with-Decides l k).1 (take_is_prefix k l (sym front))

  -- a history that begins one of them is held as a front exactly by those that hold it as a point
  pub same_holders : (k l : List Request) → Contains hs l → IsPrefix k l → point_holders (map untrimmed hs) (length k) (digest_of k) ≡ holders hs k
  same_holders k l has p =
      let among = front_among hs l k has p in
      omega (
        arith,
        count_fewer (λ x. starts_with request_eq x k) (holds (length k) (digest_of k)) untrimmed hs (λ x _ starts. prefix_holds x k starts),
        count_more (λ x. starts_with request_eq x k) (holds (length k) (digest_of k)) untrimmed hs (λ x is held. holds_prefix x k is among held),
      )

  -- a point with a holder is that of a front of it
  point_front : (q n : ℕ) (d : List ℕ) → 1 ≤ q → q ≤ point_holders (map untrimmed hs) n d → (l : List Request) × Contains hs l × (n ≤ length l) × (digest_of (take n l) ≡ d)
  point_front q n d some enough =
      let r = some_passes (holds n d) (map untrimmed hs) (omega (arith, some, enough)) in
      let s = Contains-map_cases untrimmed hs r.0 r.1 in
      let held : Holds (untrimmed s.0) n d = subst (λ (t : Trimmed). Holds t n d) (sym s.2) ((holds-Decides n d r.0).0 r.2) in
      let says = shown (untrimmed s.0) s.0 (whole_stands s.0) n d held in
      (s.0, s.1, says.0, says.1)

  front_long : (n : ℕ) (l : List Request) → n ≤ length l → length (take n l) ≡ n
  front_long n l le = omega (arith, length-take n l, le)

  -- the extract is the last point
  pub extract_is_last : (q : ℕ) (k : List Request) → 1 ≤ q → IsExtract q hs k → IsLastPoint q (map untrimmed hs) (length k) (digest_of k)
  extract_is_last q k some is =
      let r = some_passes (λ l. starts_with request_eq l k) hs (omega (arith, some, is.held)) in
      record {
        held = omega (arith, is.held, same_holders k r.0 r.1 ((starts_with-Decides r.0 k).0 r.2));
        last = λ n d enough.
            let s = point_front q n d some enough in
            let h = take n s.0 in
            let long = front_long n s.0 s.2 in
            let same : point_holders (map untrimmed hs) n d ≡ holders hs h = (λ i. point_holders (map untrimmed hs) (sym long i) (sym s.3 i)) ∙ same_holders h s.0 s.1 (drop n s.0, take-append-drop n s.0) in
            omega (arith, long, is.longest h (omega (arith, enough, same)));
      }

  -- and the last point is the extract
  pub last_is_extract : (q n : ℕ) (d : List ℕ) → 1 ≤ q → IsLastPoint q (map untrimmed hs) n d → (k : List Request) × IsExtract q hs k × (length k ≡ n) × (digest_of k ≡ d)
  last_is_extract q n d some is =
      let s = point_front q n d some is.held in
      let h = take n s.0 in
      let long = front_long n s.0 s.2 in
      let same : point_holders (map untrimmed hs) n d ≡ holders hs h = (λ i. point_holders (map untrimmed hs) (sym long i) (sym s.3 i)) ∙ same_holders h s.0 s.1 (drop n s.0, take-append-drop n s.0) in
      let extract : IsExtract q hs h = record {
        held = omega (arith, is.held, same);
        longest = λ k enough.
            let r = some_passes (λ l. starts_with request_eq l k) hs (omega (arith, some, enough)) in
            omega (arith, long, is.last (length k) (digest_of k) (omega (arith, enough, same_holders k r.0 r.1 ((starts_with-Decides r.0 k).0 r.2))));
      } in
      (h, extract, long, s.3)

module _ (q : ℕ) (hs : List (List Request)) (none : NoCollision hs) (some : 1 ≤ q) where
  -- what enough of them begin with begins one of them
  begins : (h : List Request) → IsExtract q hs h → (l : List Request) × Contains hs l × IsPrefix h l
  begins h is =
      let r = some_passes (λ l. starts_with request_eq l h) hs (omega (arith, some, is.held)) in
      (r.0, r.1, (starts_with-Decides r.0 h).0 r.2)

  -- a holder among whole lists, cut at the point, is a whole front
  front_of : (h : List Request) → IsExtract q hs h → (t : Trimmed) → Contains (map untrimmed hs) t → Holds t (length h) (digest_of h) → cut (length h) t ≡ untrimmed h
  front_of h is t there held =
      let s = Contains-map_cases untrimmed hs t there in
      let l = s.0 in
      let on_l : Holds (untrimmed l) (length h) (digest_of h) = subst (λ (u : Trimmed). Holds u (length h) (digest_of h)) (sym s.2) held in
      let says = shown (untrimmed l) l (whole_stands l) (length h) (digest_of h) on_l in
      let b = begins h is in
      let front : take (length h) l ≡ h =
      same_history (links_of_all hs) (histories_apart hs none) (take (length h) l) h
      (front_among hs l (take (length h) l) s.1 (drop (length h) l, take-append-drop (length h) l)) (front_among hs b.0 h b.1 b.2) says.1
      in
      ap (cut (length h)) (sym s.2)
      ∙ λ i. record { start = 0; digest = replicate 32 0; rest = (ap (λ n. take n l) (let e : length h - 0 ≡ length h = omega arith in e) ∙ front) i }

  pub agreed_back : (t : Trimmed) → IsAgreedList q (map untrimmed hs) t → (h : List Request) × (t ≡ untrimmed h) × IsExtract q hs h
  agreed_back t is =
      let r = last_is_extract hs none q is.number is.digest some is.point in
      let h = r.0 in
      let l = least_is is.number is.digest (map untrimmed hs) is.holder is.least in
      let held : Holds is.holder (length h) (digest_of h) = record {
        shown = omega (arith, l.held.shown, r.2);
        within = omega (arith, l.held.within, r.2);
        digest = ap (digest_at is.holder) r.2 ∙ (l.held.digest ∙ sym r.3);
      } in
      (h, is.front ∙ (ap (λ n. cut n is.holder) (sym r.2) ∙ front_of h r.1 is.holder l.there held), r.1)

  pub agreed_there : (h : List Request) → IsExtract q hs h → IsAgreedList q (map untrimmed hs) (untrimmed h)
  agreed_there h is =
      let b = begins h is in
      let front = prefix_is_take h b.0 b.2 in
      let held : Holds (untrimmed b.0) (length h) (digest_of h) =
      shows (untrimmed b.0) b.0 (whole_stands b.0) (length h) (digest_of h) (omega arith) (omega (arith, ap length front, length-take (length h) b.0)) (ap digest_of (sym front))
      in
      let there : Contains (map untrimmed hs) (untrimmed b.0) = Contains-map untrimmed hs b.0 b.1 in
      let l = least_there (length h) (digest_of h) (map untrimmed hs) (untrimmed b.0) there held in
      let is_least = least_is (length h) (digest_of h) (map untrimmed hs) l.0 l.1 in
      record {
        number = length h;
        digest = digest_of h;
        point = extract_is_last hs none q h some is;
        holder = l.0;
        least = l.1;
        front = sym (front_of h is l.0 is_least.there is_least.held);
      }
