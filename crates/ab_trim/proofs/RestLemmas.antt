-- Entries in two parts, of which the second goes on where the first ends.
use Rattle.std.proofs.Common.{◌≡◌, ℕ, ◌+◌, ◌-◌, ◌<◌, ◌≤◌, true, Option, Some, None, Ok, Err, IfSome, IfNone, OnOk, OnErr, List, [], ◌∷◌, ◌++◌, Contains, length, take, drop, get_or, slice_get, append_assoc, arith, sym, ◌∙◌, ap, refl, subst, length-append}
use Rattle.std.specs.Prelude.{Result, Decides}
use Rattle.std.specs.List.{list_all}
use Rattle.std.proofs.Math.Seq.{take-append-add}
use Rattle.std.proofs.lemmas.Bool.Decides.{Decides-by_and, nat_tests}
use Rattle.std.proofs.lemmas.List.{get_or-take, length-take, length-drop, take_more, drop-drop, drop_at, drop-append-le, take-append-drop, get_or_append_left, get_or-append-add}
use Rattle.std.proofs.lemmas.List.Quantifiers.{all_pairs_push}
use Rattle.std.proofs.lemmas.Option.{slice_get_within, get_or_from_slice_get}
use Rattle.ab_hist.specs.declared.request.Request.{Request}
use Rattle.ab_hist.specs.Histories.{IsHistory, IsNext, Precedes, may_follow, place_in}
use Rattle.ab_hist.specs.Chunks.{Chunk, front, grown, digest_from}
use Rattle.ab_hist.proofs.RequestLemmas.{place_in-at, place_in-none}
use Rattle.ab_hist.proofs.KeptLemmas.{history-take, slice_get-append-lt, slice_get-take}
use Rattle.ab_trim.specs.Chained.{AreJoined, behind}
use Rattle.ab_trim.proofs.ChunkLemmas.{digest_on, history_drop, none_more, slice_get-add}

module _ (xs ys : List Request) (f : ℕ) (long : f ≡ length xs) where
  pub front_past : (n : ℕ) → f ≤ n → take n (xs ++ ys) ≡ xs ++ take (n - f) ys
  front_past n le = ap (λ k. take k (xs ++ ys)) (let e : n ≡ length xs + (n - f) = omega (arith, long, le) in e) ∙ take-append-add xs ys (n - f)

  pub drop_past : (n : ℕ) → f ≤ n → drop n (xs ++ ys) ≡ drop (n - f) ys
  drop_past n le =
      ap (λ k. drop k (xs ++ ys)) (let e : n ≡ length xs + (n - f) = omega (arith, long, le) in e)
      ∙ sym (drop-drop (n - f) (length xs) (xs ++ ys)) ∙ ap (drop (n - f)) (drop_at xs ys (length xs) refl)

  pub digest_past : (d e : List ℕ) (n : ℕ) → e ≡ digest_from d xs → f ≤ n → digest_from e (take (n - f) ys) ≡ digest_from d (take n (xs ++ ys))
  digest_past d e n is le =
      ap (λ k. digest_from k (take (n - f) ys)) is ∙ sym (digest_on d xs (take (n - f) ys)) ∙ ap (digest_from d) (sym (front_past n le))

  pub place_past : (m : Request) (p : ℕ) → IsHistory (xs ++ ys) → (1 ≤ p) × (slice_get ys (p - 1) ≡ Some m) → Some (f + p) ≡ place_in (xs ++ ys) m
  place_past m p history found =
      sym (place_in-at (xs ++ ys) m (length xs + (p - 1)) history (slice_get-add xs ys (p - 1) ∙ found.1)
      ∙ ap Some (let e : length xs + (p - 1) + 1 ≡ f + p = omega (arith, long, found.0) in e))

pub place_first : (xs ys : List Request) (m : Request) (o : Option ℕ) → IsHistory (xs ++ ys) → IfSome o (λ n. (1 ≤ n) × (slice_get xs (n - 1) ≡ Some m)) → IfNone o (Contains xs m → ⊥) → (Contains ys m → ⊥)
    → o ≡ place_in (xs ++ ys) m
place_first xs ys m None history found none more = sym (place_in-none (xs ++ ys) m (none_more xs ys m none more))
place_first xs ys m (Some n) history found none more =
    sym (place_in-at (xs ++ ys) m (n - 1) history (slice_get-append-lt xs ys (n - 1) (slice_get_within xs (n - 1) m found.1) ∙ found.1)
    ∙ ap Some (let e : n - 1 + 1 ≡ n = omega (arith, found.0) in e))

pub place_few : (xs : List Request) (m : Request) (o : Option ℕ) → length xs ≤ 1024 → IfSome o (λ n. (1 ≤ n) × (slice_get xs (n - 1) ≡ Some m)) → IfSome o (λ n. n ≤ 1024)
place_few xs m None few found = tt
place_few xs m (Some n) few found = omega (arith, slice_get_within xs (n - 1) m found.1, found.0, few)

-- the request at place k + 1 comes behind the first k
pub place_more : (h : List Request) (k : ℕ) (m : Request) → slice_get h (k + 1 - 1) ≡ Some m → (k < length h) × (take (k + 1) h ≡ take k h ++ m ∷ [])
place_more h k m at =
    let here : slice_get h k ≡ Some m = ap (slice_get h) (let e : k ≡ k + 1 - 1 = omega arith in e) ∙ at in
    let within = slice_get_within h k m here in
    (within, take_more h k m within ∙ ap (λ d. take k h ++ d ∷ []) (get_or_from_slice_get h k m m here))

-- and may come next there
pub next_there : (h : List Request) (k : ℕ) (m : Request) → IsHistory h → slice_get h (k + 1 - 1) ≡ Some m → IsNext (take k h) m
next_there h k m history at i d short =
    let here : slice_get h k ≡ Some m = ap (slice_get h) (let e : k ≡ k + 1 - 1 = omega arith in e) ∙ at in
    let low : i < k = omega (arith, short, length-take k h) in
    let first : get_or (take k h) i d ≡ get_or h i d = get_or-take k h i d low in
    let second : m ≡ get_or h k d = sym (get_or_from_slice_get h k m d here) in
    let pair : Precedes (get_or h i d) (get_or h k d) = history i k d low (slice_get_within h k m here) in
    rw (first, second) pair

-- what stands at one place in a list and in one that begins with it
pub same_there : (xs ys : List Request) (k : ℕ) (x y : Request) → slice_get xs (k + 1 - 1) ≡ Some x → slice_get ys (k + 1 - 1) ≡ Some y → take (length xs) ys ≡ xs → x ≡ y
same_there xs ys k x y at there front =
    let both : Some x ≡ Some y =
    sym at ∙ ap (λ l. slice_get l (k + 1 - 1)) (sym front) ∙ slice_get-take (length xs) ys (k + 1 - 1) (slice_get_within xs (k + 1 - 1) x at) ∙ there in
    cc (both)

-- ---- what may come next

pub next_left : (xs ys : List Request) (m : Request) → IsNext (xs ++ ys) m → IsNext xs m
next_left xs ys m next k d lt = subst (λ x. Precedes x m) (get_or_append_left xs ys d k lt) (next k d (omega (arith, lt, length-append xs ys)))

pub next_right : (xs ys : List Request) (m : Request) → IsNext (xs ++ ys) m → IsNext ys m
next_right xs ys m next k d lt = subst (λ x. Precedes x m) (get_or-append-add xs ys k d) (next (length xs + k) d (omega (arith, lt, length-append xs ys)))

follows_says : (m e : Request) → may_follow m e ≡ true → Precedes e m
follows_says m e h same_client = grind (arith, nat_tests)

follows_if : (m e : Request) → Precedes e m → may_follow m e ≡ true
follows_if m e h = grind (arith, nat_tests)

pub all_follow-Decides : (m : Request) (h : List Request) → Decides (list_all (may_follow m) h) (IsNext h m)
all_follow-Decides m h = Decides-by_and (may_follow m) (λ e. Precedes e m) (list_all (may_follow m)) (λ e. (follows_says m e, follows_if m e)) refl (λ _ _. refl) h

-- ---- two parts that change

module _ (a b : Chunk) (is : AreJoined a b) where
  pub cut_joined : (f n : ℕ) → f ≡ length a.requests → f ≤ n → AreJoined a (front (n - f) b)
  cut_joined f n long le = record {
    joined = is.joined;
    history = subst IsHistory (front_past a.requests b.requests f long n le) (history-take (a.requests ++ b.requests) n is.history);
    few = omega (arith, is.few, length-take (n - f) b.requests);
  }

  pub forgot_joined : (n : ℕ) → n ≤ length a.requests → AreJoined (behind n a) b
  forgot_joined n le = record {
    joined = is.joined ∙ ap (digest_from a.start) (sym (take-append-drop n a.requests)) ∙ digest_on a.start (take n a.requests) (drop n a.requests);
    history = subst IsHistory (drop-append-le n a.requests b.requests le) (history_drop n (a.requests ++ b.requests) is.history);
    few = omega (arith, is.few, length-drop n a.requests);
  }

  pub took_joined : (h k : Chunk) (f n : ℕ) → f ≡ length a.requests → f ≤ n → h.requests ++ k.requests ≡ drop (n - f) b.requests → k.start ≡ digest_from h.start h.requests → AreJoined h k
  took_joined h k f n long le requests joined = record {
    joined = joined;
    history = subst IsHistory (drop_past a.requests b.requests f long n le ∙ sym requests) (history_drop n (a.requests ++ b.requests) is.history);
    few = omega (arith, ap length requests, length-append h.requests k.requests, length-drop (n - f) b.requests, is.few);
  }

  pub pushed_joined : {T E : Type 0} (k : Chunk) (m : Request) (r : Result T E) → length a.requests + length b.requests < 1024 → IsNext (a.requests ++ b.requests) m → OnOk r (k ≡ grown b m) → OnErr r (k ≡ b) → AreJoined a k
  pushed_joined k m (Ok x) room next ok err =
      subst (AreJoined a) (sym ok) (record {
        joined = is.joined;
        history = subst IsHistory (append_assoc a.requests b.requests (m ∷ [])) (all_pairs_push Precedes (a.requests ++ b.requests) m is.history next);
        few = omega (arith, room, length-append b.requests (m ∷ []));
      })
  pushed_joined k m (Err e) room next ok err = subst (AreJoined a) (sym err) is
