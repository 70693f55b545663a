-- What a trimmed list says of the history for which it stands.
use Rattle.std.proofs.Common.{◌≡◌, ℕ, ◌+◌, ◌-◌, ◌<◌, ◌≤◌, Bool, true, false, Some, None, List, [], ◌∷◌, ◌++◌, ◌⊎◌, length, take, drop, arith, refl, sym, ap, ◌∙◌, subst, inl, inr, length-append}
use Rattle.std.specs.Prelude.{Decides, ◌&&◌, nat_lt, if◌then◌else◌}
use Rattle.std.proofs.lemmas.Bool.{le-leb, leb-true, and_parts, ltb-true}
use Rattle.std.proofs.lemmas.Bool.Decides.{Decides-and, Decides-like}
use Rattle.std.proofs.lemmas.Slice.Eq.{bytes_eq-Decides}
use Rattle.std.proofs.lemmas.List.{take-append-drop, length-take, length-drop, take-take, drop-take, drop-drop, take-append-le, drop-append-le}
use Rattle.std.proofs.Math.Seq.{drop-append_seam}
use Rattle.ab_hist.specs.declared.request.Request.{Request}
use Rattle.ab_hist.specs.Digests.{digest_of}
use Rattle.ab_hist.specs.Trimmed.{Trimmed, untrimmed, trim, StandsFor, end_of, linked_from, digest_at, Holds, holds, forget, cut, push, whole_by, grounded}
use Rattle.ab_trim.specs.Links.{links_from, links_of, AreApart}
use Rattle.ab_trim.proofs.Chains.{digest_is, digest-append, linked-append, nothing, AreAmong, among-front, among-back, walk_back, same_history}

-- a front is a shorter one, and what lies between
pub front_split : (s n : ℕ) (h : List Request) → s ≤ n → take n h ≡ take s h ++ take (n - s) (drop s h)
front_split s n h le =
    sym (take-append-drop s (take n h)) ∙ (λ i. take-take s n h le i ++ between i)
  where
    between : drop s (take n h) ≡ take (n - s) (drop s h)
    between = ap (λ k. drop s (take k h)) (let e : n ≡ s + (n - s) = omega (arith, le) in e) ∙ drop-take s (n - s) h

pub holds-Decides : (n : ℕ) (d : List ℕ) (t : Trimmed) → Decides (holds n d t) (Holds t n d)
holds-Decides n d t =
    Decides-like (holds n d t)
    (λ p. record { shown = p.0; within = p.1.0; digest = p.1.1 })
    (λ h. (h.shown, (h.within, h.digest)))
    (Decides-and _ _ (leb-true t.start n, le-leb t.start n) (Decides-and _ _ (leb-true n (end_of t), le-leb n (end_of t)) (bytes_eq-Decides (digest_at t n) d)))

module _ (t : Trimmed) (h : List Request) (is : StandsFor t h) where
  pub ends : end_of t ≡ length h
  ends = ap (λ (k : List Request). t.start + length k) (sym is.rest) ∙ (let e : t.start + length (drop t.start h) ≡ length h = omega (arith, length-drop t.start h, is.reaches) in e)

  pub digests : (n : ℕ) → t.start ≤ n → digest_at t n ≡ digest_of (take n h)
  digests n le =
      (λ i. linked_from (sym is.digest i) (take (n - t.start) (sym is.rest i)))
      ∙ (sym (digest-append (take t.start h) (take (n - t.start) (drop t.start h))) ∙ ap digest_of (sym (front_split t.start n h le)))

  pub is_whole : whole_by h t ≡ h
  is_whole = ap (λ (k : List Request). take t.start h ++ k) (sym is.rest) ∙ take-append-drop t.start h

  -- it holds exactly the digests of fronts that it hasn't forgotten
  pub shows : (n : ℕ) (d : List ℕ) → t.start ≤ n → n ≤ length h → digest_of (take n h) ≡ d → Holds t n d
  shows n d le within has = record { shown = le; within = omega (arith, within, ends); digest = digests n le ∙ has }

  pub shown : (n : ℕ) (d : List ℕ) → Holds t n d → (n ≤ length h) × (digest_of (take n h) ≡ d)
  shown n d has = (omega (arith, has.within, ends), sym (digests n has.shown) ∙ has.digest)

  pub forgets : (n : ℕ) → t.start ≤ n → n ≤ length h → StandsFor (forget n t) h
  forgets n le within = record {
    reaches = within;
    digest = sym (digests n le);
    rest = ap (λ k. drop k h) (let e : n ≡ t.start + (n - t.start) = omega (arith, le) in e) ∙ (sym (drop-drop (n - t.start) t.start h) ∙ ap (drop (n - t.start)) is.rest);
  }

  pub cuts : (n : ℕ) → t.start ≤ n → StandsFor (cut n t) (take n h)
  cuts n le = record {
    reaches = omega (arith, length-take n h, is.reaches, le);
    digest = ap digest_of (take-take t.start n h le) ∙ is.digest;
    rest = ap (λ k. drop t.start (take k h)) (let e : n ≡ t.start + (n - t.start) = omega (arith, le) in e) ∙ (drop-take t.start (n - t.start) h ∙ ap (take (n - t.start)) is.rest);
  }

  pub pushes : (m : Request) → StandsFor (push t m) (h ++ m ∷ [])
  pushes m = record {
    reaches = omega (arith, length-append h (m ∷ []), is.reaches);
    digest = ap digest_of (take-append-le t.start h (m ∷ []) is.reaches) ∙ is.digest;
    rest = drop-append-le t.start h (m ∷ []) is.reaches ∙ ap (λ (k : List Request). k ++ m ∷ []) is.rest;
  }

pub trims : (n : ℕ) (h : List Request) → n ≤ length h → StandsFor (trim n h) h
trims n h le = record { reaches = le; digest = refl; rest = refl }

pub whole_stands : (h : List Request) → StandsFor (untrimmed h) h
whole_stands h = record { reaches = omega arith; digest = digest_is []; rest = refl }

-- ---- which history it is

module _ (ls : List (List ℕ × Request)) (apart : AreApart ls) where
  -- fronts of one length and one digest are one
  pub same_front : (n : ℕ) (h k : List Request) → AreAmong (links_from nothing h) ls → AreAmong (links_from nothing k) ls → digest_of (take n h) ≡ digest_of (take n k) → take n h ≡ take n k
  same_front n h k one two same =
      same_history ls apart (take n h) (take n k) (front h one) (front k two) same
    where
      front : (l : List Request) → AreAmong (links_from nothing l) ls → AreAmong (links_from nothing (take n l)) ls
      front l all = among-front nothing (take n l) (drop n l) ls (subst (λ (x : List Request). AreAmong (links_from nothing x) ls) (sym (take-append-drop n l)) all)

  -- any history with the forgotten front tells the whole
  pub told_by : (t : Trimmed) (h k : List Request) → AreAmong (links_from nothing h) ls → AreAmong (links_from nothing k) ls → StandsFor t h → digest_of (take t.start k) ≡ t.digest → (take t.start k ≡ take t.start h) × (whole_by k t ≡ h)
  told_by t h k one two is has =
      let front : take t.start k ≡ take t.start h = same_front t.start k h two one (has ∙ sym is.digest) in
      (front, ap (λ (x : List Request). x ++ t.rest) front ∙ is_whole t h is)

  -- a list stands for one history
  pub one_whole : (t : Trimmed) (h k : List Request) → AreAmong (links_from nothing h) ls → AreAmong (links_from nothing k) ls → StandsFor t h → StandsFor t k → h ≡ k
  one_whole t h k one two is also = sym (told_by t h k one two is also.digest).1 ∙ is_whole t k also

  -- what a list and a history have in common: a list that shows the digest of a front of h has forgotten a front of h, and goes on as h does
  pub agrees : (t : Trimmed) (h : List Request) (n : ℕ) → AreAmong (links_of t) ls → AreAmong (links_from nothing h) ls → n ≤ length h → Holds t n (digest_of (take n h)) → StandsFor (cut n t) (take n h)
  agrees t h n one two within has =
      let a = take (n - t.start) t.rest in
      let b = take (n - t.start) (drop t.start h) in
      let long : length a ≡ length b = omega (arith, length-take (n - t.start) t.rest, length-take (n - t.start) (drop t.start h), length-drop t.start h, has.shown, has.within, within) in
      let split : take n h ≡ take t.start h ++ b = front_split t.start n h has.shown in
      let among_h : AreAmong (links_from nothing (take t.start h ++ b)) ls = subst (λ (x : List Request). AreAmong (links_from nothing x) ls) split
      (among-front nothing (take n h) (drop n h) ls (subst (λ (x : List Request). AreAmong (links_from nothing x) ls) (sym (take-append-drop n h)) two)) in
      let among_t : AreAmong (links_from t.digest a) ls = among-front t.digest a (drop (n - t.start) t.rest) ls (subst (λ (x : List Request). AreAmong (links_from t.digest x) ls) (sym (take-append-drop (n - t.start) t.rest)) one) in
      let chain : linked_from t.digest a ≡ linked_from (linked_from nothing (take t.start h)) b =
      has.digest ∙ (ap digest_of split ∙ (digest_is (take t.start h ++ b) ∙ linked-append nothing (take t.start h) b))
      in
      let back = walk_back ls apart t.digest (linked_from nothing (take t.start h)) a b long among_t (among-back nothing (take t.start h) b ls among_h) chain in
      record {
        reaches = omega (arith, length-take n h, has.shown, within);
        digest = ap digest_of (take-take t.start n h has.shown) ∙ (digest_is (take t.start h) ∙ sym back.0);
        rest = ap (drop t.start) split ∙ (dropped (take t.start h) b (let e : length (take t.start h) ≡ t.start = omega (arith, length-take t.start h, has.shown, within) in e) ∙ sym back.1);
      }
    where
      dropped : (x y : List Request) → length x ≡ t.start → drop t.start (x ++ y) ≡ y
      dropped x y is = ap (λ k. drop k (x ++ y)) (sym is) ∙ drop-append_seam x y

-- ---- an offered list by the own one

module _ (ls : List (List ℕ × Request)) (apart : AreApart ls) (own t : Trimmed) (mine h : List Request)
    (of_mine : AreAmong (links_from nothing mine) ls) (of_h : AreAmong (links_from nothing h) ls) (own_is : StandsFor own mine) (t_is : StandsFor t h) where
  pub record IsGrounded (b : Trimmed) : Type 0 where
    pub stands : StandsFor b h
    pub told : whole_by mine b ≡ h
    pub front : take b.start mine ≡ take b.start h
    pub own_first : own.start ≤ b.start
    pub offered_first : t.start ≤ b.start
    pub one_of : (b.start ≡ own.start) ⊎ (b.start ≡ t.start)

  grounds_if : (p q : Bool) (b : Trimmed) → holds t.start t.digest own ≡ p → (nat_lt t.start own.start && holds own.start own.digest t) ≡ q
      → (if p then Some t else if q then Some (forget own.start t) else None) ≡ Some b → IsGrounded b
  grounds_if true q b p_is q_is is =
      let e : t ≡ b = cc (is) in
      let there = (holds-Decides t.start t.digest own).0 p_is in
      let says = shown own mine own_is t.start t.digest there in
      let told = told_by ls apart t h mine of_h of_mine t_is says.1 in
      subst (λ (x : Trimmed). IsGrounded x) e (record { stands = t_is; told = told.1; front = told.0; own_first = there.shown; offered_first = omega arith; one_of = inr refl })
  grounds_if false true b p_is q_is is =
      let e : forget own.start t ≡ b = cc (is) in
      let both = and_parts (nat_lt t.start own.start) (holds own.start own.digest t) q_is in
      let less : t.start < own.start = ltb-true t.start own.start both.0 in
      let there = (holds-Decides own.start own.digest t).0 both.1 in
      let says = shown t h t_is own.start own.digest there in
      let stands : StandsFor (forget own.start t) h = forgets t h t_is own.start there.shown says.0 in
      let told = told_by ls apart (forget own.start t) h mine of_h of_mine stands (own_is.digest ∙ sym there.digest) in
      subst (λ (x : Trimmed). IsGrounded x) e (record { stands = stands; told = told.1; front = told.0; own_first = omega arith; offered_first = omega (arith, less); one_of = inl refl })
  grounds_if false false b p_is q_is is = absurd (cc (is))

  pub grounds : (b : Trimmed) → grounded own t ≡ Some b → IsGrounded b
  grounds b is = grounds_if (holds t.start t.digest own) (nat_lt t.start own.start && holds own.start own.digest t) b refl refl is
