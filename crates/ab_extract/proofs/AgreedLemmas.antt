-- What the lists of a certificate agree on, from the front on that its leading certificate of answers has.
use Rattle.std.proofs.Common.{◌≡◌, ℕ, zero, suc, ◌+◌, ◌*◌, ◌<◌, ◌≤◌, Bool, true, false, Option, Some, None, List, [], ◌∷◌, length, take, get_or, map, arith, refl, sym, ap, ◌∙◌, subst, inl, inr}
use Rattle.std.specs.Prelude.{◌==◌, ◌&&◌, ◌||◌, nat_lt, if◌then◌else◌}
use Rattle.std.specs.List.{starts_with}
use Rattle.std.specs.Option.{option_map}
use Rattle.std.proofs.lemmas.Bool.{cases_Bool, and_parts}
use Rattle.std.proofs.lemmas.List.{length-map}
use mathlib.Core.List.{IsPrefix}
use base.Growing.{prefix_anti, prefix_refl}
use Rattle.ab_num.specs.declared.cluster.Cluster.{Cluster}
use Rattle.ab_num.specs.Places.{kind_of}
use Rattle.ab_num.proofs.Lists.{parts_meet}
use Rattle.ab_hist.specs.declared.request.Request.{Request}
use Rattle.ab_hist.specs.Requests.{request_eq}
use Rattle.ab_msg.specs.declared.signed.Signed.{Signed}
use Rattle.ab_msg.specs.declared.zcert.Zcert.{Zcert}
use Rattle.ab_abs.specs.Kinds.{is_zcert}
use Rattle.ab_abs.specs.Extraction.{holders, IsExtract}
use Rattle.ab_abs.specs.Rules.{IsExtension}
use Rattle.ab_abs.specs.Observations.{has_front}
use Rattle.ab_abs.specs.Certificates as certs
use Rattle.ab_abs.specs.Certificates.{extract, extension, is_beside, is_quorum, leading, led_by, led_history, is_ahead}
use Rattle.ab_abs.proofs.Prefixes.{prefix_shorter}
use Rattle.ab_abs.proofs.Extracts.{starts_with-Decides, extract_unique}
use Rattle.ab_abs.proofs.Extracted.{extract_is, extension_is}
use Rattle.ab_abs.proofs.Fronts.{has_front-Decides}
use Rattle.ab_extract.specs.declared.heads.Lead.{Lead}
use Rattle.ab_extract.specs.Certs.{log_in, zcert_in, kept_of, IsAbort, AreAborts, IsHeld, AreHeld, IsFitting, is_fit, first_bad, agreed_history}
use Rattle.ab_extract.specs.Heads.{head_of, is_before, led_at, lead_in}
use Rattle.ab_extract.proofs.CertLemmas.{bad_rest}

-- ---- there is one extension

module _ (q : ℕ) (lists : List (List Request)) (k : List Request) (half : length lists < q + q) where
  begins_other : (h e : List Request) → IsExtension q lists k h → IsExtension q lists k e → IsPrefix h e
  begins_other h e is also =
      elim is.held [
        | inl front ↦ subst (λ (l : List Request). IsPrefix l e) (sym front) also.extends
        | inr held ↦ elim also.held [
          | inl front ↦
              let le : length h ≤ length e = also.longest h is.extends held in
              let back : IsPrefix e h = subst (λ (l : List Request). IsPrefix l h) (sym front) is.extends in
              all_of_it e h back le
          | inr other ↦
              let both = parts_meet (λ l. starts_with request_eq l h) (λ l. starts_with request_eq l e) lists (omega (arith, held, other, half)) in
              let l = both.element in
              prefix_shorter h e l ((starts_with-Decides l h).0 both.first) ((starts_with-Decides l e).0 both.second) (also.longest h is.extends held)
        ]
      ]
    where
      -- what is no longer than its own front is that
      all_of_it : (a b : List Request) → IsPrefix a b → length b ≤ length a → IsPrefix b a
      all_of_it a b begins le = prefix_shorter b a b (prefix_refl b) begins le

  pub extension_unique : (h e : List Request) → IsExtension q lists k h → IsExtension q lists k e → h ≡ e
  extension_unique h e is also = prefix_anti h e (begins_other h e is also) (begins_other e h also is)

-- ---- the one of the highest number, by its place

-- both name the certificate of answers in one of these ABORTs
record IsNamed (cert : List Signed) (from : ℕ) (m : Lead) (a : certs.Lead) : Type 0 where
  by_is : m.by ≡ a.by
  number_is : m.n ≡ a.zcert.n
  place : ℕ
  at_is : m.at ≡ from + place
  within : place < length cert
  log_is : get_or (map (λ s. log_in s.content) cert) place [] ≡ a.log
  reaches : a.zcert.n ≤ length a.log

abbrev AreNamed : List Signed → ℕ → Option Lead → Option certs.Lead → Type 0
AreNamed cert from None None = Unit {0}
AreNamed cert from None (Some a) = ⊥
AreNamed cert from (Some m) None = ⊥
AreNamed cert from (Some m) (Some a) = IsNamed cert from m a

abbrev lead_of : Signed → Zcert → certs.Lead
lead_of s z = record { by = s.maker; log = log_in s.content; zcert = z }

abbrev mark_of : ℕ → Signed → Zcert → Lead
mark_of from s z = record { by = s.maker; at = from; n = z.n }

named_later : (s : Signed) (cert : List Signed) (from : ℕ) (m : Lead) (a : certs.Lead) → IsNamed cert (suc from) m a → IsNamed (s ∷ cert) from m a
named_later s cert from m a is = record {
  by_is = is.by_is;
  number_is = is.number_is;
  place = suc is.place;
  at_is = omega (arith, is.at_is);
  within = omega (arith, is.within);
  log_is = is.log_is;
  reaches = is.reaches;
}

named_here : (s : Signed) (cert : List Signed) (from : ℕ) (z : Zcert) → z.n ≤ length (log_in s.content) → IsNamed (s ∷ cert) from (mark_of from s z) (lead_of s z)
named_here s cert from z reaches = record { by_is = refl; number_is = refl; place = 0; at_is = omega arith; within = omega arith; log_is = refl; reaches = reaches }

named_both : (s : Signed) (cert : List Signed) (from : ℕ) (z : Zcert) (m : Lead) (a : certs.Lead) → z.n ≤ length (log_in s.content) → IsNamed cert (suc from) m a
    → AreNamed (s ∷ cert) from (led_at from s.maker (Some z.n) (Some m)) (led_by (kept_of s) (Some z) (Some a))
named_both s cert from z m a reaches is =
    let same : is_before (mark_of from s z) m ≡ is_ahead (lead_of s z) a = λ j. nat_lt (is.number_is j) z.n || ((z.n == is.number_is j) && nat_lt s.maker (is.by_is j)) in
    elim (cases_Bool (is_ahead (lead_of s z) a)) [
      | inl ahead ↦ rw (ahead, same ∙ ahead) (named_here s cert from z reaches)
      | inr behind ↦ rw (behind, same ∙ behind) (named_later s cert from m a is)
    ]

named_more : (s : Signed) (cert : List Signed) (from : ℕ) (o : Option Zcert) (m : Option Lead) (a : Option certs.Lead) → ((z : Zcert) → o ≡ Some z → z.n ≤ length (log_in s.content)) → AreNamed cert (suc from) m a
    → AreNamed (s ∷ cert) from (led_at from s.maker (option_map (λ z. z.n) o) m) (led_by (kept_of s) o a)
named_more s cert from None None None held is = tt
named_more s cert from None None (Some a) held is = is
named_more s cert from None (Some m) None held is = is
named_more s cert from None (Some m) (Some a) held is = named_later s cert from m a is
named_more s cert from (Some z) None None held is = named_here s cert from z (held z refl)
named_more s cert from (Some z) None (Some a) held is = absurd is
named_more s cert from (Some z) (Some m) None held is = absurd is
named_more s cert from (Some z) (Some m) (Some a) held is = named_both s cert from z m a (held z refl) is

are_named : (cert : List Signed) (from : ℕ) → AreHeld cert → AreNamed cert from (lead_in from (map head_of cert)) (leading (map kept_of cert))
are_named [] from held = tt
are_named (s ∷ cert) from held =
    named_more s cert from (zcert_in s.content) (lead_in (suc from) (map head_of cert)) (leading (map kept_of cert)) (held 0 s (omega arith))
    (are_named cert (suc from) (λ k d lt. held (suc k) d (omega (arith, lt))))

-- ---- what the lists agree on

abbrev pub logs : List Signed → List (List Request)
logs cert = map (λ s. log_in s.content) cert

-- the place of the leading one, and its number
pub record IsAt (cert : List Signed) (m : Lead) : Type 0 where
  pub within : m.at < length cert
  pub reaches : m.n ≤ length (get_or (logs cert) m.at [])

module _ (q : ℕ) (cert : List Signed) (held : AreHeld cert) (half : length cert < q + q) (some : 1 ≤ q) (enough : q ≤ length cert) where
  many : length (logs cert) ≡ length cert
  many = length-map cert (λ s. log_in s.content)

  front_of : (m : Lead) (a : certs.Lead) → IsNamed cert 0 m a → get_or (logs cert) m.at [] ≡ a.log
  front_of m a is = ap (λ n. get_or (logs cert) n []) (let e : m.at ≡ is.place = omega (arith, is.at_is) in e) ∙ is.log_is

  at_if : (m : Lead) (o : Option certs.Lead) → AreNamed cert 0 (Some m) o → IsAt cert m
  at_if m None is = absurd is
  at_if m (Some a) is = record { within = omega (arith, is.at_is, is.within); reaches = omega (arith, is.reaches, is.number_is, ap length (front_of m a is)) }

  pub lead_at : (m : Lead) → lead_in 0 (map head_of cert) ≡ Some m → IsAt cert m
  lead_at m is = at_if m (leading (map kept_of cert)) (subst (λ (o : Option Lead). AreNamed cert 0 o (leading (map kept_of cert))) is (are_named cert 0 held))

  none_if : (h : List Request) (o : Option certs.Lead) → AreNamed cert 0 None o → IsExtract q (logs cert) h → h ≡ led_history q (logs cert) o
  none_if h None is found = extract_unique q (logs cert) h (extract q (logs cert)) (omega (arith, half, many)) found (extract_is q (logs cert) some (omega (arith, enough, many)))
  none_if h (Some a) is found = absurd is

  -- where nothing leads
  pub agreed_none : (h : List Request) → lead_in 0 (map head_of cert) ≡ None → IsExtract q (logs cert) h → h ≡ agreed_history q cert
  agreed_none h none found = none_if h (leading (map kept_of cert)) (subst (λ (o : Option Lead). AreNamed cert 0 o (leading (map kept_of cert))) none (are_named cert 0 held)) found

  some_if : (h : List Request) (m : Lead) (o : Option certs.Lead) → AreNamed cert 0 (Some m) o → IsExtension q (logs cert) (take m.n (get_or (logs cert) m.at [])) h → h ≡ led_history q (logs cert) o
  some_if h m None is found = absurd is
  some_if h m (Some a) is found =
      let front : take m.n (get_or (logs cert) m.at []) ≡ take a.zcert.n a.log = λ j. take (is.number_is j) (front_of m a is j) in
      let k = take a.zcert.n a.log in
      extension_unique q (logs cert) k (omega (arith, half, many)) h (extension q (logs cert) k) (subst (λ (l : List Request). IsExtension q (logs cert) l h) front found) (extension_is q (logs cert) k some)

  -- where one leads
  pub agreed_some : (h : List Request) (m : Lead) → lead_in 0 (map head_of cert) ≡ Some m → IsExtension q (logs cert) (take m.n (get_or (logs cert) m.at [])) h → h ≡ agreed_history q cert
  agreed_some h m is found = some_if h m (leading (map kept_of cert)) (subst (λ (o : Option Lead). AreNamed cert 0 o (leading (map kept_of cert))) is (are_named cert 0 held)) found

  -- the same of lists that are those of the ABORTs
  pub lead_within : (lists : List (List Request)) (n : ℕ) (m : Lead) → lead_in 0 (map head_of cert) ≡ Some m → lists ≡ logs cert → n ≡ m.n → (m.at < length lists) × (n ≤ length (get_or lists m.at []))
  lead_within lists n m is are number =
      let at = lead_at m is in
      (omega (arith, at.within, many, ap length are), omega (arith, at.reaches, number, ap (λ (ls : List (List Request)). length (get_or ls m.at [])) are))

  pub agreed_from : (lists : List (List Request)) (n : ℕ) (m : Lead) (h : List Request) → lead_in 0 (map head_of cert) ≡ Some m → lists ≡ logs cert → n ≡ m.n
      → IsExtension q lists (take n (get_or lists m.at [])) h → h ≡ agreed_history q cert
  agreed_from lists n m h is are number found =
      agreed_some h m is
      (subst (λ (ls : List (List Request)). IsExtension q ls (take m.n (get_or ls m.at [])) h) are (subst (λ (k : ℕ). IsExtension q lists (take k (get_or lists m.at [])) h) number found))

  pub agreed_all : (lists : List (List Request)) (h : List Request) → lead_in 0 (map head_of cert) ≡ None → lists ≡ logs cert → IsExtract q lists h → h ≡ agreed_history q cert
  agreed_all lists h none are found = agreed_none h none (subst (λ (ls : List (List Request)). IsExtract q ls h) are found)

-- ---- fronts that are held

fit_held : (replicas f : ℕ) (b : Bool) (s : Signed) → IsAbort replicas s → is_fit b f s.content ≡ true → IsHeld s
fit_held replicas f true s is fits z there =
    elim is.content_is [
      | inl e ↦ absurd (let two : None ≡ Some z = sym (ap zcert_in e) ∙ there in cc (two))
      | inr (inr t) ↦ absurd (let two : None ≡ Some z = sym (ap zcert_in t.2) ∙ there in cc (two))
      | inr (inl e) ↦
          let beside : is_beside f (log_in s.content) (Some z) ≡ true = sym (ap (is_beside f (log_in s.content)) there) ∙ sym (ap (is_fit true f) e) ∙ fits in
          let both = and_parts (has_front (log_in s.content) z.n z.d) (is_quorum f z) beside in
          ((has_front-Decides (log_in s.content) z.n z.d).0 both.0).0
    ]
fit_held replicas f false s is fits z there =
    elim is.content_is [
      | inl e ↦ absurd (let two : None ≡ Some z = sym (ap zcert_in e) ∙ there in cc (two))
      | inr (inl e) ↦ absurd (let two : false ≡ true = sym (ap (is_fit false f) e) ∙ fits in cc (two))
      | inr (inr t) ↦ absurd (let two : None ≡ Some z = sym (ap zcert_in t.2) ∙ there in cc (two))
    ]

held_each : (c : Cluster) (i : ℕ) (cert : List Signed) → AreAborts (3 * c.f + 1) cert → first_bad (kind_of c.plan i) c.f cert ≡ None → AreHeld cert
held_each c i [] all none = λ k d lt. absurd (omega (arith, lt))
held_each c i (s ∷ cert) all none =
    let fits = bad_rest (kind_of c.plan i) c.f s cert none in
    held_cons s cert (fit_held (3 * c.f + 1) c.f (is_zcert (kind_of c.plan i)) s (all 0 s (omega arith)) fits.0) (held_each c i cert (λ k d lt. all (suc k) d (omega (arith, lt))) fits.1)
  where
    held_cons : (s : Signed) (cert : List Signed) → IsHeld s → AreHeld cert → AreHeld (s ∷ cert)
    held_cons s cert here rest zero d lt = here
    held_cons s cert here rest (suc k) d lt = rest k d (omega (arith, lt))

pub are_held : (c : Cluster) (i : ℕ) (cert : List Signed) → AreAborts (3 * c.f + 1) cert → IsFitting c i cert → AreHeld cert
are_held c i cert all fitting = held_each c i cert all fitting.1
