-- A certificate of ABORTs that hold certificates of answers, which has a history, is what the rules of acts call one.
use Rattle.std.proofs.Common.{◌≡◌, ℕ, ◌+◌, ◌*◌, ◌<◌, ◌≤◌, Bool, true, false, Option, Some, None, List, [], ◌∷◌, ◌++◌, length, take, map, refl, sym, ap, ◌∙◌, subst, inl, inr, arith}
use Rattle.std.specs.Prelude.{Contains, ◌==◌, ◌&&◌, ◌||◌, nat_lt, if◌then◌else◌}
use Rattle.std.specs.List.{list_all}
use Rattle.std.proofs.lemmas.Bool.{cases_Bool, cases_lt, and_parts, ltb-true, eqb-true}
use Rattle.std.proofs.lemmas.Bool.Decides.{Decides-eqb}
use Rattle.std.proofs.lemmas.List.{length-map}
use Rattle.std.proofs.lemmas.List.Elements.{Contains-append_left, Contains-append_right}
use Rattle.ab_num.specs.declared.cluster.Cluster.{Cluster}
use Rattle.ab_num.specs.declared.party.Party.{Party}
use Rattle.ab_num.specs.declared.party.Party.TheVariants.{Replica}
use Rattle.ab_num.proofs.Lists.{Contains-head, Contains-tail, Contains-cons_cases, Contains-map_cases, Contains-filter}
use Rattle.ab_hist.specs.declared.request.Request.{Request}
use Rattle.ab_msg.specs.declared.content.Content.{Content}
use Rattle.ab_msg.specs.declared.content.Content.TheVariants.{AbortZ}
use Rattle.ab_msg.specs.declared.zcert.Zcert.{Zcert}
use Rattle.ab_msg.specs.declared.signed.Signed.{Signed}
use Rattle.ab_msg.specs.Claims.{instance_of, spec_of, specs_of, kept_specs, kept_claims, signed_contents}
use Rattle.ab_abs.specs.Messages.{is_ruled}
use Rattle.ab_abs.specs.Acts.{setting}
use Rattle.ab_abs.specs.Rules.{AreStated, Kept, IsKeptBeside, IsExtension, AreUpTo, IsKeptHistory, without, with_zcert, IsKeptCert}
use Rattle.ab_abs.specs.Ensembles.{cert_claims}
use Rattle.ab_abs.specs.Observations.{has_front}
use Rattle.ab_abs.specs.Certificates.{are_apart, is_quorum, is_beside, kept_in, with_kept, all_kept_in, Lead, is_ahead, ahead_of, led_by, leading, extension, led_history, is_whole_kept, kept_history, kept_history_of}
use Rattle.ab_abs.proofs.Fronts.{has_front-Decides}
use Rattle.ab_abs.proofs.Extracted.{all_of, apart_distinct, extract_is, extension_is}

-- ---- the one of the highest number

record IsLead (votes : List Kept) (a : Lead) : Type 0 where
  vote : Kept
  is_in : Contains votes vote
  log_is : vote.log ≡ a.log
  there : vote.zcert ≡ Some a.zcert
  up_to : AreUpTo a.zcert.n votes

abbrev NoneKept : List Kept → Type 0
NoneKept votes = (v : Kept) → Contains votes v → v.zcert ≡ None

abbrev IsLeading : List Kept → Option Lead → Type 0
IsLeading votes None = NoneKept votes
IsLeading votes (Some a) = IsLead votes a

up_to_more : (n : ℕ) (v : Kept) (votes : List Kept) → ((z : Zcert) → v.zcert ≡ Some z → z.n ≤ n) → AreUpTo n votes → AreUpTo n (v ∷ votes)
up_to_more n v votes here rest w z has there =
    elim (Contains-cons_cases v votes w has) [
      | inl e ↦ here z (ap (λ (u : Kept). u.zcert) e ∙ there)
      | inr more ↦ rest w z more there
    ]

none_up_to : (n : ℕ) (votes : List Kept) → NoneKept votes → AreUpTo n votes
none_up_to n votes none v z has there = let e : None ≡ Some z = sym (none v has) ∙ there in absurd (cc (e))

up_to_higher : (n m : ℕ) (votes : List Kept) → n ≤ m → AreUpTo n votes → AreUpTo m votes
up_to_higher n m votes le up w z has there = omega (arith, le, up w z has there)

lead_later : (v : Kept) (votes : List Kept) (a : Lead) → ((z : Zcert) → v.zcert ≡ Some z → z.n ≤ a.zcert.n) → IsLead votes a → IsLead (v ∷ votes) a
lead_later v votes a here is =
    record { vote = is.vote; is_in = Contains-tail v is.vote votes is.is_in; log_is = is.log_is; there = is.there; up_to = up_to_more a.zcert.n v votes here is.up_to }

lead_here : (v : Kept) (z : Zcert) (votes : List Kept) → v.zcert ≡ Some z → AreUpTo z.n votes → IsLead (v ∷ votes) (record { by = v.by; log = v.log; zcert = z })
lead_here v z votes is up = record {
  vote = v;
  is_in = Contains-head v votes;
  log_is = refl;
  there = is;
  up_to = up_to_more z.n v votes (λ y there. let e : z ≡ y = cc (is, there) in omega (arith, ap (λ (w : Zcert). w.n) e)) up;
}

-- what is ahead has no lower number, and what isn't no higher one
ahead_above : (a b : Lead) → is_ahead a b ≡ true → b.zcert.n ≤ a.zcert.n
ahead_above a b is =
    elim (cases_lt a.zcert.n b.zcert.n) [
      | inr fine ↦ fine
      | inl lower ↦ absurd (never (nat_lt b.zcert.n a.zcert.n) (a.zcert.n == b.zcert.n) (nat_lt a.by b.by) (lt_false b.zcert.n a.zcert.n lower) (eq_false a.zcert.n b.zcert.n lower) is)
    ]
  where
    never : (p e w : Bool) → p ≡ false → e ≡ false → (p || (e && w)) ≡ true → ⊥
    never true e w out also is = cc (out)
    never false true w out also is = cc (also)
    never false false w out also is = cc (is)

    lt_false : (n m : ℕ) → m < n → nat_lt n m ≡ false
    lt_false n m lt = grind (arith, lt)

    eq_false : (n m : ℕ) → n < m → (n == m) ≡ false
    eq_false n m lt = grind (arith, lt)

behind_below : (a b : Lead) → is_ahead a b ≡ false → a.zcert.n ≤ b.zcert.n
behind_below a b is =
    elim (cases_lt b.zcert.n a.zcert.n) [
      | inr fine ↦ fine
      | inl higher ↦ absurd (never (nat_lt b.zcert.n a.zcert.n) ((a.zcert.n == b.zcert.n) && nat_lt a.by b.by) (lt_true b.zcert.n a.zcert.n higher) is)
    ]
  where
    never : (p e : Bool) → p ≡ true → (p || e) ≡ false → ⊥
    never true e yes' is = cc (is)
    never false e yes' is = cc (yes')

    lt_true : (n m : ℕ) → n < m → nat_lt n m ≡ true
    lt_true n m lt = grind (arith, lt)

led_ahead : (v : Kept) (z : Zcert) (votes : List Kept) (b : Lead) → v.zcert ≡ Some z → IsLead votes b → IsLeading (v ∷ votes) (ahead_of (record { by = v.by; log = v.log; zcert = z }) (Some b))
led_ahead v z votes b there is =
    let a : Lead = record { by = v.by; log = v.log; zcert = z } in
    elim (cases_Bool (is_ahead a b)) [
      | inl ahead ↦ rw ahead (lead_here v z votes there (up_to_higher b.zcert.n z.n votes (ahead_above a b ahead) is.up_to))
      | inr behind ↦ rw behind (lead_later v votes b (λ y also. let e : z ≡ y = cc (there, also) in omega (arith, behind_below a b behind, ap (λ (w : Zcert). w.n) e)) is)
    ]

led_is : (v : Kept) (votes : List Kept) (o : Option Zcert) (best : Option Lead) → v.zcert ≡ o → IsLeading votes best → IsLeading (v ∷ votes) (led_by v o best)
led_is v votes None None there none = λ w has. elim (Contains-cons_cases v votes w has) [ inl e ↦ ap (λ (u : Kept). u.zcert) (sym e) ∙ there | inr more ↦ none w more ]
led_is v votes None (Some b) there is = lead_later v votes b (λ z also. let e : None ≡ Some z = sym there ∙ also in absurd (cc (e))) is
led_is v votes (Some z) None there none = lead_here v z votes there (none_up_to z.n votes none)
led_is v votes (Some z) (Some b) there is = led_ahead v z votes b there is

leading_is : (votes : List Kept) → IsLeading votes (leading votes)
leading_is [] = λ v has. absurd (omega (arith, has.1))
leading_is (v ∷ votes) = led_is v votes v.zcert (leading votes) refl (leading_is votes)

led_history_is : (q : ℕ) (votes : List Kept) (o : Option Lead) → 1 ≤ q → q ≤ length votes → IsLeading votes o → IsKeptHistory q votes (led_history q (map (λ v. v.log) votes) o)
led_history_is q votes None some few none = without none (extract_is q (map (λ v. v.log) votes) some (omega (arith, few, length-map votes (λ (v : Kept). v.log))))
led_history_is q votes (Some a) some few is =
    let lists = map (λ (v : Kept). v.log) votes in
    with_zcert is.vote a.zcert is.is_in is.there is.up_to
    (subst (λ (l : List Request). IsExtension q lists (take a.zcert.n l) (extension q lists (take a.zcert.n a.log))) (sym is.log_is) (extension_is q lists (take a.zcert.n a.log) some))

-- ---- what stands in a certificate

-- an ABORT that counts
record IsKeptOf (c : Cluster) (j : ℕ) (s : Content) (v : Kept) : Type 0 where
  is : s ≡ AbortZ (Replica v.by) j v.log v.zcert
  within : v.by < 3 * c.f + 1
  beside : is_beside c.f v.log v.zcert ≡ true

kept_if : (c : Cluster) (j r i : ℕ) (h : List Request) (z : Option Zcert) (v : Kept) (b : Bool) → ((i == j) && (nat_lt r (3 * c.f + 1) && is_beside c.f h z)) ≡ b
    → (if b then Some (record { by = r; log = h; zcert = z }) else None) ≡ Some v → IsKeptOf c j (AbortZ (Replica r) i h z) v
kept_if c j r i h z v true test is =
    let both = and_parts (i == j) (nat_lt r (3 * c.f + 1) && is_beside c.f h z) test in
    let more = and_parts (nat_lt r (3 * c.f + 1)) (is_beside c.f h z) both.1 in
    let same : i ≡ j = eqb-true i j both.0 in
    let w : Kept = record { by = r; log = h; zcert = z } in
    let e : w ≡ v = cc (is) in
    let lt : r < 3 * c.f + 1 = ltb-true r (3 * c.f + 1) more.0 in
    subst (λ (u : Kept). IsKeptOf c j (AbortZ (Replica r) i h z) u) e (record { is = ap (λ n. AbortZ (Replica r) n h z) same; within = lt; beside = more.1 })
kept_if c j r i h z v false test is = absurd (cc (is))

kept_of : (c : Cluster) (j : ℕ) (s : Content) (v : Kept) → kept_in c j s ≡ Some v → IsKeptOf c j s v
kept_of c j (AbortZ (Replica r) i h z) v is = kept_if c j r i h z v ((i == j) && (nat_lt r (3 * c.f + 1) && is_beside c.f h z)) refl is
kept_of c j _ v is = absurd (cc (is))

record IsKeptStated (c : Cluster) (j : ℕ) (cert : List Signed) (v : Kept) : Type 0 where
  stands : Contains (signed_contents cert) (AbortZ (Replica v.by) j v.log v.zcert)
  within : v.by < 3 * c.f + 1
  beside : is_beside c.f v.log v.zcert ≡ true
  answers : (s : Content) → Contains (kept_specs j v.zcert) s → Contains (signed_contents cert) s

kept_stated_with : (c : Cluster) (j : ℕ) (s : Signed) (cert : List Signed) (votes : List Kept) (a : Option Kept) (b : Option (List Kept)) → kept_in c j s.content ≡ a
    → ((vs : List Kept) → b ≡ Some vs → (v : Kept) → Contains vs v → IsKeptStated c j cert v) → with_kept a b ≡ Some votes → (v : Kept) → Contains votes v → IsKeptStated c j (s ∷ cert) v
kept_stated_with c j s cert votes None b one more is v has = absurd (cc (is))
kept_stated_with c j s cert votes (Some u) None one more is v has = absurd (cc (is))
kept_stated_with c j s cert votes (Some u) (Some vs) one more is v has =
    let e : u ∷ vs ≡ votes = cc (is) in
    elim (Contains-cons_cases u vs v (subst (λ (ws : List Kept). Contains ws v) (sym e) has)) [
      | inl same ↦
          let a = kept_of c j s.content u one in
          let specs_are : kept_claims s.content ≡ kept_specs j u.zcert = ap kept_claims a.is in
          subst (λ (w : Kept). IsKeptStated c j (s ∷ cert) w) same (record {
            stands = subst (λ (t : Content). Contains (signed_contents (s ∷ cert)) t) a.is (Contains-head s.content (kept_claims s.content ++ signed_contents cert));
            within = a.within;
            beside = a.beside;
            answers = λ t is.
                Contains-append_left (s.content ∷ kept_claims s.content) (signed_contents cert) t
                (Contains-tail s.content t (kept_claims s.content) (subst (λ (l : List Content). Contains l t) (sym specs_are) is));
          })
      | inr later ↦
          let r = more vs refl v later in
          let skip : (t : Content) → Contains (signed_contents cert) t → Contains (signed_contents (s ∷ cert)) t = λ t is. Contains-append_right (s.content ∷ kept_claims s.content) (signed_contents cert) t is in
          record { stands = skip (AbortZ (Replica v.by) j v.log v.zcert) r.stands; within = r.within; beside = r.beside; answers = λ t is. skip t (r.answers t is) }
    ]

kept_stated : (c : Cluster) (j : ℕ) (cert : List Signed) (votes : List Kept) → all_kept_in c j cert ≡ Some votes → (v : Kept) → Contains votes v → IsKeptStated c j cert v
kept_stated c j [] votes is v has = let e : [] ≡ votes = cc (is) in let none : Contains [] v = subst (λ (ws : List Kept). Contains ws v) (sym e) has in absurd (omega (arith, none.1))
kept_stated c j (s ∷ cert) votes is v has = kept_stated_with c j s cert votes (kept_in c j s.content) (all_kept_in c j cert) refl (λ vs e. kept_stated c j cert vs e) is v has

-- what names the instance and stands in the certificate is a claim of it, if rules speak of it
claim_stands : (j : ℕ) (cert : List Signed) (s : Content) → is_ruled s ≡ true → instance_of s ≡ j → Contains (signed_contents cert) s → Contains (cert_claims j cert) s
claim_stands j cert s ruled named has = Contains-filter (λ t. is_ruled t && (instance_of t == j)) (signed_contents cert) s has (rw ruled ((Decides-eqb (instance_of s) j).1 named))

map_in : {A B : Type 0} (f : A → B) (xs : List A) (x : A) → Contains xs x → Contains (map f xs) (f x)
map_in f [] x has = absurd (omega (arith, has.1))
map_in f (y ∷ xs) x has =
    elim (Contains-cons_cases y xs x has) [
      | inl e ↦ subst (λ z. Contains (map f (y ∷ xs)) (f z)) e (Contains-head (f y) (map f xs))
      | inr more ↦ Contains-tail (f y) (f x) (map f xs) (map_in f xs x more)
    ]

below_each : (f : ℕ) (sigs : List (ℕ × List ℕ)) → list_all (λ s. nat_lt s.0 (3 * f + 1)) sigs ≡ true → (s : ℕ × List ℕ) → Contains sigs s → s.0 < 3 * f + 1
below_each f [] all s has = absurd (omega (arith, has.1))
below_each f (t ∷ sigs) all s has =
    let both = and_parts (nat_lt t.0 (3 * f + 1)) (list_all (λ s. nat_lt s.0 (3 * f + 1)) sigs) all in
    elim (Contains-cons_cases t sigs s has) [
      | inl e ↦ subst (λ (u : ℕ × List ℕ). u.0 < 3 * f + 1) e (ltb-true t.0 (3 * f + 1) both.0)
      | inr more ↦ below_each f sigs both.1 s more
    ]

module _ (c : Cluster) (faulty : List Party) (j : ℕ) (cert : List Signed) where
  -- the answers in it are those of 2f + 1 replicas, and claims
  quorum_states : (z : Zcert) → is_quorum c.f z ≡ true → ((s : Content) → Contains (specs_of j z) s → Contains (signed_contents cert) s) → AreStated (2 * c.f + 1) (setting c faulty j) (cert_claims j cert) (spec_of j z)
  quorum_states z is answers =
      let many = and_parts (length z.sigs == (2 * c.f + 1)) (are_apart (map (λ s. s.0) z.sigs) && list_all (λ s. nat_lt s.0 (3 * c.f + 1)) z.sigs) is in
      let more = and_parts (are_apart (map (λ s. s.0) z.sigs)) (list_all (λ s. nat_lt s.0 (3 * c.f + 1)) z.sigs) many.1 in
      let by : List ℕ = map (λ (s : ℕ × List ℕ). s.0) z.sigs in
      record {
        by = by;
        enough = length-map z.sigs (λ (s : ℕ × List ℕ). s.0) ∙ eqb-true (length z.sigs) (2 * c.f + 1) many.0;
        each_once = apart_distinct by more.0;
        within = all_of (λ r. r < 3 * c.f + 1) by (λ r has. let s = Contains-map_cases (λ (s : ℕ × List ℕ). s.0) z.sigs r has in subst (λ (n : ℕ). n < 3 * c.f + 1) s.2 (below_each c.f z.sigs more.1 s.0 s.1));
        stated = all_of (λ r. Contains (cert_claims j cert) (spec_of j z r)) by (λ r has.
            let s = Contains-map_cases (λ (s : ℕ × List ℕ). s.0) z.sigs r has in
            claim_stands j cert (spec_of j z r) refl refl
            (answers (spec_of j z r) (subst (λ (n : ℕ). Contains (specs_of j z) (spec_of j z n)) s.2 (map_in (λ (t : ℕ × List ℕ). spec_of j z t.0) z.sigs s.0 s.1))));
      }

  beside_is : (log : List Request) (o : Option Zcert) → is_beside c.f log o ≡ true → ((s : Content) → Contains (kept_specs j o) s → Contains (signed_contents cert) s) → IsKeptBeside (setting c faulty j) (cert_claims j cert) log o
  beside_is log None is answers = tt
  beside_is log (Some z) is answers =
      let both = and_parts (has_front log z.n z.d) (is_quorum c.f z) is in
      ((has_front-Decides log z.n z.d).0 both.0, quorum_states z both.1 answers)

  kept_cert : (votes : List Kept) → all_kept_in c j cert ≡ Some votes → is_whole_kept (2 * c.f + 1) votes ≡ true → IsKeptCert (setting c faulty j) (cert_claims j cert) (led_history (c.f + 1) (map (λ v. v.log) votes) (leading votes))
  kept_cert votes is whole =
      let both = and_parts (length votes == (2 * c.f + 1)) (are_apart (map (λ v. v.by) votes)) whole in
      let many : length votes ≡ 2 * c.f + 1 = eqb-true (length votes) (2 * c.f + 1) both.0 in
      let stated = kept_stated c j cert votes is in
      record {
        votes = votes;
        enough = many;
        each_once = apart_distinct (map (λ v. v.by) votes) both.1;
        within = all_of (λ (v : Kept). v.by < 3 * c.f + 1) votes (λ v has. (stated v has).within);
        signed = all_of (λ (v : Kept). Contains (cert_claims j cert) (AbortZ (Replica v.by) j v.log v.zcert)) votes (λ v has. claim_stands j cert (AbortZ (Replica v.by) j v.log v.zcert) refl refl (stated v has).stands);
        beside = all_of (λ (v : Kept). IsKeptBeside (setting c faulty j) (cert_claims j cert) v.log v.zcert) votes (λ v has. let s = stated v has in beside_is v.log v.zcert s.beside s.answers);
        agreed = led_history_is (c.f + 1) votes (leading votes) (omega arith) (omega (arith, many)) (leading_is votes);
      }

  kept_cert_if : (votes : List Kept) (h : List Request) (b : Bool) → all_kept_in c j cert ≡ Some votes → is_whole_kept (2 * c.f + 1) votes ≡ b
      → (if b then Some (led_history (c.f + 1) (map (λ v. v.log) votes) (leading votes)) else None) ≡ Some h → IsKeptCert (setting c faulty j) (cert_claims j cert) h
  kept_cert_if votes h true held whole is =
      let e : led_history (c.f + 1) (map (λ v. v.log) votes) (leading votes) ≡ h = cc (is) in
      subst (λ (l : List Request). IsKeptCert (setting c faulty j) (cert_claims j cert) l) e (kept_cert votes held whole)
  kept_cert_if votes h false held whole is = absurd (cc (is))

  kept_cert_of : (h : List Request) (o : Option (List Kept)) → all_kept_in c j cert ≡ o → kept_history c.f o ≡ Some h → IsKeptCert (setting c faulty j) (cert_claims j cert) h
  kept_cert_of h None held is = absurd (cc (is))
  kept_cert_of h (Some votes) held is = kept_cert_if votes h (is_whole_kept (2 * c.f + 1) votes) held refl is

-- what has a history is a certificate
pub kept_certificate_is : (c : Cluster) (faulty : List Party) (j : ℕ) (cert : List Signed) (h : List Request) → kept_history_of c j cert ≡ Some h → IsKeptCert (setting c faulty j) (cert_claims j cert) h
kept_certificate_is c faulty j cert h is = kept_cert_of c faulty j cert h (all_kept_in c j cert) refl is
