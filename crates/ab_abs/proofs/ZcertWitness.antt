-- The acts of the small instance with certificates of answers meet the rules and the premises.
use Rattle.std.proofs.Common.{◌≡◌, ℕ, ◌<◌, ◌≤◌, false, true, Option, Some, None, List, [], ◌∷◌, length, refl, sym, ap, ◌∙◌, subst, inl, inr, arith}
use Rattle.std.specs.Prelude.{All, Contains}
use Rattle.std.specs.List.{IsDistinct, starts_with}
use Rattle.std.proofs.lemmas.Bool.{cases_Bool}
use Rattle.std.proofs.lemmas.List.Elements.{All-cons, All-nil, All-contains}
use base.Growing.{prefix_refl}
use Rattle.ab_num.specs.declared.party.Party.TheVariants.{Replica, Client}
use Rattle.ab_num.proofs.Lists.{count_by-yes, count_by-no, Contains-head, Contains-one, Contains-none, Contains-cons_cases}
use Rattle.ab_hist.specs.declared.request.Request.{Request}
use Rattle.ab_hist.specs.Requests.{request_eq}
use Rattle.ab_hist.specs.Histories.{IsHistory}
use Rattle.ab_hist.specs.Digests.{NoCollision, digest_of}
use Rattle.ab_svc.specs.Machines.{Machine, Reply}
use Rattle.ab_msg.specs.declared.content.Content.{Content}
use Rattle.ab_msg.specs.declared.content.Content.TheVariants.{AbortZ}
use Rattle.ab_msg.specs.declared.zcert.Zcert.{Zcert}
use Rattle.ab_abs.specs.declared.rule.ReplyRule.TheVariants as rules
use Rattle.ab_abs.specs.declared.seen.Seen.TheVariants.{Invoked, Init, Cert, Committed}
use Rattle.ab_abs.specs.Faults.{is_faulty}
use Rattle.ab_msg.specs.Claims.{maker_of}
use Rattle.ab_abs.specs.Acts.{State, Act, observations, state_of, begun_with, abort_by, WasMade, IsHonest, histories, bases, requests, SlotsApart, unmarked}
use Rattle.ab_abs.specs.Rules.{AreStated, IsCertified, IsKeptBeside, by_kept, IsOtherBy, by_client, request, aborts, Kept, IsExtension, AreUpTo, with_zcert, IsKeptCert}
use Rattle.ab_abs.specs.Lawful.{BeginsThere, IsLawfulBy, first, call, other}
use Rattle.ab_abs.specs.ZcertRules.{ZcertCalls, AreZcertLawful, IsZcertSound}
use Rattle.ab_abs.specs.SmallActs.{asks_for, reply_to, of_client}
use Rattle.ab_abs.specs.SmallZcerts.{small_faulty, begins_z, empty_stopped, keeping, kept_z, spec_by, told_by, specs_z, answers_z, keeps_z, begun_z, invoked_z, answered_z, told_z, commit_claims_z, aborted_z, abort_z, cert_claims_z, small_zcert}
use Rattle.ab_abs.proofs.Prefixes.{prefix_length}
use Rattle.ab_abs.proofs.Extracts.{starts_with-Decides}
use Rattle.ab_abs.proofs.Witness.{short}
use Rattle.ab_abs.specs.Observations.{is_whole_seen}

full_named : (claims : List Content) (c stamp kstamp n o : ℕ) (d b : List ℕ) (reply later : Reply) → stamp ≡ kstamp → n ≡ o → d ≡ b → reply ≡ later
    → IsCertified small_faulty claims c stamp n d reply → IsCertified small_faulty claims c kstamp o b later
full_named claims c stamp kstamp n o d b reply later stamp_is n_is d_is reply_is full =
    subst (λ (z : Reply). IsCertified small_faulty claims c kstamp o b z) reply_is
    (subst (λ (z : List ℕ). IsCertified small_faulty claims c kstamp o z reply) d_is
    (subst (λ (z : ℕ). IsCertified small_faulty claims c kstamp z d reply) n_is (subst (λ (z : ℕ). IsCertified small_faulty claims c z n d reply) stamp_is full)))

all_three : {A : Type 0} (P : A → Type 0) (a b c : A) → P a → P b → P c → All P (a ∷ b ∷ c ∷ [])
all_three P a b c x y z = All-cons P a (b ∷ c ∷ []) x (All-cons P b (c ∷ []) y (All-cons P c [] z (All-nil P)))

module _ {S : Type 0} (machine : Machine S) (m : Request) where
  abbrev one : List Request
  one = m ∷ []

  abbrev z : Zcert
  z = kept_z machine m

  abbrev IsSmall : List Act → Act → Type 0
  IsSmall acts a = IsLawfulBy rules.Certified small_faulty BeginsThere (ZcertCalls machine small_faulty) acts a

  asks : IsOtherBy rules.Certified small_faulty (begun_z machine m) (of_client machine m [] (asks_for m ∷ []) (Invoked 1 m.client m ∷ []))
  asks = by_client m.client refl (record {
    invokes = λ j k q has.
        let e = Contains-one (Invoked 1 m.client m) (Invoked j k q) has in
        let q_is : m ≡ q = cc (e) in
        (cc (e), cc (e), ap (λ r. r.client) (sym q_is), λ n also same. let f = Contains-one (Invoked 1 m.client m) (Invoked 1 m.client n) also in cc (f, q_is));
    asks = λ s has. request m (sym (Contains-one (asks_for m) s has)) (Contains-head (Invoked 1 m.client m) []);
    commits = λ j k q n e y has. let f = Contains-one (Invoked 1 m.client m) (Committed j k q n e y) has in absurd (cc (f));
    takes = λ j p h has. let f = Contains-one (Invoked 1 m.client m) (Cert j p h) has in absurd (cc (f));
    enters = λ j r h has. let f = Contains-one (Invoked 1 m.client m) (Init j r h) has in absurd (cc (f));
    whole = λ s has. ap is_whole_seen (sym (Contains-one (Invoked 1 m.client m) s has));
  })

  commits_in : (acts : List Act) (votes : List Content) → Contains (observations acts) (Invoked 1 m.client m) → IsCertified small_faulty votes m.client m.stamp 1 (digest_of (m ∷ [])) (reply_to machine m)
      → IsOtherBy rules.Certified small_faulty acts (of_client machine m votes [] (Committed 1 m.client m 1 (digest_of (m ∷ [])) (reply_to machine m) ∷ []))
  commits_in acts votes invoked full = by_client m.client refl (record {
    invokes = λ j k q has. let f = Contains-one (Committed 1 m.client m 1 (digest_of (m ∷ [])) (reply_to machine m)) (Invoked j k q) has in absurd (cc (f));
    asks = λ s has. absurd (Contains-none s has);
    commits = λ j k q n e y has.
        let f = Contains-one (Committed 1 m.client m 1 (digest_of (m ∷ [])) (reply_to machine m)) (Committed j k q n e y) has in
        let q_is : m ≡ q = cc (f) in
        let stamp_is : m.stamp ≡ q.stamp = ap (λ (z : Request). z.stamp) q_is in (
          cc (f),
          cc (f),
          subst (λ (p : Request). Contains (observations acts) (Invoked 1 m.client p)) q_is invoked,
          full_named votes m.client m.stamp q.stamp 1 n (digest_of (m ∷ [])) e (reply_to machine m) y stamp_is (cc (f)) (cc (f)) (cc (f)) full,
        );
    takes = λ j p h has. let f = Contains-one (Committed 1 m.client m 1 (digest_of (m ∷ [])) (reply_to machine m)) (Cert j p h) has in absurd (cc (f));
    enters = λ j r h has. let f = Contains-one (Committed 1 m.client m 1 (digest_of (m ∷ [])) (reply_to machine m)) (Init j r h) has in absurd (cc (f));
    whole = λ s has. ap is_whole_seen (sym (Contains-one (Committed 1 m.client m 1 (digest_of (m ∷ [])) (reply_to machine m)) s has));
  })

  takes_in : (acts : List Act) (given : List Content) (h : List Request) → IsKeptCert small_faulty given h → IsOtherBy rules.Certified small_faulty acts (of_client machine m given [] (Cert 1 (Client m.client) h ∷ []))
  takes_in acts given h cert = by_client m.client refl (record {
    invokes = λ j k q has. let f = Contains-one (Cert 1 (Client m.client) h) (Invoked j k q) has in absurd (cc (f));
    asks = λ s has. absurd (Contains-none s has);
    commits = λ j k q n e y has. let f = Contains-one (Cert 1 (Client m.client) h) (Committed j k q n e y) has in absurd (cc (f));
    takes = λ j p k has.
        let f = Contains-one (Cert 1 (Client m.client) h) (Cert j p k) has in
        let k_is : h ≡ k = cc (f) in (cc (f), subst (λ (l : List Request). IsKeptCert small_faulty given l) k_is cert);
    enters = λ j r k has. let f = Contains-one (Cert 1 (Client m.client) h) (Init j r k) has in absurd (cc (f));
    whole = λ s has. ap is_whole_seen (sym (Contains-one (Cert 1 (Client m.client) h) s has));
  })

  nothing_rises : IsHistory []
  nothing_rises = λ i j e lt in_h. absurd (omega (arith, in_h))

  begins : (acts : List Act) (r : ℕ) → r < 4 → state_of acts r ≡ None → IsSmall acts (begins_z r)
  begins acts r lt none = first r [] (begun_with []) lt none nothing_rises (λ _. refl) (record { based = refl; logged = refl }) refl

  answers : (acts : List Act) (r : ℕ) → r < 4 → state_of acts r ≡ Some (begun_with []) → IsSmall acts (answers_z machine m r)
  answers acts r lt was = call r (asks_for m ∷ []) [] (spec_by machine m r ∷ []) [] (begun_with []) (keeping m false None) lt was (record {
    based = refl;
    grows = (one, refl);
    rises = short machine m;
    frozen = λ halt. absurd (cc (halt));
    keeps = λ n is. is;
    rests = λ halt. refl;
    added = λ q has. inr (subst (λ (k : Request). Contains (asks_for m ∷ []) (asks_for k)) (Contains-one m q has) (Contains-head (asks_for m) []));
    states = λ s has. inr (inl (record {
      m = m;
      n = 1;
      reply = reply_to machine m;
      says = sym (Contains-one (spec_by machine m r) s has);
      replied = record { before = 0; stands = refl; reply_is = refl };
      above = omega arith;
      reaches = omega arith;
      asked = Contains-head (asks_for m) [];
    }));
  }) (unmarked refl) refl

  keeps : (acts : List Act) (r : ℕ) → r < 4 → state_of acts r ≡ Some (keeping m false None) → IsSmall acts (keeps_z machine m r)
  keeps acts r lt was = call r (specs_z machine m) [] (told_by machine m r ∷ []) [] (keeping m false None) (keeping m false (Some z)) lt was (record {
    based = refl;
    grows = prefix_refl one;
    rises = short machine m;
    frozen = λ halt. absurd (cc (halt));
    keeps = λ n is. absurd is;
    rests = λ halt. absurd (cc (halt));
    added = λ q has. inl has;
    states = λ s has. inr (inr (record { c = m.client; stamp = m.stamp; n = 1; says = sym (Contains-one (told_by machine m r) s has); reaches = omega arith; keeps = omega arith }));
  }) (unmarked refl) refl

  -- a stop leaves log and certificate as they are
  halts : (acts : List Act) (r : ℕ) (log : List Request) (k : Option Zcert) → r < 4 → IsHistory log → state_of acts r ≡ Some (record { entered = []; base = []; log = log; stopped = false; first = None; zcert = k })
      → IsSmall acts (record { party = Replica r; claims = []; values = []; made = []; observations = []; state = Some (record { entered = []; base = []; log = log; stopped = true; first = None; zcert = k }) })
  halts acts r log k lt rises was = call r [] [] [] [] (record { entered = []; base = []; log = log; stopped = false; first = None; zcert = k }) (record { entered = []; base = []; log = log; stopped = true; first = None; zcert = k }) lt was (record {
    based = refl;
    grows = prefix_refl log;
    rises = rises;
    frozen = λ halt. absurd (cc (halt));
    keeps = λ n is. is;
    rests = λ halt. refl;
    added = λ q has. inl has;
    states = λ s has. absurd (Contains-none s has);
  }) (unmarked refl) refl

  abort_lawful : (acts : List Act) (r : ℕ) (s : State) → r < 4 → s.stopped ≡ true → state_of acts r ≡ Some s → IsSmall acts (abort_by rules.Certified small_faulty r s)
  abort_lawful acts r s lt halt was = other (aborts r s lt was halt refl)

  abbrev three : List ℕ
  three = 0 ∷ 1 ∷ 2 ∷ []

  stated : (claims : List Content) (says : ℕ → Content) → Contains claims (says 0) → Contains claims (says 1) → Contains claims (says 2) → AreStated 3 small_faulty claims says
  unfolding IsDistinct
  stated claims says by_0 by_1 by_2 = record {
    by = three;
    enough = refl;
    each_once = ((refl, (refl, tt)), ((refl, tt), (tt, tt)));
    within = all_three (λ r. r < 4) 0 1 2 (omega arith) (omega arith) (omega arith);
    stated = all_three (λ r. Contains claims (says r)) 0 1 2 by_0 by_1 by_2;
  }

  full : IsCertified small_faulty (commit_claims_z machine m) m.client m.stamp 1 (digest_of one) (reply_to machine m)
  full = by_kept (stated (commit_claims_z machine m) (told_by machine m) (0, omega arith, refl) (1, omega arith, refl) (2, omega arith, refl))
      (stated (commit_claims_z machine m) (spec_by machine m) (3, omega arith, refl) (4, omega arith, refl) (5, omega arith, refl))

  abbrev lists : List (List Request)
  lists = [] ∷ one ∷ [] ∷ []

  -- no more than one list begins with a request
  ext : IsExtension 2 lists one one
  ext = record {
    extends = prefix_refl one;
    held = inl refl;
    longest = λ g begins held.
        let some : 1 ≤ length g = prefix_length one g begins in
        let tests = λ (l : List Request). starts_with request_eq l g in
        let not' : tests [] ≡ false = elim (cases_Bool (tests [])) [
          | inl yes' ↦ absurd (omega (arith, some, prefix_length g [] ((starts_with-Decides [] g).0 yes')))
          | inr no' ↦ no'
        ] in
        let rest = count_by-no tests [] [] not' in
        elim (cases_Bool (tests one)) [
          | inl here ↦ absurd (omega (arith, held, count_by-no tests [] (one ∷ [] ∷ []) not', count_by-yes tests one ([] ∷ []) here, rest))
          | inr out ↦ absurd (omega (arith, held, count_by-no tests [] (one ∷ [] ∷ []) not', count_by-no tests one ([] ∷ []) out, rest))
        ];
  }

  abbrev vote : ℕ → List Request → Option Zcert → Kept
  vote r log k = record { by = r; log = log; zcert = k }

  abbrev votes : List Kept
  votes = vote 1 [] None ∷ vote 2 one (Some z) ∷ vote 3 [] None ∷ []

  up_to : AreUpTo 1 votes
  up_to v y has there =
      elim (Contains-cons_cases (vote 1 [] None) (vote 2 one (Some z) ∷ vote 3 [] None ∷ []) v has) [
        | inl e ↦ absurd (let f : None ≡ Some y = ap (λ (u : Kept). u.zcert) e ∙ there in cc (f))
        | inr more ↦ elim (Contains-cons_cases (vote 2 one (Some z)) (vote 3 [] None ∷ []) v more) [
          | inl e ↦ let f : Some z ≡ Some y = ap (λ (u : Kept). u.zcert) e ∙ there in let n_is : z ≡ y = cc (f) in omega (arith, ap (λ (w : Zcert). w.n) n_is)
          | inr last ↦ absurd (let f : None ≡ Some y = ap (λ (u : Kept). u.zcert) (Contains-one (vote 3 [] None) v last) ∙ there in cc (f))
        ]
      ]

  cert : IsKeptCert small_faulty (cert_claims_z machine m) one
  unfolding IsDistinct
  cert = record {
    votes = votes;
    enough = refl;
    each_once = ((refl, (refl, tt)), ((refl, tt), (tt, tt)));
    within = all_three (λ (v : Kept). v.by < 4) (vote 1 [] None) (vote 2 one (Some z)) (vote 3 [] None) (omega arith) (omega arith) (omega arith);
    signed = all_three (λ (v : Kept). Contains (cert_claims_z machine m) (AbortZ (Replica v.by) 1 v.log v.zcert)) (vote 1 [] None) (vote 2 one (Some z)) (vote 3 [] None) (0, omega arith, refl) (1, omega arith, refl) (2, omega arith, refl);
    beside = all_three (λ (v : Kept). IsKeptBeside small_faulty (cert_claims_z machine m) v.log v.zcert) (vote 1 [] None) (vote 2 one (Some z)) (vote 3 [] None) tt
        ((omega arith, refl), stated (cert_claims_z machine m) (spec_by machine m) (3, omega arith, refl) (4, omega arith, refl) (5, omega arith, refl)) tt;
    agreed = with_zcert (vote 2 one (Some z)) z (1, omega arith, refl) refl up_to ext;
  }

  lawful : AreZcertLawful machine small_faulty (small_zcert machine m)
  lawful = (
    other (takes_in (aborted_z machine m) (cert_claims_z machine m) one cert),
    refl,
    (
      abort_lawful _ 3 empty_stopped (omega arith) refl refl,
      refl,
      (
        abort_lawful _ 2 (keeping m true (Some z)) (omega arith) refl refl,
        refl,
        (
          halts _ 3 [] None (omega arith) nothing_rises refl,
          refl,
          (
            halts _ 2 one (Some z) (omega arith) (short machine m) refl,
            refl,
            (
              other (commits_in (told_z machine m) (commit_claims_z machine m) (Contains-head (Invoked 1 m.client m) []) full),
              refl,
              (
                keeps _ 2 (omega arith) refl,
                refl,
                (
                  keeps _ 0 (omega arith) refl,
                  refl,
                  (
                    answers _ 2 (omega arith) refl,
                    refl,
                    (
                      answers _ 0 (omega arith) refl,
                      refl,
                      (
                        other asks,
                        refl,
                        (begins _ 3 (omega arith) refl, refl, (begins _ 2 (omega arith) refl, refl, (begins _ 0 (omega arith) refl, refl, tt))),
                      ),
                    ),
                  ),
                ),
              ),
            ),
          ),
        ),
      ),
    ),
  )

  -- ---- each claim of a correct party was made

  abbrev IsMade : List Act → Content → Type 0
  IsMade acts c = is_faulty small_faulty.faulty (maker_of c) ≡ false → WasMade acts c

  asked_honest : (acts : List Act) (c : Content) → Contains acts (of_client machine m [] (asks_for m ∷ []) (Invoked 1 m.client m ∷ [])) → Contains (asks_for m ∷ []) c → WasMade acts c
  asked_honest acts c is has = (of_client machine m [] (asks_for m ∷ []) (Invoked 1 m.client m ∷ []), is, has)

  spec_made : (acts : List Act) (r : ℕ) → Contains acts (answers_z machine m r) → WasMade acts (spec_by machine m r)
  spec_made acts r is = (answers_z machine m r, is, Contains-head (spec_by machine m r) [])

  -- replica 1 is faulty, so nothing is asked of what it states
  specs_honest : (acts : List Act) → Contains acts (answers_z machine m 0) → Contains acts (answers_z machine m 2) → All (IsMade acts) (specs_z machine m)
  specs_honest acts by_0 by_2 = all_three (IsMade acts) (spec_by machine m 0) (spec_by machine m 1) (spec_by machine m 2) (λ _. spec_made acts 0 by_0) (λ good. absurd (cc (good))) (λ _. spec_made acts 2 by_2)

  each_made : (acts : List Act) (claims : List Content) → All (IsMade acts) claims → (c : Content) → Contains claims c → is_faulty small_faulty.faulty (maker_of c) ≡ false → WasMade acts c
  each_made acts claims all c has = All-contains (IsMade acts) claims c all has

  commit_honest : All (IsMade (told_z machine m)) (commit_claims_z machine m)
  commit_honest =
      let acts = told_z machine m in
      All-cons (IsMade acts) (told_by machine m 0) (told_by machine m 1 ∷ told_by machine m 2 ∷ specs_z machine m) (λ _. (keeps_z machine m 0, (1, omega arith, refl), Contains-head (told_by machine m 0) []))
      (All-cons (IsMade acts) (told_by machine m 1) (told_by machine m 2 ∷ specs_z machine m) (λ good. absurd (cc (good)))
      (All-cons (IsMade acts) (told_by machine m 2) (specs_z machine m) (λ _. (keeps_z machine m 2, (0, omega arith, refl), Contains-head (told_by machine m 2) []))
      (specs_honest acts (3, omega arith, refl) (2, omega arith, refl))))

  cert_honest : All (IsMade (aborted_z machine m)) (cert_claims_z machine m)
  cert_honest =
      let acts = aborted_z machine m in
      All-cons (IsMade acts) (abort_z machine m 1 [] None) (abort_z machine m 2 one (Some z) ∷ abort_z machine m 3 [] None ∷ specs_z machine m) (λ good. absurd (cc (good)))
      (All-cons (IsMade acts) (abort_z machine m 2 one (Some z)) (abort_z machine m 3 [] None ∷ specs_z machine m) (λ _. (abort_by rules.Certified small_faulty 2 (keeping m true (Some z)), (1, omega arith, refl), Contains-head (abort_z machine m 2 one (Some z)) []))
      (All-cons (IsMade acts) (abort_z machine m 3 [] None) (specs_z machine m) (λ _. (abort_by rules.Certified small_faulty 3 empty_stopped, (0, omega arith, refl), Contains-head (abort_z machine m 3 [] None) []))
      (specs_honest acts (8, omega arith, refl) (7, omega arith, refl))))

  honest : IsHonest small_faulty (small_zcert machine m)
  honest = (
    each_made (aborted_z machine m) (cert_claims_z machine m) cert_honest,
    (
      λ c has _. absurd (Contains-none c has),
      (
        λ c has _. absurd (Contains-none c has),
        (
          λ c has _. absurd (Contains-none c has),
          (
            λ c has _. absurd (Contains-none c has),
            (
              each_made (told_z machine m) (commit_claims_z machine m) commit_honest,
              (
                each_made (keeps_z machine m 0 ∷ answered_z machine m) (specs_z machine m) (specs_honest (keeps_z machine m 0 ∷ answered_z machine m) (2, omega arith, refl) (1, omega arith, refl)),
                (
                  each_made (answered_z machine m) (specs_z machine m) (specs_honest (answered_z machine m) (1, omega arith, refl) (0, omega arith, refl)),
                  (
                    λ c has _. asked_honest (answers_z machine m 0 ∷ invoked_z machine m) c (1, omega arith, refl) has,
                    (
                      λ c has _. asked_honest (invoked_z machine m) c (0, omega arith, refl) has,
                      (
                        λ c has _. absurd (Contains-none c has),
                        (λ c has _. absurd (Contains-none c has), (λ c has _. absurd (Contains-none c has), (λ c has _. absurd (Contains-none c has), tt))),
                      ),
                    ),
                  ),
                ),
              ),
            ),
          ),
        ),
      ),
    ),
  )

  pub zcert_witness : NoCollision (histories (small_zcert machine m)) → SlotsApart (bases (small_zcert machine m)) (requests (small_zcert machine m)) → IsZcertSound machine small_faulty (small_zcert machine m)
  zcert_witness apart slots = record { later_than_none = omega arith; lawful = lawful; premises = record { few = omega arith; honest = honest; apart = apart; slots = slots } }
