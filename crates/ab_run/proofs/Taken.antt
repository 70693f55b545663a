-- A certificate of trimmed logs that a correct client checked is one of whole logs among acts, with the history that its logs name.
use Rattle.std.proofs.Common.{◌≡◌, ℕ, ◌+◌, ◌*◌, ◌≤◌, ◌==◌, Bool, true, false, Option, Some, List, [], ◌∷◌, ◌++◌, ◌⊎◌, length, map, take, refl, sym, ap, ◌∙◌, subst, inl, inr, arith}
use Rattle.std.specs.Prelude.{Contains, nat_eq, count_by}
use Rattle.std.specs.List.{IsDistinct}
use Rattle.std.proofs.lemmas.Bool.{and_parts, eqb-true}
use Rattle.std.proofs.lemmas.List.{take_all}
use Rattle.std.proofs.lemmas.List.Elements.{Contains-append_left, Contains-append_right, Contains-append_cases}
use mathlib.Core.List.{IsPrefix}
use base.Growing.{prefix_trans, prefix_refl}
use Rattle.ab_num.specs.declared.plan.Kind.{Kind}
use Rattle.ab_num.specs.declared.party.Party.TheVariants.{Replica, Client}
use Rattle.ab_num.proofs.Lists.{Contains-head, Contains-tail, Contains-cons_cases, Contains-flat_map, Contains-none}
use Rattle.ab_hist.specs.declared.request.Request.{Request}
use Rattle.ab_hist.specs.Digests.{NoCollision, digest_of}
use Rattle.ab_hist.specs.Trimmed.{Trimmed, untrimmed, end_of, digest_at}
use Rattle.ab_svc.specs.Machines.{Machine}
use Rattle.ab_msg.specs.declared.content.Content.{Content}
use Rattle.ab_msg.specs.declared.content.Content.TheVariants.{Abort, TrimmedAbort}
use Rattle.ab_msg.specs.declared.signed.Signed.{Signed}
use Rattle.ab_msg.specs.declared.message.Msg.{Msg}
use Rattle.ab_msg.specs.Carried.{is_replica, stated_history}
use Rattle.ab_msg.specs.Claims.{maker_of, kept_claims, signed_contents}
use Rattle.ab_trim.specs.Links.{links_of, links_of_all, links_in, NoneCollide}
use Rattle.ab_trim.proofs.Stands.{ends, digests}
use Rattle.ab_abs.specs.Faults.{is_faulty}
use Rattle.ab_abs.specs.Acts.{WasMade}
use Rattle.ab_abs.specs.Certificates.{are_apart}
use Rattle.ab_abs.specs.Deeds.{acts_in}
use Rattle.ab_abs.specs.Ensembles.{Proto, Ensemble}
use Rattle.ab_abs.specs.Observations.{whole_in}
use Rattle.ab_abs.proofs.Certified.{apart_distinct}
use Rattle.ab_stable.specs.Certs.{Stated, lists_of, IsFair, IsWholeCert}
use Rattle.ab_stable.specs.CertActs.{IsTrimmedCert, MeetsForgetting, faulty_in}
use Rattle.ab_stable.specs.Offers.{are_whole, list_of}
use Rattle.ab_stable.proofs.CertActs.{valid_cert}
use Rattle.ab_stable.proofs.EnsembleLogs.{abort_logs}
use Rattle.ab_stable.proofs.FoundLists.{found_agrees}
use Rattle.ab_run.specs.Setups.{RunSetup, within, replicas}
use Rattle.ab_run.specs.Runs.{Run, stated_list, checks, histories_for, requests_for, named_by}
use Rattle.ab_run.specs.Acted.{entry_claims}
use Rattle.ab_run.proofs.Did.{BeginsOne, begins_itself}
use Rattle.ab_run.proofs.Kept.{AreRules}
use Rattle.ab_run.proofs.Links.{no_collision}
use Rattle.ab_run.proofs.Reasons.{IsGood}
use Rattle.ab_run.proofs.Moves.{IsTaken, TakeMay}
use Rattle.ab_run.proofs.Hears.{WasChecked, TakesAll}
use Rattle.ab_run.proofs.Fronts.{IsKnown}
use Rattle.ab_run.proofs.Entering.{IsStatedBy, whole, trimmed, AreAgreed, list_agreed, votes_found, votes_within}
use Rattle.ab_run.proofs.Entered.{meets, logs_had, list_certified, list_known}
use Rattle.ab_run.proofs.Showing.{IsNamedList}
use Rattle.ab_run.proofs.Whole.{whole_list}

-- with a history that begins one of these, no more digests collide
begun_apart : (had : List (List Request)) (h : List Request) → NoCollision had → BeginsOne had h → NoCollision (h ∷ had)
begun_apart had h free begun g l a b in_g in_l front back same =
    let one = of g in_g in
    let two = of l in_l in
    free one.0 two.0 a b one.1 two.1 (prefix_trans a g one.0 front one.2) (prefix_trans b l two.0 back two.2) same
  where
    of : (x : List Request) → Contains (h ∷ had) x → BeginsOne had x
    of x has = elim (Contains-cons_cases h had x has) [
      | inl e ↦ subst (λ (z : List Request). BeginsOne had z) e begun
      | inr there ↦ begins_itself had x there
    ]

-- nothing but nothing begins nothing
begins_nothing : (h l : List Request) → IsPrefix h l → l ≡ [] → [] ≡ h
begins_nothing [] l is none = refl
begins_nothing (m ∷ h) l is none = let both : m ∷ (h ++ is.0) ≡ [] = is.1 ∙ none in absurd (cc (both))

module _ {S P : Type 0} (machine : Machine S) (k : RunSetup) (proto : Proto P) (serves : Kind → Bool) (law : AreRules k proto serves) (w : Run P) (v : Ensemble P) (known : IsKnown machine k proto serves law w v)
    (c : ℕ) (m : Msg) (empty : Contains w.had []) (few : count_by is_replica k.faulty ≤ k.cluster.f)
    (apart : NoneCollide (checks k (Client c) m w).had (checks k (Client c) m w).lists) where
  abbrev now : Run P
  now = checks k (Client c) m w

  abbrev had : List (List Request)
  had = now.had

  abbrev links : List (List ℕ × Request)
  links = links_of_all had ++ links_in now.lists

  bigger : (l : List Request) → Contains w.had l → Contains had l
  bigger l has = Contains-append_right (histories_for k (Client c) m) w.had l has

  free : NoCollision had
  free = no_collision had now.lists apart

  stated : (i q : ℕ) (l : List Request) → IsGood k q → WasMade (acts_in i v.run) (Abort (Replica q) i l) → l ≡ w.log i q
  stated i q l good made = (abort_logs proto serves law.form k.cluster k.faulty law.all v known.keeps.reached i q l made).0 ∙ sym (known.keeps.log i q good.0 good.1)

  had_logs : (i q : ℕ) → IsGood k q → (w.log i q ≡ []) ⊎ Contains had (w.log i q)
  had_logs i q good = elim (known.vouched.had_of i q good) [ inl none ↦ inl none | inr has ↦ inr (bigger (w.log i q) has) ]

  -- what is hashed along a history that was had
  had_links : (h : List Request) (a : List ℕ × Request) → Contains had h → Contains (links_of (untrimmed h)) a → Contains links a
  had_links h a has on = Contains-append_left (links_of_all had) (links_in now.lists) a (Contains-flat_map (λ (g : List Request). links_of (untrimmed g)) had h a has on)

  module _ (j : ℕ) (cert : List Signed) (t : Trimmed) (part : are_whole cert ≡ false) (listed : list_of k.cluster j cert ≡ Some t) (checked : WasChecked k proto serves law v.run now cert) where
    honest : (s : Content) → Contains (signed_contents cert) s → is_faulty k.faulty (maker_of s) ≡ false → Contains w.made s
    honest s has correct = checked.0.honest s has correct

    agreed : AreAgreed k.cluster j cert t
    agreed = list_agreed k.cluster j cert t listed

    abbrev votes : List Stated
    votes = agreed.votes

    forgets : MeetsForgetting (within k j) (w.log j) votes
    forgets = meets machine k proto serves law w v known had free bigger few j cert t honest agreed

    is_cert : IsTrimmedCert (within k j) votes t
    is_cert =
        let both = and_parts (length votes == (2 * k.cluster.f + 1)) (are_apart (map (λ (u : Stated). u.by) votes)) agreed.enough in
        record {
          enough = eqb-true (length votes) (2 * k.cluster.f + 1) both.0;
          each_once = apart_distinct (map (λ (u : Stated). u.by) votes) both.1;
          within = votes_within k.cluster j cert votes agreed.stated;
          agreed = found_agrees (k.cluster.f + 1) (lists_of votes) (omega arith) t agreed.agreed;
        }

    -- what is hashed along the lists
    list_links : (u : Stated) (a : List ℕ × Request) → Contains votes u → Contains (links_of u.list) a → Contains links a
    list_links u a has on =
        let found = votes_found k.cluster j cert votes agreed.stated u has in
        by_says found.signed.content found.vote.says
        (λ h e. checked.0.kept h (Contains-append_left _ [] h (Contains-flat_map stated_history (signed_contents cert) found.signed.content h
        (Contains-flat_map (λ (s : Signed). s.content ∷ kept_claims s.content) cert found.signed found.signed.content found.there (Contains-head found.signed.content (kept_claims found.signed.content)))
        (subst (λ (s : Content). Contains (stated_history s) h) (sym e) (Contains-head h [])))))
        (λ e. checked.1 found.signed found.there u.list (subst (λ (s : Content). Contains (stated_list s) u.list) (sym e) (Contains-head u.list [])))
      where
        by_says : (s : Content) → IsStatedBy j s u → ((h : List Request) → s ≡ Abort (Replica u.by) j h → Contains had h) → (s ≡ TrimmedAbort (Replica u.by) j u.list.start u.list.digest u.list.rest → Contains now.lists u.list) → Contains links a
        by_says s (whole h says list_is) one two = had_links h a (one h says) (subst (λ (l : Trimmed). Contains (links_of l) a) list_is on)
        by_says s (trimmed says) one two = Contains-append_right (links_of_all had) (links_in now.lists) a (Contains-flat_map links_of now.lists u.list a (two says) on)

    -- and along the logs
    log_links : (u : Stated) (a : List ℕ × Request) → IsFair (faulty_in (within k j)) votes u → Contains (links_of_all (w.log j u.by ∷ [])) a → Contains links a
    log_links u a fair on =
        let log = w.log j u.by in
        elim (Contains-append_cases (links_of (untrimmed log)) [] a on) [
          | inl here ↦ elim (logs_had machine k proto serves law w v known had free bigger few j cert t honest agreed u fair) [
            | inl none ↦ absurd (Contains-none a (subst (λ (l : List Request). Contains (links_of (untrimmed l)) a) none here))
            | inr has ↦ had_links log a has here
          ]
          | inr none ↦ absurd (Contains-none a none)
        ]

    found : (h : List Request) × IsWholeCert k.cluster.f (faulty_in (within k j)) (w.log j) links votes t h
    found = let made = valid_cert (within k j) (w.log j) links votes t is_cert forgets (record { apart = apart; lists = list_links; logs = log_links }) in (made.0, made.1)

    abbrev h : List Request
    h = found.0

    begun : BeginsOne had h
    begun =
        let u = found.1.holder in
        elim (logs_had machine k proto serves law w v known had free bigger few j cert t honest agreed u found.1.fair) [
          | inl none ↦ subst (λ (g : List Request). BeginsOne had g) (begins_nothing h (w.log j u.by) found.1.begins none) (begins_itself had [] (bigger [] empty))
          | inr has ↦ (w.log j u.by, has, found.1.begins)
        ]

    long : length h ≡ end_of t
    long = sym (ends t h found.1.stands)

    same_digest : digest_of h ≡ digest_at t (end_of t)
    same_digest = sym (digests t h found.1.stands (end_of t) (omega arith) ∙ ap digest_of (take_all (end_of t) h (omega (arith, long))))

    taken : IsTaken k v.run had now.asked j (entry_claims k (w.log j) j cert h) h × IsNamedList k v.run j h t
    taken =
        let wider = begun_apart had h free begun in
        let more : (l : List Request) → Contains w.had l → Contains (h ∷ had) l = λ l has. Contains-tail h l had (bigger l has) in
        let certified = list_certified machine k proto serves law w v known (h ∷ had) wider more few j cert t honest agreed h (Contains-head h had) long same_digest part empty in (
          record {
            valid = certified.valid;
            honest = certified.honest;
            kept = λ l has. elim (Contains-cons_cases h w.had l (certified.kept l has)) [
              | inl e ↦ subst (λ (g : List Request). BeginsOne had g) e begun
              | inr old ↦ begins_itself had l (bigger l old)
            ];
            opened = λ q has. Contains-append_right (requests_for k (Client c) m) w.asked q (certified.opened q has);
          },
          record {
            stands = found.1.stands;
            known = list_known machine k proto serves law w v known (h ∷ had) wider more few j cert t honest agreed h (Contains-head h had) long same_digest;
          },
        )

    may : TakeMay k proto serves v.run now j cert t
    may =
        let as_named : h ≡ whole_in (named_by k now) j t = sym (whole_list k v.run w.log had free had_logs stated j h t taken.1) in
        subst (λ (g : List Request). IsTaken k v.run had now.asked j (entry_claims k (w.log j) j cert g) g × IsNamedList k v.run j g t) as_named taken

  pub takes_all : TakesAll k proto serves law v.run now
  takes_all j cert t part listed checked = may j cert t part listed checked
