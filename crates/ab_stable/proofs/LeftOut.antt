-- Acts without those by which replicas make CHECKPOINTs and forget.
use Rattle.std.proofs.Common.{◌≡◌, ℕ, ◌+◌, ◌*◌, Bool, true, false, not, List, [], ◌++◌, refl, sym, ap, ◌∙◌, subst, inl, inr}
use Rattle.std.specs.Prelude.{Contains, flat_map, if◌then◌else◌}
use Rattle.std.specs.List.{filter}
use Rattle.std.proofs.lemmas.List.Elements.{Contains-append_left, Contains-append_right, Contains-append_cases}
use Rattle.ab_num.proofs.Lists.{Contains-none, Contains-head, Contains-tail, Contains-cons_cases, Contains-flat_map, flat_map_cases, Contains-filter_cases}
use Rattle.ab_num.specs.Parties.{party_eq}
use Rattle.ab_num.specs.declared.party.Party.TheVariants.{Replica}
use Rattle.ab_hist.specs.declared.request.Request.{Request}
use Rattle.ab_svc.specs.Machines.{Machine}
use Rattle.ab_msg.specs.declared.content.Content.{Content}
use Rattle.ab_msg.specs.Carried.{stated_history, stated_request, value_histories, value_requests}
use Rattle.ab_abs.specs.declared.seen.Seen.{Seen}
use Rattle.ab_abs.specs.Acts.{Setting, Act, observations, newer, state_of, log_at, log_of, named_in, logs_in_state, firsts_in_state, histories_of_act, histories, bases_of_act, bases, requests_of_act, requests, WasMade, IsHonest, Premises}
use Rattle.ab_abs.specs.Instances.{IsAbstract}
use Rattle.ab_abs.specs.Observations.{history_at}
use Rattle.ab_abs.proofs.Facts.{state_quiet}
use Rattle.ab_stable.specs.Leaving.{mark_of, forget_of, unmarked_act, Leaves, nothing, kept, marks, forgets}

module _ (is_mark : Content → Bool) where
  -- where replicas are, and what is seen, is the same
  pub same_state : (acts bare : List Act) (r : ℕ) → Leaves is_mark acts bare → state_of acts r ≡ state_of bare r
  same_state acts bare r nothing = refl
  same_state acts bare r (kept a older rest more) = ap (λ o. if party_eq (Replica r) a.party then newer a.state o else o) (same_state older rest r more)
  same_state acts bare r (marks q c older rest is more) = state_quiet (mark_of q c) older r refl ∙ same_state older rest r more
  same_state acts bare r (forgets q older rest more) = state_quiet (forget_of q) older r refl ∙ same_state older rest r more

  pub same_seen : (acts bare : List Act) → Leaves is_mark acts bare → observations acts ≡ observations bare
  same_seen acts bare nothing = refl
  same_seen acts bare (kept a older rest more) = ap (λ seen. a.observations ++ seen) (same_seen older rest more)
  same_seen acts bare (marks q c older rest is more) = same_seen older rest more
  same_seen acts bare (forgets q older rest more) = same_seen older rest more

  pub same_logs : (acts bare : List Act) → Leaves is_mark acts bare → log_of acts ≡ log_of bare
  same_logs acts bare left = λ i r. log_at (same_state acts bare r left i)

  -- what isn't a CHECKPOINT was made all the same
  made_still : (acts bare : List Act) (c : Content) → Leaves is_mark acts bare → is_mark c ≡ false → WasMade acts c → WasMade bare c
  made_still acts bare c nothing no_mark made = made
  made_still acts bare c (kept a older rest more) no_mark made =
      elim (Contains-cons_cases a older made.0 made.1) [
        | inl e ↦ (unmarked_act is_mark a, Contains-head (unmarked_act is_mark a) rest, subst (λ (b : Act). Contains b.made c) (sym e) made.2)
        | inr later ↦ let w = made_still older rest c more no_mark (made.0, later, made.2) in (w.0, Contains-tail (unmarked_act is_mark a) w.0 rest w.1, w.2)
      ]
  made_still acts bare c (marks q mark older rest is more) no_mark made =
      elim (Contains-cons_cases (mark_of q mark) older made.0 made.1) [
        | inl e ↦ elim (Contains-cons_cases mark [] c (subst (λ (b : Act). Contains b.made c) (sym e) made.2)) [
          | inl same ↦ absurd (let two : true ≡ false = sym is ∙ (ap is_mark same ∙ no_mark) in cc (two))
          | inr none ↦ absurd (Contains-none c none)
        ]
        | inr later ↦ made_still older rest c more no_mark (made.0, later, made.2)
      ]
  made_still acts bare c (forgets q older rest more) no_mark made =
      elim (Contains-cons_cases (forget_of q) older made.0 made.1) [
        | inl e ↦ absurd (Contains-none c (subst (λ (b : Act). Contains b.made c) (sym e) made.2))
        | inr later ↦ made_still older rest c more no_mark (made.0, later, made.2)
      ]

  not_false : (b : Bool) → not b ≡ true → b ≡ false
  not_false true is = absurd (cc (is))
  not_false false is = refl

  honest_still : (x : Setting) (acts bare : List Act) → Leaves is_mark acts bare → IsHonest x acts → IsHonest x bare
  honest_still x acts bare nothing honest = honest
  honest_still x acts bare (kept a older rest more) honest = (
    λ c has correct.
        let f = Contains-filter_cases (λ s. not (is_mark s)) a.claims c has in
        made_still older rest c more (not_false (is_mark c) f.1) (honest.0 c f.0 correct),
    honest_still x older rest more honest.1,
  )
  honest_still x acts bare (marks q c older rest is more) honest = honest_still x older rest more honest.1
  honest_still x acts bare (forgets q older rest more) honest = honest_still x older rest more honest.1

  -- what is looked at for digests is no more
  fewer : {B : Type 0} (f : Content → List B) (a : Act) (b : B) → Contains (flat_map f (filter (λ s. not (is_mark s)) a.claims)) b → Contains (flat_map f a.claims) b
  fewer f a b has =
      let r = flat_map_cases f (filter (λ s. not (is_mark s)) a.claims) b has in
      Contains-flat_map f a.claims r.0 b (Contains-filter_cases (λ s. not (is_mark s)) a.claims r.0 r.1).0 r.2

  histories_here : (a : Act) (h : List Request) → Contains (histories_of_act (unmarked_act is_mark a)) h → Contains (histories_of_act a) h
  histories_here a h has =
      let stated = flat_map stated_history a.claims in
      let told = flat_map value_histories a.values in
      elim (Contains-append_cases (logs_in_state a.state) (firsts_in_state a.state ++ (flat_map stated_history (filter (λ s. not (is_mark s)) a.claims) ++ told)) h has) [
        | inl one ↦ Contains-append_left (logs_in_state a.state) (firsts_in_state a.state ++ (stated ++ told)) h one
        | inr more ↦ Contains-append_right (logs_in_state a.state) (firsts_in_state a.state ++ (stated ++ told)) h
            (elim (Contains-append_cases (firsts_in_state a.state) (flat_map stated_history (filter (λ s. not (is_mark s)) a.claims) ++ told) h more) [
              | inl two ↦ Contains-append_left (firsts_in_state a.state) (stated ++ told) h two
              | inr rest ↦ Contains-append_right (firsts_in_state a.state) (stated ++ told) h
                  (elim (Contains-append_cases (flat_map stated_history (filter (λ s. not (is_mark s)) a.claims)) told h rest) [
                    | inl three ↦ Contains-append_left stated told h (fewer stated_history a h three)
                    | inr four ↦ Contains-append_right stated told h four
                  ])
            ])
      ]

  requests_here : (a : Act) (m : Request) → Contains (requests_of_act (unmarked_act is_mark a)) m → Contains (requests_of_act a) m
  requests_here a m has =
      let told = flat_map value_requests a.values in
      elim (Contains-append_cases (flat_map stated_request (filter (λ s. not (is_mark s)) a.claims)) told m has) [
        | inl one ↦ Contains-append_left (flat_map stated_request a.claims) told m (fewer stated_request a m one)
        | inr two ↦ Contains-append_right (flat_map stated_request a.claims) told m two
      ]

  histories_still : (acts bare : List Act) (h : List Request) → Leaves is_mark acts bare → Contains (histories bare) h → Contains (histories acts) h
  histories_still acts bare h nothing has = has
  histories_still acts bare h (kept a older rest more) has =
      elim (Contains-append_cases (histories_of_act (unmarked_act is_mark a)) (histories rest) h has) [
        | inl here ↦ Contains-append_left (histories_of_act a) (histories older) h (histories_here a h here)
        | inr later ↦ Contains-append_right (histories_of_act a) (histories older) h (histories_still older rest h more later)
      ]
  histories_still acts bare h (marks q c older rest is more) has = Contains-append_right (histories_of_act (mark_of q c)) (histories older) h (histories_still older rest h more has)
  histories_still acts bare h (forgets q older rest more) has = histories_still older rest h more has

  bases_still : (acts bare : List Act) (h : List Request) → Leaves is_mark acts bare → Contains (bases bare) h → Contains (bases acts) h
  bases_still acts bare h nothing has = has
  bases_still acts bare h (kept a older rest more) has =
      elim (Contains-append_cases (bases_of_act a) (bases rest) h has) [
        | inl here ↦ Contains-append_left (bases_of_act a) (bases older) h here
        | inr later ↦ Contains-append_right (bases_of_act a) (bases older) h (bases_still older rest h more later)
      ]
  bases_still acts bare h (marks q c older rest is more) has = Contains-append_right (bases_of_act (mark_of q c)) (bases older) h (bases_still older rest h more has)
  bases_still acts bare h (forgets q older rest more) has = bases_still older rest h more has

  requests_still : (acts bare : List Act) (m : Request) → Leaves is_mark acts bare → Contains (requests bare) m → Contains (requests acts) m
  requests_still acts bare m nothing has = has
  requests_still acts bare m (kept a older rest more) has =
      elim (Contains-append_cases (requests_of_act (unmarked_act is_mark a)) (requests rest) m has) [
        | inl here ↦ Contains-append_left (requests_of_act a) (requests older) m (requests_here a m here)
        | inr later ↦ Contains-append_right (requests_of_act a) (requests older) m (requests_still older rest m more later)
      ]
  requests_still acts bare m (marks q c older rest is more) has = Contains-append_right (requests_of_act (mark_of q c)) (requests older) m (requests_still older rest m more has)
  requests_still acts bare m (forgets q older rest more) has = requests_still older rest m more has

  pub premises_still : (acts bare : List Act) (x : Setting) → Leaves is_mark acts bare → Premises x acts → Premises x bare
  premises_still acts bare x left is =
      let more : (h : List Request) → Contains (histories bare) h → Contains (histories acts) h = λ h has. histories_still acts bare h left has in
      let base : (h : List Request) → Contains (bases bare) h → Contains (bases acts) h = λ h has. bases_still acts bare h left has in
      let asked : (m : Request) → Contains (requests bare) m → Contains (requests acts) m = λ m has. requests_still acts bare m left has in
      record {
        few = is.few;
        honest = honest_still x acts bare left is.honest;
        apart = λ h k a b in_h in_k pa pb same. is.apart h k a b (more h in_h) (more k in_k) pa pb same;
        slots = record {
          requests = λ m n in_m in_n same. is.slots.requests m n (asked m in_m) (asked n in_n) same;
          lengths = λ h k in_h in_k same. is.slots.lengths h k (base h in_h) (base k in_k) same;
          digests = λ h k in_h in_k same. is.slots.digests h k (base h in_h) (base k in_k) same;
        };
      }

  pub promises_still : {S : Type 0} (machine : Machine S) (acts bare : List Act) (x : Setting) → Leaves is_mark acts bare → IsAbstract machine (observations bare) (named_in x bare) x.faulty x.i
      → IsAbstract machine (observations acts) (named_in x acts) x.faulty x.i
  promises_still machine acts bare x left is =
      let logs = same_logs acts bare left in
      let seen = same_seen acts bare left in
      subst (λ (s : List Seen). IsAbstract machine s (named_in x acts) x.faulty x.i) (sym seen)
      (subst (λ (l : ℕ → List Request). IsAbstract machine (observations bare) (history_at x.faulty (3 * x.cluster.f + 1) l) x.faulty x.i) (sym logs) is)
