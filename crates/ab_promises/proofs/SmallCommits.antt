-- The acts of the small instances of ZLight and of Chain are own calls, and meet the premises.
use Rattle.std.proofs.Common.{◌≡◌, ℕ, zero, suc, ◌<◌, ◌≤◌, true, false, Option, Some, None, List, [], ◌∷◌, refl, sym, ap, ◌∙◌, subst, inl, inr, arith}
use Rattle.std.specs.Prelude.{Contains}
use Rattle.std.proofs.lemmas.Option.{none-some}
use Rattle.std.proofs.lemmas.List.Elements.{All-nil}
use Rattle.ab_num.specs.declared.plan.Plan.{Plan}
use Rattle.ab_num.specs.declared.plan.Plan.TheVariants as plan
use Rattle.ab_num.specs.declared.party.Party.TheVariants.{Replica, Client}
use Rattle.ab_num.specs.Places.{at_position_of}
use Rattle.ab_num.proofs.Lists.{Contains-none, Contains-one, Contains-head, Contains-cons_cases}
use Rattle.ab_num.proofs.Tests.{bytes_eq-refl}
use Rattle.ab_hist.specs.Digests.{NoCollision}
use Rattle.ab_hist.proofs.DigestLemmas.{length-digest_of}
use Rattle.ab_svc.specs.Machines.{Machine}
use Rattle.ab_msg.specs.declared.content.Content.{Content}
use Rattle.ab_msg.specs.declared.content.Content.TheVariants.{Req, Order, ChainTag}
use Rattle.ab_msg.specs.declared.message.Msg.{Msg}
use Rattle.ab_msg.specs.Claims.{maker_of, instance_in}
use Rattle.ab_msg.specs.Fields.{IsRequest}
use Rattle.ab_msg.specs.Messages.{IsMessage}
use Rattle.ab_msg.specs.Pens.{no_pen}
use Rattle.ab_abs.specs.declared.seen.Seen.{Seen}
use Rattle.ab_abs.specs.declared.seen.Seen.TheVariants.{Invoked, Init, Cert, Committed}
use Rattle.ab_abs.specs.Faults.{is_faulty}
use Rattle.ab_abs.specs.Acts.{Act, Premises, SlotsApart, WasMade, unmarked, observations, histories, bases, requests, state_of}
use Rattle.ab_abs.specs.Kinds.{rule_in}
use Rattle.ab_abs.specs.Rules.{IsFull, IsOther, by_client, request}
use Rattle.ab_abs.specs.Ensembles.{Proto, entry_of, put, MayTake}
use Rattle.ab_abs.specs.Messages.{took, offered}
use Rattle.ab_zlight.specs.Rules.{Light, zlight}
use Rattle.ab_chain.specs.Rules.{ChainState, chain}
use Rattle.ab_promises.specs.OwnCalls.{AreOwnCalls, none_yet, begins, takes, others}
use Rattle.ab_promises.specs.SmallCommits.{last_faulty, one, only, asks, req, order, link, reply, vote, commits, begun, begun_by, taken_by, three_begin, three_take, all_votes, zlight_acts, last_votes, chain_acts}
use Rattle.ab_promises.proofs.EmptyLogs.{rises}
use Rattle.ab_abs.specs.Observations.{is_whole_seen}

-- ---- messages

-- of the grammar, of instance 1, and it offers nothing
record IsTakable (m : Msg) : Type 0 where
  formed : IsMessage m
  placed : instance_in m ≡ Some 1
  shut : offered (took m) ≡ None

is_request : IsRequest 0 15 one
is_request = ((omega arith, omega arith), ((omega arith, omega arith), (omega arith, omega arith)))

takable_req : IsTakable req
takable_req = record { formed = ((refl, ((omega arith, omega arith), is_request)), ((omega arith, omega arith), (((omega arith, omega arith), refl), tt))); placed = refl; shut = refl }

takable_order : IsTakable order
takable_order = record { formed = (((omega arith, omega arith), ((omega arith, omega arith), ((omega arith, omega arith), is_request))), (refl, refl)); placed = refl; shut = refl }

takable_link : IsTakable link
takable_link = record {
  formed = ((omega arith, omega arith), (is_request, ((omega arith, omega arith), (length-digest_of (one ∷ []), (tt, ((omega arith, omega arith), All-nil _))))));
  placed = refl;
  shut = refl;
}

-- ---- the calls are their own

module _ {P : Type 0} (proto : Proto P) (p : Plan) where
  abbrev Own : List Act → (ℕ → Option P) → Type 0
  Own acts left = AreOwnCalls proto (last_faulty p) acts left

  may : (acts : List Act) (r : ℕ) (m : Msg) → IsTakable m → MayTake proto (last_faulty p) acts r no_pen (begun proto p r) (took m) []
  may acts r m is = record { formed = is.formed; for = is.placed; noted = unmarked refl; settled = λ cert offer. absurd (none-some cert (sym is.shut ∙ offer)) }

  invokes : IsOther (last_faulty p) (three_begin proto p) asks
  invokes = by_client 0 refl (record {
    invokes = λ j k q has.
        let e = Contains-one (Invoked 1 0 one) (Invoked j k q) has in
        let q_is : one ≡ q = cc e in
        (cc e, cc e, ap (λ r. r.client) (sym q_is), λ n also same. let f = Contains-one (Invoked 1 0 one) (Invoked 1 0 n) also in cc (f, q_is));
    asks = λ s has. request one (sym (Contains-one (Req (Client 0) 1 one) s has)) (Contains-head (Invoked 1 0 one) []);
    commits = λ j k q n d y has. let f = Contains-one (Invoked 1 0 one) (Committed j k q n d y) has in absurd (cc f);
    takes = λ j q h has. let f = Contains-one (Invoked 1 0 one) (Cert j q h) has in absurd (cc f);
    enters = λ j r h has. let f = Contains-one (Invoked 1 0 one) (Init j r h) has in absurd (cc f);
    whole = λ s has. ap is_whole_seen (sym (Contains-one (Invoked 1 0 one) s has));
  })

  module _ {S : Type 0} (machine : Machine S) (acts : List Act) (votes : List Content) (asked : Contains (observations acts) (Invoked 1 0 one)) (full : IsFull (rule_in (last_faulty p)) (last_faulty p) votes 0 1 1 only (reply machine)) where
    -- what is observed is a commit of the request on these votes
    abbrev IsRight : Seen → Type 0
    IsRight (Committed j k q n d y) = (j ≡ 1) × (k ≡ 0) × Contains (observations acts) (Invoked 1 0 q) × IsFull (rule_in (last_faulty p)) (last_faulty p) votes 0 q.stamp n d y
    IsRight _ = Unit {0}

    commits_so : IsOther (last_faulty p) acts (commits machine votes)
    commits_so = by_client 0 refl (record {
      invokes = λ j k q has. let f = Contains-one (Committed 1 0 one 1 only (reply machine)) (Invoked j k q) has in absurd (cc f);
      asks = λ s has. absurd (Contains-none s has);
      commits = λ j k q n d y has. subst (λ (s : Seen). IsRight s) (Contains-one (Committed 1 0 one 1 only (reply machine)) (Committed j k q n d y) has) (refl, refl, asked, full);
      takes = λ j q h has. let f = Contains-one (Committed 1 0 one 1 only (reply machine)) (Cert j q h) has in absurd (cc f);
      enters = λ j r h has. let f = Contains-one (Committed 1 0 one 1 only (reply machine)) (Init j r h) has in absurd (cc f);
      whole = λ s has. ap is_whole_seen (sym (Contains-one (Committed 1 0 one 1 only (reply machine)) s has));
    })

  begins_one : (acts : List Act) (left : ℕ → Option P) (r : ℕ) → r < 4 → is_faulty (Replica 3 ∷ []) (Replica r) ≡ false → state_of acts r ≡ None → Own acts left → Own (begun_by proto p r ∷ acts) (put left r (Some (begun proto p r)))
  begins_one acts left r lt good none was = begins r (entry_of [] None) (omega arith) was (record { within = lt; correct = good; none = none; rises = rises; nothing = λ _. refl })

  -- three replicas take the request, each by its first message
  taken : (m : Msg) → IsTakable m → (left : ℕ → Option P) × Own (three_take proto p m) left
  taken m is =
      let lt_0 : 0 < 4 = omega arith in
      let lt_1 : 1 < 4 = omega arith in
      let lt_2 : 2 < 4 = omega arith in
      let b0 = begins_one [] (λ r. None) 0 lt_0 refl refl none_yet in
      let b1 = begins_one _ _ 1 lt_1 refl refl b0 in
      let b2 = begins_one _ _ 2 lt_2 refl refl b1 in
      let a = others asks b2 refl invokes in
      let t0 = takes 0 (begun proto p 0) no_pen (took req) [] a refl (may _ 0 req takable_req) in
      let t1 = takes 1 (begun proto p 1) no_pen (took m) [] t0 refl (may _ 1 m is) in
      let t2 = takes 2 (begun proto p 2) no_pen (took m) [] t1 refl (may _ 2 m is) in
      (_, t2)

  commits_own : {S : Type 0} (machine : Machine S) (m : Msg) (votes : List Content) → IsTakable m → IsFull (rule_in (last_faulty p)) (last_faulty p) votes 0 1 1 only (reply machine)
      → (left : ℕ → Option P) × Own (commits machine votes ∷ three_take proto p m) left
  commits_own machine m votes is full =
      let before = taken m is in
      (before.0, others (commits machine votes) before.1 refl (commits_so machine (three_take proto p m) votes (Contains-head (Invoked 1 0 one) []) full))

-- ---- what is claimed was made

-- the request is the client's, whose act made it
request_made : (acts : List Act) → Contains acts asks → WasMade acts (Req (Client 0) 1 one)
request_made acts is = (asks, is, Contains-head (Req (Client 0) 1 one) [])

abbrev AreHonest : List Act → List Content → Type 0
AreHonest acts claims = (c : Content) → Contains claims c → is_faulty (Replica 3 ∷ []) (maker_of c) ≡ false → WasMade acts c

honest_none : (acts : List Act) → AreHonest acts []
honest_none acts c has ok = absurd (Contains-none c has)

honest_more : (acts : List Act) (s : Content) (claims : List Content) → WasMade acts s → AreHonest acts claims → AreHonest acts (s ∷ claims)
honest_more acts s claims made more c has ok =
    elim (Contains-cons_cases s claims c has) [
      | inl e ↦ subst (λ (z : Content). WasMade acts z) e made
      | inr later ↦ more c later ok
    ]

-- what the last replica states nobody has to have made
honest_last : (acts : List Act) (s : Content) → maker_of s ≡ Replica 3 → AreHonest acts (s ∷ [])
honest_last acts s own c has ok =
    let own' : maker_of c ≡ Replica 3 = ap maker_of (sym (Contains-one s c has)) ∙ own in
    let faulty : is_faulty (Replica 3 ∷ []) (maker_of c) ≡ true = ap (is_faulty (Replica 3 ∷ [])) own' in
    absurd (cc (faulty, ok))

-- ---- ZLight

module _ {S : Type 0} (machine : Machine S) where
  full_all : (r : ℕ) → r < 4 → Contains (all_votes machine) (vote machine r)
  full_all zero lt = (0, omega arith, refl)
  full_all (suc zero) lt = (1, omega arith, refl)
  full_all (suc (suc zero)) lt = (2, omega arith, refl)
  full_all (suc (suc (suc zero))) lt = (3, omega arith, refl)
  full_all (suc (suc (suc (suc r)))) lt = absurd (omega (arith, lt))

  pub zlight_own : (left : ℕ → Option Light) × AreOwnCalls (zlight machine) (last_faulty plan.ZLight) (zlight_acts machine) left
  zlight_own = commits_own (zlight machine) plan.ZLight machine order (all_votes machine) takable_order full_all

  abbrev zlight_taken : ℕ → Msg → Act
  zlight_taken r m = taken_by (zlight machine) plan.ZLight r m

  abbrev zlight_asked : List Act
  zlight_asked = asks ∷ three_begin (zlight machine) plan.ZLight

  pub zlight_met : NoCollision (histories (zlight_acts machine)) → SlotsApart (bases (zlight_acts machine)) (requests (zlight_acts machine)) → Premises (last_faulty plan.ZLight) (zlight_acts machine)
  zlight_met apart slots =
      let all = three_take (zlight machine) plan.ZLight order in
      let first = zlight_taken 0 req ∷ zlight_asked in
      let second = zlight_taken 1 order ∷ zlight_taken 0 req ∷ zlight_asked in
      let ordered : (acts : List Act) → Contains acts asks → Contains acts (zlight_taken 0 req) → AreHonest acts (Req (Client 0) 1 one ∷ Order (Replica 0) 1 1 one ∷ []) =
      λ acts by_client' by_primary. honest_more acts (Req (Client 0) 1 one) (Order (Replica 0) 1 1 one ∷ []) (request_made acts by_client')
      (honest_more acts (Order (Replica 0) 1 1 one) [] (zlight_taken 0 req, by_primary, (0, omega arith, refl)) (honest_none acts)) in
      record {
        few = omega arith;
        honest = (
          honest_more all (vote machine 0) (vote machine 1 ∷ vote machine 2 ∷ vote machine 3 ∷ []) (zlight_taken 0 req, (2, omega arith, refl), (3, omega arith, refl))
              (honest_more all (vote machine 1) (vote machine 2 ∷ vote machine 3 ∷ []) (zlight_taken 1 order, (1, omega arith, refl), (0, omega arith, refl))
              (honest_more all (vote machine 2) (vote machine 3 ∷ []) (zlight_taken 2 order, (0, omega arith, refl), (0, omega arith, refl)) (honest_last all (vote machine 3) refl))),
          (
            ordered second (2, omega arith, refl) (1, omega arith, refl),
            (
              ordered first (1, omega arith, refl) (0, omega arith, refl),
              (
                honest_more zlight_asked (Req (Client 0) 1 one) [] (request_made zlight_asked (0, omega arith, refl)) (honest_none zlight_asked),
                (λ c has _. absurd (Contains-none c has), (λ c has _. absurd (Contains-none c has), (λ c has _. absurd (Contains-none c has), (λ c has _. absurd (Contains-none c has), tt)))),
              ),
            ),
          ),
        );
        apart = apart;
        slots = slots;
      }

  -- ---- Chain

  full_last : (q : ℕ) → 3 ≤ q → q ≤ 4 → Contains (last_votes machine) (vote machine (at_position_of 1 1 q))
  full_last zero low high = absurd (omega (arith, low))
  full_last (suc zero) low high = absurd (omega (arith, low))
  full_last (suc (suc zero)) low high = absurd (omega (arith, low))
  full_last (suc (suc (suc zero))) low high = (0, omega arith, refl)
  full_last (suc (suc (suc (suc zero)))) low high = (1, omega arith, refl)
  full_last (suc (suc (suc (suc (suc q))))) low high = absurd (omega (arith, high))

  pub chain_own : (left : ℕ → Option ChainState) × AreOwnCalls (chain machine) (last_faulty plan.Chain) (chain_acts machine) left
  chain_own = commits_own (chain machine) plan.Chain machine link (last_votes machine) takable_link full_last

  abbrev chain_taken : ℕ → Msg → Act
  chain_taken r m = taken_by (chain machine) plan.Chain r m

  abbrev chain_asked : List Act
  chain_asked = asks ∷ three_begin (chain machine) plan.Chain

  abbrev tag : ℕ → Content
  tag r = ChainTag (Replica r) 1 0 1 1 only

  second_says : (chain_taken 1 link).made ≡ tag 1 ∷ []
  second_says = let a = bytes_eq-refl only in rw a refl

  third_says : (chain_taken 2 link).made ≡ tag 2 ∷ vote machine 2 ∷ []
  third_says = let a = bytes_eq-refl only in rw a refl

  second_tagged : Contains (chain_taken 1 link).made (tag 1)
  second_tagged = subst (λ (l : List Content). Contains l (tag 1)) (sym second_says) (Contains-head (tag 1) [])

  third_voted : Contains (chain_taken 2 link).made (vote machine 2)
  third_voted = subst (λ (l : List Content). Contains l (vote machine 2)) (sym third_says) (1, omega arith, refl)

  pub chain_met : NoCollision (histories (chain_acts machine)) → SlotsApart (bases (chain_acts machine)) (requests (chain_acts machine)) → Premises (last_faulty plan.Chain) (chain_acts machine)
  chain_met apart slots =
      let all = three_take (chain machine) plan.Chain link in
      let first = chain_taken 0 req ∷ chain_asked in
      let second = chain_taken 1 link ∷ chain_taken 0 req ∷ chain_asked in
      record {
        few = omega arith;
        honest = (
          honest_more all (vote machine 2) (vote machine 3 ∷ []) (chain_taken 2 link, (0, omega arith, refl), third_voted) (honest_last all (vote machine 3) refl),
          (
            honest_more second (tag 0) (tag 1 ∷ []) (chain_taken 0 req, (1, omega arith, refl), (0, omega arith, refl))
                (honest_more second (tag 1) [] (chain_taken 1 link, (0, omega arith, refl), second_tagged) (honest_none second)),
            (
              honest_more first (Req (Client 0) 1 one) (tag 0 ∷ []) (request_made first (1, omega arith, refl)) (honest_more first (tag 0) [] (chain_taken 0 req, (0, omega arith, refl), (0, omega arith, refl)) (honest_none first)),
              (
                honest_more chain_asked (Req (Client 0) 1 one) [] (request_made chain_asked (0, omega arith, refl)) (honest_none chain_asked),
                (λ c has _. absurd (Contains-none c has), (λ c has _. absurd (Contains-none c has), (λ c has _. absurd (Contains-none c has), (λ c has _. absurd (Contains-none c has), tt)))),
              ),
            ),
          ),
        );
        apart = apart;
        slots = slots;
      }
