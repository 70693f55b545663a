-- In each run what a correct replica makes in an instance is what its own acts there make.
use Rattle.std.proofs.Common.{◌≡◌, ◌≢◌, ℕ, ◌+◌, ◌<◌, ◌≤◌, Bool, true, false, Option, Some, None, List, [], ◌∷◌, ◌++◌, ◌⊎◌, refl, sym, ap, ◌∙◌, subst, inl, inr, arith, length}
use Rattle.std.specs.Prelude.{Contains, ◌==◌, ◌&&◌, ◌||◌, nat_le, nat_lt, if◌then◌else◌}
use Rattle.std.proofs.lemmas.Bool.{cases_Bool, cases_eq, cases_lt, leb-true, eqb-true, and_parts}
use Rattle.std.proofs.lemmas.List.Elements.{Contains-append_cases}
use Rattle.std.proofs.lemmas.Option.{none-some}
use Rattle.ab_num.specs.declared.party.Party.TheVariants.{Replica, Client}
use Rattle.ab_num.specs.declared.plan.Kind.{Kind}
use Rattle.ab_num.specs.declared.plan.Kind.TheVariants as kind
use Rattle.ab_num.specs.Places.{kind_of}
use Rattle.ab_num.proofs.Lists.{Contains-head, Contains-tail, Contains-none, Contains-one, Contains-flat_map, flat_map_cases}
use Rattle.ab_hist.specs.declared.request.Request.{Request}
use Rattle.ab_hist.specs.Histories.{IsHistory}
use Rattle.ab_hist.specs.Trimmed.{Trimmed}
use Rattle.ab_msg.specs.declared.content.Content.{Content}
use Rattle.ab_msg.specs.declared.content.Content.TheVariants.{Req, Panic, Prepare}
use Rattle.ab_msg.specs.declared.signed.Signed.{Signed}
use Rattle.ab_msg.specs.declared.message.Msg.{Msg}
use Rattle.ab_msg.specs.declared.message.Msg.TheVariants as msg
use Rattle.ab_msg.specs.declared.message.Offer.TheVariants as offer
use Rattle.ab_msg.specs.Carried.{stated_history}
use Rattle.ab_msg.specs.Claims.{maker_of, instance_of, instance_in, signed_contents, claims}
use Rattle.ab_msg.specs.Pens.{Pen}
use Rattle.ab_abs.specs.declared.seen.Seen.{Seen}
use Rattle.ab_abs.specs.declared.seen.Seen.TheVariants.{Init}
use Rattle.ab_abs.specs.declared.entry.Entry.{Entry}
use Rattle.ab_abs.specs.Faults.{is_faulty}
use Rattle.ab_abs.specs.Acts.{Act, State, MayStart, WasMade, setting, unmarked, with_init, observations, own_acts}
use Rattle.ab_abs.specs.Kinds.{is_backup, rule_in}
use Rattle.ab_abs.specs.Certificates.{history_of}
use Rattle.ab_abs.specs.Ensembles.{Proto, MayTake, entry_of, trimmed_entry, begin_of, asked_of, halt_of}
use Rattle.ab_abs.specs.FormLaws.{KeepsPlace, IsOffered, in_first, by_cert}
use Rattle.ab_abs.specs.Messages.{Call, took, timed, offered, IsFor, IsFormed}
use Rattle.ab_abs.specs.Promises.{ServesAll}
use Rattle.ab_abs.proofs.Certified.{certificate_rises}
use Rattle.ab_abs.proofs.Prefixes.{prefix_length}
use Rattle.ab_abs.proofs.Reach.{put_same, put_other}
use Rattle.ab_stable.specs.Offers.{Based, makes_checkpoints, are_whole, list_of, based_on_list, based_on_whole}
use Rattle.ab_stable.proofs.Offered.{base_from_list, base_from_whole}
use Rattle.ab_ckpt.specs.Marks.{Mark, due_of, stable_of}
use Rattle.ab_ckpt.proofs.StableLemmas.{due_is, stable_are}
use Rattle.ab_run.specs.Setups.{RunSetup, within, replicas, last_instance}
use Rattle.ab_run.specs.Checkpoints.{every_in, mark_in}
use Rattle.ab_run.specs.Clients.{Cli, CliAction, move_ask, move_vote, move_commit, move_keep, move_take, move_panic, move_again, move_spec, move_cert, move_told, made_in_move, moves, panics, asking}
use Rattle.ab_run.specs.Replicas.{Rep, RepAction, turn_enter, turn_call, turn_halt, turn_sign, turn_bring, turn_abort, turn_mark, turn_keep, turn_trim, client_of, cert_instance, brought, logged_or, own_list, offer_to, may_begin, aborting_with, aborting, halting, trims_with, trimming, keeping_with, keeping, here, late, taken_in, taken, due_with, due_by, due, is_spent, marking, closing, closed, turns, state_at, abort_content, checkpoint_at, pen_of, after_turn, after_turns, made_in_turn}
use Rattle.ab_run.specs.Runs.{Event, invoke, to_replica, to_client, replica_time, client_time, Run, take_turn, take_turns, take_move, take_moves, at_replica, at_client, step, start, run, checks}
use Rattle.ab_run.specs.Premises.{AreFormed, IsFormedEvent, IsFormedFor}
use Rattle.ab_run.proofs.Did.{if_each}
use Rattle.ab_promises.specs.ReplicaActs.{AreActsIn, begins, takes, stops, aborts, marks, trims, aborts_by, marks_by, ActsByItself, ActsKeep, AbortsOnce, AbortsOnceIn, PreparesOnce, PreparesOnceIn}
use Rattle.ab_promises.proofs.StatedOnce.{statement_by, made_before, acts_belong, stop_is}

none_before : IsHistory []
none_before i j e less in_h = absurd (omega (arith, in_h))

-- what a message brings is checked in it
brought_checked : (f r : ℕ) (m : Msg) (cert : List Signed) → brought m ≡ Some cert → (s : Content) → Contains (signed_contents cert) s → Contains (claims f (Replica r) m) s
brought_checked f r (msg.Init all) cert is s has = let e : all ≡ cert = cc (is) in subst (λ (z : List Signed). Contains (signed_contents z) s) (sym e) has
brought_checked f r (msg.PrePrepare content tag (offer.Base all)) cert is s has =
    let e : all ≡ cert = cc (is) in Contains-tail content s (signed_contents all) (subst (λ (z : List Signed). Contains (signed_contents z) s) (sym e) has)
brought_checked f r _ cert is s has = absurd (cc (is))

-- what a client makes is its own
made_by_client : (c : ℕ) (s : Cli) (t : CliAction) (q : Content) → Contains (made_in_move c s t) q → maker_of q ≡ Client c
made_by_client c s (move_ask m) q has = ap maker_of (sym (Contains-one (Req (Client c) s.at m) q has))
made_by_client c s (move_vote b) q has = absurd (Contains-none q has)
made_by_client c s (move_commit m n d reply claims) q has = absurd (Contains-none q has)
made_by_client c s (move_keep v) q has = absurd (Contains-none q has)
made_by_client c s (move_take j cert h m) q has = ap maker_of (sym (Contains-one (Req (Client c) (j + 1) m) q has))
made_by_client c s move_panic q has = ap maker_of (sym (Contains-one (Panic (Client c) s.at) q has))
made_by_client c s (move_again m) q has = absurd (Contains-none q has)
made_by_client c s (move_spec b sig) q has = absurd (Contains-none q has)
made_by_client c s (move_cert z) q has = absurd (Contains-none q has)
made_by_client c s (move_told n) q has = absurd (Contains-none q has)

-- a history of which entries are trimmed begins where the history is the log
begins_so : (n : ℕ) (kd : Kind) → ((n == 0) || makes_checkpoints kd) ≡ true → (n ≡ 0) ⊎ (is_backup kd ≡ false)
begins_so n kind.Quorum may = inr refl
begins_so n kind.ZLight may = inr refl
begins_so n kind.Chain may = inr refl
begins_so n kind.ZCert may = inr refl
begins_so n kind.Backup may =
    elim (cases_Bool (n == 0)) [
      | inl none ↦ inl (eqb-true n 0 none)
      | inr some ↦ let both : false ≡ true = sym (ap (λ (b : Bool). b || false) some) ∙ may in absurd (cc (both))
    ]

-- what is trimmed of the log is of what a replica knows by itself
own_reaches : (n : ℕ) (log base : List Request) → n ≤ length log → n ≤ length (logged_or log base)
own_reaches n [] base low = omega (arith, low)
own_reaches n (m ∷ log) base low = low

module _ {P : Type 0} (k : RunSetup) (proto : Proto P) (serves : Kind → Bool) (place : KeepsPlace proto serves) (all : ServesAll serves k.cluster) (r : ℕ) (lt : r < replicas k) (good : is_faulty k.faulty (Replica r) ≡ false) where
  abbrev Said : List Content → ℕ → List Act → Type 0
  Said made i acts = (s : Content) → Contains made s → maker_of s ≡ Replica r → instance_of s ≡ i → WasMade acts s

  -- what is trimmed is of its log
  abbrev IsLow : P → Type 0
  IsLow p = proto.trimmed p ≤ length (proto.state p).log

  -- replica r is in instance i with this value
  record IsHere (i : ℕ) (p : P) (made : List Content) : Type 0 where
    one : 1 ≤ i
    acts : List Act
    are : AreActsIn proto k.cluster i r acts p
    said : Said made i acts
    past : (j : ℕ) → j < i → ActsByItself proto k.cluster j r made
    within : (s : Content) → Contains made s → maker_of s ≡ Replica r → instance_of s ≤ i
    low : IsLow p

  abbrev IsNone : List Content → ℕ → Type 0
  IsNone more j = (s : Content) → Contains more s → maker_of s ≡ Replica r → instance_of s ≡ j → ⊥

  -- more is made, nothing of it by the replica in instance j
  wider : (j : ℕ) (more made : List Content) → IsNone more j → ActsByItself proto k.cluster j r made → ActsByItself proto k.cluster j r (more ++ made)
  wider j more made none (inl nothing) = inl (λ s has mine is. elim (Contains-append_cases more made s has) [ inl new ↦ none s new mine is | inr old ↦ nothing s old mine is ])
  wider j more made none (inr h) = inr (record {
    one = h.one;
    acts = h.acts;
    value = h.value;
    are = h.are;
    said = λ s has mine is. elim (Contains-append_cases more made s has) [ inl new ↦ absurd (none s new mine is) | inr old ↦ h.said s old mine is ];
  })

  -- others make more
  others_make : (i : ℕ) (p : P) (more made : List Content) → ((s : Content) → Contains more s → maker_of s ≡ Replica r → ⊥) → IsHere i p made → IsHere i p (more ++ made)
  others_make i p more made other was = record {
    one = was.one;
    acts = was.acts;
    are = was.are;
    said = λ s has mine is. elim (Contains-append_cases more made s has) [ inl new ↦ absurd (other s new mine) | inr old ↦ was.said s old mine is ];
    past = λ j less. wider j more made (λ s new mine is. other s new mine) (was.past j less);
    within = λ s has mine. elim (Contains-append_cases more made s has) [ inl new ↦ absurd (other s new mine) | inr old ↦ was.within s old mine ];
    low = was.low;
  }

  -- one more act in the same instance
  goes_on : (i : ℕ) (p q : P) (a : Act) (more made : List Content) (was : IsHere i p made) → AreActsIn proto k.cluster i r (a ∷ was.acts) q → IsLow q
      → ((s : Content) → Contains more s → (instance_of s ≡ i) × Contains a.made s) → IsHere i q (more ++ made)
  goes_on i p q a more made was now low own = record {
    one = was.one;
    acts = a ∷ was.acts;
    are = now;
    said = λ s has mine is. elim (Contains-append_cases more made s has) [
      | inl new ↦ (a, Contains-head a was.acts, (own s new).1)
      | inr old ↦ made_before a was.acts s (was.said s old mine is)
    ];
    past = λ j less. wider j more made (λ s new mine is. omega (arith, less, (own s new).0, is)) (was.past j less);
    within = λ s has mine. elim (Contains-append_cases more made s has) [
      | inl new ↦ omega (arith, (own s new).0)
      | inr old ↦ was.within s old mine
    ];
    low = low;
  }

  -- it states something in the same instance, and goes on where it is
  says : (i : ℕ) (p : P) (a : Act) (c : Content) (made : List Content) (was : IsHere i p made) → AreActsIn proto k.cluster i r (a ∷ was.acts) p → Contains a.made c → instance_of c ≡ i → IsHere i p ((c ∷ []) ++ made)
  says i p a c made was now states is =
      goes_on i p p a (c ∷ []) made was now was.low (λ s has. let same : c ≡ s = Contains-one c s has in (subst (λ (z : Content). instance_of z ≡ i) same is, subst (λ (z : Content). Contains a.made z) same states))

  -- it trims its log
  trims_on : (i n : ℕ) (p : P) (made : List Content) → (proto.state p).stopped ≡ false → proto.trimmed p ≤ n → n ≤ length (proto.state p).log → IsHere i p made → IsHere i (proto.trim n p) made
  trims_on i n p made runs more within was = record {
    one = was.one;
    acts = was.acts;
    are = trims n was.are runs more within;
    said = was.said;
    past = was.past;
    within = was.within;
    low = omega (arith, place.trims n p, ap (λ (t : State). length t.log) (place.trim_rests n p), within);
  }

  -- it begins in a later instance
  enters : (i j : ℕ) (p : P) (made : List Content) (e : Entry) → e.trimmed ≤ length e.base → IsLow (proto.begin k.cluster (j + 1) r e) → i ≤ j → IsHistory e.base → IsHere i p made → IsHere (j + 1) (proto.begin k.cluster (j + 1) r e) made
  enters i j p made e fits low le rises was =
      let may : MayStart (setting k.cluster [] (j + 1)) [] r e.base = record { within = lt; correct = refl; none = refl; rises = rises; nothing = λ first. absurd (omega (arith, first, le, was.one)) } in
      record {
        one = omega arith;
        acts = begin_of proto (setting k.cluster [] (j + 1)) r e ∷ [];
        are = begins e fits may;
        said = λ s has mine is. absurd (omega (arith, was.within s has mine, is, le));
        past = λ n less.
            elim (cases_lt n i) [
              | inl before ↦ was.past n before
              | inr from ↦
                  elim (cases_eq n i) [
                    | inl same ↦
                        subst (λ (z : ℕ). ActsByItself proto k.cluster z r made) (sym same) (inr (record { one = was.one; acts = was.acts; value = p; are = was.are; said = was.said }))
                    | inr differ ↦ inl (λ s has mine is. omega (arith, was.within s has mine, is, from, differ))
                  ]
            ];
        within = λ s has mine. omega (arith, was.within s has mine, le);
        low = low;
      }

  -- so it is after a call, a stop, or as it begins
  called_low : (pen : Pen) (p : P) (call : Call) → IsLow p → IsLow (proto.after pen p call)
  called_low pen p call low =
      let log = (proto.state p).log in
      let longer = (proto.state (proto.after pen p call)).log in
      omega (arith, low, place.trimmed_stays pen p call, prefix_length log longer (place.grows pen p call))

  halted_low : (p : P) → IsLow p → IsLow (proto.halt p)
  halted_low p low = omega (arith, low, place.trimmed_rests p, ap length (place.halts p).0)

  begun_low : (j n : ℕ) (cert : List Signed) (h : List Request) → n ≤ length h → may_begin k proto (j + 1) n ≡ true → IsLow (proto.begin k.cluster (j + 1) r (trimmed_entry h n cert))
  begun_low j n cert h fits may =
      let e = trimmed_entry h n cert in
      let trims = place.begins_trimmed k.cluster (j + 1) r e in
      elim (begins_so n (kind_of k.cluster.plan (j + 1)) may) [
        | inl none ↦ omega (arith, trims, none)
        | inr other ↦ omega (arith, trims, fits, ap length (place.logs k.cluster (j + 1) r e (all (j + 1) (omega arith)) other))
      ]

  -- ---- what it may take

  abbrev Takes : ℕ → List Act → P → Pen → Call → Type 0
  Takes i acts p pen call = (seen : List Seen) × MayTake proto (setting k.cluster [] i) acts r pen p call seen

  may_accept : (i : ℕ) (acts : List Act) (p : P) (pen : Pen) (call : Call) (cert : List Signed) (h : List Request) → IsFormed call → IsFor i call
      → (proto.state (proto.after pen p call)).first ≡ Some h → IsOffered k.cluster i cert h → Takes i acts p pen call
  may_accept i acts p pen call cert h formed for first_is (in_first e) =
      ([], record { formed = formed; for = for; noted = unmarked refl; settled = λ c is. inr ([], first_is, inl (e, refl), none_before) })
  may_accept i acts p pen call cert h formed for first_is (by_cert j g one i_is valid rises) =
      let later : 1 < i = omega (arith, one, i_is) in (
        Init i r h ∷ [],
        record {
          formed = formed;
          for = for;
          noted = with_init h first_is rises later refl;
          settled = λ c is. inr (h, first_is, inr (later, r, Contains-head (Init i r h) (observations (own_acts r acts))), rises);
        },
      )

  may_take : (i : ℕ) (acts : List Act) (p : P) (pen : Pen) (call : Call) → AreActsIn proto k.cluster i r acts p → 1 ≤ i → IsFormed call → IsFor i call → (o : Option (List Signed)) → offered call ≡ o → Takes i acts p pen call
  may_take i acts p pen call are one formed for None is = ([], record { formed = formed; for = for; noted = unmarked refl; settled = λ c some. absurd (none-some c (sym is ∙ some)) })
  may_take i acts p pen call are one formed for (Some cert) is =
      elim (place.settles k.cluster i r pen p call cert (acts_belong proto serves (setting k.cluster [] i) r acts p are (all i one)) is formed) [
        | inl same ↦ ([], record { formed = formed; for = for; noted = unmarked refl; settled = λ c some. inl same })
        | inr (h, first_is, offer') ↦ may_accept i acts p pen call cert h formed for first_is offer'
      ]

  -- ---- turns

  -- when a turn is taken
  abbrev MayTurn : Rep P → RepAction → Type 0
  MayTurn s (turn_enter j cert n h) = (s.at ≤ j) × (n ≤ length h) × IsHistory h × (may_begin k proto (j + 1) n ≡ true)
  MayTurn s (turn_call call) = IsFormed call × IsFor s.at call
  MayTurn s turn_halt = Unit {0}
  MayTurn s turn_sign = (state_at k proto s).stopped ≡ true
  MayTurn s (turn_bring c) = Unit {0}
  MayTurn s (turn_abort c) = Unit {0}
  MayTurn s (turn_mark n) = ((state_at k proto s).stopped ≡ false) × (proto.trimmed s.value < n) × (n ≤ length (state_at k proto s).log)
  MayTurn s (turn_keep v) = Unit {0}
  MayTurn s (turn_trim n) = ((state_at k proto s).stopped ≡ false) × (proto.trimmed s.value ≤ n) × (n ≤ length (state_at k proto s).log)

  abbrev MayTurns : Rep P → List RepAction → Type 0
  MayTurns s [] = Unit {0}
  MayTurns s (t ∷ ts) = MayTurn s t × MayTurns (after_turn k proto r s t) ts

  abbrev Stays : Rep P → List Content → Type 0
  Stays s made = IsHere s.at s.value made

  turn_stays : (s : Rep P) (t : RepAction) (made : List Content) → MayTurn s t → Stays s made → Stays (after_turn k proto r s t) (made_in_turn k proto r s t ++ made)
  turn_stays s (turn_enter j cert n h) made may was = enters s.at j s.value made (trimmed_entry h n cert) may.1 (begun_low j n cert h may.1 may.3) may.0 may.2 was
  turn_stays s (turn_call call) made may was =
      let pen = pen_of k proto r s in
      let x = setting k.cluster [] s.at in
      let can = may_take s.at was.acts s.value pen call was.are was.one may.0 may.1 (offered call) refl in
      goes_on s.at s.value (proto.after pen s.value call) (asked_of proto x r pen s.value call can.0) (made_in_turn k proto r s (turn_call call)) made was (takes pen call can.0 was.are can.1) (called_low pen s.value call was.low)
      (λ q has.
      let found = statement_by k.cluster.f r (proto.sends pen s.value call) q has in
      ((place.own k.cluster s.at r pen s.value call found.0 q (acts_belong proto serves x r was.acts s.value was.are (all s.at was.one)) found.1 found.2).1, has))
  turn_stays s turn_halt made may was =
      goes_on s.at s.value (proto.halt s.value) (halt_of proto r s.value) [] made was (stops was.are) (halted_low s.value was.low) (λ q has. absurd (Contains-none q has))
  turn_stays s turn_sign made may was =
      let x = setting k.cluster [] s.at in
      says s.at s.value (aborts_by proto x r s.value) (abort_content k proto r s) made was (aborts was.are may) (Contains-head (abort_content k proto r s) [])
      (stop_is (proto.trimmed s.value) (rule_in x) s.at r (state_at k proto s)).2
  turn_stays s (turn_bring c) made may was = was
  turn_stays s (turn_abort c) made may was = was
  turn_stays s (turn_mark n) made may was =
      let x = setting k.cluster [] s.at in
      says s.at s.value (marks_by proto x r n s.value) (checkpoint_at k proto r s n) made was (marks n was.are may.0 may.1 may.2) (Contains-head (checkpoint_at k proto r s n) []) refl
  turn_stays s (turn_keep v) made may was = was
  turn_stays s (turn_trim n) made may was = trims_on s.at n s.value made may.0 may.1 may.2 was

  abbrev StaysIn : Run P → Type 0
  StaysIn w = Stays (w.reps r) w.made

  turns_stay : (ts : List RepAction) (w : Run P) → MayTurns (w.reps r) ts → StaysIn w → StaysIn (take_turns k proto r w ts)
  turns_stay [] w may was = was
  turns_stay (t ∷ ts) w may was =
      let now = after_turn k proto r (w.reps r) t in
      let is = put_same w.reps r now in
      turns_stay ts (take_turn k proto r w t) (subst (λ (s : Rep P). MayTurns s ts) (sym is) may.1)
      (subst (λ (s : Rep P). Stays s (made_in_turn k proto r (w.reps r) t ++ w.made)) (sym is) (turn_stays (w.reps r) t w.made may.0 was))

  -- ---- which turns it takes

  aborting_may : (c : ℕ) (s : Rep P) (o : Option Signed) → (state_at k proto s).stopped ≡ true → MayTurns s (aborting_with c o)
  aborting_may c s None stopped = (stopped, (tt, tt))
  aborting_may c s (Some abort) stopped = (tt, tt)

  halting_may : (c : ℕ) (s : Rep P) → MayTurns s (halting k proto c s)
  halting_may c s =
      if_each (MayTurns s) (state_at k proto s).stopped (aborting k proto c s) (turn_halt ∷ (if (proto.state (proto.halt s.value)).stopped then aborting k proto c s else []))
      (λ stopped. aborting_may c s s.abort stopped)
      (λ _. (
        tt,
        if_each (MayTurns (after_turn k proto r s turn_halt)) (proto.state (proto.halt s.value)).stopped (aborting k proto c s) []
            (λ stopped. aborting_may c (after_turn k proto r s turn_halt) s.abort stopped) (λ _. tt),
      ))

  may_join : (ts us : List RepAction) (s : Rep P) → MayTurns s ts → MayTurns (after_turns k proto r s ts) us → MayTurns s (ts ++ us)
  may_join [] us s one other = other
  may_join (t ∷ ts) us s one other = (one.0, may_join ts us (after_turn k proto r s t) one.1 other)

  -- what is stable is of the log
  trims_may : (s : Rep P) (o : Option ℕ) → (state_at k proto s).stopped ≡ false → stable_of (replicas k) (proto.trimmed s.value) (state_at k proto s).log s.kept.marks ≡ o → MayTurns s (trims_with k proto o)
  trims_may s None runs is = tt
  trims_may s (Some n) runs is =
      let stable = stable_are (replicas k) (proto.trimmed s.value) n (state_at k proto s).log s.kept.marks is in
      ((runs, omega (arith, stable.more), stable.within), tt)

  trimming_may : (s : Rep P) → (state_at k proto s).stopped ≡ false → MayTurns s (trimming k proto s)
  trimming_may s runs = trims_may s (stable_of (replicas k) (proto.trimmed s.value) (state_at k proto s).log s.kept.marks) runs refl

  kept_may : (s : Rep P) (o : Option Mark) → (state_at k proto s).stopped ≡ false → MayTurns s (keeping_with k proto r s o)
  kept_may s None runs = tt
  kept_may s (Some v) runs = (tt, trimming_may (after_turn k proto r s (turn_keep v)) runs)

  keeping_may : (s : Rep P) (content : Content) → MayTurns s (keeping k proto r s content)
  keeping_may s content =
      if_each (MayTurns s) (state_at k proto s).stopped [] (keeping_with k proto r s (mark_in content)) (λ _. tt) (λ runs. kept_may s (mark_in content) runs)

  -- a CHECKPOINT that is due is of the log
  marking_may : (s : Rep P) (o : Option ℕ) → due_of (every_in k s.at) (state_at k proto s).stopped s.kept.sent (proto.trimmed s.value) (length (state_at k proto s).log) ≡ o → MayTurns s (marking k proto r s o)
  marking_may s None is = tt
  marking_may s (Some n) is =
      let due_so = due_is (every_in k s.at) s.kept.sent (proto.trimmed s.value) (length (state_at k proto s).log) n (state_at k proto s).stopped is in
      ((due_so.0, due_so.1, due_so.3), trimming_may (after_turn k proto r s (turn_mark n)) due_so.0)

  closing_may : (s : Rep P) → MayTurns s (closing k proto r s)
  closing_may s = marking_may s (due_of (every_in k s.at) (state_at k proto s).stopped s.kept.sent (proto.trimmed s.value) (length (state_at k proto s).log)) refl

  call_may : (s : Rep P) (m : Msg) (i : ℕ) → IsFormed (took m) → instance_in m ≡ Some i → i ≡ s.at → MayTurns s (turn_call (took m) ∷ [])
  call_may s m i formed is at_is = ((formed, is ∙ ap Some at_is), tt)

  here_may : (s : Rep P) (m : Msg) (i : ℕ) → IsFormed (took m) → instance_in m ≡ Some i → i ≡ s.at → MayTurns s (here k proto r s m)
  here_may s (msg.Req content tags) i formed is at_is =
      if_each (MayTurns s) (state_at k proto s).stopped (aborting k proto (client_of (maker_of content)) s) (turn_call (took (msg.Req content tags)) ∷ [])
      (λ stopped. aborting_may (client_of (maker_of content)) s s.abort stopped) (λ _. call_may s (msg.Req content tags) i formed is at_is)
  here_may s (msg.Panic content tag) i formed is at_is = halting_may (client_of (maker_of content)) s
  here_may s (msg.Checkpoint content tag) i formed is at_is = keeping_may s content
  here_may s (msg.LocalCommit content tag) i formed is at_is = tt
  here_may s (msg.Spec spec) i formed is at_is = tt
  here_may s m i formed is at_is = call_may s m i formed is at_is

  late_may : (s : Rep P) (m : Msg) → MayTurns s (late m)
  late_may s (msg.Req content tags) = (tt, tt)
  late_may s (msg.Panic content tag) = (tt, tt)
  late_may s _ = tt

  taken_may : (s : Rep P) (m : Msg) (o : Option ℕ) → IsFormed (took m) → instance_in m ≡ o → MayTurns s (taken_in k proto r s m o)
  taken_may s m None formed is = tt
  taken_may s m (Some i) formed is =
      if_each (MayTurns s) (i == s.at) (here k proto r s m) (if nat_lt i s.at then late m else [])
      (λ same. here_may s m i formed is (eqb-true i s.at same))
      (λ _. if_each (MayTurns s) (nat_lt i s.at) (late m) [] (λ _. late_may s m) (λ _. tt))

  -- a history with which it enters
  abbrev MayEnter : Based → Type 0
  MayEnter b = (b.trimmed ≤ length b.base) × IsHistory b.base

  whole_may : (s : Rep P) (m : Msg) (cert : List Signed) (o : Option (List Request)) (b : Based) → IsFormedFor k (Replica r) m → brought m ≡ Some cert → history_of k.cluster (cert_instance cert) cert ≡ o
      → based_on_whole (proto.trimmed s.value) (own_list k proto s) o ≡ Some b → MayEnter b
  whole_may s m cert None b formed brings found is = absurd (cc (is))
  whole_may s m cert (Some h) b formed brings found is =
      let by = base_from_whole (proto.trimmed s.value) (own_list k proto s) h b is in
      let rises : IsHistory h =
      certificate_rises k.cluster k.faulty (cert_instance cert) cert h (λ g has.
      let found' = flat_map_cases stated_history (signed_contents cert) g has in
      formed.rises g (Contains-flat_map stated_history (claims k.cluster.f (Replica r) m) found'.0 g (brought_checked k.cluster.f r m cert brings found'.0 found'.1) found'.2)) found in
      (omega (arith, by.1, by.2, ap length by.0), subst IsHistory (sym by.0) rises)

  part_may : (s : Rep P) (o : Option Trimmed) (b : Based) → IsLow s.value → based_on_list (proto.trimmed s.value) (own_list k proto s) o ≡ Some b → MayEnter b
  part_may s None b low is = absurd (cc (is))
  part_may s (Some t) b low is =
      let n = proto.trimmed s.value in
      let by = base_from_list n (own_list k proto s) t (own_reaches n (state_at k proto s).log s.entry.base low) b is in
      (by.3, by.7)

  offer_may : (s : Rep P) (m : Msg) (cert : List Signed) (b : Based) → IsLow s.value → IsFormedFor k (Replica r) m → brought m ≡ Some cert → offer_to k proto s (cert_instance cert) cert ≡ Some b → MayEnter b
  offer_may s m cert b low formed brings is =
      let j = cert_instance cert in
      let n = proto.trimmed s.value in
      let by : Bool → Option Based = λ z. if z then based_on_whole n (own_list k proto s) (history_of k.cluster j cert) else based_on_list n (own_list k proto s) (list_of k.cluster j cert) in
      elim (cases_Bool (are_whole cert)) [
        | inl whole ↦ whole_may s m cert (history_of k.cluster j cert) b formed brings refl (sym (ap by whole) ∙ is)
        | inr part ↦ part_may s (list_of k.cluster j cert) b low (sym (ap by part) ∙ is)
      ]

  due_may_with : (s : Rep P) (m : Msg) (cert : List Signed) (o : Option Based) → IsFormedFor k (Replica r) m → ((b : Based) → o ≡ Some b → MayEnter b) → MayTurns s (due_with k proto r s m (cert_instance cert) cert o)
  due_may_with s m cert None formed may = taken_may s m (instance_in m) formed.of_grammar refl
  due_may_with s m cert (Some b) formed may =
      let j = cert_instance cert in
      let enter = turn_enter j cert b.trimmed b.base in
      let now = after_turn k proto r s enter in
      let begins' = may_begin k proto (j + 1) b.trimmed in
      if_each (MayTurns s) (nat_le s.at j && (nat_lt j last_instance && begins')) (enter ∷ taken k proto r now m) (taken k proto r s m)
      (λ goes.
      let parts = and_parts (nat_le s.at j) (nat_lt j last_instance && begins') goes in
      let can = may b refl in
      ((leb-true s.at j parts.0, can.0, can.1, (and_parts (nat_lt j last_instance) begins' parts.1).1), taken_may now m (instance_in m) formed.of_grammar refl))
      (λ _. taken_may s m (instance_in m) formed.of_grammar refl)

  due_may_by : (s : Rep P) (m : Msg) (o : Option (List Signed)) → IsLow s.value → IsFormedFor k (Replica r) m → brought m ≡ o → MayTurns s (due_by k proto r s m o)
  due_may_by s m None low formed is = taken_may s m (instance_in m) formed.of_grammar refl
  due_may_by s m (Some cert) low formed is = due_may_with s m cert (offer_to k proto s (cert_instance cert) cert) formed (λ b found. offer_may s m cert b low formed is found)

  spared : (s : Rep P) (call : Call) → MayTurns s (due k proto r s call) → MayTurns s (turns k proto r s call)
  spared s call may =
      let ts = due k proto r s call in
      let now = after_turns k proto r s ts in
      if_each (MayTurns s) (is_spent k proto r s call) [] (closed k proto r s ts) (λ _. tt) (λ _. may_join ts (closing k proto r now) s may (closing_may now))

  took_may : (s : Rep P) (m : Msg) → IsLow s.value → IsFormedFor k (Replica r) m → MayTurns s (turns k proto r s (took m))
  took_may s m low formed = spared s (took m) (due_may_by s m (brought m) low formed refl)

  timed_may : (s : Rep P) → MayTurns s (turns k proto r s timed)
  timed_may s = spared s timed ((tt, tt), tt)

  -- ---- events

  -- another replica makes what is its own, and leaves this one where it is
  made_by_other : (q : ℕ) (s : Rep P) (t : RepAction) (c : Content) → Contains (made_in_turn k proto q s t) c → maker_of c ≡ Replica q
  made_by_other q s (turn_enter j cert n h) c has = absurd (Contains-none c has)
  made_by_other q s (turn_call call) c has = (statement_by k.cluster.f q (proto.sends (pen_of k proto q s) s.value call) c has).3
  made_by_other q s turn_halt c has = absurd (Contains-none c has)
  made_by_other q s turn_sign c has = ap maker_of (sym (Contains-one (abort_content k proto q s) c has)) ∙ (stop_is (proto.trimmed s.value) (rule_in (within k s.at)) s.at q (state_at k proto s)).1
  made_by_other q s (turn_bring d) c has = absurd (Contains-none c has)
  made_by_other q s (turn_abort d) c has = absurd (Contains-none c has)
  made_by_other q s (turn_mark n) c has = ap maker_of (sym (Contains-one (checkpoint_at k proto q s n) c has))
  made_by_other q s (turn_keep v) c has = absurd (Contains-none c has)
  made_by_other q s (turn_trim n) c has = absurd (Contains-none c has)

  turns_else : (q : ℕ) → r ≢ q → (ts : List RepAction) (w : Run P) → StaysIn w → StaysIn (take_turns k proto q w ts)
  turns_else q ne [] w was = was
  turns_else q ne (t ∷ ts) w was =
      let s = w.reps q in
      let more = made_in_turn k proto q s t in
      turns_else q ne ts (take_turn k proto q w t)
      (subst (λ (z : Rep P). Stays z (more ++ w.made)) (sym (put_other w.reps q r (after_turn k proto q s t) ne))
      (others_make (w.reps r).at (w.reps r).value more w.made (λ c has mine. ne (let its = made_by_other q s t c has in cc (its, mine))) was))

  reps_else : (q : ℕ) → r ≢ q → (ts : List RepAction) (w : Run P) → (take_turns k proto q w ts).reps r ≡ w.reps r
  reps_else q ne [] w = refl
  reps_else q ne (t ∷ ts) w = reps_else q ne ts (take_turn k proto q w t) ∙ put_other w.reps q r (after_turn k proto q (w.reps q) t) ne

  moves_else : (c : ℕ) (ts : List CliAction) (w : Run P) → StaysIn w → StaysIn (take_moves k c w ts)
  moves_else c [] w was = was
  moves_else c (t ∷ ts) w was =
      let more = made_in_move c (w.clis c) t in
      moves_else c ts (take_move k c w t)
      (others_make (w.reps r).at (w.reps r).value more w.made (λ q has mine. let its = made_by_client c (w.clis c) t q has in cc (its, mine)) was)

  reps_stay : (c : ℕ) (ts : List CliAction) (w : Run P) → StaysIn w → StaysIn (at_client k proto c w ts)
  reps_stay c ts w was = if_each StaysIn (is_faulty k.faulty (Client c)) (record w { clis = (take_moves k c w ts).clis }) (take_moves k c w ts) (λ _. was) (λ _. moves_else c ts w was)

  own_stays : (ts : List RepAction) (w : Run P) → MayTurns (w.reps r) ts → StaysIn w → StaysIn (at_replica k proto r w ts)
  own_stays ts w may was =
      if_each StaysIn (is_faulty k.faulty (Replica r)) (record w { reps = (take_turns k proto r w ts).reps }) (take_turns k proto r w ts)
      (λ bad. absurd (let both : true ≡ false = sym bad ∙ good in cc (both))) (λ _. turns_stay ts w may was)

  else_stays : (q : ℕ) → r ≢ q → (ts : List RepAction) (w : Run P) → StaysIn w → StaysIn (at_replica k proto q w ts)
  else_stays q ne ts w was =
      if_each StaysIn (is_faulty k.faulty (Replica q)) (record w { reps = (take_turns k proto q w ts).reps }) (take_turns k proto q w ts)
      (λ _. subst (λ (s : Rep P). Stays s w.made) (sym (reps_else q ne ts w)) was) (λ _. turns_else q ne ts w was)

  unless : (b : Bool) (w v : Run P) → StaysIn w → StaysIn v → StaysIn (if b then v else w)
  unless b w v was now = if_each StaysIn b v w (λ _. now) (λ _. was)

  step_stays : (w : Run P) (e : Event) → IsFormedEvent k e → StaysIn w → StaysIn (step k proto w e)
  step_stays w (invoke c command) formed was =
      unless (nat_lt c k.cluster.clients) w (at_client k proto c w (asking c (w.clis c) (w.clis c).phase command)) was (reps_stay c (asking c (w.clis c) (w.clis c).phase command) w was)
  step_stays w (to_replica q m) formed was =
      elim (cases_eq r q) [
        | inl e ↦
            let now : IsFormedFor k (Replica r) m → StaysIn (step k proto w (to_replica r m)) =
            λ so. let ts = turns k proto r (w.reps r) (took m) in
            unless (nat_lt r (replicas k)) w (at_replica k proto r (checks k (Replica r) m w) ts) was (own_stays ts (checks k (Replica r) m w) (took_may (w.reps r) m was.low so) was) in
            subst (λ (z : ℕ). IsFormedFor k (Replica z) m → StaysIn (step k proto w (to_replica z m))) e now formed
        | inr ne ↦
            let ts = turns k proto q (w.reps q) (took m) in
            unless (nat_lt q (replicas k)) w (at_replica k proto q (checks k (Replica q) m w) ts) was (else_stays q ne ts (checks k (Replica q) m w) was)
      ]
  step_stays w (to_client c m) formed was =
      let ts = moves k c (w.clis c) m in
      unless (nat_lt c k.cluster.clients) w (at_client k proto c (checks k (Client c) m w) ts) was (reps_stay c ts (checks k (Client c) m w) was)
  step_stays w (replica_time q) formed was =
      elim (cases_eq r q) [
        | inl e ↦
            let ts = turns k proto r (w.reps r) timed in
            let now : StaysIn (step k proto w (replica_time r)) = unless (nat_lt r (replicas k)) w (at_replica k proto r w ts) was (own_stays ts w (timed_may (w.reps r)) was) in
            subst (λ (z : ℕ). StaysIn (step k proto w (replica_time z))) e now
        | inr ne ↦
            let ts = turns k proto q (w.reps q) timed in
            unless (nat_lt q (replicas k)) w (at_replica k proto q w ts) was (else_stays q ne ts w was)
      ]
  step_stays w (client_time c) formed was =
      unless (nat_lt c k.cluster.clients) w (at_client k proto c w (panics k (w.clis c))) was (reps_stay c (panics k (w.clis c)) w was)

  start_stays : StaysIn (start k proto)
  start_stays =
      let may : MayStart (setting k.cluster [] 1) [] r [] = record { within = lt; correct = refl; none = refl; rises = none_before; nothing = λ _. refl } in
      record {
        one = omega arith;
        acts = begin_of proto (setting k.cluster [] 1) r (entry_of [] None) ∷ [];
        are = begins (entry_of [] None) (omega arith) may;
        said = λ s has mine is. absurd (Contains-none s has);
        past = λ j less. inl (λ s has mine is. Contains-none s has);
        within = λ s has mine. absurd (Contains-none s has);
        low = omega (arith, place.begins_trimmed k.cluster 1 r (entry_of [] None));
      }

  run_stays : (events : List Event) → AreFormed k events → StaysIn (run k proto events)
  run_stays [] formed = start_stays
  run_stays (e ∷ events) formed = step_stays (run k proto events) e formed.0 (run_stays events formed.1)

  module _ (events : List Event) (formed : AreFormed k events) where
    abbrev made : List Content
    made = (run k proto events).made

    pub acts_by_itself : (i : ℕ) → ActsByItself proto k.cluster i r made
    acts_by_itself i =
        let was = run_stays events formed in
        let s = (run k proto events).reps r in
        elim (cases_lt i s.at) [
          | inl before ↦ was.past i before
          | inr from ↦
              elim (cases_eq i s.at) [
                | inl same ↦
                    subst (λ (z : ℕ). ActsByItself proto k.cluster z r made) (sym same) (inr (record { one = was.one; acts = was.acts; value = s.value; are = was.are; said = was.said }))
                | inr differ ↦ inl (λ q has mine is. omega (arith, was.within q has mine, is, from, differ))
              ]
        ]

    pub aborts_once_in : ActsKeep proto serves AbortsOnce → AbortsOnceIn made r
    aborts_once_in keep i s t is_s is_t one two =
        elim (acts_by_itself i) [
          | inl nothing ↦ absurd (nothing s one is_s.1 is_s.2)
          | inr its ↦ keep k.cluster i r its.acts its.value (all i its.one) its.one its.are s t is_s is_t (its.said s one is_s.1 is_s.2) (its.said t two is_t.1 is_t.2)
        ]

    pub prepares_once_in : ActsKeep proto serves PreparesOnce → PreparesOnceIn made r
    prepares_once_in keep i v n d e one two =
        elim (acts_by_itself i) [
          | inl nothing ↦ absurd (nothing (Prepare (Replica r) i v n d) one refl refl)
          | inr its ↦
              keep k.cluster i r its.acts its.value (all i its.one) its.one its.are v n d e (its.said (Prepare (Replica r) i v n d) one refl refl) (its.said (Prepare (Replica r) i v n e) two refl refl)
        ]
