-- A node is where its events lead its core.
use Rattle.std.proofs.Common.{◌≡◌, ◌⊎◌, inl, inr, ℕ, zero, suc, ◌+◌, ◌-◌, ◌^◌, ◌≤◌, List, [], ◌∷◌, ◌++◌, length, Option, None, Some, Bool, true, false, cond, refl, ap, sym, subst, ◌∙◌, append_assoc, append-nil, length-append, arith}
use Rattle.std.specs.Prelude.{Contains, slice_get}
use Rattle.std.specs.List.{cons_option}
use Rattle.std.proofs.lemmas.Bool.{cases_Bool}
use Rattle.std.proofs.lemmas.Grind.{flat_map-append}
use Rattle.std.proofs.lemmas.List.Elements.{Contains-append_cases, Contains-append_left, Contains-append_right}
use Rattle.std.proofs.lemmas.Option.{none-some, same_Some}
use Rattle.arrayvec.specs.ArrayVec.{ArrayVec}
use Rattle.ab_io.specs.Datagrams.{Datagram}
use Rattle.ab_piece.specs.Joining.{Answer, dropped, more, step_of, whole}
use Rattle.ab_loop.specs.declared.party_core.Commit.{Commit}
use Rattle.ab_loop.specs.Settings.{NodeSetting}
use Rattle.ab_loop.specs.Cores.{NodeEvent, Rules, invoke, message, timeout}
use Rattle.ab_msg.specs.Packets.{Packet}
use Rattle.ab_loop.specs.Edges.{capped, Effect, bodies_in, handed_in, keeping, replies, replies_in, writing, sending}
use Rattle.ab_loop.specs.Texts.{reply_text}
use Rattle.ab_loop.specs.Nodes.{Node, Out, Turn, after_reply, and_then, begin_step, command_step, datagram_step, datagrams_in, event_step, first_step, has_expired, joined_step, kept_of, latest, new_node, next_deadline, no_step, node_again, parcel_of, parcels_of, past_node, past_text, reply_step, run_after, told_step, timer_step, trace_text, turn_step, waits_in, with_deadline, with_joiner}
use Rattle.ab_loop.specs.Folds.{IsOfCore, commits_in, core_after, kept_in, sends_in, spent_in}
use Rattle.ab_loop.proofs.DidLemmas.{bodies_in-append, bodies_in-writing, handed_in-append, handed_in-keeping, handed_in-sending, handed_in-writing, replies_in-append, replies_in-keeping, replies_in-sending, replies_in-writing}
use Rattle.ab_loop.proofs.FollowsLemmas.{event_bodies, event_effects}

-- ---- lists of events and of messages

pub core_after-append : {C : Type 0} (rules : Rules C) (core : C) (a b : List NodeEvent) → core_after rules core (a ++ b) ≡ core_after rules (core_after rules core a) b
core_after-append rules core [] b = refl
core_after-append rules core (e ∷ a) b = core_after-append rules (rules.step core e).after a b

pub sends_in-append : {C : Type 0} (rules : Rules C) (core : C) (a b : List NodeEvent) → sends_in rules core (a ++ b) ≡ sends_in rules core a ++ sends_in rules (core_after rules core a) b
sends_in-append rules core [] b = refl
sends_in-append rules core (e ∷ a) b =
    ap (λ rest. (rules.step core e).sends ++ rest) (sends_in-append rules (rules.step core e).after a b)
    ∙ sym (append_assoc (rules.step core e).sends (sends_in rules (rules.step core e).after a) (sends_in rules (core_after rules (rules.step core e).after a) b))

spent_in-append : {C : Type 0} (rules : Rules C) (core : C) (a b : List NodeEvent) → spent_in rules core (a ++ b) ≡ spent_in rules core a + spent_in rules (core_after rules core a) b
spent_in-append rules core [] b = omega arith
spent_in-append rules core (e ∷ a) b = let rest = spent_in-append rules (rules.step core e).after a b in omega (arith, rest)

kept_in-append : {C : Type 0} (rules : Rules C) (core : C) (a b : List NodeEvent) → kept_in rules core (a ++ b) ≡ kept_in rules core a ++ kept_in rules (core_after rules core a) b
kept_in-append rules core [] b = refl
kept_in-append rules core (e ∷ a) b =
    let done = rules.step core e in
    ap (λ rest. kept_of done.opened e ++ rest) (kept_in-append rules done.after a b)
    ∙ sym (append_assoc (kept_of done.opened e) (kept_in rules done.after a) (kept_in rules (core_after rules done.after a) b))

cons_option-append : {A : Type 0} (o : Option A) (a b : List A) → cons_option o (a ++ b) ≡ cons_option o a ++ b
cons_option-append None a b = refl
cons_option-append (Some x) a b = refl

pub commits_in-append : {C : Type 0} (rules : Rules C) (core : C) (a b : List NodeEvent) → commits_in rules core (a ++ b) ≡ commits_in rules core a ++ commits_in rules (core_after rules core a) b
commits_in-append rules core [] b = refl
commits_in-append rules core (e ∷ a) b =
    let now = (rules.step core e).after in
    ap (λ rest. cons_option (rules.step core e).commit rest) (commits_in-append rules now a b)
    ∙ cons_option-append (rules.step core e).commit (commits_in rules now a) (commits_in rules (core_after rules now a) b)

-- what stands in a list that may begin with one more
pub option_cases : {A : Type 0} (o : Option A) (xs : List A) (x : A) → Contains (cons_option o xs) x → (o ≡ Some x) ⊎ Contains xs x
option_cases None xs x has = inr has
option_cases (Some y) xs x (zero, lt, is) = inl (ap Some is)
option_cases (Some y) xs x (suc k, lt, is) = inr (k, omega arith, is)

-- the later of two commits is the one before or what is new
latest_in : (old new : Option Commit) (c : Commit) → latest old new ≡ Some c → (old ≡ Some c) ⊎ Contains (cons_option new []) c
latest_in old None c is = inl is
latest_in old (Some d) c is = inr (0, omega arith, same_Some d c is)

-- the numbers of messages behind others
pub parcels_of-append : (s : NodeSetting) (n : ℕ) (a b : List Packet) → n ≤ 2 ^ 64 - 1 → parcels_of s n (a ++ b) ≡ parcels_of s n a ++ parcels_of s (capped (n + length a)) b
parcels_of-append s n [] b le = let e : n ≡ capped (n + 0) = omega arith in ap (λ k. parcels_of s k b) e
parcels_of-append s n (m ∷ a) b le =
    let next : capped (n + 1) ≤ 2 ^ 64 - 1 = omega arith in
    let e : capped (capped (n + 1) + length a) ≡ capped (n + length (m ∷ a)) = omega arith in
    ap (λ rest. parcel_of s (capped (n + 1)) m ∷ rest) (parcels_of-append s (capped (n + 1)) a b next ∙ ap (λ k. parcels_of s (capped (n + 1)) a ++ parcels_of s k b) e)

-- ---- steps

-- no number of the node is past the last
record IsCapped {C : Type 0} (n : Node C) : Type 0 where
  number : n.number ≤ 2 ^ 64 - 1
  events : n.events ≤ 2 ^ 64 - 1
  sent : n.sent ≤ 2 ^ 64 - 1
  spent : n.spent ≤ 2 ^ 64 - 1

-- a step from a node to where the events of the step lead its core
record Steps {C : Type 0} (rules : Rules C) (s : NodeSetting) (n : Node C) (o : Out C) : Type 0 where
  core : o.node.core ≡ core_after rules n.core o.events
  number : o.node.number ≡ capped (n.number + length (sends_in rules n.core o.events))
  datagrams : handed_in o.effects ≡ datagrams_in (parcels_of s n.number (sends_in rules n.core o.events))
  kept : bodies_in o.effects ≡ kept_in rules n.core o.events
  commit : (c : Commit) → o.node.commit ≡ Some c → (n.commit ≡ Some c) ⊎ Contains (commits_in rules n.core o.events) c
  told : (c : Commit) → Contains (replies_in o.effects) c → (n.commit ≡ Some c) ⊎ Contains (commits_in rules n.core o.events) c
  events : o.node.events ≡ capped (n.events + length o.events)
  sent : o.node.sent ≡ capped (n.sent + length (handed_in o.effects))
  spent : o.node.spent ≡ capped (n.spent + spent_in rules n.core o.events)

module _ {C : Type 0} (rules : Rules C) (s : NodeSetting) where
  capped_after : (n : Node C) (o : Out C) → Steps rules s n o → IsCapped o.node
  capped_after n o st = record { number = omega (arith, st.number); events = omega (arith, st.events); sent = omega (arith, st.sent); spent = omega (arith, st.spent) }

  -- the commit stays or goes
  abbrev KeepsCommit : Node C → Node C → Type 0
  KeepsCommit n m = (c : Commit) → m.commit ≡ Some c → n.commit ≡ Some c

  -- a step in which the core and the numbers stay
  abbrev still : Node C → List Effect → Out C
  still m effects = record { node = m; effects = effects; events = [] }

  abbrev TellsCommit : Node C → List Effect → Type 0
  TellsCommit n effects = (c : Commit) → Contains (replies_in effects) c → n.commit ≡ Some c

  stays : (n m : Node C) (effects : List Effect) → IsCapped n → handed_in effects ≡ [] → bodies_in effects ≡ [] → TellsCommit n effects
      → m.core ≡ n.core → m.number ≡ n.number → KeepsCommit n m → m.events ≡ n.events → m.sent ≡ n.sent → m.spent ≡ n.spent → Steps rules s n (still m effects)
  stays n m effects within handed bodies told core number commit events sent spent = record {
    core = core;
    number = omega (arith, number, within.number);
    datagrams = handed;
    kept = bodies;
    commit = λ c is. inl (commit c is);
    told = λ c has. inl (told c has);
    events = omega (arith, events, within.events);
    sent = omega (arith, sent, within.sent, ap (λ (ds : List Datagram). length ds) handed);
    spent = omega (arith, spent, within.spent);
  }

  tells_none : (n : Node C) → TellsCommit n []
  tells_none n c has = absurd (omega (arith, has.1))

  no_steps : (n : Node C) → IsCapped n → Steps rules s n (no_step n)
  no_steps n within = stays n n [] within refl refl (λ c has. tells_none n c has) refl refl (λ c is. is) refl refl refl

  -- one step after another
  then_steps : (n : Node C) (a : Out C) (f : Node C → Out C) → IsCapped n → Steps rules s n a → Steps rules s a.node (f a.node) → Steps rules s n (and_then a f)
  then_steps n a f within first second =
      let b = f a.node in
      let here = core_after rules n.core a.events in
      let handed = handed_in-append a.effects b.effects in
      let sends : sends_in rules n.core (a.events ++ b.events) ≡ sends_in rules n.core a.events ++ sends_in rules here b.events = sends_in-append rules n.core a.events b.events in
      let later_sends : sends_in rules a.node.core b.events ≡ sends_in rules here b.events = ap (λ core. sends_in rules core b.events) first.core in
      let count : length (sends_in rules n.core (a.events ++ b.events)) ≡ length (sends_in rules n.core a.events) + length (sends_in rules a.node.core b.events) =
      ap (λ (ms : List Packet). length ms) sends ∙ length-append (sends_in rules n.core a.events) (sends_in rules here b.events)
      ∙ ap (λ (ms : List Packet). length (sends_in rules n.core a.events) + length ms) (sym later_sends) in
      let commits : commits_in rules n.core (a.events ++ b.events) ≡ commits_in rules n.core a.events ++ commits_in rules here b.events = commits_in-append rules n.core a.events b.events in
      let in_first : (c : Commit) → Contains (commits_in rules n.core a.events) c → Contains (commits_in rules n.core (a.events ++ b.events)) c =
      λ c there. subst (λ (cs : List Commit). Contains cs c) (sym commits) (Contains-append_left (commits_in rules n.core a.events) (commits_in rules here b.events) c there) in
      let in_second : (c : Commit) → Contains (commits_in rules a.node.core b.events) c → Contains (commits_in rules n.core (a.events ++ b.events)) c =
      λ c there. subst (λ (cs : List Commit). Contains cs c) (sym commits)
      (Contains-append_right (commits_in rules n.core a.events) (commits_in rules here b.events) c (subst (λ core. Contains (commits_in rules core b.events) c) first.core there)) in
      let spent : spent_in rules n.core (a.events ++ b.events) ≡ spent_in rules n.core a.events + spent_in rules a.node.core b.events =
      spent_in-append rules n.core a.events b.events ∙ ap (λ core. spent_in rules n.core a.events + spent_in rules core b.events) (sym first.core) in
      record {
        core = second.core ∙ ap (λ core. core_after rules core b.events) first.core ∙ sym (core_after-append rules n.core a.events b.events);
        number = omega (arith, first.number, second.number, count);
        datagrams = handed ∙ sym (ap (λ (ms : List Packet). datagrams_in (parcels_of s n.number ms)) sends
            ∙ ap datagrams_in (parcels_of-append s n.number (sends_in rules n.core a.events) (sends_in rules here b.events) within.number)
            ∙ flat_map-append (λ p. p) (parcels_of s n.number (sends_in rules n.core a.events)) (parcels_of s (capped (n.number + length (sends_in rules n.core a.events))) (sends_in rules here b.events))
            ∙ ap (λ ds. ds ++ datagrams_in (parcels_of s (capped (n.number + length (sends_in rules n.core a.events))) (sends_in rules here b.events))) (sym first.datagrams)
            ∙ ap (λ k. handed_in a.effects ++ datagrams_in (parcels_of s k (sends_in rules here b.events))) (sym first.number)
            ∙ ap (λ (ms : List Packet). handed_in a.effects ++ datagrams_in (parcels_of s a.node.number ms)) (sym later_sends)
            ∙ ap (λ ds. handed_in a.effects ++ ds) (sym second.datagrams));
        kept = bodies_in-append a.effects b.effects ∙ ap (λ l. l ++ bodies_in b.effects) first.kept ∙ ap (λ l. kept_in rules n.core a.events ++ l) (second.kept ∙ ap (λ core. kept_in rules core b.events) first.core)
            ∙ sym (kept_in-append rules n.core a.events b.events);
        commit = λ c is. elim (second.commit c is) [ inl old ↦ elim (first.commit c old) [ inl before ↦ inl before | inr there ↦ inr (in_first c there) ] | inr there ↦ inr (in_second c there) ];
        told = λ c has. elim (Contains-append_cases (replies_in a.effects) (replies_in b.effects) c (subst (λ (cs : List Commit). Contains cs c) (replies_in-append a.effects b.effects) has)) [
          | inl now ↦ elim (first.told c now) [ inl before ↦ inl before | inr there ↦ inr (in_first c there) ]
          | inr now ↦ elim (second.told c now) [ inl old ↦ elim (first.commit c old) [ inl before ↦ inl before | inr there ↦ inr (in_first c there) ] | inr there ↦ inr (in_second c there) ]
        ];
        events = omega (arith, first.events, second.events, length-append a.events b.events);
        sent = omega (arith, first.sent, second.sent, ap (λ (ds : List Datagram). length ds) handed, length-append (handed_in a.effects) (handed_in b.effects));
        spent = omega (arith, first.spent, second.spent, spent);
      }

  -- what an event hands over and replies, whatever its line
  pub event_hands : (text : List ℕ) (bodies : List (List ℕ)) (ds : List Datagram) → handed_in (event_effects text bodies ds) ≡ ds
  event_hands text bodies ds =
      handed_in-append (writing text) (keeping bodies ++ sending ds) ∙ ap (λ (front : List Datagram). front ++ handed_in (keeping bodies ++ sending ds)) (handed_in-writing text)
      ∙ handed_in-append (keeping bodies) (sending ds) ∙ ap (λ (front : List Datagram). front ++ handed_in (sending ds)) (handed_in-keeping bodies) ∙ handed_in-sending ds

  pub event_replies : (text : List ℕ) (bodies : List (List ℕ)) (ds : List Datagram) → replies_in (event_effects text bodies ds) ≡ []
  event_replies text bodies ds =
      replies_in-append (writing text) (keeping bodies ++ sending ds) ∙ ap (λ (front : List Commit). front ++ replies_in (keeping bodies ++ sending ds)) (replies_in-writing text)
      ∙ replies_in-append (keeping bodies) (sending ds) ∙ ap (λ (front : List Commit). front ++ replies_in (sending ds)) (replies_in-keeping bodies) ∙ replies_in-sending ds

  spent_one : (b : Bool) (k : ℕ) → k ≤ 2 ^ 64 - 1 → cond b (capped (k + 1)) k ≡ capped (k + (cond b 1 0 + 0))
  spent_one true k le = omega arith
  spent_one false k le = omega arith

  event_steps : (t : ℕ) (e : NodeEvent) (n : Node C) → IsCapped n → Steps rules s n (event_step rules s t e n)
  unfolding event_step
  event_steps t e n within =
      let sends = (rules.step n.core e).sends in
      let bodies = kept_of (rules.step n.core e).opened e in
      let ds = datagrams_in (parcels_of s n.number sends) in
      let handed = event_hands (trace_text s e) bodies ds in
      record {
        core = refl;
        number = ap (λ (ms : List Packet). capped (n.number + length ms)) (sym (append-nil sends));
        datagrams = handed ∙ ap (λ (ms : List Packet). datagrams_in (parcels_of s n.number ms)) (sym (append-nil sends));
        kept = event_bodies (trace_text s e) bodies ds ∙ sym (append-nil bodies);
        commit = λ c is. latest_in n.commit (rules.step n.core e).commit c is;
        told = λ c has. absurd (omega (arith, (subst (λ (cs : List Commit). Contains cs c) (event_replies (trace_text s e) bodies ds) has).1));
        events = refl;
        sent = ap (λ (ds : List Datagram). capped (n.sent + length ds)) (sym handed);
        spent = spent_one (rules.step n.core e).spent n.spent within.spent;
      }

  -- the deadline alone is another
  dated : (deadline : ℕ) (n : Node C) (o : Out C) → Steps rules s n o → Steps rules s n (with_deadline deadline o)
  dated deadline n o st = record { core = st.core; number = st.number; datagrams = st.datagrams; kept = st.kept; commit = st.commit; told = st.told; events = st.events; sent = st.sent; spent = st.spent }

  timer_steps : (t : ℕ) (n : Node C) → IsCapped n → Steps rules s n (timer_step rules s t n)
  unfolding timer_step
  timer_steps t n within =
      elim (cases_Bool (has_expired rules t n)) [
        | inl expired ↦ rw expired (dated (next_deadline s t) n (event_step rules s t timeout n) (event_steps t timeout n within))
        | inr running ↦ rw running (no_steps n within)
      ]

  -- the message that is joined comes to a node that differs in what is open
  joined_steps : (t : ℕ) (a : Answer) (n m : Node C) → m.core ≡ n.core → m.number ≡ n.number → KeepsCommit n m → m.events ≡ n.events → m.sent ≡ n.sent → m.spent ≡ n.spent → IsCapped n → Steps rules s n (joined_step rules s t a m)
  joined_steps t a n m core number commit events sent spent within = go a where
    here : Steps rules s n (no_step m)
    here = stays n m [] within refl refl (λ c has. tells_none n c has) core number commit events sent spent

    go : (a : Answer) → Steps rules s n (joined_step rules s t a m)
    go (whole text) = then_steps n (no_step m) (event_step rules s t (message text)) within here (event_steps t (message text) m (capped_after n (no_step m) here))
    go more = here
    go (dropped why) = here

  datagram_steps : (t : ℕ) (got : Option (List ℕ)) (n : Node C) → IsCapped n → Steps rules s n (datagram_step rules s t got n)
  unfolding datagram_step
  datagram_steps t None n within = no_steps n within
  datagram_steps t (Some bytes) n within = joined_steps t (step_of n.joiner bytes).answer n (with_joiner (step_of n.joiner bytes).after n) refl refl (λ c is. is) refl refl refl within

  command_steps : (t : ℕ) (n : Node C) → IsCapped n → Steps rules s n (command_step rules s t n)
  unfolding command_step
  command_steps t n within = go (slice_get n.commands 0) where
    go : (next : Option (ArrayVec ℕ)) → Steps rules s n (elim next [ None ↦ no_step n | Some c ↦ event_step rules s t (invoke c.items) n ])
    go None = no_steps n within
    go (Some c) = event_steps t (invoke c.items) n within

  one_told : (n : Node C) (c : Commit) → n.commit ≡ Some c → TellsCommit n (replies c ∷ writing (reply_text c))
  one_told n c is d has =
      elim (Contains-append_cases (c ∷ []) (replies_in (writing (reply_text c))) d has) [
        | inl this ↦ is ∙ ap Some (only c d this)
        | inr none ↦ absurd (omega (arith, (subst (λ (cs : List Commit). Contains cs d) (replies_in-writing (reply_text c)) none).1))
      ]
    where
      only : (x y : Commit) → Contains (x ∷ []) y → x ≡ y
      only x y (zero, lt, same) = same
      only x y (suc k, lt, same) = absurd (omega (arith, lt))

  reply_steps : (t : ℕ) (n : Node C) → IsCapped n → Steps rules s n (reply_step rules s t n)
  unfolding reply_step
  reply_steps t n within = go n.commit refl where
    go : (commit : Option Commit) → n.commit ≡ commit → Steps rules s n (elim commit [ None ↦ no_step n | Some c ↦ and_then (told_step (after_reply n) c) (command_step rules s t) ])
    go None is = no_steps n within
    go (Some c) is =
        let effects = replies c ∷ writing (reply_text c) in
        let told = stays n (after_reply n) effects within (handed_in-writing (reply_text c)) (bodies_in-writing (reply_text c)) (λ d has. one_told n c is d has) refl refl (λ d none. absurd (none-some d none)) refl refl refl in
        then_steps n (told_step (after_reply n) c) (command_step rules s t) within told (command_steps t (after_reply n) (capped_after n (told_step (after_reply n) c) told))

  -- up to its reply
  abbrev until_reply : Turn → Node C → Out C
  until_reply turn n = and_then (timer_step rules s turn.reading n) (datagram_step rules s turn.reading turn.got)

  until_steps : (turn : Turn) (n : Node C) → IsCapped n → Steps rules s n (until_reply turn n)
  until_steps turn n within =
      let t = turn.reading in
      let one = timer_step rules s t n in
      let first = timer_steps t n within in
      then_steps n one (datagram_step rules s t turn.got) within first (datagram_steps t turn.got one.node (capped_after n one first))

  turn_steps : (turn : Turn) (n : Node C) → IsCapped n → Steps rules s n (turn_step rules s turn n)
  unfolding turn_step
  turn_steps turn n within =
      let two = until_reply turn n in
      let second = until_steps turn n within in
      then_steps n two (reply_step rules s turn.reading) within second (reply_steps turn.reading two.node (capped_after n two second))

  -- ---- events of earlier runs

  -- after them: where they lead the core, and the counts
  record Restored (n m : Node C) (past : List NodeEvent) : Type 0 where
    core : m.core ≡ core_after rules n.core past
    number : m.number ≡ capped (n.number + length (sends_in rules n.core past))
    commit : m.commit ≡ n.commit
    events : m.events ≡ capped (n.events + length past)
    sent : m.sent ≡ n.sent
    spent : m.spent ≡ capped (n.spent + spent_in rules n.core past)

  restores : (t : ℕ) (past : List NodeEvent) (n : Node C) → IsCapped n → Restored n (past_node rules s t past n) past
  restores t [] n within = record { core = refl; number = omega (arith, within.number); commit = refl; events = omega (arith, within.events); sent = refl; spent = omega (arith, within.spent) }
  restores t (e ∷ past) n within =
      let done = rules.step n.core e in
      let m = node_again rules s t n done in
      let one = spent_one done.spent n.spent within.spent in
      let so : IsCapped m = record { number = omega arith; events = omega arith; sent = within.sent; spent = omega (arith, one) } in
      let rest = restores t past m so in
      record {
        core = rest.core;
        number = omega (arith, rest.number, length-append done.sends (sends_in rules done.after past));
        commit = rest.commit;
        events = omega (arith, rest.events);
        sent = rest.sent;
        spent = omega (arith, rest.spent, one);
      }

  -- a run behind lines that were written again: what it did then, from the node m on
  record Behind (m : Node C) (text : List ℕ) (past : List NodeEvent) (o : Out C) : Type 0 where
    effects : List Effect
    new : List NodeEvent
    parts : o.effects ≡ writing text ++ effects
    all : o.events ≡ past ++ new
    steps : Steps rules s m (record { node = o.node; effects = effects; events = new })

  behind_then : (m : Node C) (text : List ℕ) (past : List NodeEvent) (o : Out C) (turn : Turn) → IsCapped m → Behind m text past o → Behind m text past (and_then o (turn_step rules s turn))
  behind_then m text past o turn within b =
      let front : Out C = record { node = o.node; effects = b.effects; events = b.new } in
      let more = turn_step rules s turn o.node in
      record {
        effects = b.effects ++ more.effects;
        new = b.new ++ more.events;
        parts = ap (λ l. l ++ more.effects) b.parts ∙ append_assoc (writing text) b.effects more.effects;
        all = ap (λ l. l ++ more.events) b.all ∙ append_assoc past b.new more.events;
        steps = then_steps m front (turn_step rules s turn) within b.steps (turn_steps turn o.node (capped_after m front b.steps));
      }

  begin_behind : (t : ℕ) (past : List NodeEvent) (n : Node C) → IsCapped (past_node rules s t past n) → Behind (past_node rules s t past n) (past_text rules s n.core past) past (begin_step rules s t past n)
  unfolding begin_step
  begin_behind t past n within = go (waits_in rules n.core false past) where
    go : (waits : Bool) → Behind (past_node rules s t past n) (past_text rules s n.core past) past
        (and_then (record { node = past_node rules s t past n; effects = writing (past_text rules s n.core past); events = past }) (cond waits no_step (command_step rules s t)))
    go true = record { effects = []; new = []; parts = refl; all = refl; steps = no_steps (past_node rules s t past n) within }
    go false =
        let m = past_node rules s t past n in
        let next = command_step rules s t m in
        record { effects = next.effects; new = next.events; parts = refl; all = refl; steps = command_steps t m within }

  run_behind : (m : Node C) (text : List ℕ) (past : List NodeEvent) (start : Out C) (turns : List Turn) → IsCapped m → Behind m text past start → Behind m text past (run_after rules s start turns)
  run_behind m text past start [] within b = b
  run_behind m text past start (turn ∷ before) within b = behind_then m text past (run_after rules s start before) turn within (run_behind m text past start before within b)

  -- ---- a run

  new_capped : (t : ℕ) (core : C) (commands : List (ArrayVec ℕ)) → IsCapped (new_node s t core commands)
  new_capped t core commands = record { number = omega arith; events = omega arith; sent = omega arith; spent = omega arith }

  restored_capped : (n m : Node C) (past : List NodeEvent) → IsCapped n → Restored n m past → IsCapped m
  restored_capped n m past within there = record { number = omega (arith, there.number); events = omega (arith, there.events); sent = omega (arith, there.sent, within.sent); spent = omega (arith, there.spent) }

  -- where a node is after the events of earlier runs
  pub begun : (t : ℕ) (core : C) (past : List NodeEvent) (commands : List (ArrayVec ℕ)) → let m = past_node rules s t past (new_node s t core commands) in
      (m.core ≡ core_after rules core past) × (m.number ≡ capped (length (sends_in rules core past))) × (m.commit ≡ None)
  begun t core past commands =
      let there = restores t past (new_node s t core commands) (new_capped t core commands) in
      (there.core, omega (arith, there.number), there.commit)

  of_core : (n m : Node C) (text : List ℕ) (past : List NodeEvent) (o : Out C) → n.number ≡ 0 → n.events ≡ 0 → n.sent ≡ 0 → n.spent ≡ 0 → Restored n m past → Behind m text past o → IsOfCore rules s n.core past o
  of_core n m text past o number events sent spent there b =
      let st = b.steps in
      let handed : handed_in o.effects ≡ handed_in b.effects =
      ap handed_in b.parts ∙ handed_in-append (writing text) b.effects ∙ ap (λ (l : List Datagram). l ++ handed_in b.effects) (handed_in-writing text) in
      let bodies : bodies_in o.effects ≡ bodies_in b.effects =
      ap bodies_in b.parts ∙ bodies_in-append (writing text) b.effects ∙ ap (λ (l : List (List ℕ)). l ++ bodies_in b.effects) (bodies_in-writing text) in
      let here : m.number ≡ capped (length (sends_in rules n.core past)) = omega (arith, there.number, number) in
      let all_spent : spent_in rules n.core o.events ≡ spent_in rules n.core past + spent_in rules m.core b.new =
      ap (spent_in rules n.core) b.all ∙ spent_in-append rules n.core past b.new ∙ ap (λ core. spent_in rules n.core past + spent_in rules core b.new) (sym there.core) in
      record {
        new = b.new;
        all = b.all;
        core = st.core ∙ ap (λ core. core_after rules core b.new) there.core ∙ sym (core_after-append rules n.core past b.new) ∙ ap (core_after rules n.core) (sym b.all);
        datagrams = handed ∙ st.datagrams ∙ ap (λ k. datagrams_in (parcels_of s k (sends_in rules m.core b.new))) here
            ∙ ap (λ core. datagrams_in (parcels_of s (capped (length (sends_in rules n.core past))) (sends_in rules core b.new))) there.core;
        kept = bodies ∙ st.kept ∙ ap (λ core. kept_in rules core b.new) there.core;
        events = omega (arith, st.events, there.events, events, ap (λ (es : List NodeEvent). length es) b.all, length-append past b.new);
        sent = omega (arith, st.sent, there.sent, sent, ap (λ (ds : List Datagram). length ds) handed);
        spent = omega (arith, st.spent, there.spent, spent, all_spent);
      }

  tells_commits : (n m : Node C) (text : List ℕ) (past : List NodeEvent) (o : Out C) → n.commit ≡ None → Restored n m past → Behind m text past o
      → (c : Commit) → Contains (replies_in o.effects) c → Contains (commits_in rules n.core o.events) c
  tells_commits n m text past o none there b c has =
      let told : replies_in o.effects ≡ replies_in b.effects =
      ap replies_in b.parts ∙ replies_in-append (writing text) b.effects ∙ ap (λ (l : List Commit). l ++ replies_in b.effects) (replies_in-writing text) in
      let all : commits_in rules n.core o.events ≡ commits_in rules n.core past ++ commits_in rules m.core b.new =
      ap (commits_in rules n.core) b.all ∙ commits_in-append rules n.core past b.new ∙ ap (λ core. commits_in rules n.core past ++ commits_in rules core b.new) (sym there.core) in
      elim (b.steps.told c (subst (λ (cs : List Commit). Contains cs c) told has)) [
        | inl old ↦ absurd (none-some c (sym (there.commit ∙ none) ∙ old))
        | inr now ↦ subst (λ (cs : List Commit). Contains cs c) (sym all) (Contains-append_right (commits_in rules n.core past) (commits_in rules m.core b.new) c now)
      ]

  pub follows_core : (reading : ℕ) (core : C) (past : List NodeEvent) (commands : List (ArrayVec ℕ)) (turns : List Turn) → IsOfCore rules s core past (run_after rules s (first_step rules s reading core past commands) turns)
  unfolding first_step
  follows_core reading core past commands turns =
      let n = new_node s reading core commands in
      let m = past_node rules s reading past n in
      let there = restores reading past n (new_capped reading core commands) in
      let within = restored_capped n m past (new_capped reading core commands) there in
      let text = past_text rules s core past in
      of_core n m text past (run_after rules s (begin_step rules s reading past n) turns) refl refl refl refl there
      (run_behind m text past (begin_step rules s reading past n) turns within (begin_behind reading past n within))

  pub tells_core : (reading : ℕ) (core : C) (past : List NodeEvent) (commands : List (ArrayVec ℕ)) (turns : List Turn) (c : Commit)
      → Contains (replies_in (run_after rules s (first_step rules s reading core past commands) turns).effects) c
      → Contains (commits_in rules core (run_after rules s (first_step rules s reading core past commands) turns).events) c
  unfolding first_step
  tells_core reading core past commands turns =
      let n = new_node s reading core commands in
      let m = past_node rules s reading past n in
      let there = restores reading past n (new_capped reading core commands) in
      let within = restored_capped n m past (new_capped reading core commands) there in
      let text = past_text rules s core past in
      tells_commits n m text past (run_after rules s (begin_step rules s reading past n) turns) refl there
      (run_behind m text past (begin_step rules s reading past n) turns within (begin_behind reading past n within))
