-- A Backup over a lawful orderer is lawful.
use Rattle.std.proofs.Common.{◌≡◌, ◌≢◌, ℕ, zero, suc, ◌+◌, ◌<◌, ◌≤◌, Bool, true, false, Some, None, Option, List, [], ◌∷◌, ◌++◌, ◌⊎◌, length, refl, sym, ap, ◌∙◌, subst, inl, inr, arith, append-nil, length-append}
use Rattle.std.specs.Prelude.{Contains, IsTrue, nat_lt, slice_get, unwrap_or}
use Rattle.std.proofs.lemmas.Bool.{cases_Bool, cases_lt, leb-true, le-leb}
use Rattle.std.proofs.lemmas.Option.{slice_get_within}
use mathlib.Core.List.{IsPrefix}
use base.Growing.{prefix_refl}
use Rattle.ab_num.specs.declared.party.Party.TheVariants.{Replica, Client}
use Rattle.ab_hist.specs.declared.request.Request.{Request}
use Rattle.ab_hist.specs.Histories.{IsHistory, place_in}
use Rattle.ab_svc.specs.Machines.{Machine}
use Rattle.ab_msg.specs.declared.content.Content.{Content}
use Rattle.ab_msg.specs.declared.content.Content.TheVariants.{Req, Order, Resp, ChainTag, Panic, Abort, PrePrepare, Prepare, Commit, ViewChange, NewView, Checkpoint, Spec, LocalCommit, AbortZ, TrimmedAbort}
use Rattle.ab_abs.specs.declared.seen.Seen.{Seen}
use Rattle.ab_abs.specs.declared.rule.ReplyRule.TheVariants as rules
use Rattle.ab_num.specs.Places.{limit_of}
use Rattle.ab_num.proofs.Lists.{Contains-head, Contains-tail, Contains-cons_cases, flat_map_cases, Contains-one, Contains-none}
use Rattle.ab_msg.specs.declared.value.Value.{Value}
use Rattle.ab_abs.specs.Faults.{is_faulty}
use Rattle.ab_abs.specs.Instances.{IsAbstract}
use Rattle.ab_abs.specs.Acts.{Setting, State, Act, MayStart, observations, named_in, unmarked, state_of, own_acts, log_at, log_of, base_at as state_base, base_of, start_of, call_of}
use Rattle.ab_abs.specs.Rules.{IsOtherBy, IsAsked, request, panic, IsStill, is_inner, by_client, takes, aborts}
use Rattle.ab_abs.specs.Lawful.{first, call, other}
use Rattle.ab_abs.specs.Backing.{IsCorrect, IsStopped}
use Rattle.ab_abs.specs.OrderRules.{WasClaimed, IsOrderCall, IsOrderAnswer, IsOrderSound}
use Rattle.ab_abs.proofs.Facts.{state_cases, state_own, state_quiet}
use Rattle.ab_abs.proofs.Prefixes.{prefix_length}
use Rattle.ab_abs.proofs.Orders.{order_promises}
use Rattle.ab_order.specs.Orders.{OrderPremises, IsOneOrder, IsQuiet, is_ordering}
use Rattle.ab_order.specs.Orderers.{IsReached, by_input, Handed, Ordering, base_at, begun_empty, IsTurn, IsOrderly, IsLawfulOrderer}
use Rattle.ab_order.specs.Backups.{Backing, keep, keep_asked, is_done, answer_in, answer_of, asked_list, executed_now, answers_by, backup_begin, backup_after, backup_state, unless_stopped, first_answers, later_answers, IsBackupTurn, IsBackupSound, BackupStands}
use Rattle.ab_order.proofs.OwnActs.{own_cases, own_own, own_state, own_within, own_grows, tail_within, claimed_within}
use Rattle.ab_order.proofs.Answering.{answer_right, answer_later, due, IsDue, kept_asking, executed, place_of}

-- a longer list that is no longer is the same
same_length : (h k : List Request) → IsPrefix h k → length k ≤ length h → k ≡ h
same_length h k p le = of_rest p.0 p.1 (omega (arith, prefix_length h k p))
  where
    of_rest : (rest : List Request) → h ++ rest ≡ k → length k ≡ length h → k ≡ h
    of_rest [] e len = sym e ∙ append-nil h
    of_rest (m ∷ rest) e len = absurd (omega (arith, ap length e, length-append h (m ∷ rest), len))

pub not_both : (b : Bool) → b ≡ true → b ≡ false → ⊥
not_both b on off = cc (on, off)

-- what stands early in a list stands in its beginning
front_stands : (h rest : List Request) (t : ℕ) (m : Request) → t < length h → slice_get (h ++ rest) t ≡ Some m → Contains h m
front_stands [] rest t m lt is = absurd (omega (arith, lt))
front_stands (n ∷ h) rest zero m lt is = let e : n ≡ m = cc (is) in subst (λ (z : Request). Contains (n ∷ h) z) e (Contains-head n h)
front_stands (n ∷ h) rest (suc t) m lt is = Contains-tail n m h (front_stands h rest t m (omega (arith, lt)) is)

-- an answer is no statement of an order
answers_quiet : {S : Type 0} (machine : Machine S) (i me b : ℕ) (log : List Request) (m : Request) (s : Content) → Contains (answer_of machine i me b log m) s → is_ordering s ≡ false
answers_quiet machine i me b log m s has = of_place (place_in log m) has
  where
    of_place : (o : Option ℕ) → Contains (answer_in machine i me b log m o) s → is_ordering s ≡ false
    of_place None has = absurd (Contains-none s has)
    of_place (Some n) has = ap is_ordering (sym (Contains-one _ s has))

-- a request is kept as it is asked
pub keep_cases : (q : Request) (kept : List Request) (m : Request) → Contains (keep q kept) m → (q ≡ m) ⊎ Contains kept m
keep_cases q [] m has = inl (Contains-one q m has)
keep_cases q (o ∷ kept) m has =
    elim (cases_Bool (nat_lt q.client o.client)) [
      | inl below ↦ Contains-cons_cases q (o ∷ kept) m (rw below at has)
      | inr not_below ↦ elim (cases_Bool (nat_lt o.client q.client)) [
        | inl above ↦ elim (Contains-cons_cases o (keep q kept) m (rw (not_below, above) at has)) [
          | inl e ↦ inr (subst (λ (z : Request). Contains (o ∷ kept) z) e (Contains-head o kept))
          | inr more ↦ elim (keep_cases q kept m more) [ inl e ↦ inl e | inr old ↦ inr (Contains-tail o m kept old) ]
        ]
        | inr same ↦ elim (Contains-cons_cases q kept m (rw (not_below, same) at has)) [
          | inl e ↦ inl e
          | inr more ↦ inr (Contains-tail o m kept more)
        ]
      ]
    ]

-- what is no inner statement is no statement of an order
inner_orders : (s : Content) → is_inner s ≡ false → is_ordering s ≡ false
inner_orders (Req maker i m) is = refl
inner_orders (Order maker i n m) is = refl
inner_orders (Resp maker i c stamp n d reply) is = refl
inner_orders (ChainTag maker i c stamp n d) is = refl
inner_orders (Panic maker i) is = refl
inner_orders (Abort maker i h) is = refl
inner_orders (Checkpoint maker i n d) is = refl
inner_orders (Spec maker i c stamp n d reply) is = refl
inner_orders (LocalCommit maker i c stamp n d) is = refl
inner_orders (AbortZ maker i h zcert) is = refl
inner_orders (TrimmedAbort maker i start digest rest) is = refl
inner_orders (PrePrepare maker i view slot d) is = absurd (cc (is))
inner_orders (Prepare maker i view slot d) is = absurd (cc (is))
inner_orders (Commit maker i view slot d) is = absurd (cc (is))
inner_orders (ViewChange maker i view entries) is = absurd (cc (is))
inner_orders (NewView maker i view) is = absurd (cc (is))

ordering_inner : (s : Content) → is_ordering s ≡ true → is_inner s ≡ true
ordering_inner s is = elim (cases_Bool (is_inner s)) [ inl inner ↦ inner | inr outer ↦ absurd (not_both (is_ordering s) is (inner_orders s outer)) ]

asked_quiet : (x : Setting) (acts : List Act) (a : Act) (c : ℕ) (s : Content) → IsAsked x acts a c s → is_ordering s ≡ false
asked_quiet x acts a c s (request m is invoked) = ap is_ordering is
asked_quiet x acts a c s (panic is) = ap is_ordering is

-- an act that is no call of a protocol is no call of its orderer
pub other_quiet : (x : Setting) (acts : List Act) (a : Act) → IsOtherBy (rules.Equal (x.cluster.f + 1)) x acts a → IsQuiet acts a
other_quiet x acts a (by_client c own is) = record {
  states = λ s has. asked_quiet x acts a c s (is.asks s has);
  rests = λ r. elim (state_cases a acts r) [ inl same ↦ absurd (cc (own, same.0)) | inr differ ↦ differ.1 ];
}
other_quiet x acts a (takes q claims h lt is valid) = record {
  states = λ s has. absurd (Contains-none s (subst (λ (b : Act). Contains b.made s) is has));
  rests = λ r. state_quiet a acts r (ap (λ b. b.state) is);
}
other_quiet x acts a (aborts q s lt was stopped is) = record {
  states = λ c has. ap is_ordering (sym (Contains-one (Abort (Replica q) x.i s.log) c (subst (λ (b : Act). Contains b.made c) is has)));
  rests = λ r. state_quiet a acts r (ap (λ b. b.state) is);
}

module _ {P E : Type 0} (handed : Handed E) (proto : Ordering P E) (orderly : IsOrderly handed proto) where
  -- what is done has its base, and all requests behind it
  done_has : (v : Backing P) → (backup_state proto v).stopped ≡ true → (h : List Request) × (proto.base v.order ≡ Some h) × (length h + v.k ≤ length (proto.ordered v.order))
  done_has v halt = of_base (proto.base v.order) refl halt
    where
      of_base : (o : Option (List Request)) → proto.base v.order ≡ o → is_done v.k o (proto.ordered v.order) ≡ true → (h : List Request) × (proto.base v.order ≡ Some h) × (length h + v.k ≤ length (proto.ordered v.order))
      of_base None none halt = absurd (cc (halt))
      of_base (Some h) is halt = (h, is, leb-true (length h + v.k) (length (proto.ordered v.order)) halt)

  -- with its requests all there, and no more to come, it stays as it is
  still_stopped : (v : Backing P) (e : E) (h : List Request) → proto.base v.order ≡ Some h → length h + v.k ≤ length (proto.ordered v.order) → length (proto.ordered (proto.after v.order e)) ≤ length h + v.k
      → (proto.ordered (proto.after v.order e) ≡ proto.ordered v.order) × ((backup_state proto (backup_after proto handed v e)).stopped ≡ true)
  still_stopped v e h is long short =
      let grows = orderly.grows v.order e in
      let more = prefix_length (proto.ordered v.order) (proto.ordered (proto.after v.order e)) grows in (
        same_length (proto.ordered v.order) (proto.ordered (proto.after v.order e)) grows (omega (arith, long, short)),
        ap (λ o. is_done v.k o (proto.ordered (proto.after v.order e))) (orderly.keeps v.order e h is) ∙ le-leb (length h + v.k) (length (proto.ordered (proto.after v.order e))) (omega (arith, long, more)),
      )

  -- so a stopped value stays so, whatever it is handed
  pub stays_stopped : (v : Backing P) (e : E) → IsReached proto v.k v.order → (backup_state proto v).stopped ≡ true → (proto.ordered (proto.after v.order e) ≡ proto.ordered v.order) × ((backup_state proto (backup_after proto handed v e)).stopped ≡ true)
  stays_stopped v e reached halt =
      let d = done_has v halt in
      still_stopped v e d.0 d.1 d.2 (orderly.at_most v.k (proto.after v.order e) d.0 (by_input v.order e reached) (orderly.keeps v.order e d.0 d.1))

module _ {S P E : Type 0} (machine : Machine S) (handed : Handed E) (proto : Ordering P E) (orderly : IsOrderly handed proto)
    (Given : ℕ → ℕ → ℕ → E → Type 0) (order_sound : Setting → ℕ → List Act → Type 0) (order_stands : Setting → ℕ → P → ℕ → List Act → Type 0) (law : IsLawfulOrderer handed proto Given order_sound order_stands) (x : Setting) (k : ℕ) where
  abbrev Sound : List Act → Type 0
  Sound acts = IsBackupSound machine order_sound x k acts

  abbrev Stands : Backing P → ℕ → List Act → Type 0
  Stands v r own = BackupStands proto order_stands x k v r own

  abbrev at : Backing P → State
  at v = backup_state proto v

  abbrev next : Backing P → E → Backing P
  next v e = backup_after proto handed v e

  -- the base is settled before anything is logged
  based : (p : P) (e : E) → (proto.ordered p ≡ []) ⊎ (base_at proto (proto.after p e) ≡ base_at proto p)
  based p e = of_base (proto.base p) refl
    where
      of_base : (o : Option (List Request)) → proto.base p ≡ o → (proto.ordered p ≡ []) ⊎ (base_at proto (proto.after p e) ≡ base_at proto p)
      of_base None none = inl (orderly.empty p none)
      of_base (Some h) is = inr (ap (λ o. unwrap_or o []) (orderly.keeps p e h is ∙ sym is))

  -- the base is no longer than the log
  base_within : (p : P) → length (base_at proto p) ≤ length (proto.ordered p)
  base_within p = of_base (proto.base p) refl
    where
      of_base : (o : Option (List Request)) → proto.base p ≡ o → length (base_at proto p) ≤ length (proto.ordered p)
      of_base None none = omega (arith, ap (λ o. length (unwrap_or o [])) none)
      of_base (Some h) is = omega (arith, ap (λ o. length (unwrap_or o [])) is, prefix_length h (proto.ordered p) (orderly.begins p h is))

  done_whole : (v : Backing P) → (at v).stopped ≡ true → length (at v).base + v.k ≤ length (at v).log
  done_whole v halt = let d = done_has handed proto orderly v halt in omega (arith, d.2, ap (λ o. length (unwrap_or o [])) d.1)

  module _ (acts : List Act) (me : ℕ) where
    abbrev own : List Act
    own = own_acts me acts

    -- what begins where the limit is n
    abbrev first_value : List Request → ℕ → ℕ → Backing P
    first_value base trimmed n = record { instance = x.i; me = me; k = n; entered = base; trimmed = trimmed; kept = []; order = proto.begin n x.cluster.f x.i me base }

    abbrev Starts : List Request → ℕ → ℕ → Type 0
    Starts base trimmed n =
        Stands (first_value base trimmed n) me (start_of x me base (at (first_value base trimmed n)) ∷ own) × (OrderPremises x (start_of x me base (at (first_value base trimmed n)) ∷ acts) → Sound (start_of x me base (at (first_value base trimmed n)) ∷ acts))

    -- a replica begins
    pub begins : (base : List Request) (trimmed : ℕ) → limit_of x.cluster.plan x.i ≡ k → MayStart x acts me base → 1 ≤ x.i → Sound acts
        → (let v = backup_begin proto x.cluster x.i me base trimmed in
        Stands v me (start_of x me base (at v) ∷ own) × (OrderPremises x (start_of x me base (at v) ∷ acts) → Sound (start_of x me base (at v) ∷ acts)))
    begins base trimmed limit may one was = subst (λ (n : ℕ). Starts base trimmed n) (sym limit) starts
      where
        starts_empty : proto.base (first_value base trimmed k).order ≡ None → proto.first (first_value base trimmed k).order ≡ None → proto.ordered (first_value base trimmed k).order ≡ [] → begun_empty base ≡ at (first_value base trimmed k)
        starts_empty none first_none empty = rw (none, first_none, empty) refl

        stopped_not : (s : State) → Some s ≡ Some (begun_empty base) → s.stopped ≡ true → ⊥
        stopped_not s e halt = cc (e, halt)

        starts : Starts base trimmed k
        starts =
            let begun = orderly.begun k x.cluster.f x.i me base in
            let empty = orderly.empty (proto.begin k x.cluster.f x.i me base) begun.0 in
            let same : begun_empty base ≡ at (first_value base trimmed k) = starts_empty begun.0 begun.1 empty in
            let l = law.lawful_start x k acts me base one may was.ordered in
            subst (λ (s : State). Stands (first_value base trimmed k) me (start_of x me base s ∷ own) × (OrderPremises x (start_of x me base s ∷ acts) → Sound (start_of x me base s ∷ acts))) same (
              record {
                within = may.within;
                correct = may.correct;
                placed = refl;
                owned = refl;
                limit = refl;
                rooted = may.nothing;
                left = state_own (start_of x me base (begun_empty base)) own me (begun_empty base) refl refl ∙ ap Some same;
                kept = λ m has. absurd (Contains-none m has);
                order = l.0;
              },
              λ premises. record {
                later_than_none = was.later_than_none;
                some = was.some;
                lawful = (first me base (begun_empty base) may.within may.none may.rises may.nothing (record { entered = refl; based = refl; logged = refl }) refl, may.correct, was.lawful);
                ordered = l.1 premises;
                stops = λ r s here halt.
                    elim (state_cases (start_of x me base (begun_empty base)) acts r) [
                      | inl same' ↦ absurd (stopped_not s (sym here ∙ same'.1) halt)
                      | inr differ ↦ was.stops r s (sym differ.1 ∙ here) halt
                    ];
                premises = premises;
              },
            )

    module _ (v : Backing P) (e : E) (claims : List Content) (values : List (List Value)) (made : List Content) (seen : List Seen) (given : Given x.cluster.f x.i me e) (stands : Stands v me own) (does : IsBackupTurn proto handed machine x own me v e claims values made seen) where
      abbrev act : Act
      act = call_of me claims values made seen (at (next v e))

      abbrev p : P
      p = v.order

      abbrev q : P
      q = proto.after v.order e

      correct : IsCorrect x me
      correct = record { within = stands.within; correct = stands.correct }

      -- whom it answers at once, and whom as it executes
      first_of : {s : Content} → Contains (first_answers proto handed machine v e) s
          → (m : Request) × Contains (asked_list (handed.asked e)) m × Contains (answer_of machine v.instance v.me (length (base_at proto p)) (proto.ordered p) m) s
      first_of {s} has = of_stop (at v).stopped has
        where
          of_stop : (b : Bool) → Contains (unless_stopped b (answers_by proto handed machine v (asked_list (handed.asked e)))) s
              → (m : Request) × Contains (asked_list (handed.asked e)) m × Contains (answer_of machine v.instance v.me (length (base_at proto v.order)) (proto.ordered v.order) m) s
          of_stop true none = absurd (Contains-none s none)
          of_stop false has = flat_map_cases (answer_of machine v.instance v.me (length (base_at proto v.order)) (proto.ordered v.order)) (asked_list (handed.asked e)) s has

      abbrev due_now : List Request
      due_now = executed_now (proto.base p) (proto.base q) (proto.ordered p) (proto.ordered q) (keep_asked (handed.asked e) v.kept)

      later_of : {s : Content} → Contains (later_answers proto handed machine v e) s
          → (m : Request) × Contains due_now m × Contains (answer_of machine v.instance v.me (length (base_at proto q)) (proto.ordered q) m) s
      later_of {s} has = of_stop (at v).stopped has
        where
          of_stop : (b : Bool) → Contains (unless_stopped b (answers_by proto handed machine (next v e) due_now)) s
              → (m : Request) × Contains due_now m × Contains (answer_of machine v.instance v.me (length (base_at proto q)) (proto.ordered q) m) s
          of_stop true none = absurd (Contains-none s none)
          of_stop false has = flat_map_cases (answer_of machine v.instance v.me (length (base_at proto q)) (proto.ordered q)) due_now s has

      turn : IsTurn handed proto x own me p e act
      turn = record {
        party = refl;
        claims = does.told;
        values = does.shown;
        made = λ s has ordering.
            elim (does.made_is s has) [
              | inl its ↦ its
              | inr answer ↦ absurd (not_both (is_ordering s) ordering (elim answer [
                | inl now ↦ let w = first_of now in answers_quiet machine v.instance v.me (length (base_at proto p)) (proto.ordered p) w.0 s w.2
                | inr after ↦ let w = later_of after in answers_quiet machine v.instance v.me (length (base_at proto q)) (proto.ordered q) w.0 s w.2
              ]))
            ];
        makes = does.makes;
        at = at (next v e);
        left = refl;
        log_is = refl;
        base_is = refl;
        noted = does.noted;
      }

      claimed_now : (m : Request) → Contains (keep_asked (handed.asked e) v.kept) m → Contains claims (Req (Client m.client) x.i m) ⊎ WasClaimed own (Req (Client m.client) x.i m)
      claimed_now m has = of_asked (handed.asked e) refl has
        where
          of_asked : (o : Option Request) → handed.asked e ≡ o → Contains (keep_asked o v.kept) m → Contains claims (Req (Client m.client) x.i m) ⊎ WasClaimed own (Req (Client m.client) x.i m)
          of_asked None none has = inr (stands.kept m has)
          of_asked (Some n) is has =
              elim (keep_cases n v.kept m has) [
                | inl same ↦ inl (does.told _ (law.asks x.cluster.f x.i me e m given (is ∙ ap Some same)))
                | inr old ↦ inr (stands.kept m old)
              ]

      l : order_stands x k (proto.after v.order e) me (act ∷ own) × (order_sound x k acts → OrderPremises x (act ∷ acts) → order_sound x k (act ∷ acts))
      l = law.lawful_turn x k acts me v.order e act stands.within stands.correct given stands.order turn

      pub stands_on : Stands (next v e) me (act ∷ own)
      stands_on = record {
        within = stands.within;
        correct = stands.correct;
        placed = stands.placed;
        owned = stands.owned;
        limit = stands.limit;
        rooted = stands.rooted;
        left = state_own act own me (at (next v e)) refl refl;
        kept = λ m has.
            elim (claimed_now m has) [
              | inl now ↦ (act, Contains-head act own, now)
              | inr old ↦ claimed_within own (act ∷ own) _ (tail_within act own) old
            ];
        order = l.0;
      }

      module _ (was : Sound acts) (premises : OrderPremises x (act ∷ acts)) where
        ordered_on : order_sound x k (act ∷ acts)
        ordered_on = l.1 was.ordered premises

        one : IsOneOrder x k (act ∷ acts)
        one = law.one_order x k (act ∷ acts) ordered_on

        here : state_of (act ∷ acts) me ≡ Some (at (next v e))
        here = state_own act acts me (at (next v e)) refl refl

        log_here : log_of (act ∷ acts) me ≡ proto.ordered q
        log_here = ap log_at here

        base_here : base_of (act ∷ acts) me ≡ base_at proto q
        base_here = ap state_base here

        -- a replica that is stopped stays so
        frozen : (at v).stopped ≡ true → (proto.ordered q ≡ proto.ordered p) × ((at (next v e)).stopped ≡ true)
        frozen halt =
            let d = done_has handed proto orderly v halt in
            let kept : proto.base q ≡ Some d.0 = orderly.keeps v.order e d.0 d.1 in
            let long = prefix_length (proto.ordered p) (proto.ordered q) (orderly.grows v.order e) in
            let some = was.some in
            let not_none : log_of (act ∷ acts) me ≢ [] = λ none. omega (arith, ap length log_here, ap length none, d.2, stands.limit, some, long) in
            let base_is : length d.0 ≡ length one.base = ap (λ o. length (unwrap_or o [])) (sym kept) ∙ (ap length (sym base_here) ∙ ap length (one.based me correct not_none)) in
            still_stopped handed proto orderly v e d.0 d.1 d.2 (omega (arith, one.at_most me correct, ap length log_here, base_is, stands.limit))

        due_base : (h : List Request) → proto.base p ≡ Some h → (proto.base q ≡ Some h) × (length h ≤ length (proto.ordered p))
        due_base h is = (orderly.keeps v.order e h is, prefix_length h (proto.ordered p) (orderly.begins p h is))

        -- each answer is to a request that some correct replica checked
        due_claimed : (m : Request) → IsDue (proto.base q) (proto.ordered q) (keep_asked (handed.asked e) v.kept) m → Contains claims (Req (Client m.client) x.i m) ⊎ WasClaimed acts (Req (Client m.client) x.i m)
        due_claimed m (kept_asking has) =
            elim (claimed_now m has) [ inl now ↦ inl now | inr old ↦ inr (claimed_within own acts _ (own_within acts me) old) ]
        due_claimed m (executed h t is le there) =
            let not_none : log_of (act ∷ acts) me ≢ [] = λ none. omega (arith, ap length log_here, ap length none, slice_get_within (proto.ordered q) t m there) in
            let base_is : length h ≡ length one.base = ap (λ o. length (unwrap_or o [])) (sym is) ∙ (ap length (sym base_here) ∙ ap length (one.based me correct not_none)) in
            let w = one.claimed me t m correct (omega (arith, le, base_is)) (ap (λ z. slice_get z t) log_here ∙ there) in
            elim (Contains-cons_cases act acts w.0 w.1) [
              | inl same ↦ inl (subst (λ (a : Act). Contains a.claims (Req (Client m.client) x.i m)) (sym same) w.2)
              | inr older ↦ inr (w.0, older, w.2)
            ]

        -- the request that was asked, if it stands in the log
        first_right : (m : Request) (s : Content) → Contains (asked_list (handed.asked e)) m → Contains (answer_of machine v.instance v.me (length (base_at proto p)) (proto.ordered p) m) s
            → IsOrderAnswer machine x acts claims (at (next v e)) me s
        first_right m s asked has = of_base (proto.base p) refl
          where
            was_asked : (o : Option Request) → Contains (asked_list o) m → o ≡ Some m
            was_asked None none = absurd (Contains-none m none)
            was_asked (Some n) is = ap Some (Contains-one n m is)

            no_answer : (log : List Request) (b : ℕ) → log ≡ [] → Contains (answer_of machine v.instance v.me b log m) s → ⊥
            no_answer log b none answer = Contains-none s (subst (λ (l : List Request). Contains (answer_of machine v.instance v.me b l m) s) none answer)

            of_base : (o : Option (List Request)) → proto.base p ≡ o → IsOrderAnswer machine x acts claims (at (next v e)) me s
            of_base None none = absurd (no_answer (proto.ordered p) (length (base_at proto p)) (orderly.empty p none) has)
            of_base (Some h) is =
                answer_later machine x acts claims me (at v) (at (next v e)) s (ap (λ o. unwrap_or o []) (orderly.keeps v.order e h is ∙ sym is)) (orderly.grows v.order e)
                (answer_right machine x acts claims v.instance me (at v) m s stands.placed (base_within p) (inl (does.told _ (law.asks x.cluster.f x.i me e m given (was_asked (handed.asked e) asked))))
                (subst (λ (r : ℕ). Contains (answer_of machine v.instance r (length (base_at proto p)) (proto.ordered p) m) s) stands.owned has))

        states_right : (s : Content) → Contains made s → IsTrue (is_inner s) ⊎ IsOrderAnswer machine x acts claims (at (next v e)) me s
        states_right s has =
            elim (does.made_is s has) [
              | inl its ↦ inl (ordering_inner s (orderly.orders v.order e s its).2)
              | inr answer ↦ inr (elim answer [
                | inl now ↦ let w = first_of now in first_right w.0 s w.1 w.2
                | inr after ↦
                    let w = later_of after in
                    let d = due (proto.base p) (proto.base q) (proto.ordered p) (proto.ordered q) (keep_asked (handed.asked e) v.kept) w.0 due_base w.1 in
                    answer_right machine x acts claims v.instance me (at (next v e)) w.0 s stands.placed (base_within q) (due_claimed w.0 d)
                    (subst (λ (r : ℕ). Contains (answer_of machine v.instance r (length (base_at proto q)) (proto.ordered q) w.0) s) stands.owned w.2)
              ])
            ]

        is_call : IsOrderCall machine x acts claims made me (at v) (at (next v e))
        is_call = record {
          entered = refl;
          based = based v.order e;
          grows = orderly.grows v.order e;
          rises = subst (λ (h : List Request). IsHistory h) log_here (one.rises me correct);
          frozen = frozen;
          states = states_right;
        }

        pub sound_on : Sound (act ∷ acts)
        sound_on = record {
          later_than_none = was.later_than_none;
          some = was.some;
          lawful = (
            call me claims values made seen (at v) (at (next v e)) stands.within (sym (own_state acts me) ∙ stands.left) is_call does.inits refl,
            stands.correct,
            was.lawful,
          );
          ordered = ordered_on;
          stops = λ r s there halt.
              elim (state_cases act acts r) [
                | inl same ↦
                    let e' : s ≡ at (next v e) = cc (sym there ∙ same.1) in
                    let d = done_whole (next v e) (ap (λ z. z.stopped) (sym e') ∙ halt) in
                    omega (arith, d, ap (λ z. length z.base) e', ap (λ z. length z.log) e', stands.limit)
                | inr differ ↦ was.stops r s (sym differ.1 ∙ there) halt
              ];
          premises = premises;
        }

  quiet_stand : (acts : List Act) (a : Act) (v : Backing P) (r : ℕ) → is_faulty x.faulty a.party ≡ false → IsQuiet acts a → Stands v r (own_acts r acts) → Stands v r (own_acts r (a ∷ acts))
  quiet_stand acts a v r good quiet was = record {
    within = was.within;
    correct = was.correct;
    placed = was.placed;
    owned = was.owned;
    limit = was.limit;
    rooted = was.rooted;
    left = own_state (a ∷ acts) r ∙ (quiet.rests r ∙ (sym (own_state acts r) ∙ was.left));
    kept = λ m has. claimed_within (own_acts r acts) (own_acts r (a ∷ acts)) _ (own_grows a acts r) (was.kept m has);
    order = (law.lawful_others x k acts a good quiet).0 v.order r was.order;
  }

  -- an act of another party, or one that is no call and says nothing between replicas
  pub still_stand : (acts : List Act) (a : Act) (v : Backing P) (r : ℕ) → IsStill r a → Stands v r (own_acts r acts) → Stands v r (own_acts r (a ∷ acts))
  still_stand acts a v r still was =
      elim (own_cases a acts r) [
        | inr differ ↦ subst (λ (l : List Act). Stands v r l) (sym differ.1) was
        | inl own' ↦ elim still [
          | inl other' ↦ absurd (other' own'.0)
          | inr none ↦ quiet_stand acts a v r (ap (λ p. is_faulty x.faulty p) own'.0 ∙ was.correct) (record { states = λ s has. inner_orders s (none.1 s has); rests = λ q. state_quiet a acts q none.0 }) was
        ]
      ]

  -- an act that is no call
  pub others_on : (acts : List Act) (a : Act) → is_faulty x.faulty a.party ≡ false → IsOtherBy (rules.Equal (x.cluster.f + 1)) x acts a → Sound acts → OrderPremises x (a ∷ acts) → Sound (a ∷ acts)
  others_on acts a good is was premises =
      let quiet = other_quiet x acts a is in
      record {
        later_than_none = was.later_than_none;
        some = was.some;
        lawful = (other is, good, was.lawful);
        ordered = (law.lawful_others x k acts a good quiet).1 was.ordered premises;
        stops = λ r s there halt. was.stops r s (sym (quiet.rests r) ∙ there) halt;
        premises = premises;
      }

  -- a stop changes nothing
  pub stops_on : (acts : List Act) (me : ℕ) (v : Backing P) → Stands v me (own_acts me acts)
      → Stands v me (call_of me [] [] [] [] (at v) ∷ own_acts me acts) × (Sound acts → OrderPremises x (call_of me [] [] [] [] (at v) ∷ acts) → Sound (call_of me [] [] [] [] (at v) ∷ acts))
  stops_on acts me v stands =
      let a = call_of me [] [] [] [] (at v) in
      let here : state_of acts me ≡ Some (at v) = sym (own_state acts me) ∙ stands.left in
      let quiet : IsQuiet acts (call_of me [] [] [] [] (at v)) = record {
        states = λ s has. absurd (Contains-none s has);
        rests = λ r.
            elim (state_cases a acts r) [
              | inl same ↦ let e : me ≡ r = cc (same.0) in same.1 ∙ subst (λ (q : ℕ). Some (at v) ≡ state_of acts q) e (sym here)
              | inr differ ↦ differ.1
            ];
      } in
      let good : IsCorrect x me = record { within = stands.within; correct = stands.correct } in (
        subst (λ (l : List Act). Stands v me l) (own_own a acts me refl) (quiet_stand acts a v me stands.correct quiet stands),
        λ was premises. record {
          later_than_none = was.later_than_none;
          some = was.some;
          lawful = (
            call me [] [] [] [] (at v) (at v) stands.within here (record {
              entered = refl;
              based = inr refl;
              grows = prefix_refl (at v).log;
              rises = subst (λ (h : List Request). IsHistory h) (ap log_at here) ((law.one_order x k acts was.ordered).rises me good);
              frozen = λ halt. (refl, halt);
              states = λ s has. absurd (Contains-none s has);
            }) (unmarked refl) refl,
            stands.correct,
            was.lawful,
          );
          ordered = (law.lawful_others x k acts a stands.correct quiet).1 was.ordered premises;
          stops = λ r s there halt. was.stops r s (sym (quiet.rests r) ∙ there) halt;
          premises = premises;
        },
      )

  pub nil_sound : 1 ≤ x.i → 1 ≤ k → OrderPremises x [] → Sound []
  nil_sound one some premises = record {
    later_than_none = one;
    some = some;
    lawful = tt;
    ordered = law.sound_nil x k one premises;
    stops = λ r s there halt. absurd (cc (there));
    premises = premises;
  }

  -- what is sound for a Backup follows the rules over an order
  pub is_order_sound : (acts : List Act) → Sound acts → IsOrderSound machine x k acts
  is_order_sound acts sound =
      let one = law.one_order x k acts sound.ordered in
      record {
        later_than_none = sound.later_than_none;
        some = sound.some;
        lawful = sound.lawful;
        ordered = record {
          base = one.base;
          is_init = one.is_init;
          based = one.based;
          begins = one.begins;
          comparable = one.comparable;
          asked = λ r m good has. of_place acts one r m good (place_of (log_of acts r) m has);
          at_most = one.at_most;
          full = λ r good halt. full_log acts sound one r good halt;
        };
        premises = sound.premises.plain;
      }
    where
      of_place : (acts : List Act) (one : IsOneOrder x k acts) (r : ℕ) (m : Request) → IsCorrect x r → (t : ℕ) × (slice_get (log_of acts r) t ≡ Some m) → Contains one.base m ⊎ WasClaimed acts (Req (Client m.client) x.i m)
      of_place acts one r m good w =
          elim (cases_lt w.0 (length one.base)) [
            | inr behind ↦ inr (one.claimed r w.0 m good behind w.1)
            | inl within ↦
                let not_none : log_of acts r ≢ [] = λ none. omega (arith, ap length none, slice_get_within (log_of acts r) w.0 m w.1) in
                inl (stands_in one.base (log_of acts r) w.0 m (one.begins r good not_none) within w.1)
          ]
        where
          stands_in : (h log : List Request) (t : ℕ) (m : Request) → IsPrefix h log → t < length h → slice_get log t ≡ Some m → Contains h m
          stands_in h log t m p lt is = front_stands h p.0 t m lt (ap (λ z. slice_get z t) p.1 ∙ is)

      full_log : (acts : List Act) → Sound acts → (one : IsOneOrder x k acts) → (r : ℕ) → IsCorrect x r → (halt : IsStopped acts r) → length (log_of acts r) ≡ length one.base + k
      full_log acts sound one r good halt =
          let whole = sound.stops r halt.at halt.here halt.stopped in
          let log_is : log_of acts r ≡ halt.at.log = ap log_at halt.here in
          let base_is : base_of acts r ≡ halt.at.base = ap state_base halt.here in
          let not_none : log_of acts r ≢ [] = λ none. omega (arith, ap length none, ap length log_is, whole, sound.some) in
          let same = one.based r good not_none in
          omega (arith, whole, ap length log_is, ap length base_is, ap length same, one.at_most r good)

  pub backup_abstract : (acts : List Act) → Sound acts → IsAbstract machine (observations acts) (named_in x acts) x.faulty x.i
  backup_abstract acts sound = order_promises machine x k acts (is_order_sound acts sound)
