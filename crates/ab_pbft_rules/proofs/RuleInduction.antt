-- What each rule of PBFT keeps, an event keeps: the one place that goes through all rules.
use Rattle.std.proofs.Common.{◌≡◌, ℕ, zero, suc, ◌+◌, ◌*◌, ◌<◌, ◌≤◌, ◌==◌, true, false, not, Some, None, Option, List, [], ◌∷◌, ◌++◌, ◌⊎◌, length, map, refl, ap, ◌∙◌, subst, inl, inr, arith}
use Rattle.std.specs.Prelude.{Contains, ◌&&◌, ◌||◌, nat_lt, nat_le, if◌then◌else◌, count_by}
use Rattle.std.specs.Str.{bytes_eq}
use Rattle.std.proofs.lemmas.Bool.{cases_Bool, and_parts, or_cases, or_parts, not-true, leb-true, leb-false, ltb-true, eqb-true}
use Rattle.std.proofs.lemmas.Option.{none-some, same_Some}
use Rattle.ab_num.proofs.Lists.{Contains-head, Contains-tail}
use Rattle.ab_hist.specs.declared.request.Request.{Request}
use Rattle.ab_msg.specs.declared.value.Value.{Value}
use Rattle.ab_msg.specs.declared.value.Value.TheVariants.{Base, Request as Order}
use Rattle.ab_msg.specs.Slots.{slot_digest}
use Rattle.ab_abs.specs.Values.{goes}
use Rattle.ab_lock.specs.Quorums.{quorum}
use Rattle.ab_lock.specs.Steps.{Change, accepts, signs, prepares, changes, enters, executes, State, after}
use Rattle.ab_lock.specs.ViewChanges.{Kept, of_view, lowest, enter}
use Rattle.ab_lock.specs.Events.{state_by, settles_by, entered_peer, with_vote, with_commit}
use Rattle.ab_lock.proofs.VoteLemmas.{IsInView, settled_in_view}
use Rattle.ab_order.specs.Inputs.{Reading, request, pre_prepare_base, pre_prepare, prepare, commit, view_change, new_view, timeout, other, ChangeReading}
use Rattle.ab_pbft_rules.specs.Traces.{OrderStep}
use Rattle.ab_pbft_rules.specs.Rules.{offers, Placement, Doing, takes_step, leads, Work, core_of, with_peer, does, is_empty, first_fit, change_of, fits, may_enter, smaller, least_above, keep_request, keep_change, is_done, settle, take_value, offer, may_open, offer_base, offer_next, offer_requests, is_primary_of, may_propose, propose, may_lead, lead, leave_to, follow_to, follow, may_take, has_room, base_value, is_current, next_view, may_take_base, may_take_request, may_follow, work}

pub empty_is : {A : Type 0} (xs : List A) → is_empty xs ≡ true → xs ≡ []
empty_is [] is = refl
empty_is (y ∷ ys) is = absurd (cc (is))

first_fit_is : (accepted : List Value) (requests : List Request) (m : Request) → first_fit accepted requests ≡ Some m → Contains requests m × (goes accepted (Order m) ≡ true)
first_fit_is accepted [] m is = absurd (none-some m is)
first_fit_is accepted (q ∷ requests) m is =
    elim (cases_Bool (goes accepted (Order q))) [
      | inl fits ↦
          let e : q ≡ m = same_Some q m (rw fits at is) in
          (subst (λ (z : Request). Contains (q ∷ requests) z) e (Contains-head q requests), subst (λ (z : Request). goes accepted (Order z) ≡ true) e fits)
      | inr unfit ↦ let w = first_fit_is accepted requests m (rw unfit at is) in (Contains-tail q m requests w.0, w.1)
    ]

smaller_above : (v u y : ℕ) (o : Option ℕ) → v < u → ((z : ℕ) → o ≡ Some z → v < z) → smaller u o ≡ Some y → v < y
smaller_above v u y None high each is = let e : u ≡ y = same_Some u y is in omega (arith, high, e)
smaller_above v u y (Some z) high each is =
    elim (cases_Bool (nat_lt u z)) [
      | inl less ↦ let e : u ≡ y = same_Some u y (rw less at is) in omega (arith, high, e)
      | inr not_less ↦ let e : z ≡ y = same_Some z y (rw not_less at is) in omega (arith, each z refl, e)
    ]

least_is_above : (kept : List (Kept Value)) (v y : ℕ) → least_above v kept ≡ Some y → v < y
least_is_above [] v y is = absurd (none-some y is)
least_is_above (u ∷ kept) v y is =
    elim (cases_Bool (nat_lt v u.view)) [
      | inr low ↦ least_is_above kept v y (rw low at is)
      | inl high ↦ smaller_above v u.view y (least_above v kept) (ltb-true v u.view high) (λ z e. least_is_above kept v z e) (rw high at is)
    ]

smaller_of : (u y : ℕ) (o : Option ℕ) → smaller u o ≡ Some y → (u ≡ y) ⊎ (o ≡ Some y)
smaller_of u y None is = inl (same_Some u y is)
smaller_of u y (Some z) is =
    elim (cases_Bool (nat_lt u z)) [
      | inl less ↦ inl (same_Some u y (rw less at is))
      | inr not_less ↦ inr (rw not_less at is)
    ]

-- it is the view of one of them
least_is_kept : (kept : List (Kept Value)) (v y : ℕ) → least_above v kept ≡ Some y → (u : Kept Value) × Contains kept u × (u.view ≡ y)
least_is_kept [] v y is = absurd (none-some y is)
least_is_kept (u ∷ kept) v y is =
    elim (cases_Bool (nat_lt v u.view)) [
      | inr low ↦ let w = least_is_kept kept v y (rw low at is) in (w.0, Contains-tail u w.0 kept w.1, w.2)
      | inl high ↦ elim (smaller_of u.view y (least_above v kept) (rw high at is)) [
        | inl here ↦ (u, Contains-head u kept, here)
        | inr more ↦ let w = least_is_kept kept v y more in (w.0, Contains-tail u w.0 kept w.1, w.2)
      ]
    ]

-- what a primary does beside its steps
abbrev pub IsSpoken : Doing → Type 0
IsSpoken (takes_step step) = ⊥
IsSpoken (offers v n value) = Unit {0}
IsSpoken (leads v) = Unit {0}

-- going on by itself leaves the accepted values
in_view_accepted : (steps : List OrderStep) (s : State Value) → ((step : OrderStep) → Contains steps step → IsInView step) → (state_by steps s).accepted ≡ s.accepted
in_view_accepted [] s each = refl
in_view_accepted (step ∷ steps) s each = of_step step (each step (Contains-head step steps)) ∙ in_view_accepted steps s (λ other has. each other (Contains-tail step other steps has))
  where
    of_step : (step : OrderStep) → IsInView step → (after (state_by steps s) step).accepted ≡ (state_by steps s).accepted
    of_step (accepts n value) here = absurd here
    of_step (signs v n x) here = refl
    of_step (prepares v h) here = refl
    of_step (changes w entries) here = absurd here
    of_step (enters w vcs chosen) here = absurd here
    of_step (executes v n value) here = refl

pub settle_accepted : (seat : Placement) (w : Work) → (core_of (settle seat w)).accepted ≡ (core_of w).accepted
settle_accepted seat w =
    let p = w.at.peer in
    in_view_accepted (settles_by slot_digest bytes_eq goes seat.f seat.me (suc (3 * suc seat.k)) w.at.peer) (core_of w)
    (λ step has. settled_in_view slot_digest bytes_eq goes seat.f seat.me (suc (3 * suc seat.k)) p.core p.votes p.commits step has)

abbrev pub MayEnter : State Value → ℕ → Type 0
MayEnter s v = (s.view < v) ⊎ ((s.view ≡ v) × (s.changing ≡ true))

module _ (seat : Placement) (e : Reading) (start : Work) where
  -- why a value is accepted: it is the replica's own base, a request that waits, or what a PRE-PREPARE brings
  pub data WhyTaken (w : Work) (value : Value) : Type 0 where
    own_base : (core_of w).accepted ≡ [] → length seat.base ≤ 1024 → value ≡ Base seat.base → WhyTaken w value
    waiting : (m : Request) → Contains w.at.requests m → value ≡ Order m → WhyTaken w value
    base_brought : (by view : ℕ) (x : List ℕ) (h : List Request) → e ≡ pre_prepare_base by view x h → (core_of start).accepted ≡ [] → (core_of w).accepted ≡ [] → value ≡ Base h
        → (core_of (work seat e start)).accepted ≡ Base h ∷ [] → WhyTaken w value
    request_brought : (by view slot : ℕ) (x : List ℕ) (m : Request) → e ≡ pre_prepare by view slot x m → value ≡ Order m → WhyTaken w value

  -- why a view is entered: from the VIEW-CHANGEs that are kept, or those of a NEW-VIEW
  pub data WhyEntered (w : Work) (v : ℕ) (vcs : List (Change Value)) : Type 0 where
    from_kept : vcs ≡ lowest seat.f w.at.changes v → quorum seat.f ≤ length (of_view w.at.changes v) → WhyEntered w v vcs
    from_new_view : (by : ℕ) (inputs : List ChangeReading) → e ≡ new_view by v inputs → may_enter seat.f v inputs ≡ true → vcs ≡ map change_of inputs → WhyEntered w v vcs

  -- why the primary offers a value, which it then takes, or leads a view
  pub data WhySaid (w : Work) : Doing → Type 0 where
    offered : (value : Value) → length (core_of w).accepted ≤ seat.k → goes (core_of w).accepted value ≡ true → WhyTaken w value → WhySaid w (offers (core_of w).view (length (core_of w).accepted) value)
    led : quorum seat.f ≤ length (of_view w.at.changes (core_of w).view) → WhySaid w (leads (core_of w).view)

  pub is_spoken : (w : Work) (d : Doing) → WhySaid w d → IsSpoken d
  is_spoken w d (offered value room on why) = tt
  is_spoken w d (led many) = tt

  -- why a view is left for another: a kept VIEW-CHANGE is for that one, or the timer ran out
  pub data WhyLeft (w : Work) (v : ℕ) : Type 0 where
    followed : (u : Kept Value) → Contains w.at.changes u → u.view ≡ v → WhyLeft w v
    timed_out : v ≡ suc (core_of w).view → (core_of w).view < 4294967295 → WhyLeft w v

  -- what holds at the start of an event and is kept by each rule
  pub record IsKept (P : Work → Type 0) : Type 0 where
    pub settles : (w : Work) → P w → P (settle seat w)
    pub takes : (w : Work) (value : Value) → P w → (core_of w).changing ≡ false → length (core_of w).accepted ≤ seat.k → goes (core_of w).accepted value ≡ true → WhyTaken w value → P (take_value value w)
    pub speaks : (w : Work) (d : Doing) → P w → WhySaid w d → P (does d w)
    pub enters : (w : Work) (v : ℕ) (vcs : List (Change Value)) → P w → MayEnter (core_of w) v → WhyEntered w v vcs → P (with_peer w (entered_peer goes seat.k v vcs w.at.peer) (enter goes seat.k v vcs ∷ []))
    pub leaves : (w : Work) (v : ℕ) → P w → (core_of w).view < v → WhyLeft w v → P (leave_to seat v w)
    pub keeps_request : (m : Request) → e ≡ request m → P start → P (keep_request m start)
    pub keeps_change : (change : ChangeReading) → e ≡ view_change change → fits seat.f change ≡ true → P start → P (keep_change change start)
    pub keeps_vote : (by slot : ℕ) (x : List ℕ) → e ≡ prepare by (core_of start).view slot x → P start → P (with_peer start (with_vote (record { by = by; slot = slot; x = x }) start.at.peer) [])
    pub keeps_commit : (by slot : ℕ) (x : List ℕ) → e ≡ commit by (core_of start).view slot x → P start → P (with_peer start (with_commit (record { by = by; slot = slot; x = x }) start.at.peer) [])

  module _ (P : Work → Type 0) (kept : IsKept P) where
    offer_kept : (w : Work) (value : Value) → P w → (core_of w).changing ≡ false → length (core_of w).accepted ≤ seat.k → goes (core_of w).accepted value ≡ true → WhyTaken w value → ((d : Doing) → WhyTaken (does d w) value) → P (offer seat value w)
    offer_kept w value was still room on why then_why =
        let d = offers (core_of w).view (length (core_of w).accepted) value in
        kept.takes (does d w) value (kept.speaks w d was (offered value room on why)) still room on (then_why d)

    offers_requests : (n : ℕ) (w : Work) → P w → (core_of w).changing ≡ false → P (offer_requests seat n w)
    offers_requests zero w was still = was
    offers_requests (suc n) w was still =
        elim (cases_Bool (has_room seat w)) [
          | inl room ↦ rw room (of_fit (first_fit (core_of w).accepted w.at.requests) refl room (λ v q. offers_requests n v q))
          | inr full ↦ rw full was
        ]
      where
        of_fit : (o : Option Request) → first_fit (core_of w).accepted w.at.requests ≡ o → has_room seat w ≡ true → ((v : Work) → P v → (core_of v).changing ≡ false → P (offer_requests seat n v)) → P (offer_next seat (offer_requests seat n) w o)
        of_fit None is room rest = was
        of_fit (Some m) is room rest =
            let fits = first_fit_is (core_of w).accepted w.at.requests m is in
            rest (offer seat (Order m) w) (offer_kept w (Order m) was still (leb-true (length (core_of w).accepted) seat.k room) fits.1 (waiting m fits.0 refl) (λ d. waiting m fits.0 refl)) still

    offers_base : (w : Work) → P w → (core_of w).changing ≡ false → P (offer_base seat w) × ((core_of (offer_base seat w)).changing ≡ false)
    offers_base w was still =
        elim (cases_Bool (may_open seat w)) [
          | inr full ↦ rw full (was, still)
          | inl opens ↦
              let short = nat_le (length seat.base) 1024 in
              let both = and_parts (is_empty (core_of w).accepted) (not (is_empty w.at.requests) && short) opens in
              let none = empty_is (core_of w).accepted both.0 in
              let few = leb-true (length seat.base) 1024 (and_parts (not (is_empty w.at.requests)) short both.1).1 in
              rw opens (offer_kept w (base_value seat) was still (omega (arith, ap length none)) (ap (λ l. goes l (base_value seat)) none) (own_base none few refl) (λ d. own_base none few refl), still)
        ]

    proposed : (w : Work) → P w → P (if may_propose seat w then offer_requests seat (suc seat.k) (offer_base seat w) else w)
    proposed w was =
        elim (cases_Bool (may_propose seat w)) [
          | inr waits ↦ rw waits was
          | inl may ↦
              let rest = and_parts (is_primary_of seat (core_of w).view seat.me) (not (core_of w).changing && not (is_done seat w)) may in
              let still = not-true (core_of w).changing (and_parts (not (core_of w).changing) (not (is_done seat w)) rest.1).0 in
              let opened = offers_base w was still in
              rw may (offers_requests (suc seat.k) (offer_base seat w) opened.0 opened.1)
        ]

    proposes : (w : Work) → P w → P (propose seat w)
    proposes w was = kept.settles (if may_propose seat w then offer_requests seat (suc seat.k) (offer_base seat w) else w) (proposed w was)

    may_lead_kept : (w : Work) → may_lead seat w ≡ true → P w
        → P (with_peer (does (leads (core_of w).view) w) (entered_peer goes seat.k (core_of w).view (lowest seat.f w.at.changes (core_of w).view) w.at.peer) (enter goes seat.k (core_of w).view (lowest seat.f w.at.changes (core_of w).view) ∷ []))
    may_lead_kept w may was =
        let v = (core_of w).view in
        let rest = and_parts (is_primary_of seat v seat.me) ((core_of w).changing && nat_le (quorum seat.f) (length (of_view w.at.changes v))) may in
        let both = and_parts (core_of w).changing (nat_le (quorum seat.f) (length (of_view w.at.changes v))) rest.1 in
        let many = leb-true (quorum seat.f) (length (of_view w.at.changes v)) both.1 in
        kept.enters (does (leads (core_of w).view) w) v (lowest seat.f w.at.changes v) (kept.speaks w (leads v) was (led many)) (inr (refl, both.0)) (from_kept refl many)

    pub leads_on : (w : Work) → P w → P (lead seat w)
    leads_on w was = elim (cases_Bool (may_lead seat w)) [ inr waits ↦ rw waits was | inl may ↦ rw may (proposes _ (may_lead_kept w may was)) ]

    pub follows_on : (w : Work) → P w → P (follow seat w)
    follows_on w was =
        elim (cases_Bool (nat_le (seat.f + 1) (count_by (λ (u : Kept Value). nat_lt (core_of w).view u.view) w.at.changes))) [
          | inr few ↦ rw few was
          | inl many ↦ rw many (of_least (least_above (core_of w).view w.at.changes) refl)
        ]
      where
        of_least : (o : Option ℕ) → least_above (core_of w).view w.at.changes ≡ o → P (follow_to seat w o)
        of_least None is = was
        of_least (Some v) is = let u = least_is_kept w.at.changes (core_of w).view v is in kept.leaves w v was (least_is_above w.at.changes (core_of w).view v is) (followed u.0 u.1 u.2)

    -- a PRE-PREPARE is taken where the replica isn't changing
    still_of : (by view : ℕ) → may_take seat start by view ≡ true → (core_of start).changing ≡ false
    still_of by view may =
        let a = and_parts (is_primary_of seat view by) ((view == (core_of start).view) && (not (core_of start).changing && not (is_done seat start))) may in
        let b = and_parts (view == (core_of start).view) (not (core_of start).changing && not (is_done seat start)) a.1 in
        not-true (core_of start).changing (and_parts (not (core_of start).changing) (not (is_done seat start)) b.1).0

    takes_base : (by view : ℕ) (x : List ℕ) (h : List Request) → e ≡ pre_prepare_base by view x h → P start → may_take_base seat start by view x h ≡ true → P (take_value (Base h) start)
    takes_base by view x h is was now =
        let a = and_parts (may_take seat start by view) (is_empty (core_of start).accepted && bytes_eq x (slot_digest (Base h))) now in
        let none = empty_is (core_of start).accepted (and_parts (is_empty (core_of start).accepted) (bytes_eq x (slot_digest (Base h))) a.1).0 in
        let same : work seat (pre_prepare_base by view x h) start ≡ settle seat (take_value (Base h) start) = rw now refl in
        let accepted : (core_of (settle seat (take_value (Base h) start))).accepted ≡ Base h ∷ [] = settle_accepted seat (take_value (Base h) start) ∙ ap (λ l. l ++ (Base h ∷ [])) none in
        let then_is : (core_of (work seat e start)).accepted ≡ Base h ∷ [] = ap (λ z. (core_of (work seat z start)).accepted) is ∙ (ap (λ z. (core_of z).accepted) same ∙ accepted) in
        kept.takes start (Base h) was (still_of by view a.0) (omega (arith, ap length none)) (ap (λ l. goes l (Base h)) none) (base_brought by view x h is none none refl then_is)

    takes_request : (by view slot : ℕ) (x : List ℕ) (m : Request) → e ≡ pre_prepare by view slot x m → P start → may_take_request seat start by view slot x m ≡ true → P (take_value (Order m) start)
    takes_request by view slot x m is was now =
        let a = and_parts (may_take seat start by view) ((slot == length (core_of start).accepted) && (nat_le slot seat.k && (bytes_eq x (slot_digest (Order m)) && goes (core_of start).accepted (Order m)))) now in
        let b = and_parts (slot == length (core_of start).accepted) (nat_le slot seat.k && (bytes_eq x (slot_digest (Order m)) && goes (core_of start).accepted (Order m))) a.1 in
        let c = and_parts (nat_le slot seat.k) (bytes_eq x (slot_digest (Order m)) && goes (core_of start).accepted (Order m)) b.1 in
        let on = (and_parts (bytes_eq x (slot_digest (Order m))) (goes (core_of start).accepted (Order m)) c.1).1 in
        let room : length (core_of start).accepted ≤ seat.k = omega (arith, eqb-true slot (length (core_of start).accepted) b.0, leb-true slot seat.k c.0) in
        kept.takes start (Order m) was (still_of by view a.0) room on (request_brought by view slot x m is refl)

    enters_by : (by view : ℕ) (inputs : List ChangeReading) → e ≡ new_view by view inputs → P start → may_follow seat start by view inputs ≡ true
        → P (with_peer start (entered_peer goes seat.k view (map change_of inputs) start.at.peer) (enter goes seat.k view (map change_of inputs) ∷ []))
    enters_by by view inputs is was now =
        let a = and_parts (is_primary_of seat view by) ((nat_lt (core_of start).view view || ((core_of start).view == view) && (core_of start).changing) && may_enter seat.f view inputs) now in
        let b = and_parts (nat_lt (core_of start).view view || ((core_of start).view == view) && (core_of start).changing) (may_enter seat.f view inputs) a.1 in
        let may : MayEnter (core_of start) view =
        elim (or_cases (nat_lt (core_of start).view view) (((core_of start).view == view) && (core_of start).changing) b.0) [
          | inl above ↦ inl (ltb-true (core_of start).view view above)
          | inr equal ↦ let c = and_parts ((core_of start).view == view) (core_of start).changing equal in inr (eqb-true (core_of start).view view c.0, c.1)
        ] in
        kept.enters start view (map change_of inputs) was may (from_new_view by inputs is b.1 refl)

    -- the timer ran out
    ran_out : (is_done seat start || nat_le 4294967295 (core_of start).view) ≡ false → WhyLeft start (next_view seat start)
    ran_out on = timed_out refl (leb-false 4294967295 (core_of start).view (or_parts (is_done seat start) (nat_le 4294967295 (core_of start).view) on).1)

    of_input : (i : Reading) → e ≡ i → P start → P (work seat i start)
    of_input (request m) is was = proposes (keep_request m start) (kept.keeps_request m is was)
    of_input (pre_prepare_base by view x h) is was =
        elim (cases_Bool (may_take_base seat start by view x h)) [
          | inr not_now ↦ rw not_now was
          | inl now ↦ rw now (kept.settles (take_value (Base h) start) (takes_base by view x h is was now))
        ]
    of_input (pre_prepare by view slot x m) is was =
        elim (cases_Bool (may_take_request seat start by view slot x m)) [
          | inr not_now ↦ rw not_now was
          | inl now ↦ rw now (kept.settles (take_value (Order m) start) (takes_request by view slot x m is was now))
        ]
    of_input (prepare by view slot x) is was =
        elim (cases_Bool (is_current seat start view)) [
          | inr differs ↦ rw differs was
          | inl same ↦ rw same (kept.settles _ (kept.keeps_vote by slot x (is ∙ ap (λ v. prepare by v slot x) (eqb-true view (core_of start).view same)) was))
        ]
    of_input (commit by view slot x) is was =
        elim (cases_Bool (is_current seat start view)) [
          | inr differs ↦ rw differs was
          | inl same ↦ rw same (kept.settles _ (kept.keeps_commit by slot x (is ∙ ap (λ v. commit by v slot x) (eqb-true view (core_of start).view same)) was))
        ]
    of_input (view_change change) is was =
        elim (cases_Bool (fits seat.f change)) [
          | inr unfit ↦ rw unfit was
          | inl fit ↦ rw fit (leads_on (follow seat (keep_change change start)) (follows_on (keep_change change start) (kept.keeps_change change is fit was)))
        ]
    of_input (new_view by view inputs) is was =
        elim (cases_Bool (may_follow seat start by view inputs)) [
          | inr not_now ↦ rw not_now was
          | inl now ↦ rw now (proposes _ (enters_by by view inputs is was now))
        ]
    of_input timeout is was =
        elim (cases_Bool (is_done seat start || nat_le 4294967295 (core_of start).view)) [
          | inl rests ↦ rw rests was
          | inr on ↦ rw on (leads_on (leave_to seat (next_view seat start) start) (kept.leaves start (next_view seat start) was (omega arith) (ran_out on)))
        ]
    of_input other is was = was

    pub work_kept : P start → P (work seat e start)
    work_kept was = of_input e refl was

    -- what holds of each replica that went on by itself, or left its view, holds of all after an event, if it did before
    module _ (Q : Work → Type 0) (settled : (w : Work) → P w → Q (settle seat w)) (left : (v : ℕ) (w : Work) → Q (leave_to seat v w)) (kept_change : (change : ChangeReading) → Q start → Q (keep_change change start)) where
      proposes_end : (w : Work) → P w → Q (propose seat w)
      proposes_end w was = settled (if may_propose seat w then offer_requests seat (suc seat.k) (offer_base seat w) else w) (proposed w was)

      leads_end : (w : Work) → P w → Q w → Q (lead seat w)
      leads_end w was ends =
          elim (cases_Bool (may_lead seat w)) [
            | inr waits ↦ rw waits ends
            | inl may ↦ rw may (proposes_end _ (may_lead_kept w may was))
          ]

      follows_end : (w : Work) → Q w → Q (follow seat w)
      follows_end w ends =
          elim (cases_Bool (nat_le (seat.f + 1) (count_by (λ (u : Kept Value). nat_lt (core_of w).view u.view) w.at.changes))) [
            | inr few ↦ rw few ends
            | inl many ↦ rw many (of_least (least_above (core_of w).view w.at.changes))
          ]
        where
          of_least : (o : Option ℕ) → Q (follow_to seat w o)
          of_least None = ends
          of_least (Some v) = left v w

      ends_of : (i : Reading) → e ≡ i → P start → Q start → Q (work seat i start)
      ends_of (request m) is was ends = proposes_end (keep_request m start) (kept.keeps_request m is was)
      ends_of (pre_prepare_base by view x h) is was ends =
          elim (cases_Bool (may_take_base seat start by view x h)) [
            | inr not_now ↦ rw not_now ends
            | inl now ↦ rw now (settled (take_value (Base h) start) (takes_base by view x h is was now))
          ]
      ends_of (pre_prepare by view slot x m) is was ends =
          elim (cases_Bool (may_take_request seat start by view slot x m)) [
            | inr not_now ↦ rw not_now ends
            | inl now ↦ rw now (settled (take_value (Order m) start) (takes_request by view slot x m is was now))
          ]
      ends_of (prepare by view slot x) is was ends =
          elim (cases_Bool (is_current seat start view)) [
            | inr differs ↦ rw differs ends
            | inl same ↦ rw same (settled (with_peer start (with_vote (record { by = by; slot = slot; x = x }) start.at.peer) []) (kept.keeps_vote by slot x (is ∙ ap (λ v. prepare by v slot x) (eqb-true view (core_of start).view same)) was))
          ]
      ends_of (commit by view slot x) is was ends =
          elim (cases_Bool (is_current seat start view)) [
            | inr differs ↦ rw differs ends
            | inl same ↦ rw same (settled (with_peer start (with_commit (record { by = by; slot = slot; x = x }) start.at.peer) []) (kept.keeps_commit by slot x (is ∙ ap (λ v. commit by v slot x) (eqb-true view (core_of start).view same)) was))
          ]
      ends_of (view_change change) is was ends =
          elim (cases_Bool (fits seat.f change)) [
            | inr unfit ↦ rw unfit ends
            | inl fit ↦ rw fit (leads_end (follow seat (keep_change change start)) (follows_on (keep_change change start) (kept.keeps_change change is fit was)) (follows_end (keep_change change start) (kept_change change ends)))
          ]
      ends_of (new_view by view inputs) is was ends =
          elim (cases_Bool (may_follow seat start by view inputs)) [
            | inr not_now ↦ rw not_now ends
            | inl now ↦ rw now (proposes_end _ (enters_by by view inputs is was now))
          ]
      ends_of timeout is was ends =
          elim (cases_Bool (is_done seat start || nat_le 4294967295 (core_of start).view)) [
            | inl rests ↦ rw rests ends
            | inr on ↦ rw on (leads_end (leave_to seat (next_view seat start) start) (kept.leaves start (next_view seat start) was (omega arith) (ran_out on)) (left (next_view seat start) start))
          ]
      ends_of other is was ends = ends

      pub work_ends : P start → Q start → Q (work seat e start)
      work_ends was ends = ends_of e refl was ends
