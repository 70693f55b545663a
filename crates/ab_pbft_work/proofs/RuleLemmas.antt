-- Rules that consist of others.
use Rattle.std.proofs.Common.{◌≡◌, ℕ, suc, ◌+◌, ◌-◌, ◌<◌, ◌≤◌, ◌==◌, Bool, true, false, not, ◌&&◌, ◌||◌, Option, Some, None, List, [], ◌∷◌, length, refl, sym, ap, ◌∙◌, subst, arith}
use Rattle.std.specs.Prelude.{count_by, nat_lt, nat_le, if◌then◌else◌}
use Rattle.std.proofs.lemmas.Bool.Decides.{nat_tests}
use Rattle.ab_hist.specs.declared.request.Request.{Request}
use Rattle.ab_msg.specs.declared.value.Value.{Value}
use Rattle.ab_msg.specs.declared.value.Value.TheVariants.{Base, Request as Order}
use Rattle.ab_abs.specs.Values.{goes}
use Rattle.ab_lock.specs.Steps.{State, Cert, Change, cert_at}
use Rattle.ab_order.specs.Inputs.{timeout}
use Rattle.ab_lock.specs.ViewChanges.{certs_from, lowest}
use Rattle.ab_pbft_rules.specs.Rules as rules
use Rattle.ab_pbft_rules.specs.Rules.{Placement, Memory, Work, idle, does, is_empty, least_above}
use Rattle.ab_pbft_work.specs.declared.progress.Progress.{Progress}
use Rattle.ab_pbft_work.specs.Turns.{memory_of, Shows, Does, OfferedFit, Offered, next_fit, leaves, can_leave}
use Rattle.ab_pbft_work.proofs.TurnLemmas.{when_does, unless_does}

-- ---- tests

pub and_left : (a b : Bool) → (a && b) ≡ true → a ≡ true
and_left true b h = refl
and_left false b h = absurd (cc h)

pub and_right : (a b : Bool) → (a && b) ≡ true → b ≡ true
and_right true b h = h
and_right false b h = absurd (cc h)

pub empty_goes : (accepted : List Value) (h : List Request) → is_empty accepted ≡ true → goes accepted (Base h) ≡ true
empty_goes [] h e = refl
empty_goes (v ∷ accepted) h e = absurd (cc e)

pub empty_short : (accepted : List Value) → is_empty accepted ≡ true → length accepted < 256
empty_short [] e = omega arith
empty_short (v ∷ accepted) e = absurd (cc e)

pub first_fit_goes : (accepted : List Value) (requests : List Request) (m : Request) → Some m ≡ rules.first_fit accepted requests → goes accepted (Order m) ≡ true
first_fit_goes accepted [] m is = absurd (cc is)
first_fit_goes accepted (o ∷ requests) m is = of (goes accepted (Order o)) refl is (first_fit_goes accepted requests m)
  where
    of : (b : Bool) → goes accepted (Order o) ≡ b → Some m ≡ (if b then Some o else rules.first_fit accepted requests) → (Some m ≡ rules.first_fit accepted requests → goes accepted (Order m) ≡ true) → goes accepted (Order m) ≡ true
    of true may e rest = let same : m ≡ o = cc e in ap (λ n. goes accepted (Order n)) same ∙ may
    of false may e rest = rest e

pub same_short : (slot n : ℕ) → (slot == n) ≡ true → slot < 256 → n < 256
same_short slot n e lt = grind (arith, nat_tests)

-- ---- view changes

module _ (seat : Placement) (old new : Progress) where
  abbrev was : Memory
  was = memory_of old.memory

  abbrev many_later : Memory → Bool
  many_later m = nat_le (seat.f + 1) (count_by (λ u. nat_lt m.peer.core.view u.view) m.changes)

  few_later : (n : ℕ) → n ≤ seat.f → nat_le (seat.f + 1) n ≡ false
  few_later n le = grind (arith, nat_tests)

  enough_later : (n : ℕ) → seat.f < n → nat_le (seat.f + 1) n ≡ true
  enough_later n lt = grind (arith, nat_tests)

  pub follow_few : (n : ℕ) → n ≡ count_by (λ u. nat_lt was.peer.core.view u.view) was.changes → n ≤ seat.f → Does old old (rules.follow seat)
  follow_few n is le = unless_does old new many_later (λ w. rules.follow_to seat w (least_above w.at.peer.core.view w.at.changes)) (ap (nat_le (seat.f + 1)) (sym is) ∙ few_later n le)

  pub follow_some : (n v : ℕ) → n ≡ count_by (λ u. nat_lt was.peer.core.view u.view) was.changes → seat.f < n → Some v ≡ least_above was.peer.core.view was.changes → Does old new (rules.leave_to seat v) → Does old new (rules.follow seat)
  follow_some n v is lt least leaves_to =
      when_does old new many_later (λ w. rules.follow_to seat w (least_above w.at.peer.core.view w.at.changes)) (ap (nat_le (seat.f + 1)) (sym is) ∙ enough_later n lt)
      (λ w shows.
      let e : least_above w.at.peer.core.view w.at.changes ≡ Some v = ap (λ (m : Memory). least_above m.peer.core.view m.changes) (sym shows.at) ∙ sym least in
      subst (λ o. Shows new (rules.follow_to seat w o)) (sym e) (leaves_to w shows))

  pub follow_none : None ≡ least_above was.peer.core.view was.changes → Does old old (rules.follow seat)
  follow_none least w shows =
      let e : least_above w.at.peer.core.view w.at.changes ≡ None = ap (λ (m : Memory). least_above m.peer.core.view m.changes) (sym shows.at) ∙ sym least in
      of (many_later w.at) (least_above w.at.peer.core.view w.at.changes) e
    where
      of : (b : Bool) (o : Option ℕ) → o ≡ None → Shows old (if b then rules.follow_to seat w o else w)
      of true None n = shows
      of false o n = shows
      of true (Some v) n = absurd (cc n)

  pub leave_to_does : (mid : Progress) (v : ℕ) (certs : List (Cert Value)) → certs ≡ certs_from (cert_at was.peer.core.certs) (suc seat.k) 0 → Does old mid (leaves seat v)
      → ((s : State Value) → certs ≡ certs_from (cert_at s.certs) (suc seat.k) 0 → Does mid new (rules.keep_own seat v s)) → Does old new (rules.leave_to seat v)
  leave_to_does mid v certs is left kept w shows =
      kept w.at.peer.core (is ∙ ap (λ (m : Memory). certs_from (cert_at m.peer.core.certs) (suc seat.k) 0) shows.at) (leaves seat v w) (left w shows)

  pub lead_does : (mid : Progress) (changes : List (Change Value)) → rules.may_lead seat (idle was) ≡ true → changes ≡ lowest seat.f was.changes was.peer.core.view
      → Does old mid (does (rules.leads was.peer.core.view)) → Does mid new (rules.enter_view seat was.peer.core.view changes) → Does old new (rules.lead seat)
  lead_does mid changes may is tells enters =
      when_does old new (λ m. rules.may_lead seat (idle m)) (λ w. rules.enter_view seat w.at.peer.core.view (lowest seat.f w.at.changes w.at.peer.core.view) (does (rules.leads w.at.peer.core.view) w)) may
      (λ w shows.
      let there = enters (does (rules.leads was.peer.core.view) w) (tells w shows) in
      let here = subst (λ l. Shows new (rules.enter_view seat was.peer.core.view l (does (rules.leads was.peer.core.view) w))) is there in
      subst (λ (m : Memory). Shows new (rules.enter_view seat m.peer.core.view (lowest seat.f m.changes m.peer.core.view) (does (rules.leads m.peer.core.view) w))) shows.at here)

  pub time_out_does : (mid : Progress) → can_leave seat was ≡ true → Does old mid (rules.leave_to seat (suc was.peer.core.view)) → Does mid new (rules.lead seat) → Does old new (rules.work seat timeout)
  time_out_does mid may left leads w shows =
      let t : (rules.is_done seat (idle w.at) || nat_le 4294967295 w.at.peer.core.view) ≡ false = off (rules.is_done seat (idle w.at) || nat_le 4294967295 w.at.peer.core.view) (ap (can_leave seat) (sym shows.at) ∙ may) in
      let there = leads (rules.leave_to seat (suc was.peer.core.view) w) (left w shows) in
      let here = subst (λ (m : Memory). Shows new (rules.lead seat (rules.leave_to seat (suc m.peer.core.view) w))) shows.at there in
      rw t here
    where
      off : (a : Bool) → not a ≡ true → a ≡ false
      off true h = absurd (cc h)
      off false h = refl

pub time_out_not : (seat : Placement) (old : Progress) → can_leave seat (memory_of old.memory) ≡ false → Does old old (rules.work seat timeout)
time_out_not seat old not_now w shows =
    let t : (rules.is_done seat (idle w.at) || nat_le 4294967295 w.at.peer.core.view) ≡ true = on (rules.is_done seat (idle w.at) || nat_le 4294967295 w.at.peer.core.view) (ap (can_leave seat) (sym shows.at) ∙ not_now) in
    rw t shows
  where
    on : (a : Bool) → not a ≡ false → a ≡ true
    on true h = refl
    on false h = absurd (cc h)

-- ---- offers

module _ (seat : Placement) (old new : Progress) where
  pub fit_none : ((w : Work) → Shows old w → next_fit seat w ≡ None) → (w : Work) → Shows old w → Offered seat false old w
  fit_none none w shows = subst (λ o. OfferedFit seat false old w o) (sym (none w shows)) (refl, shows)

  pub fit_some : (m : Request) → ((w : Work) → Shows old w → next_fit seat w ≡ Some m) → Does old new (rules.offer seat (Order m)) → (w : Work) → Shows old w → Offered seat true new w
  fit_some m some offers w shows = subst (λ o. OfferedFit seat true new w o) (sym (some w shows)) (refl, offers w shows)

abbrev fit_of : Placement → Memory → Option Request
fit_of seat m = if nat_le (length m.peer.core.accepted) seat.k then rules.first_fit m.peer.core.accepted m.requests else None

module _ (seat : Placement) (old : Progress) where
  abbrev old_accepted : List Value
  old_accepted = (memory_of old.memory).peer.core.accepted

  fit_there : (o : Option Request) → fit_of seat (memory_of old.memory) ≡ o → (w : Work) → Shows old w → next_fit seat w ≡ o
  fit_there o is w shows = ap (fit_of seat) (sym shows.at) ∙ is

  pub full_fits : seat.k < length old_accepted → (w : Work) → Shows old w → next_fit seat w ≡ None
  full_fits lt = fit_there None (let t : nat_le (length old_accepted) seat.k ≡ false = above (length old_accepted) lt in rw t refl)
    where
      above : (n : ℕ) → seat.k < n → nat_le n seat.k ≡ false
      above n h = grind (arith, nat_tests)

  pub open_fits : (o : Option Request) → length old_accepted ≤ seat.k → o ≡ rules.first_fit old_accepted (memory_of old.memory).requests → (w : Work) → Shows old w → next_fit seat w ≡ o
  open_fits o le is = fit_there o (let t : nat_le (length old_accepted) seat.k ≡ true = below (length old_accepted) le in rw t (sym is))
    where
      below : (n : ℕ) → n ≤ seat.k → nat_le n seat.k ≡ true
      below n h = grind (arith, nat_tests)

-- ---- many offers

abbrev by_fits : (Work → Work) → Placement → Work → Option Request → Work
by_fits rest seat w None = w
by_fits rest seat w (Some m) = rest (rules.offer seat (Order m) w)

offers_step : (seat : Placement) (n : ℕ) (w : Work) → rules.offer_requests seat (suc n) w ≡ by_fits (rules.offer_requests seat n) seat w (next_fit seat w)
offers_step seat n w = of (rules.has_room seat w) (rules.first_fit w.at.peer.core.accepted w.at.requests)
  where
    of : (room : Bool) (o : Option Request) → (if room then rules.offer_next seat (rules.offer_requests seat n) w o else w) ≡ by_fits (rules.offer_requests seat n) seat w (if room then o else None)
    of false o = refl
    of true None = refl
    of true (Some m) = refl

abbrev pub OffersOn : Placement → ℕ → ℕ → Progress → Progress → Type 0
OffersOn seat most n old new = (w : Work) → Shows old w → (u : Work) × Shows new u × (rules.offer_requests seat most w ≡ rules.offer_requests seat (most - n) u)

module _ (seat : Placement) where
  pub offers_begin : (most : ℕ) (old : Progress) → OffersOn seat most 0 old old
  offers_begin most old w shows = let e : most ≡ most - 0 = omega arith in (w, shows, ap (λ n. rules.offer_requests seat n w) e)

  moved : (new : Progress) (u : Work) (o : Option Request) → OfferedFit seat true new u o → (n : ℕ) → (v : Work) × Shows new v × (by_fits (rules.offer_requests seat n) seat u o ≡ rules.offer_requests seat n v)
  moved new u None went n = let e : true ≡ false = went.0 in absurd (cc e)
  moved new u (Some m) went n = (rules.offer seat (Order m) u, went.1, refl)

  stayed : (new : Progress) (u : Work) (o : Option Request) → OfferedFit seat false new u o → (n : ℕ) → Shows new u × (by_fits (rules.offer_requests seat n) seat u o ≡ u)
  stayed new u None went n = (went.1, refl)
  stayed new u (Some m) went n = let e : false ≡ true = went.0 in absurd (cc e)

  pub offers_more : (most n : ℕ) (old mid new : Progress) → n < most → OffersOn seat most n old mid → ((w : Work) → Shows mid w → Offered seat true new w) → OffersOn seat most (n + 1) old new
  offers_more most n old mid new lt so_far went w shows =
      let at = so_far w shows in
      let next = moved new at.0 (next_fit seat at.0) (went at.0 at.1) (most - (n + 1)) in
      let e : most - n ≡ suc (most - (n + 1)) = omega arith in
      (next.0, next.1, at.2 ∙ (ap (λ k. rules.offer_requests seat k at.0) e ∙ (offers_step seat (most - (n + 1)) at.0 ∙ next.2)))

  pub offers_stop : (most n : ℕ) (old mid new : Progress) → n < most → OffersOn seat most n old mid → ((w : Work) → Shows mid w → Offered seat false new w) → Does old new (rules.offer_requests seat most)
  offers_stop most n old mid new lt so_far went w shows =
      let at = so_far w shows in
      let end = stayed new at.0 (next_fit seat at.0) (went at.0 at.1) (most - (n + 1)) in
      let e : most - n ≡ suc (most - (n + 1)) = omega arith in
      subst (λ u. Shows new u) (sym (at.2 ∙ (ap (λ k. rules.offer_requests seat k at.0) e ∙ (offers_step seat (most - (n + 1)) at.0 ∙ end.1)))) end.0

  pub offers_end : (most n : ℕ) (old new : Progress) → most ≤ n → OffersOn seat most n old new → Does old new (rules.offer_requests seat most)
  offers_end most n old new le so_far w shows =
      let at = so_far w shows in
      let e : most - n ≡ 0 = omega arith in
      subst (λ u. Shows new u) (sym (at.2 ∙ ap (λ k. rules.offer_requests seat k at.0) e)) at.1
