-- The run of a storm.
use Rattle.std.proofs.Common.{◌≡◌, ℕ, zero, suc, ◌+◌, ◌-◌, ◌≤◌, ◌<◌, Bool, Option, None, Some, List, ◌∷◌, Result, Ok, Err, length, refl, sym, ap, ◌∙◌, subst, arith}
use Rattle.std.proofs.Math.Bridge.{le_prop}
use Rattle.std.specs.Prelude.{IsSome}
use Rattle.ab_num.specs.Bounds.{IsInBounds}
use Rattle.ab_num.specs.declared.cluster.Cluster.{Cluster}
use Rattle.ab_num.specs.declared.plan.Plan.{Plan}
use Rattle.ab_abs.specs.Ensembles.{Proto}
use Rattle.ab_party.specs.Clusters.{IsSized}
use Rattle.ab_cast.specs.Setups.{Setup}
use Rattle.ab_text.specs.declared.event.Event.{Event}
use Rattle.ab_words.specs.Commands.{StormCommand}
use Rattle.ab_storm.specs.Storms.{Storm, next_of}
use Rattle.ab_world.specs.declared.fault.WorldFault.{WorldFault}
use Rattle.ab_world.specs.declared.fault.WorldFault.TheVariants.{PacketLimit, EventLimit, BadCommand, NoPacket, BadParty, Busy, OutOfMemory as NoMemory}
use Rattle.ab_world.specs.Steps.{WorldCause, stepped}
use Rattle.ab_world.specs.Runs.{outcome, refused_or}
use Rattle.ab_world.specs.Worlds.{World, start}
use Rattle.ab_storm.specs.declared.running.StormFault.{StormFault}
use Rattle.ab_storm.specs.declared.running.StormFault.TheVariants.{TooManyPackets, OutOfMemory}
use Rattle.ab_storm.specs.Standing.{Goes}
use Rattle.ab_storm.specs.Runs.{end_of, idle_of, drawn_at, drawn_behind, drawn_events, storm_setup, storm_of, run_in, StormsTo, StepCause, EndCause, StormCause}
use Rattle.ab_storm.proofs.DrawLemmas.{refused_for, goes_on, storm_goes}

-- ---- clusters of one size

bounds_once : (f n : ℕ) (a b : IsInBounds f n) → a ≡ b
bounds_once f n a b = λ j. record { some_faulty = le_prop a.some_faulty b.some_faulty j; few_faulty = le_prop a.few_faulty b.few_faulty j; some_client = le_prop a.some_client b.some_client j; few_clients = le_prop a.few_clients b.few_clients j }

abbrev of_size : (f n : ℕ) → Plan → (k : ℕ) → IsInBounds f n → k ≤ 128 → Cluster
of_size f n plan k bounds dense = record { f = f; clients = n; plan = plan; every = k; in_bounds = bounds; is_dense = dense }

one_cluster : (c d : Cluster) → c.f ≡ d.f → c.clients ≡ d.clients → c.plan ≡ d.plan → c.every ≡ d.every → c ≡ d
one_cluster c d f n plan every =
    subst (λ (g : ℕ). (b : IsInBounds g d.clients) (t : d.every ≤ 128) → c ≡ of_size g d.clients d.plan d.every b t) f
    (subst (λ (m : ℕ). (b : IsInBounds c.f m) (t : d.every ≤ 128) → c ≡ of_size c.f m d.plan d.every b t) n
    (subst (λ (q : Plan). (b : IsInBounds c.f c.clients) (t : d.every ≤ 128) → c ≡ of_size c.f c.clients q d.every b t) plan
    (subst (λ (k : ℕ). (b : IsInBounds c.f c.clients) (t : k ≤ 128) → c ≡ of_size c.f c.clients c.plan k b t) every
    (λ b t j. of_size c.f c.clients c.plan c.every (bounds_once c.f c.clients c.in_bounds b j) (le_prop c.is_dense t j))))) d.in_bounds d.is_dense

pub one_end : {P : Type 0} (proto : Proto P) (k : StormCommand) (r q : Result (World P) (ℕ × WorldFault)) → StormsTo proto k r → StormsTo proto k q → r ≡ q
one_end proto k r q a b =
    sym a.runs
    ∙ ap (λ (c : Cluster). run_in proto c k) (one_cluster a.cluster b.cluster (a.sized.f ∙ sym b.sized.f) (a.sized.clients ∙ sym b.sized.clients) (a.sized.plan ∙ sym b.sized.plan) (a.sized.every ∙ sym b.sized.every))
    ∙ b.runs

-- ---- results

-- what the generator answers is what is drawn where the world stands
pub drawn_so : {P : Type 0} (s t : Storm) (w : World P) (e : Event) (packets : ℕ) (idle : List Bool) → packets ≡ length w.packets → idle ≡ idle_of w → (e, t) ≡ next_of packets idle s
    → (e ≡ (drawn_at s w).0) × (t ≡ (drawn_at s w).1)
drawn_so s t w e packets idle sent free is =
    let so : ◌≡◌ {A = Event × Storm} (e, t) (drawn_at s w) = is ∙ (λ j. next_of (sent j) (free j) s) in (ap (λ d. d.0) so, ap (λ d. d.1) so)

some_none : (f : StormFault) → ◌≡◌ {A = Option StormFault} (Some f) None → ⊥
some_none f is = cc (is)

module _ {P : Type 0} (proto : Proto P) where
  ok_err : (w : World P) (n : ℕ) (f : WorldFault) → ◌≡◌ {A = Result (World P) (ℕ × WorldFault)} (Ok w) (Err (n, f)) → ⊥
  ok_err w n f is = cc (is)

  err_ok : (w : World P) (n : ℕ) (f : WorldFault) → ◌≡◌ {A = Result (World P) (ℕ × WorldFault)} (Err (n, f)) (Ok w) → ⊥
  err_ok w n f is = cc (is)

  abbrev fault_in : WorldFault → Result (World P) (ℕ × WorldFault) → WorldFault
  fault_in f (Ok w) = f
  fault_in f (Err e) = e.1

  fault_same : (m n : ℕ) (f g : WorldFault) → ◌≡◌ {A = Result (World P) (ℕ × WorldFault)} (Err (m, f)) (Err (n, g)) → f ≡ g
  fault_same m n f g is = ap (fault_in f) is

  -- ---- event by event

  -- a fault that comes of an event that was drawn ends the storm
  refusal_ends : (s : Storm) (w : World P) (f : WorldFault) → Goes s w → w.cast.events < 100000 → stepped proto w (drawn_at s w).0 ≡ Err f → IsSome (end_of f)
  refusal_ends s w f goes few is = subst (λ (g : WorldFault). IsSome (end_of g)) (sym (refused_for proto s w goes few f is)) refl

  pub fault_ends : (s : Storm) (w : World P) (f : WorldFault) → Goes s w → w.cast.events < 100000 → WorldCause proto f w (drawn_at s w).0 → IsSome (end_of f)
  fault_ends s w PacketLimit goes few cause = refl
  fault_ends s w NoMemory goes few cause = refl
  fault_ends s w EventLimit goes few cause = refusal_ends s w EventLimit goes few cause
  fault_ends s w BadCommand goes few cause = refusal_ends s w BadCommand goes few cause
  fault_ends s w NoPacket goes few cause = refusal_ends s w NoPacket goes few cause
  fault_ends s w BadParty goes few cause = refusal_ends s w BadParty goes few cause
  fault_ends s w Busy goes few cause = refusal_ends s w Busy goes few cause

  some_same : (e f : StormFault) → ◌≡◌ {A = Option StormFault} (Some e) (Some f) → f ≡ e
  some_same e f is = cc (is)

  -- and has its cause
  pub end_caused : (w : World P) (event : Event) (f : WorldFault) (e : StormFault) → Some e ≡ end_of f → WorldCause proto f w event → StepCause e (stepped proto w event)
  end_caused w event PacketLimit e is cause = subst (λ (g : StormFault). StepCause g (stepped proto w event)) (some_same e TooManyPackets is) cause
  end_caused w event NoMemory e is cause = subst (λ (g : StormFault). StepCause g (stepped proto w event)) (some_same e OutOfMemory is) tt
  end_caused w event EventLimit e is cause = absurd (some_none e is)
  end_caused w event BadCommand e is cause = absurd (some_none e is)
  end_caused w event NoPacket e is cause = absurd (some_none e is)
  end_caused w event BadParty e is cause = absurd (some_none e is)
  end_caused w event Busy e is cause = absurd (some_none e is)

  -- no event is left
  pub run_done : (n i : ℕ) (s : Storm) (w : World P) → i ≡ n → outcome proto (i + 1) w (drawn_events proto (n - i) s w) ≡ Ok w
  run_done n i s w all = let none : n - i ≡ 0 = omega (arith, all) in ap (λ m. outcome proto (i + 1) w (drawn_events proto m s w)) none

  -- the events from here on: one, and those behind it
  more_drawn : (n i : ℕ) (s : Storm) (w : World P) → i < n
      → drawn_events proto (n - i) s w ≡ (drawn_at s w).0 ∷ drawn_behind (stepped proto w (drawn_at s w).0) (λ v. drawn_events proto (n - (i + 1)) (drawn_at s w).1 v)
  more_drawn n i s w lt = let next : n - i ≡ suc (n - (i + 1)) = omega (arith, lt) in ap (λ m. drawn_events proto m s w) next

  -- the run from an event on is that from the next one on
  run_goes_on : (n i : ℕ) (s : Storm) (w v : World P) → i < n → stepped proto w (drawn_at s w).0 ≡ Ok v
      → outcome proto (i + 1) w (drawn_events proto (n - i) s w) ≡ outcome proto (i + 1 + 1) v (drawn_events proto (n - (i + 1)) (drawn_at s w).1 v)
  run_goes_on n i s w v lt takes =
      ap (outcome proto (i + 1) w) (more_drawn n i s w lt)
      ∙ ap (λ (r : Result (World P) WorldFault). refused_or proto (i + 1) (stepped proto w (drawn_at s w).0) (λ u. outcome proto (i + 1 + 1) u (drawn_behind r (λ t. drawn_events proto (n - (i + 1)) (drawn_at s w).1 t)))) takes
      ∙ ap (λ (r : Result (World P) WorldFault). refused_or proto (i + 1) r (λ u. outcome proto (i + 1 + 1) u (drawn_events proto (n - (i + 1)) (drawn_at s w).1 v))) takes

  -- or the event is the first that is refused
  run_ends : (n i : ℕ) (s : Storm) (w : World P) (f : WorldFault) → i < n → stepped proto w (drawn_at s w).0 ≡ Err f
      → outcome proto (i + 1) w (drawn_events proto (n - i) s w) ≡ Err (i + 1, f)
  run_ends n i s w f lt refused =
      ap (outcome proto (i + 1) w) (more_drawn n i s w lt)
      ∙ ap (λ (r : Result (World P) WorldFault). refused_or proto (i + 1) r (λ u. outcome proto (i + 1 + 1) u (drawn_behind (stepped proto w (drawn_at s w).0) (λ t. drawn_events proto (n - (i + 1)) (drawn_at s w).1 t)))) refused

  -- what one event more leaves of the run, the count and the storm
  pub record GoesOn (n i : ℕ) (t : Storm) (w v : World P) (whole : Result (World P) (ℕ × WorldFault)) : Type 0 where
    pub rest : outcome proto (i + 1 + 1) v (drawn_events proto (n - (i + 1)) t v) ≡ whole
    pub events : v.cast.events ≤ w.cast.events + 1
    pub goes : Goes t v

  pub goes_next : (n i : ℕ) (s t : Storm) (w v : World P) (whole : Result (World P) (ℕ × WorldFault)) → i < n → Goes s w → w.cast.events < 100000 → t ≡ (drawn_at s w).1
      → stepped proto w (drawn_at s w).0 ≡ Ok v → outcome proto (i + 1) w (drawn_events proto (n - i) s w) ≡ whole → GoesOn n i t w v whole
  goes_next n i s t w v whole lt goes few next takes so =
      let over = goes_on proto s w goes few v takes in
      record {
        rest = ap (λ (u : Storm). outcome proto (i + 1 + 1) v (drawn_events proto (n - (i + 1)) u v)) next ∙ sym (run_goes_on n i s w v lt takes) ∙ so;
        events = over.events;
        goes = subst (λ (u : Storm). Goes u v) (sym next) over.goes;
      }

  -- what ends an event ends the run
  pub ends_run : (e : StormFault) (n i : ℕ) (s : Storm) (w : World P) → i < n → StepCause e (stepped proto w (drawn_at s w).0)
      → EndCause e (outcome proto (i + 1) w (drawn_events proto (n - i) s w))
  ends_run TooManyPackets n i s w lt refused = (i + 1, run_ends n i s w PacketLimit lt refused)
  ends_run OutOfMemory n i s w lt cause = tt

  -- ---- whole runs

  -- one event of a run is refused, or the rest of the run is one from where it leads
  abbrev Rest : ℕ → ℕ → Storm → World P → Result (World P) WorldFault → Result (World P) (ℕ × WorldFault)
  Rest n i s w r = refused_or proto i r (λ u. outcome proto (i + 1) u (drawn_behind r (λ v. drawn_events proto n (drawn_at s w).1 v)))

  whole_by : (n i : ℕ) (s : Storm) (w end : World P) (r : Result (World P) WorldFault)
      → ((v : World P) → outcome proto (i + 1) v (drawn_events proto n (drawn_at s w).1 v) ≡ Ok end → length (drawn_events proto n (drawn_at s w).1 v) ≡ n)
      → Rest n i s w r ≡ Ok end → length (drawn_behind r (λ v. drawn_events proto n (drawn_at s w).1 v)) ≡ n
  whole_by n i s w end (Ok v) more is = more v is
  whole_by n i s w end (Err f) more is = absurd (err_ok end i f is)

  -- where no event is refused, all are drawn
  pub all_drawn : (n i : ℕ) (s : Storm) (w end : World P) → outcome proto i w (drawn_events proto n s w) ≡ Ok end → length (drawn_events proto n s w) ≡ n
  all_drawn zero i s w end is = refl
  all_drawn (suc n) i s w end is = ap suc (whole_by n i s w end (stepped proto w (drawn_at s w).0) (λ v rest. all_drawn n (i + 1) (drawn_at s w).1 v end rest) is)

  -- ---- refusals

  refused_by : (n i : ℕ) (s : Storm) (w : World P) → Goes s w → w.cast.events < 100000 → (e : ℕ) (f : WorldFault) (r : Result (World P) WorldFault) → stepped proto w (drawn_at s w).0 ≡ r
      → ((v : World P) → stepped proto w (drawn_at s w).0 ≡ Ok v → outcome proto (i + 1) v (drawn_events proto n (drawn_at s w).1 v) ≡ Err (e, f) → f ≡ PacketLimit)
      → Rest n i s w r ≡ Err (e, f) → f ≡ PacketLimit
  refused_by n i s w goes few e f (Ok v) takes more stops = more v takes stops
  refused_by n i s w goes few e f (Err g) takes more stops = sym (fault_same i e g f stops) ∙ refused_for proto s w goes few g takes

  -- over a world with few events, each refusal is for the limit of bytes
  drawn_refused : (n i : ℕ) (s : Storm) (w : World P) → Goes s w → w.cast.events + n ≤ 100000 → (e : ℕ) (f : WorldFault) → outcome proto i w (drawn_events proto n s w) ≡ Err (e, f) → f ≡ PacketLimit
  drawn_refused zero i s w goes few e f is = absurd (ok_err w e f is)
  drawn_refused (suc n) i s w goes few e f is =
      let some : w.cast.events < 100000 = omega (arith, few) in
      refused_by n i s w goes some e f (stepped proto w (drawn_at s w).0) refl
      (λ v. λ takes rest. let over = goes_on proto s w goes some v takes in drawn_refused n (i + 1) (drawn_at s w).1 v over.goes (omega (arith, few, over.events)) e f rest)
      is

  pub refused_for_limit : (k : StormCommand) (n : ℕ) (f : WorldFault) → k.events ≤ 100000 → StormsTo proto k (Err (n, f)) → f ≡ PacketLimit
  refused_for_limit k n f few to =
      drawn_refused k.events 1 (storm_of to.cluster k.seed) (start proto (storm_setup to.cluster)) (storm_goes proto to.cluster k.seed) (omega (arith, few)) n f to.runs

-- ---- the storm that is asked for

-- where this is its cluster, set up, and the storm and the world are those before the first event
module _ {P : Type 0} (proto : Proto P) (c : Cluster) (x : Setup) (w : World P) (s : Storm) (seed : ℕ) (sets : x ≡ storm_setup c) (starts : w ≡ start proto x) (from : s ≡ storm_of c seed) where
  starts_so : w ≡ start proto (storm_setup c)
  starts_so = starts ∙ ap (start proto) sets

  pub begins_going : Goes s w
  begins_going = subst (λ (v : World P). Goes s v) (sym starts_so) (subst (λ (u : Storm). Goes u (start proto (storm_setup c))) (sym from) (storm_goes proto c seed))

  pub begins_early : w.cast.events ≡ 0
  begins_early = ap (λ (v : World P). v.cast.events) starts_so

  -- its run is that of the storm
  pub runs_storm : (k : StormCommand) (events : ℕ) (r : Result (World P) (ℕ × WorldFault)) → seed ≡ k.seed → events ≡ k.events
      → outcome proto 1 w (drawn_events proto events s w) ≡ r → run_in proto c k ≡ r
  runs_storm k events r seeded many is =
      let begins : s ≡ storm_of c k.seed = from ∙ ap (storm_of c) seeded in
      sym (λ j. outcome proto 1 (starts_so j) (drawn_events proto (many j) (begins j) (starts_so j))) ∙ is

-- what ends its run ends the storm
pub ends_storm : {P : Type 0} (proto : Proto P) (k : StormCommand) (c : Cluster) (e : StormFault) → IsSized c k.f k.clients k.plan 0 → EndCause e (run_in proto c k) → StormCause proto e k
ends_storm proto k c TooManyPackets sized (n, runs) = (n, record { cluster = c; sized = sized; runs = runs })
ends_storm proto k c OutOfMemory sized cause = tt
