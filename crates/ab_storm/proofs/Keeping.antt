-- The events that are kept are those that are drawn.
use Rattle.std.proofs.Common.{◌≡◌, ℕ, suc, ◌+◌, ◌-◌, ◌<◌, All, List, [], ◌∷◌, ◌++◌, Result, Ok, Err, append_assoc, append-nil, length, sym, ap, ◌∙◌, subst, arith}
use Rattle.std.specs.Prelude.{IfOk, IfErr, OnOk}
use Rattle.ab_num.specs.declared.cluster.Cluster.{Cluster}
use Rattle.ab_text.specs.declared.event.Event.{Event}
use Rattle.ab_text.specs.EventLines.{IsEvent}
use Rattle.ab_words.specs.Commands.{StormCommand}
use Rattle.ab_abs.specs.Ensembles.{Proto}
use Rattle.ab_party.specs.Clusters.{IsSized}
use Rattle.ab_cast.specs.Setups.{Setup}
use Rattle.ab_storm.specs.Storms.{Storm}
use Rattle.ab_world.specs.declared.fault.WorldFault.{WorldFault}
use Rattle.ab_world.specs.Runs.{outcome}
use Rattle.ab_world.specs.Steps.{stepped}
use Rattle.ab_world.specs.Worlds.{World, start}
use Rattle.ab_storm.specs.declared.running.StormFault.{StormFault}
use Rattle.ab_storm.specs.declared.running.StormFault.TheVariants.{OutOfMemory}
use Rattle.ab_storm.specs.Runs.{drawn_at, drawn_behind, drawn_events, events_in, run_in, storm_of, storm_setup, StepCause, EndCause, StormCause}
use Rattle.ab_storm.proofs.StormLemmas.{all_drawn, ends_storm}
use Rattle.ab_storm.specs.Drawn.{Draws}

-- ---- results

pub on_ok : {T E : Type 0} (r : Result T E) (Q : Type 0) → Q → OnOk r Q
on_ok (Ok t) Q q = q
on_ok (Err e) Q q = tt

-- ---- event by event

module _ {P : Type 0} (proto : Proto P) where
  -- the events from here on, where the next one is taken
  drawn_on : (n i : ℕ) (s t : Storm) (w v : World P) → i < n → t ≡ (drawn_at s w).1 → stepped proto w (drawn_at s w).0 ≡ Ok v
      → drawn_events proto (n - i) s w ≡ (drawn_at s w).0 ∷ drawn_events proto (n - (i + 1)) t v
  drawn_on n i s t w v lt next takes =
      let one : n - i ≡ suc (n - (i + 1)) = omega (arith, lt) in
      ap (λ m. drawn_events proto m s w) one
      ∙ ap (λ (r : Result (World P) WorldFault). (drawn_at s w).0 ∷ drawn_behind r (λ u. drawn_events proto (n - (i + 1)) (drawn_at s w).1 u)) takes
      ∙ ap (λ (u : Storm). (drawn_at s w).0 ∷ drawn_events proto (n - (i + 1)) u v) (sym next)

  -- one event more is kept
  pub keeps_on : (kept new whole : List Event) (n i : ℕ) (s t : Storm) (w v : World P) → i < n → t ≡ (drawn_at s w).1 → stepped proto w (drawn_at s w).0 ≡ Ok v
      → new ≡ kept ++ (drawn_at s w).0 ∷ [] → kept ++ drawn_events proto (n - i) s w ≡ whole → new ++ drawn_events proto (n - (i + 1)) t v ≡ whole
  keeps_on kept new whole n i s t w v lt next takes is so =
      let rest = drawn_events proto (n - (i + 1)) t v in
      ap (λ xs. xs ++ rest) is ∙ append_assoc kept ((drawn_at s w).0 ∷ []) rest ∙ ap (λ xs. kept ++ xs) (sym (drawn_on n i s t w v lt next takes)) ∙ so

  -- no event is left
  pub keeps_all : (kept whole : List Event) (n i : ℕ) (s : Storm) (w : World P) → i ≡ n → kept ++ drawn_events proto (n - i) s w ≡ whole → kept ≡ whole
  keeps_all kept whole n i s w all so =
      let none : n - i ≡ 0 = omega (arith, all) in
      sym (append-nil kept) ∙ ap (λ m. kept ++ drawn_events proto m s w) (sym none) ∙ so

  -- a failed allocation ends an event
  pub memory_ends : (r : Result (World P) WorldFault) (o : Result (Unit {0}) StormFault) → IfErr o (λ e. e ≡ OutOfMemory) → IfErr o (λ e. StepCause e r)
  memory_ends r (Ok done) is = tt
  memory_ends r (Err e) is = subst (λ (f : StormFault). StepCause f r) (sym is) tt

-- ---- the storm that is asked for

pub sets_own : (x : Setup) (c : Cluster) → x ≡ storm_setup c → x ≡ storm_setup x.cluster
sets_own x c sets = sets ∙ ap (λ (y : Setup). storm_setup y.cluster) (sym sets)

pub sized_own : (x : Setup) (c : Cluster) (k : StormCommand) → x ≡ storm_setup c → IsSized c k.f k.clients k.plan 0 → IsSized x.cluster k.f k.clients k.plan 0
sized_own x c k sets sized = subst (λ (y : Setup). IsSized y.cluster k.f k.clients k.plan 0) (sym sets) sized

-- where its cluster is set up, and the storm and the world are those before the first event
module _ {P : Type 0} (proto : Proto P) (k : StormCommand) (x : Setup) (w : World P) (s : Storm) (seed events : ℕ)
    (sized : IsSized x.cluster k.f k.clients k.plan 0) (sets : x ≡ storm_setup x.cluster) (starts : w ≡ start proto x) (from : s ≡ storm_of x.cluster seed) (seeded : seed ≡ k.seed) (many : events ≡ k.events) where
  starts_so : w ≡ start proto (storm_setup x.cluster)
  starts_so = starts ∙ ap (start proto) sets

  begins_so : s ≡ storm_of x.cluster k.seed
  begins_so = from ∙ ap (storm_of x.cluster) seeded

  events_are : drawn_events proto events s w ≡ events_in proto x.cluster k
  events_are = λ j. drawn_events proto (many j) (begins_so j) (starts_so j)

  run_is : outcome proto 1 w (drawn_events proto events s w) ≡ run_in proto x.cluster k
  run_is = λ j. outcome proto 1 (starts_so j) (events_are j)

  -- its events are kept, and lead to the end
  pub all_kept : (kept : List Event) (end : World P) → outcome proto 1 w (drawn_events proto events s w) ≡ Ok end → kept ≡ drawn_events proto events s w → All IsEvent kept → Draws proto k kept end
  all_kept kept end leads is lines =
      let runs : run_in proto x.cluster k ≡ Ok end = sym run_is ∙ leads in
      let drawn : kept ≡ events_in proto x.cluster k = is ∙ events_are in
      record {
        cluster = x.cluster;
        sized = sized;
        drawn = drawn;
        all = ap length drawn ∙ all_drawn proto k.events 1 (storm_of x.cluster k.seed) (start proto (storm_setup x.cluster)) end runs;
        runs = runs;
        lines = lines;
      }

  -- or it ends
  pub all_ended : (e : StormFault) → EndCause e (outcome proto 1 w (drawn_events proto events s w)) → StormCause proto e k
  all_ended e cause = ends_storm proto k x.cluster e sized (subst (EndCause e) run_is cause)
