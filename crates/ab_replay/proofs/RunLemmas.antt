-- Runs without a refusal, and what the first refusal says of a text.
use Rattle.std.proofs.Common.{◌≡◌, ℕ, zero, suc, ◌+◌, ◌*◌, ◌≤◌, ◌<◌, List, [], ◌∷◌, ◌++◌, Bool, true, false, Option, None, Some, Result, Ok, Err, if◌then◌else◌, drop, append_assoc, get_or, length, refl, sym, ap, ◌∙◌, subst, inr, arith}
use Rattle.std.proofs.Math.Bridge.{le_prop}
use Rattle.std.specs.Prelude.{IfErr}
use Rattle.ab_num.specs.Bounds.{IsInBounds}
use Rattle.ab_num.specs.declared.party.Party.{Party}
use Rattle.ab_text.specs.declared.event.Event.{Event}
use Rattle.ab_text.specs.Heads.{Script}
use Rattle.ab_text.specs.Schedules.{ReadsText, script_of}
use Rattle.ab_text.specs.declared.schedule.Head.{Head}
use Rattle.ab_open.specs.declared.fault.OpenFault.{OpenFault}
use Rattle.ab_abs.specs.Ensembles.{Proto}
use Rattle.ab_num.specs.declared.cluster.Cluster.{Cluster}
use Rattle.ab_num.specs.declared.plan.Plan.{Plan}
use Rattle.std.proofs.lemmas.List.{at_drop_more, length-append}
use Rattle.std.proofs.lemmas.Bool.{lt-ltb}
use Rattle.arrayvec.specs.ArrayVec.{ArrayVec}
use Rattle.ab_num.proofs.Lists.{length-slice_set}
use Rattle.ab_text.specs.declared.event.Core.{Core as CoreName}
use Rattle.ab_text.specs.declared.event.Event.TheVariants.{Invoke, Deliver, Timeout, Inject}
use Rattle.ab_msg.specs.Packets.{Packet}
use Rattle.ab_party.specs.Clusters.{IsSized}
use Rattle.ab_world.specs.Packets.{nth}
use Rattle.ab_run.specs.Local.{Cue}
use Rattle.ab_party.specs.declared.fault.CommandFault.{CommandFault}
use Rattle.ab_party.specs.declared.fault.CommandFault.TheVariants as command_fault
use Rattle.ab_cast.specs.declared.place.Place.{Place}
use Rattle.ab_cast.specs.declared.place.Place.TheVariants as place
use Rattle.ab_cast.specs.Setups.{Setup, party_at, place_of}
use Rattle.ab_cast.specs.Cores.{Core, replica, client, core_after}
use Rattle.ab_cast.specs.Casts.{Cast, with_core, core_at, command_refusal, first_site, first_sites}
use Rattle.ab_world.specs.declared.fault.WorldFault.{WorldFault}
use Rattle.ab_world.specs.declared.fault.WorldFault.TheVariants.{BadCommand, NoPacket, BadParty, Busy, EventLimit, PacketLimit, OutOfMemory as NoMemory}
use Rattle.ab_world.specs.Runs.{outcome, refused_or}
use Rattle.ab_world.specs.Steps.{WorldCause, Happening, ready, ready_in, happening, asked, asked_at, handed, addressed, delivered, rung, refuse_command, after, after_taking, moved_at, stepped, stepped_by, cue_from}
use Rattle.ab_world.specs.Worlds.{World, start}
use Rattle.ab_replay.specs.declared.fault.ReplayFault.{ReplayFault}
use Rattle.ab_replay.specs.declared.fault.ReplayFault.TheVariants.{Read, TooLong, Refused, TooManyEvents, TooManyPackets, OutOfMemory}
use Rattle.ab_replay.specs.Replays.{RunsTo, run_in, setup_in, proto_of, lines_before, EventsCause, TextCause, counts_behind, counts_of, fault_of_step}

-- ---- how many replicas a world has

-- of the same setup, with as many replicas
record Stays {P : Type 0} (x y : Cast P) : Type 0 where
  setup : y.setup ≡ x.setup
  replicas : length y.replicas ≡ length x.replicas

core_stays : {P : Type 0} (x : Cast P) (at : Place) (s : Core P) → Stays x (with_core x at s)
core_stays x (place.Replica r) (replica s) = record { setup = refl; replicas = length-slice_set x.replicas r s }
core_stays x (place.Client c) (replica s) = record { setup = refl; replicas = refl }
core_stays x (place.ReplicaTwin r n) (replica s) = record { setup = refl; replicas = refl }
core_stays x (place.ClientTwin c n) (replica s) = record { setup = refl; replicas = refl }
core_stays x (place.Replica r) (client s) = record { setup = refl; replicas = refl }
core_stays x (place.Client c) (client s) = record { setup = refl; replicas = refl }
core_stays x (place.ReplicaTwin r n) (client s) = record { setup = refl; replicas = refl }
core_stays x (place.ClientTwin c n) (client s) = record { setup = refl; replicas = refl }

stays_still : {P : Type 0} (w v : World P) → v ≡ w → Stays w.cast v.cast
stays_still w v same = record { setup = ap (λ u. u.cast.setup) same; replicas = ap (λ u. length u.cast.replicas) same }

core_events : {P : Type 0} (x : Cast P) (at : Place) (s : Core P) → (with_core x at s).events ≡ x.events
core_events x (place.Replica r) (replica s) = refl
core_events x (place.Client c) (replica s) = refl
core_events x (place.ReplicaTwin r n) (replica s) = refl
core_events x (place.ClientTwin c n) (replica s) = refl
core_events x (place.Replica r) (client s) = refl
core_events x (place.Client c) (client s) = refl
core_events x (place.ReplicaTwin r n) (client s) = refl
core_events x (place.ClientTwin c n) (client s) = refl

-- what happens is no limit
abbrev NoLimit : Result Happening WorldFault → Type 0
NoLimit r = r ≡ Err EventLimit → ⊥

no_limit_if : (b : Bool) (r q : Result Happening WorldFault) → NoLimit r → NoLimit q → NoLimit (if b then r else q)
no_limit_if true r q one other = one
no_limit_if false r q one other = other

refuses_within : (o : Option CommandFault) (at : Place) (bytes : ArrayVec ℕ) → NoLimit (refuse_command o at bytes)
refuses_within None at bytes e = cc (e)
refuses_within (Some command_fault.Busy) at bytes e = cc (e)
refuses_within (Some command_fault.NoClient) at bytes e = cc (e)
refuses_within (Some command_fault.OutOfMemory) at bytes e = cc (e)

asks_within : {P : Type 0} (at : Place) (bytes : ArrayVec ℕ) (o : Option (Core P)) → NoLimit (asked_at at bytes o)
asks_within at bytes None e = cc (e)
asks_within at bytes (Some s) e = refuses_within (command_refusal s) at bytes e

asked_within : {P : Type 0} (w : World P) (bytes : ArrayVec ℕ) (o : Option Place) → NoLimit (asked w bytes o)
asked_within w bytes None e = cc (e)
asked_within w bytes (Some at) e = asks_within at bytes (core_at w.cast at) e

handed_within : (bytes : List ℕ) (o : Option Place) → NoLimit (handed bytes o)
handed_within bytes None e = cc (e)
handed_within bytes (Some at) e = cc (e)

rung_within : (o : Option Place) → NoLimit (rung o)
rung_within None e = cc (e)
rung_within (Some at) e = cc (e)

delivered_within : (x : Setup) (o : Option Packet) (core : Option CoreName) → NoLimit (delivered x o core)
delivered_within x None core e = cc (e)
delivered_within x (Some packet) core e = handed_within packet.bytes (addressed x packet.to core) e

happens_within : {P : Type 0} (w : World P) (e : Event) → NoLimit (happening w e)
happens_within w (Invoke core bytes) = no_limit_if _ (asked w bytes (place_of w.cast.setup core.party core.twin)) (Err BadCommand) (asked_within w bytes (place_of w.cast.setup core.party core.twin)) (λ e. cc (e))
happens_within w (Deliver packet core) = delivered_within w.cast.setup (nth w.packets packet) core
happens_within w (Timeout core) = rung_within (place_of w.cast.setup core.party core.twin)
happens_within w (Inject core bytes) = handed_within bytes (place_of w.cast.setup core.party core.twin)

sites_length : {P : Type 0} (proto : Proto P) (x : Setup) (n : ℕ) → length (first_sites x proto n) ≡ n
sites_length proto x zero = refl
sites_length proto x (suc n) = length-append (first_sites x proto n) (first_site x proto n ∷ []) ∙ omega (arith, sites_length proto x n)

module _ {P : Type 0} (proto : Proto P) where
  move_stays : (w : World P) (at : Place) (cue : Cue) (s : Option (Core P)) → Stays w.cast (moved_at proto w at cue s).cast
  move_stays w at cue None = record { setup = refl; replicas = refl }
  move_stays w at cue (Some s) =
      let stays = core_stays w.cast at (core_after w.cast.setup proto (party_at at) s cue) in record { setup = stays.setup; replicas = stays.replicas }

  taking_stays : (w : World P) (at : Place) (cue : Result Cue OpenFault) → Stays w.cast (after_taking proto w at cue).cast
  taking_stays w at (Ok cue) = move_stays w at cue (core_at w.cast at)
  taking_stays w at (Err fault) = record { setup = refl; replicas = refl }

  -- a step is one event more at most, and ends no world
  record Steps (w v : World P) : Type 0 where
    events : v.cast.events ≤ w.cast.events + 1
    ended : v.ended ≡ w.ended

  move_steps : (w : World P) (at : Place) (cue : Cue) (s : Option (Core P)) → Steps w (moved_at proto w at cue s)
  move_steps w at cue None = record { events = omega arith; ended = refl }
  move_steps w at cue (Some s) = record { events = omega (arith, core_events w.cast at (core_after w.cast.setup proto (party_at at) s cue)); ended = refl }

  taking_steps : (w : World P) (at : Place) (cue : Result Cue OpenFault) → Steps w (after_taking proto w at cue)
  taking_steps w at (Ok cue) = move_steps w at cue (core_at w.cast at)
  taking_steps w at (Err fault) = record { events = omega arith; ended = refl }

  kept_within : (w v : World P) (fits : Bool) → (if fits then Ok w else Err PacketLimit) ≡ Ok v → v ≡ w
  kept_within w v true is = cc
  kept_within w v false is = absurd (cc)

  step_stays : (w v : World P) (h : Result Happening WorldFault) → stepped_by proto w h ≡ Ok v → Stays w.cast v.cast
  step_stays w v (Ok h) is =
      let u = after proto w h in
      let same = stays_still u v (kept_within u v _ is) in
      let stays = taking_stays w h.place (cue_from w.cast.setup (party_at h.place) h.given) in
      record { setup = same.setup ∙ stays.setup; replicas = same.replicas ∙ stays.replicas }
  step_stays w v (Err fault) is = absurd (cc)

  stepped_steps : (w v : World P) (h : Result Happening WorldFault) → stepped_by proto w h ≡ Ok v → Steps w v
  stepped_steps w v (Ok h) is =
      let same = kept_within (after proto w h) v _ is in
      subst (Steps w) (sym same) (taking_steps w h.place (cue_from w.cast.setup (party_at h.place) h.given))
  stepped_steps w v (Err fault) is = absurd (cc (is))

  pub step_steps : (w v : World P) (e : Event) → stepped proto w e ≡ Ok v → (v.cast.events ≤ w.cast.events + 1) × (v.ended ≡ w.ended)
  step_steps w v e is = let steps = stepped_steps w v (ready w e) is in (steps.events, steps.ended)

  within_other : (w : World P) (fits : Bool) → ◌≡◌ {A = Result (World P) WorldFault} (if fits then Ok w else Err PacketLimit) (Err EventLimit) → ⊥
  within_other w true is = cc (is)
  within_other w false is = cc (is)

  -- before the limit of events it is not the answer
  pub no_limit : (w : World P) (e : Event) → w.ended ≡ None → w.cast.events < 100000 → stepped proto w e ≡ Err EventLimit → ⊥
  no_limit w e goes few is =
      let here : ready w e ≡ happening w e = (λ j. ready_in w e (goes j)) ∙ ap (λ (b : Bool). if b then happening w e else Err EventLimit) (lt-ltb w.cast.events 100000 few) in
      by (happening w e) refl (ap (stepped_by proto w) (sym here) ∙ is)
    where
      by : (r : Result Happening WorldFault) → happening w e ≡ r → stepped_by proto w (happening w e) ≡ Err EventLimit → ⊥
      by (Ok h) e' limit = within_other (after proto w h) _ (ap (stepped_by proto w) (sym e') ∙ limit)
      by (Err f) e' limit = let both : ◌≡◌ {A = Result (World P) WorldFault} (Err f) (Err EventLimit) = ap (stepped_by proto w) (sym e') ∙ limit in let same : f ≡ EventLimit = cc (both) in happens_within w e (e' ∙ ap Err same)

  rest_stays : (w t : World P) (n : ℕ) (r : Result (World P) WorldFault) (rest : World P → Result (World P) (ℕ × WorldFault))
      → ((v : World P) → r ≡ Ok v → Stays w.cast v.cast) → ((v : World P) → rest v ≡ Ok t → Stays v.cast t.cast)
      → refused_or proto n r rest ≡ Ok t → Stays w.cast t.cast
  rest_stays w t n (Ok v) rest first later is =
      let a = first v refl in
      let b = later v is in
      record { setup = b.setup ∙ a.setup; replicas = b.replicas ∙ a.replicas }
  rest_stays w t n (Err fault) rest first later is = absurd (cc)

  run_stays : (es : List Event) (n : ℕ) (w t : World P) → outcome proto n w es ≡ Ok t → Stays w.cast t.cast
  run_stays [] n w t is = stays_still w t (cc)
  run_stays (e ∷ es) n w t is =
      rest_stays w t n (stepped proto w e) (λ v. outcome proto (n + 1) v es) (λ v. step_stays w v (ready w e)) (λ v. run_stays es (n + 1) v t) is

  -- a world at the end of a run has the replicas of its cluster
  pub all_replicas : (c : Cluster) (s : Script) (end : World P) → run_in proto c s ≡ Ok end → length end.cast.replicas ≡ 3 * end.cast.setup.cluster.f + 1
  all_replicas c s end runs =
      let stays = run_stays s.events 1 (start proto (setup_in c s)) end runs in
      stays.replicas ∙ sites_length proto (setup_in c s) (3 * c.f + 1) ∙ ap (λ (x : Setup). 3 * x.cluster.f + 1) (sym stays.setup)

-- ---- clusters of one size

bounds_once : (f n : ℕ) (a b : IsInBounds f n) → a ≡ b
bounds_once f n a b = λ j. record { some_faulty = le_prop a.some_faulty b.some_faulty j; few_faulty = le_prop a.few_faulty b.few_faulty j; some_client = le_prop a.some_client b.some_client j; few_clients = le_prop a.few_clients b.few_clients j }

abbrev of_size : (f n : ℕ) → Plan → (k : ℕ) → IsInBounds f n → k ≤ 128 → Cluster
of_size f n plan k bounds dense = record { f = f; clients = n; plan = plan; every = k; in_bounds = bounds; is_dense = dense }

one_cluster : (c d : Cluster) → c.f ≡ d.f → c.clients ≡ d.clients → c.plan ≡ d.plan → c.every ≡ d.every → c ≡ d
one_cluster c d f n plan every =
    subst (λ (g : ℕ). (b : IsInBounds g d.clients) (t : d.every ≤ 128) → c ≡ of_size g d.clients d.plan d.every b t) f
    (subst (λ (m : ℕ). (b : IsInBounds c.f m) (t : d.every ≤ 128) → c ≡ of_size c.f m d.plan d.every b t) n
    (subst (λ (q : Plan). (b : IsInBounds c.f c.clients) (t : d.every ≤ 128) → c ≡ of_size c.f c.clients q d.every b t) plan
    (subst (λ (k : ℕ). (b : IsInBounds c.f c.clients) (t : k ≤ 128) → c ≡ of_size c.f c.clients c.plan k b t) every
    (λ b t j. of_size c.f c.clients c.plan c.every (bounds_once c.f c.clients c.in_bounds b j) (le_prop c.is_dense t j))))) d.in_bounds d.is_dense

-- the run of a schedule has one end
pub one_end : {P : Type 0} (proto : Proto P) (s : Script) (r q : Result (World P) (ℕ × WorldFault)) → RunsTo proto s r → RunsTo proto s q → r ≡ q
one_end proto s r q a b =
    sym a.runs
    ∙ ap (λ (c : Cluster). run_in proto c s) (one_cluster a.cluster b.cluster (a.sized.f ∙ sym b.sized.f) (a.sized.clients ∙ sym b.sized.clients) (a.sized.plan ∙ sym b.sized.plan) (a.sized.every ∙ sym b.sized.every))
    ∙ b.runs

-- ---- the run of a schedule

-- a world that is set up by the head of a schedule
pub begins_so : {P : Type 0} (proto : Proto P) (head : Head) (events : List Event) (found : List (Party × ℕ)) (x : Setup) (w : World P) → found ≡ head.faulty
    → x ≡ record { cluster = head.cluster; faulty = found; lms = head.lms; seed = head.seed } → w ≡ start proto x → w ≡ start proto (setup_in head.cluster (script_of head events))
begins_so proto head events found x w faulty sets starts =
    let begins : (ys : List (Party × ℕ)) → Setup = λ ys. record { cluster = head.cluster; faulty = ys; lms = head.lms; seed = head.seed } in
    starts ∙ ap (start proto) (sets ∙ ap begins faulty)

-- a run from there, through the events
pub runs_schedule : {P : Type 0} (proto : Proto P) (head : Head) (events es : List Event) (w : World P) (end : Result (World P) (ℕ × WorldFault)) → w ≡ start proto (setup_in head.cluster (script_of head events)) → es ≡ events
    → outcome proto 1 w es ≡ end → run_in proto head.cluster (script_of head events) ≡ end
runs_schedule proto head events es w end begins same is = ap (λ v. outcome proto 1 v events) (sym begins) ∙ ap (outcome proto 1 w) (sym same) ∙ is

pub sized_so : (head : Head) (events : List Event) → IsSized head.cluster (script_of head events).f (script_of head events).clients (script_of head events).plan (script_of head events).every
sized_so head events = record { f = refl; clients = refl; plan = refl; every = refl }

-- ---- refusals

-- what stops the events of a schedule stops the text
pub stops_text : (e : ReplayFault) (text : List ℕ) (s : Script) (c : Cluster) (line : ℕ) → IsSized c s.f s.clients s.plan s.every → ReadsText text (Ok s) → length s.events < 100001 → line ≡ lines_before text s
    → EventsCause e line (run_in (proto_of s.service) c s) → TextCause e text
stops_text (Refused r) text s c line sized reads few at (n, f, stopped, refuses) = inr (record {
  schedule = s;
  event = n;
  fault = f;
  reads = reads;
  few = few;
  runs = record { cluster = c; sized = sized; runs = stopped };
  refuses = rw at at refuses;
})
stops_text TooManyPackets text s c line sized reads few at (n, stopped) = record {
  schedule = s;
  event = n;
  reads = reads;
  few = few;
  runs = record { cluster = c; sized = sized; runs = stopped };
}
stops_text OutOfMemory text s c line sized reads few at cause = tt
stops_text TooManyEvents text s c line sized reads few at cause = absurd cause
stops_text Read text s c line sized reads few at cause = absurd cause
stops_text TooLong text s c line sized reads few at cause = absurd cause

-- ---- event by event

pub next_event : (events : List Event) (i : ℕ) (e : Event) → i < length events → e ≡ get_or events i e → drop i events ≡ e ∷ drop (i + 1) events
next_event events i e lt is = at_drop_more (λ t. t) events i e lt ∙ ap (λ x. x ∷ drop (i + 1) events) (sym is)

module _ {P : Type 0} (proto : Proto P) where
  -- what comes of the events from here on, by what comes of the next
  pub steps_to : (events : List Event) (i : ℕ) (e : Event) (w : World P) (o : Result (World P) (ℕ × WorldFault)) → drop i events ≡ e ∷ drop (i + 1) events → outcome proto (i + 1) w (drop i events) ≡ o
      → (r : Result (World P) WorldFault) → stepped proto w e ≡ r → refused_or proto (i + 1) r (λ v. outcome proto (i + 1 + 1) v (drop (i + 1) events)) ≡ o
  steps_to events i e w o next is r steps =
      ap (λ r. refused_or proto (i + 1) r (λ v. outcome proto (i + 1 + 1) v (drop (i + 1) events))) (sym steps) ∙ ap (outcome proto (i + 1) w) (sym next) ∙ is

  -- the first event that is refused is the cause
  pub refused_at : (w : World P) (e : Event) (line i at : ℕ) (fault : WorldFault) (f : ReplayFault) (o : Result (World P) (ℕ × WorldFault))
      → f ≡ fault_of_step at fault → at ≡ line + (i + 1) → w.ended ≡ None → w.cast.events < 100000 → WorldCause proto fault w e
      → (stepped proto w e ≡ Err fault → o ≡ Err (i + 1, fault)) → EventsCause f line o
  refused_at w e line i at BadCommand f o is place goes few cause next =
      subst (λ (x : ReplayFault). EventsCause x line o) (sym is) (i + 1, BadCommand, next cause, ap (λ k. fault_of_step k BadCommand) (sym place))
  refused_at w e line i at NoPacket f o is place goes few cause next =
      subst (λ (x : ReplayFault). EventsCause x line o) (sym is) (i + 1, NoPacket, next cause, ap (λ k. fault_of_step k NoPacket) (sym place))
  refused_at w e line i at BadParty f o is place goes few cause next =
      subst (λ (x : ReplayFault). EventsCause x line o) (sym is) (i + 1, BadParty, next cause, ap (λ k. fault_of_step k BadParty) (sym place))
  refused_at w e line i at Busy f o is place goes few cause next =
      subst (λ (x : ReplayFault). EventsCause x line o) (sym is) (i + 1, Busy, next cause, ap (λ k. fault_of_step k Busy) (sym place))
  refused_at w e line i at EventLimit f o is place goes few cause next = absurd (no_limit proto w e goes few cause)
  refused_at w e line i at PacketLimit f o is place goes few cause next = subst (λ (x : ReplayFault). EventsCause x line o) (sym is) (i + 1, next cause)
  refused_at w e line i at NoMemory f o is place goes few cause next = subst (λ (x : ReplayFault). EventsCause x line o) (sym is) tt

  -- one event more is counted
  pub counted : (w v : World P) (e : Event) (all rest : List Event) (old now whole : List ℕ) (n : ℕ) → stepped proto w e ≡ Ok v → all ≡ e ∷ rest → n ≡ length v.packets
      → now ≡ old ++ n ∷ [] → old ++ counts_of proto w all ≡ whole → now ++ counts_of proto v rest ≡ whole
  counted w v e all rest old now whole n step front is more was =
      ap (λ t. t ++ counts_of proto v rest) more
      ∙ append_assoc old (n ∷ []) (counts_of proto v rest)
      ∙ ap (λ k. old ++ k ∷ counts_of proto v rest) is
      ∙ ap (λ r. old ++ counts_behind r (λ u. length u.packets ∷ counts_of proto u rest)) (sym step)
      ∙ ap (λ t. old ++ counts_of proto w t) (sym front)
      ∙ was

-- ---- errors that are handed on

-- the cause of a fault is that of the same run
pub caused_as : {T P : Type 0} (r : Result T ReplayFault) (line : ℕ) {o q : Result (World P) (ℕ × WorldFault)} → q ≡ o → IfErr r (λ e. EventsCause e line o) → IfErr r (λ e. EventsCause e line q)
caused_as {T} {P} r line same is = subst (λ (x : Result (World P) (ℕ × WorldFault)). IfErr r (λ e. EventsCause e line x)) (sym same) is
