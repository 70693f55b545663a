-- What a storm draws happens.
use Rattle.std.proofs.Common.{◌≡◌, ℕ, zero, suc, ◌+◌, ◌-◌, ◌*◌, ◌≤◌, ◌<◌, ◌==◌, Bool, true, false, Option, None, Some, List, [], ◌∷◌, Result, Ok, Err, length, refl, sym, ap, ◌∙◌, subst, arith}
use Rattle.std.specs.Prelude.{◌&&◌, All, IsTrue, nat_lt, nat_le, if◌then◌else◌, slice_get}
use Rattle.std.specs.List.{range_with_len}
use Rattle.std.specs.Option.{option_map}
use Rattle.std.proofs.lemmas.Bool.{lt-ltb, le-leb}
use Rattle.std.proofs.lemmas.List.{ext_get_or}
use Rattle.std.proofs.lemmas.List.Elements.{All-get_or}
use Rattle.std.proofs.lemmas.List.FromFn.{get_or-range_with_len, length-range_with_len, get_or-map-range_with_len, length-map-range_with_len}
use Rattle.std.proofs.lemmas.Option.{slice_get-map, slice_get_within, get_or_from_slice_get}
use Rattle.arrayvec.specs.ArrayVec.{ArrayVec}
use Rattle.ab_num.specs.declared.cluster.Cluster.{Cluster}
use Rattle.ab_num.specs.declared.party.Party.{Party}
use Rattle.ab_num.specs.declared.party.Party.TheVariants.{Replica, Client}
use Rattle.ab_keys.specs.Keys.{is_party}
use Rattle.ab_text.specs.declared.event.Core.{Core as CoreName}
use Rattle.ab_text.specs.declared.event.Event.{Event}
use Rattle.ab_text.specs.declared.event.Event.TheVariants.{Invoke, Deliver, Timeout, Inject}
use Rattle.ab_storm.specs.Storms as storms
use Rattle.ab_storm.specs.Storms.{Storm, CanHappen, IsAsked, IsParty, next_of, turned, drawn, deliver, client_timeout, in_turn, put_or, fresh, first_idle, any_packet, chosen}
use Rattle.ab_storm.proofs.Happenings.{next_can}
use Rattle.ab_abs.specs.Ensembles.{Proto}
use Rattle.ab_client.specs.Clients.{Seat}
use Rattle.ab_msg.specs.Packets.{Packet}
use Rattle.ab_world.specs.Packets.{nth}
use Rattle.ab_party.specs.declared.fault.CommandFault.TheVariants as command_fault
use Rattle.ab_cast.specs.Setups.{Setup, own_place, numbered_place, place_of}
use Rattle.ab_cast.specs.Cores.{client}
use Rattle.ab_cast.specs.Casts.{is_free}
use Rattle.ab_world.specs.declared.fault.WorldFault.{WorldFault}
use Rattle.ab_world.specs.declared.fault.WorldFault.TheVariants.{EventLimit, PacketLimit, BadCommand}
use Rattle.ab_world.specs.Steps.{Happening, Given, ask, hand, ring, refuse_command, asked_at, asked, handed, rung, delivered, happening, ready_in, ready, after, within_limit, stepped_by, stepped}
use Rattle.ab_world.specs.Worlds.{World, start}
use Rattle.ab_world.proofs.SeatLemmas.{length-first_sites}
use Rattle.ab_world.proofs.SentLemmas.{IsWithin, start_sends, step_sends}
use Rattle.ab_storm.specs.Standing.{Goes}
use Rattle.ab_storm.specs.Runs.{idle_of, drawn_at, storm_of, storm_setup}
use Rattle.ab_storm.proofs.Stepping.{Keeps, given_keeps}
use Rattle.ab_cast.proofs.CastLemmas.{length-first_seats}

-- ---- idle clients

-- a list that tells of each number whether the client is free
pub idle_is : {P : Type 0} (w : World P) (xs : List Bool) → length xs ≡ 16 → ((c : ℕ) → c < 16 → slice_get xs c ≡ Some (is_free (slice_get w.cast.clients c))) → xs ≡ idle_of w
idle_is w xs sized tells =
    let free : ℕ → Bool = λ c. is_free (slice_get w.cast.clients c) in
    ext_get_or false xs (idle_of w) (sized ∙ sym (length-map-range_with_len free 0 16))
    (λ i within. let lt : i < 16 = omega (arith, within, sized) in get_or_from_slice_get xs i (free i) false (tells i lt) ∙ sym (get_or-map-range_with_len free 0 16 i i false lt (omega arith)))

free_at : (g : ℕ → Bool) (c : ℕ) (o : Option ℕ) → slice_get (range_with_len 0 16) c ≡ o → option_map g o ≡ Some true → g c ≡ true
free_at g c None at e = absurd (cc (e))
free_at g c (Some v) at e =
    let lt : c < length (range_with_len 0 16) = slice_get_within (range_with_len 0 16) c v at in
    let is : v ≡ c = sym (get_or_from_slice_get (range_with_len 0 16) c v 0 at) ∙ get_or-range_with_len 0 16 c 0 (omega (arith, lt, length-range_with_len 0 16)) ∙ omega arith in
    let so : g v ≡ true = cc (e) in
    subst (λ n. g n ≡ true) is so

idle_free : {P : Type 0} (w : World P) (c : ℕ) → slice_get (idle_of w) c ≡ Some true → is_free (slice_get w.cast.clients c) ≡ true
idle_free w c e =
    let free : ℕ → Bool = λ c. is_free (slice_get w.cast.clients c) in
    free_at free c (slice_get (range_with_len 0 16) c) refl (sym (slice_get-map free (range_with_len 0 16) c) ∙ e)

-- ---- what can happen

-- something is given to a party's own core
pub record Gives (r : Result Happening WorldFault) : Type 0 where
  pub party : Party
  pub given : Given
  pub gives : r ≡ Ok (record { place = own_place party; given = given })

own_there : (x : Setup) (p : Party) → is_party x.cluster.f x.cluster.clients p ≡ true → place_of x p None ≡ Some (own_place p)
own_there x p is = ap (λ b. if b then numbered_place x p None else None) is

within_command : (n : ℕ) → 1 ≤ n → n ≤ 128 → (nat_le 1 n && nat_le n 128) ≡ true
within_command n some few = λ j. le-leb 1 n some j && le-leb n 128 few j

each_at : {A : Type 0} (Q : A → Type 0) (xs : List A) (n : ℕ) (x : A) → All Q xs → slice_get xs n ≡ Some x → Q x
each_at Q xs n x all e = subst Q (get_or_from_slice_get xs n x x e) (All-get_or Q xs n x (slice_get_within xs n x e) all)

module _ {P : Type 0} (w : World P) (all : length w.cast.clients ≡ w.cast.setup.cluster.clients)
    (sent : All (λ (p : Packet). IsTrue (is_party w.cast.setup.cluster.f w.cast.setup.cluster.clients p.to)) w.packets) where
  abbrev x : Setup
  x = w.cast.setup

  seat_asked : (c : ℕ) (bytes : ArrayVec ℕ) (o : Option Seat) → is_free o ≡ true
      → asked_at {P = P} (own_place (Client c)) bytes (option_map client o) ≡ Ok (record { place = own_place (Client c); given = ask bytes })
  seat_asked c bytes None e = absurd (cc (e))
  seat_asked c bytes (Some s) e = ap (λ b. refuse_command (if b then None else Some command_fault.Busy) (own_place (Client c)) bytes) e

  free_within : (c : ℕ) (o : Option Seat) → slice_get w.cast.clients c ≡ o → is_free o ≡ true → c < x.cluster.clients
  free_within c None at e = absurd (cc (e))
  free_within c (Some s) at e = subst (λ n. c < n) all (slice_get_within w.cast.clients c s at)

  invoked : (p : Party) (twin : Option ℕ) (bytes : ArrayVec ℕ) → twin ≡ None → IsAsked (idle_of w) p bytes.items
      → Gives (if nat_le 1 (length bytes.items) && nat_le (length bytes.items) 128 then asked w bytes (place_of x p twin) else Err BadCommand)
  invoked (Replica r) twin bytes e is = absurd is
  invoked (Client c) (Some t) bytes e is = absurd (cc (e))
  invoked (Client c) None bytes e (idle, some, few) =
      let free = idle_free w c idle in
      let lt : c < x.cluster.clients = free_within c (slice_get w.cast.clients c) refl free in
      record {
        party = Client c;
        given = ask bytes;
        gives =
            ap (λ b. if b then asked w bytes (place_of x (Client c) None) else Err BadCommand) (within_command (length bytes.items) some few)
            ∙ ap (asked w bytes) (own_there x (Client c) (lt-ltb c x.cluster.clients lt))
            ∙ seat_asked c bytes (slice_get w.cast.clients c) free;
      }

  past_end : (ps : List Packet) (i : ℕ) → slice_get ps i ≡ None → i < length ps → ⊥
  past_end [] i e lt = omega (arith, lt)
  past_end (p ∷ ps) zero e lt = cc (e)
  past_end (p ∷ ps) (suc i) e lt = past_end ps i e (omega (arith, lt))

  found_goes : (n : ℕ) (o : Option Packet) → slice_get w.packets n ≡ o → n < length w.packets → Gives (delivered x o None)
  found_goes n None at lt = absurd (past_end w.packets n at lt)
  found_goes n (Some p) at lt = record { party = p.to; given = hand p.bytes; gives = ap (handed p.bytes) (own_there x p.to (each_at (λ (q : Packet). IsTrue (is_party x.cluster.f x.cluster.clients q.to)) w.packets n p sent at)) }

  delivers : (n : ℕ) (core : Option CoreName) → core ≡ None → 1 ≤ n → n ≤ length w.packets → Gives (delivered x (nth w.packets n) core)
  delivers zero core e some few = absurd (omega (arith, some))
  delivers (suc n) (Some core) e some few = absurd (cc (e))
  delivers (suc n) None e some few = found_goes n (slice_get w.packets n) refl (omega (arith, few))

  is_there : (p : Party) → IsParty x.cluster p → is_party x.cluster.f x.cluster.clients p ≡ true
  is_there (Replica r) lt = lt-ltb r (3 * x.cluster.f + 1) lt
  is_there (Client c) lt = lt-ltb c x.cluster.clients lt

  rings : (p : Party) (twin : Option ℕ) → twin ≡ None → IsParty x.cluster p → Gives (rung (place_of x p twin))
  rings p (Some t) e is = absurd (cc (e))
  rings p None e is = record { party = p; given = ring; gives = ap rung (own_there x p (is_there p is)) }

  happens : (e : Event) → CanHappen x.cluster (length w.packets) (idle_of w) e → Gives (happening w e)
  happens (Invoke core bytes) can = invoked core.party core.twin bytes can.0 can.1
  happens (Deliver packet core) can = delivers packet core can.0 can.1 can.2
  happens (Timeout core) can = rings core.party core.twin can.0 can.1
  happens (Inject core bytes) can = absurd can

-- ---- a storm keeps its cluster

module _ (packets : ℕ) (idle : List Bool) where
  abbrev Same : Storm → Event × Storm → Type 0
  Same s d = d.1.cluster ≡ s.cluster

  same_if : (s : Storm) (b : Bool) (d e : Event × Storm) → Same s d → Same s e → Same s (if b then d else e)
  same_if s true d e one other = one
  same_if s false d e one other = other

  turned_same : (s : Storm) (b : Bool) → ◌≡◌ {A = Cluster} (if b then record s { turn = s.turn + 1 } else s).cluster s.cluster
  turned_same s true = refl
  turned_same s false = refl

  in_turn_same : (s : Storm) → Same s (in_turn packets s)
  in_turn_same s = same_if s (nat_lt s.turn packets) (deliver (s.turn + 1), turned packets s) (client_timeout s) (turned_same s (nat_lt s.turn packets)) refl

  put_same : (s : Storm) (o : Option ℕ) → Same s (put_or o packets s)
  put_same s None = in_turn_same s
  put_same s (Some c) = refl

  fresh_same : (s : Storm) → Same s (fresh packets idle s)
  fresh_same s = put_same s (first_idle 0 idle)

  any_same : (s : Storm) → Same s (any_packet packets s)
  any_same s = turned_same s (nat_lt s.turn packets)

  chosen_same : (n : ℕ) (s : Storm) → Same s (chosen n packets idle s)
  chosen_same n s =
      same_if s (nat_lt n 48) _ _
      (same_if s (nat_lt s.turn packets) _ _ (in_turn_same s) (fresh_same s))
      (same_if s (nat_lt n 52) _ _
      (same_if s (packets == 0) _ _ (fresh_same s) (any_same s))
      (same_if s (nat_lt n 56) _ _
      (same_if s (packets == 0) _ _ (fresh_same s) refl)
      (same_if s (nat_lt n 62) _ _ (fresh_same s) (same_if s (n == 62) _ _ refl refl))))

  next_same : (s : Storm) → Same s (next_of packets idle s)
  next_same s = chosen_same (drawn 64 (storms.stepped s)) (storms.stepped s)

-- ---- one event

-- what is given by an event that is drawn
draws : {P : Type 0} (s : Storm) (w : World P) → Goes s w → Gives (happening w (drawn_at s w).0)
draws s w goes = happens w goes.clients goes.parties (drawn_at s w).0 (subst (λ (c : Cluster). CanHappen c (length w.packets) (idle_of w) (drawn_at s w).0) goes.cluster (next_can s (length w.packets) (idle_of w)))

ready_now : {P : Type 0} (w : World P) (e : Event) → w.ended ≡ None → w.cast.events < 100000 → ready w e ≡ happening w e
ready_now w e goes few = ap (ready_in w e) goes ∙ ap (λ b. if b then happening w e else Err EventLimit) (lt-ltb w.cast.events 100000 few)

module _ {P : Type 0} where
  -- within the limit of bytes or not
  limit_ends : (w v : World P) (b : Bool) → ◌≡◌ {A = Result (World P) WorldFault} (if b then Ok w else Err PacketLimit) (Ok v) → w ≡ v
  limit_ends w v true e = cc (e)
  limit_ends w v false e = absurd (cc (e))

  limit_faults : (w : World P) (f : WorldFault) (b : Bool) → ◌≡◌ {A = Result (World P) WorldFault} (if b then Ok w else Err PacketLimit) (Err f) → f ≡ PacketLimit
  limit_faults w f true e = absurd (cc (e))
  limit_faults w f false e = cc (e)

module _ {P : Type 0} (proto : Proto P) (s : Storm) (w : World P) (here : Goes s w) (few : w.cast.events < 100000) where
  abbrev event : Event
  event = (drawn_at s w).0

  given_now : Gives (happening w event)
  given_now = draws s w here

  abbrev happened : Happening
  happened = record { place = own_place given_now.party; given = given_now.given }

  taken : stepped proto w event ≡ within_limit proto (after proto w happened)
  taken = ap (stepped_by proto w) (ready_now w event here.ended few ∙ given_now.gives)

  -- an event that is drawn is refused for the limit of bytes alone
  pub refused_for : (f : WorldFault) → stepped proto w event ≡ Err f → f ≡ PacketLimit
  refused_for f e = limit_faults (after proto w happened) f _ (sym taken ∙ e)

  -- what one event more leaves
  pub record GoesOver (v : World P) : Type 0 where
    pub goes : Goes (drawn_at s w).1 v
    pub setup : v.cast.setup ≡ w.cast.setup
    pub events : v.cast.events ≤ w.cast.events + 1

  -- the storm goes on over the world after it
  pub goes_on : (v : World P) → stepped proto w event ≡ Ok v → GoesOver v
  goes_on v e =
      let keeps = subst (λ (u : World P). Keeps proto w u) (limit_ends (after proto w happened) v _ (sym taken ∙ e)) (given_keeps proto w given_now.party given_now.given) in
      let sends = step_sends proto w.cast.setup w v event (record { setup = refl; parties = here.parties }) e in
      record {
        goes = record {
          cluster = next_same (length w.packets) (idle_of w) s ∙ here.cluster ∙ sym (ap (λ (y : Setup). y.cluster) keeps.setup);
          replicas = keeps.replicas ∙ here.replicas ∙ sym (ap (λ (y : Setup). 3 * y.cluster.f + 1) keeps.setup);
          clients = keeps.clients ∙ here.clients ∙ sym (ap (λ (y : Setup). y.cluster.clients) keeps.setup);
          ended = keeps.ended ∙ here.ended;
          parties = subst (λ (y : Setup). All (IsWithin y) v.packets) (sym keeps.setup) sends.parties;
        };
        setup = keeps.setup;
        events = keeps.events;
      }

-- a storm goes over its cluster before the first event
pub storm_goes : {P : Type 0} (proto : Proto P) (c : Cluster) (seed : ℕ) → Goes (storm_of c seed) (start proto (storm_setup c))
storm_goes proto c seed =
    record { cluster = refl; replicas = length-first_sites (storm_setup c) proto (3 * c.f + 1); clients = length-first_seats c c.clients; ended = refl; parties = (start_sends proto (storm_setup c)).parties }
