-- Whatever events come, each packet goes to a party of the cluster.
use Rattle.std.proofs.Common.{◌≡◌, ℕ, ◌+◌, Bool, true, false, All, IsTrue, Option, None, Some, List, [], ◌∷◌, Result, Ok, Err, refl, sym, ◌∙◌, subst}
use Rattle.std.specs.Prelude.{if◌then◌else◌, nat_le}
use Rattle.std.proofs.lemmas.List.Elements.{All-nil, All-append, All-cons}
use Rattle.ab_num.specs.declared.party.Party.{Party}
use Rattle.ab_text.specs.declared.event.Event.{Event}
use Rattle.ab_keys.specs.Keys.{is_party}
use Rattle.ab_msg.specs.declared.message.Out.{Out}
use Rattle.ab_open.specs.declared.fault.OpenFault.{OpenFault}
use Rattle.ab_abs.specs.Ensembles.{Proto}
use Rattle.ab_run.specs.Local.{Cue}
use Rattle.ab_msg.specs.Packets.{Packet}
use Rattle.ab_party.specs.Credentials.{sealed_by, sealed_for}
use Rattle.ab_world.specs.Packets.{total, most_bytes}
use Rattle.ab_cast.specs.declared.place.Place.{Place}
use Rattle.ab_cast.specs.Setups.{Setup, party_at, ring_at}
use Rattle.ab_cast.specs.Cores.{Core, core_after, core_sends}
use Rattle.ab_cast.specs.Casts.{core_at}
use Rattle.ab_world.specs.declared.fault.WorldFault.{WorldFault}
use Rattle.ab_world.specs.declared.fault.WorldFault.TheVariants.{PacketLimit}
use Rattle.ab_world.specs.Steps.{Happening, posted, cue_from, moved, moved_at, after_taking, after, ready, stepped, stepped_by}
use Rattle.ab_world.specs.Runs.{outcome, refused_or}
use Rattle.ab_world.specs.Worlds.{World, start}
use Rattle.ab_world.proofs.StepLemmas.{core_setup}

abbrev pub IsWithin : Setup → Packet → Type 0
IsWithin x q = IsTrue (is_party x.cluster.f x.cluster.clients q.to)

posted_within : (x : Setup) (p : Party) (outs : List Out) → All (IsWithin x) (posted x p outs)
posted_within x p [] = All-nil (IsWithin x)
posted_within x p (o ∷ outs) =
    All-append (IsWithin x) (sealed_for (ring_at x p) o) (posted x p outs) (one (is_party x.cluster.f x.cluster.clients o.to) refl) (posted_within x p outs)
  where
    one : (b : Bool) → is_party x.cluster.f x.cluster.clients o.to ≡ b → All (IsWithin x) (if b then sealed_by (ring_at x p) o ∷ [] else [])
    one true is = All-cons (IsWithin x) (sealed_by (ring_at x p) o) [] is (All-nil (IsWithin x))
    one false is = All-nil (IsWithin x)

module _ {P : Type 0} (proto : Proto P) (x : Setup) where
  -- a world of this setup whose packets go to parties of the cluster
  pub record Sends (w : World P) : Type 0 where
    pub setup : w.cast.setup ≡ x
    pub parties : All (IsWithin x) w.packets

  -- ---- one event

  moved_sends : (w : World P) (at : Place) (cue : Cue) (s : Core P) → Sends w → Sends (moved proto w at (party_at at) cue s)
  moved_sends w at cue s sends =
      let p = party_at at in
      let outs = core_sends w.cast.setup proto p s cue in
      let now = core_setup w.cast at (core_after w.cast.setup proto p s cue) ∙ sends.setup in
      record {
        setup = now;
        parties = All-append (IsWithin x) w.packets _ sends.parties (subst (λ (y : Setup). All (IsWithin x) (posted y p outs)) (sym now) (posted_within x p outs));
      }

  at_sends : (w : World P) (at : Place) (cue : Cue) (o : Option (Core P)) → Sends w → Sends (moved_at proto w at cue o)
  at_sends w at cue None sends = sends
  at_sends w at cue (Some s) sends = moved_sends w at cue s sends

  taking_sends : (w : World P) (at : Place) (r : Result Cue OpenFault) → Sends w → Sends (after_taking proto w at r)
  taking_sends w at (Ok cue) sends = at_sends w at cue (core_at w.cast at) sends
  taking_sends w at (Err fault) sends = record { setup = sends.setup; parties = sends.parties }

  after_sends : (w : World P) (h : Happening) → Sends w → Sends (after proto w h)
  after_sends w h sends = taking_sends w h.place (cue_from w.cast.setup (party_at h.place) h.given) sends

  kept_world : (w v : World P) (b : Bool) → ◌≡◌ {A = Result (World P) WorldFault} (if b then Ok w else Err PacketLimit) (Ok v) → w ≡ v
  kept_world w v true is = cc (is)
  kept_world w v false is = absurd (cc (is))

  happened_sends : (w v : World P) (r : Result Happening WorldFault) → Sends w → stepped_by proto w r ≡ Ok v → Sends v
  happened_sends w v (Ok h) sends is =
      subst (λ (z : World P). Sends z) (kept_world (after proto w h) v (nat_le (total (after proto w h).packets) most_bytes) is) (after_sends w h sends)
  happened_sends w v (Err fault) sends is = absurd (cc (is))

  pub step_sends : (w v : World P) (e : Event) → Sends w → stepped proto w e ≡ Ok v → Sends v
  step_sends w v e sends is = happened_sends w v (ready w e) sends is

  -- ---- all events

  on_sends : (n : ℕ) (end : World P) (es : List Event) (r : Result (World P) WorldFault)
      → ((v : World P) → r ≡ Ok v → outcome proto (n + 1) v es ≡ Ok end → Sends end) → refused_or proto n r (λ v. outcome proto (n + 1) v es) ≡ Ok end → Sends end
  on_sends n end es (Ok v) rest is = rest v refl is
  on_sends n end es (Err fault) rest is = absurd (cc (is))

  events_send : (es : List Event) (n : ℕ) (w end : World P) → Sends w → outcome proto n w es ≡ Ok end → Sends end
  events_send [] n w end sends is = let same : w ≡ end = cc (is) in subst (λ (z : World P). Sends z) same sends
  events_send (e ∷ es) n w end sends is =
      on_sends n end es (stepped proto w e) (λ v. λ steps so. events_send es (n + 1) v end (step_sends w v e sends steps) so) is

  pub start_sends : Sends (start proto x)
  start_sends = record { setup = refl; parties = All-nil (IsWithin x) }

  pub all_within : (es : List Event) (end : World P) → outcome proto 1 (start proto x) es ≡ Ok end → All (IsWithin x) end.packets
  all_within es end is = (events_send es 1 (start proto x) end start_sends is).parties
