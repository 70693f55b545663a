-- Pictures of the runs that schedules spell.
use Rattle.std.specs.Prelude.{◌≡◌, ℕ, List, Ok, map, slice_get, take, unwrap_or}
use Rattle.ab_num.specs.declared.cluster.Cluster.{Cluster}
use Rattle.ab_text.specs.declared.event.Event.{Event}
use Rattle.ab_text.specs.Heads.{Script}
use Rattle.ab_text.specs.Schedules.{ReadsText}
use Rattle.ab_abs.specs.Ensembles.{Proto}
use Rattle.ab_msg.specs.Packets.{Packet}
use Rattle.ab_party.specs.Clusters.{IsSized}
use Rattle.ab_world.specs.Runs.{outcome}
use Rattle.ab_world.specs.Worlds.{World, premise_of, start}
use Rattle.ab_replay.specs.Replays.{counts_of, proto_of, run_in, setup_in}
use Rattle.ab_picture.specs.declared.picture.SentPacket.{SentPacket}
use Rattle.ab_picture.specs.declared.picture.Picture.{Picture}
use Rattle.ab_picture.specs.Composed.{IsPicture, Tale}
use Rattle.ab_picture.specs.Drawn.{Shows}

-- how many events are drawn
abbrev pub most_drawn : ℕ
most_drawn = 2000

-- ---- what a run tells

-- to whom a packet goes, and its first byte
abbrev pub parcel_of : Packet → SentPacket
parcel_of p = record { to = p.to; code = unwrap_or (slice_get p.bytes 0) 0 }

-- what is told of a world to which these events led, where this tells how many packets there were after each
abbrev pub told_at : {P : Type 0} → World P → List Event → List ℕ → Tale
told_at end es counts = record {
  events = es;
  counts = counts;
  parcels = map parcel_of end.packets;
  lines = end.lines;
  premise = premise_of end;
}

-- what is told of the events that lead from one world to another
abbrev pub told_between : {P : Type 0} → Proto P → World P → List Event → World P → Tale
told_between proto w es end = told_at end es (counts_of proto w es)

-- ---- its picture

-- the first events of a schedule lead to a world, and this is the picture of them
pub record IsFrontOf {P : Type 0} (proto : Proto P) (c : Cluster) (s : Script) (p : Picture) : Type 0 where
  pub end : World P
  pub leads : outcome proto 1 (start proto (setup_in c s)) (take most_drawn s.events) ≡ Ok end
  pub is : IsPicture c s.faulty (told_between proto (start proto (setup_in c s)) (take most_drawn s.events) end) p

-- all events of a schedule run
abbrev pub AllRun : {P : Type 0} → Proto P → Cluster → Script → Type 0
AllRun {P} proto c s = (end : World P) × (run_in proto c s ≡ Ok end)

-- all events of a schedule run, and this is the picture of the first of them
pub record IsPictureOf {P : Type 0} (proto : Proto P) (s : Script) (p : Picture) : Type 0 where
  pub cluster : Cluster
  pub sized : IsSized cluster s.f s.clients s.plan s.every
  pub runs : AllRun proto cluster s
  pub front : IsFrontOf proto cluster s p

-- all events of a schedule run, and this is the SVG of a picture of its run
pub record DrawsRun {P : Type 0} (proto : Proto P) (s : Script) (svg : List ℕ) : Type 0 where
  pub picture : Picture
  pub pictures : IsPictureOf proto s picture
  pub shows : Shows picture svg

-- the text is a schedule that runs, and this is the SVG of a picture of its run
pub record Draws (text svg : List ℕ) : Type 0 where
  pub schedule : Script
  pub reads : ReadsText text (Ok schedule)
  pub draws : DrawsRun (proto_of schedule.service) schedule svg
