-- The whole picture.
use Rattle.std.specs.Prelude.{◌≡◌, ℕ, List, map}
use Rattle.ab_num.specs.declared.party.Party.{Party}
use Rattle.ab_num.specs.declared.cluster.Cluster.{Cluster}
use Rattle.ab_text.specs.declared.event.Event.{Event}
use Rattle.ab_text.specs.declared.line.Line.{Line}
use Rattle.ab_text.specs.declared.line.Premise.{Premise}
use Rattle.ab_picture.specs.declared.picture.SentPacket.{SentPacket}
use Rattle.ab_picture.specs.declared.picture.Picture.{Picture}
use Rattle.ab_picture.specs.declared.picture.Tale.{Tale as Told}
use Rattle.ab_picture.specs.Lanes.{lanes_of}
use Rattle.ab_picture.specs.Pictures.{arrows_of, mark_of, moments_of, stubs_of}

-- what is told of a run: its events, how many packets there were after each, the packets, the lines and the premise line
pub record Tale : Type 0 where
  pub events : List Event
  pub counts : List ℕ
  pub parcels : List SentPacket
  pub lines : List Line
  pub premise : Premise

abbrev pub tale_of : Told → Tale
tale_of told = record { events = told.events.now; counts = told.counts.now; parcels = told.parcels.now; lines = told.lines.now; premise = told.premise }

-- the picture of a run of a cluster with these faulty parties: the lanes of its cores, its events, an arrow for each delivery, a
-- stub for each packet that is not delivered, a mark for each line of the report, in order, and the premise line
pub record IsPicture (c : Cluster) (faulty : List (Party × ℕ)) (t : Tale) (p : Picture) : Type 0 where
  pub cluster : p.cluster ≡ c
  pub lanes : p.lanes.items ≡ lanes_of c faulty
  pub moments : p.moments.items ≡ moments_of t.events t.counts t.parcels
  pub arrows : p.arrows.items ≡ arrows_of t.events t.counts t.parcels
  pub stubs : p.stubs.items ≡ stubs_of t.events t.counts t.parcels
  pub marks : p.marks.items ≡ map mark_of t.lines
  pub premise : p.premise ≡ t.premise
