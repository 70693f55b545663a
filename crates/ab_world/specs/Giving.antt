-- An event in two halves: what it gives to which core, and what becomes of a world as the core takes that.
use Rattle.std.specs.Prelude.{◌≡◌, ℕ, ◌≤◌, Option, None, Some, length, Result, Ok, Err}
use Rattle.ab_run.specs.Forms.{IsDraftOf}
use Rattle.ab_abs.specs.Ensembles.{Proto}
use Rattle.ab_msg.specs.Packets.{Packet}
use Rattle.ab_party.specs.declared.fault.CommandFault.{CommandFault}
use Rattle.ab_party.specs.declared.fault.CommandFault.TheVariants as command_fault
use Rattle.ab_cast.specs.declared.place.Place.{Place}
use Rattle.ab_cast.specs.Setups.{party_at, place_of}
use Rattle.ab_cast.specs.Casts.{core_at}
use Rattle.ab_text.specs.declared.event.Event.{Event}
use Rattle.ab_world.specs.declared.fault.WorldFault.{WorldFault}
use Rattle.ab_world.specs.declared.fault.WorldFault.TheVariants.{BadParty, Busy, NoPacket}
use Rattle.ab_world.specs.declared.given.Given.{Given as LentGiven}
use Rattle.ab_world.specs.declared.given.Given.TheVariants as lent
use Rattle.ab_world.specs.declared.handing.Handed.{Handed}
use Rattle.ab_world.specs.Packets.{nth}
use Rattle.ab_world.specs.Worlds.{World}
use Rattle.ab_world.specs.Steps.{Happening, hand, ring, after, asked_at, happening, standing, MayWant}
use Rattle.ab_world.specs.Handing.{EachOut, finished}

-- ---- what an event means

-- the place is one of the cluster
abbrev pub IsPlace : {P : Type 0} → World P → Place → Type 0
IsPlace w at = (twin : Option ℕ) × (place_of w.cast.setup (party_at at) twin ≡ Some at)

-- a command is in form, and a packet was sent
abbrev pub IsGiven : {P : Type 0} → World P → LentGiven → Type 0
IsGiven w (lent.Command bytes) = (1 ≤ length bytes.now) × (length bytes.now ≤ 128)
IsGiven w (lent.Packet number) = (packet : Packet) × (nth w.packets number ≡ Some packet)
IsGiven w (lent.Bytes bytes) = Unit {0}
IsGiven w lent.Timeout = Unit {0}

abbrev pub sent_to : Place → Option Packet → Result Happening WorldFault
sent_to at None = Err NoPacket
sent_to at (Some packet) = Ok (record { place = at; given = hand packet.bytes })

-- what happens where this is given to the core at a place. A core can refuse a command
abbrev pub given_at : {P : Type 0} → World P → Place → LentGiven → Result Happening WorldFault
given_at w at (lent.Command bytes) = asked_at at (record { items = bytes.now }) (core_at w.cast at)
given_at w at (lent.Packet number) = sent_to at (nth w.packets number)
given_at w at (lent.Bytes bytes) = Ok (record { place = at; given = hand bytes.now })
given_at w at lent.Timeout = Ok (record { place = at; given = ring })

-- the event gives this to the core at this place
pub record Gives {P : Type 0} (w : World P) (e : Event) (at : Place) (given : LentGiven) : Type 0 where
  pub there : IsPlace w at
  pub form : IsGiven w given
  pub happens : happening w e ≡ given_at w at given

-- ---- what becomes of a world as a core takes what is given

-- what stays while a core takes something
pub record Rests {P : Type 0} (old new : World P) : Type 0 where
  pub setup : new.cast.setup ≡ old.cast.setup
  pub packets : new.packets ≡ old.packets
  pub seen : new.seen ≡ old.seen
  pub lines : new.lines ≡ old.lines
  pub forged : new.forged ≡ old.forged
  pub collided : new.watch.collided ≡ old.watch.collided

-- the core at a place took what was given, and this came of it, which is still to be added
pub record HasTaken {P : Type 0} (proto : Proto P) (old new : World P) (at : Place) (what : Result Happening WorldFault) (handed : Handed) : Type 0 where
  pub event : Happening
  pub happens : what ≡ Ok event
  pub is : finished proto new (party_at at) (standing proto old.cast (party_at at)) handed ≡ after proto old event
  pub rests : Rests old new
  pub drafts : EachOut (IsDraftOf old.cast.setup.cluster.f (party_at at)) handed

-- the core refused it, or memory was refused
abbrev pub HasRefused : {P : Type 0} → CommandFault → World P → World P → Result Happening WorldFault → Type 0
HasRefused command_fault.NoClient old new what = (what ≡ Err BadParty) × (new ≡ old)
HasRefused command_fault.Busy old new what = (what ≡ Err Busy) × (new ≡ old)
HasRefused command_fault.OutOfMemory old new what = MayWant what × Rests old new
