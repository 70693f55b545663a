-- What a picture shows of a run.
use Rattle.std.specs.Prelude.{ℕ, zero, suc, ◌+◌, ◌-◌, ◌==◌, nat_lt, Bool, false, if◌then◌else◌, List, Option, None, Some, map, take, drop, count_by, slice_get, unwrap_or}
use Rattle.std.specs.List.{list_any, filter_map, enumerate_from}
use Rattle.std.specs.Option.{option_map}
use Rattle.ab_num.specs.declared.party.Party.TheVariants.{Replica, Client}
use Rattle.ab_text.specs.declared.event.Core.{Core}
use Rattle.ab_text.specs.declared.event.Event.{Event}
use Rattle.ab_text.specs.declared.event.Event.TheVariants.{Invoke, Deliver, Timeout, Inject}
use Rattle.ab_text.specs.declared.line.Line.{Line}
use Rattle.ab_text.specs.declared.line.Line.TheVariants as line
use Rattle.ab_picture.specs.declared.picture.Arrow.{Arrow}
use Rattle.ab_picture.specs.declared.picture.Trigger.{Trigger}
use Rattle.ab_picture.specs.declared.picture.Trigger.TheVariants.{Invoked, Delivered, TimedOut, Injected}
use Rattle.ab_picture.specs.declared.picture.Mark.{Mark}
use Rattle.ab_picture.specs.declared.picture.Moment.{Moment}
use Rattle.ab_picture.specs.declared.picture.SentPacket.{SentPacket}
use Rattle.ab_picture.specs.declared.picture.Sign.TheVariants as sign
use Rattle.ab_picture.specs.declared.picture.Stub.{Stub}

-- ---- marks

-- the mark of a line: at its event and its party
abbrev pub mark_of : Line → Mark
mark_of (line.Refused e p cause) = record { event = e; party = p; sign = sign.Refused cause }
mark_of (line.Cert e p i start entries) = record { event = e; party = p; sign = sign.Certified i }
mark_of (line.Init e r i start entries) = record { event = e; party = Replica r; sign = sign.Entered i }
mark_of (line.Invoked e c i stamp) = record { event = e; party = Client c; sign = sign.Invoked i stamp }
mark_of (line.Commit e c i stamp n reply) = record { event = e; party = Client c; sign = sign.Committed i n reply }
mark_of (line.Spent e r) = record { event = e; party = Replica r; sign = sign.Spent }

-- ---- packets

-- the packet of this number, counted from 1
abbrev pub parcel_at : List SentPacket → ℕ → Option SentPacket
parcel_at parcels zero = None
parcel_at parcels (suc n) = slice_get parcels n

-- its code, or 0
abbrev pub code_at : List SentPacket → ℕ → ℕ
code_at parcels k = unwrap_or (option_map (λ p. p.code) (parcel_at parcels k)) 0

-- the event that sent packet k, where this tells how many packets there were after each event: the first after which there are k
abbrev pub sender_of : List ℕ → ℕ → ℕ
sender_of counts k = count_by (λ n. nat_lt n k) counts + 1

-- the event delivers packet k
abbrev pub is_delivery : ℕ → Event → Bool
is_delivery k (Deliver packet core) = packet == k
is_delivery k (Invoke core command) = false
is_delivery k (Timeout core) = false
is_delivery k (Inject core bytes) = false

-- the arrow of packet k to the event of this number
abbrev pub arrow_to : List ℕ → List SentPacket → ℕ → ℕ → Arrow
arrow_to counts parcels e k = record { packet = k; code = code_at parcels k; from = sender_of counts k; to = e }

-- the arrow of an event, if it delivers a packet
abbrev pub arrow_of : List ℕ → List SentPacket → ℕ → Event → Option Arrow
arrow_of counts parcels e (Deliver k core) = Some (arrow_to counts parcels e k)
arrow_of counts parcels e (Invoke core command) = None
arrow_of counts parcels e (Timeout core) = None
arrow_of counts parcels e (Inject core bytes) = None

-- an arrow for each delivery of a packet
abbrev pub arrows_of : List Event → List ℕ → List SentPacket → List Arrow
arrows_of events counts parcels = filter_map (λ x. arrow_of counts parcels x.0 x.1) (enumerate_from 1 events)

abbrev pub is_delivered : List Event → ℕ → Bool
is_delivered events k = list_any (is_delivery k) events

-- the stub of packet k
abbrev pub stub_at : List ℕ → ℕ → SentPacket → Stub
stub_at counts k p = record { packet = k; code = p.code; from = sender_of counts k; to = p.to }

-- it is there if no event delivers the packet
abbrev pub stub_of : List Event → List ℕ → ℕ → SentPacket → Option Stub
stub_of events counts k p = if is_delivered events k then None else Some (stub_at counts k p)

-- a stub for each packet that is not delivered
abbrev pub stubs_of : List Event → List ℕ → List SentPacket → List Stub
stubs_of events counts parcels = filter_map (λ x. stub_of events counts x.0 x.1) (enumerate_from 1 parcels)

-- ---- events

-- where an event is. A packet that is delivered to no named core goes to its addressee's first one
abbrev pub core_of : List SentPacket → Event → Option Core
core_of parcels (Invoke core command) = Some core
core_of parcels (Deliver k (Some core)) = Some core
core_of parcels (Deliver k None) = option_map (λ p. record { party = p.to; twin = None }) (parcel_at parcels k)
core_of parcels (Timeout core) = Some core
core_of parcels (Inject core bytes) = Some core

abbrev pub trigger_of : Event → Trigger
trigger_of (Invoke core command) = Invoked
trigger_of (Deliver k core) = Delivered
trigger_of (Timeout core) = TimedOut
trigger_of (Inject core bytes) = Injected

-- how many packets there are after n events
abbrev pub count_at : List ℕ → ℕ → ℕ
count_at counts zero = 0
count_at counts (suc n) = unwrap_or (slice_get counts n) 0

-- a PANIC, whose code is 5, is among the packets behind the first of these numbers, up to the second
abbrev pub has_panic : List SentPacket → ℕ → ℕ → Bool
has_panic parcels before now = list_any (λ p. p.code == 5) (take (now - before) (drop before parcels))

-- the event after n others
abbrev pub moment_of : List ℕ → List SentPacket → ℕ → Event → Moment
moment_of counts parcels n e = record {
  core = core_of parcels e;
  trigger = trigger_of e;
  panics = has_panic parcels (count_at counts n) (count_at counts (n + 1));
}

abbrev pub moments_of : List Event → List ℕ → List SentPacket → List Moment
moments_of events counts parcels = map (λ x. moment_of counts parcels x.0 x.1) (enumerate_from 0 events)
