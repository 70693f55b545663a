-- How the items of a picture are drawn.
use Rattle.std.specs.Prelude.{◌≡◌, ℕ, min, ◌+◌, ◌-◌, ◌*◌, ◌%◌, ◌==◌, if◌then◌else◌, Bool, true, false, List, [], ◌++◌, Option, None, Some, codes, decimal, length}
use Rattle.ab_num.specs.declared.party.Party.{Party}
use Rattle.ab_num.specs.declared.party.Party.TheVariants.{Replica, Client}
use Rattle.ab_num.specs.Parties.{party_eq}
use Rattle.ab_text.specs.declared.event.Core.{Core}
use Rattle.ab_text.specs.declared.line.Premise.{Premise}
use Rattle.ab_text.specs.declared.line.Premise.TheVariants.{Held, Broken}
use Rattle.ab_text.specs.Cores.{core_text, party_text}
use Rattle.ab_text.specs.Reports.{◌then◌}
use Rattle.ab_picture.specs.declared.picture.Arrow.{Arrow}
use Rattle.ab_picture.specs.declared.picture.Trigger.{Trigger}
use Rattle.ab_picture.specs.declared.picture.Trigger.TheVariants as trigger
use Rattle.ab_picture.specs.declared.picture.Lane.{Lane}
use Rattle.ab_picture.specs.declared.picture.Mark.{Mark}
use Rattle.ab_picture.specs.declared.picture.Moment.{Moment}
use Rattle.ab_picture.specs.declared.picture.Picture.{Picture}
use Rattle.ab_picture.specs.declared.picture.Sign.{Sign}
use Rattle.ab_picture.specs.declared.picture.Sign.TheVariants as sign
use Rattle.ab_picture.specs.declared.picture.Stub.{Stub}
use Rattle.ab_picture.specs.Layout.{bottom_of, x_at, x_of, x_of_event, x_of_margin, x_of_party, y_of}
use Rattle.ab_picture.specs.Names.{message_name}

-- ---- rows

-- red where the event broke a premise
abbrev pub event_class : Premise → ℕ → List ℕ
event_class Held event = codes "plain"
event_class (Broken named breach party) event = if named == event then codes "red" else codes "plain"

abbrev pub rule_text : ℕ → ℕ → List ℕ
rule_text y end = codes "<path class=\"row\" d=\"M48 " then decimal y then codes "H" then decimal end then codes "\"/>"

abbrev pub number_text : List ℕ → ℕ → ℕ → List ℕ
number_text class event base = codes "<text class=\"number " then class then codes "\" x=\"44\" y=\"" then decimal base then codes "\">" then decimal event then codes "</text>"

abbrev pub again_text : List ℕ → ℕ → ℕ → ℕ → List ℕ
again_text class event margin base =
    codes "<text class=\"again " then class then codes "\" x=\"" then decimal margin then codes "\" y=\"" then decimal base then codes "\">" then decimal event then codes "</text>\n"

-- a line, and the event's number in this class on both sides of the lifelines
abbrev pub row_text : List ℕ → ℕ → ℕ → ℕ → ℕ → List ℕ
row_text class event y end margin = (rule_text y end ++ number_text class event (y + 4)) ++ again_text class event margin (y + 4)

abbrev pub IsRow : Picture → ℕ → List ℕ → Type 0
IsRow p event text = text ≡ row_text (event_class p.premise event) event (y_of event) (x_of_margin p.lanes.items - 4) (x_of_margin p.lanes.items)

-- ---- lifelines

-- red where a broken premise names the party
abbrev pub head_class : Premise → Party → List ℕ
head_class Held p = codes "head"
head_class (Broken event breach named) p = if party_eq named p then codes "head red" else codes "head"

-- a correct replica begins in instance 1, and has its colour
abbrev pub lane_class : Party → Bool → List ℕ
lane_class (Client c) false = codes "lane"
lane_class (Client c) true = codes "lane faulty"
lane_class (Replica r) false = codes "lane replica i1"
lane_class (Replica r) true = codes "lane replica faulty"

abbrev pub head_text : List ℕ → List ℕ → ℕ → ℕ → List ℕ
head_text head name x above = codes "<text class=\"" then head then codes "\" x=\"" then decimal x then codes "\" y=\"" then decimal above then codes "\">" then name then codes "</text>\n"

abbrev pub line_text : List ℕ → ℕ → ℕ → ℕ → List ℕ
line_text class x top bottom = codes "<path class=\"" then class then codes "\" d=\"M" then decimal x then codes " " then decimal top then codes "V" then decimal bottom then codes "\"/>\n"

-- a core's name, and its lifeline below it
abbrev pub lifeline_text : List ℕ → List ℕ → List ℕ → ℕ → ℕ → ℕ → ℕ → List ℕ
lifeline_text head class name x above top bottom = head_text head name x above ++ line_text class x top bottom

-- there are eight colours
abbrev pub colour_of : ℕ → ℕ
colour_of instance = instance % 8

-- half the width of a badge, which is as wide as its number wants
abbrev pub half_of : ℕ → ℕ
half_of instance = 5 + 4 * min (length (decimal instance)) 20

abbrev pub box_text : ℕ → ℕ → ℕ → ℕ → List ℕ
box_text colour left top width =
    codes "<rect class=\"i" then decimal colour then codes "\" x=\"" then decimal left then codes "\" y=\"" then decimal top
    then codes "\" width=\"" then decimal width then codes "\" height=\"18\" rx=\"8\"/>"

abbrev pub boxed_text : ℕ → ℕ → ℕ → List ℕ
boxed_text instance x base = codes "<text class=\"badge\" x=\"" then decimal x then codes "\" y=\"" then decimal base then codes "\">" then decimal instance then codes "</text>\n"

-- the number of an instance, on its colour
abbrev pub badge_text : ℕ → ℕ → ℕ → ℕ → List ℕ
badge_text instance half x y = box_text (colour_of instance) (x - half) (y - 9) (2 * half) ++ boxed_text instance x (y + 4)

-- at the head of a correct replica's lifeline
abbrev pub first_badge : Party → Bool → ℕ → List ℕ
first_badge (Client c) faulty x = []
first_badge (Replica r) false x = badge_text 1 (half_of 1) x (y_of 0 - 6)
first_badge (Replica r) true x = []

abbrev pub lane_text : Premise → Lane → ℕ → ℕ → List ℕ
lane_text premise l x bottom =
    lifeline_text (head_class premise l.core.party) (lane_class l.core.party l.faulty) (core_text l.core) x (y_of 0 - 24) (y_of 0 - 12) bottom
    ++ first_badge l.core.party l.faulty x

-- the lane in this place
abbrev pub IsLane : Picture → ℕ × Lane → List ℕ → Type 0
IsLane p l text = text ≡ lane_text p.premise l.1 (x_at l.0) (bottom_of p)

-- the rest of a lifeline, in the colour of an instance that is entered
abbrev pub colour_text : Sign → ℕ → ℕ → ℕ → List ℕ
colour_text (sign.Invoked i stamp) x y bottom = []
colour_text (sign.Committed i n reply) x y bottom = []
colour_text (sign.Certified i) x y bottom = []
colour_text (sign.Entered i) x y bottom =
    codes "<path class=\"lane replica i" then decimal (colour_of i) then codes "\" d=\"M" then decimal x then codes " " then decimal y then codes "V" then decimal bottom then codes "\"/>\n"
colour_text (sign.Refused cause) x y bottom = []
colour_text sign.Spent x y bottom = []

abbrev pub IsColour : Picture → Mark → List ℕ → Type 0
IsColour p m text = text ≡ colour_text m.sign (x_of_party p.lanes.items m.party) (y_of m.event) (bottom_of p)

-- ---- packets

abbrev pub stub_line : ℕ → ℕ → ℕ → ℕ → List ℕ
stub_line x y there end =
    codes "<path class=\"stub\" d=\"M" then decimal x then codes " " then decimal y then codes "L" then decimal there then codes " " then decimal end then codes "\">"

-- what a pointer that rests on a stub shows
abbrev pub stub_title : List ℕ → ℕ → List ℕ → List ℕ
stub_title name packet to = codes "<title>" then name then codes " " then decimal packet then codes " to " then to then codes ", not delivered</title></path>\n"

abbrev pub stub_text : List ℕ → ℕ → List ℕ → ℕ → ℕ → ℕ → ℕ → List ℕ
stub_text name packet to x y there end = stub_line x y there end ++ stub_title name packet to

-- a stub begins at the event that sent the packet. Where it ends is open
pub record IsStub (p : Picture) (s : Stub) (text : List ℕ) : Type 0 where
  pub there : ℕ
  pub end : ℕ
  pub is : text ≡ stub_text (message_name s.code) s.packet (party_text s.to) (x_of_event p.lanes.items p.moments.items s.from) (y_of s.from) there end

abbrev pub arrow_begin : ℕ → ℕ → ℕ → ℕ → List ℕ
arrow_begin x y bend end = codes "<path class=\"arrow\" d=\"M" then decimal x then codes " " then decimal y then codes "Q" then decimal bend then codes " " then decimal end

abbrev pub arrow_end : ℕ → ℕ → List ℕ
arrow_end there end = codes " " then decimal there then codes " " then decimal end then codes "\"/>\n"

-- from one place to another, bent towards a place at the height of the second
abbrev pub arrow_text : ℕ → ℕ → ℕ → ℕ → ℕ → List ℕ
arrow_text x y bend there end = arrow_begin x y bend end ++ arrow_end there end

-- an arrow goes from the event that sent the packet to the one that took it. How far it is bent is open
pub record IsArrow (p : Picture) (a : Arrow) (text : List ℕ) : Type 0 where
  pub bend : ℕ
  pub is : text ≡ arrow_text (x_of_event p.lanes.items p.moments.items a.from) (y_of a.from) bend (x_of_event p.lanes.items p.moments.items a.to) (y_of a.to)

-- to the left or to the right of its place
abbrev pub side_class : Bool → List ℕ
side_class true = codes "name left"
side_class false = codes "name"

abbrev pub name_text : Bool → ℕ → ℕ → List ℕ → ℕ → List ℕ
name_text left x y name packet =
    codes "<text class=\"" then side_class left then codes "\" x=\"" then decimal x then codes "\" y=\"" then decimal (y - 3) then codes "\">"
    then name then codes " " then decimal packet then codes "</text>\n"

-- the name and the number of an arrow's packet, in the row where it ends, on one side or the other
pub record IsName (p : Picture) (a : Arrow) (text : List ℕ) : Type 0 where
  pub left : Bool
  pub x : ℕ
  pub is : text ≡ name_text left x (y_of a.to) (message_name a.code) a.packet

-- ---- events

abbrev pub clock_face : List ℕ → ℕ → ℕ → List ℕ
clock_face class x y = codes "<circle class=\"hollow " then class then codes "\" cx=\"" then decimal x then codes "\" cy=\"" then decimal y then codes "\" r=\"6\"/>"

abbrev pub clock_hand : List ℕ → ℕ → ℕ → ℕ → List ℕ
clock_hand class x y top = codes "<path class=\"thin " then class then codes "\" d=\"M" then decimal x then codes " " then decimal top then codes "V" then decimal y then codes "h4\"/>\n"

abbrev pub clock_text : List ℕ → ℕ → ℕ → ℕ → List ℕ
clock_text class x y top = clock_face class x y ++ clock_hand class x y top

-- the sign of what an event is
abbrev pub trigger_text : Trigger → List ℕ → ℕ → ℕ → List ℕ
trigger_text trigger.Invoked class x y =
    codes "<rect class=\"" then class then codes "\" x=\"" then decimal (x - 5) then codes "\" y=\"" then decimal (y - 5) then codes "\" width=\"10\" height=\"10\"/>\n"
trigger_text trigger.Delivered class x y = codes "<circle class=\"" then class then codes "\" cx=\"" then decimal x then codes "\" cy=\"" then decimal y then codes "\" r=\"3.5\"/>\n"
trigger_text trigger.TimedOut class x y = clock_text class x y (y - 5)
trigger_text trigger.Injected class x y = codes "<path class=\"hollow " then class then codes "\" d=\"M" then decimal x then codes " " then decimal y then codes "m-7 0l7 -7 7 7 -7 7z\"/>\n"

-- what is written beside an event that is no delivery
abbrev pub trigger_name : Trigger → List ℕ
trigger_name trigger.Invoked = codes "invoke"
trigger_name trigger.Delivered = []
trigger_name trigger.TimedOut = codes "timeout"
trigger_name trigger.Injected = codes "inject"

-- the sign of a panic, if there is one
abbrev pub panic_text : Bool → ℕ → ℕ → List ℕ
panic_text false x y = []
panic_text true x y = codes "<text class=\"panic\" x=\"" then decimal (x - 16) then codes "\" y=\"" then decimal (y + 6) then codes "\">!</text>"

abbrev pub event_text : List ℕ → Trigger → Bool → ℕ → ℕ → List ℕ
event_text class trigger panics x y =
    panic_text panics x y then codes "<text class=\"name cue\" x=\"" then decimal (x + 24) then codes "\" y=\"" then decimal (y - 3) then codes "\">"
    then trigger_name trigger then codes "</text>" then trigger_text trigger class x y

-- an event that is at no core is in its row alone
abbrev pub event_at : List Lane → List ℕ → ℕ → Trigger → Bool → Option Core → List ℕ
event_at lanes class y trigger panics None = []
event_at lanes class y trigger panics (Some core) = event_text class trigger panics (x_of lanes core) y

-- the event of this number
abbrev pub IsMoment : Picture → ℕ × Moment → List ℕ → Type 0
IsMoment p m text = text ≡ event_at p.lanes.items (event_class p.premise m.0) (y_of m.0) m.1.trigger m.1.panics m.1.core

-- ---- marks

abbrev pub sign_text : Sign → ℕ → ℕ → List ℕ
sign_text (sign.Invoked i stamp) x y = codes "<path class=\"solid\" d=\"M" then decimal x then codes " " then decimal y then codes "m-18 -6l10 6 -10 6z\"/>\n"
sign_text (sign.Committed i n reply) x y = codes "<circle class=\"ring\" cx=\"" then decimal x then codes "\" cy=\"" then decimal y then codes "\" r=\"8\"/>\n"
sign_text (sign.Certified i) x y = codes "<path class=\"ring\" d=\"M" then decimal x then codes " " then decimal y then codes "m-12 -11h24v22h-24z\"/>\n"
sign_text (sign.Entered i) x y = badge_text i (half_of i) x y
sign_text (sign.Refused cause) x y = codes "<path class=\"ring\" d=\"M" then decimal x then codes " " then decimal y then codes "m-6 -6l12 12m0 -12l-12 12\"/>\n"
sign_text sign.Spent x y =
    codes "<path class=\"ring\" d=\"M" then decimal x then codes " " then decimal y then codes "m-8 0a8 8 0 1 0 16 0 8 8 0 1 0 -16 0m2 6l12 -12\"/>\n"

-- a mark's sign, on its party's lifeline in the row of its event
abbrev pub IsSign : Picture → Mark → List ℕ → Type 0
IsSign p m text = text ≡ sign_text m.sign (x_of_party p.lanes.items m.party) (y_of m.event)
