-- Where things stand in a picture.
use Rattle.std.specs.Prelude.{ℕ, zero, suc, min, ◌+◌, ◌*◌, ◌&&◌, ◌==◌, Bool, List, Option, None, Some, length, position, slice_get, unwrap_or}
use Rattle.ab_num.specs.declared.party.Party.{Party}
use Rattle.ab_num.specs.Parties.{party_eq}
use Rattle.ab_text.specs.declared.event.Core.{Core}
use Rattle.ab_picture.specs.declared.picture.Lane.{Lane}
use Rattle.ab_picture.specs.declared.picture.Moment.{Moment}
use Rattle.ab_picture.specs.declared.picture.Picture.{Picture}

-- the height of an event: each has a row of its own
abbrev pub y_of : ℕ → ℕ
y_of event = 226 + 24 * event

-- the lifeline in this place, the first of which is 0
abbrev pub x_at : ℕ → ℕ
x_at place = 150 + 112 * min place 999

-- a core's number, from 1
abbrev pub number_of : Core → ℕ
number_of core = unwrap_or core.twin 1

abbrev pub is_lane_of : Core → Lane → Bool
is_lane_of core lane = party_eq lane.core.party core.party && (number_of lane.core == number_of core)

-- the lifeline of a core
abbrev pub x_of : List Lane → Core → ℕ
x_of lanes core = x_at (unwrap_or (position (is_lane_of core) lanes) 0)

-- the lifeline of a party's first core
abbrev pub x_of_party : List Lane → Party → ℕ
x_of_party lanes p = x_of lanes (record { party = p; twin = None })

-- the lifeline of a core, if there is one, and otherwise the first
abbrev pub x_of_core : List Lane → Option Core → ℕ
x_of_core lanes None = 150
x_of_core lanes (Some core) = x_of lanes core

abbrev pub x_of_moment : List Lane → Option Moment → ℕ
x_of_moment lanes None = 150
x_of_moment lanes (Some m) = x_of_core lanes m.core

-- the lifeline of an event's core
abbrev pub x_of_event : List Lane → List Moment → ℕ → ℕ
x_of_event lanes moments zero = 150
x_of_event lanes moments (suc n) = x_of_moment lanes (slice_get moments n)

-- the number of an event in the margin
abbrev pub x_of_margin : List Lane → ℕ
x_of_margin lanes = x_at (length lanes) + 20

-- how far down the lifelines reach: below all events
abbrev pub bottom_of : Picture → ℕ
bottom_of p = y_of (length p.moments.items) + 20
