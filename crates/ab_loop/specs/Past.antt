-- The events of a party as the bodies of a journal.
use Rattle.std.specs.Prelude.{◌≡◌, ℕ, ◌+◌, ◌≤◌, List, [], ◌∷◌, ◌++◌, map, length, Option, None, Some, Vec, unwrap_or, nat_le, ◌==◌, ◌&&◌, if◌then◌else◌, ⊤}
use Rattle.std.specs.declared.alloc.Global.{Global}
use Rattle.ab_num.specs.Limits.{longest_message}
use Rattle.ab_loop.specs.Cores.{NodeEvent, invoke, message, timeout}

-- an event as a body: a code and its bytes
abbrev pub body_of : NodeEvent → List ℕ
body_of (invoke command) = 1 ∷ command
body_of (message bytes) = 2 ∷ bytes
body_of timeout = 3 ∷ []

abbrev pub longest_command : ℕ
longest_command = 128

-- a command of 1 to 128 bytes, a message of at most 4 MiB, or a timeout
abbrev pub IsEvent : NodeEvent → Type 0
IsEvent (invoke command) = (1 ≤ length command) × (length command ≤ longest_command)
IsEvent (message bytes) = (1 ≤ length bytes) × (length bytes ≤ longest_message)
IsEvent timeout = ⊤

-- this event, where its bytes are of such a length
abbrev pub sized : ℕ → List ℕ → NodeEvent → Option NodeEvent
sized most bytes e = if nat_le 1 (length bytes) && nat_le (length bytes) most then Some e else None

-- the event that a body spells
unfoldable pub event_in : List ℕ → Option NodeEvent
event_in [] = None
event_in (code ∷ bytes) =
    if code == 1 then sized longest_command bytes (invoke bytes)
    else if code == 2 then sized longest_message bytes (message bytes)
    else if (code == 3) && (length bytes == 0) then Some timeout
    else None

-- these bodies spell these events
abbrev pub Spell : List (List ℕ) → List NodeEvent → Type 0
Spell bodies events = map event_in bodies ≡ map Some events

-- the body at place n, from 1, is the first that spells no event
pub record IsFirstForeign (bodies : List (List ℕ)) (n : ℕ) : Type 0 where
  pub before : List (List ℕ)
  pub events : List NodeEvent
  pub foreign : List ℕ
  pub behind : List (List ℕ)
  pub split : bodies ≡ before ++ foreign ∷ behind
  pub spell : Spell before events
  pub none : event_in foreign ≡ None
  pub place : n ≡ length before + 1

-- ---- where they stand in memory

abbrev pub texts_of : List (Vec ℕ Global) → List (List ℕ)
texts_of bodies = map (λ body. body.items) bodies

-- the event of a body that spells one
abbrev pub event_spelled : List ℕ → NodeEvent
event_spelled body = unwrap_or (event_in body) timeout

abbrev pub IsSpelled : Vec ℕ Global → Type 0
IsSpelled body = event_in body.items ≡ Some (event_spelled body.items)
