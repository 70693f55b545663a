-- Collisions of digests in a run: the first event after which there is one, and how a program finds it.
use Rattle.std.specs.Prelude.{◌≡◌, ℕ, ◌+◌, ◌==◌, nat_lt, ◌||◌, Bool, if◌then◌else◌, Option, None, Some, List, [], ◌∷◌, ◌++◌, length, map, flat_map}
use Rattle.ab_num.specs.declared.party.Party.{Party}
use Rattle.ab_num.specs.declared.party.Party.TheVariants.{Replica, Client}
use Rattle.ab_hist.specs.declared.request.Request.{Request}
use Rattle.ab_msg.specs.declared.content.Content.{Content}
use Rattle.ab_msg.specs.declared.message.Msg.{Msg}
use Rattle.ab_msg.specs.declared.value.Value.{Value}
use Rattle.ab_msg.specs.declared.value.Value.TheVariants as value
use Rattle.ab_msg.specs.Carried.{stated_history, stated_request, values_in}
use Rattle.ab_msg.specs.Claims.{claims}
use Rattle.ab_abs.specs.Faults.{is_faulty}
use Rattle.ab_abs.specs.Messages.{Call, took, timed}
use Rattle.ab_abs.specs.Ensembles.{Proto}
use Rattle.ab_links.specs.Digested.{HasNoCollision, Digested, Item, history, list, request, keep_item, keep_items, any_found, nothing}
use Rattle.ab_run.specs.Setups.{RunSetup, replicas}
use Rattle.ab_run.specs.Replicas.{Rep, state_at}
use Rattle.ab_run.specs.Runs.{Event, invoke, to_replica, to_client, replica_time, client_time, Run, stated_list, run}
use Rattle.ab_run.specs.Local.{rep_after}
use Rattle.ab_run.specs.Inputs.{Input, told, came, rang, elsewhere, Opener, event_in, events_in}
use Rattle.ab_premise.specs.declared.breach.Collision.{Collision}

-- ---- by the run

-- who takes what comes
abbrev pub taker_of : Input → Option Party
taker_of (told c command) = Some (Client c)
taker_of (came p bytes) = Some p
taker_of (rang p) = Some p
taker_of elsewhere = None

module _ {P : Type 0} (k : RunSetup) (proto : Proto P) where
  -- of the histories, lists and requests that correct parties had or checked in the run no digests collide
  abbrev pub IsFree : List Event → Type 0
  IsFree events = HasNoCollision (run k proto events).had (run k proto events).lists (run k proto events).asked

  module _ (opens : Opener) where
    -- of what came, the newest first, number n is the earliest after which the run has a collision, and party p took it
    pub record IsCollidedAt (inputs : List Input) (n : ℕ) (p : Party) : Type 0 where
      pub later : List Input
      pub input : Input
      pub earlier : List Input
      pub place : inputs ≡ later ++ input ∷ earlier
      pub number : n ≡ length earlier + 1
      pub taker : taker_of input ≡ Some p
      pub before : IsFree (events_in opens earlier)
      pub after : IsFree (events_in opens (input ∷ earlier)) → ⊥

-- ---- what a program looks at

-- what is kept to find collisions, and the first
pub record Watch : Type 0 where
  pub kept : Digested
  pub collided : Option Collision

-- the empty history is there before the first event
abbrev pub first_watch : Watch
first_watch = record { kept = keep_item nothing (history [] 0); collided = None }

abbrev pub first_collision : Option Collision → ℕ → Party → Bool → Option Collision
first_collision (Some c) n p found = Some c
first_collision None n p found = if found then Some (record { event = n; party = p }) else None

-- these come in event n, which party p takes
abbrev pub looked : Watch → ℕ → Party → List Item → Watch
looked x n p items = record { kept = keep_items x.kept items; collided = first_collision x.collided n p (any_found x.kept items) }

-- the same, where in what came first something was found or not
abbrev pub looked_on : Watch → ℕ → Party → Bool → List Item → Watch
looked_on x n p found items = record { kept = keep_items x.kept items; collided = first_collision x.collided n p (found || any_found x.kept items) }

-- what is looked at of a content: the history, the list or the request that it states
abbrev pub content_items : Content → List Item
content_items c = map (λ h. history h 0) (stated_history c) ++ (map list (stated_list c) ++ map request (stated_request c))

abbrev pub value_items : Value → List Item
value_items (value.Base h) = history h 0 ∷ []
value_items (value.Request m) = request m ∷ []

-- and of a message that party p checks, where f replicas may be faulty: one claim after the other, and then its values
abbrev pub message_items : ℕ → Party → Msg → List Item
message_items f p m = flat_map content_items (claims f p m) ++ flat_map (flat_map value_items) (values_in m)

abbrev pub checked_items : ℕ → Party → Call → List Item
checked_items f p (took m) = message_items f p m
checked_items f p timed = []

abbrev pub first_items : Option (List Request) → List Item
first_items None = []
first_items (Some h) = history h 0 ∷ []

module _ {P : Type 0} (k : RunSetup) (proto : Proto P) where
  -- of a log in the same instance only the entries behind those of before are new
  abbrev pub known_of : Rep P → Rep P → ℕ
  known_of s now = if s.at == now.at then length (state_at k proto s).log else 0

  -- the history with which a replica entered, where it is new
  abbrev pub entered_items : Rep P → Rep P → List Item
  entered_items s now = if s.at == now.at then [] else history now.entry.base 0 ∷ []

  -- the log of a replica that went on from s, the history with which it entered, and the one that it accepted first
  abbrev pub state_items : Rep P → Rep P → List Item
  state_items s now = history (state_at k proto now).log (known_of s now) ∷ (entered_items s now ++ first_items (state_at k proto now).first)

  -- what is looked at as replica r, which is where s says, takes a call: what it checks, and where it then is. Of a faulty party nothing is
  -- looked at
  abbrev pub call_items : ℕ → Rep P → Call → List Item
  call_items r s call =
      if is_faulty k.faulty (Replica r)
      then []
      else checked_items k.cluster.f (Replica r) call ++ state_items s (rep_after k proto r s call)

  -- and as client c takes a message
  abbrev pub client_items : ℕ → Msg → List Item
  client_items c m = if is_faulty k.faulty (Client c) then [] else message_items k.cluster.f (Client c) m

  abbrev pub items_of : Run P → Event → List Item
  items_of w (invoke c command) = []
  items_of w (to_replica r m) = if nat_lt r (replicas k) then call_items r (w.reps r) (took m) else []
  items_of w (to_client c m) = if nat_lt c k.cluster.clients then client_items c m else []
  items_of w (replica_time r) = if nat_lt r (replicas k) then call_items r (w.reps r) timed else []
  items_of w (client_time c) = []

  abbrev pub looked_in : Watch → ℕ → Option Party → List Item → Watch
  looked_in x n None items = x
  looked_in x n (Some p) items = looked x n p items

  -- what a program keeps that looks at all that came, the newest first
  abbrev pub watched : Opener → List Input → Watch
  watched opens [] = first_watch
  watched opens (g ∷ inputs) =
      looked_in (watched opens inputs) (length inputs + 1) (taker_of g) (flat_map (items_of (run k proto (events_in opens inputs))) (event_in opens g))
