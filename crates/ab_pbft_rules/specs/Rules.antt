-- PBFT at one replica, as functions of plain values.
use Rattle.std.specs.Prelude.{ℕ, zero, suc, ◌+◌, ◌*◌, ◌%◌, ◌==◌, Bool, true, false, not, ◌&&◌, ◌||◌, nat_eq, nat_le, nat_lt, if◌then◌else◌, Option, Some, None, List, [], ◌∷◌, ◌++◌, length, map, flat_map, count_by}
use Rattle.std.specs.List.{list_all, list_any}
use Rattle.std.specs.Str.{bytes_eq}
use Rattle.ab_num.specs.declared.party.Party.TheVariants.{Replica}
use Rattle.ab_hist.specs.declared.request.Request.{Request}
use Rattle.ab_msg.specs.declared.content.Content.{Content}
use Rattle.ab_msg.specs.declared.content.Content.TheVariants as content
use Rattle.ab_msg.specs.declared.value.Value.{Value}
use Rattle.ab_msg.specs.declared.value.Value.TheVariants.{Base, Request as Order}
use Rattle.ab_msg.specs.Slots.{slot_digest}
use Rattle.ab_abs.specs.Values.{list_of, goes}
use Rattle.ab_lock.specs.Quorums.{quorum}
use Rattle.ab_lock.specs.Steps.{Cert, SlotEntry, Change, State, begun}
use Rattle.ab_lock.specs.Acts.{made}
use Rattle.ab_lock.specs.ViewChanges.{Kept, put, of_view, lowest, leave, own_change, enter}
use Rattle.ab_lock.specs.Events.{Peer, peer_by, settles_by, with_vote, with_commit, entered_peer, left_peer, accept, accepted_peer}
use Rattle.ab_order.specs.Inputs.{Reading, request, pre_prepare_base, pre_prepare, prepare, commit, view_change, new_view, timeout, other, ProvedSlot, ChangeReading}
use Rattle.ab_order.specs.Orderers.{Ordering}
use Rattle.ab_order.specs.Backups.{keep}
use Rattle.ab_pbft_rules.specs.Traces.{OrderStep, content_of}

-- what stands in the slots of a VIEW-CHANGE, with and without the PREPAREs
abbrev pub cert_of : ProvedSlot → Cert Value
cert_of s = record { at = s.at; value = s.value }

abbrev pub entry_of : ProvedSlot → SlotEntry (List ℕ)
entry_of s = record { at = s.at; x = s.x }

abbrev pub change_of : ChangeReading → Change Value
change_of change = record { by = change.by; certs = map cert_of change.slots }

-- no number stands twice
abbrev pub all_apart : List ℕ → Bool
all_apart [] = true
all_apart (r ∷ rs) = not (list_any (nat_eq r) rs) && all_apart rs

-- the slot has 2f + 1 PREPAREs of distinct replicas, of a view below the VIEW-CHANGE's, and the digest of its value
abbrev pub slot_fits : ℕ → ℕ → ProvedSlot → Bool
slot_fits f view s = nat_lt s.at view && (nat_eq (length s.by) (quorum f) && (all_apart s.by && bytes_eq s.x (slot_digest s.value)))

abbrev pub fits : ℕ → ChangeReading → Bool
fits f change = list_all (slot_fits f change.view) change.slots

-- 2f + 1 VIEW-CHANGEs for view w by distinct replicas, each of which fits
abbrev pub may_enter : ℕ → ℕ → List ChangeReading → Bool
may_enter f w changes =
    nat_eq (length changes) (quorum f) && (all_apart (map (λ c. c.by) changes) && list_all (λ c. nat_eq c.view w && fits f c) changes)

-- replica me in instance i, of which it orders k requests, with the base that it entered with
pub record Placement : Type 0 where
  pub k : ℕ
  pub f : ℕ
  pub i : ℕ
  pub me : ℕ
  pub base : List Request

-- where it is in the rules, and the VIEW-CHANGEs and the last request of each client that it keeps
pub record Memory : Type 0 where
  pub peer : Peer Value (List ℕ)
  pub changes : List (Kept Value)
  pub requests : List Request

pub record Pbft : Type 0 where
  pub seat : Placement
  pub memory : Memory

-- something that a replica does in an event: a step, the PRE-PREPARE of a value for a slot of a view, or a NEW-VIEW
pub data Doing : Type 0 where
  takes_step : OrderStep → Doing
  offers : (view slot : ℕ) → Value → Doing
  leads : (view : ℕ) → Doing

-- an event so far: where it leaves the replica, its steps, the newest first, and all that it did, in order
pub record Work : Type 0 where
  pub at : Memory
  pub steps : List OrderStep
  pub doings : List Doing

abbrev pub oldest_first : {A : Type 0} → List A → List A
oldest_first [] = []
oldest_first (a ∷ rest) = oldest_first rest ++ a ∷ []

-- where it is in the rules
abbrev pub core_of : Work → State Value
core_of w = w.at.peer.core

abbrev pub with_peer : Work → Peer Value (List ℕ) → List OrderStep → Work
with_peer w peer more = record w { at = record w.at { peer = peer }; steps = more ++ w.steps; doings = w.doings ++ map takes_step (oldest_first more) }

-- it accepts a value in the next slot
abbrev pub take_value : Value → Work → Work
take_value value w = with_peer w (accepted_peer value w.at.peer) (accept (core_of w) value ∷ [])

abbrev pub does : Doing → Work → Work
does d w = record w { doings = w.doings ++ d ∷ [] }

-- the request of the lowest client that may follow what is accepted
abbrev pub first_fit : List Value → List Request → Option Request
first_fit accepted [] = None
first_fit accepted (m ∷ requests) = if goes accepted (Order m) then Some m else first_fit accepted requests

abbrev pub is_empty : {A : Type 0} → List A → Bool
is_empty [] = true
is_empty (a ∷ rest) = false

abbrev pub keep_request : Request → Work → Work
keep_request m w = record w { at = record w.at { requests = keep m w.at.requests } }

abbrev pub keep_change : ChangeReading → Work → Work
keep_change change w = record w { at = record w.at { changes = put (record { view = change.view; change = change_of change }) w.at.changes } }

-- without the kept VIEW-CHANGE of replica r
abbrev pub without : ℕ → List (Kept Value) → List (Kept Value)
without r [] = []
without r (u ∷ kept) = if u.change.by == r then without r kept else u ∷ without r kept

-- the smallest view of kept VIEW-CHANGEs above v
abbrev pub smaller : ℕ → Option ℕ → Option ℕ
smaller u None = Some u
smaller u (Some v) = if nat_lt u v then Some u else Some v

abbrev pub least_above : ℕ → List (Kept Value) → Option ℕ
least_above v [] = None
least_above v (u ∷ kept) = if nat_lt v u.view then smaller u.view (least_above v kept) else least_above v kept

module _ (seat : Placement) where
  -- slots 0 to k are executed
  abbrev pub is_done : Work → Bool
  is_done w = nat_le (suc seat.k) (length (core_of w).executed)

  abbrev pub is_primary_of : ℕ → ℕ → Bool
  is_primary_of view r = r == view % (3 * seat.f + 1)

  -- it goes on by itself: no more steps are needed than these
  abbrev pub settle_with : List OrderStep → Work → Work
  settle_with more w = with_peer w (peer_by slot_digest seat.me more w.at.peer) more

  abbrev pub settle : Work → Work
  settle w = settle_with (settles_by slot_digest bytes_eq goes seat.f seat.me (suc (3 * suc seat.k)) w.at.peer) w

  -- the primary accepts a value, and tells it to the others
  abbrev pub offer : Value → Work → Work
  offer value w = take_value value (does (offers (core_of w).view (length (core_of w).accepted) value) w)

  -- its own base in slot 0, if a request waits and nothing is accepted, and if a VIEW-CHANGE can hold it
  abbrev pub base_value : Value
  base_value = Base seat.base

  abbrev pub may_open : Work → Bool
  may_open w = is_empty (core_of w).accepted && (not (is_empty w.at.requests) && nat_le (length seat.base) 1024)

  abbrev pub offer_base : Work → Work
  offer_base w = if may_open w then offer base_value w else w

  -- and then one request after the other, up to slot k
  abbrev pub has_room : Work → Bool
  has_room w = nat_le (length (core_of w).accepted) seat.k

  abbrev pub offer_next : (Work → Work) → Work → Option Request → Work
  offer_next rest w None = w
  offer_next rest w (Some m) = rest (offer (Order m) w)

  abbrev pub offer_requests : ℕ → Work → Work
  offer_requests zero w = w
  offer_requests (suc n) w = if has_room w then offer_next (offer_requests n) w (first_fit (core_of w).accepted w.at.requests) else w

  abbrev pub may_propose : Work → Bool
  may_propose w = is_primary_of (core_of w).view seat.me && (not (core_of w).changing && not (is_done w))

  -- the primary of the view offers what it can, and then goes on
  abbrev pub propose : Work → Work
  propose w = settle (if may_propose w then offer_requests (suc seat.k) (offer_base w) else w)

  -- it enters view v from these VIEW-CHANGEs
  abbrev pub enter_view : ℕ → List (Change Value) → Work → Work
  enter_view v changes w = propose (with_peer w (entered_peer goes seat.k v changes w.at.peer) (enter goes seat.k v changes ∷ []))

  -- the primary of a view that it is changing to enters it where enough VIEW-CHANGEs are kept
  abbrev pub may_lead : Work → Bool
  may_lead w = is_primary_of (core_of w).view seat.me && ((core_of w).changing && nat_le (quorum seat.f) (length (of_view w.at.changes (core_of w).view)))

  abbrev pub lead : Work → Work
  lead w =
      if may_lead w
      then enter_view (core_of w).view (lowest seat.f w.at.changes (core_of w).view) (does (leads (core_of w).view) w)
      else w

  -- it leaves for view v, and keeps its own VIEW-CHANGE
  abbrev pub keep_own : ℕ → State Value → Work → Work
  keep_own v s w = record w { at = record w.at { changes = put (record { view = v; change = own_change seat.k seat.me s }) (without seat.me w.at.changes) } }

  abbrev pub leave_to : ℕ → Work → Work
  leave_to v w = keep_own v (core_of w) (with_peer w (left_peer slot_digest seat.k v w.at.peer) (leave slot_digest seat.k (core_of w) v ∷ []))

  -- it follows f + 1 others that left for later views, to the first of these
  abbrev pub follow_to : Work → Option ℕ → Work
  follow_to w None = w
  follow_to w (Some v) = leave_to v w

  abbrev pub follow : Work → Work
  follow w =
      if nat_le (seat.f + 1) (count_by (λ u. nat_lt (core_of w).view u.view) w.at.changes) then follow_to w (least_above (core_of w).view w.at.changes) else w

  -- a PRE-PREPARE is one of the present view by its primary
  abbrev pub may_take : Work → ℕ → ℕ → Bool
  may_take w by view = is_primary_of view by && ((view == (core_of w).view) && (not (core_of w).changing && not (is_done w)))

  abbrev pub may_take_base : Work → ℕ → ℕ → List ℕ → List Request → Bool
  may_take_base w by view x h = may_take w by view && (is_empty (core_of w).accepted && bytes_eq x (slot_digest (Base h)))

  abbrev pub may_take_request : Work → ℕ → ℕ → ℕ → List ℕ → Request → Bool
  may_take_request w by view slot x m =
      may_take w by view && ((slot == length (core_of w).accepted) && (nat_le slot seat.k && (bytes_eq x (slot_digest (Order m)) && goes (core_of w).accepted (Order m))))

  -- a NEW-VIEW is one by its primary, of a later view or of the view that it is changing to
  abbrev pub may_follow : Work → ℕ → ℕ → List ChangeReading → Bool
  may_follow w by view changes =
      is_primary_of view by && ((nat_lt (core_of w).view view || ((core_of w).view == view) && (core_of w).changing) && may_enter seat.f view changes)

  -- a vote counts in its own view
  abbrev pub is_current : Work → ℕ → Bool
  is_current w view = view == (core_of w).view

  abbrev pub next_view : Work → ℕ
  next_view w = suc (core_of w).view

  abbrev pub work : Reading → Work → Work
  work (request m) w = propose (keep_request m w)
  work (pre_prepare_base by view x h) w = if may_take_base w by view x h then settle (take_value (Base h) w) else w
  work (pre_prepare by view slot x m) w = if may_take_request w by view slot x m then settle (take_value (Order m) w) else w
  work (prepare by view slot x) w = if is_current w view then settle (with_peer w (with_vote (record { by = by; slot = slot; x = x }) w.at.peer) []) else w
  work (commit by view slot x) w = if is_current w view then settle (with_peer w (with_commit (record { by = by; slot = slot; x = x }) w.at.peer) []) else w
  work (view_change change) w = if fits seat.f change then lead (follow (keep_change change w)) else w
  work (new_view by view changes) w = if may_follow w by view changes then enter_view view (map change_of changes) w else w
  work timeout w = if is_done w || nat_le 4294967295 (core_of w).view then w else lead (leave_to (next_view w) w)
  work other w = w

-- before an event
abbrev pub idle : Memory → Work
idle memory = record { at = memory; steps = []; doings = [] }

abbrev pub done_by : Pbft → Reading → Work
done_by p e = work p.seat e (idle p.memory)

-- what replica me of instance i says in what it does, in its order
abbrev pub sayings : ℕ → ℕ → Doing → List Content
sayings i me (takes_step step) = map (content_of i) (made slot_digest me step)
sayings i me (offers v n value) = content.PrePrepare (Replica me) i v n (slot_digest value) ∷ []
sayings i me (leads v) = content.NewView (Replica me) i v ∷ []

abbrev pub said_in : ℕ → ℕ → List Doing → List Content
said_in i me doings = flat_map (sayings i me) doings

abbrev pub base_of : List Value → Option (List Request)
base_of [] = None
base_of (Base h ∷ values) = Some h
base_of (Order m ∷ values) = None

-- PBFT as an orderer
abbrev pub pbft : Ordering Pbft Reading
pbft = record {
  begin = λ k f i me base. record { seat = record { k = k; f = f; i = i; me = me; base = base }; memory = record { peer = record { core = begun; votes = []; commits = [] }; changes = []; requests = [] } };
  after = λ p e. record { seat = p.seat; memory = (done_by p e).at };
  makes = λ p e. said_in p.seat.i p.seat.me (done_by p e).doings;
  instance = λ p. p.seat.i;
  replica = λ p. p.seat.me;
  base = λ p. base_of p.memory.peer.core.executed;
  first = λ p. base_of p.memory.peer.core.accepted;
  ordered = λ p. list_of p.memory.peer.core.executed;
}
