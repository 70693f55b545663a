-- A replica as code, as the rules see it.
use Rattle.std.specs.Prelude.{◌≡◌, ℕ, zero, suc, Bool, true, false, Option, Some, None, List, [], ◌∷◌, nat_lt, nat_le, not, ◌&&◌, ◌||◌, if◌then◌else◌}
use Rattle.std.specs.Str.{bytes_eq}
use Rattle.ab_hist.specs.declared.request.Request.{Request as Asked}
use Rattle.ab_msg.specs.declared.value.Value.{Value}
use Rattle.ab_msg.specs.declared.value.Value.TheVariants.{Request as Order}
use Rattle.ab_msg.specs.Slots.{slot_digest}
use Rattle.ab_abs.specs.Values.{goes}
use Rattle.ab_lock.specs.Steps.{Change}
use Rattle.ab_lock.specs.Votes.{SlotVote, or_else, next, next_prepare, next_execute}
use Rattle.ab_lock.specs.ViewChanges.{enter, leave}
use Rattle.ab_lock.specs.Events.{peer_by, with_vote, with_commit, entered_peer, left_peer}
use Rattle.ab_pbft_rules.specs.Traces.{OrderStep}
use Rattle.ab_pbft_rules.specs.Rules as rules
use Rattle.ab_pbft_rules.specs.Rules.{Work, core_of, with_peer}
use Rattle.ab_pbft_work.specs.declared.placement.Placement.{Placement}
use Rattle.ab_pbft_work.specs.declared.memory.Memory.{Memory}
use Rattle.ab_pbft_work.specs.declared.progress.Progress.{Progress}
use Rattle.ab_slots.specs.Deeds.{told_in}

abbrev pub seat_of : Placement → rules.Placement
seat_of s = record { k = s.k; f = s.f; i = s.instance; me = s.me; base = s.base }

abbrev pub memory_of : Memory → rules.Memory
memory_of m = record {
  peer = record {
    core = record {
      view = m.view;
      changing = m.changing;
      accepted = m.accepted;
      signed = m.signed;
      prepared = m.prepared;
      certs = m.certs.items;
      executed = m.executed;
    };
    votes = m.votes.items;
    commits = m.commits.items;
  };
  changes = m.changes.items;
  requests = m.requests.items;
}

-- the turn is at this point of an event
pub record Shows (t : Progress) (w : Work) : Type 0 where
  pub at : memory_of t.memory ≡ w.at
  pub told : t.deeds.items ≡ told_in w.doings

-- from a turn to another, the replica does so
abbrev pub Does : Progress → Progress → (Work → Work) → Type 0
Does old new rule = (w : Work) → Shows old w → Shows new (rule w)

-- ---- going on by one step

abbrev pub takes : ℕ → OrderStep → Work → Work
takes me step w = with_peer w (peer_by slot_digest me (step ∷ []) w.at.peer) (step ∷ [])

abbrev pub next_in : rules.Placement → Work → Option OrderStep
next_in seat w = next slot_digest bytes_eq goes seat.f (core_of w) w.at.peer.votes w.at.peer.commits

-- the first of the last two kinds of steps
abbrev pub next_on : rules.Placement → Work → Option OrderStep
next_on seat w =
    or_else (next_prepare slot_digest bytes_eq seat.f (core_of w) w.at.peer.votes) (next_execute slot_digest bytes_eq goes seat.f (core_of w) w.at.peer.commits)

abbrev pub by_steps : (rest : Work → Work) → ℕ → Work → Option OrderStep → Work
by_steps rest me w None = w
by_steps rest me w (Some step) = rest (takes me step w)

-- at most n steps, each the first that applies
abbrev pub goes_by : rules.Placement → ℕ → Work → Work
goes_by seat zero w = w
goes_by seat (suc n) w = by_steps (goes_by seat n) seat.me w (next_in seat w)

-- whether it took the step, if there was one
abbrev pub Went : rules.Placement → Bool → Progress → Work → Option OrderStep → Type 0
Went seat went t w None = (went ≡ false) × Shows t w
Went seat went t w (Some step) = (went ≡ true) × Shows t (takes seat.me step w)

-- ---- parts of rules

-- a PREPARE, and a COMMIT, is kept
abbrev pub votes_for : SlotVote (List ℕ) → Work → Work
votes_for u w = with_peer w (with_vote u w.at.peer) []

abbrev pub commits_for : SlotVote (List ℕ) → Work → Work
commits_for u w = with_peer w (with_commit u w.at.peer) []

abbrev pub without_votes_below : ℕ → rules.Memory → rules.Memory
without_votes_below v m = record m {
  peer = record m.peer {
    votes = if nat_lt m.peer.core.view v then [] else m.peer.votes;
    commits = if nat_lt m.peer.core.view v then [] else m.peer.commits;
  };
}

-- a view is entered, and one is left
abbrev pub enters_from : rules.Placement → ℕ → List (Change Value) → Work → Work
enters_from seat v vcs w = with_peer w (entered_peer goes seat.k v vcs w.at.peer) (enter goes seat.k v vcs ∷ [])

abbrev pub leaves : rules.Placement → ℕ → Work → Work
leaves seat v w = with_peer w (left_peer slot_digest seat.k v w.at.peer) (leave slot_digest seat.k (core_of w) v ∷ [])

-- whether the primary offered a request, if one fits
abbrev pub OfferedFit : rules.Placement → Bool → Progress → Work → Option Asked → Type 0
OfferedFit seat went t w None = (went ≡ false) × Shows t w
OfferedFit seat went t w (Some m) = (went ≡ true) × Shows t (rules.offer seat (Order m) w)

abbrev pub next_fit : rules.Placement → Work → Option Asked
next_fit seat w = if rules.has_room seat w then rules.first_fit (core_of w).accepted w.at.requests else None

abbrev pub Offered : rules.Placement → Bool → Progress → Work → Type 0
Offered seat went t w = OfferedFit seat went t w (next_fit seat w)

-- the primary offers its base and requests, if it may
abbrev pub offers_all : rules.Placement → Work → Work
offers_all seat w = if rules.may_propose seat w then rules.offer_requests seat (suc seat.k) (rules.offer_base seat w) else w

-- whether it may offer its base
abbrev pub can_offer_base : rules.Placement → rules.Memory → Bool
can_offer_base seat m = rules.may_open seat (rules.idle m)

-- something is left to order, and there is a next view
abbrev pub can_leave : rules.Placement → rules.Memory → Bool
can_leave seat m = not (rules.is_done seat (rules.idle m) || nat_le 4294967295 m.peer.core.view)
