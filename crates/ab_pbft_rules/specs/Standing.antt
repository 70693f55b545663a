-- Where a replica stands that runs PBFT: in the midst of an event, and where its own acts left it.
use Rattle.std.specs.Prelude.{◌≡◌, ◌≢◌, ℕ, ◌+◌, ◌*◌, ◌<◌, Some, None, List, [], Contains, flat_map, slice_get}
use Rattle.ab_num.specs.declared.party.Party.TheVariants.{Client}
use Rattle.ab_hist.specs.declared.request.Request.{Request}
use Rattle.ab_hist.specs.Histories.{IsHistory}
use Rattle.ab_msg.specs.declared.content.Content.TheVariants as content
use Rattle.ab_msg.specs.declared.value.Value.{Value}
use Rattle.ab_msg.specs.Slots.{slot_digest}
use Rattle.ab_abs.specs.Observations.{IsInitHistory}
use Rattle.ab_abs.specs.Values.{list_of, base_in, goes, IsOfSlot}
use Rattle.ab_abs.specs.Acts.{Setting, State, Act, observations, state_of, WasMade as WasMadeIn}
use Rattle.ab_abs.specs.OrderRules.{WasClaimed}
use Rattle.ab_lock.specs.Steps.{Change, Cert, enters}
use Rattle.ab_lock.specs.Acts as lock
use Rattle.ab_lock.specs.Acts.{made, steps_of, WasMade, AreLawful}
use Rattle.ab_lock.specs.ViewChanges.{Kept, IsRising}
use Rattle.ab_lock.specs.Standing.{PeerStands, AreKeptChanges}
use Rattle.ab_order.specs.Orders.{MayBeOrdered}
use Rattle.ab_pbft_rules.specs.Traces.{OrderStep, OrderAct, content_of, IsSource}
use Rattle.ab_pbft_rules.specs.Rules.{Memory, Pbft}

-- the values of a VIEW-CHANGE are of their slots, and may be ordered
abbrev pub AreShown : Setting → List Act → Change Value → Type 0
AreShown x own c = (t : ℕ) (cert : Cert Value) → slice_get c.certs t ≡ Some cert → IsOfSlot t cert.value × MayBeOrdered x own cert.value

-- replica r did some steps of an event, and keeps this: these steps, and those of its earlier acts, are the trace. Said: what it said in
-- earlier acts
pub record IsMid (x : Setting) (k r : ℕ) (own : List Act) (Said : lock.LockContent (List ℕ) → Type 0) (trace : List OrderAct) (at : Memory) (now : List OrderStep) : Type 0 where
  pub lawful : AreLawful slot_digest x.cluster.f (IsSource x own) goes k trace
  pub mine : (a : OrderAct) → Contains trace a → a.by ≡ r
  pub claimed : (a : OrderAct) (c : lock.LockContent (List ℕ)) → Contains trace a → Contains a.claims c → WasClaimed own (content_of x.i c)
  pub shown : (v : ℕ) (vcs : List (Change Value)) (chosen : List Value) (c : Change Value) → Contains (steps_of trace r) (enters v vcs chosen) → Contains vcs c → AreShown x own c
  pub peer : PeerStands slot_digest x.cluster.f trace r at.peer
  pub changes : AreKeptChanges slot_digest x.cluster.f trace r at.changes
  pub rising : IsRising at.changes
  pub changes_shown : (u : Kept Value) → Contains at.changes u → AreShown x own u.change
  pub requests : (m : Request) → Contains at.requests m → WasClaimed own (content.Req (Client m.client) x.i m)
  pub made : (c : lock.LockContent (List ℕ)) → Contains (flat_map (made slot_digest r) now) c → WasMade slot_digest trace c
  pub said : (c : lock.LockContent (List ℕ)) → Said c → WasMade slot_digest trace c

-- p is replica r, where its own acts left it
pub record PbftStands (x : Setting) (k : ℕ) (p : Pbft) (r : ℕ) (own : List Act) : Type 0 where
  pub within : r < 3 * x.cluster.f + 1
  pub base : List Request
  pub seated : p.seat ≡ record { k = k; f = x.cluster.f; i = x.i; me = r; base = base }
  pub based : IsInitHistory (observations own) x.i base × IsHistory base
  pub trace : List OrderAct
  pub mid : IsMid x k r own (λ c. WasMadeIn own (content_of x.i c)) trace p.memory []
  pub begun : state_of own r ≢ None
  pub executes : (s : State) → state_of own r ≡ Some s → (s.log ≡ list_of p.memory.peer.core.executed) × (s.base ≡ base_in p.memory.peer.core.executed)
