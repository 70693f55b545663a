-- PBFT's rules over the acts of an instance: the acts of each replica are those of some steps that the rules allow, each of which
-- rests on what the replica itself took or made.
use Rattle.std.specs.Prelude.{◌≡◌, ℕ, zero, suc, ◌≤◌, false, Some, None, List, [], Contains, map, slice_get}
use Rattle.ab_num.specs.declared.party.Party.TheVariants.{Replica, Client}
use Rattle.ab_hist.specs.Histories.{IsHistory}
use Rattle.ab_msg.specs.declared.content.Content.{Content}
use Rattle.ab_msg.specs.declared.content.Content.TheVariants as content
use Rattle.ab_abs.specs.Observations.{IsInitHistory}
use Rattle.ab_abs.specs.Values.{list_of, base_in, goes, IsOfSlot}
use Rattle.ab_msg.specs.declared.value.Value.{Value}
use Rattle.ab_msg.specs.declared.value.Value.TheVariants.{Base, Request as Order}
use Rattle.ab_msg.specs.Slots.{slot_digest}
use Rattle.ab_abs.specs.Acts.{Setting, State, Act, observations, own_acts, state_of, WasMade}
use Rattle.ab_abs.specs.OrderRules.{WasClaimed}
use Rattle.ab_lock.specs.Steps as steps
use Rattle.ab_lock.specs.Steps.{SlotEntry, Change, Cert, Step, enters}
use Rattle.ab_lock.specs.Acts as lock
use Rattle.ab_lock.specs.Acts.{Prepare, Commit, ViewChange}
use Rattle.ab_order.specs.Orders.{MayBeOrdered, OrderPremises, is_ordering}

-- a step of an order, and an act that consists of such steps
abbrev pub OrderStep : Type 0
OrderStep = Step Value (List ℕ)

abbrev pub OrderAct : Type 0
OrderAct = lock.LockAct Value (List ℕ)

abbrev pub pair_of : SlotEntry (List ℕ) → ℕ × List ℕ
pair_of e = (e.at, e.x)

-- what is said in instance i
abbrev pub content_of : ℕ → lock.LockContent (List ℕ) → Content
content_of i (Prepare r v n d) = content.Prepare (Replica r) i v n d
content_of i (Commit r v n d) = content.Commit (Replica r) i v n d
content_of i (ViewChange r w entries) = content.ViewChange (Replica r) i w (map pair_of entries)

-- why a replica with these acts may accept a value by itself: in slot 0 an init history, in a slot above it a request that its client
-- claimed
abbrev pub IsSource : Setting → List Act → ℕ → Value → Type 0
IsSource x own zero (Base h) = IsInitHistory (observations own) x.i h × IsHistory h
IsSource x own zero (Order m) = ⊥
IsSource x own (suc n) (Base h) = ⊥
IsSource x own (suc n) (Order m) = WasClaimed own (content.Req (Client m.client) x.i m)

-- own are the acts of replica r, which these steps explain
pub record IsTraced (x : Setting) (k r : ℕ) (own : List Act) (trace : List OrderAct) : Type 0 where
  pub lawful : lock.AreLawful slot_digest x.cluster.f (IsSource x own) goes k trace
  pub mine : (a : OrderAct) → Contains trace a → a.by ≡ r
  -- what the steps take was claimed, and what the acts say of an order the steps make
  pub claimed : (a : OrderAct) (c : lock.LockContent (List ℕ)) → Contains trace a → Contains a.claims c → WasClaimed own (content_of x.i c)
  pub made : (c : lock.LockContent (List ℕ)) → WasMade own (content_of x.i c) → lock.WasMade slot_digest trace c
  -- the values beside the VIEW-CHANGEs by which a view is entered are of their slots, and among those that may be ordered
  pub shown : (w : ℕ) (vcs : List (Change Value)) (chosen : List Value) (c : Change Value) (t : ℕ) (cert : Cert Value) → Contains (lock.steps_of trace r) (enters w vcs chosen) → Contains vcs c
      → slice_get c.certs t ≡ Some cert → IsOfSlot t cert.value × MayBeOrdered x own cert.value
  pub none : state_of own r ≡ None → trace ≡ []
  -- what is executed is the log
  pub executes : (s : State) → state_of own r ≡ Some s → (s.log ≡ list_of (steps.state_of (lock.steps_of trace r)).executed) × (s.base ≡ base_in (steps.state_of (lock.steps_of trace r)).executed)

abbrev pub Explained : Setting → ℕ → ℕ → List Act → Type 0
Explained x k r own = (trace : List OrderAct) × IsTraced x k r own trace

-- each replica's acts are explained, clients say nothing of an order, and the premises hold
pub record IsPbftSound (x : Setting) (k : ℕ) (acts : List Act) : Type 0 where
  pub later_than_none : 1 ≤ x.i
  pub explained : (r : ℕ) → Explained x k r (own_acts r acts)
  pub clients : (a : Act) (c : ℕ) (s : Content) → Contains acts a → a.party ≡ Client c → Contains a.made s → is_ordering s ≡ false
  pub premises : OrderPremises x acts
