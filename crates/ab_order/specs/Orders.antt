-- What acts say of an order of requests: which values may be ordered, and when the logs are of one order.
use Rattle.std.specs.Prelude.{◌≡◌, ◌≢◌, ◌⊎◌, ℕ, ◌+◌, ◌≤◌, Bool, true, false, Some, List, [], ◌∷◌, Contains, flat_map, length, slice_get}
use mathlib.Core.List.{IsPrefix}
use Rattle.ab_num.specs.declared.party.Party.TheVariants.{Replica, Client}
use Rattle.ab_hist.specs.declared.request.Request.{Request}
use Rattle.ab_hist.specs.Histories.{IsHistory, Comparable}
use Rattle.ab_msg.specs.declared.content.Content.{Content}
use Rattle.ab_msg.specs.declared.content.Content.TheVariants.{Req, Order, Resp, ChainTag, Panic, Abort, PrePrepare, Prepare, Commit, ViewChange, NewView, Checkpoint, Spec, LocalCommit, AbortZ, TrimmedAbort}
use Rattle.ab_msg.specs.declared.value.Value.{Value}
use Rattle.ab_msg.specs.declared.value.Value.TheVariants as value
use Rattle.ab_msg.specs.Slots.{slot_digest}
use Rattle.ab_abs.specs.Observations.{IsInitHistory}
use Rattle.ab_abs.specs.declared.seen.Seen.TheVariants.{Init}
use Rattle.ab_abs.specs.Acts.{Setting, Act, observations, bases, state_of, log_of, base_of, Premises}
use Rattle.ab_abs.specs.Backing.{IsCorrect}
use Rattle.ab_abs.specs.OrderRules.{WasClaimed}

-- a statement between replicas that agree on an order
abbrev pub is_ordering : Content → Bool
is_ordering (Req maker i m) = false
is_ordering (Order maker i n m) = false
is_ordering (Resp maker i c stamp n d reply) = false
is_ordering (ChainTag maker i c stamp n d) = false
is_ordering (Panic maker i) = false
is_ordering (Abort maker i h) = false
is_ordering (PrePrepare maker i view slot d) = true
is_ordering (Prepare maker i view slot d) = true
is_ordering (Commit maker i view slot d) = true
is_ordering (ViewChange maker i view entries) = true
is_ordering (NewView maker i view) = true
is_ordering (Checkpoint maker i n d) = false
is_ordering (Spec maker i c stamp n d reply) = false
is_ordering (LocalCommit maker i c stamp n d) = false
is_ordering (AbortZ maker i h zcert) = false
is_ordering (TrimmedAbort maker i start digest rest) = false

-- the values of some VIEW-CHANGEs
abbrev pub values_shown : List (List Value) → List Value
values_shown all = flat_map (λ values. values) all

-- the value stands beside a VIEW-CHANGE that some replica took
abbrev pub WasShown : List Act → Value → Type 0
WasShown acts value = (a : Act) × Contains acts a × ((r : ℕ) × (a.party ≡ Replica r)) × Contains (values_shown a.values) value

-- the value is one of those that may be ordered: an init history, a request that its client claimed, or what stands beside a
-- VIEW-CHANGE
abbrev pub MayBeOrdered : Setting → List Act → Value → Type 0
MayBeOrdered x acts (value.Base h) = IsInitHistory (observations acts) x.i h ⊎ WasShown acts (value.Base h)
MayBeOrdered x acts (value.Request m) = WasClaimed acts (Req (Client m.client) x.i m) ⊎ WasShown acts (value.Request m)

-- no two different bases and no two different requests among these have one digest
pub record ValuesApart (x : Setting) (acts : List Act) : Type 0 where
  pub bases : (h l : List Request) → MayBeOrdered x acts (value.Base h) → MayBeOrdered x acts (value.Base l) → slot_digest (value.Base h) ≡ slot_digest (value.Base l) → h ≡ l
  pub requests : (m n : Request) → MayBeOrdered x acts (value.Request m) → MayBeOrdered x acts (value.Request n) → slot_digest (value.Request m) ≡ slot_digest (value.Request n) → m ≡ n

-- the premises where requests are ordered in slots
pub record OrderPremises (x : Setting) (acts : List Act) : Type 0 where
  pub plain : Premises x acts
  pub slots : ValuesApart x acts

-- the logs of correct replicas follow one order: one base, an init history, and up to k requests behind it, each of which its
-- client claimed
pub record IsOneOrder (x : Setting) (k : ℕ) (acts : List Act) : Type 0 where
  pub base : List Request
  pub is_init : (r : ℕ) → IsCorrect x r → log_of acts r ≢ [] → IsInitHistory (observations acts) x.i base
  pub based : (r : ℕ) → IsCorrect x r → log_of acts r ≢ [] → base_of acts r ≡ base
  pub begins : (r : ℕ) → IsCorrect x r → log_of acts r ≢ [] → IsPrefix base (log_of acts r)
  pub comparable : (r s : ℕ) → IsCorrect x r → IsCorrect x s → Comparable (log_of acts r) (log_of acts s)
  pub claimed : (r n : ℕ) (m : Request) → IsCorrect x r → length base ≤ n → slice_get (log_of acts r) n ≡ Some m → WasClaimed acts (Req (Client m.client) x.i m)
  pub at_most : (r : ℕ) → IsCorrect x r → length (log_of acts r) ≤ length base + k
  pub rises : (r : ℕ) → IsCorrect x r → IsHistory (log_of acts r)

-- the act leaves each replica where it is, and states nothing of an order: it is no call of an orderer
pub record IsQuiet (acts : List Act) (a : Act) : Type 0 where
  pub states : (s : Content) → Contains a.made s → is_ordering s ≡ false
  pub rests : (r : ℕ) → state_of (a ∷ acts) r ≡ state_of acts r

-- each init history that was observed is a base of the acts, and in instance 1 the empty one is, if any value was shown
pub record AreHeld (x : Setting) (acts : List Act) : Type 0 where
  pub inits : (r : ℕ) (h : List Request) → Contains (observations acts) (Init x.i r h) → Contains (bases acts) h
  pub first : x.i ≡ 1 → ((value : Value) → WasShown acts value → ⊥) ⊎ Contains (bases acts) []
