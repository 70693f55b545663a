-- The list that executed values are, and where each of them comes from.
use Rattle.std.proofs.Common.{◌≡◌, ◌≢◌, ℕ, zero, suc, ◌+◌, ◌≤◌, Some, List, [], ◌∷◌, ◌++◌, ◌⊎◌, length, slice_get, refl, ap, ◌∙◌, inl, inr, arith, length-append}
use Rattle.std.proofs.lemmas.Option.{none-some}
use mathlib.Core.List.{IsPrefix}
use Rattle.ab_num.specs.declared.party.Party.TheVariants.{Client}
use Rattle.ab_hist.specs.declared.request.Request.{Request}
use Rattle.ab_hist.specs.Histories.{IsHistory}
use Rattle.ab_msg.specs.declared.content.Content.TheVariants as content
use Rattle.ab_abs.specs.Observations.{IsInitHistory}
use Rattle.ab_abs.specs.Values.{orders, list_of, base_in, goes}
use Rattle.ab_msg.specs.declared.value.Value.{Value}
use Rattle.ab_msg.specs.declared.value.Value.TheVariants.{Base, Request as Order}
use Rattle.ab_msg.specs.Slots.{slot_digest}
use Rattle.ab_abs.specs.Acts.{Setting, Act, observations}
use Rattle.ab_abs.specs.OrderRules.{WasClaimed}
use Rattle.ab_lock.proofs.Consistent.{Fit}
use Rattle.ab_pbft_rules.proofs.SlotValues.{log_history}
use Rattle.ab_pbft_rules.specs.Traces.{IsSource}

-- a list of values and the list that it orders
base_front : (value : Value) (h l : List Value) → base_in (value ∷ h) ≡ base_in (value ∷ l)
base_front (Base b) h l = refl
base_front (Order m) h l = refl

pub same_base : (h l : List Value) → IsPrefix h l → h ≢ [] → base_in h ≡ base_in l
same_base [] l p some = absurd (some refl)
same_base (value ∷ h) l p some = base_front value h (h ++ p.0) ∙ ap base_in p.1

pub base_begins : (h : List Value) → IsPrefix (base_in h) (list_of h)
base_begins [] = ([], refl)
base_begins (Base b ∷ h) = (orders h, refl)
base_begins (Order m ∷ h) = ([], refl)

pub list_some : (h : List Value) → list_of h ≢ [] → h ≢ []
list_some h some none = some (ap list_of none)

pub is_empty : (h : List Value) → (h ≡ []) ⊎ (h ≢ [])
is_empty [] = inl refl
is_empty (value ∷ h) = inr (λ e. omega (arith, ap length e))

orders_length : (h : List Value) → length (orders h) ≤ length h
orders_length [] = omega arith
orders_length (Base b ∷ h) = omega (arith, orders_length h)
orders_length (Order m ∷ h) = omega (arith, orders_length h)

pub list_length : (k : ℕ) (h : List Value) → length h ≤ suc k → length (list_of h) ≤ length (base_in h) + k
list_length k [] le = omega arith
list_length k (Base b ∷ h) le = omega (arith, length-append b (orders h), orders_length h, le)
list_length k (Order m ∷ h) le = omega arith

behind_base : (b os : List Request) (n : ℕ) (m : Request) → slice_get (b ++ os) n ≡ Some m → length b ≤ n → (j : ℕ) × (slice_get os j ≡ Some m)
behind_base [] os n m is le = (n, is)
behind_base (q ∷ b) os zero m is le = absurd (omega (arith, le))
behind_base (q ∷ b) os (suc n) m is le = behind_base b os n m is (omega (arith, le))

in_orders : (h : List Value) (j : ℕ) (m : Request) → slice_get (orders h) j ≡ Some m → (t : ℕ) × (slice_get h t ≡ Some (Order m))
in_orders [] j m is = absurd (none-some m is)
in_orders (Base b ∷ h) j m is = let w = in_orders h j m is in (suc w.0, w.1)
in_orders (Order q ∷ h) zero m is = let e : q ≡ m = cc (is) in (zero, ap (λ z. Some (Order z)) e)
in_orders (Order q ∷ h) (suc j) m is = let w = in_orders h j m is in (suc w.0, w.1)

pub behind_claimed : (x : Setting) (acts : List Act) (h : List Value) (n : ℕ) (m : Request) → ((t : ℕ) (a : Value) → slice_get h t ≡ Some a → IsSource x acts t a) → length (base_in h) ≤ n → slice_get (list_of h) n ≡ Some m
    → WasClaimed acts (content.Req (Client m.client) x.i m)
behind_claimed x acts [] n m source le is = absurd (none-some m is)
behind_claimed x acts (Base b ∷ h) n m source le is =
    let w = behind_base b (orders h) n m is le in
    let t = in_orders h w.0 m w.1 in
    source (suc t.0) (Order m) t.1
behind_claimed x acts (Order q ∷ h) n m source le is = absurd (none-some m is)

pub base_init : (x : Setting) (acts : List Act) (h : List Value) → ((t : ℕ) (a : Value) → slice_get h t ≡ Some a → IsSource x acts t a) → h ≢ [] → IsInitHistory (observations acts) x.i (base_in h)
base_init x acts [] source some = absurd (some refl)
base_init x acts (Base b ∷ h) source some = (source 0 (Base b) refl).0
base_init x acts (Order m ∷ h) source some = absurd (source 0 (Order m) refl)

pub list_rises : (x : Setting) (k : ℕ) (acts : List Act) (h : List Value) → ((t : ℕ) (a : Value) → slice_get h t ≡ Some a → IsSource x acts t a) → Fit slot_digest goes k h → IsHistory (list_of h)
list_rises x k acts [] source fit = λ i j d lt within. absurd (omega (arith, within))
list_rises x k acts (Base b ∷ h) source fit = log_history slot_digest k b h (source 0 (Base b) refl).1 fit
list_rises x k acts (Order m ∷ h) source fit = λ i j d lt within. absurd (omega (arith, within))
