-- Fitting values are of their slots, comparable ones are comparable logs, and digests that differ tell them apart.
use Rattle.std.proofs.Common.{◌≡◌, ℕ, zero, suc, ◌≤◌, true, Some, List, [], ◌∷◌, ◌++◌, length, take, slice_get, refl, sym, ap, ◌∙◌, subst, arith, append_assoc, append-nil, false}
use Rattle.std.specs.Prelude.{Contains}
use Rattle.std.proofs.lemmas.Option.{slice_get_within}
use mathlib.Core.List.{IsPrefix}
use Rattle.ab_hist.specs.declared.request.Request.{Request}
use Rattle.ab_hist.specs.Histories.{can_push, IsHistory, Precedes}
use Rattle.ab_hist.proofs.RequestLemmas.{can_push-Decides}
use Rattle.ab_abs.specs.Values.{orders, list_of, goes, IsOfSlot}
use Rattle.ab_msg.specs.declared.value.Value.{Value}
use Rattle.ab_msg.specs.declared.value.Value.TheVariants.{Base, Request as Order}
use Rattle.ab_msg.specs.Slots.{slot_digest}
use Rattle.std.proofs.lemmas.List.Quantifiers.{all_pairs_push}
use Rattle.ab_num.specs.declared.party.Party.{Party}
use Rattle.ab_lock.specs.Steps.{Cert, Change, Step, accepts, enters, executes, State, Follows}
use Rattle.ab_lock.specs.Quorums.{IsCorrect, Occurs, in_accepted, in_prepared, in_change, in_executed, NoCollision}
use Rattle.std.proofs.Math.Seq.{take-length}
use Rattle.ab_lock.proofs.Consistent.{Fit, IsConsistent}
use Rattle.ab_lock.proofs.Traces.{was_allowed, prepared_fit}

of_slot : (t : ℕ) (all : List Value) (value : Value) → t ≤ length all → goes (take t all) value ≡ true → IsOfSlot t value
of_slot zero all (Base h) le is = tt
of_slot zero all (Order m) le is = absurd cc
of_slot (suc t) [] value le is = absurd (omega arith)
of_slot (suc t) (Base h ∷ all) (Base l) le is = absurd cc
of_slot (suc t) (Base h ∷ all) (Order m) le is = tt
of_slot (suc t) (Order n ∷ all) value le is = absurd cc

-- values that fit are of their slots
pub fit_of_slot : (digest : Value → List ℕ) (k : ℕ) (all : List Value) → Fit digest (goes) k all → (t : ℕ) (value : Value) → slice_get all t ≡ Some value → t ≤ length all → IsOfSlot t value
fit_of_slot digest k all fit t value is le = of_slot t all value le (fit t value is)

orders-append : (xs ys : List Value) → orders (xs ++ ys) ≡ orders xs ++ orders ys
orders-append [] ys = refl
orders-append (Base h ∷ xs) ys = orders-append xs ys
orders-append (Order m ∷ xs) ys = ap (λ l. m ∷ l) (orders-append xs ys)

-- a beginning of the values has a beginning of the log
pub log_prefix : (xs ys : List Value) → IsPrefix xs ys → IsPrefix (list_of xs) (list_of ys)
log_prefix [] ys p = (list_of ys, refl)
log_prefix (Order m ∷ xs) ys p = (list_of ys, refl)
log_prefix (Base h ∷ xs) ys p =
    (orders p.0, append_assoc h (orders xs) (orders p.0) ∙ (ap (λ l. h ++ l) (sym (orders-append xs p.0)) ∙ ap (λ l. list_of l) p.1))

-- no two bases and no two requests that stand have one digest: no two values of one slot have
pub values_apart : (Occurs : ℕ → Value → Type 0) → ((t : ℕ) (a : Value) → Occurs t a → IsOfSlot t a)
    → ((t : ℕ) (h l : List Request) → Occurs t (Base h) → Occurs t (Base l) → slot_digest (Base h) ≡ slot_digest (Base l) → h ≡ l)
    → ((t : ℕ) (m n : Request) → Occurs t (Order m) → Occurs t (Order n) → slot_digest (Order m) ≡ slot_digest (Order n) → m ≡ n)
    → (t : ℕ) (a b : Value) → Occurs t a → Occurs t b → slot_digest a ≡ slot_digest b → a ≡ b
values_apart Occurs kind bases requests t (Base h) (Base l) is_a is_b e = ap Base (bases t h l is_a is_b e)
values_apart Occurs kind bases requests t (Order m) (Order n) is_a is_b e = ap Order (requests t m n is_a is_b e)
values_apart Occurs kind bases requests zero (Base h) (Order n) is_a is_b e = absurd (kind zero (Order n) is_b)
values_apart Occurs kind bases requests (suc t) (Base h) (Order n) is_a is_b e = absurd (kind (suc t) (Base h) is_a)
values_apart Occurs kind bases requests zero (Order m) (Base l) is_a is_b e = absurd (kind zero (Order m) is_a)
values_apart Occurs kind bases requests (suc t) (Order m) (Base l) is_a is_b e = absurd (kind (suc t) (Base l) is_b)

module _ (f : ℕ) (faulty : List Party) (traces : ℕ → List (Step Value (List ℕ))) (k : ℕ)
    (follows : (r : ℕ) → IsCorrect f faulty r → Follows slot_digest goes k (traces r))
    (grammar : (r w : ℕ) (vcs : List (Change Value)) (chosen : List Value) (c : Change Value) (t : ℕ) (cert : Cert Value) → Contains (traces r) (enters w vcs chosen) → Contains vcs c → slice_get c.certs t ≡ Some cert → IsOfSlot t cert.value) where
  accepted_of_slot : (s : State Value) (t : ℕ) (value : Value) → IsConsistent slot_digest goes k s → slice_get s.accepted t ≡ Some value → IsOfSlot t value
  accepted_of_slot s t value consistent is = fit_of_slot slot_digest k s.accepted consistent.fit t value is (omega (arith, slice_get_within s.accepted t value is))

  -- what stands in a slot is of it, where the VIEW-CHANGEs are spelled right
  pub stands_of_slot : (t : ℕ) (a : Value) → Occurs f faulty traces t a → IsOfSlot t a
  stands_of_slot t a (in_accepted r ok is) =
      let was = was_allowed slot_digest goes k (traces r) (accepts t a) (follows r ok) is in
      subst (λ (n : ℕ). IsOfSlot n a) (sym was.2.3)
      (of_slot (length was.0.accepted) was.0.accepted a (omega arith) (ap (λ l. goes l a) (take-length was.0.accepted) ∙ was.2.2))
  stands_of_slot t a (in_prepared r v h ok is there) =
      fit_of_slot slot_digest k h (prepared_fit slot_digest goes k (traces r) v h (follows r ok) is).1 t a there (omega (arith, slice_get_within h t a there))
  stands_of_slot t a (in_change r w vcs chosen c cert ok is is_in there value_is) = subst (λ (z : Value). IsOfSlot t z) value_is (grammar r w vcs chosen c t cert is is_in there)
  stands_of_slot t a (in_executed r v ok is) =
      let was = was_allowed slot_digest goes k (traces r) (executes v t a) (follows r ok) is in
      accepted_of_slot was.0 t a was.1 was.2.3

  -- so it is enough that no two bases and no two requests collide
  pub no_collision :
      ((t : ℕ) (h l : List Request) → Occurs f faulty traces t (Base h) → Occurs f faulty traces t (Base l) → slot_digest (Base h) ≡ slot_digest (Base l) → h ≡ l)
      → ((t : ℕ) (m n : Request) → Occurs f faulty traces t (Order m) → Occurs f faulty traces t (Order n) → slot_digest (Order m) ≡ slot_digest (Order n) → m ≡ n)
      → NoCollision slot_digest f faulty traces
  no_collision bases requests = values_apart (λ t a. Occurs f faulty traces t a) stands_of_slot bases requests

abbrev FitsAfter : List Request → List Value → Type 0
FitsAfter h values = (t : ℕ) (value : Value) → slice_get values t ≡ Some value → goes (Base h ∷ take t values) value ≡ true

after_one : (h : List Request) (m : Request) (values : List Value) (value : Value) → goes (Base h ∷ Order m ∷ values) value ≡ true → goes (Base (h ++ (m ∷ [])) ∷ values) value ≡ true
after_one h m values (Base l) is = absurd cc
after_one h m values (Order n) is = ap (λ l. can_push l n) (append_assoc h (m ∷ []) (orders values)) ∙ is

history_after : (values : List Value) (h : List Request) → IsHistory h → FitsAfter h values → IsHistory (h ++ orders values)
history_after [] h rises fits = subst (λ (l : List Request). IsHistory l) (sym (append-nil h)) rises
history_after (Base l ∷ values) h rises fits = let no_base : false ≡ true = fits 0 (Base l) refl in absurd (cc no_base)
history_after (Order m ∷ values) h rises fits =
    let may : can_push h m ≡ true = ap (λ l. can_push l m) (sym (append-nil h)) ∙ fits 0 (Order m) refl in
    let longer : IsHistory (h ++ (m ∷ [])) = all_pairs_push Precedes h m rises ((can_push-Decides h m).0 may).1 in
    subst (λ (l : List Request). IsHistory l) (append_assoc h (m ∷ []) (orders values))
    (history_after values (h ++ (m ∷ [])) longer (λ t value is. after_one h m (take t values) value (fits (suc t) value is)))

-- the log of values that fit, on a base that is a history, is one
pub log_history : (digest : Value → List ℕ) (k : ℕ) (h : List Request) (values : List Value) → IsHistory h → Fit digest (goes) k (Base h ∷ values) → IsHistory (list_of (Base h ∷ values))
log_history digest k h values rises fit = history_after values h rises (λ t value is. fit (suc t) value is)
