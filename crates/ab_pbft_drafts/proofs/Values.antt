-- Values that are accepted and executed have bytes.
use Rattle.std.proofs.Common.{◌≡◌, ℕ, ◌≤◌, true, List, [], ◌∷◌, ◌++◌, length, refl, sym, ap, ◌∙◌, subst, inl, inr, arith, append_assoc, append-nil, length-append}
use Rattle.std.proofs.lemmas.Option.{none-some}
use Rattle.std.proofs.lemmas.List.Elements.{All-nil, All-push}
use Rattle.std.proofs.lemmas.List.Quantifiers.{all_pairs_push}
use Rattle.ab_hist.specs.declared.request.Request.{Request}
use Rattle.ab_hist.specs.Histories.{Precedes, can_push}
use Rattle.ab_hist.proofs.RequestLemmas.{can_push-Decides}
use Rattle.ab_msg.specs.declared.value.Value.{Value}
use Rattle.ab_msg.specs.declared.value.Value.TheVariants.{Base, Request as Order}
use Rattle.ab_msg.specs.Fields.{IsRequest, IsWritten, IsWrittenLog}
use Rattle.ab_abs.specs.Values.{orders, list_of, goes}
use Rattle.ab_lock.proofs.Lists.{nth_grown}
use Rattle.ab_pbft_drafts.specs.Bounds.{IsValueAt, AreValuesAt}

pub nothing_written : IsWritten []
nothing_written = ((omega arith, omega arith), (All-nil (IsRequest 0 15), λ i j d lt within. absurd (omega (arith, within))))

-- a log of at most 1,024 entries has bytes as a whole
pub short_written : (n : ℕ) (log : List Request) → IsWrittenLog n log → length log ≤ 1024 → IsWritten log
short_written n log was few = ((omega arith, few), (was.requests, was.history))

written_more : (log : List Request) (m : Request) → can_push log m ≡ true → IsRequest 0 15 m → IsWritten log → IsWritten (log ++ m ∷ [])
written_more log m may asked was =
    let can = (can_push-Decides log m).0 may in
    let len = length-append log (m ∷ []) in
    ((omega arith, omega (arith, can.0, len)), (All-push (IsRequest 0 15) log m was.1.0 asked, all_pairs_push Precedes log m was.1.1 can.1))

orders-push : (values : List Value) (m : Request) → orders (values ++ Order m ∷ []) ≡ orders values ++ m ∷ []
orders-push [] m = refl
orders-push (Base h ∷ values) m = orders-push values m
orders-push (Order n ∷ values) m = ap (λ l. n ∷ l) (orders-push values m)

-- one more is executed
pub written_executed : (executed : List Value) (value : Value) → goes executed value ≡ true → IsValueAt (length executed) value → IsWritten (list_of executed) → IsWritten (list_of (executed ++ value ∷ []))
written_executed [] (Base h) on at_slot was = subst (λ (l : List Request). IsWritten l) (sym (append-nil h)) at_slot
written_executed [] (Order m) on at_slot was = absurd at_slot
written_executed (Base h ∷ executed) (Base l) on at_slot was = absurd at_slot
written_executed (Base h ∷ executed) (Order m) on at_slot was =
    subst (λ (l : List Request). IsWritten l) (append_assoc h (orders executed) (m ∷ []) ∙ ap (λ l. h ++ l) (sym (orders-push executed m)))
    (written_more (h ++ orders executed) m on at_slot was)
written_executed (Order n ∷ executed) value on at_slot was = absurd (cc (on))

-- a request that may follow stands behind the base
pub order_at : (accepted : List Value) (m : Request) → goes accepted (Order m) ≡ true → IsRequest 0 15 m → IsValueAt (length accepted) (Order m)
order_at [] m on asked = absurd (cc (on))
order_at (v ∷ accepted) m on asked = asked

pub values_grown : (values : List Value) (value : Value) → AreValuesAt values → IsValueAt (length values) value → AreValuesAt (values ++ value ∷ [])
values_grown values value are at_slot t v is =
    elim (nth_grown values value t v is) [
      | inl old ↦ are t v old.1
      | inr new ↦ subst (λ (x : Value). IsValueAt t x) (sym new.1) (subst (λ (n : ℕ). IsValueAt n value) (sym new.0) at_slot)
    ]

pub no_values : AreValuesAt []
no_values t v is = absurd (none-some v is)
