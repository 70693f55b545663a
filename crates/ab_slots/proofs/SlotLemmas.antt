-- Values of slots, and their list.
use Rattle.std.proofs.Common.{◌≡◌, ◌<◌, true, List, [], ◌∷◌, ◌++◌, length, refl, sym, ap, ◌∙◌, append_assoc, arith, length-append}
use Rattle.std.proofs.lemmas.List.{append-nil}
use Rattle.ab_hist.specs.declared.request.Request.{Request}
use Rattle.ab_hist.specs.Histories.{can_push}
use Rattle.ab_msg.specs.declared.value.Value.{Value}
use Rattle.ab_msg.specs.declared.value.Value.TheVariants.{Base, Request as Order}
use Rattle.ab_abs.specs.Values.{goes, list_of, orders}
use Rattle.ab_slots.specs.Based.{is_based, AreSlots}

orders_pushed : (values : List Value) (m : Request) → orders (values ++ Order m ∷ []) ≡ orders values ++ m ∷ []
orders_pushed [] m = refl
orders_pushed (Base h ∷ values) m = orders_pushed values m
orders_pushed (Order n ∷ values) m = ap (λ l. n ∷ l) (orders_pushed values m)

-- a base comes first
pub list_began : (values : List Value) (h : List Request) → goes values (Base h) ≡ true → h ≡ list_of (values ++ Base h ∷ [])
list_began [] h may = sym (append-nil h)
list_began (Base l ∷ values) h may = absurd (cc may)
list_began (Order n ∷ values) h may = absurd (cc may)

-- and a request behind what is there
pub list_pushed : (values : List Value) (m : Request) → goes values (Order m) ≡ true → list_of values ++ m ∷ [] ≡ list_of (values ++ Order m ∷ [])
list_pushed [] m may = absurd (cc may)
list_pushed (Base h ∷ values) m may = append_assoc h (orders values) (m ∷ []) ∙ ap (λ l. h ++ l) (sym (orders_pushed values m))
list_pushed (Order n ∷ values) m may = absurd (cc may)

pub may_push : (values : List Value) (m : Request) → goes values (Order m) ≡ true → can_push (list_of values) m ≡ true
may_push [] m may = absurd (cc may)
may_push (Base h ∷ values) m may = may
may_push (Order n ∷ values) m may = absurd (cc may)

based_grown : (values : List Value) (value : Value) → is_based values ≡ true → goes values value ≡ true → is_based (values ++ value ∷ []) ≡ true
based_grown [] (Base h) based may = refl
based_grown [] (Order m) based may = absurd (cc may)
based_grown (Base h ∷ values) value based may = refl
based_grown (Order n ∷ values) value based may = absurd (cc based)

pub slots_grown : (values : List Value) (list : List Request) (value : Value) (new : List Request) → AreSlots values list → goes values value ≡ true → length values < 256 → new ≡ list_of (values ++ value ∷ []) → AreSlots (values ++ value ∷ []) new
slots_grown values list value new are may room is = record {
  based = based_grown values value are.based may;
  few = omega (arith, length-append values (value ∷ []));
  listed = is;
}
