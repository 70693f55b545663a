-- What histories, lists and requests items hold.
use Rattle.std.proofs.Common.{◌≡◌, ℕ, Some, None, Option, List, [], ◌∷◌, ◌++◌, map, refl, sym, ap, ◌∙◌, subst, inl, inr, arith, append-nil}
use Rattle.std.specs.Prelude.{Contains, flat_map}
use Rattle.std.proofs.lemmas.Grind.{flat_map-append}
use Rattle.std.proofs.lemmas.List.Elements.{Contains-append_cases}
use Rattle.ab_num.specs.declared.party.Party.{Party}
use Rattle.ab_num.proofs.Lists.{Contains-cons_cases}
use Rattle.ab_hist.specs.declared.request.Request.{Request}
use Rattle.ab_hist.specs.Trimmed.{Trimmed}
use Rattle.ab_msg.specs.declared.message.Msg.{Msg}
use Rattle.ab_msg.specs.declared.value.Value.{Value}
use Rattle.ab_msg.specs.declared.value.Value.TheVariants as value
use Rattle.ab_msg.specs.Carried.{stated_history, stated_request, value_histories, value_requests, values_in}
use Rattle.ab_msg.specs.Claims.{claims}
use Rattle.ab_abs.specs.Acts.{with_first}
use Rattle.ab_links.specs.Digested.{Item, history, list, request, item_histories, item_lists, item_requests, histories_of, lists_of, requests_of, BeginsIn}
use Rattle.ab_run.specs.Runs.{stated_list}
use Rattle.ab_premise.specs.Collisions.{content_items, message_items, value_items, first_items}

-- such items, each from its first entry on, hold these histories, lists and requests
pub record Holds (items : List Item) (hs : List (List Request)) (ts : List Trimmed) (ms : List Request) : Type 0 where
  pub histories : histories_of items ≡ hs
  pub lists : lists_of items ≡ ts
  pub requests : requests_of items ≡ ms
  pub begins : (had : List (List Request)) (item : Item) → Contains items item → BeginsIn had item

pub holds_nothing : Holds [] [] [] []
holds_nothing = record { histories = refl; lists = refl; requests = refl; begins = λ had item gone. absurd (omega (arith, gone.1)) }

-- one more item of each kind
module _ (items : List Item) (hs : List (List Request)) (ts : List Trimmed) (ms : List Request) (rest : Holds items hs ts ms) where
  begins_with : (first : Item) → ((had : List (List Request)) → BeginsIn had first) → (had : List (List Request)) (item : Item) → Contains (first ∷ items) item → BeginsIn had item
  begins_with first begins had item has = elim (Contains-cons_cases first items item has) [
    | inl e ↦ subst (BeginsIn had) e (begins had)
    | inr more ↦ rest.begins had item more
  ]

  holds_history : (h : List Request) → Holds (history h 0 ∷ items) (h ∷ hs) ts ms
  holds_history h = record {
    histories = ap (λ l. h ∷ l) rest.histories;
    lists = rest.lists;
    requests = rest.requests;
    begins = begins_with (history h 0) (λ had some. absurd (omega (arith, some)));
  }

  holds_list : (t : Trimmed) → Holds (list t ∷ items) hs (t ∷ ts) ms
  holds_list t = record {
    histories = rest.histories;
    lists = ap (λ l. t ∷ l) rest.lists;
    requests = rest.requests;
    begins = begins_with (list t) (λ had. tt);
  }

  holds_request : (m : Request) → Holds (request m ∷ items) hs ts (m ∷ ms)
  holds_request m = record {
    histories = rest.histories;
    lists = rest.lists;
    requests = ap (λ l. m ∷ l) rest.requests;
    begins = begins_with (request m) (λ had. tt);
  }

abbrev plain : List (List Request) → List Trimmed → List Request → List Item
plain hs ts ms = map (λ h. history h 0) hs ++ (map list ts ++ map request ms)

plain_holds : (hs : List (List Request)) (ts : List Trimmed) (ms : List Request) → Holds (plain hs ts ms) hs ts ms
plain_holds [] [] [] = holds_nothing
plain_holds [] [] (m ∷ ms) = holds_request (plain [] [] ms) [] [] ms (plain_holds [] [] ms) m
plain_holds [] (t ∷ ts) ms = holds_list (plain [] ts ms) [] ts ms (plain_holds [] ts ms) t
plain_holds (h ∷ hs) ts ms = holds_history (plain hs ts ms) hs ts ms (plain_holds hs ts ms) h

-- two parts
pub both_hold : (items more : List Item) (hs ks : List (List Request)) (ts us : List Trimmed) (ms ns : List Request) → Holds items hs ts ms → Holds more ks us ns → Holds (items ++ more) (hs ++ ks) (ts ++ us) (ms ++ ns)
both_hold items more hs ks ts us ms ns one two = record {
  histories = flat_map-append item_histories items more ∙ (λ j. one.histories j ++ two.histories j);
  lists = flat_map-append item_lists items more ∙ (λ j. one.lists j ++ two.lists j);
  requests = flat_map-append item_requests items more ∙ (λ j. one.requests j ++ two.requests j);
  begins = λ had item has. elim (Contains-append_cases items more item has) [
    | inl here ↦ one.begins had item here
    | inr later ↦ two.begins had item later
  ];
}

-- items of several things, one after the other
module _ {A : Type 0} (items : A → List Item) (hs : A → List (List Request)) (ts : A → List Trimmed) (ms : A → List Request) (one : (a : A) → Holds (items a) (hs a) (ts a) (ms a)) where
  each_holds : (xs : List A) → Holds (flat_map items xs) (flat_map hs xs) (flat_map ts xs) (flat_map ms xs)
  each_holds [] = holds_nothing
  each_holds (x ∷ xs) = both_hold (items x) (flat_map items xs) (hs x) (flat_map hs xs) (ts x) (flat_map ts xs) (ms x) (flat_map ms xs) (one x) (each_holds xs)

values_hold : (vs : List Value) → Holds (flat_map value_items vs) (value_histories vs) [] (value_requests vs)
values_hold [] = holds_nothing
values_hold (value.Base h ∷ vs) = holds_history (flat_map value_items vs) (value_histories vs) [] (value_requests vs) (values_hold vs) h
values_hold (value.Request m ∷ vs) = holds_request (flat_map value_items vs) (value_histories vs) [] (value_requests vs) (values_hold vs) m

-- no lists come with values
abbrev no_lists : List Value → List Trimmed
no_lists vs = []

none_each : (xs : List (List Value)) → flat_map no_lists xs ≡ []
none_each [] = refl
none_each (vs ∷ xs) = none_each xs

-- what is looked at of a message is what is checked in it
pub message_holds : (f : ℕ) (p : Party) (m : Msg)
    → Holds (message_items f p m) (flat_map stated_history (claims f p m) ++ flat_map value_histories (values_in m)) (flat_map stated_list (claims f p m)) (flat_map stated_request (claims f p m) ++ flat_map value_requests (values_in m))
message_holds f p m =
    let stated = each_holds content_items stated_history stated_list stated_request (λ c. plain_holds (stated_history c) (stated_list c) (stated_request c)) (claims f p m) in
    let valued = each_holds (flat_map value_items) value_histories no_lists value_requests values_hold (values_in m) in
    let all = both_hold _ _ _ _ _ _ _ _ stated valued in
    record {
      histories = all.histories;
      lists = all.lists ∙ ap (λ l. flat_map stated_list (claims f p m) ++ l) (none_each (values_in m)) ∙ append-nil (flat_map stated_list (claims f p m));
      requests = all.requests;
      begins = all.begins;
    }

pub first_holds : (o : Option (List Request)) → Holds (first_items o) (with_first o) [] []
first_holds None = holds_nothing
first_holds (Some h) = holds_history [] [] [] [] holds_nothing h
