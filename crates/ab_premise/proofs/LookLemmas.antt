-- What is looked at one part after the other is looked at as a whole.
use Rattle.std.proofs.Common.{◌≡◌, ℕ, Bool, false, ◌||◌, Option, Some, None, List, [], ◌∷◌, ◌++◌, map, refl, sym, ap, ◌∙◌}
use Rattle.std.specs.Prelude.{flat_map}
use Rattle.std.specs.Borrow.{Bor}
use Rattle.std.proofs.lemmas.List.Sums.{fold-append}
use Rattle.ab_hist.specs.declared.request.Request.{Request}
use Rattle.ab_msg.specs.declared.value.Value.{Value}
use Rattle.ab_msg.specs.declared.value.Value.TheVariants as value
use Rattle.ab_num.specs.declared.party.Party.{Party}
use Rattle.std.proofs.lemmas.List.Folds.{flat_map-map}
use Rattle.std.proofs.Math.Bool.{or_assoc}
use Rattle.ab_msg.specs.declared.message.Msg.{Msg}
use Rattle.ab_msg.specs.Claims.{claims}
use Rattle.ab_msg.specs.Carried.{values_in}
use Rattle.ab_check.specs.Checks.{Check, checks_of}
use Rattle.ab_check.specs.Chains.{said, said_by}
use Rattle.ab_check.proofs.ClaimLemmas.{checked-claims}
use Rattle.ab_check.specs.declared.chain.PassingRef.{PassingRef}
use Rattle.ab_links.specs.Digested.{Digested, Item, history, request, any_found, is_found, keep_item, keep_items}
use Rattle.ab_premise.specs.Collisions.{Watch, first_collision, looked, looked_on, content_items, message_items, value_items}

pub keeps_both : (kept : Digested) (xs ys : List Item) → keep_items kept (xs ++ ys) ≡ keep_items (keep_items kept xs) ys
keeps_both kept xs ys = fold-append keep_item kept xs ys

pub finds_both : (kept : Digested) (xs ys : List Item) → any_found kept (xs ++ ys) ≡ (any_found kept xs || any_found (keep_items kept xs) ys)
finds_both kept [] ys = refl
finds_both kept (x ∷ xs) ys =
    ap (λ b. is_found kept x || b) (finds_both (keep_item kept x) xs ys)
    ∙ sym (or_assoc (is_found kept x) (any_found (keep_item kept x) xs) (any_found (keep_items (keep_item kept x) xs) ys))

-- of what is left one part is looked at
pub keeps_step : (old kept new : Digested) (left one more all : List Item) → keep_items kept left ≡ keep_items old all → left ≡ one ++ more → new ≡ keep_items kept one → keep_items new more ≡ keep_items old all
keeps_step old kept new left one more all was parts is =
    ap (λ k. keep_items k more) is ∙ sym (keeps_both kept one more) ∙ ap (keep_items kept) (sym parts) ∙ was

pub finds_step : (old kept new : Digested) (before now : Bool) (left one more all : List Item) → (before || any_found kept left) ≡ any_found old all → left ≡ one ++ more → new ≡ keep_items kept one → now ≡ any_found kept one
    → ((before || now) || any_found new more) ≡ any_found old all
finds_step old kept new before now left one more all was parts is found =
    or_assoc before now (any_found new more)
    ∙ ap (λ b. before || b) ((λ j. found j || any_found (is j) more) ∙ sym (finds_both kept one more) ∙ ap (any_found kept) (sym parts))
    ∙ was

-- what is looked at in two parts is looked at as a whole
pub looks_both : (x : Watch) (n : ℕ) (p : Party) (xs ys : List Item) → looked_on (record { kept = keep_items x.kept xs; collided = x.collided }) n p (any_found x.kept xs) ys ≡ looked x n p (xs ++ ys)
looks_both x n p xs ys = λ j. record { kept = sym (keeps_both x.kept xs ys) j; collided = first_collision x.collided n p (sym (finds_both x.kept xs ys) j) }

-- along a chain no history and no request is stated
said_by_items : (l : PassingRef) (o : Option (Bor (List ℕ))) (r : ℕ) → content_items (said_by l o r) ≡ []
said_by_items l None r = refl
said_by_items l (Some reply) r = refl

pub said_items : (l : PassingRef) (r : ℕ) → content_items (said l r) ≡ []
said_items l r = said_by_items l l.reply r

pub request_items : (ms : List Request) → flat_map value_items (map value.Request ms) ≡ map request ms
request_items [] = refl
request_items (m ∷ ms) = ap (λ l. request m ∷ l) (request_items ms)

-- a base is looked at, and then requests
module _ (old kept : Digested) (h : List Request) (ms : List Request) (vs : List Value) (are : vs ≡ value.Base h ∷ map value.Request ms) (base : kept ≡ keep_items old (history h 0 ∷ [])) where
  pub values_kept : (new : Digested) → new ≡ keep_items kept (map request ms) → new ≡ keep_items old (flat_map value_items vs)
  values_kept new more =
      more
      ∙ ap (λ k. keep_items k (map request ms)) base
      ∙ ap (λ l. keep_items old (history h 0 ∷ l)) (sym (request_items ms))
      ∙ ap (λ l. keep_items old (flat_map value_items l)) (sym are)

  pub values_found : (one two : Bool) → one ≡ any_found old (history h 0 ∷ []) → one ≡ false → two ≡ any_found kept (map request ms) → two ≡ any_found old (flat_map value_items vs)
  values_found one two first none more =
      more
      ∙ ap (λ k. any_found k (map request ms)) base
      ∙ sym (ap (λ b. b || any_found (keep_items old (history h 0 ∷ [])) (map request ms)) (sym first ∙ none))
      ∙ sym (finds_both old (history h 0 ∷ []) (map request ms))
      ∙ ap (λ l. any_found old (history h 0 ∷ l)) (sym (request_items ms))
      ∙ ap (λ l. any_found old (flat_map value_items l)) (sym are)

-- ---- of a message

abbrev pub check_items : Check → List Item
check_items c = content_items c.content

claims_items : (f : ℕ) (p : Party) (m : Msg) → flat_map check_items (checks_of f p m) ≡ flat_map content_items (claims f p m)
claims_items f p m = sym (flat_map-map content_items (λ (c : Check). c.content) (checks_of f p m)) ∙ ap (flat_map content_items) (checked-claims f p m)

module _ (f : ℕ) (p : Party) (m shown : Msg) (given : List Check) (old kept new : Digested) (checks : given ≡ checks_of f p m) (same : shown ≡ m) (first : kept ≡ keep_items old (flat_map check_items given)) where
  abbrev stated : List Item
  stated = flat_map content_items (claims f p m)

  abbrev valued : List Item
  valued = flat_map (flat_map value_items) (values_in m)

  given_items : flat_map check_items given ≡ stated
  given_items = ap (flat_map check_items) checks ∙ claims_items f p m

  first_is : kept ≡ keep_items old stated
  first_is = first ∙ ap (keep_items old) given_items

  pub message_kept : new ≡ keep_items kept (flat_map (flat_map value_items) (values_in shown)) → new ≡ keep_items old (message_items f p m)
  message_kept more = more ∙ (λ j. keep_items (first_is j) (flat_map (flat_map value_items) (values_in (same j)))) ∙ sym (keeps_both old stated valued)

  pub message_found : (a b : Bool) → a ≡ any_found old (flat_map check_items given) → b ≡ any_found kept (flat_map (flat_map value_items) (values_in shown)) → (a || b) ≡ any_found old (message_items f p m)
  message_found a b one two =
      (λ j. (one ∙ ap (any_found old) given_items) j || (two ∙ (λ i. any_found (first_is i) (flat_map (flat_map value_items) (values_in (same i))))) j)
      ∙ sym (finds_both old stated valued)
