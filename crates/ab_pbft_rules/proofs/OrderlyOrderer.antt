-- What holds of PBFT at each replica by itself: it is orderly.
use Rattle.std.proofs.Common.{◌≡◌, ℕ, suc, ◌≤◌, true, Some, None, List, [], ◌∷◌, ◌++◌, ◌⊎◌, refl, sym, ap, ◌∙◌, subst, inl, inr}
use Rattle.std.specs.Prelude.{Contains, unwrap_or, length, ◌+◌}
use Rattle.std.specs.Str.{bytes_eq}
use Rattle.std.proofs.lemmas.Bool.{cases_Bool, and_parts}
use Rattle.std.proofs.lemmas.Option.{none-some, same_Some}
use mathlib.Core.List.{IsPrefix}
use Rattle.ab_num.specs.declared.party.Party.TheVariants.{Replica}
use Rattle.ab_num.proofs.Lists.{flat_map_cases, Contains-one, Contains-map_cases}
use Rattle.ab_hist.specs.declared.request.Request.{Request}
use Rattle.ab_msg.specs.declared.content.Content.{Content}
use Rattle.ab_msg.specs.declared.content.Content.TheVariants as content
use Rattle.ab_msg.specs.Claims.{maker_of, instance_of}
use Rattle.ab_abs.specs.Values.{orders, list_of, base_in}
use Rattle.ab_msg.specs.declared.value.Value.{Value}
use Rattle.ab_msg.specs.declared.value.Value.TheVariants.{Base, Request as Order}
use Rattle.ab_msg.specs.Slots.{slot_digest}
use Rattle.ab_lock.specs.Acts as lock
use Rattle.ab_lock.specs.Acts.{Prepare, Commit, ViewChange, made}
use Rattle.ab_pbft_rules.proofs.SlotValues.{log_prefix}
use Rattle.ab_order.specs.Orders.{is_ordering}
use Rattle.ab_order.specs.Orderers.{IsOrderly}
use Rattle.ab_order.specs.Inputs.{Reading, request, pre_prepare_base, pre_prepare, prepare, commit, view_change, new_view, timeout, other, offered_by, handed}
use Rattle.ab_pbft_rules.specs.Traces.{OrderStep, content_of}
use Rattle.ab_pbft_rules.specs.Rules.{Pbft, core_of, base_of, may_take, take_value, settle, Doing, sayings, pbft, offers, idle, takes_step, leads, done_by, is_empty, may_take_base}
use Rattle.ab_pbft_rules.proofs.OneOrder.{vote_orders}
use Rattle.ab_pbft_rules.proofs.RuleInduction.{settle_accepted, empty_is}
use Rattle.ab_pbft_rules.proofs.Growing.{event_grows}
use Rattle.ab_pbft_rules.proofs.Allowed.{reached_within}
use Rattle.ab_pbft_rules.proofs.ExecutedLists.{list_length}
use Rattle.ab_lock.proofs.ActLemmas.{maker_made}

-- lists of values
pub base_same : (h : List Value) → unwrap_or (base_of h) [] ≡ base_in h
base_same [] = refl
base_same (Base b ∷ h) = refl
base_same (Order m ∷ h) = refl

nothing_listed : (h : List Value) → base_of h ≡ None → list_of h ≡ []
nothing_listed [] none = refl
nothing_listed (Base b ∷ h) none = absurd (none-some b (sym none))
nothing_listed (Order m ∷ h) none = refl

base_starts : (h : List Value) (b : List Request) → base_of h ≡ Some b → IsPrefix b (list_of h)
base_starts [] b is = absurd (none-some b is)
base_starts (Base c ∷ h) b is = let e : c ≡ b = same_Some c b is in (orders h, ap (λ z. z ++ orders h) (sym e))
base_starts (Order m ∷ h) b is = absurd (none-some b is)

base_stays : (h l : List Value) (b : List Request) → IsPrefix h l → base_of h ≡ Some b → base_of l ≡ Some b
base_stays [] l b p is = absurd (none-some b is)
base_stays (Base c ∷ h) l b p is = ap base_of (sym p.1) ∙ is
base_stays (Order m ∷ h) l b p is = absurd (none-some b is)

list_within : (k : ℕ) (h : List Value) (b : List Request) → length h ≤ suc k → base_of h ≡ Some b → length (list_of h) ≤ length b + k
list_within k h b le is =
    let same : base_in h ≡ b = sym (base_same h) ∙ ap (λ o. unwrap_or o []) is in
    subst (λ (l : List Request). length (list_of h) ≤ length l + k) same (list_length k h le)

vote_is : (i : ℕ) (c : lock.LockContent (List ℕ)) → (maker_of (content_of i c) ≡ Replica (lock.maker_of c)) × (instance_of (content_of i c) ≡ i)
vote_is i (Prepare r v n d) = (refl, refl)
vote_is i (Commit r v n d) = (refl, refl)
vote_is i (ViewChange r v l) = (refl, refl)

-- why a statement is made: a step of the event says it, or it is a primary's
pub data IsMade (i r : ℕ) (steps : List OrderStep) (s : Content) : Type 0 where
  by_step : (c : lock.LockContent (List ℕ)) (step : OrderStep) → content_of i c ≡ s → Contains steps step → Contains (made slot_digest r step) c → IsMade i r steps s
  by_offer : (v n : ℕ) (d : List ℕ) → content.PrePrepare (Replica r) i v n d ≡ s → IsMade i r steps s
  by_lead : (v : ℕ) → content.NewView (Replica r) i v ≡ s → IsMade i r steps s

pub made_cases : (p : Pbft) (e : Reading) (s : Content) → Contains (pbft.makes p e) s → IsMade p.seat.i p.seat.me (done_by p e).steps s
made_cases p e s has =
    let d = flat_map_cases (sayings p.seat.i p.seat.me) (done_by p e).doings s has in
    of_doing d.0 d.1 d.2
  where
    of_doing : (d : Doing) → Contains (done_by p e).doings d → Contains (sayings p.seat.i p.seat.me d) s → IsMade p.seat.i p.seat.me (done_by p e).steps s
    of_doing (takes_step step) is says =
        let c = Contains-map_cases (content_of p.seat.i) (made slot_digest p.seat.me step) s says in
        by_step c.0 step c.2 ((event_grows p.seat p.memory e).stepped step is) c.1
    of_doing (offers v n value) is says = by_offer v n (slot_digest value) (Contains-one _ s says)
    of_doing (leads v) is says = by_lead v (Contains-one _ s says)

-- each is its replica's, of its instance, and of an order
pub made_is : (i r : ℕ) (steps : List OrderStep) (s : Content) → IsMade i r steps s → (maker_of s ≡ Replica r) × (instance_of s ≡ i) × (is_ordering s ≡ true)
made_is i r steps s (by_step c step is in_steps makes) =
    let v = vote_is i c in
    (ap maker_of (sym is) ∙ (v.0 ∙ ap Replica (sym (maker_made slot_digest r step c makes))), ap instance_of (sym is) ∙ v.1, ap is_ordering (sym is) ∙ vote_orders i c)
made_is i r steps s (by_offer v n d is) = (ap maker_of (sym is), ap instance_of (sym is), ap is_ordering (sym is))
made_is i r steps s (by_lead v is) = (ap maker_of (sym is), ap instance_of (sym is), ap is_ordering (sym is))

-- slot 0 stays, or has the history that is offered
opens_with : (p : Pbft) (e : Reading) (h : List Request) → offered_by e ≡ Some h → (pbft.first (pbft.after p e) ≡ pbft.first p) ⊎ (pbft.first (pbft.after p e) ≡ Some h)
opens_with p (request m) h is = absurd (none-some h is)
opens_with p (pre_prepare_base by view x l) h is =
    elim (cases_Bool (may_take_base p.seat (idle p.memory) by view x l)) [
      | inr not_now ↦ inl (rw not_now refl)
      | inl now ↦
          let rest = (and_parts (may_take p.seat (idle p.memory) by view) _ now).1 in
          let none = empty_is p.memory.peer.core.accepted (and_parts (is_empty p.memory.peer.core.accepted) (bytes_eq x (slot_digest (Base l))) rest).0 in
          let then_is : (core_of (settle p.seat (take_value (Base l) (idle p.memory)))).accepted ≡ Base l ∷ [] = settle_accepted p.seat (take_value (Base l) (idle p.memory)) ∙ ap (λ z. z ++ (Base l ∷ [])) none in
          inr (rw now (ap base_of then_is ∙ is))
    ]
opens_with p (pre_prepare by view slot x q) h is = absurd (none-some h is)
opens_with p (prepare by view slot x) h is = absurd (none-some h is)
opens_with p (commit by view slot x) h is = absurd (none-some h is)
opens_with p (view_change change) h is = absurd (none-some h is)
opens_with p (new_view by view changes) h is = absurd (none-some h is)
opens_with p timeout h is = absurd (none-some h is)
opens_with p other h is = absurd (none-some h is)

grows : (p : Pbft) (e : Reading) → IsPrefix p.memory.peer.core.executed (pbft.after p e).memory.peer.core.executed
grows p e = (event_grows p.seat p.memory e).grown

pub pbft_orderly : IsOrderly handed pbft
pbft_orderly = record {
  begun = λ k f i me h. (refl, refl);
  empty = λ p none. nothing_listed p.memory.peer.core.executed none;
  begins = λ p h is. base_starts p.memory.peer.core.executed h is;
  keeps = λ p e h is. base_stays p.memory.peer.core.executed (pbft.after p e).memory.peer.core.executed h (grows p e) is;
  grows = λ p e. log_prefix p.memory.peer.core.executed (pbft.after p e).memory.peer.core.executed (grows p e);
  at_most = λ k p h reached is. list_within k p.memory.peer.core.executed h (reached_within k p reached) is;
  opens = opens_with;
  idles = λ p. refl;
  placed = λ k f i me h. (refl, refl);
  stays = λ p e. (refl, refl);
  orders = λ p e s has. made_is p.seat.i p.seat.me (done_by p e).steps s (made_cases p e s has);
}
