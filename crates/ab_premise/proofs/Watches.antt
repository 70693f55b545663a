-- The collision that a program finds is the earliest of the run.
use Rattle.std.proofs.Common.{◌≡◌, ℕ, ◌+◌, ◌⊎◌, ◌↔◌, true, false, Bool, Some, None, Option, List, [], ◌∷◌, ◌++◌, length, refl, sym, ap, ◌∙◌, subst, inl, inr, arith, append-nil, true≢false}
use Rattle.std.specs.Prelude.{flat_map}
use Rattle.ab_num.specs.declared.party.Party.{Party}
use Rattle.ab_num.specs.declared.party.Party.TheVariants.{Replica, Client}
use Rattle.ab_num.specs.declared.plan.Kind.{Kind}
use Rattle.ab_msg.specs.declared.message.Msg.{Msg}
use Rattle.ab_abs.specs.Ensembles.{Proto}
use Rattle.ab_abs.specs.FormLaws.{KeepsForm}
use Rattle.ab_links.specs.Digested.{HasNoCollision, Item, history, keep_items, any_found, nothing, histories_of, lists_of, requests_of, IsDigested}
use Rattle.ab_links.proofs.DigestedLemmas.{all_free, none_found, all_kept, fewer, found_step, kept_step, nothing_is, nothing_free, HasNoCollision-same, IsDigested-same, turned}
use Rattle.ab_run.specs.Setups.{RunSetup}
use Rattle.ab_run.specs.Runs.{Event, invoke, to_replica, to_client, replica_time, client_time, Run, run, step}
use Rattle.ab_run.specs.Inputs.{Input, told, came, rang, elsewhere, Opener, opened, event_in, events_in}
use Rattle.ab_premise.specs.declared.breach.Collision.{Collision}
use Rattle.ab_premise.specs.Collisions.{taker_of, IsFree, IsCollidedAt, Watch, first_watch, first_collision, looked, looked_in, items_of, watched}
use Rattle.ab_premise.proofs.Looks.{Looks, HasOwn, event_seen, start_own}

pub not_found : (o : Option Collision) (n : ℕ) (p : Party) → first_collision o n p false ≡ o
not_found None n p = refl
not_found (Some c) n p = refl

-- what comes is no event, or one of its taker
data Came (opens : Opener) (g : Input) : Type 0 where
  quiet : event_in opens g ≡ [] → Came opens g
  eventful : (e : Event) (p : Party) → event_in opens g ≡ e ∷ [] → taker_of g ≡ Some p → Came opens g

opened_came : (opens : Opener) (p : Party) (bytes : List ℕ) (o : Option Msg) → opens p bytes ≡ o → Came opens (came p bytes)
opened_came opens p bytes None e = quiet (ap (opened p) e)
opened_came opens (Replica r) bytes (Some m) e = eventful (to_replica r m) (Replica r) (ap (opened (Replica r)) e) refl
opened_came opens (Client c) bytes (Some m) e = eventful (to_client c m) (Client c) (ap (opened (Client c)) e) refl

came_so : (opens : Opener) (g : Input) → Came opens g
came_so opens (told c command) = eventful (invoke c command) (Client c) refl refl
came_so opens (came p bytes) = opened_came opens p bytes (opens p bytes) refl
came_so opens (rang (Replica r)) = eventful (replica_time r) (Replica r) refl refl
came_so opens (rang (Client c)) = eventful (client_time c) (Client c) refl refl
came_so opens elsewhere = quiet refl

module _ {P : Type 0} (k : RunSetup) (proto : Proto P) {serves : Kind → Bool} (form : KeepsForm proto serves) (opens : Opener) where
  abbrev at : List Input → Run P
  at inputs = run k proto (events_in opens inputs)

  abbrev Free : List Input → Type 0
  Free inputs = IsFree k proto (events_in opens inputs)

  -- what is kept tells of the run over what came, the newest first
  record Tells (x : Watch) (inputs : List Input) : Type 0 where
    free : x.collided ≡ None → Free inputs
    kept : x.collided ≡ None → IsDigested x.kept (at inputs).had (at inputs).lists (at inputs).asked
    found : (c : Collision) → x.collided ≡ Some c → IsCollidedAt k proto opens inputs c.event c.party
    nothing_found : Free inputs → x.collided ≡ None
    only : (c : Collision) → IsCollidedAt k proto opens inputs c.event c.party → x.collided ≡ Some c

  longer : (g : Input) (inputs : List Input) (n : ℕ) (p : Party) → IsCollidedAt k proto opens inputs n p → IsCollidedAt k proto opens (g ∷ inputs) n p
  longer g inputs n p is = record {
    later = g ∷ is.later;
    input = is.input;
    earlier = is.earlier;
    place = ap (λ z. g ∷ z) is.place;
    number = is.number;
    taker = is.taker;
    before = is.before;
    after = is.after;
  }

  -- the newest of what came is the one
  record IsNow (g : Input) (inputs : List Input) (n : ℕ) (p : Party) : Type 0 where
    number : n ≡ length inputs + 1
    taker : taker_of g ≡ Some p
    before : Free inputs
    after : Free (g ∷ inputs) → ⊥

  now_or_before : (g : Input) (inputs : List Input) (n : ℕ) (p : Party) (later : List Input) (input : Input) (earlier : List Input) → g ∷ inputs ≡ later ++ input ∷ earlier → IsNow input earlier n p
      → IsNow g inputs n p ⊎ IsCollidedAt k proto opens inputs n p
  now_or_before g inputs n p [] input earlier e is =
      let heads : g ≡ input = cc (e) in
      let tails : inputs ≡ earlier = cc (e) in
      inl (subst (λ (z : Input). IsNow z inputs n p) (sym heads) (subst (λ (z : List Input). IsNow input z n p) (sym tails) is))
  now_or_before g inputs n p (l ∷ later) input earlier e is =
      let tails : inputs ≡ later ++ input ∷ earlier = cc (e) in
      inr (record { later = later; input = input; earlier = earlier; place = tails; number = is.number; taker = is.taker; before = is.before; after = is.after })

  split : (g : Input) (inputs : List Input) (n : ℕ) (p : Party) → IsCollidedAt k proto opens (g ∷ inputs) n p → IsNow g inputs n p ⊎ IsCollidedAt k proto opens inputs n p
  split g inputs n p is =
      now_or_before g inputs n p is.later is.input is.earlier is.place (record { number = is.number; taker = is.taker; before = is.before; after = is.after })

  tells_quiet : (x : Watch) (g : Input) (inputs : List Input) → event_in opens g ≡ [] → Tells x inputs → Tells x (g ∷ inputs)
  tells_quiet x g inputs none was =
      let same : events_in opens (g ∷ inputs) ≡ events_in opens inputs = ap (λ es. es ++ events_in opens inputs) none in
      let to : Free inputs → Free (g ∷ inputs) = subst (IsFree k proto) (sym same) in
      let from : Free (g ∷ inputs) → Free inputs = subst (IsFree k proto) same in
      record {
        free = λ e. to (was.free e);
        kept = λ e. subst (λ es. IsDigested x.kept (run k proto es).had (run k proto es).lists (run k proto es).asked) (sym same) (was.kept e);
        found = λ c e. longer g inputs c.event c.party (was.found c e);
        nothing_found = λ f. was.nothing_found (from f);
        only = λ c is. elim (split g inputs c.event c.party is) [
          | inl now ↦ absurd (now.after (to now.before))
          | inr sooner ↦ was.only c sooner
        ];
      }

  -- one event of party p
  module _ (x : Watch) (g : Input) (inputs : List Input) (e : Event) (p : Party) (is : event_in opens g ≡ e ∷ []) (taker : taker_of g ≡ Some p)
      (seen : Looks (at inputs) (step k proto (at inputs) e) (items_of k proto (at inputs) e)) (was : Tells x inputs) where
    abbrev w : Run P
    w = at inputs

    abbrev items : List Item
    items = items_of k proto w e

    abbrev n : ℕ
    n = length inputs + 1

    same_events : events_in opens (g ∷ inputs) ≡ e ∷ events_in opens inputs
    same_events = ap (λ es. es ++ events_in opens inputs) is

    abbrev v : Run P
    v = step k proto w e

    to : HasNoCollision v.had v.lists v.asked → Free (g ∷ inputs)
    to = subst (IsFree k proto) (sym same_events)

    from : Free (g ∷ inputs) → HasNoCollision v.had v.lists v.asked
    from = subst (IsFree k proto) same_events

    back : HasNoCollision v.had v.lists v.asked → HasNoCollision (w.had ++ histories_of items) (w.lists ++ lists_of items) (w.asked ++ requests_of items)
    back =
        HasNoCollision-same v.had (w.had ++ histories_of items) v.lists (w.lists ++ lists_of items) v.asked (w.asked ++ requests_of items)
        (turned (w.had ++ histories_of items) v.had seen.histories) (turned (w.lists ++ lists_of items) v.lists seen.lists) (turned (w.asked ++ requests_of items) v.asked seen.requests)

    earlier_free : Free (g ∷ inputs) → Free inputs
    earlier_free f = fewer w.had (histories_of items) w.lists (lists_of items) w.asked (requests_of items) (back (from f))

    same_taker : (q : Party) → taker_of g ≡ Some q → p ≡ q
    same_taker q e' = let both : Some p ≡ Some q = sym taker ∙ e' in cc (both)

    tells_after : (o : Option Collision) (b : Bool) → x.collided ≡ o → any_found x.kept items ≡ b → Tells (looked x n p items) (g ∷ inputs)
    tells_after (Some a) b before test =
        let now : (looked x n p items).collided ≡ Some a = ap (λ o. first_collision o n p (any_found x.kept items)) before in
        record {
          free = λ no. let both : Some a ≡ None = sym now ∙ no in absurd (cc (both));
          kept = λ no. let both : Some a ≡ None = sym now ∙ no in absurd (cc (both));
          found = λ c one. longer g inputs c.event c.party (was.found c (before ∙ sym now ∙ one));
          nothing_found = λ f. let both : Some a ≡ None = sym before ∙ was.nothing_found (earlier_free f) in absurd (cc (both));
          only = λ c at. elim (split g inputs c.event c.party at) [
            | inl this ↦ let both : Some a ≡ None = sym before ∙ was.nothing_found this.before in absurd (cc (both))
            | inr sooner ↦ now ∙ sym before ∙ was.only c sooner
          ];
        }
    tells_after None false before test =
        let now : (looked x n p items).collided ≡ None = (λ j. first_collision (before j) n p (test j)) in
        let are = was.kept before in
        let free = was.free before in
        let all = all_free x.kept w.had w.lists w.asked items are free seen.begins test in
        let after = HasNoCollision-same (w.had ++ histories_of items) v.had (w.lists ++ lists_of items) v.lists (w.asked ++ requests_of items) v.asked seen.histories seen.lists seen.requests all in
        record {
          free = λ no. to after;
          kept = λ no.
              subst (λ es. IsDigested (keep_items x.kept items) (run k proto es).had (run k proto es).lists (run k proto es).asked) (sym same_events)
              (IsDigested-same (w.had ++ histories_of items) v.had (w.lists ++ lists_of items) v.lists (w.asked ++ requests_of items) v.asked seen.histories seen.lists seen.requests (keep_items x.kept items)
              (all_kept x.kept w.had w.lists w.asked items are free seen.begins all));
          found = λ c one. let both : None ≡ Some c = sym now ∙ one in absurd (cc (both));
          nothing_found = λ f. now;
          only = λ c at. elim (split g inputs c.event c.party at) [
            | inl this ↦ absurd (this.after (to after))
            | inr sooner ↦ let both : None ≡ Some c = sym before ∙ was.only c sooner in absurd (cc (both))
          ];
        }
    tells_after None true before test =
        let now : (looked x n p items).collided ≡ Some (record { event = n; party = p }) = (λ j. first_collision (before j) n p (test j)) in
        let are = was.kept before in
        let free = was.free before in
        let not_free : Free (g ∷ inputs) → ⊥ = λ f. true≢false (sym test ∙ none_found x.kept w.had w.lists w.asked items are free seen.begins (back (from f))) in
        record {
          free = λ no. let both : Some (record { event = n; party = p }) ≡ None = sym now ∙ no in absurd (cc (both));
          kept = λ no. let both : Some (record { event = n; party = p }) ≡ None = sym now ∙ no in absurd (cc (both));
          found = λ c one.
              let both : Some (record { event = n; party = p }) ≡ Some c = sym now ∙ one in
              let events : n ≡ c.event = cc (both) in
              let parties : p ≡ c.party = cc (both) in
              record { later = []; input = g; earlier = inputs; place = refl; number = sym events; taker = taker ∙ ap Some parties; before = free; after = not_free };
          nothing_found = λ f. absurd (not_free f);
          only = λ c at. elim (split g inputs c.event c.party at) [
            | inl this ↦
                let events : n ≡ c.event = sym this.number in
                let parties : p ≡ c.party = same_taker c.party this.taker in
                now ∙ (λ j. Some (record { event = events j; party = parties j }))
            | inr sooner ↦ let both : None ≡ Some c = sym before ∙ was.only c sooner in absurd (cc (both))
          ];
        }

  -- ---- all of them

  first_free : Free []
  first_free = (found_step nothing [] [] [] nothing_is nothing_free (history [] 0) (λ some. absurd (omega (arith, some)))).0 refl

  tells_first : Tells first_watch []
  tells_first = record {
    free = λ e. first_free;
    kept = λ e. kept_step nothing [] [] [] nothing_is nothing_free (history [] 0) (λ some. absurd (omega (arith, some))) first_free;
    found = λ c e. absurd (cc (e));
    nothing_found = λ f. refl;
    only = λ c is. absurd (nowhere is.later is.input is.earlier is.place);
  } where
    nowhere : (later : List Input) (input : Input) (earlier : List Input) → [] ≡ later ++ input ∷ earlier → ⊥
    nowhere [] input earlier e = cc (e)
    nowhere (l ∷ later) input earlier e = cc (e)

  record Told (inputs : List Input) : Type 0 where
    tells : Tells (watched k proto opens inputs) inputs
    owns : HasOwn k proto form (at inputs)

  looked_quiet : (x : Watch) (n : ℕ) (o : Option Party) → looked_in k proto x n o [] ≡ x
  looked_quiet x n None = refl
  looked_quiet x n (Some p) = ap (λ c. record { kept = x.kept; collided = c }) (not_found x.collided n p)

  told_step : (g : Input) (inputs : List Input) → Came opens g → Told inputs → Told (g ∷ inputs)
  told_step g inputs (quiet none) was =
      let x = watched k proto opens inputs in
      let same : watched k proto opens (g ∷ inputs) ≡ x = ap (λ es. looked_in k proto x (length inputs + 1) (taker_of g) (flat_map (items_of k proto (at inputs)) es)) none ∙ looked_quiet x (length inputs + 1) (taker_of g) in
      record {
        tells = subst (λ z. Tells z (g ∷ inputs)) (sym same) (tells_quiet x g inputs none was.tells);
        owns = subst (λ es. HasOwn k proto form (run k proto (es ++ events_in opens inputs))) (sym none) was.owns;
      }
  told_step g inputs (eventful e p is taker) was =
      let x = watched k proto opens inputs in
      let seen = event_seen k proto form (at inputs) e was.owns in
      let same : watched k proto opens (g ∷ inputs) ≡ looked x (length inputs + 1) p (items_of k proto (at inputs) e) =
      (λ j. looked_in k proto x (length inputs + 1) (taker j) (flat_map (items_of k proto (at inputs)) (is j)))
      ∙ ap (looked x (length inputs + 1) p) (append-nil (items_of k proto (at inputs) e)) in
      record {
        tells = subst (λ z. Tells z (g ∷ inputs)) (sym same) (tells_after x g inputs e p is taker seen.looks was.tells x.collided (any_found x.kept (items_of k proto (at inputs) e)) refl refl);
        owns = subst (λ es. HasOwn k proto form (run k proto (es ++ events_in opens inputs))) (sym is) seen.owns;
      }

  all_told : (inputs : List Input) → Told inputs
  all_told [] = record { tells = tells_first; owns = start_own k proto form }
  all_told (g ∷ inputs) = told_step g inputs (came_so opens g) (all_told inputs)

  pub free_told : (inputs : List Input) → ((watched k proto opens inputs).collided ≡ None) ↔ Free inputs
  free_told inputs = let all = (all_told inputs).tells in (all.free, all.nothing_found)

  pub earliest_told : (inputs : List Input) (c : Collision) → ((watched k proto opens inputs).collided ≡ Some c) ↔ IsCollidedAt k proto opens inputs c.event c.party
  earliest_told inputs c = let all = (all_told inputs).tells in (all.found c, all.only c)
