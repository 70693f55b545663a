-- In the midst of an event: each rule leads from where a replica's steps left it to where they leave it then.
use Rattle.std.proofs.Common.{◌≡◌, ℕ, zero, suc, ◌+◌, ◌*◌, ◌<◌, ◌≤◌, ◌==◌, true, false, Some, None, List, [], ◌∷◌, ◌++◌, length, slice_get, map, refl, sym, ap, ◌∙◌, subst, inl, inr, arith}
use Rattle.std.specs.Prelude.{Contains}
use Rattle.std.specs.Str.{bytes_eq}
use Rattle.std.proofs.lemmas.Bool.{cases_Bool}
use Rattle.std.proofs.lemmas.List.Elements.{Contains-append_cases}
use Rattle.std.proofs.lemmas.Slice.Eq.{bytes_eq-Decides}
use Rattle.ab_num.specs.declared.party.Party.TheVariants.{Client}
use Rattle.ab_num.proofs.Lists.{Contains-head, Contains-tail, Contains-cons_cases, Contains-flat_map, flat_map_cases, Contains-one, Contains-none, Contains-map, Contains-map_cases}
use Rattle.ab_hist.specs.declared.request.Request.{Request}
use Rattle.ab_hist.specs.Histories.{IsHistory}
use Rattle.ab_msg.specs.declared.content.Content.TheVariants as content
use Rattle.ab_msg.specs.declared.value.Value.{Value}
use Rattle.ab_msg.specs.declared.value.Value.TheVariants.{Base, Request as Order}
use Rattle.ab_msg.specs.Slots.{slot_digest}
use Rattle.ab_abs.specs.Observations.{IsInitHistory}
use Rattle.ab_abs.specs.Values.{goes, IsOfSlot}
use Rattle.ab_abs.specs.Acts.{Setting, Act, observations}
use Rattle.ab_abs.specs.OrderRules.{WasClaimed}
use Rattle.ab_lock.specs.Quorums.{quorum}
use Rattle.ab_lock.specs.Steps.{Change, Cert, accepts, enters, State, cert_at}
use Rattle.ab_lock.specs.Acts as lock
use Rattle.ab_lock.specs.Acts.{Prepare, Commit, made, steps_of, AreLawful, Knows, KnowsChanges}
use Rattle.ab_lock.specs.ViewChanges.{Kept, of_view, lowest, leave, own_change, enter, IsRising}
use Rattle.ab_lock.specs.Events.{Peer, act_of, peer_by, settles_by, entered_peer, left_peer, accept, accepted_peer, with_vote, with_commit}
use Rattle.ab_lock.specs.Standing.{PeerStands, AreKeptChanges}
use Rattle.ab_lock.proofs.Lists.{nth_map, Contains-nth, Contains-take}
use Rattle.ab_lock.proofs.ActLemmas.{steps_own, WasMade-more, Knows-more, quorum_more, changes_more, lawful_follows, lawful_backs}
use Rattle.ab_lock.proofs.VoteLemmas.{keep_kept, settled_in_view}
use Rattle.ab_lock.proofs.ViewChangeLemmas.{listed, of_view_in, own_fits, lowest_known}
use Rattle.ab_lock.proofs.KeptChanges.{keeps_more, keeps_put, put_in, put_rises, rising_once}
use Rattle.ab_lock.proofs.EventLaws.{kept_more, settle_lawful, accept_lawful, enter_lawful, leave_lawful, own_change_known}
use Rattle.ab_order.specs.Orders.{WasShown, MayBeOrdered}
use Rattle.ab_order.specs.Inputs.{Reading, request, pre_prepare, prepare, commit, view_change, ChangeReading, change_values, input_values, asked_by, offered_by, IsChange, IsGiven}
use Rattle.ab_order.proofs.BackupLaws.{keep_cases}
use Rattle.ab_pbft_rules.specs.Traces.{OrderStep, OrderAct, content_of, IsSource}
use Rattle.ab_pbft_rules.specs.Standing.{AreShown, IsMid}
use Rattle.ab_pbft_rules.specs.Rules.{Placement, Memory, Work, core_of, with_peer, base_of, cert_of, change_of, fits, without, keep_request, keep_change, settle, take_value, leave_to, work}
use Rattle.ab_pbft_rules.proofs.RuleInduction.{WhyTaken, own_base, waiting, base_brought, request_brought, WhyEntered, from_kept, from_new_view, MayEnter, IsKept, work_kept}
use Rattle.ab_pbft_rules.proofs.GoodValues.{good_certs}
use Rattle.ab_pbft_rules.proofs.ChangeInputs.{input_said, change_known, change_fits, new_view_known}

source_ordered : (x : Setting) (own : List Act) (n : ℕ) (value : Value) → IsSource x own n value → IsOfSlot n value × MayBeOrdered x own value
source_ordered x own zero (Base h) is = (tt, inl is.0)
source_ordered x own zero (Order m) is = absurd is
source_ordered x own (suc n) (Base h) is = absurd is
source_ordered x own (suc n) (Order m) is = (tt, inl is)

request_source : (x : Setting) (own : List Act) (accepted : List Value) (m : Request) → goes accepted (Order m) ≡ true → WasClaimed own (content.Req (Client m.client) x.i m) → IsSource x own (length accepted) (Order m)
request_source x own [] m fits claimed = absurd (cc (fits))
request_source x own (value ∷ accepted) m fits claimed = claimed

shown_ordered : (x : Setting) (own : List Act) (value : Value) → WasShown own value → MayBeOrdered x own value
shown_ordered x own (Base h) shown = inr shown
shown_ordered x own (Order m) shown = inr shown

-- the kept VIEW-CHANGEs without one replica's
module _ (r : ℕ) where
  without_in : (kept : List (Kept Value)) (u : Kept Value) → Contains (without r kept) u → Contains kept u
  without_in [] u has = has
  without_in (o ∷ kept) u has =
      elim (cases_Bool (o.change.by == r)) [
        | inl own ↦ Contains-tail o u kept (without_in kept u (rw own at has))
        | inr differs ↦ elim (Contains-cons_cases o (without r kept) u (rw differs at has)) [
          | inl e ↦ subst (λ (z : Kept Value). Contains (o ∷ kept) z) e (Contains-head o kept)
          | inr more ↦ Contains-tail o u kept (without_in kept u more)
        ]
      ]

  without_rises : (kept : List (Kept Value)) → IsRising kept → IsRising (without r kept)
  without_rises [] rising = rising
  without_rises (o ∷ kept) rising =
      elim (cases_Bool (o.change.by == r)) [
        | inl own ↦ rw own (without_rises kept rising.1)
        | inr differs ↦ rw differs (λ u has. rising.0 u (without_in kept u has), without_rises kept rising.1)
      ]

  without_keeps : (f : ℕ) (trace : List OrderAct) (kept : List (Kept Value)) → IsRising kept → AreKeptChanges slot_digest f trace r kept → AreKeptChanges slot_digest f trace r (without r kept)
  without_keeps f trace kept rising keeps = record {
    once = rising_once (without r kept) (without_rises kept rising);
    within = λ u has. keeps.within u (without_in kept u has);
    known = λ u has. keeps.known u (without_in kept u has);
    fits = λ u has. keeps.fits u (without_in kept u has);
  }

module _ (x : Setting) (k r : ℕ) (own : List Act) (Said : lock.LockContent (List ℕ) → Type 0) where
  abbrev Lawful : List OrderAct → Type 0
  Lawful trace = AreLawful slot_digest x.cluster.f (IsSource x own) goes k trace

  -- one more act of the trace, after which only where the replica is in the rules has changed
  pub mid_more : (trace : List OrderAct) (at : Memory) (now : List OrderStep) (claims : List (lock.LockContent (List ℕ))) (more : List OrderStep) (q : Peer Value (List ℕ)) → IsMid x k r own Said trace at now
      → ((c : lock.LockContent (List ℕ)) → Contains claims c → WasClaimed own (content_of x.i c))
      → ((v : ℕ) (vcs : List (Change Value)) (chosen : List Value) (c : Change Value) → Contains more (enters v vcs chosen) → Contains vcs c → AreShown x own c)
      → Lawful (act_of r claims more ∷ trace) → PeerStands slot_digest x.cluster.f (act_of r claims more ∷ trace) r q
      → IsMid x k r own Said (act_of r claims more ∷ trace) (record at { peer = q }) (more ++ now)
  mid_more trace at now claims more q mid claimed shown lawful peer =
      let a = act_of r claims more in
      record {
        lawful = lawful;
        mine = λ b has. elim (Contains-cons_cases a trace b has) [ inl e ↦ ap (λ z. z.by) (sym e) | inr older ↦ mid.mine b older ];
        claimed = λ b c has claims_c.
            elim (Contains-cons_cases a trace b has) [
              | inl e ↦ claimed c (subst (λ (z : OrderAct). Contains z.claims c) (sym e) claims_c)
              | inr older ↦ mid.claimed b c older claims_c
            ];
        shown = λ v vcs chosen c has in_vcs.
            elim (Contains-append_cases more (steps_of trace r) (enters v vcs chosen) (subst (λ (l : List OrderStep). Contains l (enters v vcs chosen)) (steps_own slot_digest a trace r refl) has)) [
              | inl new ↦ shown v vcs chosen c new in_vcs
              | inr old ↦ mid.shown v vcs chosen c old in_vcs
            ];
        peer = peer;
        changes = keeps_more slot_digest x.cluster.f r a trace at.changes mid.changes;
        rising = mid.rising;
        changes_shown = mid.changes_shown;
        requests = mid.requests;
        made = λ c has.
            let s = flat_map_cases (made slot_digest r) (more ++ now) c has in
            elim (Contains-append_cases more now s.0 s.1) [
              | inl new ↦ record { act = a; is_in = Contains-head a trace; step = s.0; is_step = new; makes = s.2 }
              | inr old ↦ WasMade-more slot_digest a trace c (mid.made c (Contains-flat_map (made slot_digest r) now s.0 c old s.2))
            ];
        said = λ c was. WasMade-more slot_digest a trace c (mid.said c was);
      }

  no_claims : (c : lock.LockContent (List ℕ)) → Contains [] c → WasClaimed own (content_of x.i c)
  no_claims c has = absurd (Contains-none c has)

  -- a step that enters no view
  no_entry : (step : OrderStep) → ((v : ℕ) (vcs : List (Change Value)) (chosen : List Value) → step ≡ enters v vcs chosen → ⊥) → (v : ℕ) (vcs : List (Change Value)) (chosen : List Value) (c : Change Value) → Contains (step ∷ []) (enters v vcs chosen) → Contains vcs c → AreShown x own c
  no_entry step other v vcs chosen c has in_vcs = absurd (other v vcs chosen (Contains-one step (enters v vcs chosen) has))

  -- certificates are of their slots, and of values that may be ordered
  certs_shown : (trace : List OrderAct) (at : Memory) (now : List OrderStep) → IsMid x k r own Said trace at now → (t : ℕ) (c : Cert Value) → cert_at at.peer.core.certs t ≡ Some c → IsOfSlot t c.value × MayBeOrdered x own c.value
  certs_shown trace at now mid t c is =
      let follows = lawful_follows slot_digest x.cluster.f (IsSource x own) goes k trace mid.lawful r in
      good_certs k (λ n value. IsOfSlot n value × MayBeOrdered x own value) (steps_of trace r) follows
      (λ n value has. source_ordered x own n value (lawful_backs slot_digest x.cluster.f (IsSource x own) goes k trace mid.lawful r (accepts n value) has))
      (λ v vcs chosen c' n cert has in_vcs there. mid.shown v vcs chosen c' has in_vcs n cert there) t c (ap (λ s. cert_at s.certs t) (sym mid.peer.core) ∙ is)

  module _ (lt : r < 3 * x.cluster.f + 1) (base : List Request) (based : IsInitHistory (observations own) x.i base × IsHistory base) (e : Reading) (start : Work) where
    abbrev seat : Placement
    seat = record { k = k; f = x.cluster.f; i = x.i; me = r; base = base }

    -- what is known of the event in the list of the replica's acts
    pub record IsTold : Type 0 where
      pub given : IsGiven x.cluster.f e
      pub shown : (value : Value) → Contains (input_values e) value → WasShown own value
      pub asked : (m : Request) → asked_by e ≡ Some m → WasClaimed own (content.Req (Client m.client) x.i m)
      pub brought : (by view slot : ℕ) (d : List ℕ) (m : Request) → e ≡ pre_prepare by view slot d m → WasClaimed own (content.Req (Client m.client) x.i m)
      pub noted : (h : List Request) → offered_by e ≡ Some h → base_of (core_of start).accepted ≡ None → base_of (core_of (work seat e start)).accepted ≡ Some h → IsInitHistory (observations own) x.i h × IsHistory h

    -- the replica is in the midst of the event, and knows what stands in it
    pub record IsThere (w : Work) : Type 0 where
      pub trace : List OrderAct
      pub mid : IsMid x k r own Said trace w.at w.steps
      pub knows : (c : lock.LockContent (List ℕ)) → Contains (input_said e) c → Knows slot_digest trace r c

    knows_more : (a : OrderAct) (trace : List OrderAct) → ((c : lock.LockContent (List ℕ)) → Contains (input_said e) c → Knows slot_digest trace r c) → (c : lock.LockContent (List ℕ)) → Contains (input_said e) c → Knows slot_digest (a ∷ trace) r c
    knows_more a trace knows c has = Knows-more slot_digest a trace r c (knows c has)

    settles_on : (w : Work) → IsThere w → IsThere (settle seat w)
    settles_on w there =
        let p = w.at.peer in
        let n = suc (3 * suc k) in
        let more = settles_by slot_digest bytes_eq goes x.cluster.f r (suc (3 * suc k)) w.at.peer in
        let a = act_of r [] more in
        let mid = there.mid in
        let l = settle_lawful slot_digest goes k x.cluster.f (IsSource x own) r lt bytes_eq bytes_eq-Decides n there.trace [] p mid.lawful mid.peer.core
        (kept_more slot_digest x.cluster.f r a there.trace _ p.votes mid.peer.votes) (kept_more slot_digest x.cluster.f r a there.trace _ p.commits mid.peer.commits) in
        record {
          trace = a ∷ there.trace;
          mid = mid_more there.trace w.at w.steps [] more (peer_by slot_digest r more p) mid no_claims
              (λ v vcs chosen c has in_vcs. absurd (settled_in_view slot_digest bytes_eq goes x.cluster.f r n p.core p.votes p.commits (enters v vcs chosen) has)) l.0 l.1;
          knows = knows_more a there.trace there.knows;
        }

    takes_on : (w : Work) (value : Value) → IsThere w → (core_of w).changing ≡ false → length (core_of w).accepted ≤ k → goes (core_of w).accepted value ≡ true → IsSource x own (length (core_of w).accepted) value → IsThere (take_value value w)
    takes_on w value there still room on source =
        let step = accept {V = Value} {X = List ℕ} (core_of w) value in
        let a = act_of r [] (accept (core_of w) value ∷ []) in
        let l = accept_lawful slot_digest goes k x.cluster.f (IsSource x own) r lt there.trace w.at.peer value there.mid.lawful there.mid.peer still room on source in
        record {
          trace = a ∷ there.trace;
          mid = mid_more there.trace w.at w.steps [] (accept (core_of w) value ∷ []) (accepted_peer value w.at.peer) there.mid no_claims (no_entry step (λ v vcs chosen is. absurd (cc (is)))) l.0 l.1;
          knows = knows_more a there.trace there.knows;
        }

    enters_on : (w : Work) (v : ℕ) (vcs : List (Change Value)) (there : IsThere w) → MayEnter (core_of w) v → KnowsChanges slot_digest x.cluster.f there.trace r v vcs → ((c : Change Value) → Contains vcs c → AreShown x own c)
        → IsThere (with_peer w (entered_peer goes k v vcs w.at.peer) (enter goes k v vcs ∷ []))
    enters_on w v vcs there may knows shows =
        let step = enter {V = Value} {X = List ℕ} goes k v vcs in
        let a = act_of r [] (enter {V = Value} {X = List ℕ} goes k v vcs ∷ []) in
        let l = enter_lawful slot_digest goes k x.cluster.f (IsSource x own) r lt there.trace w.at.peer v vcs there.mid.lawful there.mid.peer may (changes_more slot_digest x.cluster.f a there.trace r v vcs knows) in
        record {
          trace = a ∷ there.trace;
          mid = mid_more there.trace w.at w.steps [] (enter goes k v vcs ∷ []) (entered_peer goes k v vcs w.at.peer) there.mid no_claims
              (λ u us chosen c has in_us.
              let e = Contains-one step (enters u us chosen) has in
              let same : vcs ≡ us = cc (e) in
              shows c (subst (λ (z : List (Change Value)). Contains z c) (sym same) in_us)) l.0 l.1;
          knows = knows_more a there.trace there.knows;
        }

    -- leaving for a higher view, with its own VIEW-CHANGE
    leaves_on : (w : Work) (v : ℕ) → IsThere w → (core_of w).view < v → IsThere (leave_to seat v w)
    leaves_on w v there above =
        let mid = there.mid in
        let step = leave slot_digest k (core_of w) v in
        let a = act_of r [] (leave slot_digest k (core_of w) v ∷ []) in
        let l = leave_lawful slot_digest goes k x.cluster.f (IsSource x own) r lt there.trace w.at.peer v mid.lawful mid.peer above in
        let u : Kept Value = record { view = v; change = own_change k r (core_of w) } in
        let left = mid_more there.trace w.at w.steps [] (leave slot_digest k (core_of w) v ∷ []) (left_peer slot_digest k v w.at.peer) mid no_claims (no_entry step (λ y us chosen is. absurd (cc (is)))) l.0 l.1 in
        let follows = lawful_follows slot_digest x.cluster.f (IsSource x own) goes k there.trace mid.lawful r in
        let backed = lawful_backs slot_digest x.cluster.f (IsSource x own) goes k there.trace mid.lawful r in
        let rising = without_rises r w.at.changes mid.rising in
        record {
          trace = a ∷ there.trace;
          mid = record {
            lawful = left.lawful;
            mine = left.mine;
            claimed = left.claimed;
            shown = left.shown;
            peer = left.peer;
            changes = keeps_put slot_digest x.cluster.f r (a ∷ there.trace) u (without r w.at.changes) rising (without_keeps r x.cluster.f (a ∷ there.trace) w.at.changes mid.rising left.changes) lt
                (own_change_known slot_digest x.cluster.f r there.trace [] (leave slot_digest k (core_of w) v ∷ []) k (core_of w) v (Contains-head _ []))
                (λ t cert at.
                let f = own_fits slot_digest goes k x.cluster.f (IsSource x own) there.trace r (steps_of there.trace r) v follows backed (subst (λ (s : State Value). s.view < v) mid.peer.core above) t cert
                (subst (λ (s : State Value). slice_get (own_change k r s).certs t ≡ Some cert) mid.peer.core at) in
                (f.0, quorum_more slot_digest x.cluster.f a there.trace r _ f.1));
            rising = put_rises u (without r w.at.changes) rising;
            changes_shown = λ y has.
                elim (put_in u (without r w.at.changes) y has) [
                  | inl e ↦ subst (λ (z : Kept Value). AreShown x own z.change) e (λ t cert at.
                      let zero_less : t ≡ 0 + t = omega arith in
                      certs_shown there.trace w.at w.steps mid t cert (ap (cert_at (core_of w).certs) zero_less ∙ listed (cert_at (core_of w).certs) (suc k) 0 t cert at))
                  | inr old ↦ mid.changes_shown y (without_in r w.at.changes y old)
                ];
            requests = left.requests;
            made = left.made;
            said = left.said;
          };
          knows = knows_more a there.trace there.knows;
        }

    module _ (told : IsTold) where
      source_of : (w : Work) (value : Value) → IsThere w → goes (core_of w).accepted value ≡ true → WhyTaken seat e start w value → IsSource x own (length (core_of w).accepted) value
      source_of w value there on (own_base none few is) =
          subst (λ (z : Value). IsSource x own (length (core_of w).accepted) z) (sym is) (subst (λ (l : List Value). IsSource x own (length l) (Base base)) (sym none) based)
      source_of w value there on (waiting m has is) =
          subst (λ (z : Value). IsSource x own (length (core_of w).accepted) z) (sym is)
          (request_source x own (core_of w).accepted m (ap (λ z. goes (core_of w).accepted z) (sym is) ∙ on) (there.mid.requests m has))
      source_of w value there on (base_brought by view d h e_is none none_here is then_is) =
          let init = told.noted h (ap offered_by e_is) (ap base_of none) (ap base_of then_is) in
          subst (λ (z : Value). IsSource x own (length (core_of w).accepted) z) (sym is) (subst (λ (l : List Value). IsSource x own (length l) (Base h)) (sym none_here) init)
      source_of w value there on (request_brought by view slot d m e_is is) =
          subst (λ (z : Value). IsSource x own (length (core_of w).accepted) z) (sym is)
          (request_source x own (core_of w).accepted m (ap (λ z. goes (core_of w).accepted z) (sym is) ∙ on) (told.brought by view slot d m e_is))

      -- the values of a VIEW-CHANGE that came
      change_shown : (change : ChangeReading) → IsChange x.cluster.f change → ((value : Value) → Contains (change_values change) value → WasShown own value) → AreShown x own (change_of change)
      change_shown change is shown t cert there =
          let w = nth_map cert_of change.slots t cert there in
          subst (λ (z : Cert Value). IsOfSlot t z.value × MayBeOrdered x own z.value) w.2
          (is.kinds t w.0 w.1, shown_ordered x own w.0.value (shown w.0.value (Contains-map (λ s. s.value) change.slots w.0 (Contains-nth change.slots t w.0 w.1))))

      entered_by : (w : Work) (v : ℕ) (vcs : List (Change Value)) → IsThere w → MayEnter (core_of w) v → WhyEntered seat e start w v vcs → IsThere (with_peer w (entered_peer goes k v vcs w.at.peer) (enter goes k v vcs ∷ []))
      entered_by w v vcs there may (from_kept is many) =
          subst (λ (us : List (Change Value)). IsThere (with_peer w (entered_peer goes k v us w.at.peer) (enter goes k v us ∷ []))) (sym is)
          (enters_on w v (lowest x.cluster.f w.at.changes v) there may (lowest_known slot_digest x.cluster.f there.trace r w.at.changes v there.mid.changes many)
          (λ c has.
          let u = of_view_in w.at.changes v c (Contains-take (quorum x.cluster.f) (of_view w.at.changes v) c has) in
          subst (λ (z : Change Value). AreShown x own z) u.3 (there.mid.changes_shown u.0 u.1)))
      entered_by w v vcs there may (from_new_view by inputs e_is fit is) =
          let given = subst (λ (i : Reading). IsGiven x.cluster.f i) e_is told.given in
          let shown = subst (λ (i : Reading). (value : Value) → Contains (input_values i) value → WasShown own value) e_is told.shown in
          let knows = subst (λ (i : Reading). (c : lock.LockContent (List ℕ)) → Contains (input_said i) c → Knows slot_digest there.trace r c) e_is there.knows in
          subst (λ (us : List (Change Value)). IsThere (with_peer w (entered_peer goes k v us w.at.peer) (enter goes k v us ∷ []))) (sym is)
          (enters_on w v (map change_of inputs) there may (new_view_known x.cluster.f there.trace r v inputs given.1 fit knows)
          (λ c has.
          let z = Contains-map_cases change_of inputs c has in
          subst (λ (y : Change Value). AreShown x own y) z.2 (change_shown z.0 (given.1 z.0 z.1) (λ value in_change. shown value (Contains-flat_map change_values inputs z.0 value z.1 in_change)))))

      keeps_request : (m : Request) → e ≡ request m → IsThere start → IsThere (keep_request m start)
      keeps_request m e_is there =
          let mid = there.mid in
          let claimed = told.asked m (ap asked_by e_is) in
          record {
            trace = there.trace;
            mid = record {
              lawful = mid.lawful;
              mine = mid.mine;
              claimed = mid.claimed;
              shown = mid.shown;
              peer = mid.peer;
              changes = mid.changes;
              rising = mid.rising;
              changes_shown = mid.changes_shown;
              requests = λ q has. elim (keep_cases m start.at.requests q has) [ inl same ↦ subst (λ (z : Request). WasClaimed own (content.Req (Client z.client) x.i z)) same claimed | inr old ↦ mid.requests q old ];
              made = mid.made;
              said = mid.said;
            };
            knows = there.knows;
          }

      keeps_change : (change : ChangeReading) → e ≡ view_change change → fits x.cluster.f change ≡ true → IsThere start → IsThere (keep_change change start)
      keeps_change change e_is fit there =
          let mid = there.mid in
          let given = subst (λ (i : Reading). IsGiven x.cluster.f i) e_is told.given in
          let shown = subst (λ (i : Reading). (value : Value) → Contains (input_values i) value → WasShown own value) e_is told.shown in
          let knows = subst (λ (i : Reading). (c : lock.LockContent (List ℕ)) → Contains (input_said i) c → Knows slot_digest there.trace r c) e_is there.knows in
          let u : Kept Value = record { view = change.view; change = change_of change } in
          record {
            trace = there.trace;
            mid = record {
              lawful = mid.lawful;
              mine = mid.mine;
              claimed = mid.claimed;
              shown = mid.shown;
              peer = mid.peer;
              changes = keeps_put slot_digest x.cluster.f r there.trace u start.at.changes mid.rising mid.changes given.maker
                  (change_known x.cluster.f there.trace r change given fit knows) (change_fits x.cluster.f there.trace r change given fit knows);
              rising = put_rises u start.at.changes mid.rising;
              changes_shown = λ y has.
                  elim (put_in u start.at.changes y has) [
                    | inl same ↦ subst (λ (z : Kept Value). AreShown x own z.change) same (change_shown change given shown)
                    | inr old ↦ mid.changes_shown y old
                  ];
              requests = mid.requests;
              made = mid.made;
              said = mid.said;
            };
            knows = there.knows;
          }

      keeps_vote : (by slot : ℕ) (d : List ℕ) → e ≡ prepare by (core_of start).view slot d → IsThere start → IsThere (with_peer start (with_vote (record { by = by; slot = slot; x = d }) start.at.peer) [])
      keeps_vote by slot d e_is there =
          let mid = there.mid in
          let given = subst (λ (i : Reading). IsGiven x.cluster.f i) e_is told.given in
          let knows = there.knows (Prepare by (core_of start).view slot d) (subst (λ (i : Reading). Contains (input_said i) (Prepare by (core_of start).view slot d)) (sym e_is) (Contains-head _ [])) in
          record {
            trace = there.trace;
            mid = record {
              lawful = mid.lawful;
              mine = mid.mine;
              claimed = mid.claimed;
              shown = mid.shown;
              peer = record {
                core = mid.peer.core;
                votes = keep_kept slot_digest x.cluster.f there.trace r (λ q n z. Prepare q (core_of start).view n z) (record { by = by; slot = slot; x = d }) start.at.peer.votes mid.peer.votes given knows;
                commits = mid.peer.commits;
              };
              changes = mid.changes;
              rising = mid.rising;
              changes_shown = mid.changes_shown;
              requests = mid.requests;
              made = mid.made;
              said = mid.said;
            };
            knows = there.knows;
          }

      keeps_commit : (by slot : ℕ) (d : List ℕ) → e ≡ commit by (core_of start).view slot d → IsThere start → IsThere (with_peer start (with_commit (record { by = by; slot = slot; x = d }) start.at.peer) [])
      keeps_commit by slot d e_is there =
          let mid = there.mid in
          let given = subst (λ (i : Reading). IsGiven x.cluster.f i) e_is told.given in
          let knows = there.knows (Commit by (core_of start).view slot d) (subst (λ (i : Reading). Contains (input_said i) (Commit by (core_of start).view slot d)) (sym e_is) (Contains-head _ [])) in
          record {
            trace = there.trace;
            mid = record {
              lawful = mid.lawful;
              mine = mid.mine;
              claimed = mid.claimed;
              shown = mid.shown;
              peer = record {
                core = mid.peer.core;
                votes = mid.peer.votes;
                commits = keep_kept slot_digest x.cluster.f there.trace r (λ q n z. Commit q (core_of start).view n z) (record { by = by; slot = slot; x = d }) start.at.peer.commits mid.peer.commits given knows;
              };
              changes = mid.changes;
              rising = mid.rising;
              changes_shown = mid.changes_shown;
              requests = mid.requests;
              made = mid.made;
              said = mid.said;
            };
            knows = there.knows;
          }

      there_by : IsKept seat e start IsThere
      there_by = record {
        settles = settles_on;
        takes = λ w value there still room on why. takes_on w value there still room on (source_of w value there on why);
        speaks = λ w d there spoken. record { trace = there.trace; mid = there.mid; knows = there.knows };
        enters = entered_by;
        leaves = λ w v there above why. leaves_on w v there above;
        keeps_request = keeps_request;
        keeps_change = keeps_change;
        keeps_vote = keeps_vote;
        keeps_commit = keeps_commit;
      }

      -- and so does each event
      pub event_there : IsThere start → IsThere (work seat e start)
      event_there there = work_kept seat e start IsThere there_by there
