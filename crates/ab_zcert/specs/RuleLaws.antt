-- ZCert keeps to what a rule table has to.
use Rattle.std.proofs.Common.{◌≡◌, ℕ, Bool, true, false, not, Option, None, Some, List, [], ◌∷◌, ◌++◌, length, take, refl, sym, ap, subst, inl, inr, if◌then◌else◌}
use Rattle.std.specs.Prelude.{Contains, IsTrue, ◌==◌, ◌&&◌, ◌||◌}
use Rattle.std.proofs.lemmas.Bool.{and_parts, eqb-true}
use Rattle.std.proofs.lemmas.List.Elements.{Contains-append_cases}
use mathlib.Core.List.{IsPrefix}
use base.Growing.{prefix_refl, prefix_trans}
use Rattle.ab_num.specs.declared.plan.Kind.{Kind}
use Rattle.ab_num.specs.declared.plan.Kind.TheVariants as kind
use Rattle.ab_num.specs.declared.cluster.Cluster.{Cluster}
use Rattle.ab_num.specs.declared.party.Party.TheVariants.{Replica, Client}
use Rattle.ab_num.specs.Places.{kind_of}
use Rattle.ab_num.proofs.Lists.{Contains-head, Contains-tail, Contains-one, Contains-none}
use Rattle.ab_hist.specs.declared.request.Request.{Request}
use Rattle.ab_hist.specs.Digests.{digest_of}
use Rattle.ab_svc.specs.Machines.{Machine}
use Rattle.ab_msg.specs.declared.content.Content.{Content}
use Rattle.ab_msg.specs.declared.content.Content.TheVariants.{Order, LocalCommit}
use Rattle.ab_msg.specs.declared.zcert.Zcert.{Zcert}
use Rattle.ab_msg.specs.declared.message.Msg.{Msg}
use Rattle.ab_msg.specs.declared.message.Msg.TheVariants as msg
use Rattle.ab_msg.specs.declared.message.Out.{Out}
use Rattle.ab_msg.specs.Claims.{fresh}
use Rattle.ab_msg.specs.Pens.{Pen}
use Rattle.ab_abs.specs.declared.vote.Vote.{Vote}
use Rattle.ab_abs.specs.Acts.{State}
use Rattle.ab_abs.specs.Answers.{answer_from}
use Rattle.ab_abs.specs.Kinds.{is_backup, is_zcert}
use Rattle.ab_abs.specs.Observations.{has_front}
use Rattle.ab_abs.specs.Certificates.{is_quorum}
use Rattle.ab_abs.specs.Members.{Member}
use Rattle.ab_abs.specs.Messages.{Call, took, timed}
use Rattle.ab_abs.specs.FormLaws.{Belongs, begun, called, halted, trimmed}
use Rattle.ab_abs.specs.RuleLaws.{KeepsRules, IsBackedBy, IsInFront, speaks_of_call, may_take}
use Rattle.ab_abs.proofs.TableLemmas.{served, untaken, begins_there, not_both, voted_unless, logged_by}
use Rattle.ab_abs.proofs.Steps.{IsVoteOn}
use Rattle.ab_zlight.specs.Rules.{Task, idle, ordered, asked, answer_of, log_with, orders, moved}
use Rattle.ab_zlight.specs.Laws.{frozen_with, IsOrderOut, order_out}
use Rattle.ab_zlight.specs.RuleLaws.{IsRooted, rooted_with}
use Rattle.ab_zcert.specs.Rules.{Keeper, Job, serves, keeps, job, has_asked, takes_zcert, after_job, spec_for, specs_for, signed_spec, answers, local_commit, sends_for, signs_for, keeper_at, zcert_proto}
use Rattle.ab_zcert.specs.Laws.{IsTaking, taking}
use Rattle.ab_zcert.specs.Forms.{grows_job, rests_job, silent}

no_backup : (k : Kind) → IsTrue (is_zcert k) → is_backup k ≡ false
no_backup kind.Quorum is = refl
no_backup kind.ZLight is = refl
no_backup kind.Chain is = refl
no_backup kind.Backup is = absurd (cc (is))
no_backup kind.ZCert is = refl

-- a call of which no rule speaks asks for nothing
unspoken : (k : Kind) (q : Keeper) (call : Call) → IsTrue (is_zcert k) → speaks_of_call k call ≡ false → job q call ≡ serves idle
unspoken kind.Quorum q call served is = absurd (cc (served))
unspoken kind.ZLight q call served is = absurd (cc (served))
unspoken kind.Chain q call served is = absurd (cc (served))
unspoken kind.Backup q call served is = absurd (cc (served))
unspoken kind.ZCert q (took (msg.Req content tags)) served is = absurd (cc (is))
unspoken kind.ZCert q (took (msg.Order content client_tag tag)) served is = absurd (cc (is))
unspoken kind.ZCert q (took (msg.Cert i z)) served is = absurd (cc (is))
unspoken kind.ZCert q _ served is = refl

-- ---- the request of a certificate

record IsAskedIn (log : List Request) (c stamp : ℕ) : Type 0 where
  m : Request
  stands : Contains log m
  asked_by : m.client ≡ c
  stamped : m.stamp ≡ stamp

asked_with : (m : Request) (log : List Request) (c stamp : ℕ) (b : Bool) → ((m.client == c) && (m.stamp == stamp)) ≡ b → (b || has_asked log c stamp) ≡ true → (has_asked log c stamp ≡ true → IsAskedIn log c stamp)
    → IsAskedIn (m ∷ log) c stamp
asked_with m log c stamp true test is more =
    let both = and_parts (m.client == c) (m.stamp == stamp) test in
    record { m = m; stands = Contains-head m log; asked_by = eqb-true m.client c both.0; stamped = eqb-true m.stamp stamp both.1 }
asked_with m log c stamp false test is more =
    let found = more is in
    record { m = found.m; stands = Contains-tail m found.m log found.stands; asked_by = found.asked_by; stamped = found.stamped }

asked_in : (log : List Request) (c stamp : ℕ) → has_asked log c stamp ≡ true → IsAskedIn log c stamp
asked_in [] c stamp is = absurd (cc (is))
asked_in (m ∷ log) c stamp is = asked_with m log c stamp ((m.client == c) && (m.stamp == stamp)) refl is (asked_in log c stamp)

module _ {S : Type 0} (machine : Machine S) where
  rooted : (c : Cluster) (i r : ℕ) (q : Keeper) → Belongs (zcert_proto machine) is_zcert c i r q → IsRooted q.light.at
  rooted c i r q (begun e is low) = record { begins = prefix_refl e.base; within = low }
  rooted c i r q (called pen p k was) = rooted_job p (job p k) (rooted c i r p was)
    where
      rooted_job : (p : Keeper) (j : Job) → IsRooted p.light.at → IsRooted (after_job p j).light.at
      rooted_job p (serves t) was = rooted_with p.light.at t was
      rooted_job p (keeps z) was = was
  rooted c i r q (halted p was) = let h = rooted c i r p was in record { begins = h.begins; within = h.within }
  rooted c i r q (trimmed n p low high was) = let h = rooted c i r p was in record { begins = h.begins; within = high }

  -- ---- what it states

  answer_backed : (f r : ℕ) (pen : Pen) (q : Member) (m : Request) (answer : Option Vote) (at : State) (o : Out) (s : Content) → ((vote : Vote) → answer ≡ Some vote → IsVoteOn machine at.base at.log m vote)
      → Contains (answers pen q m answer) o → Contains (fresh f (Replica r) o.msg) s → IsBackedBy machine at s
  answer_backed f r pen q m None at o s on sent has = absurd (Contains-none o sent)
  answer_backed f r pen q m (Some vote) at o s on sent has =
      let out : Out = record { to = Client m.client; msg = msg.Spec (signed_spec pen q m vote) } in
      let has' : Contains (spec_for q m vote ∷ []) s = subst (λ (p : Out). Contains (fresh f (Replica r) p.msg) s) (sym (Contains-one out o sent)) has in
      let is = on vote refl in
      subst (λ (t : Content). IsBackedBy machine at t) (Contains-one (spec_for q m vote) s has') (m, logged_by machine at m vote is, is.replied)

  -- an ORDER names the place of its request
  order_backed : (f r : ℕ) (q : Member) (m : Request) (tags : List (ℕ × List ℕ)) (z : Option Zcert) (o : Out) (s : Content) → IsOrderOut q m tags o → Contains (fresh f (Replica r) o.msg) s → IsBackedBy machine (keeper_at (moved q (asked m tags)) z) s
  order_backed f r q m tags z o s is has =
      let in_order : Contains (Order (Replica q.me) q.instance is.x m ∷ []) s = subst (λ (p : Msg). Contains (fresh f (Replica r) p) s) is.says has in
      let e = Contains-one (Order (Replica q.me) q.instance is.x m) s in_order in
      subst (λ (t : Content). IsBackedBy machine (keeper_at (moved q (asked m tags)) z) t) e is.placed

  -- a LOCAL-COMMIT names a request of the front
  local_backed : (f g r : ℕ) (q : Member) (z : Zcert) (k : Option Zcert) (b : Bool) (o : Out) (s : Content) → takes_zcert f q z ≡ b → Contains (if b then local_commit q z ∷ [] else []) o → Contains (fresh g (Replica r) o.msg) s
      → IsBackedBy machine (keeper_at q k) s
  local_backed f g r q z k false o s test sent has = absurd (Contains-none o sent)
  local_backed f g r q z k true o s test sent has =
      let told : Content = LocalCommit (Replica q.me) q.instance z.client z.stamp z.n z.d in
      let has' : Contains (told ∷ []) s = subst (λ (p : Out). Contains (fresh g (Replica r) p.msg) s) (sym (Contains-one (local_commit q z) o sent)) has in
      let is = taking f q z test in
      let both = and_parts (not q.stopped && is_quorum f z) (has_front q.log z.n z.d && has_asked (take z.n q.log) z.client z.stamp) test in
      let front = asked_in (take z.n q.log) z.client z.stamp (and_parts (has_front q.log z.n z.d) (has_asked (take z.n q.log) z.client z.stamp) both.1).1 in
      let in_front : IsInFront (keeper_at q k) front.m z.client z.stamp z.n z.d = record { asked_by = front.asked_by; stamped = front.stamped; stands = front.stands; digest = is.digest; reaches = is.reaches } in
      subst (λ (t : Content). IsBackedBy machine (keeper_at q k) t) (Contains-one told s has') (front.m, in_front)

  backed_job : (f r : ℕ) (pen : Pen) (q : Keeper) (j : Job) (o : Out) (s : Content) → IsRooted q.light.at → Contains (sends_for machine pen q.light.f q.light.at j) o → Contains (fresh f (Replica r) o.msg) s
      → IsBackedBy machine (keeper_at (after_job q j).light.at (after_job q j).zcert) s
  backed_job f r pen q (serves idle) o s rooted sent has = absurd (Contains-none o sent)
  backed_job f r pen q (serves (ordered m)) o s rooted sent has =
      let a = q.light.at in
      answer_backed f r pen a m (answer_of machine a m) (keeper_at (moved a (ordered m)) q.zcert) o s (λ vote is. voted_unless machine a.stopped a.trimmed a.base a.log m vote rooted.begins rooted.within is) sent has
  backed_job f r pen q (serves (asked m tags)) o s rooted sent has =
      let a = q.light.at in
      elim (Contains-append_cases (orders q.light.f a m tags (answer_of machine a m)) (answers pen a m (answer_of machine a m)) o sent) [
        | inl order ↦ order_backed f r a m tags q.zcert o s (order_out q.light.f a m tags (answer_of machine a m) o order) has
        | inr answer ↦ answer_backed f r pen a m (answer_of machine a m) (keeper_at (moved a (asked m tags)) q.zcert) o s (λ vote is. voted_unless machine a.stopped a.trimmed a.base a.log m vote rooted.begins rooted.within is) answer has
      ]
  backed_job f r pen q (keeps z) o s rooted sent has =
      local_backed q.light.f f r q.light.at z (after_job q (keeps z)).zcert (takes_zcert q.light.f q.light.at z) o s refl sent has

  -- ---- what no rule takes

  record StaysBy (pen : Pen) (q : Keeper) (j : Job) : Type 0 where
    after : after_job q j ≡ q
    sends : sends_for machine pen q.light.f q.light.at j ≡ []
    signs : signs_for machine q.light.at j ≡ []

  stopped_after : (q : Keeper) (j : Job) → q.light.at.stopped ≡ true → after_job q j ≡ q
  stopped_after q (serves t) is =
      let a = q.light.at in
      ap (λ (log : List Request). record { light = record { f = q.light.f; at = record { instance = a.instance; me = a.me; base = a.base; trimmed = a.trimmed; log = log; stopped = a.stopped } }; zcert = q.zcert }) (frozen_with a t is)
  stopped_after q (keeps z) is = ap (λ (k : Option Zcert). record { light = q.light; zcert = k }) (rests_job q (keeps z) is)

  stopped_signs : (q : Member) (j : Job) → q.stopped ≡ true → signs_for machine q j ≡ []
  stopped_signs q (serves idle) is = refl
  stopped_signs q (serves (ordered m)) is = ap (λ b. specs_for q m (if b then None else answer_from machine q.trimmed (length q.base) q.log m)) is
  stopped_signs q (serves (asked m tags)) is = ap (λ b. specs_for q m (if b then None else answer_from machine q.trimmed (length q.base) q.log m)) is
  stopped_signs q (keeps z) is = refl

  still : (k : Kind) (pen : Pen) (q : Keeper) (call : Call) → IsTrue (is_zcert k) → may_take k q.light.at.stopped call ≡ false → StaysBy pen q (job q call)
  still k pen q call is shut =
      elim (untaken k q.light.at.stopped call shut) [
        | inl stopped ↦ record { after = stopped_after q (job q call) stopped; sends = silent machine pen q call stopped; signs = stopped_signs q.light.at (job q call) stopped }
        | inr none ↦ subst (λ (j : Job). StaysBy pen q j) (sym (unspoken k q call is none)) (record { after = refl; sends = refl; signs = refl })
      ]

  pub rule_law : KeepsRules machine (zcert_proto machine) is_zcert
  rule_law = record {
    answers = λ c i r pen q call o s was sent has. backed_job c.f r pen q (job q call) o s (rooted c i r q was) sent has;
    ignores = λ c i r pen q call was shut. let w = still (kind_of c.plan i) pen q call (served (zcert_proto machine) is_zcert c i r q was) shut in (w.after, w.sends, w.signs);
    begins = λ c i r e is. begins_there (kind_of c.plan i) e.base (no_backup (kind_of c.plan i) is);
    stops = λ c i r q was other. refl;
    rests = λ c i r q was backup. not_both (kind_of c.plan i) (no_backup (kind_of c.plan i) (served (zcert_proto machine) is_zcert c i r q was)) backup;
    keeps_none = λ c i r q was other. absurd (let is = served (zcert_proto machine) is_zcert c i r q was in cc (is, other));
  }
