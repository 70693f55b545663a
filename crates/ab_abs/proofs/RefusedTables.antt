-- A rule table that keeps to what it has to, and tables that don't.
use Rattle.std.proofs.Common.{◌≡◌, ℕ, ◌≤◌, Bool, true, false, Option, None, Some, List, [], ◌∷◌, length, refl, sym, ap, subst, inl, inr, arith, if◌then◌else◌}
use Rattle.std.specs.Prelude.{Contains, IsTrue}
use mathlib.Core.List.{IsPrefix}
use base.Growing.{prefix_refl, prefix_trans}
use Rattle.ab_num.specs.declared.cluster.Cluster.{Cluster}
use Rattle.ab_num.specs.declared.plan.Kind.{Kind}
use Rattle.ab_num.specs.declared.plan.Kind.TheVariants as kind
use Rattle.ab_num.specs.declared.party.Party.TheVariants.{Replica, Client}
use Rattle.ab_num.specs.Places.{kind_of}
use Rattle.ab_num.proofs.Lists.{Contains-head, Contains-none}
use Rattle.ab_hist.specs.declared.request.Request.{Request}
use Rattle.ab_hist.specs.Known.{known_place, can_push_after}
use Rattle.ab_svc.specs.Machines.{Machine}
use Rattle.ab_msg.specs.declared.content.Content.{Content}
use Rattle.ab_msg.specs.declared.content.Content.TheVariants.{Req, Panic}
use Rattle.ab_msg.specs.declared.message.Msg.TheVariants as msg
use Rattle.ab_msg.specs.declared.message.Out.{Out}
use Rattle.ab_msg.specs.Claims.{fresh}
use Rattle.ab_msg.specs.Pens.{no_pen}
use Rattle.ab_abs.specs.Answers.{answer_from, logged_at, logged_from}
use Rattle.ab_abs.specs.Kinds.{is_backup}
use Rattle.ab_abs.specs.Members.{Member, member_state, respond}
use Rattle.ab_abs.specs.Messages.{Call, took, request_in}
use Rattle.ab_abs.specs.Ensembles.{entry_of}
use Rattle.ab_abs.specs.FormLaws.{Belongs, begun, called, halted, trimmed}
use Rattle.ab_abs.specs.RuleLaws.{KeepsRules, IsBackedBy, may_take}
use Rattle.ab_abs.specs.SmallActs.{small}
use Rattle.ab_abs.specs.WrongTables.{is_by_itself, with_log, logs, answers, answering, forgetful, obedient, baseless, unstoppable}
use Rattle.ab_abs.proofs.Prefixes.{prefix_length}
use Rattle.ab_abs.proofs.TableLemmas.{served, untaken, unasked, begins_there, not_both, voted_unless, responds_backed}

-- ---- the one that keeps to it

grows_at : (log : List Request) (m : Request) (o : Option ℕ) (next : Bool) → IsPrefix log (logged_at log m o next)
grows_at log m (Some x) next = prefix_refl log
grows_at log m None true = (m ∷ [], refl)
grows_at log m None false = prefix_refl log

grows_unless : (stopped : Bool) (n : ℕ) (log : List Request) (m : Request) → IsPrefix log (if stopped then log else logged_from n log m)
grows_unless true n log m = prefix_refl log
grows_unless false n log m = grows_at log m (known_place n log m) (can_push_after n log m)

-- the log goes on from its base, and the entries that are trimmed stay in it
record IsRooted (q : Member) : Type 0 where
  begins : IsPrefix q.base q.log
  within : q.trimmed ≤ length q.log

rooted_with : (q : Member) (asked : Option Request) → IsRooted q → IsRooted (logs q asked)
rooted_with q None was = was
rooted_with q (Some m) was =
    let more = grows_unless q.stopped q.trimmed q.log m in
    record {
      begins = prefix_trans q.base q.log (if q.stopped then q.log else logged_from q.trimmed q.log m) was.begins more;
      within = omega (arith, was.within, prefix_length q.log (if q.stopped then q.log else logged_from q.trimmed q.log m) more);
    }

-- a kind that is served is no Backup
by_itself : (k : Kind) → IsTrue (is_by_itself k) → is_backup k ≡ false
by_itself kind.Quorum is = refl
by_itself kind.ZLight is = refl
by_itself kind.Chain is = refl
by_itself kind.Backup is = absurd (cc (is))
by_itself kind.ZCert is = refl

-- ---- requests and replicas to try

abbrev some_request : Request
some_request = record { client = 0; stamp = 1; command = record { items = [] } }

-- replica 0 of instance 1, as it begins
abbrev first_member : Member
first_member = record { instance = 1; me = 0; base = []; trimmed = 0; log = []; stopped = false }

module _ {S : Type 0} (machine : Machine S) where
  rooted : (c : Cluster) (i r : ℕ) (q : Member) → Belongs (answering machine) is_by_itself c i r q → IsRooted q
  rooted c i r q (begun e is low) = record { begins = prefix_refl e.base; within = low }
  rooted c i r q (called pen p call was) = rooted_with p (request_in call) (rooted c i r p was)
  rooted c i r q (halted p was) = let h = rooted c i r p was in record { begins = h.begins; within = h.within }
  rooted c i r q (trimmed n p low high was) = let h = rooted c i r p was in record { begins = h.begins; within = high }

  backed_with : (f r : ℕ) (q : Member) (asked : Option Request) (o : Out) (s : Content) → IsRooted q → Contains (answers machine q asked) o → Contains (fresh f (Replica r) o.msg) s → IsBackedBy machine (member_state (logs q asked)) s
  backed_with f r q None o s was sent has = absurd (Contains-none o sent)
  backed_with f r q (Some m) o s was sent has =
      responds_backed machine f r q.instance q.me m (if q.stopped then None else answer_from machine q.trimmed (length q.base) q.log m) (member_state (logs q (Some m))) o s
      (λ vote is. voted_unless machine q.stopped q.trimmed q.base q.log m vote was.begins was.within is) sent has

  stopped_still : (q : Member) (asked : Option Request) → q.stopped ≡ true → (logs q asked ≡ q) × (answers machine q asked ≡ [])
  stopped_still q None is = (refl, refl)
  stopped_still q (Some m) is = (
    ap (λ b. with_log q (if b then q.log else logged_from q.trimmed q.log m)) is,
    ap (λ b. respond q.instance q.me m (if b then None else answer_from machine q.trimmed (length q.base) q.log m)) is,
  )

  unasked_still : (q : Member) (asked : Option Request) → asked ≡ None → (logs q asked ≡ q) × (answers machine q asked ≡ [])
  unasked_still q asked none = subst (λ (o : Option Request). (logs q o ≡ q) × (answers machine q o ≡ [])) (sym none) (refl, refl)

  still : (k : Kind) (q : Member) (call : Call) → may_take k q.stopped call ≡ false → (logs q (request_in call) ≡ q) × (answers machine q (request_in call) ≡ [])
  still k q call shut = elim (untaken k q.stopped call shut) [
    | inl stopped ↦ stopped_still q (request_in call) stopped
    | inr unspoken ↦ unasked_still q (request_in call) (unasked k call unspoken)
  ]

  pub keeps : KeepsRules machine (answering machine) is_by_itself
  keeps = record {
    answers = λ c i r pen q call o s was sent has. backed_with c.f r q (request_in call) o s (rooted c i r q was) sent has;
    ignores = λ c i r pen q call was shut. let w = still (kind_of c.plan i) q call shut in (w.0, w.1, refl);
    begins = λ c i r e is. begins_there (kind_of c.plan i) e.base (by_itself (kind_of c.plan i) is);
    stops = λ c i r q was not_backup. refl;
    rests = λ c i r q was backup. not_both (kind_of c.plan i) (by_itself (kind_of c.plan i) (served (answering machine) is_by_itself c i r q was)) backup;
    keeps_none = λ c i r q was other. refl;
  }

  -- ---- those that don't

  pub unlogged : ¬ KeepsRules machine (forgetful machine) is_by_itself
  unlogged law =
      let call : Call = took (msg.Req (Req (Client 0) 1 some_request) (record { items = [] })) in
      let found = law.answers small.cluster 1 0 no_pen first_member call _ _ (begun (entry_of [] None) refl (omega arith)) (Contains-head _ []) (Contains-head _ []) in
      let reaches : 1 ≤ 0 = found.1.reaches in
      omega (arith, reaches)

  pub unbidden : ¬ KeepsRules machine (obedient machine) is_by_itself
  unbidden law =
      let call : Call = took (msg.Panic (Panic (Client 0) 1) []) in
      let found = law.ignores small.cluster 1 0 no_pen first_member call (begun (entry_of [] None) refl (omega arith)) refl in
      let e : true ≡ false = ap (λ (q : Member). q.stopped) found.0 in
      cc (e)

  pub unbased : ¬ KeepsRules machine (baseless machine) is_by_itself
  unbased law = let e = law.begins small.cluster 1 0 (entry_of (some_request ∷ []) None) refl in cc (e)

  pub unstopped : ¬ KeepsRules machine (unstoppable machine) is_by_itself
  unstopped law = let e = law.stops small.cluster 1 0 first_member (begun (entry_of [] None) refl (omega arith)) refl in cc (e)
