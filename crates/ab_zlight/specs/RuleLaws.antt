-- ZLight keeps to what a rule table has to.
use Rattle.std.proofs.Common.{◌≡◌, ℕ, ◌≤◌, Bool, true, false, Option, None, Some, List, [], ◌∷◌, length, refl, sym, ap, subst, inl, inr}
use Rattle.std.specs.Prelude.{Contains, IsTrue}
use Rattle.std.proofs.lemmas.List.Elements.{Contains-append_cases}
use mathlib.Core.List.{IsPrefix}
use base.Growing.{prefix_refl, prefix_trans}
use Rattle.ab_num.specs.declared.plan.Kind.{Kind}
use Rattle.ab_num.specs.declared.plan.Kind.TheVariants as kind
use Rattle.ab_num.specs.declared.cluster.Cluster.{Cluster}
use Rattle.ab_num.specs.declared.party.Party.TheVariants.{Replica}
use Rattle.ab_num.specs.Places.{kind_of}
use Rattle.ab_num.proofs.Lists.{Contains-one, Contains-none}
use Rattle.ab_hist.specs.declared.request.Request.{Request}
use Rattle.ab_svc.specs.Machines.{Machine}
use Rattle.ab_msg.specs.declared.content.Content.{Content}
use Rattle.ab_msg.specs.declared.content.Content.TheVariants.{Order}
use Rattle.ab_msg.specs.declared.message.Msg.{Msg}
use Rattle.ab_msg.specs.declared.message.Msg.TheVariants as msg
use Rattle.ab_msg.specs.declared.message.Out.{Out}
use Rattle.ab_msg.specs.Claims.{fresh}
use Rattle.ab_abs.specs.declared.vote.Vote.{Vote}
use Rattle.ab_abs.specs.Kinds.{is_backup}
use Rattle.ab_abs.specs.Members.{Member, member_state, respond}
use Rattle.ab_abs.specs.Messages.{Call, took, timed}
use Rattle.ab_abs.specs.FormLaws.{Belongs, begun, called, halted, trimmed}
use Rattle.ab_abs.specs.RuleLaws.{KeepsRules, IsBackedBy, speaks_of_call, may_take}
use Rattle.ab_abs.proofs.TableLemmas.{served, untaken, begins_there, not_both, voted_unless, responds_backed}
use Rattle.ab_zlight.specs.Rules.{Light, is_zlight, Task, idle, ordered, asked, task, answer_of, log_with, log_after, orders, sends_with, moved, goes, zlight}
use Rattle.ab_zlight.specs.Laws.{grows_with, keeps_trimmed, frozen_with, silent_with, IsOrderOut, order_out}

no_backup : (k : Kind) → IsTrue (is_zlight k) → is_backup k ≡ false
no_backup kind.Quorum is = refl
no_backup kind.ZLight is = refl
no_backup kind.Chain is = refl
no_backup kind.Backup is = absurd (cc (is))
no_backup kind.ZCert is = refl

-- a call of which no rule speaks asks for nothing
unspoken : (k : Kind) (q : Light) (call : Call) → IsTrue (is_zlight k) → speaks_of_call k call ≡ false → task q call ≡ idle
unspoken kind.Quorum q call served is = absurd (cc (served))
unspoken kind.ZLight q (took (msg.Req content tags)) served is = absurd (cc (is))
unspoken kind.ZLight q (took (msg.Order content client_tag tag)) served is = absurd (cc (is))
unspoken kind.ZLight q _ served is = refl
unspoken kind.Chain q call served is = absurd (cc (served))
unspoken kind.Backup q call served is = absurd (cc (served))
unspoken kind.ZCert q call served is = absurd (cc (served))

-- the log goes on from its base, and the entries that are trimmed stay in it
pub record IsRooted (q : Member) : Type 0 where
  pub begins : IsPrefix q.base q.log
  pub within : q.trimmed ≤ length q.log

pub rooted_with : (q : Member) (t : Task) → IsRooted q → IsRooted (moved q t)
rooted_with q t was = record {
  begins = prefix_trans q.base q.log (log_after q t) was.begins (grows_with q t);
  within = keeps_trimmed q t was.within;
}

module _ {S : Type 0} (machine : Machine S) where
  rooted : (c : Cluster) (i r : ℕ) (q : Light) → Belongs (zlight machine) is_zlight c i r q → IsRooted q.at
  rooted c i r q (begun e is low) = record { begins = prefix_refl e.base; within = low }
  rooted c i r q (called pen p call was) = rooted_with p.at (task p call) (rooted c i r p was)
  rooted c i r q (halted p was) = let h = rooted c i r p was in record { begins = h.begins; within = h.within }
  rooted c i r q (trimmed n p low high was) = let h = rooted c i r p was in record { begins = h.begins; within = high }

  -- an ORDER names the place of its request
  order_backed : (f r : ℕ) (q : Member) (m : Request) (tags : List (ℕ × List ℕ)) (o : Out) (s : Content) → IsOrderOut q m tags o → Contains (fresh f (Replica r) o.msg) s → IsBackedBy machine (member_state (moved q (asked m tags))) s
  order_backed f r q m tags o s is has =
      let in_order : Contains (Order (Replica q.me) q.instance is.x m ∷ []) s = subst (λ (z : Msg). Contains (fresh f (Replica r) z) s) is.says has in
      let e = Contains-one (Order (Replica q.me) q.instance is.x m) s in_order in
      subst (λ (z : Content). IsBackedBy machine (member_state (moved q (asked m tags))) z) e is.placed

  backed_with : (f r g : ℕ) (q : Member) (t : Task) (o : Out) (s : Content) → IsRooted q → Contains (sends_with machine g q t) o → Contains (fresh f (Replica r) o.msg) s → IsBackedBy machine (member_state (moved q t)) s
  backed_with f r g q idle o s rooted sent has = absurd (Contains-none o sent)
  backed_with f r g q (ordered m) o s rooted sent has =
      responds_backed machine f r q.instance q.me m (answer_of machine q m) (member_state (moved q (ordered m))) o s (λ vote is. voted_unless machine q.stopped q.trimmed q.base q.log m vote rooted.begins rooted.within is) sent has
  backed_with f r g q (asked m tags) o s rooted sent has =
      elim (Contains-append_cases (orders g q m tags (answer_of machine q m)) (respond q.instance q.me m (answer_of machine q m)) o sent) [
        | inl order ↦ order_backed f r q m tags o s (order_out g q m tags (answer_of machine q m) o order) has
        | inr response ↦
            responds_backed machine f r q.instance q.me m (answer_of machine q m) (member_state (moved q (asked m tags))) o s (λ vote is. voted_unless machine q.stopped q.trimmed q.base q.log m vote rooted.begins rooted.within is) response has
      ]

  abbrev StaysBy : Light → Task → Type 0
  StaysBy q t = (goes q t ≡ q) × (sends_with machine q.f q.at t ≡ [])

  stopped_still : (q : Light) (t : Task) → q.at.stopped ≡ true → StaysBy q t
  stopped_still q t is = (
    ap (λ (log : List Request). record { f = q.f; at = record { instance = q.at.instance; me = q.at.me; base = q.at.base; trimmed = q.at.trimmed; log = log; stopped = q.at.stopped } }) (frozen_with q.at t is),
    silent_with machine q.f q.at t is,
  )

  still : (k : Kind) (q : Light) (call : Call) → IsTrue (is_zlight k) → may_take k q.at.stopped call ≡ false → StaysBy q (task q call)
  still k q call is shut =
      elim (untaken k q.at.stopped call shut) [
        | inl stopped ↦ stopped_still q (task q call) stopped
        | inr none ↦ subst (λ (t : Task). StaysBy q t) (sym (unspoken k q call is none)) (refl, refl)
      ]

  pub rule_law : KeepsRules machine (zlight machine) is_zlight
  rule_law = record {
    answers = λ c i r pen q call o s was sent has. backed_with c.f r q.f q.at (task q call) o s (rooted c i r q was) sent has;
    ignores = λ c i r pen q call was shut. let w = still (kind_of c.plan i) q call (served (zlight machine) is_zlight c i r q was) shut in (w.0, w.1, refl);
    begins = λ c i r e is. begins_there (kind_of c.plan i) e.base (no_backup (kind_of c.plan i) is);
    stops = λ c i r q was other. refl;
    rests = λ c i r q was backup. not_both (kind_of c.plan i) (no_backup (kind_of c.plan i) (served (zlight machine) is_zlight c i r q was)) backup;
    keeps_none = λ c i r q was other. refl;
  }
