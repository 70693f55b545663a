-- Quorum keeps to what a rule table has to.
use Rattle.std.proofs.Common.{◌≡◌, ℕ, ◌≤◌, Bool, true, false, Option, None, Some, List, [], length, refl, sym, ap, subst, inl, inr, if◌then◌else◌, arith}
use Rattle.std.specs.Prelude.{Contains, IsTrue}
use mathlib.Core.List.{IsPrefix}
use base.Growing.{prefix_refl, prefix_trans}
use Rattle.ab_num.specs.declared.plan.Kind.{Kind}
use Rattle.ab_num.specs.declared.plan.Kind.TheVariants as kind
use Rattle.ab_num.specs.declared.cluster.Cluster.{Cluster}
use Rattle.ab_num.specs.declared.party.Party.TheVariants.{Replica}
use Rattle.ab_num.specs.Places.{kind_of}
use Rattle.ab_num.proofs.Lists.{Contains-none}
use Rattle.ab_hist.specs.declared.request.Request.{Request}
use Rattle.ab_svc.specs.Machines.{Machine}
use Rattle.ab_msg.specs.declared.content.Content.{Content}
use Rattle.ab_msg.specs.declared.message.Out.{Out}
use Rattle.ab_msg.specs.Claims.{fresh}
use Rattle.ab_abs.specs.Answers.{answer_from}
use Rattle.ab_abs.specs.Kinds.{is_backup}
use Rattle.ab_abs.specs.Members.{Member, member_state}
use Rattle.ab_abs.specs.Messages.{Call, request_in}
use Rattle.ab_abs.specs.FormLaws.{Belongs, begun, called, halted, trimmed}
use Rattle.ab_abs.specs.RuleLaws.{KeepsRules, IsBackedBy, may_take}
use Rattle.ab_abs.proofs.Prefixes.{prefix_length}
use Rattle.ab_abs.proofs.TableLemmas.{served, untaken, unasked, begins_there, not_both, voted_unless, responds_backed}
use Rattle.ab_quorum.specs.Rules.{is_quorum, quorum, moved, responses, log_with}
use Rattle.ab_quorum.specs.Laws.{grows_with, frozen_with, silent_with}

no_backup : (k : Kind) → IsTrue (is_quorum k) → is_backup k ≡ false
no_backup kind.Quorum is = refl
no_backup kind.ZLight is = refl
no_backup kind.Chain is = refl
no_backup kind.Backup is = absurd (cc (is))
no_backup kind.ZCert is = refl

-- the log goes on from its base, and the entries that are trimmed stay in it
record IsRooted (q : Member) : Type 0 where
  begins : IsPrefix q.base q.log
  within : q.trimmed ≤ length q.log

rooted_with : (q : Member) (asked : Option Request) → IsRooted q → IsRooted (moved q asked)
rooted_with q asked was =
    let more = grows_with q asked in
    record {
      begins = prefix_trans q.base q.log (log_with q asked) was.begins more;
      within = omega (arith, was.within, prefix_length q.log (log_with q asked) more);
    }

module _ {S : Type 0} (machine : Machine S) where
  rooted : (c : Cluster) (i r : ℕ) (q : Member) → Belongs (quorum machine) is_quorum c i r q → IsRooted q
  rooted c i r q (begun e is low) = record { begins = prefix_refl e.base; within = low }
  rooted c i r q (called pen p call was) = rooted_with p (request_in call) (rooted c i r p was)
  rooted c i r q (halted p was) = let h = rooted c i r p was in record { begins = h.begins; within = h.within }
  rooted c i r q (trimmed n p low high was) = let h = rooted c i r p was in record { begins = h.begins; within = high }

  backed_with : (f r : ℕ) (q : Member) (asked : Option Request) (o : Out) (s : Content) → IsRooted q → Contains (responses machine q asked) o → Contains (fresh f (Replica r) o.msg) s → IsBackedBy machine (member_state (moved q asked)) s
  backed_with f r q None o s rooted sent has = absurd (Contains-none o sent)
  backed_with f r q (Some m) o s rooted sent has =
      responds_backed machine f r q.instance q.me m (if q.stopped then None else answer_from machine q.trimmed (length q.base) q.log m) (member_state (moved q (Some m))) o s
      (λ vote is. voted_unless machine q.stopped q.trimmed q.base q.log m vote rooted.begins rooted.within is) sent has

  stopped_still : (q : Member) (asked : Option Request) → q.stopped ≡ true → (moved q asked ≡ q) × (responses machine q asked ≡ [])
  stopped_still q asked is =
      (ap (λ (log : List Request). record { instance = q.instance; me = q.me; base = q.base; trimmed = q.trimmed; log = log; stopped = q.stopped }) (frozen_with q asked is), silent_with machine q asked is)

  unasked_still : (q : Member) (asked : Option Request) → asked ≡ None → (moved q asked ≡ q) × (responses machine q asked ≡ [])
  unasked_still q asked none = subst (λ (o : Option Request). (moved q o ≡ q) × (responses machine q o ≡ [])) (sym none) (refl, refl)

  still : (k : Kind) (q : Member) (call : Call) → may_take k q.stopped call ≡ false → (moved q (request_in call) ≡ q) × (responses machine q (request_in call) ≡ [])
  still k q call shut =
      elim (untaken k q.stopped call shut) [
        | inl stopped ↦ stopped_still q (request_in call) stopped
        | inr unspoken ↦ unasked_still q (request_in call) (unasked k call unspoken)
      ]

  pub rule_law : KeepsRules machine (quorum machine) is_quorum
  rule_law = record {
    answers = λ c i r pen q call o s was sent has. backed_with c.f r q (request_in call) o s (rooted c i r q was) sent has;
    ignores = λ c i r pen q call was shut. let w = still (kind_of c.plan i) q call shut in (w.0, w.1, refl);
    begins = λ c i r e is. begins_there (kind_of c.plan i) e.base (no_backup (kind_of c.plan i) is);
    stops = λ c i r q was other. refl;
    rests = λ c i r q was backup. not_both (kind_of c.plan i) (no_backup (kind_of c.plan i) (served (quorum machine) is_quorum c i r q was)) backup;
    keeps_none = λ c i r q was other. refl;
  }
