-- Chain keeps to what a rule table has to.
use Rattle.std.proofs.Common.{◌≡◌, ℕ, ◌+◌, ◌*◌, ◌<◌, ◌≤◌, Bool, true, false, Option, None, Some, List, [], ◌∷◌, length, map, refl, sym, ap, ◌∙◌, subst, inl, inr, arith, if◌then◌else◌}
use Rattle.std.specs.Prelude.{Contains, IsTrue, ◌==◌, nat_le, nat_lt}
use Rattle.std.proofs.lemmas.Bool.{cases_Bool}
use mathlib.Core.List.{IsPrefix}
use base.Growing.{prefix_refl, prefix_trans}
use Rattle.ab_num.specs.declared.plan.Kind.{Kind}
use Rattle.ab_num.specs.declared.plan.Kind.TheVariants as kind
use Rattle.ab_num.specs.declared.cluster.Cluster.{Cluster}
use Rattle.ab_num.specs.declared.party.Party.TheVariants.{Replica}
use Rattle.ab_num.specs.Places.{kind_of, position_in}
use Rattle.ab_num.proofs.Lists.{Contains-cons_cases, Contains-one, Contains-none}
use Rattle.ab_hist.specs.declared.request.Request.{Request}
use Rattle.ab_svc.specs.Machines.{Machine, Reply}
use Rattle.ab_msg.specs.declared.content.Content.{Content}
use Rattle.ab_msg.specs.declared.content.Content.TheVariants.{Req, Resp, ChainTag}
use Rattle.ab_msg.specs.declared.chain_tags.TagBetween.{TagBetween}
use Rattle.ab_msg.specs.declared.message.Msg.TheVariants as msg
use Rattle.ab_msg.specs.declared.message.Out.{Out}
use Rattle.ab_msg.specs.Claims.{passed_at, fresh}
use Rattle.ab_abs.specs.declared.vote.Vote.{Vote}
use Rattle.ab_abs.specs.Acts.{State}
use Rattle.ab_abs.specs.Answers.{answer_from}
use Rattle.ab_abs.specs.Kinds.{is_backup}
use Rattle.ab_abs.specs.Members.{Member, member_state}
use Rattle.ab_abs.specs.Messages.{Call, took}
use Rattle.ab_abs.specs.FormLaws.{Belongs, begun, called, halted, trimmed}
use Rattle.ab_abs.specs.RuleLaws.{KeepsRules, IsBackedBy, speaks_of_call, may_take}
use Rattle.ab_abs.proofs.Steps.{IsVoteOn, vote_on}
use Rattle.ab_abs.proofs.TableLemmas.{served, untaken, begins_there, not_both, logged_by, response_backed}
use Rattle.ab_chain.specs.Tags.{by_client}
use Rattle.ab_chain.specs.Rules.{ChainState, is_chain, position_at, Task, idle, passes, agreed, passing, answer_of, kept_of, task, log_after, sends_with, moved, goes, sent_by, chain}
use Rattle.ab_chain.specs.Laws.{answered, if_true, if_false, passing_is, agreed_is, late_reply, grows_with, no_pass, here, keeps_trimmed}

no_backup : (k : Kind) → IsTrue (is_chain k) → is_backup k ≡ false
no_backup kind.Quorum is = refl
no_backup kind.ZLight is = refl
no_backup kind.Chain is = refl
no_backup kind.Backup is = absurd (cc (is))
no_backup kind.ZCert is = refl

over : (a b : ℕ) → nat_le a b ≡ false → b < a
over a b no' = grind (arith, no')

-- the log goes on from its base, and the entries that are trimmed stay in it
record IsRooted (q : Member) : Type 0 where
  begins : IsPrefix q.base q.log
  within : q.trimmed ≤ length q.log

rooted_with : (q : Member) (t : Task) → IsRooted q → IsRooted (moved q t)
rooted_with q t was = record {
  begins = prefix_trans q.base q.log (log_after q t) was.begins (grows_with q t);
  within = keeps_trimmed q t was.within;
}

module _ {S : Type 0} (machine : Machine S) where
  -- a call of which no rule speaks asks for nothing
  unspoken : (k : Kind) (q : ChainState) (call : Call) → IsTrue (is_chain k) → speaks_of_call k call ≡ false → task machine q call ≡ idle
  unspoken kind.Quorum q call served is = absurd (cc (served))
  unspoken kind.ZLight q call served is = absurd (cc (served))
  unspoken kind.Chain q (took (msg.Req content tags)) served is = absurd (cc (is))
  unspoken kind.Chain q (took (msg.Chain i m n d reply tags)) served is = absurd (cc (is))
  unspoken kind.Chain q _ served is = refl
  unspoken kind.Backup q call served is = absurd (cc (served))
  unspoken kind.ZCert q call served is = absurd (cc (served))

  -- what is passed on is the own answer, and behind the first 2f positions with the own reply
  record IsOwnAnswer (q : ChainState) (m : Request) (vote : Vote) (reply : Option Reply) : Type 0 where
    answers : answer_of machine q.at m ≡ Some vote
    replied : 2 * q.f < position_at q → reply ≡ Some vote.reply

  passes_own : (q : ChainState) (call : Call) (m : Request) (vote : Vote) (reply : Option Reply) (tags : List TagBetween) → task machine q call ≡ passes m vote reply tags → IsOwnAnswer q m vote reply
  passes_own q (took (msg.Req (Req maker i n) tags')) m vote reply tags is =
      let p = position_at q in
      let given = kept_of q n (map (by_client n.client) tags'.items) in
      let first = if_true (p == 1) (passing q.f p n None given (answer_of machine q.at n)) m vote reply tags is in
      let found = passing_is q.f p n m None given (answer_of machine q.at n) vote reply tags first.1 in
      record {
        answers = subst (λ (z : Request). answer_of machine q.at z ≡ Some vote) found.same found.answers;
        replied = λ lt. found.replies ∙ late_reply q.f p None vote.reply lt;
      }
  passes_own q (took (msg.Chain i n k d came given)) m vote reply tags is =
      let p = position_at q in
      let o = agreed q.f p k d came (answer_of machine q.at n) in
      let found = passing_is q.f p n m came (kept_of q n given) o vote reply tags (if_false (p == 1) (passing q.f p n came (kept_of q n given) o) m vote reply tags is) in
      record {
        answers = subst (λ (z : Request). answer_of machine q.at z ≡ Some vote) found.same (agreed_is q.f p k d came (answer_of machine q.at n) vote found.answers).0;
        replied = λ lt. found.replies ∙ late_reply q.f p came vote.reply lt;
      }
  passes_own q _ m vote reply tags is = absurd (cc (is))

  rooted : (c : Cluster) (i r : ℕ) (q : ChainState) → Belongs (chain machine) is_chain c i r q → IsRooted q.at
  rooted c i r q (begun e is low) = record { begins = prefix_refl e.base; within = low }
  rooted c i r q (called pen p call was) = rooted_with p.at (task machine p call) (rooted c i r p was)
  rooted c i r q (halted p was) = let h = rooted c i r p was in record { begins = h.begins; within = h.within }
  rooted c i r q (trimmed n p low high was) = let h = rooted c i r p was in record { begins = h.begins; within = high }

  -- what position p states as it passes a vote on
  passed_backed : (at : State) (f i : ℕ) (m : Request) (vote : Vote) (reply : Option Reply) (r p : ℕ) (s : Content) → IsVoteOn machine at.base at.log m vote → (2 * f < p → reply ≡ Some vote.reply)
      → Contains (passed_at f i m vote.n vote.d reply r p) s → IsBackedBy machine at s
  passed_backed at f i m vote None r p s on own has =
      let tag : Content = ChainTag (Replica r) i m.client m.stamp vote.n vote.d in
      let backed : IsBackedBy machine at tag = (m, logged_by machine at m vote on) in
      subst (λ (z : Content). IsBackedBy machine at z) (Contains-one tag s has) backed
  passed_backed at f i m vote (Some reply) r p s on own has =
      let tag : Content = ChainTag (Replica r) i m.client m.stamp vote.n vote.d in
      let resp : Content = Resp (Replica r) i m.client m.stamp vote.n vote.d reply in
      let Backed : Content → Type 0 = λ z. IsBackedBy machine at z in
      let tag_backed : Backed tag = (m, logged_by machine at m vote on) in
      elim (cases_Bool (nat_le p (2 * f))) [
        | inl early ↦ subst Backed (Contains-one tag s (rw early at has)) tag_backed
        | inr late ↦
            let e : Some reply ≡ Some vote.reply = own (over p (2 * f) late) in
            let same : vote.reply ≡ reply = cc (e) in
            let resp_backed : Backed resp = subst (λ (y : Reply). Backed (Resp (Replica r) i m.client m.stamp vote.n vote.d y)) same (response_backed machine at m vote i r on) in
            let has' : Contains (if nat_lt p (3 * f + 1) then tag ∷ resp ∷ [] else resp ∷ []) s = rw late at has in
            elim (cases_Bool (nat_lt p (3 * f + 1))) [
              | inl middle ↦ elim (Contains-cons_cases tag (resp ∷ []) s (rw middle at has')) [
                | inl e' ↦ subst Backed e' tag_backed
                | inr more ↦ subst Backed (Contains-one resp s more) resp_backed
              ]
              | inr last ↦ subst Backed (Contains-one resp s (rw last at has')) resp_backed
            ]
      ]

  backed_with : (f r : ℕ) (q : ChainState) (t : Task) (o : Out) (s : Content) → q.f ≡ f → q.at.me ≡ r → IsRooted q.at
      → ((m : Request) (vote : Vote) (reply : Option Reply) (tags : List TagBetween) → t ≡ passes m vote reply tags → IsOwnAnswer q m vote reply)
      → Contains (sent_by q t) o → Contains (fresh f (Replica r) o.msg) s → IsBackedBy machine (member_state (moved q.at t)) s
  backed_with f r q idle o s sized owned rooted own sent has = absurd (Contains-none o sent)
  backed_with f r q (passes m vote reply tags) o s sized owned rooted own sent has =
      let a = own m vote reply tags refl in
      let open' = answered machine q.at m q.at.stopped (answer_from machine q.at.trimmed (length q.at.base) q.at.log m) vote a.answers in
      let i = q.at.instance in
      let e = Contains-one _ o sent in
      let has' : Contains (passed_at f i m vote.n vote.d reply r (position_in f i r)) s = subst (λ (z : Out). Contains (fresh f (Replica r) z.msg) s) (sym e) has in
      let place : position_at q ≡ position_in f i r = ap (λ g. position_in g i q.at.me) sized ∙ ap (λ n. position_in f i n) owned in
      passed_backed (member_state (moved q.at (passes m vote reply tags))) f i m vote reply r (position_in f i r) s (vote_on machine q.at.trimmed q.at.base q.at.log m vote rooted.begins rooted.within open'.1) (λ lt. a.replied (omega (arith, lt, place, sized))) has'

  abbrev StaysBy : ChainState → Task → Type 0
  StaysBy q t = (goes q t ≡ q) × (sent_by q t ≡ [])

  idle_still : (q : ChainState) (t : Task) → t ≡ idle → StaysBy q t
  idle_still q t is = subst (λ (z : Task). StaysBy q z) (sym is) (refl, refl)

  still : (k : Kind) (q : ChainState) (call : Call) → IsTrue (is_chain k) → may_take k q.at.stopped call ≡ false → StaysBy q (task machine q call)
  still k q call is shut =
      elim (untaken k q.at.stopped call shut) [
        | inl stopped ↦ idle_still q (task machine q call) (no_pass machine q call stopped)
        | inr none ↦ idle_still q (task machine q call) (unspoken k q call is none)
      ]

  pub rule_law : KeepsRules machine (chain machine) is_chain
  rule_law = record {
    answers = λ c i r pen q call o s was sent has.
        let h = here machine c i r q was in backed_with c.f r q (task machine q call) o s h.sized h.owned (rooted c i r q was) (passes_own q call) sent has;
    ignores = λ c i r pen q call was shut. let w = still (kind_of c.plan i) q call (served (chain machine) is_chain c i r q was) shut in (w.0, w.1, refl);
    begins = λ c i r e is. begins_there (kind_of c.plan i) e.base (no_backup (kind_of c.plan i) is);
    stops = λ c i r q was other. refl;
    rests = λ c i r q was backup. not_both (kind_of c.plan i) (no_backup (kind_of c.plan i) (served (chain machine) is_chain c i r q was)) backup;
    keeps_none = λ c i r q was other. refl;
  }
