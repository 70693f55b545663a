-- Chain is lawful.
use Rattle.std.proofs.Common.{◌≡◌, ℕ, zero, suc, ◌+◌, ◌*◌, ◌<◌, ◌≤◌, Bool, true, false, Option, None, Some, List, [], ◌∷◌, ◌⊎◌, length, take, map, refl, sym, ap, ◌∙◌, subst, inl, inr, if◌then◌else◌, arith}
use Rattle.std.specs.Prelude.{Contains, IsTrue, All, ◌==◌, ◌||◌, nat_le, nat_lt, slice_get}
use Rattle.std.specs.Str.{bytes_eq}
use Rattle.std.proofs.lemmas.Bool.{cases_Bool, and_parts, eqb-true}
use Rattle.std.proofs.lemmas.Slice.Eq.{bytes_eq-Decides}
use Rattle.std.proofs.lemmas.List.Elements.{All-nil, All-cons}
use mathlib.Core.List.{IsPrefix}
use base.Growing.{prefix_refl}
use Rattle.ab_num.specs.declared.cluster.Cluster.{Cluster}
use Rattle.ab_num.specs.declared.plan.Kind.{Kind}
use Rattle.ab_num.specs.declared.plan.Kind.TheVariants as kind
use Rattle.ab_num.specs.Parties.{party_eq}
use Rattle.ab_num.specs.declared.party.Party.TheVariants.{Replica, Client}
use Rattle.ab_num.specs.Places.{at_position_of, position_in}
use Rattle.ab_num.proofs.Lists.{Contains-head, Contains-tail, Contains-cons_cases, Contains-filter_cases, flat_map_cases, Contains-one, Contains-none}
use Rattle.ab_hist.specs.declared.request.Request.{Request}
use Rattle.ab_hist.specs.Known.{known_place, can_push_after}
use Rattle.ab_svc.specs.Machines.{Machine, Reply, IsReply, serve}
use Rattle.ab_form.specs.Formats.{EachFits}
use Rattle.ab_form.specs.Lists.{FitsInside}
use Rattle.ab_msg.specs.declared.value.Value.{Value}
use Rattle.ab_msg.specs.declared.content.Content.{Content}
use Rattle.ab_msg.specs.declared.content.Content.TheVariants.{Req, Resp, ChainTag}
use Rattle.ab_msg.specs.declared.chain_tags.TagBetween.{TagBetween}
use Rattle.ab_msg.specs.declared.message.Msg.TheVariants as msg
use Rattle.ab_msg.specs.declared.message.Out.{Out}
use Rattle.ab_msg.specs.declared.signed.Signed.{Signed}
use Rattle.ab_msg.specs.Claims.{maker_of, instance_of, passed_at, fresh, stated, signed_in}
use Rattle.ab_msg.specs.Fields.{IsRequest, IsReply as FitsReply, IsTag, IsBetween, IsWrittenLog, above}
use Rattle.ab_msg.specs.Messages.{IsDraft}
use Rattle.ab_msg.specs.Pens.{Pen}
use Rattle.ab_abs.specs.declared.seen.Seen.{Seen}
use Rattle.ab_abs.specs.declared.entry.Entry.{Entry}
use Rattle.ab_abs.specs.declared.vote.Vote.{Vote}
use Rattle.ab_abs.specs.declared.rule.ReplyRule.{ReplyRule}
use Rattle.ab_abs.specs.declared.rule.ReplyRule.TheVariants as rules
use Rattle.ab_abs.specs.Faults.{is_faulty}
use Rattle.ab_abs.specs.Acts.{Act, Setting, State, IsNoted, unmarked, MayStart, state_of, call_of}
use Rattle.ab_abs.specs.Answers.{answer_from, logged_from, logged_at}
use Rattle.ab_abs.specs.Kinds.{kind_in, rule_of}
use Rattle.ab_abs.specs.Rules.{IsOther, IsOtherBy}
use Rattle.ab_abs.specs.TailRules.{IsPassed, IsTailContent, for_positions, for_client}
use Rattle.ab_abs.specs.Messages.{Call, took, call_claims, call_values, may_state, claims_in, IsFor, IsFormed}
use Rattle.ab_abs.specs.Ensembles.{begin_of, asked_of, halt_of, statements_of, MayTake}
use Rattle.ab_abs.specs.FormLaws.{KeepsForm, Belongs, begun, called, halted, trimmed, Arises, from_entry, by_call, by_stop, by_trim}
use Rattle.ab_abs.specs.Members.{Member, member_state, respond, IsAt}
use Rattle.ab_abs.proofs.Positions.{position_here, position_there}
use Rattle.ab_abs.proofs.ChainClaims.{tags_checked, request_checked}
use Rattle.ab_abs.proofs.Prefixes.{prefix_length}
use Rattle.ab_abs.proofs.Drafts.{IsBounded, written_from, written_there, written_trimmed, few_replicas, drafts_answer}
use Rattle.ab_abs.proofs.Steps.{claimed, vote_on, logged_more, trims_at}
use Rattle.ab_abs.proofs.TailSteps.{KeepsTail, tail_calls, tail_rests, tail_starts, tail_others}
use Rattle.ab_chain.specs.Tags.{by_client}
use Rattle.ab_chain.specs.Passing.{firsts-all, few_passed}
use Rattle.ab_chain.specs.Rules.{ChainState, is_chain, position_at, Task, idle, passes, is_numbered, agrees, agreed, passing, reply_from, same_reply, answer_of, kept_of, task, log_after, sends_with, moved, sent_by, chain}

-- its clients commit on the tail of the chain
rule_of_chain : (k : Kind) (f : ℕ) → IsTrue (is_chain k) → rule_of k f ≡ rules.Tail
rule_of_chain kind.Quorum f served = absurd (cc (served))
rule_of_chain kind.ZLight f served = absurd (cc (served))
rule_of_chain kind.Chain f served = refl
rule_of_chain kind.Backup f served = absurd (cc (served))
rule_of_chain kind.ZCert f served = absurd (cc (served))

-- ---- when a position passes on

-- an answer, if it isn't stopped
pub answered : {S : Type 0} (machine : Machine S) (q : Member) (m : Request) (stopped : Bool) (o : Option Vote) (vote : Vote) → (if stopped then None else o) ≡ Some vote → (stopped ≡ false) × (o ≡ Some vote)
answered machine q m true o vote is = absurd (cc (is))
answered machine q m false o vote is = (refl, is)

-- the position gives this answer, and passes it on with this reply and these tags
pub if_true : (b : Bool) (t : Task) (m : Request) (vote : Vote) (reply : Option Reply) (tags : List TagBetween) → (if b then t else idle) ≡ passes m vote reply tags → (b ≡ true) × (t ≡ passes m vote reply tags)
if_true true t m vote reply tags is = (refl, is)
if_true false t m vote reply tags is = absurd (cc (is))

pub if_false : (b : Bool) (t : Task) (m : Request) (vote : Vote) (reply : Option Reply) (tags : List TagBetween) → (if b then idle else t) ≡ passes m vote reply tags → t ≡ passes m vote reply tags
if_false true t m vote reply tags is = absurd (cc (is))
if_false false t m vote reply tags is = is

pub record IsPassing (f p : ℕ) (n m : Request) (came : Option Reply) (given : List TagBetween) (o : Option Vote) (vote : Vote) (reply : Option Reply) (tags : List TagBetween) : Type 0 where
  pub same : n ≡ m
  pub answers : o ≡ Some vote
  pub replies : reply ≡ reply_from f p came vote.reply
  pub carries : tags ≡ given

pub passing_is : (f p : ℕ) (n m : Request) (came : Option Reply) (given : List TagBetween) (o : Option Vote) (vote : Vote) (reply : Option Reply) (tags : List TagBetween) → passing f p n came given o ≡ passes m vote reply tags
    → IsPassing f p n m came given o vote reply tags
passing_is f p n m came given None vote reply tags is = absurd (cc (is))
passing_is f p n m came given (Some v) vote reply tags is =
    let e : v ≡ vote = cc (is) in
    let r : reply_from f p came v.reply ≡ reply = cc (is) in
    record { same = cc (is); answers = ap Some e; replies = sym r ∙ ap (λ (z : Vote). reply_from f p came z.reply) e; carries = cc (is) }

agreed_by : (f p k : ℕ) (d : List ℕ) (came : Option Reply) (v vote : Vote) (b : Bool) → agrees f p k d came v ≡ b → (if b then Some v else None) ≡ Some vote → (Some v ≡ Some vote) × (agrees f p k d came vote ≡ true)
agreed_by f p k d came v vote true test is = let e : v ≡ vote = cc (is) in (is, subst (λ (z : Vote). agrees f p k d came z ≡ true) e test)
agreed_by f p k d came v vote false test is = absurd (cc (is))

pub agreed_is : (f p k : ℕ) (d : List ℕ) (came : Option Reply) (o : Option Vote) (vote : Vote) → agreed f p k d came o ≡ Some vote → (o ≡ Some vote) × (agrees f p k d came vote ≡ true)
agreed_is f p k d came None vote is = absurd (cc (is))
agreed_is f p k d came (Some v) vote is = agreed_by f p k d came v vote (agrees f p k d came v) refl is

pub late_reply : (f p : ℕ) (came : Option Reply) (own : Reply) → 2 * f < p → reply_from f p came own ≡ Some own
late_reply f p came own lt = let no' : nat_le p (2 * f) ≡ false = over p (2 * f) lt in rw no' refl
  where
    over : (a b : ℕ) → b < a → nat_le a b ≡ false
    over a b lt = grind (arith, lt)

-- ---- the log

grows_at : (log : List Request) (m : Request) (o : Option ℕ) (next : Bool) → IsPrefix log (logged_at log m o next)
grows_at log m (Some x) next = prefix_refl log
grows_at log m None true = (m ∷ [], refl)
grows_at log m None false = prefix_refl log

pub grows_with : (q : Member) (t : Task) → IsPrefix q.log (log_after q t)
grows_with q idle = prefix_refl q.log
grows_with q (passes m vote reply tags) = grows_at q.log m (known_place q.trimmed q.log m) (can_push_after q.trimmed q.log m)

-- so what is trimmed of it stays in it
pub keeps_trimmed : (q : Member) (t : Task) → q.trimmed ≤ length q.log → q.trimmed ≤ length (log_after q t)
keeps_trimmed q t low = let longer = prefix_length q.log (log_after q t) (grows_with q t) in omega (arith, low, longer)

-- ---- what is stated is its own

two_own : (r i : ℕ) (a b s : Content) → (maker_of a ≡ Replica r) × (instance_of a ≡ i) × (may_state a ≡ true) → (maker_of b ≡ Replica r) × (instance_of b ≡ i) × (may_state b ≡ true) → Contains (a ∷ b ∷ []) s → (maker_of s ≡ Replica r) × (instance_of s ≡ i) × (may_state s ≡ true)
two_own r i a b s own_a own_b has =
    elim (Contains-cons_cases a (b ∷ []) s has) [
      | inl e ↦ (ap maker_of (sym e) ∙ own_a.0, ap instance_of (sym e) ∙ own_a.1, ap may_state (sym e) ∙ own_a.2)
      | inr more ↦ let e = Contains-one b s more in (ap maker_of (sym e) ∙ own_b.0, ap instance_of (sym e) ∙ own_b.1, ap may_state (sym e) ∙ own_b.2)
    ]

one_own : (r i : ℕ) (a s : Content) → (maker_of a ≡ Replica r) × (instance_of a ≡ i) × (may_state a ≡ true) → Contains (a ∷ []) s → (maker_of s ≡ Replica r) × (instance_of s ≡ i) × (may_state s ≡ true)
one_own r i a s own has = let e = Contains-one a s has in (ap maker_of (sym e) ∙ own.0, ap instance_of (sym e) ∙ own.1, ap may_state (sym e) ∙ own.2)

passed_own : (f i : ℕ) (m : Request) (n : ℕ) (d : List ℕ) (reply : Option Reply) (r p : ℕ) (s : Content) → Contains (passed_at f i m n d reply r p) s → (maker_of s ≡ Replica r) × (instance_of s ≡ i) × (may_state s ≡ true)
passed_own f i m n d None r p s has = one_own r i (ChainTag (Replica r) i m.client m.stamp n d) s (refl, refl, refl) has
passed_own f i m n d (Some reply) r p s has = of_tests (nat_le p (2 * f)) (nat_lt p (3 * f + 1)) has
  where
    of_tests : (b c : Bool)
        → Contains (if b then ChainTag (Replica r) i m.client m.stamp n d ∷ [] else if c then ChainTag (Replica r) i m.client m.stamp n d ∷ Resp (Replica r) i m.client m.stamp n d reply ∷ [] else Resp (Replica r) i m.client m.stamp n d reply ∷ []) s
        → (maker_of s ≡ Replica r) × (instance_of s ≡ i) × (may_state s ≡ true)
    of_tests true c has = one_own r i (ChainTag (Replica r) i m.client m.stamp n d) s (refl, refl, refl) has
    of_tests false true has = two_own r i (ChainTag (Replica r) i m.client m.stamp n d) (Resp (Replica r) i m.client m.stamp n d reply) s (refl, refl, refl) (refl, refl, refl) has
    of_tests false false has = one_own r i (Resp (Replica r) i m.client m.stamp n d reply) s (refl, refl, refl) has

sends_own : (f g i p r : ℕ) (t : Task) (o : Out) (s : Content) → Contains (sends_with g i p t) o → Contains (fresh f (Replica r) o.msg) s → (maker_of s ≡ Replica r) × (instance_of s ≡ i) × (may_state s ≡ true)
sends_own f g i p r idle o s sent has = absurd (Contains-none o sent)
sends_own f g i p r (passes m vote reply tags) o s sent has =
    let is = Contains-one _ o sent in
    passed_own f i m vote.n vote.d reply r (position_in f i r) s (subst (λ (z : Out). Contains (fresh f (Replica r) z.msg) s) (sym is) has)

sends_unsigned : (g i p : ℕ) (t : Task) (o : Out) (v : Signed) → Contains (sends_with g i p t) o → Contains (signed_in o.msg) v → ⊥
sends_unsigned g i p idle o v sent has = Contains-none o sent
sends_unsigned g i p (passes m vote reply tags) o v sent has = let is = Contains-one _ o sent in Contains-none v (subst (λ (z : Out). Contains (signed_in z.msg) v) (sym is) has)

-- ---- what is sent has bytes

tags_between : (client low : ℕ) (tags : List (ℕ × List ℕ)) → client ≤ 15 → EachFits IsTag above low tags → All IsBetween (map (by_client client) tags)
tags_between client low [] few fit = All-nil IsBetween
tags_between client low (t ∷ tags) few fit =
    All-cons IsBetween (by_client client t) (map (by_client client) tags) ((omega arith, few), ((omega arith, fit.0.0.1), fit.0.1)) (tags_between client (above low t) tags few fit.1)

module _ {S : Type 0} (machine : Machine S) where
  -- a request and tags of the grammar, with a reply of the grammar or its own
  record HasForm (q : ChainState) (m : Request) (vote : Vote) (reply : Option Reply) (tags : List TagBetween) : Type 0 where
    answers : answer_of machine q.at m ≡ Some vote
    fits : IsRequest 0 15 m
    replied : FitsInside FitsReply reply ⊎ (reply ≡ Some vote.reply)
    came : List TagBetween
    between : All IsBetween came
    carried : tags ≡ kept_of q m came

  reply_is : (f p : ℕ) (came : Option Reply) (own : Reply) (reply : Option Reply) → reply ≡ reply_from f p came own → FitsInside FitsReply came → FitsInside FitsReply reply ⊎ (reply ≡ Some own)
  reply_is f p came own reply is fits =
      elim (cases_Bool (nat_le p (2 * f))) [
        | inl early ↦ inl (let e : reply ≡ came = rw early at is in subst (λ (r : Option Reply). FitsInside FitsReply r) (sym e) fits)
        | inr late ↦ inr (rw late at is)
      ]

  has_form : (q : ChainState) (call : Call) → IsFormed call → (m : Request) (vote : Vote) (reply : Option Reply) (tags : List TagBetween) → task machine q call ≡ passes m vote reply tags → HasForm q m vote reply tags
  has_form q (took (msg.Req (Req maker i n) tags')) formed m vote reply tags is =
      let p = position_at q in
      let given : Request → List TagBetween = λ z. kept_of q z (map (by_client z.client) tags'.items) in
      let first = if_true (p == 1) (passing q.f p n None (given n) (answer_of machine q.at n)) m vote reply tags is in
      let found = passing_is q.f p n m None (given n) (answer_of machine q.at n) vote reply tags first.1 in
      let e = found.same in
      let fits : IsRequest 0 15 n = formed.0.1.1 in
      record {
        answers = subst (λ (z : Request). answer_of machine q.at z ≡ Some vote) e found.answers;
        fits = subst (λ (z : Request). IsRequest 0 15 z) e fits;
        replied = reply_is q.f p None vote.reply reply found.replies tt;
        came = map (by_client m.client) tags'.items;
        between = subst (λ (z : Request). All IsBetween (map (by_client z.client) tags'.items)) e (tags_between n.client 0 tags'.items fits.0.1 formed.1.1);
        carried = found.carries ∙ ap given e;
      }
  has_form q (took (msg.Chain i n k d came given)) formed m vote reply tags is =
      let p = position_at q in
      let o = agreed q.f p k d came (answer_of machine q.at n) in
      let found = passing_is q.f p n m came (kept_of q n given) o vote reply tags (if_false (p == 1) (passing q.f p n came (kept_of q n given) o) m vote reply tags is) in
      let e = found.same in
      record {
        answers = subst (λ (z : Request). answer_of machine q.at z ≡ Some vote) e (agreed_is q.f p k d came (answer_of machine q.at n) vote found.answers).0;
        fits = subst (λ (z : Request). IsRequest 0 15 z) e formed.1.0;
        replied = reply_is q.f p came vote.reply reply found.replies formed.1.1.1.1.0;
        came = given;
        between = formed.1.1.1.1.1.1;
        carried = found.carries ∙ ap (λ (z : Request). kept_of q z given) e;
      }
  has_form q _ formed m vote reply tags is = absurd (cc (is))

  written_with : (q : Member) (t : Task) → ((m : Request) (vote : Vote) (reply : Option Reply) (tags : List TagBetween) → t ≡ passes m vote reply tags → IsRequest 0 15 m) → IsWrittenLog q.trimmed q.log → IsWrittenLog q.trimmed (log_after q t)
  written_with q idle fits was = was
  written_with q (passes m vote reply tags) fits was = written_from q.trimmed q.log m (fits m vote reply tags refl) was

  -- a stopped replica does nothing
  pub no_pass : (q : ChainState) (call : Call) → q.at.stopped ≡ true → task machine q call ≡ idle
  no_pass q (took (msg.Req (Req maker i m) tags)) stopped =
      let none : answer_of machine q.at m ≡ None = ap (λ b. if b then None else answer_from machine q.at.trimmed (length q.at.base) q.at.log m) stopped in
      rw none (either_idle (position_at q == 1))
    where
      either_idle : (b : Bool) → (if b then idle else idle) ≡ idle
      either_idle true = refl
      either_idle false = refl
  no_pass q (took (msg.Chain i m n d reply tags)) stopped =
      let none : answer_of machine q.at m ≡ None = ap (λ b. if b then None else answer_from machine q.at.trimmed (length q.at.base) q.at.log m) stopped in
      rw none (either_idle (position_at q == 1))
    where
      either_idle : (b : Bool) → (if b then idle else idle) ≡ idle
      either_idle true = refl
      either_idle false = refl
  no_pass q _ stopped = refl

  -- where a value is
  pub record IsHere (f i r : ℕ) (q : ChainState) : Type 0 where
    pub sized : q.f ≡ f
    pub placed : q.at.instance ≡ i
    pub owned : q.at.me ≡ r

  pub here : (c : Cluster) (i r : ℕ) (q : ChainState) → Belongs (chain machine) is_chain c i r q → IsHere c.f i r q
  here c i r q (begun e served fits) = record { sized = refl; placed = refl; owned = refl }
  here c i r q (called pen p call was) = let h = here c i r p was in record { sized = h.sized; placed = h.placed; owned = h.owned }
  here c i r q (halted p was) = let h = here c i r p was in record { sized = h.sized; placed = h.placed; owned = h.owned }
  here c i r q (trimmed n p low high was) = let h = here c i r p was in record { sized = h.sized; placed = h.placed; owned = h.owned }

  own_law : (c : Cluster) (i r : ℕ) (pen : Pen) (q : ChainState) (call : Call) (o : Out) (s : Content) → Belongs (chain machine) is_chain c i r q → Contains ((chain machine).sends pen q call) o → Contains (fresh c.f (Replica r) o.msg) s → (maker_of s ≡ Replica r) × (instance_of s ≡ i) × (may_state s ≡ true)
  own_law c i r pen q call o s was sent has =
      let w = sends_own c.f q.f q.at.instance (position_at q) r (task machine q call) o s sent has in (w.0, w.1 ∙ (here c i r q was).placed, w.2)

  -- values with bytes
  record IsBoundedLink (c : Cluster) (i r : ℕ) (q : ChainState) : Type 0 where
    is : IsHere c.f i r q
    within : r < 3 * c.f + 1
    at : IsBounded q.at

  bounded : (c : Cluster) (i r : ℕ) (q : ChainState) → Arises (chain machine) is_chain c i r q → IsBoundedLink c i r q
  bounded c i r q (from_entry e served placed lt entry) =
      record { is = record { sized = refl; placed = refl; owned = refl }; within = lt; at = record { placed = placed; owned = few_replicas c r lt; based = entry.base.few; written = entry.base } }
  bounded c i r q (by_call pen p call signs formed was) =
      let b = bounded c i r p was in
      let written = written_with p.at (task machine p call) (λ m vote reply tags is. (has_form p call formed m vote reply tags is).fits) b.at.written in
      record { is = record { sized = b.is.sized; placed = b.is.placed; owned = b.is.owned }; within = b.within; at = record { placed = b.at.placed; owned = b.at.owned; based = b.at.based; written = written } }
  bounded c i r q (by_stop p was) =
      let b = bounded c i r p was in
      record { is = record { sized = b.is.sized; placed = b.is.placed; owned = b.is.owned }; within = b.within; at = record { placed = b.at.placed; owned = b.at.owned; based = b.at.based; written = b.at.written } }
  bounded c i r q (by_trim n p low high was) =
      let b = bounded c i r p was in
      let written = written_trimmed p.at.trimmed n p.at.log low high b.at.written in
      record { is = record { sized = b.is.sized; placed = b.is.placed; owned = b.is.owned }; within = b.within; at = record { placed = b.at.placed; owned = b.at.owned; based = b.at.based; written = written } }

  module _ (short : (h : List Request) (m : Request) → length (machine.answer (serve machine h) m).items ≤ 72) where
    -- an answer has bytes as it has in a response
    answer_draft : (q : Member) (m : Request) (vote : Vote) → IsBounded q → IsRequest 0 15 m → answer_of machine q m ≡ Some vote
        → (o : Out) → Contains (respond q.instance q.me m (Some vote)) o → IsDraft o.msg
    answer_draft q m vote b fits is o has = drafts_answer machine short q m b fits o (subst (λ (a : Option Vote). Contains (respond q.instance q.me m a) o) (sym is) has)

    reply_fits : (reply : Option Reply) (own : Reply) → FitsReply own → FitsInside FitsReply reply ⊎ (reply ≡ Some own) → FitsInside FitsReply reply
    reply_fits reply own fits (inl came) = came
    reply_fits reply own fits (inr is) = subst (λ (r : Option Reply). FitsInside FitsReply r) (sym is) fits

    pass_draft : (f : ℕ) (q : ChainState) (m : Request) (vote : Vote) (reply : Option Reply) (tags : List TagBetween) → q.f ≤ 2 → position_at q ≤ 3 * q.f + 1 → IsBounded q.at → HasForm q m vote reply tags
        → IsDraft (msg.Chain q.at.instance m vote.n vote.d reply tags)
    pass_draft f q m vote reply tags few most b form =
        let v = answer_draft q.at m vote b form.fits form.answers _ (Contains-head _ []) in
        let n = v.1.1.1.1.0 in
        let d = v.1.1.1.1.1.0 in
        let own = v.1.1.1.1.1.1 in
        let short' : length tags ≤ 49 = subst (λ (ts : List TagBetween). length ts ≤ 49) (sym form.carried) (few_passed q.f q.at.instance m.client (position_at q) few most form.came) in
        let each : All IsBetween tags = subst (λ (ts : List TagBetween). All IsBetween ts) (sym form.carried) (firsts-all IsBetween _ [] form.came (All-nil IsBetween) form.between) in
        (b.placed, (form.fits, (n, (d, (reply_fits reply vote.reply own form.replied, ((omega arith, omega (arith, short')), each))))))

    drafts_with : (q : ChainState) (t : Task) → q.f ≤ 2 → position_at q ≤ 3 * q.f + 1 → IsBounded q.at → ((m : Request) (vote : Vote) (reply : Option Reply) (tags : List TagBetween) → t ≡ passes m vote reply tags → HasForm q m vote reply tags)
        → (o : Out) → Contains (sent_by q t) o → IsDraft o.msg
    drafts_with q idle few most b forms o sent = absurd (Contains-none o sent)
    drafts_with q (passes m vote reply tags) few most b forms o sent =
        subst (λ (z : Out). IsDraft z.msg) (Contains-one _ o sent) (pass_draft q.f q m vote reply tags few most b (forms m vote reply tags refl))

    drafts_law : (c : Cluster) (i r : ℕ) (q : ChainState) (call : Call) → IsBoundedLink c i r q → IsFormed call → (o : Out) → Contains (sent_by q (task machine q call)) o → IsDraft o.msg
    drafts_law c i r q call b formed o sent =
        let f_few = c.in_bounds.few_faulty in
        let same = b.is.sized in
        let me_in : q.at.me < 3 * q.f + 1 = let own = b.is.owned in let lt = b.within in omega arith in
        let p = position_here q.f q.at.instance q.at.me me_in in
        drafts_with q (task machine q call) (omega arith) p.1 b.at (λ m vote reply tags is. has_form q call formed m vote reply tags is) o sent

    pub form_law : KeepsForm (chain machine) is_chain
    form_law = record {
      starts = λ c r. record { logged = refl; entered = refl; first = refl };
      grows = λ pen q call. grows_with q.at (task machine q call);
      frozen = λ c i r pen q call was stopped. (ap (λ (t : Task). log_after q.at t) (no_pass q call stopped), stopped);
      halts = λ q. (refl, inl refl);
      begins = λ c i r e. (inl refl, refl);
      logs = λ c i r e served other. refl;
      enters = λ c i r e. refl;
      entered_stays = λ pen q call. refl;
      entered_rests = λ q. refl;
      trim_rests = λ n q. refl;
      trims = λ n q. refl;
      begins_trimmed = λ c i r e. refl;
      trimmed_stays = λ pen q call. refl;
      trimmed_rests = λ q. refl;
      zcert_stays = λ c i r pen q call was stopped. refl;
      zcert_rests = λ q. refl;
      zcert_beside = λ c i r q was. refl;
      own = own_law;
      silent = λ c i r pen q call o s was stopped sent has. absurd (Contains-none o (subst (λ (t : Task). Contains (sent_by q t) o) (no_pass q call stopped) sent));
      signed = λ pen q call o v sent has. absurd (sends_unsigned q.f q.at.instance (position_at q) (task machine q call) o v sent has);
      sent = λ pen q call s has. absurd (Contains-none s has);
      settles = λ c i r pen q call cert was is formed. inl refl;
      written = λ c i r q was. written_there q.at.trimmed q.at.log (bounded c i r q was).at.written;
      zcert_written = λ c i r q was. tt;
      drafts = λ c i r pen q call signs was formed o sent. drafts_law c i r q call (bounded c i r q was) formed o sent;
    }

-- ---- acts

-- what is found stands in the list
contains_at : {A : Type 0} (xs : List A) (k : ℕ) (x : A) → slice_get xs k ≡ Some x → Contains xs x
contains_at [] k x is = absurd (cc (is))
contains_at (y ∷ ys) zero x is = let e : y ≡ x = cc (is) in subst (λ z. Contains (y ∷ ys) z) e (Contains-head y ys)
contains_at (y ∷ ys) (suc k) x is = Contains-tail y x ys (contains_at ys k x is)

-- what a position may pass on: the answer is its own, and is as those before it stated
record MayPass {S : Type 0} (machine : Machine S) (x : Setting) (claims : List Content) (p : ℕ) (q : Member) (m : Request) (vote : Vote) (reply : Option Reply) : Type 0 where
  open' : q.stopped ≡ false
  answers : answer_from machine q.trimmed (length q.base) q.log m ≡ Some vote
  reply_is : 2 * x.cluster.f < p → reply ≡ Some vote.reply
  asked : p ≤ x.cluster.f + 1 → Contains claims (Req (Client m.client) x.i m)
  stated' : (r : ℕ) → 1 ≤ r → r < p → p ≤ r + x.cluster.f + 1 → Contains claims (ChainTag (Replica (at_position_of x.cluster.f x.i r)) x.i m.client m.stamp vote.n vote.d)

module _ {S : Type 0} (machine : Machine S) (x : Setting) where
  -- what is passed on is stated of its own log
  states_passed : (claims : List Content) (here : State) (p r : ℕ) (m : Request) (n : ℕ) (d : List ℕ) (own : Reply) (reply : Option Reply) → IsPassed x claims here p m n d → IsReply machine (take n here.log) m own → (2 * x.cluster.f < p → reply ≡ Some own)
      → (s : Content) → Contains (passed_at x.cluster.f x.i m n d reply r p) s → IsTailContent machine x claims here p r s
  states_passed claims here p r m n d own None passed replied reply_is s has =
      for_positions m n d passed (sym (Contains-one (ChainTag (Replica r) x.i m.client m.stamp n d) s has))
  states_passed claims here p r m n d own (Some reply) passed replied reply_is s has =
      let tag : Content = ChainTag (Replica r) x.i m.client m.stamp n d in
      let resp : Content = Resp (Replica r) x.i m.client m.stamp n d reply in
      elim (cases_Bool (nat_le p (2 * x.cluster.f))) [
        | inl early ↦ for_positions m n d passed (sym (Contains-one tag s (rw early at has)))
        | inr late ↦
            let e : Some reply ≡ Some own = reply_is (over p (2 * x.cluster.f) late) in
            let same : own ≡ reply = cc (e) in
            let replied' : IsReply machine (take n here.log) m reply = subst (λ (y : Reply). IsReply machine (take n here.log) m y) same replied in
            let has' : Contains (if nat_lt p (3 * x.cluster.f + 1) then tag ∷ resp ∷ [] else resp ∷ []) s = rw late at has in
            elim (cases_Bool (nat_lt p (3 * x.cluster.f + 1))) [
              | inl middle ↦ elim (Contains-cons_cases tag (resp ∷ []) s (rw middle at has')) [
                | inl e' ↦ for_positions m n d passed (sym e')
                | inr more ↦ for_client m n d reply passed replied' (sym (Contains-one resp s more))
              ]
              | inr last ↦ for_client m n d reply passed replied' (sym (Contains-one resp s (rw last at has')))
            ]
      ]
    where
      over : (a b : ℕ) → nat_le a b ≡ false → b < a
      over a b no' = grind (arith, no')

  module _ (acts : List Act) where
    abbrev pub LinkGoes : ℕ → Member → Act → Type 0
    LinkGoes me q a = IsAt x q me (state_of (a ∷ acts) me) × KeepsTail machine x acts a

    on_with : (me : ℕ) (q : Member) (t : Task) (claims : List Content) (values : List (List Value)) (seen : List Seen)
        → ((m : Request) (vote : Vote) (reply : Option Reply) (tags : List TagBetween) → t ≡ passes m vote reply tags → MayPass machine x claims (position_in x.cluster.f x.i me) q m vote reply)
        → IsNoted x me (member_state (moved q t)) seen → IsAt x q me (state_of acts me)
        → LinkGoes me (moved q t) (call_of me claims values (statements_of x.cluster.f me (sends_with x.cluster.f x.i (position_in x.cluster.f x.i me) t)) seen (member_state (moved q t)))
    on_with me q idle claims values seen may noted was =
        let p = position_here x.cluster.f x.i me was.stands.within in
        let s = member_state q in
        let next = tail_rests machine x acts me (position_in x.cluster.f x.i me) claims values seen s s noted p.0 p.1 p.2 refl refl (λ halt. halt) was.stands in
        (record { placed = was.placed; owned = was.owned; trimmed = was.trimmed; stands = next.0 }, next.1)
    on_with me q (passes m vote reply tags) claims values seen may noted was =
        let p = position_in x.cluster.f x.i me in
        let here = position_here x.cluster.f x.i me was.stands.within in
        let ok = may m vote reply tags refl in
        let new = member_state (moved q (passes m vote reply tags)) in
        let v = vote_on machine q.trimmed q.base q.log m vote was.stands.begins was.trimmed ok.answers in
        let more = logged_more q.trimmed q.log m was.stands.rises in
        let passed : IsPassed x claims new p m vote.n vote.d = record {
          stands = contains_at (take vote.n (logged_from q.trimmed q.log m)) v.replied.before m v.replied.stands;
          digest = v.digest;
          above = v.above;
          reaches = v.reaches;
          asked = ok.asked;
          stated = ok.stated';
        } in
        let made = statements_of x.cluster.f me (sends_with x.cluster.f x.i p (passes m vote reply tags)) in
        let next = tail_calls machine x acts me claims values made seen (member_state q) new was.stands (record {
          p = p;
          first_on = here.0;
          to_last = here.1;
          here = here.2;
          based = refl;
          grows = more.0;
          rises = more.1;
          frozen = λ halt. let both : true ≡ false = sym halt ∙ ok.open' in absurd (cc (both));
          added = λ w has. elim (more.2 w has) [
            | inl older ↦ inl older
            | inr e ↦ inr (subst (λ (z : Request). (n : ℕ) × (d : List ℕ) × IsPassed x claims new p z n d) e (vote.n, vote.d, passed))
          ];
          states = λ s has.
              let found = flat_map_cases (λ (o : Out). stated x.cluster.f (Replica me) o.msg) (sends_with x.cluster.f x.i p (passes m vote reply tags)) s has in
              let one = Contains-one _ found.0 found.1 in
              let has' = subst (λ (o : Out). Contains (stated x.cluster.f (Replica me) o.msg) s) (sym one) found.2 in
              states_passed claims new p me m vote.n vote.d vote.reply reply passed v.replied ok.reply_is s
              (Contains-filter_cases (λ t. party_eq (maker_of t) (Replica me)) (passed_at x.cluster.f x.i m vote.n vote.d reply me p) s has').0;
        }) noted in
        (record { placed = was.placed; owned = was.owned; trimmed = keeps_trimmed q (passes m vote reply tags) was.trimmed; stands = next.0 }, next.1)

    -- a call, where it is known that the value is this replica's
    may_pass : (me : ℕ) (q : ChainState) (call : Call) → q.f ≡ x.cluster.f → q.at.instance ≡ x.i → q.at.me ≡ me → IsFor x.i call
        → (m : Request) (vote : Vote) (reply : Option Reply) (tags : List TagBetween) → task machine q call ≡ passes m vote reply tags → IsFormed call
        → MayPass machine x (claims_in x.i (call_claims x.cluster.f me call)) (position_in x.cluster.f x.i me) q.at m vote reply
    may_pass me q (took (msg.Req (Req maker i n) tags')) same placed owned for m vote reply tags is formed =
        let p = position_at q in
        let p_is : p ≡ position_in x.cluster.f x.i me = cc (same, placed, owned) in
        let given = kept_of q n (map (by_client n.client) tags'.items) in
        let first = if_true (p == 1) (passing q.f p n None given (answer_of machine q.at n)) m vote reply tags is in
        let one : p ≡ 1 = eqb-true p 1 first.0 in
        let at_one : position_in x.cluster.f x.i me ≡ 1 = sym p_is ∙ one in
        let found = passing_is q.f p n m None given (answer_of machine q.at n) vote reply tags first.1 in
        let n_is : n ≡ m = found.same in
        let ans = answered machine q.at n q.at.stopped (answer_from machine q.at.trimmed (length q.at.base) q.at.log n) vote found.answers in
        let some = x.cluster.in_bounds.some_faulty in
        let here : i ≡ x.i = cc (for) in
        let own : maker ≡ Client n.client = formed.0.0 in
        record {
          open' = ans.0;
          answers = subst (λ (z : Request). answer_from machine q.at.trimmed (length q.at.base) q.at.log z ≡ Some vote) n_is ans.1;
          reply_is = λ lt. absurd (omega (arith, lt, at_one, some));
          asked = λ near.
              let s : Content = Req maker i n in
              let e : s ≡ Req (Client m.client) x.i m = cc (own, here, n_is) in
              subst (λ (z : Content). Contains (claims_in x.i (s ∷ [])) z) e (claimed x.i (s ∷ []) s (Contains-head s []) refl here);
          stated' = λ r one' lt near. absurd (omega (arith, lt, one', at_one));
        }
    may_pass me q (took (msg.Chain i n k d came tags')) same placed owned for m vote reply tags is formed =
        let p = position_at q in
        let p_is : p ≡ position_in x.cluster.f x.i me = cc (same, placed, owned) in
        let here : i ≡ x.i = cc (for) in
        let given = kept_of q n tags' in
        let o = agreed q.f p k d came (answer_of machine q.at n) in
        let found = passing_is q.f p n m came given o vote reply tags (if_false (p == 1) (passing q.f p n came given o) m vote reply tags is) in
        let n_is : n ≡ m = found.same in
        let agree = agreed_is q.f p k d came (answer_of machine q.at n) vote found.answers in
        let ans = answered machine q.at n q.at.stopped (answer_from machine q.at.trimmed (length q.at.base) q.at.log n) vote agree.0 in
        let both = and_parts (is_numbered k d vote) (nat_le p (2 * q.f + 1) || same_reply came vote.reply) agree.1 in
        let nd = and_parts (vote.n == k) (bytes_eq vote.d d) both.0 in
        let k_is : vote.n ≡ k = eqb-true vote.n k nd.0 in
        let d_is : vote.d ≡ d = (bytes_eq-Decides vote.d d).0 nd.1 in
        let all = call_claims x.cluster.f me (took (msg.Chain i n k d came tags')) in
        let pos_i : position_in x.cluster.f x.i me ≡ position_in x.cluster.f i me = ap (λ z. position_in x.cluster.f z me) (sym here) in
        record {
          open' = ans.0;
          answers = subst (λ (z : Request). answer_from machine q.at.trimmed (length q.at.base) q.at.log z ≡ Some vote) n_is ans.1;
          reply_is = λ lt. found.replies ∙ late_reply q.f p came vote.reply (omega (arith, lt, p_is, same));
          asked = λ near.
              let s : Content = Req (Client n.client) i n in
              let has : Contains all s = request_checked x.cluster.f i n k d came tags' me (omega (arith, near, pos_i)) in
              let e : s ≡ Req (Client m.client) x.i m = cc (here, n_is) in
              subst (λ (z : Content). Contains (claims_in x.i all) z) e (claimed x.i all s has refl here);
          stated' = λ r one' lt near.
              let s : Content = ChainTag (Replica (at_position_of x.cluster.f i r)) i n.client n.stamp k d in
              let has : Contains all s = tags_checked x.cluster.f i n k d came tags' me r one' (omega (arith, lt, pos_i)) (omega (arith, near, pos_i)) in
              let e : s ≡ ChainTag (Replica (at_position_of x.cluster.f x.i r)) x.i m.client m.stamp vote.n vote.d = cc (here, n_is, k_is, d_is) in
              subst (λ (z : Content). Contains (claims_in x.i all) z) e (claimed x.i all s has refl here);
        }
    may_pass me q _ same placed owned for m vote reply tags is formed = absurd (cc (is))

    -- where a replica of this cluster stands
    abbrev pub LinkStands : ChainState → ℕ → Type 0
    LinkStands q me = IsAt x q.at me (state_of acts me) × (q.f ≡ x.cluster.f)

    pub start_law : (me : ℕ) (e : Entry) → e.trimmed ≤ length e.base → MayStart x acts me e.base → LinkGoes me ((chain machine).begin x.cluster x.i me e).at (begin_of (chain machine) x me e)
    start_law me e low may =
        let next = tail_starts machine x acts me e.base (member_state ((chain machine).begin x.cluster x.i me e).at) (record { based = refl; logged = refl }) may in
        (record { placed = refl; owned = refl; trimmed = low; stands = next.0 }, next.1)

    pub stop_law : (me : ℕ) (q : ChainState) → LinkStands q me → LinkGoes me ((chain machine).halt q).at (halt_of (chain machine) me q)
    stop_law me q was =
        let p = position_there x.cluster.f x.i me was.0.stands.within in
        let next = tail_rests machine x acts me p.0 [] [] [] (member_state q.at) (member_state ((chain machine).halt q).at) (unmarked refl) p.1 p.2 p.3 refl refl (λ _. refl) was.0.stands in
        (record { placed = was.0.placed; owned = was.0.owned; trimmed = was.0.trimmed; stands = next.0 }, next.1)

    pub trim_law : (me n : ℕ) (q : ChainState) → n ≤ length q.at.log → LinkStands q me → LinkStands ((chain machine).trim n q) me
    trim_law me n q high was = (trims_at x me q.at ((chain machine).trim n q).at (state_of acts me) refl refl refl high was.0, was.1)

    pub on_law : (me : ℕ) (pen : Pen) (q : ChainState) (call : Call) (seen : List Seen) → MayTake (chain machine) x acts me pen q call seen → LinkStands q me
        → LinkGoes me ((chain machine).after pen q call).at (asked_of (chain machine) x me pen q call seen)
    on_law me pen q call seen may was =
        let t = task machine q call in
        let claims = claims_in x.i (call_claims x.cluster.f me call) in
        let done = on_with me q.at t claims (call_values call) seen (λ m vote reply tags is. may_pass me q call was.1 was.0.placed was.0.owned may.for m vote reply tags is may.formed) may.noted was.0 in
        let Goal : ℕ → ℕ → ℕ → Type 0 = λ f i r. LinkGoes me (moved q.at t) (call_of me claims (call_values call) (statements_of x.cluster.f me (sends_with f i (position_in f i r) t)) seen (member_state (moved q.at t))) in
        subst (λ (f : ℕ). Goal f q.at.instance q.at.me) (sym was.1) (subst (λ (i : ℕ). Goal x.cluster.f i q.at.me) (sym was.0.placed) (subst (λ (r : ℕ). Goal x.cluster.f x.i r) (sym was.0.owned) done))

    pub others_law : (a : Act) → IsTrue (is_chain (kind_in x)) → is_faulty x.faulty a.party ≡ false → IsOther x acts a → KeepsTail machine x acts a
    others_law a served correct is = tail_others machine x acts a correct (subst (λ (rule : ReplyRule). IsOtherBy rule x acts a) (rule_of_chain (kind_in x) x.cluster.f served) is)
