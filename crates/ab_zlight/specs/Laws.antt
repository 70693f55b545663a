-- ZLight is lawful.
use Rattle.std.proofs.Common.{◌≡◌, ℕ, zero, suc, ◌+◌, ◌*◌, ◌≤◌, Bool, true, false, Option, None, Some, List, [], ◌∷◌, ◌++◌, length, refl, sym, ap, ◌∙◌, subst, inl, inr, if◌then◌else◌, arith}
use Rattle.std.specs.Prelude.{Contains, IsTrue, not, ◌==◌, ◌&&◌, replicate, unwrap_or}
use Rattle.std.proofs.lemmas.Bool.{cases_Bool}
use Rattle.std.proofs.lemmas.Bool.Decides.{Decides-eqb}
use Rattle.std.proofs.lemmas.List.Elements.{Contains-append_cases}
use Rattle.std.proofs.lemmas.Option.{slice_get_within}
use mathlib.Core.List.{IsPrefix}
use base.Growing.{prefix_refl}
use Rattle.ab_num.specs.declared.cluster.Cluster.{Cluster}
use Rattle.ab_num.specs.declared.plan.Kind.{Kind}
use Rattle.ab_num.specs.declared.plan.Kind.TheVariants as kind
use Rattle.ab_num.specs.declared.party.Party.{Party}
use Rattle.ab_num.specs.declared.party.Party.TheVariants.{Replica, Client}
use Rattle.ab_num.specs.Parties.{party_eq}
use Rattle.ab_num.proofs.Lists.{Contains-head, Contains-filter_cases, flat_map_cases, Contains-one, Contains-none}
use Rattle.ab_hist.specs.declared.request.Request.{Request}
use Rattle.ab_hist.specs.Histories.{place_in}
use Rattle.ab_hist.specs.Known.{known_place, can_push_after}
use Rattle.ab_hist.proofs.KnownLemmas.{known_at}
use Rattle.ab_svc.specs.Machines.{Machine, serve}
use Rattle.ab_form.specs.Formats.{EachFits}
use Rattle.ab_msg.specs.declared.value.Value.{Value}
use Rattle.ab_msg.specs.declared.content.Content.{Content}
use Rattle.ab_msg.specs.declared.content.Content.TheVariants.{Req, Order, Resp}
use Rattle.ab_msg.specs.declared.message.Msg.{Msg}
use Rattle.ab_msg.specs.declared.message.Msg.TheVariants as msg
use Rattle.ab_msg.specs.declared.message.Out.{Out}
use Rattle.ab_msg.specs.declared.signed.Signed.{Signed}
use Rattle.ab_msg.specs.Claims.{maker_of, instance_of, fresh, stated, signed_in}
use Rattle.ab_msg.specs.Fields.{IsRequest, IsTag, AreTags, IsWrittenLog, above}
use Rattle.ab_msg.specs.Messages.{IsDraft}
use Rattle.ab_msg.specs.Pens.{Pen}
use Rattle.ab_wire.specs.Inside.{tag_in}
use Rattle.ab_abs.specs.declared.seen.Seen.{Seen}
use Rattle.ab_abs.specs.declared.entry.Entry.{Entry}
use Rattle.ab_abs.specs.declared.vote.Vote.{Vote}
use Rattle.ab_abs.specs.declared.rule.ReplyRule.{ReplyRule}
use Rattle.ab_abs.specs.declared.rule.ReplyRule.TheVariants as rules
use Rattle.ab_abs.specs.Faults.{is_faulty}
use Rattle.ab_abs.specs.Acts.{Act, Setting, Premises, IsNoted, MayStart, state_of, call_of}
use Rattle.ab_abs.specs.Kinds.{kind_in, rule_of}
use Rattle.ab_abs.specs.Rules.{IsOther, IsOtherBy, IsSound, is_inner}
use Rattle.ab_abs.specs.Messages.{Call, took, timed, call_claims, call_values, may_state, claims_in, IsFor, IsFormed}
use Rattle.ab_abs.specs.Ensembles.{begin_of, asked_of, halt_of, statements_of, MayTake}
use Rattle.ab_abs.specs.FormLaws.{KeepsForm, Belongs, begun, called, halted, trimmed, Arises, from_entry, by_call, by_stop, by_trim}
use Rattle.ab_abs.specs.Answers.{answer_from, logged_from, logged_at}
use Rattle.ab_abs.specs.Members.{Member, member_state, respond, IsAt}
use Rattle.ab_abs.proofs.Prefixes.{prefix_length}
use Rattle.ab_abs.proofs.Drafts.{IsBounded, written_unless, written_there, written_trimmed, few_replicas, drafts_answer}
use Rattle.ab_abs.proofs.Steps.{IsOwn, found_at, takes_request, responds_own, responds_unsigned, GoesTo, begins_at, rests_at, stops_at, trims_at, others_sound}
use Rattle.ab_zlight.specs.Rules.{Light, is_zlight, primary_at, is_primary, follows, Task, idle, ordered, asked, task_of, task, answer_of, log_with, log_after, to_others, order_msg, orders_at, orders, sends_with, moved, zlight}

-- its clients commit on the votes of all
rule_of_zlight : (k : Kind) (f : ℕ) → IsTrue (is_zlight k) → rule_of k f ≡ rules.All
rule_of_zlight kind.Quorum f served = absurd (cc (served))
rule_of_zlight kind.ZLight f served = refl
rule_of_zlight kind.Chain f served = absurd (cc (served))
rule_of_zlight kind.Backup f served = absurd (cc (served))
rule_of_zlight kind.ZCert f served = absurd (cc (served))

-- ---- tasks

-- the request of a task
abbrev pub request_in : Task → Option Request
request_in idle = None
request_in (ordered m) = Some m
request_in (asked m tags) = Some m

-- the tags of a task
abbrev pub tags_of : Task → Option (List (ℕ × List ℕ))
tags_of idle = None
tags_of (ordered m) = None
tags_of (asked m tags) = Some tags

task_if : (b : Bool) (t : Task) (m : Request) → request_in (if b then t else idle) ≡ Some m → request_in t ≡ Some m
task_if true t m is = is
task_if false t m is = absurd (cc (is))

tags_if : (b : Bool) (t : Task) (tags : List (ℕ × List ℕ)) → tags_of (if b then t else idle) ≡ Some tags → tags_of t ≡ Some tags
tags_if true t tags is = is
tags_if false t tags is = absurd (cc (is))

-- whether an ORDER is taken
abbrev is_taken : Light → Party → ℕ → Request → Bool
is_taken q maker n m = (not (is_primary q) && party_eq maker (Replica (primary_at q))) && follows q.at m n

-- a request that is answered was claimed, in the instance
req_first : (i j : ℕ) (m : Request) (more : List Content) → j ≡ i → Contains (claims_in i (Req (Client m.client) j m ∷ more)) (Req (Client m.client) i m)
req_first i j m more e =
    subst (λ (n : ℕ). Contains (claims_in i (Req (Client m.client) n m ∷ more)) (Req (Client m.client) i m)) (sym e)
    (rw ((Decides-eqb i i).1 refl) (Contains-head (Req (Client m.client) i m) (claims_in i more)))

pub claimed_in : (f r i : ℕ) (q : Light) (t : Msg) (m : Request) → IsFormed (took t) → IsFor i (took t) → request_in (task_of q t) ≡ Some m → Contains (claims_in i (call_claims f r (took t))) (Req (Client m.client) i m)
claimed_in f r i q (msg.Req (Req maker j n) tags) m formed for is =
    let own : maker ≡ Client n.client = formed.0.0 in
    let here : j ≡ i = cc (for) in
    let same : n ≡ m = let e = task_if (is_primary q) (asked n tags.items) m is in cc (e) in
    subst (λ (p : Party). Contains (claims_in i (Req p j n ∷ [])) (Req (Client m.client) i m)) (sym own)
    (subst (λ (z : Request). Contains (claims_in i (Req (Client n.client) j n ∷ [])) (Req (Client z.client) i z)) same (req_first i j n [] here))
claimed_in f r i q (msg.Order (Order maker j x n) client_tag tag) m formed for is =
    let here : j ≡ i = cc (for) in
    let same : n ≡ m = let e = task_if (is_taken q maker x n) (ordered n) m is in cc (e) in
    subst (λ (z : Request). Contains (claims_in i (Req (Client n.client) j n ∷ Order maker j x n ∷ [])) (Req (Client z.client) i z)) same (req_first i j n (Order maker j x n ∷ []) here)
claimed_in f r i q _ m formed for is = absurd (cc (is))

pub claimed_by : (f r i : ℕ) (q : Light) (call : Call) (m : Request) → IsFormed call → IsFor i call → request_in (task q call) ≡ Some m → Contains (claims_in i (call_claims f r call)) (Req (Client m.client) i m)
claimed_by f r i q (took t) m formed for is = claimed_in f r i q t m formed for is
claimed_by f r i q timed m formed for is = absurd (cc (is))

-- a request and tags of the grammar
pub request_formed : (q : Light) (call : Call) → IsFormed call → (m : Request) → request_in (task q call) ≡ Some m → IsRequest 0 15 m
request_formed q (took (msg.Req (Req maker j n) tags)) formed m is =
    let e = task_if (is_primary q) (asked n tags.items) m is in
    subst (λ (z : Request). IsRequest 0 15 z) (cc (e)) formed.0.1.1
request_formed q (took (msg.Order (Order maker j x n) client_tag tag)) formed m is =
    let e = task_if (is_taken q maker x n) (ordered n) m is in
    subst (λ (z : Request). IsRequest 0 15 z) (cc (e)) formed.0.1.1.1
request_formed q _ formed m is = absurd (cc (is))

pub tags_formed : (q : Light) (call : Call) → IsFormed call → (given : List (ℕ × List ℕ)) → tags_of (task q call) ≡ Some given → AreTags given
tags_formed q (took (msg.Req (Req maker j n) tags)) formed given is =
    let e = tags_if (is_primary q) (asked n tags.items) given is in
    let same : tags.items ≡ given = cc (e) in
    subst (λ (z : List (ℕ × List ℕ)). AreTags z) same formed.1
tags_formed q (took (msg.Order (Order maker j x n) client_tag tag)) formed given is =
    let e = tags_if (is_taken q maker x n) (ordered n) given is in absurd (cc (e))
tags_formed q _ formed given is = absurd (cc (is))

-- ---- the log

grows_at : (log : List Request) (m : Request) (o : Option ℕ) (next : Bool) → IsPrefix log (logged_at log m o next)
grows_at log m (Some x) next = prefix_refl log
grows_at log m None true = (m ∷ [], refl)
grows_at log m None false = prefix_refl log

pub grows_unless : (stopped : Bool) (n : ℕ) (log : List Request) (m : Request) → IsPrefix log (if stopped then log else logged_from n log m)
grows_unless true n log m = prefix_refl log
grows_unless false n log m = grows_at log m (known_place n log m) (can_push_after n log m)

pub grows_with : (q : Member) (t : Task) → IsPrefix q.log (log_after q t)
grows_with q idle = prefix_refl q.log
grows_with q (ordered m) = grows_unless q.stopped q.trimmed q.log m
grows_with q (asked m tags) = grows_unless q.stopped q.trimmed q.log m

-- so what is trimmed of it stays in it
pub keeps_trimmed : (q : Member) (t : Task) → q.trimmed ≤ length q.log → q.trimmed ≤ length (log_after q t)
keeps_trimmed q t low = let longer = prefix_length q.log (log_after q t) (grows_with q t) in omega (arith, low, longer)

-- a stopped replica logs nothing
pub frozen_with : (q : Member) (t : Task) → q.stopped ≡ true → log_after q t ≡ q.log
frozen_with q idle stopped = refl
frozen_with q (ordered m) stopped = ap (λ b. if b then q.log else logged_from q.trimmed q.log m) stopped
frozen_with q (asked m tags) stopped = ap (λ b. if b then q.log else logged_from q.trimmed q.log m) stopped

written_with : (q : Member) (t : Task) → ((m : Request) → request_in t ≡ Some m → IsRequest 0 15 m) → IsWrittenLog q.trimmed q.log → IsWrittenLog q.trimmed (log_after q t)
written_with q idle fits was = was
written_with q (ordered m) fits was = written_unless q.stopped q.trimmed q.log m (fits m refl) was
written_with q (asked m tags) fits was = written_unless q.stopped q.trimmed q.log m (fits m refl) was

-- ---- ORDERs

other_out : (n me : ℕ) (says : ℕ → Msg) (o : Out) → Contains (to_others n me says) o → (r : ℕ) × (o.msg ≡ says r)
other_out zero me says o has = absurd (Contains-none o has)
other_out (suc n) me says o has =
    elim (Contains-append_cases (to_others n me says) (if n == me then [] else record { to = Replica n; msg = says n } ∷ []) o has) [
      | inl before ↦ other_out n me says o before
      | inr last ↦ elim (cases_Bool (n == me)) [
        | inl own ↦ absurd (Contains-none o (rw own at last))
        | inr differ ↦ let one : Out = record { to = Replica n; msg = says n } in let e = Contains-one one o (rw differ at last) in (n, ap (λ (z : Out). z.msg) (sym e))
      ]
    ]

-- it names the place of the request in the log
pub record IsOrderOut (q : Member) (m : Request) (tags : List (ℕ × List ℕ)) (o : Out) : Type 0 where
  pub x : ℕ
  pub to : ℕ
  pub placed : place_in (log_with q m) m ≡ Some x
  pub says : o.msg ≡ order_msg q m x tags to

placed_out : (f : ℕ) (q : Member) (m : Request) (tags : List (ℕ × List ℕ)) (place : Option ℕ) (o : Out) → known_place q.trimmed (log_with q m) m ≡ place → Contains (orders_at f q m tags place) o → IsOrderOut q m tags o
placed_out f q m tags None o is has = absurd (Contains-none o has)
placed_out f q m tags (Some x) o is has =
    let found = other_out (3 * f + 1) q.me (order_msg q m x tags) o has in
    record { x = x; to = found.0; placed = known_at q.trimmed (log_with q m) m x is; says = found.1 }

pub order_out : (f : ℕ) (q : Member) (m : Request) (tags : List (ℕ × List ℕ)) (answer : Option Vote) (o : Out) → Contains (orders f q m tags answer) o → IsOrderOut q m tags o
order_out f q m tags None o has = absurd (Contains-none o has)
order_out f q m tags (Some vote) o has = placed_out f q m tags (known_place q.trimmed (log_with q m) m) o refl has

-- each is the primary's own
pub order_own : (f : ℕ) (q : Member) (m : Request) (tags : List (ℕ × List ℕ)) (o : Out) (s : Content) → IsOrderOut q m tags o → Contains (fresh f (Replica q.me) o.msg) s
    → IsTrue (is_inner s) × ((maker_of s ≡ Replica q.me) × (instance_of s ≡ q.instance) × (may_state s ≡ true))
order_own f q m tags o s is has =
    let in_order : Contains (Order (Replica q.me) q.instance is.x m ∷ []) s = subst (λ (z : Msg). Contains (fresh f (Replica q.me) z) s) is.says has in
    let e = Contains-one (Order (Replica q.me) q.instance is.x m) s in_order in
    (subst (λ (z : Content). IsTrue (is_inner z)) e refl, (ap maker_of (sym e), ap instance_of (sym e), ap may_state (sym e)))

-- and has bytes
tag_length : (r low : ℕ) (tags : List (ℕ × List ℕ)) → EachFits IsTag above low tags → length (unwrap_or (tag_in r tags) (replicate 32 0)) ≡ 32
tag_length r low [] fit = refl
tag_length r low (t ∷ tags) fit =
    elim (cases_Bool (t.0 == r)) [
      | inl here ↦ rw here fit.0.1
      | inr other ↦ rw other (tag_length r (above low t) tags fit.1)
    ]

pub order_draft : (q : Member) (m : Request) (tags : List (ℕ × List ℕ)) (o : Out) → IsBounded q → IsRequest 0 15 m → AreTags tags → IsOrderOut q m tags o → IsDraft o.msg
order_draft q m tags o b fits formed is =
    let found = found_at (log_with q m) m is.x is.placed in
    let within = slice_get_within (log_with q m) found.before m found.stands in
    let few = (written_unless q.stopped q.trimmed q.log m fits b.written).few in
    let place = found.place in
    subst (λ (z : Msg). IsDraft z) (sym is.says)
    (((omega arith, b.owned), (b.placed, ((omega arith, omega arith), fits))), tag_length is.to 0 tags formed.1)

-- ---- what is sent

-- a response, as a statement
response_out : (f i me : ℕ) (m : Request) (answer : Option Vote) (o : Out) (s : Content) → Contains (respond i me m answer) o → Contains (fresh f (Replica me) o.msg) s
    → (vote : Vote) × (answer ≡ Some vote) × (s ≡ Resp (Replica me) i m.client m.stamp vote.n vote.d vote.reply)
response_out f i me m None o s sent has = absurd (Contains-none o sent)
response_out f i me m (Some vote) o s sent has =
    let is = Contains-one (record { to = Client m.client; msg = msg.Resp (Resp (Replica me) i m.client m.stamp vote.n vote.d vote.reply) (replicate 32 0) }) o sent in
    let has' = subst (λ (p : Out). Contains (fresh f (Replica me) p.msg) s) (sym is) has in
    (vote, refl, sym (Contains-one (Resp (Replica me) i m.client m.stamp vote.n vote.d vote.reply) s has'))

pub fresh_of : (f r : ℕ) (outs : List Out) (s : Content) → Contains (statements_of f r outs) s → (o : Out) × Contains outs o × Contains (fresh f (Replica r) o.msg) s
fresh_of f r outs s has =
    let found = flat_map_cases (λ (o : Out). stated f (Replica r) o.msg) outs s has in
    (found.0, found.1, (Contains-filter_cases (λ t. party_eq (maker_of t) (Replica r)) (fresh f (Replica r) found.0.msg) s found.2).0)

module _ {S : Type 0} (machine : Machine S) where
  pub silent_with : (f : ℕ) (q : Member) (t : Task) → q.stopped ≡ true → sends_with machine f q t ≡ []
  silent_with f q idle stopped = refl
  silent_with f q (ordered m) stopped = ap (λ b. respond q.instance q.me m (if b then None else answer_from machine q.trimmed (length q.base) q.log m)) stopped
  silent_with f q (asked m tags) stopped =
      ap (λ b. orders f q m tags (if b then None else answer_from machine q.trimmed (length q.base) q.log m) ++ respond q.instance q.me m (if b then None else answer_from machine q.trimmed (length q.base) q.log m)) stopped

  own_with : (f g : ℕ) (q : Member) (t : Task) (o : Out) (s : Content) → Contains (sends_with machine g q t) o → Contains (fresh f (Replica q.me) o.msg) s → (maker_of s ≡ Replica q.me) × (instance_of s ≡ q.instance) × (may_state s ≡ true)
  own_with f g q idle o s sent has = absurd (Contains-none o sent)
  own_with f g q (ordered m) o s sent has = responds_own f q.instance q.me m (answer_of machine q m) o s sent has
  own_with f g q (asked m tags) o s sent has =
      elim (Contains-append_cases (orders g q m tags (answer_of machine q m)) (respond q.instance q.me m (answer_of machine q m)) o sent) [
        | inl order ↦ (order_own f q m tags o s (order_out g q m tags (answer_of machine q m) o order) has).1
        | inr response ↦ responds_own f q.instance q.me m (answer_of machine q m) o s response has
      ]

  unsigned_with : (g : ℕ) (q : Member) (t : Task) (o : Out) (v : Signed) → Contains (sends_with machine g q t) o → Contains (signed_in o.msg) v → ⊥
  unsigned_with g q idle o v sent has = Contains-none o sent
  unsigned_with g q (ordered m) o v sent has = responds_unsigned q.instance q.me m (answer_of machine q m) o v sent has
  unsigned_with g q (asked m tags) o v sent has =
      elim (Contains-append_cases (orders g q m tags (answer_of machine q m)) (respond q.instance q.me m (answer_of machine q m)) o sent) [
        | inl order ↦ let is = order_out g q m tags (answer_of machine q m) o order in Contains-none v (subst (λ (z : Msg). Contains (signed_in z) v) is.says has)
        | inr response ↦ responds_unsigned q.instance q.me m (answer_of machine q m) o v response has
      ]

  -- where a value is
  record IsHere (i r : ℕ) (q : Light) : Type 0 where
    placed : q.at.instance ≡ i
    owned : q.at.me ≡ r

  here : (c : Cluster) (i r : ℕ) (q : Light) → Belongs (zlight machine) is_zlight c i r q → IsHere i r q
  here c i r q (begun e served fits) = record { placed = refl; owned = refl }
  here c i r q (called pen p call was) = let h = here c i r p was in record { placed = h.placed; owned = h.owned }
  here c i r q (halted p was) = let h = here c i r p was in record { placed = h.placed; owned = h.owned }
  here c i r q (trimmed n p low high was) = let h = here c i r p was in record { placed = h.placed; owned = h.owned }

  own_law : (c : Cluster) (i r : ℕ) (pen : Pen) (q : Light) (call : Call) (o : Out) (s : Content) → Belongs (zlight machine) is_zlight c i r q → Contains ((zlight machine).sends pen q call) o → Contains (fresh c.f (Replica r) o.msg) s → (maker_of s ≡ Replica r) × (instance_of s ≡ i) × (may_state s ≡ true)
  own_law c i r pen q call o s was sent has =
      let h = here c i r q was in
      let found = own_with c.f q.f q.at (task q call) o s sent (subst (λ (k : ℕ). Contains (fresh c.f (Replica k) o.msg) s) (sym h.owned) has) in
      (found.0 ∙ ap Replica h.owned, found.1 ∙ h.placed, found.2)

  -- values with bytes
  bounded : (c : Cluster) (i r : ℕ) (q : Light) → Arises (zlight machine) is_zlight c i r q → IsBounded q.at
  bounded c i r q (from_entry e served placed lt entry) = record { placed = placed; owned = few_replicas c r lt; based = entry.base.few; written = entry.base }
  bounded c i r q (by_call pen p call signs formed was) =
      let b = bounded c i r p was in record { placed = b.placed; owned = b.owned; based = b.based; written = written_with p.at (task p call) (request_formed p call formed) b.written }
  bounded c i r q (by_stop p was) = let b = bounded c i r p was in record { placed = b.placed; owned = b.owned; based = b.based; written = b.written }
  bounded c i r q (by_trim n p low high was) = let b = bounded c i r p was in record { placed = b.placed; owned = b.owned; based = b.based; written = written_trimmed p.at.trimmed n p.at.log low high b.written }

  module _ (short : (h : List Request) (m : Request) → length (machine.answer (serve machine h) m).items ≤ 72) where
    drafts_with : (f : ℕ) (q : Member) (t : Task) → IsBounded q → ((m : Request) → request_in t ≡ Some m → IsRequest 0 15 m) → ((tags : List (ℕ × List ℕ)) → tags_of t ≡ Some tags → AreTags tags)
        → (o : Out) → Contains (sends_with machine f q t) o → IsDraft o.msg
    drafts_with f q idle b fits formed o sent = absurd (Contains-none o sent)
    drafts_with f q (ordered m) b fits formed o sent = drafts_answer machine short q m b (fits m refl) o sent
    drafts_with f q (asked m tags) b fits formed o sent =
        elim (Contains-append_cases (orders f q m tags (answer_of machine q m)) (respond q.instance q.me m (answer_of machine q m)) o sent) [
          | inl order ↦ order_draft q m tags o b (fits m refl) (formed tags refl) (order_out f q m tags (answer_of machine q m) o order)
          | inr response ↦ drafts_answer machine short q m b (fits m refl) o response
        ]

    pub form_law : KeepsForm (zlight machine) is_zlight
    form_law = record {
      starts = λ c r. record { logged = refl; entered = refl; first = refl };
      grows = λ pen q call. grows_with q.at (task q call);
      frozen = λ c i r pen q call was stopped. (frozen_with q.at (task q call) stopped, stopped);
      halts = λ q. (refl, inl refl);
      begins = λ c i r e. (inl refl, refl);
      logs = λ c i r e served other. refl;
      enters = λ c i r e. refl;
      entered_stays = λ pen q call. refl;
      entered_rests = λ q. refl;
      trim_rests = λ n q. refl;
      trims = λ n q. refl;
      begins_trimmed = λ c i r e. refl;
      trimmed_stays = λ pen q call. refl;
      trimmed_rests = λ q. refl;
      zcert_stays = λ c i r pen q call was stopped. refl;
      zcert_rests = λ q. refl;
      zcert_beside = λ c i r q was. refl;
      own = own_law;
      silent = λ c i r pen q call o s was stopped sent has. absurd (Contains-none o (subst (λ (outs : List Out). Contains outs o) (silent_with q.f q.at (task q call) stopped) sent));
      signed = λ pen q call o v sent has. absurd (unsigned_with q.f q.at (task q call) o v sent has);
      sent = λ pen q call s has. absurd (Contains-none s has);
      settles = λ c i r pen q call cert was is formed. inl refl;
      written = λ c i r q was. written_there q.at.trimmed q.at.log (bounded c i r q was).written;
      zcert_written = λ c i r q was. tt;
      drafts = λ c i r pen q call signs was formed o sent. drafts_with q.f q.at (task q call) (bounded c i r q was) (request_formed q call formed) (tags_formed q call formed) o sent;
    }

  module _ (x : Setting) (acts : List Act) where
    pub start_law : (me : ℕ) (e : Entry) → e.trimmed ≤ length e.base → MayStart x acts me e.base → GoesTo machine x acts me ((zlight machine).begin x.cluster x.i me e).at (begin_of (zlight machine) x me e)
    start_law me e low may = begins_at machine x acts me e.base ((zlight machine).begin x.cluster x.i me e).at refl refl refl refl low may

    pub stop_law : (me : ℕ) (q : Light) → IsAt x q.at me (state_of acts me) → GoesTo machine x acts me ((zlight machine).halt q).at (halt_of (zlight machine) me q)
    stop_law me q was = stops_at machine x acts me q.at ((zlight machine).halt q).at refl refl refl refl refl refl was

    pub trim_law : (me n : ℕ) (q : Light) → n ≤ length q.at.log → IsAt x q.at me (state_of acts me) → IsAt x ((zlight machine).trim n q).at me (state_of acts me)
    trim_law me n q high was = trims_at x me q.at ((zlight machine).trim n q).at (state_of acts me) refl refl refl high was

    own_answer : (me : ℕ) (q : Member) (m : Request) (s : Content) → q.instance ≡ x.i → q.me ≡ me
        → (vote : Vote) × (answer_of machine q m ≡ Some vote) × (s ≡ Resp (Replica q.me) q.instance m.client m.stamp vote.n vote.d vote.reply) → IsOwn machine x acts me m (answer_of machine q m) s
    own_answer me q m s placed owned (v, is, says) =
        inr (v, is, says ∙ (ap (λ r. Resp (Replica r) q.instance m.client m.stamp v.n v.d v.reply) owned ∙ ap (λ i. Resp (Replica me) i m.client m.stamp v.n v.d v.reply) placed))

    -- what it states is what its replicas alone see, and the answer, as this replica of this instance
    states : (me g : ℕ) (q : Member) (t : Task) (m : Request) → request_in t ≡ Some m → q.instance ≡ x.i → q.me ≡ me → (s : Content) → Contains (statements_of x.cluster.f me (sends_with machine g q t)) s → IsOwn machine x acts me m (answer_of machine q m) s
    states me g q idle m is placed owned s has = absurd (cc (is))
    states me g q (ordered n) m is placed owned s has =
        let found = fresh_of x.cluster.f me (sends_with machine g q (ordered n)) s has in
        let e : n ≡ m = cc (is) in
        let fresh' : Contains (fresh x.cluster.f (Replica q.me) found.0.msg) s = subst (λ (k : ℕ). Contains (fresh x.cluster.f (Replica k) found.0.msg) s) (sym owned) found.2 in
        subst (λ (z : Request). IsOwn machine x acts me z (answer_of machine q z) s) e
        (own_answer me q n s placed owned (response_out x.cluster.f q.instance q.me n (answer_of machine q n) found.0 s found.1 fresh'))
    states me g q (asked n tags) m is placed owned s has =
        let found = fresh_of x.cluster.f me (sends_with machine g q (asked n tags)) s has in
        let e : n ≡ m = cc (is) in
        let fresh' : Contains (fresh x.cluster.f (Replica q.me) found.0.msg) s = subst (λ (k : ℕ). Contains (fresh x.cluster.f (Replica k) found.0.msg) s) (sym owned) found.2 in
        subst (λ (z : Request). IsOwn machine x acts me z (answer_of machine q z) s) e
        (elim (Contains-append_cases (orders g q n tags (answer_of machine q n)) (respond q.instance q.me n (answer_of machine q n)) found.0 found.1) [
          | inl order ↦ inl (order_own x.cluster.f q n tags found.0 s (order_out g q n tags (answer_of machine q n) found.0 order) fresh').0
          | inr response ↦ own_answer me q n s placed owned (response_out x.cluster.f q.instance q.me n (answer_of machine q n) found.0 s response fresh')
        ])

    on_with : (me g : ℕ) (q : Member) (t : Task) (claims : List Content) (values : List (List Value)) (seen : List Seen) → ((m : Request) → request_in t ≡ Some m → Contains claims (Req (Client m.client) x.i m))
        → IsNoted x me (member_state (moved q t)) seen → IsAt x q me (state_of acts me)
        → GoesTo machine x acts me (moved q t) (call_of me claims values (statements_of x.cluster.f me (sends_with machine g q t)) seen (member_state (moved q t)))
    on_with me g q idle claims values seen claimed noted was = rests_at machine x acts me q claims values seen noted was
    on_with me g q (ordered m) claims values seen claimed noted was =
        let next = takes_request machine x acts me q.trimmed q.base q.log q.stopped m claims values (statements_of x.cluster.f me (sends_with machine g q (ordered m))) seen was.trimmed (claimed m refl) (states me g q (ordered m) m refl was.placed was.owned) was.stands noted in
        (record { placed = was.placed; owned = was.owned; trimmed = keeps_trimmed q (ordered m) was.trimmed; stands = next.0 }, next.1)
    on_with me g q (asked m tags) claims values seen claimed noted was =
        let next = takes_request machine x acts me q.trimmed q.base q.log q.stopped m claims values (statements_of x.cluster.f me (sends_with machine g q (asked m tags))) seen was.trimmed (claimed m refl) (states me g q (asked m tags) m refl was.placed was.owned) was.stands noted in
        (record { placed = was.placed; owned = was.owned; trimmed = keeps_trimmed q (asked m tags) was.trimmed; stands = next.0 }, next.1)

    pub on_law : (me : ℕ) (pen : Pen) (q : Light) (call : Call) (seen : List Seen) → MayTake (zlight machine) x acts me pen q call seen → IsAt x q.at me (state_of acts me)
        → GoesTo machine x acts me ((zlight machine).after pen q call).at (asked_of (zlight machine) x me pen q call seen)
    on_law me pen q call seen may was =
        on_with me q.f q.at (task q call) (claims_in x.i (call_claims x.cluster.f me call)) (call_values call) seen
        (λ m is. claimed_by x.cluster.f me x.i q call m may.formed may.for is) may.noted was

    pub others_law : (a : Act) → IsTrue (is_zlight (kind_in x)) → is_faulty x.faulty a.party ≡ false → IsOther x acts a → IsSound machine x acts → Premises x (a ∷ acts) → IsSound machine x (a ∷ acts)
    others_law a served correct is = others_sound machine x acts a correct (subst (λ (rule : ReplyRule). IsOtherBy rule x acts a) (rule_of_zlight (kind_in x) x.cluster.f served) is)
