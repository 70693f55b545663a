-- What a replica of ZCert keeps, whatever else is done: its log only grows, what it states is its own, and it signs its answers alone.
use Rattle.std.proofs.Common.{◌≡◌, ℕ, ◌+◌, Bool, true, false, not, Option, None, Some, List, [], ◌∷◌, ◌++◌, ◌⊎◌, length, take, refl, sym, ap, ◌∙◌, subst, inl, inr, if◌then◌else◌, arith}
use Rattle.std.specs.Prelude.{Contains, IsTrue, ◌&&◌, slice_get}
use Rattle.std.proofs.lemmas.Bool.{cases_Bool, and_parts}
use Rattle.std.proofs.lemmas.List.Elements.{Contains-append_cases, Contains-append_right}
use mathlib.Core.List.{IsPrefix}
use base.Growing.{prefix_refl}
use Rattle.ab_num.specs.declared.cluster.Cluster.{Cluster}
use Rattle.ab_num.specs.declared.plan.Kind.{Kind}
use Rattle.ab_num.specs.declared.party.Party.{Party}
use Rattle.ab_num.specs.declared.party.Party.TheVariants.{Replica, Client}
use Rattle.ab_hist.specs.declared.request.Request.{Request}
use Rattle.ab_svc.specs.Machines.{Machine}
use Rattle.ab_msg.specs.declared.content.Content.{Content}
use Rattle.ab_msg.specs.declared.content.Content.TheVariants.{Spec, LocalCommit}
use Rattle.ab_msg.specs.declared.zcert.Zcert.{Zcert}
use Rattle.ab_msg.specs.declared.message.Msg.{Msg}
use Rattle.ab_msg.specs.declared.message.Msg.TheVariants as msg
use Rattle.ab_msg.specs.declared.message.Out.{Out}
use Rattle.ab_msg.specs.declared.signed.Signed.{Signed}
use Rattle.ab_msg.specs.Claims.{maker_of, instance_of, fresh, signed_in}
use Rattle.ab_msg.specs.Pens.{Pen}
use Rattle.ab_abs.specs.declared.vote.Vote.{Vote}
use Rattle.ab_abs.specs.Answers.{answer_from, logged_from}
use Rattle.ab_abs.specs.Observations.{has_front}
use Rattle.ab_abs.specs.Certificates.{is_quorum}
use Rattle.ab_abs.specs.Members.{Member}
use Rattle.ab_abs.specs.Messages.{Call, may_state}
use Rattle.ab_abs.specs.FormLaws.{Belongs, begun, called, halted, trimmed}
use Rattle.ab_num.proofs.Lists.{Contains-head, Contains-one, Contains-none}
use Rattle.ab_zlight.specs.Rules.{Light, Task, idle, ordered, asked, answer_of, log_after, orders}
use Rattle.ab_zlight.specs.Laws.{IsOrderOut, order_out, order_own, grows_unless}
use Rattle.ab_zcert.specs.Rules.{Keeper, Job, serves, keeps, job, has_asked, takes_zcert, higher, after_job, spec_for, specs_for, answers, local_commit, sends_for, signs_for, zcert_proto}

-- ---- the log

pub grows_job : (q : Keeper) (j : Job) → IsPrefix q.light.at.log (after_job q j).light.at.log
grows_job q (serves idle) = prefix_refl q.light.at.log
grows_job q (serves (ordered m)) = grows_unless q.light.at.stopped q.light.at.trimmed q.light.at.log m
grows_job q (serves (asked m tags)) = grows_unless q.light.at.stopped q.light.at.trimmed q.light.at.log m
grows_job q (keeps z) = prefix_refl q.light.at.log

frozen_job : (q : Keeper) (j : Job) → q.light.at.stopped ≡ true → (after_job q j).light.at.log ≡ q.light.at.log
frozen_job q (serves idle) halt = refl
frozen_job q (serves (ordered m)) halt = ap (λ b. if b then q.light.at.log else logged_from q.light.at.trimmed q.light.at.log m) halt
frozen_job q (serves (asked m tags)) halt = ap (λ b. if b then q.light.at.log else logged_from q.light.at.trimmed q.light.at.log m) halt
frozen_job q (keeps z) halt = refl

stays_job : (q : Keeper) (j : Job) → (after_job q j).light.at.stopped ≡ q.light.at.stopped
stays_job q (serves t) = refl
stays_job q (keeps z) = refl

-- a stopped replica keeps what it kept
pub rests_job : (q : Keeper) (j : Job) → q.light.at.stopped ≡ true → (after_job q j).zcert ≡ q.zcert
rests_job q (serves t) halt = refl
rests_job q (keeps z) halt =
    let at = q.light.at in
    ap (λ b. if (not b && is_quorum q.light.f z) && (has_front at.log z.n z.d && has_asked (take z.n at.log) z.client z.stamp) then higher z q.zcert else q.zcert) halt

-- ---- what is sent

answers_own : (f : ℕ) (pen : Pen) (q : Member) (m : Request) (answer : Option Vote) (o : Out) (s : Content) → Contains (answers pen q m answer) o → Contains (fresh f (Replica q.me) o.msg) s → (maker_of s ≡ Replica q.me) × (instance_of s ≡ q.instance) × (may_state s ≡ true)
answers_own f pen q m None o s sent has = absurd (Contains-none o sent)
answers_own f pen q m (Some vote) o s sent has =
    let out : Out = record { to = Client m.client; msg = msg.Spec (record { maker = q.me; content = spec_for q m vote; sig = pen.sig (spec_for q m vote) pen.used }) } in
    let has' : Contains (spec_for q m vote ∷ []) s = subst (λ (p : Out). Contains (fresh f (Replica q.me) p.msg) s) (sym (Contains-one out o sent)) has in
    let e = Contains-one (spec_for q m vote) s has' in
    (ap maker_of (sym e), ap instance_of (sym e), ap may_state (sym e))

local_own : (f : ℕ) (q : Member) (z : Zcert) (o : Out) (s : Content) → Contains (local_commit q z ∷ []) o → Contains (fresh f (Replica q.me) o.msg) s → (maker_of s ≡ Replica q.me) × (instance_of s ≡ q.instance) × (may_state s ≡ true)
local_own f q z o s sent has =
    let told : Content = LocalCommit (Replica q.me) q.instance z.client z.stamp z.n z.d in
    let has' : Contains (told ∷ []) s = subst (λ (p : Out). Contains (fresh f (Replica q.me) p.msg) s) (sym (Contains-one (local_commit q z) o sent)) has in
    let e = Contains-one told s has' in
    (ap maker_of (sym e), ap instance_of (sym e), ap may_state (sym e))

local_if : (f : ℕ) (q : Member) (z : Zcert) (b : Bool) (o : Out) (s : Content) → Contains (if b then local_commit q z ∷ [] else []) o → Contains (fresh f (Replica q.me) o.msg) s → (maker_of s ≡ Replica q.me) × (instance_of s ≡ q.instance) × (may_state s ≡ true)
local_if f q z true o s sent has = local_own f q z o s sent has
local_if f q z false o s sent has = absurd (Contains-none o sent)

-- a signature of an answer is that of the pen at its number
record IsSignedBy (pen : Pen) (signs : List Content) (v : Signed) : Type 0 where
  n : ℕ
  there : slice_get signs n ≡ Some v.content
  sig_is : v.sig ≡ pen.sig v.content (pen.used + n)

signed_answer : (pen : Pen) (q : Member) (m : Request) (answer : Option Vote) (o : Out) (v : Signed) → Contains (answers pen q m answer) o → Contains (signed_in o.msg) v → IsSignedBy pen (specs_for q m answer) v
signed_answer pen q m None o v sent has = absurd (Contains-none o sent)
signed_answer pen q m (Some vote) o v sent has =
    let signed : Signed = record { maker = q.me; content = spec_for q m vote; sig = pen.sig (spec_for q m vote) pen.used } in
    let out : Out = record { to = Client m.client; msg = msg.Spec signed } in
    let has' : Contains (signed ∷ []) v = subst (λ (p : Out). Contains (signed_in p.msg) v) (sym (Contains-one out o sent)) has in
    let e : signed ≡ v = Contains-one signed v has' in
    let none_more : pen.used ≡ pen.used + 0 = omega arith in
    subst (λ (w : Signed). IsSignedBy pen (spec_for q m vote ∷ []) w) e (record { n = 0; there = refl; sig_is = ap (λ (k : ℕ). pen.sig (spec_for q m vote) k) none_more })

order_unsigned : (f : ℕ) (q : Member) (m : Request) (tags : List (ℕ × List ℕ)) (answer : Option Vote) (o : Out) (v : Signed) → Contains (orders f q m tags answer) o → Contains (signed_in o.msg) v → ⊥
order_unsigned f q m tags answer o v sent has = let is = order_out f q m tags answer o sent in Contains-none v (subst (λ (z : Msg). Contains (signed_in z) v) is.says has)

local_unsigned : (q : Member) (z : Zcert) (b : Bool) (o : Out) (v : Signed) → Contains (if b then local_commit q z ∷ [] else []) o → Contains (signed_in o.msg) v → ⊥
local_unsigned q z true o v sent has = Contains-none v (subst (λ (p : Out). Contains (signed_in p.msg) v) (sym (Contains-one (local_commit q z) o sent)) has)
local_unsigned q z false o v sent has = Contains-none o sent

-- each content that it signs is sent
record IsSent (outs : List Out) (s : Content) : Type 0 where
  out : Out
  signed : Signed
  is_in : Contains outs out
  has : Contains (signed_in out.msg) signed
  content_is : signed.content ≡ s

sent_answer : (pen : Pen) (q : Member) (m : Request) (answer : Option Vote) (s : Content) → Contains (specs_for q m answer) s → IsSent (answers pen q m answer) s
sent_answer pen q m None s has = absurd (Contains-none s has)
sent_answer pen q m (Some vote) s has =
    let signed : Signed = record { maker = q.me; content = spec_for q m vote; sig = pen.sig (spec_for q m vote) pen.used } in
    record { out = record { to = Client m.client; msg = msg.Spec signed }; signed = signed; is_in = Contains-head _ []; has = Contains-head signed []; content_is = Contains-one (spec_for q m vote) s has }

module _ {S : Type 0} (machine : Machine S) where
  own_job : (f g : ℕ) (pen : Pen) (q : Member) (j : Job) (o : Out) (s : Content) → Contains (sends_for machine pen g q j) o → Contains (fresh f (Replica q.me) o.msg) s → (maker_of s ≡ Replica q.me) × (instance_of s ≡ q.instance) × (may_state s ≡ true)
  own_job f g pen q (serves idle) o s sent has = absurd (Contains-none o sent)
  own_job f g pen q (serves (ordered m)) o s sent has = answers_own f pen q m (answer_of machine q m) o s sent has
  own_job f g pen q (serves (asked m tags)) o s sent has =
      elim (Contains-append_cases (orders g q m tags (answer_of machine q m)) (answers pen q m (answer_of machine q m)) o sent) [
        | inl order ↦ (order_own f q m tags o s (order_out g q m tags (answer_of machine q m) o order) has).1
        | inr answer ↦ answers_own f pen q m (answer_of machine q m) o s answer has
      ]
  own_job f g pen q (keeps z) o s sent has = local_if f q z (takes_zcert g q z) o s sent has

  silent_job : (pen : Pen) (f : ℕ) (q : Member) (j : Job) → q.stopped ≡ true → sends_for machine pen f q j ≡ []
  silent_job pen f q (serves idle) halt = refl
  silent_job pen f q (serves (ordered m)) halt = ap (λ b. answers pen q m (if b then None else answer_from machine q.trimmed (length q.base) q.log m)) halt
  silent_job pen f q (serves (asked m tags)) halt =
      ap (λ b. orders f q m tags (if b then None else answer_from machine q.trimmed (length q.base) q.log m) ++ answers pen q m (if b then None else answer_from machine q.trimmed (length q.base) q.log m)) halt
  silent_job pen f q (keeps z) halt =
      elim (cases_Bool (takes_zcert f q z)) [
        | inl takes' ↦ absurd (let one = and_parts (not q.stopped) _ (and_parts _ _ takes').0 in cc (one.0, halt))
        | inr leaves ↦ ap (λ b. if b then local_commit q z ∷ [] else []) leaves
      ]

  signed_job : (pen : Pen) (f : ℕ) (q : Member) (j : Job) (o : Out) (v : Signed) → Contains (sends_for machine pen f q j) o → Contains (signed_in o.msg) v → IsSignedBy pen (signs_for machine q j) v
  signed_job pen f q (serves idle) o v sent has = absurd (Contains-none o sent)
  signed_job pen f q (serves (ordered m)) o v sent has = signed_answer pen q m (answer_of machine q m) o v sent has
  signed_job pen f q (serves (asked m tags)) o v sent has =
      elim (Contains-append_cases (orders f q m tags (answer_of machine q m)) (answers pen q m (answer_of machine q m)) o sent) [
        | inl order ↦ absurd (order_unsigned f q m tags (answer_of machine q m) o v order has)
        | inr answer ↦ signed_answer pen q m (answer_of machine q m) o v answer has
      ]
  signed_job pen f q (keeps z) o v sent has = absurd (local_unsigned q z (takes_zcert f q z) o v sent has)

  sent_job : (pen : Pen) (f : ℕ) (q : Member) (j : Job) (s : Content) → Contains (signs_for machine q j) s → IsSent (sends_for machine pen f q j) s
  sent_job pen f q (serves idle) s has = absurd (Contains-none s has)
  sent_job pen f q (serves (ordered m)) s has = sent_answer pen q m (answer_of machine q m) s has
  sent_job pen f q (serves (asked m tags)) s has =
      let r = sent_answer pen q m (answer_of machine q m) s has in
      record { out = r.out; signed = r.signed; is_in = Contains-append_right (orders f q m tags (answer_of machine q m)) (answers pen q m (answer_of machine q m)) r.out r.is_in; has = r.has; content_is = r.content_is }
  sent_job pen f q (keeps z) s has = absurd (Contains-none s has)

  -- where a value is
  record IsHere (i r : ℕ) (q : Keeper) : Type 0 where
    placed : q.light.at.instance ≡ i
    owned : q.light.at.me ≡ r

  moved_here : (i r : ℕ) (q : Keeper) (j : Job) → IsHere i r q → IsHere i r (after_job q j)
  moved_here i r q (serves t) h = record { placed = h.placed; owned = h.owned }
  moved_here i r q (keeps z) h = record { placed = h.placed; owned = h.owned }

  here : (served : Kind → Bool) (c : Cluster) (i r : ℕ) (q : Keeper) → Belongs (zcert_proto machine) served c i r q → IsHere i r q
  here served c i r q (begun e is fits) = record { placed = refl; owned = refl }
  here served c i r q (called pen p k was) = moved_here i r p (job p k) (here served c i r p was)
  here served c i r q (halted p was) = let h = here served c i r p was in record { placed = h.placed; owned = h.owned }
  here served c i r q (trimmed n p low high was) = let h = here served c i r p was in record { placed = h.placed; owned = h.owned }

  -- ---- the laws, as a protocol owes them

  pub grows : (pen : Pen) (q : Keeper) (k : Call) → IsPrefix ((zcert_proto machine).state q).log ((zcert_proto machine).state ((zcert_proto machine).after pen q k)).log
  grows pen q k = grows_job q (job q k)

  pub frozen : (pen : Pen) (q : Keeper) (k : Call) → ((zcert_proto machine).state q).stopped ≡ true
      → (((zcert_proto machine).state ((zcert_proto machine).after pen q k)).log ≡ ((zcert_proto machine).state q).log) × (((zcert_proto machine).state ((zcert_proto machine).after pen q k)).stopped ≡ true)
  frozen pen q k halt = (frozen_job q (job q k) halt, stays_job q (job q k) ∙ halt)

  pub own : (served : Kind → Bool) (c : Cluster) (i r : ℕ) (pen : Pen) (q : Keeper) (k : Call) (o : Out) (s : Content) → Belongs (zcert_proto machine) served c i r q → Contains ((zcert_proto machine).sends pen q k) o → Contains (fresh c.f (Replica r) o.msg) s
      → (maker_of s ≡ Replica r) × (instance_of s ≡ i) × (may_state s ≡ true)
  own served c i r pen q k o s was sent has =
      let h = here served c i r q was in
      let found = own_job c.f q.light.f pen q.light.at (job q k) o s sent (subst (λ (n : ℕ). Contains (fresh c.f (Replica n) o.msg) s) (sym h.owned) has) in
      (found.0 ∙ ap Replica h.owned, found.1 ∙ h.placed, found.2)

  -- a stopped replica sends nothing
  pub silent : (pen : Pen) (q : Keeper) (k : Call) → ((zcert_proto machine).state q).stopped ≡ true → (zcert_proto machine).sends pen q k ≡ []
  silent pen q k halt = silent_job pen q.light.f q.light.at (job q k) halt

  pub signed : (pen : Pen) (q : Keeper) (k : Call) (o : Out) (v : Signed) → Contains ((zcert_proto machine).sends pen q k) o → Contains (signed_in o.msg) v
      → (n : ℕ) × (slice_get ((zcert_proto machine).signs q k) n ≡ Some v.content) × (v.sig ≡ pen.sig v.content (pen.used + n))
  signed pen q k o v sent has = let r = signed_job pen q.light.f q.light.at (job q k) o v sent has in (r.n, r.there, r.sig_is)

  pub sent : (pen : Pen) (q : Keeper) (k : Call) (s : Content) → Contains ((zcert_proto machine).signs q k) s → (o : Out) × (v : Signed) × Contains ((zcert_proto machine).sends pen q k) o × Contains (signed_in o.msg) v × (v.content ≡ s)
  sent pen q k s has = let r = sent_job pen q.light.f q.light.at (job q k) s has in (r.out, r.signed, r.is_in, r.has, r.content_is)
