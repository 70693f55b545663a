-- A call of a replica of ZCert is one that the rules of acts allow.
use Rattle.std.proofs.Common.{◌≡◌, ℕ, ◌≤◌, Bool, true, false, not, Option, None, Some, List, [], ◌∷◌, ◌++◌, ◌⊎◌, length, take, refl, sym, ap, ◌∙◌, subst, inl, inr, if◌then◌else◌, arith}
use Rattle.std.specs.Prelude.{Contains, IsTrue, ◌&&◌, nat_lt, replicate}
use Rattle.std.proofs.lemmas.Bool.{cases_Bool, and_parts, ltb-true}
use Rattle.std.proofs.lemmas.List.Elements.{Contains-append_cases}
use mathlib.Core.List.{IsPrefix}
use base.Growing.{prefix_refl, prefix_trans}
use Rattle.ab_num.specs.declared.plan.Kind.{Kind}
use Rattle.ab_num.specs.declared.plan.Kind.TheVariants as kind
use Rattle.ab_num.specs.declared.party.Party.TheVariants.{Replica, Client}
use Rattle.ab_hist.specs.declared.request.Request.{Request}
use Rattle.ab_hist.specs.Histories.{IsHistory}
use Rattle.ab_hist.specs.Digests.{digest_of}
use Rattle.ab_svc.specs.Machines.{Machine}
use Rattle.ab_msg.specs.declared.content.Content.{Content}
use Rattle.ab_msg.specs.declared.content.Content.TheVariants.{Req, Spec, LocalCommit}
use Rattle.ab_msg.specs.declared.zcert.Zcert.{Zcert}
use Rattle.ab_msg.specs.declared.message.Msg.{Msg}
use Rattle.ab_msg.specs.declared.message.Msg.TheVariants as msg
use Rattle.ab_msg.specs.declared.message.Out.{Out}
use Rattle.ab_msg.specs.Claims.{fresh}
use Rattle.ab_msg.specs.Pens.{Pen}
use Rattle.ab_abs.specs.declared.vote.Vote.{Vote}
use Rattle.ab_msg.specs.declared.value.Value.{Value}
use Rattle.ab_abs.specs.declared.seen.Seen.{Seen}
use Rattle.ab_abs.specs.declared.entry.Entry.{Entry}
use Rattle.ab_abs.specs.declared.rule.ReplyRule.{ReplyRule}
use Rattle.ab_abs.specs.declared.rule.ReplyRule.TheVariants as rules
use Rattle.ab_abs.specs.Faults.{is_faulty}
use Rattle.ab_abs.specs.Acts.{Setting, State, Act, Premises, IsNoted, MayStart, unmarked, state_of, call_of}
use Rattle.ab_abs.specs.Lawful.{BeginsThere, IsLawfulBy, first, call, other}
use Rattle.ab_abs.specs.Kinds.{kind_in, is_zcert, rule_of}
use Rattle.ab_abs.specs.Rules.{is_inner, IsOther, IsOtherBy, IsStill}
use Rattle.ab_abs.specs.Answers.{answer_from, logged_from}
use Rattle.ab_abs.specs.Observations.{has_front, observed_in}
use Rattle.ab_abs.specs.Certificates.{is_quorum}
use Rattle.ab_abs.specs.Members.{Member, Stands}
use Rattle.ab_abs.specs.Messages.{Call, took, timed, call_claims, call_values, claims_in, IsFor, IsFormed}
use Rattle.ab_abs.specs.Ensembles.{statements_of, makes, begin_of, asked_of, halt_of, MayTake}
use Rattle.ab_abs.specs.ZcertRules.{KeepsUpTo, IsSpec, IsLocalCommit, IsZcertCall, ZcertCalls, IsZcertSound}
use Rattle.ab_num.proofs.Lists.{Contains-one, Contains-none}
use Rattle.ab_abs.proofs.Prefixes.{prefix_length}
use Rattle.ab_abs.proofs.Facts.{state_cases, state_quiet, state_own}
use Rattle.ab_abs.proofs.Following.{named_here}
use Rattle.ab_abs.proofs.ZcertCalls.{IsZcertLater, zcert_keeping}
use Rattle.ab_abs.proofs.Fronts.{has_front-Decides}
use Rattle.ab_abs.proofs.Steps.{IsVoteOn, vote_on, logged_more}
use Rattle.ab_zlight.specs.Rules.{Light, Task, idle, ordered, asked, task_of, answer_of, log_after, orders}
use Rattle.ab_zlight.specs.Laws.{request_in, claimed_in, order_out, order_own, fresh_of}
use Rattle.ab_zlight.specs.RuleLaws.{IsRooted}
use Rattle.ab_zcert.specs.Rules.{Keeper, Job, serves, keeps, job_of, job, has_asked, takes_zcert, higher, kept_with, after_job, spec_for, answers, local_commit, sends_for, keeper_at, zcert_proto}

-- ---- what is asked

abbrev asked_in : Job → Option Request
asked_in (serves t) = request_in t
asked_in (keeps z) = None

claimed_of : (f r i : ℕ) (q : Keeper) (t : Msg) (m : Request) → IsFormed (took t) → IsFor i (took t) → asked_in (job_of q t) ≡ Some m → Contains (claims_in i (call_claims f r (took t))) (Req (Client m.client) i m)
claimed_of f r i q (msg.Cert j z) m formed for is = absurd (cc (is))
claimed_of f r i q t m formed for is = claimed_in f r i q.light t m formed for is

claimed_job : (f r i : ℕ) (q : Keeper) (k : Call) (m : Request) → IsFormed k → IsFor i k → asked_in (job q k) ≡ Some m → Contains (claims_in i (call_claims f r k)) (Req (Client m.client) i m)
claimed_job f r i q (took t) m formed for is = claimed_of f r i q t m formed for is
claimed_job f r i q timed m formed for is = absurd (cc (is))

-- ---- what is kept

lt_false : (n m : ℕ) → nat_lt n m ≡ false → m ≤ n
lt_false n m is = grind (arith, is)

higher_keeps_with : (z y : Zcert) (n : ℕ) (b : Bool) → nat_lt y.n z.n ≡ b → n ≤ y.n → KeepsUpTo n (if b then Some z else Some y)
higher_keeps_with z y n true test le = omega (arith, le, ltb-true y.n z.n test)
higher_keeps_with z y n false test le = le

higher_keeps : (z : Zcert) (k : Option Zcert) (n : ℕ) → KeepsUpTo n k → KeepsUpTo n (higher z k)
higher_keeps z None n is = absurd is
higher_keeps z (Some y) n is = higher_keeps_with z y n (nat_lt y.n z.n) refl is

higher_own_with : (z y : Zcert) (b : Bool) → nat_lt y.n z.n ≡ b → KeepsUpTo z.n (if b then Some z else Some y)
higher_own_with z y true test = omega arith
higher_own_with z y false test = lt_false y.n z.n test

-- what is kept then has its number or a higher one
higher_own : (z : Zcert) (k : Option Zcert) → KeepsUpTo z.n (higher z k)
higher_own z None = omega arith
higher_own z (Some y) = higher_own_with z y (nat_lt y.n z.n) refl

not_true : (b : Bool) → not b ≡ true → b ≡ false
not_true true h = absurd (cc (h))
not_true false h = refl

-- what a replica that takes a certificate is like
pub record IsTaking (q : Member) (z : Zcert) : Type 0 where
  pub goes_on : q.stopped ≡ false
  pub reaches : z.n ≤ length q.log
  pub digest : digest_of (take z.n q.log) ≡ z.d

pub taking : (f : ℕ) (q : Member) (z : Zcert) → takes_zcert f q z ≡ true → IsTaking q z
taking f q z is =
    let both = and_parts (not q.stopped && is_quorum f z) (has_front q.log z.n z.d && has_asked (take z.n q.log) z.client z.stamp) is in
    let one = and_parts (not q.stopped) (is_quorum f z) both.0 in
    let two = and_parts (has_front q.log z.n z.d) (has_asked (take z.n q.log) z.client z.stamp) both.1 in
    let front = (has_front-Decides q.log z.n z.d).0 two.0 in
    record { goes_on = not_true q.stopped one.0; reaches = front.0; digest = front.1 }

module _ {S : Type 0} (machine : Machine S) (x : Setting) where
  abbrev at : List Request → List Request → Bool → Option Zcert → State
  at base log stopped z = record { entered = base; base = base; log = log; stopped = stopped; first = None; zcert = z }

  -- what it states as it takes a request
  abbrev IsOwnSpec : ℕ → Request → Option Vote → Content → Type 0
  IsOwnSpec me m answer s = IsTrue (is_inner s) ⊎ ((vote : Vote) × (answer ≡ Some vote) × (s ≡ Spec (Replica me) x.i m.client m.stamp vote.n vote.d vote.reply))

  spec_is : (me : ℕ) (claims : List Content) (base log : List Request) (m : Request) (vote : Vote) (z : Option Zcert) → Contains claims (Req (Client m.client) x.i m) → IsVoteOn machine base log m vote
      → IsSpec machine x claims (at base log false z) me (Spec (Replica me) x.i m.client m.stamp vote.n vote.d vote.reply)
  spec_is me claims base log m vote z asked' v = record {
    m = m;
    n = vote.n;
    reply = vote.reply;
    says = ap (λ (d : List ℕ). Spec (Replica me) x.i m.client m.stamp vote.n d vote.reply) (sym v.digest);
    replied = v.replied;
    above = v.above;
    reaches = v.reaches;
    asked = asked';
  }

  -- it takes a request, and answers nothing where it is stopped
  serve_call : (me n : ℕ) (claims made : List Content) (base log : List Request) (stopped : Bool) (m : Request) (z : Option Zcert) → Contains claims (Req (Client m.client) x.i m) → IsPrefix base log → n ≤ length log → IsHistory log
      → ((s : Content) → Contains made s → IsOwnSpec me m (if stopped then None else answer_from machine n (length base) log m) s)
      → IsZcertCall machine x claims made me (at base log stopped z) (at base (if stopped then log else logged_from n log m) stopped z)
  serve_call me n claims made base log true m z asked' begins low rises each = record {
    based = refl;
    grows = prefix_refl log;
    rises = rises;
    frozen = λ halt. (refl, refl);
    keeps = λ n is. is;
    rests = λ halt. refl;
    added = λ q has. inl has;
    states = λ s has. elim (each s has) [ inl inner ↦ inl inner | inr found ↦ absurd (let none = found.1 in cc (none)) ];
  }
  serve_call me n claims made base log false m z asked' begins low rises each =
      let more = logged_more n log m rises in
      record {
        based = refl;
        grows = more.0;
        rises = more.1;
        frozen = λ halt. absurd (cc (halt));
        keeps = λ n is. is;
        rests = λ halt. refl;
        added = λ q has.
            elim (more.2 q has) [
              | inl older ↦ inl older
              | inr e ↦ inr (subst (λ (w : Request). Contains claims (Req (Client w.client) x.i w)) e asked')
            ];
        states = λ s has.
            elim (each s has) [
              | inl inner ↦ inl inner
              | inr found ↦ inr (inl (subst (λ (c : Content). IsSpec machine x claims (at base (logged_from n log m) false z) me c) (sym found.2)
                  (spec_is me claims base (logged_from n log m) m found.0 z asked' (vote_on machine n base log m found.0 begins low found.1))))
            ];
      }

  -- it is asked nothing that it answers
  rest_call : (me : ℕ) (claims made : List Content) (base log : List Request) (stopped : Bool) (z : Option Zcert) → IsHistory log → ((s : Content) → Contains made s → ⊥)
      → IsZcertCall machine x claims made me (at base log stopped z) (at base log stopped z)
  rest_call me claims made base log stopped z rises none = record {
    based = refl;
    grows = prefix_refl log;
    rises = rises;
    frozen = λ halt. (refl, halt);
    keeps = λ n is. is;
    rests = λ halt. refl;
    added = λ q has. inl has;
    states = λ s has. absurd (none s has);
  }

  -- it takes a certificate, and tells the client
  keep_call : (me : ℕ) (claims made : List Content) (q : Member) (z : Zcert) (k : Option Zcert) → IsHistory q.log → IsTaking q z → ((s : Content) → Contains made s → s ≡ LocalCommit (Replica me) x.i z.client z.stamp z.n z.d)
      → IsZcertCall machine x claims made me (keeper_at q k) (keeper_at q (higher z k))
  keep_call me claims made q z k rises is each = record {
    based = refl;
    grows = prefix_refl q.log;
    rises = rises;
    frozen = λ halt. (refl, halt);
    keeps = λ n was. higher_keeps z k n was;
    rests = λ halt. absurd (let on' = is.goes_on in cc (halt, on'));
    added = λ m has. inl has;
    states = λ s has. inr (inr (record {
      c = z.client;
      stamp = z.stamp;
      n = z.n;
      says = each s has ∙ ap (λ (d : List ℕ). LocalCommit (Replica me) x.i z.client z.stamp z.n d) (sym is.digest);
      reaches = is.reaches;
      keeps = higher_own z k;
    }));
  }

  -- ---- what is sent

  answer_out : (f : ℕ) (pen : Pen) (q : Member) (m : Request) (answer : Option Vote) (o : Out) (s : Content) → Contains (answers pen q m answer) o → Contains (fresh f (Replica q.me) o.msg) s
      → (vote : Vote) × (answer ≡ Some vote) × (s ≡ spec_for q m vote)
  answer_out f pen q m None o s sent has = absurd (Contains-none o sent)
  answer_out f pen q m (Some vote) o s sent has =
      let out : Out = record { to = Client m.client; msg = msg.Spec (record { maker = q.me; content = spec_for q m vote; sig = pen.sig (spec_for q m vote) pen.used }) } in
      let is = Contains-one out o sent in
      let has' : Contains (spec_for q m vote ∷ []) s = subst (λ (p : Out). Contains (fresh f (Replica q.me) p.msg) s) (sym is) has in
      (vote, refl, sym (Contains-one (spec_for q m vote) s has'))

  own_spec : (me : ℕ) (q : Member) (m : Request) (answer : Option Vote) (s : Content) → q.instance ≡ x.i → q.me ≡ me → (vote : Vote) × (answer ≡ Some vote) × (s ≡ spec_for q m vote) → IsOwnSpec me m answer s
  own_spec me q m answer s placed owned (v, is, says) =
      inr (v, is, says ∙ (ap (λ r. Spec (Replica r) q.instance m.client m.stamp v.n v.d v.reply) owned ∙ ap (λ i. Spec (Replica me) i m.client m.stamp v.n v.d v.reply) placed))

  local_out : (me f : ℕ) (q : Member) (z : Zcert) (s : Content) → q.instance ≡ x.i → q.me ≡ me → Contains (statements_of f me (local_commit q z ∷ [])) s → s ≡ LocalCommit (Replica me) x.i z.client z.stamp z.n z.d
  local_out me f q z s placed owned has =
      let found = fresh_of f me (local_commit q z ∷ []) s has in
      let is = Contains-one (local_commit q z) found.0 found.1 in
      let told : Content = LocalCommit (Replica q.me) q.instance z.client z.stamp z.n z.d in
      let has' : Contains (told ∷ []) s = subst (λ (p : Out). Contains (fresh f (Replica me) p.msg) s) (sym is) found.2 in
      sym (Contains-one told s has') ∙ (ap (λ r. LocalCommit (Replica r) q.instance z.client z.stamp z.n z.d) owned ∙ ap (λ i. LocalCommit (Replica me) i z.client z.stamp z.n z.d) placed)

  fresh_mine : (me f : ℕ) (q : Member) (o : Out) (s : Content) → q.me ≡ me → Contains (fresh f (Replica me) o.msg) s → Contains (fresh f (Replica q.me) o.msg) s
  fresh_mine me f q o s owned has = subst (λ (k : ℕ). Contains (fresh f (Replica k) o.msg) s) (sym owned) has

  ordered_states : (me f : ℕ) (pen : Pen) (q : Member) (m : Request) → q.instance ≡ x.i → q.me ≡ me → (s : Content) → Contains (statements_of f me (answers pen q m (answer_of machine q m))) s → IsOwnSpec me m (answer_of machine q m) s
  ordered_states me f pen q m placed owned s has =
      let found = fresh_of f me (answers pen q m (answer_of machine q m)) s has in
      own_spec me q m (answer_of machine q m) s placed owned (answer_out f pen q m (answer_of machine q m) found.0 s found.1 (fresh_mine me f q found.0 s owned found.2))

  asked_states : (me f g : ℕ) (pen : Pen) (q : Member) (m : Request) (tags : List (ℕ × List ℕ)) → q.instance ≡ x.i → q.me ≡ me → (s : Content) → Contains (statements_of f me (orders g q m tags (answer_of machine q m) ++ answers pen q m (answer_of machine q m))) s
      → IsOwnSpec me m (answer_of machine q m) s
  asked_states me f g pen q m tags placed owned s has =
      let found = fresh_of f me (orders g q m tags (answer_of machine q m) ++ answers pen q m (answer_of machine q m)) s has in
      let mine = fresh_mine me f q found.0 s owned found.2 in
      elim (Contains-append_cases (orders g q m tags (answer_of machine q m)) (answers pen q m (answer_of machine q m)) found.0 found.1) [
        | inl order ↦ inl (order_own f q m tags found.0 s (order_out g q m tags (answer_of machine q m) found.0 order) mine).0
        | inr answer ↦ own_spec me q m (answer_of machine q m) s placed owned (answer_out f pen q m (answer_of machine q m) found.0 s answer mine)
      ]

  -- ---- each job

  keep_job_with : (me f : ℕ) (claims : List Content) (q : Member) (z : Zcert) (k : Option Zcert) (b : Bool) → takes_zcert f q z ≡ b → q.instance ≡ x.i → q.me ≡ me → IsHistory q.log
      → IsZcertCall machine x claims (statements_of x.cluster.f me (if b then local_commit q z ∷ [] else [])) me (keeper_at q k) (keeper_at q (if b then higher z k else k))
  keep_job_with me f claims q z k true test placed owned rises = keep_call me claims (statements_of x.cluster.f me (local_commit q z ∷ [])) q z k rises (taking f q z test) (λ s has. local_out me x.cluster.f q z s placed owned has)
  keep_job_with me f claims q z k false test placed owned rises = rest_call me claims [] q.base q.log q.stopped k rises (λ s has. Contains-none s has)

  job_call : (me : ℕ) (pen : Pen) (q : Keeper) (j : Job) (claims : List Content) → ((m : Request) → asked_in j ≡ Some m → Contains claims (Req (Client m.client) x.i m)) → q.light.at.instance ≡ x.i → q.light.at.me ≡ me
      → IsRooted q.light.at → IsHistory q.light.at.log
      → IsZcertCall machine x claims (statements_of x.cluster.f me (sends_for machine pen q.light.f q.light.at j)) me (keeper_at q.light.at q.zcert) (keeper_at (after_job q j).light.at (after_job q j).zcert)
  job_call me pen q (serves idle) claims claimed placed owned rooted rises = rest_call me claims [] q.light.at.base q.light.at.log q.light.at.stopped q.zcert rises (λ s has. Contains-none s has)
  job_call me pen q (serves (ordered m)) claims claimed placed owned rooted rises =
      let a = q.light.at in
      serve_call me a.trimmed claims (statements_of x.cluster.f me (answers pen a m (answer_of machine a m))) a.base a.log a.stopped m q.zcert (claimed m refl) rooted.begins rooted.within rises (ordered_states me x.cluster.f pen a m placed owned)
  job_call me pen q (serves (asked m tags)) claims claimed placed owned rooted rises =
      let a = q.light.at in
      serve_call me a.trimmed claims (statements_of x.cluster.f me (orders q.light.f a m tags (answer_of machine a m) ++ answers pen a m (answer_of machine a m))) a.base a.log a.stopped m q.zcert (claimed m refl) rooted.begins rooted.within rises
      (asked_states me x.cluster.f q.light.f pen a m tags placed owned)
  job_call me pen q (keeps z) claims claimed placed owned rooted rises = keep_job_with me q.light.f claims q.light.at z q.zcert (takes_zcert q.light.f q.light.at z) refl placed owned rises

  -- a call of a replica of this instance
  pub call_law : (me : ℕ) (pen : Pen) (q : Keeper) (k : Call) → IsFormed k → IsFor x.i k → q.light.at.instance ≡ x.i → q.light.at.me ≡ me → IsRooted q.light.at → IsHistory q.light.at.log
      → IsZcertCall machine x (claims_in x.i (call_claims x.cluster.f me k)) (makes (zcert_proto machine) x me pen q k) me ((zcert_proto machine).state q) ((zcert_proto machine).state ((zcert_proto machine).after pen q k))
  call_law me pen q k formed for placed owned rooted rises =
      job_call me pen q (job q k) (claims_in x.i (call_claims x.cluster.f me k)) (λ m is. claimed_job x.cluster.f me x.i q k m formed for is) placed owned rooted rises

-- ---- a lawful replica

-- a job leaves it in its place
same_place : (q : Keeper) (j : Job) → (after_job q j).light.at.instance ≡ q.light.at.instance
same_place q (serves t) = refl
same_place q (keeps z) = refl

same_self : (q : Keeper) (j : Job) → (after_job q j).light.at.me ≡ q.light.at.me
same_self q (serves t) = refl
same_self q (keeps z) = refl

same_trimmed : (q : Keeper) (j : Job) → (after_job q j).light.at.trimmed ≡ q.light.at.trimmed
same_trimmed q (serves t) = refl
same_trimmed q (keeps z) = refl

-- the replica is this one of this instance, and stands where the acts left it
pub record StandsAs (x : Setting) (q : Keeper) (me : ℕ) (left : Option State) : Type 0 where
  pub placed : q.light.at.instance ≡ x.i
  pub owned : q.light.at.me ≡ me
  pub trimmed : q.light.at.trimmed ≤ length q.light.at.log
  pub stands : Stands x me (keeper_at q.light.at q.zcert) left

-- an act of another party, or without a state, leaves it where it was
pub stays_law : (x : Setting) (acts : List Act) (a : Act) (me : ℕ) (q : Keeper) → IsStill me a → StandsAs x q me (state_of acts me) → StandsAs x q me (state_of (a ∷ acts) me)
stays_law x acts a me q apart was =
    subst (λ (o : Option State). StandsAs x q me o)
    (sym (elim apart [ inl differ ↦ elim (state_cases a acts me) [ inl own ↦ absurd (differ own.0) | inr is ↦ is.1 ] | inr none ↦ state_quiet a acts me none.0 ]))
    was

-- before the first act
pub nil_law : {S : Type 0} (machine : Machine S) (x : Setting) → 1 ≤ x.i → Premises x [] → IsZcertSound machine x []
nil_law machine x one premises = record { later_than_none = one; lawful = tt; premises = premises }

-- its clients commit on certificates of signed answers
rule_of_zcert : (k : Kind) (f : ℕ) → IsTrue (is_zcert k) → rule_of k f ≡ rules.Certified
rule_of_zcert kind.Quorum f served = absurd (cc (served))
rule_of_zcert kind.ZLight f served = absurd (cc (served))
rule_of_zcert kind.Chain f served = absurd (cc (served))
rule_of_zcert kind.Backup f served = absurd (cc (served))
rule_of_zcert kind.ZCert f served = refl

module _ {S : Type 0} (machine : Machine S) (x : Setting) (acts : List Act) where
  -- it stands where one more act leaves it, and that keeps the list sound
  abbrev pub GoesTo : ℕ → Keeper → Act → Type 0
  GoesTo me q a = StandsAs x q me (state_of (a ∷ acts) me) × (IsZcertSound machine x acts → Premises x (a ∷ acts) → IsZcertSound machine x (a ∷ acts))

  sound_more : (a : Act) → IsLawfulBy rules.Certified x BeginsThere (ZcertCalls machine x) acts a → is_faulty x.faulty a.party ≡ false → IsZcertSound machine x acts → Premises x (a ∷ acts) → IsZcertSound machine x (a ∷ acts)
  sound_more a lawful correct was premises =
      record { later_than_none = was.later_than_none; lawful = (lawful, correct, was.lawful); premises = premises }

  calls : (me : ℕ) (q to : Keeper) (claims : List Content) (values : List (List Value)) (made : List Content) (seen : List Seen) → to.light.at.instance ≡ q.light.at.instance → to.light.at.me ≡ q.light.at.me → to.light.at.trimmed ≡ q.light.at.trimmed
      → IsZcertCall machine x claims made me ((zcert_proto machine).state q) ((zcert_proto machine).state to) → IsNoted x me ((zcert_proto machine).state to) seen → StandsAs x q me (state_of acts me)
      → GoesTo me to (call_of me claims values made seen ((zcert_proto machine).state to))
  calls me q to claims values made seen there mine trimmed is noted was =
      let old = (zcert_proto machine).state q in
      let new = (zcert_proto machine).state to in
      let a = call_of me claims values made seen new in (
        record {
          placed = there ∙ was.placed;
          owned = mine ∙ was.owned;
          trimmed = let longer = prefix_length old.log new.log is.grows in omega (arith, was.trimmed, trimmed, longer);
          stands = record {
            within = was.stands.within;
            correct = was.stands.correct;
            left_here = state_own a acts me new refl refl;
            begins = subst (λ (b : List Request). IsPrefix b new.log) (sym is.based) (prefix_trans old.base old.log new.log was.stands.begins is.grows);
            rises = is.rises;
          };
        },
        λ sound premises. sound_more a (call me claims values made seen old new was.stands.within was.stands.left_here is noted refl) was.stands.correct sound premises,
      )

  -- it starts
  pub start_law : (me : ℕ) (e : Entry) → e.trimmed ≤ length e.base → MayStart x acts me e.base → GoesTo me ((zcert_proto machine).begin x.cluster x.i me e) (begin_of (zcert_proto machine) x me e)
  start_law me e low may =
      let q = (zcert_proto machine).begin x.cluster x.i me e in
      let s = (zcert_proto machine).state q in
      let a = begin_of (zcert_proto machine) x me e in (
        record {
          placed = refl;
          owned = refl;
          trimmed = low;
          stands = record { within = may.within; correct = may.correct; left_here = state_own a acts me s refl refl; begins = prefix_refl e.base; rises = may.rises };
        },
        λ sound premises. sound_more a (first me e.base s may.within may.none may.rises may.nothing (record { based = refl; logged = refl }) refl) may.correct sound premises,
      )

  -- it takes a call of this instance
  pub on_law : (me : ℕ) (pen : Pen) (q : Keeper) (c : Call) (seen : List Seen) → MayTake (zcert_proto machine) x acts me pen q c seen → StandsAs x q me (state_of acts me)
      → GoesTo me ((zcert_proto machine).after pen q c) (asked_of (zcert_proto machine) x me pen q c seen)
  on_law me pen q c seen may was =
      calls me q ((zcert_proto machine).after pen q c) (claims_in x.i (call_claims x.cluster.f me c)) (call_values c) (makes (zcert_proto machine) x me pen q c) seen
      (same_place q (job q c)) (same_self q (job q c)) (same_trimmed q (job q c)) (call_law machine x me pen q c may.formed may.for was.placed was.owned (record { begins = was.stands.begins; within = was.trimmed }) was.stands.rises) may.noted was

  -- it is stopped
  pub stop_law : (me : ℕ) (q : Keeper) → StandsAs x q me (state_of acts me) → GoesTo me ((zcert_proto machine).halt q) (halt_of (zcert_proto machine) me q)
  stop_law me q was =
      calls me q ((zcert_proto machine).halt q) [] [] [] [] refl refl refl (record {
        based = refl;
        grows = prefix_refl q.light.at.log;
        rises = was.stands.rises;
        frozen = λ halt. (refl, refl);
        keeps = λ n is. is;
        rests = λ halt. refl;
        added = λ m has. inl has;
        states = λ s has. absurd (Contains-none s has);
      }) (unmarked refl) was

  -- it is trimmed
  pub trim_law : (me n : ℕ) (q : Keeper) → n ≤ length q.light.at.log → StandsAs x q me (state_of acts me) → StandsAs x ((zcert_proto machine).trim n q) me (state_of acts me)
  trim_law me n q high was = record { placed = was.placed; owned = was.owned; trimmed = high; stands = was.stands }

  -- an act that is no call
  pub others_law : (a : Act) → IsTrue (is_zcert (kind_in x)) → is_faulty x.faulty a.party ≡ false → IsOther x acts a → IsZcertSound machine x acts → Premises x (a ∷ acts) → IsZcertSound machine x (a ∷ acts)
  others_law a served correct is sound premises =
      sound_more a (other (subst (λ (rule : ReplyRule). IsOtherBy rule x acts a) (rule_of_zcert (kind_in x) x.cluster.f served) is)) correct sound premises

  pub names_law : IsZcertSound machine x acts → (a : Act) → Contains acts a → (s : Seen) → Contains a.observations s → observed_in s ≡ x.i
  names_law sound a is s has = named_here rules.Certified x BeginsThere (ZcertCalls machine x) IsZcertLater (zcert_keeping machine x) acts sound.lawful a is s has
