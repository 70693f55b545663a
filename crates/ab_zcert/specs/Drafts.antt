-- What a replica of ZCert sends has bytes, if all that it was handed has.
use Rattle.std.proofs.Common.{◌≡◌, ℕ, ◌+◌, ◌*◌, ◌<◌, ◌≤◌, min, Bool, true, false, Option, None, Some, List, [], ◌∷◌, ◌++◌, ◌⊎◌, length, refl, sym, ap, ◌∙◌, subst, inl, inr, if◌then◌else◌, arith}
use Rattle.std.specs.Prelude.{Contains, nat_lt}
use Rattle.std.proofs.lemmas.List.Elements.{Contains-append_cases}
use Rattle.ab_num.specs.declared.cluster.Cluster.{Cluster}
use Rattle.ab_num.specs.declared.plan.Kind.{Kind}
use Rattle.ab_num.specs.declared.party.Party.TheVariants.{Client}
use Rattle.ab_hist.specs.declared.request.Request.{Request}
use Rattle.ab_svc.specs.Machines.{Machine, serve}
use Rattle.ab_msg.specs.declared.zcert.Zcert.{Zcert}
use Rattle.ab_msg.specs.declared.message.Msg.{Msg}
use Rattle.ab_msg.specs.declared.message.Msg.TheVariants as msg
use Rattle.ab_msg.specs.declared.message.Out.{Out}
use Rattle.ab_form.specs.Lists.{FitsInside}
use Rattle.ab_msg.specs.Fields.{IsRequest, IsWrittenLog, AreTags}
use Rattle.ab_msg.specs.Contents.{IsZcert}
use Rattle.ab_msg.specs.Messages.{IsDraft}
use Rattle.ab_msg.specs.Pens.{Pen}
use Rattle.ab_abs.specs.declared.vote.Vote.{Vote}
use Rattle.ab_abs.specs.Kinds.{is_zcert}
use Rattle.ab_abs.specs.Members.{Member}
use Rattle.ab_abs.specs.Messages.{Call, took, timed, IsFormed}
use Rattle.ab_abs.specs.FormLaws.{Arises, from_entry, by_call, by_stop, by_trim, SignsInForm, KeepsForm}
use Rattle.ab_num.proofs.Lists.{Contains-one, Contains-none}
use Rattle.ab_abs.proofs.Drafts.{HasBytes, IsBounded, written_unless, written_there, written_trimmed, few_replicas, unless_bytes}
use Rattle.ab_zlight.specs.Rules.{Light, Task, idle, ordered, asked, task_of, answer_of, orders}
use Rattle.ab_zlight.specs.Laws.{request_in, tags_of, request_formed, tags_formed, order_out, order_draft}
use Rattle.ab_zcert.specs.Beside.{stands_beside}
use Rattle.ab_zcert.specs.Forms.{grows, frozen, rests_job, own, silent, signed, sent}
use Rattle.ab_zcert.specs.Rules.{Keeper, Job, serves, keeps, job_of, job, takes_zcert, higher, after_job, spec_for, answers, local_commit, sends_for, zcert_proto}

-- ---- what a job is about has bytes

-- the request and the tags of a job, and its certificate
record IsJobFormed (j : Job) : Type 0 where
  request : (m : Request) → (t : Task) → j ≡ serves t → request_in t ≡ Some m → IsRequest 0 15 m
  tags : (given : List (ℕ × List ℕ)) → (t : Task) → j ≡ serves t → tags_of t ≡ Some given → AreTags given
  zcert : (z : Zcert) → j ≡ keeps z → IsZcert z

serves_formed : (q : Light) (k : Msg) → IsFormed (took k) → IsJobFormed (serves (task_of q k))
serves_formed q k formed = record {
  request = λ m t e is. let same : task_of q k ≡ t = cc (e) in request_formed q (took k) formed m (ap request_in same ∙ is);
  tags = λ given t e is. let same : task_of q k ≡ t = cc (e) in tags_formed q (took k) formed given (ap tags_of same ∙ is);
  zcert = λ z e. absurd (cc (e));
}

of_formed : (q : Keeper) (k : Msg) → IsFormed (took k) → IsJobFormed (job_of q k)
of_formed q (msg.Cert i z) formed = record {
  request = λ m t e is. absurd (cc (e));
  tags = λ given t e is. absurd (cc (e));
  zcert = λ y e. let same : z ≡ y = cc (e) in subst IsZcert same formed.1;
}
of_formed q k formed = serves_formed q.light k formed

job_formed : (q : Keeper) (k : Call) → IsFormed k → IsJobFormed (job q k)
job_formed q (took k) formed = of_formed q k formed
job_formed q timed formed = record {
  request = λ m t e is. let same : idle ≡ t = cc (e) in let none : None ≡ Some m = ap request_in same ∙ is in absurd (cc (none));
  tags = λ given t e is. let same : idle ≡ t = cc (e) in let none : None ≡ Some given = ap tags_of same ∙ is in absurd (cc (none));
  zcert = λ z e. absurd (cc (e));
}

-- ---- the log

written_job : (q : Keeper) (j : Job) → IsJobFormed j → IsWrittenLog q.light.at.trimmed q.light.at.log → IsWrittenLog q.light.at.trimmed (after_job q j).light.at.log
written_job q (serves idle) formed was = was
written_job q (serves (ordered m)) formed was = written_unless q.light.at.stopped q.light.at.trimmed q.light.at.log m (formed.request m (ordered m) refl refl) was
written_job q (serves (asked m tags)) formed was = written_unless q.light.at.stopped q.light.at.trimmed q.light.at.log m (formed.request m (asked m tags) refl refl) was
written_job q (keeps z) formed was = was

bounded_job : (q : Keeper) (j : Job) → IsJobFormed j → IsBounded q.light.at → IsBounded (after_job q j).light.at
bounded_job q (serves t) formed b = record { placed = b.placed; owned = b.owned; based = b.based; written = written_job q (serves t) formed b.written }
bounded_job q (keeps z) formed b = b

-- ---- the certificate

higher_fits : (z y : Zcert) (b : Bool) → IsZcert z → IsZcert y → FitsInside IsZcert (if b then Some z else Some y)
higher_fits z y true new old = new
higher_fits z y false new old = old

kept_fits : (z : Zcert) (k : Option Zcert) (b : Bool) → IsZcert z → FitsInside IsZcert k → FitsInside IsZcert (if b then higher z k else k)
kept_fits z k false new old = old
kept_fits z None true new old = new
kept_fits z (Some y) true new old = higher_fits z y (nat_lt y.n z.n) new old

zcert_job : (q : Keeper) (j : Job) → IsJobFormed j → FitsInside IsZcert q.zcert → FitsInside IsZcert (after_job q j).zcert
zcert_job q (serves t) formed was = was
zcert_job q (keeps z) formed was = kept_fits z q.zcert (takes_zcert q.light.f q.light.at z) (formed.zcert z refl) was

-- ---- what is sent

spec_draft : (pen : Pen) (q : Member) (m : Request) (answer : Option Vote) → SignsInForm pen → IsBounded q → IsRequest 0 15 m → ((vote : Vote) → answer ≡ Some vote → HasBytes vote) → (o : Out) → Contains (answers pen q m answer) o → IsDraft o.msg
spec_draft pen q m None signs b fits each o has = absurd (Contains-none o has)
spec_draft pen q m (Some vote) signs b fits each o has =
    let v = each vote refl in
    let out : Out = record { to = Client m.client; msg = msg.Spec (record { maker = q.me; content = spec_for q m vote; sig = pen.sig (spec_for q m vote) pen.used }) } in
    subst (λ (p : Out). IsDraft p.msg) (Contains-one out o has)
    (refl, (((omega arith, b.owned), (b.placed, (fits.0, (fits.1.0, ((v.some, omega (arith, v.most)), (v.digest, (omega arith, v.reply))))))), signs (spec_for q m vote) pen.used))

local_draft : (q : Member) (z : Zcert) (t : Bool) → IsBounded q → IsZcert z → (o : Out) → Contains (if t then local_commit q z ∷ [] else []) o → IsDraft o.msg
local_draft q z false b fits o has = absurd (Contains-none o has)
local_draft q z true b fits o has =
    subst (λ (p : Out). IsDraft p.msg) (Contains-one (local_commit q z) o has)
    ((omega arith, b.owned), (b.placed, (fits.0, (fits.1.0, (fits.1.1.0, fits.1.1.1.0)))))

module _ {S : Type 0} (machine : Machine S) (short : (h : List Request) (m : Request) → length (machine.answer (serve machine h) m).items ≤ 72) where
  answer_draft : (pen : Pen) (q : Member) (m : Request) → SignsInForm pen → IsBounded q → IsRequest 0 15 m → (o : Out) → Contains (answers pen q m (answer_of machine q m)) o → IsDraft o.msg
  answer_draft pen q m signs b fits o has =
      spec_draft pen q m (answer_of machine q m) signs b fits (λ vote is. unless_bytes machine short q.stopped q.trimmed (length q.base) q.log m vote b.based b.written is) o has

  job_draft : (pen : Pen) (f : ℕ) (q : Member) (j : Job) → SignsInForm pen → IsBounded q → IsJobFormed j → (o : Out) → Contains (sends_for machine pen f q j) o → IsDraft o.msg
  job_draft pen f q (serves idle) signs b formed o sent = absurd (Contains-none o sent)
  job_draft pen f q (serves (ordered m)) signs b formed o sent = answer_draft pen q m signs b (formed.request m (ordered m) refl refl) o sent
  job_draft pen f q (serves (asked m tags)) signs b formed o sent =
      let fits = formed.request m (asked m tags) refl refl in
      elim (Contains-append_cases (orders f q m tags (answer_of machine q m)) (answers pen q m (answer_of machine q m)) o sent) [
        | inl order ↦ order_draft q m tags o b fits (formed.tags tags (asked m tags) refl refl) (order_out f q m tags (answer_of machine q m) o order)
        | inr answer ↦ answer_draft pen q m signs b fits o answer
      ]
  job_draft pen f q (keeps z) signs b formed o sent = local_draft q z (takes_zcert f q z) b (formed.zcert z refl) o sent

  module _ (served : Kind → Bool) (c : Cluster) (i r : ℕ) where
    bounded : (q : Keeper) → Arises (zcert_proto machine) served c i r q → IsBounded q.light.at
    bounded q (from_entry e is placed lt entry) = record { placed = placed; owned = few_replicas c r lt; based = entry.base.few; written = entry.base }
    bounded q (by_call pen p k signs formed was) = bounded_job p (job p k) (job_formed p k formed) (bounded p was)
    bounded q (by_stop p was) = let b = bounded p was in record { placed = b.placed; owned = b.owned; based = b.based; written = b.written }
    bounded q (by_trim n p low high was) = let b = bounded p was in record { placed = b.placed; owned = b.owned; based = b.based; written = written_trimmed p.light.at.trimmed n p.light.at.log low high b.written }

    pub zcert_written : (q : Keeper) → Arises (zcert_proto machine) served c i r q → FitsInside IsZcert q.zcert
    zcert_written q (from_entry e is placed lt entry) = tt
    zcert_written q (by_call pen p k signs formed was) = zcert_job p (job p k) (job_formed p k formed) (zcert_written p was)
    zcert_written q (by_stop p was) = zcert_written p was
    zcert_written q (by_trim n p low high was) = zcert_written p was

    pub stands_written : (q : Keeper) → Arises (zcert_proto machine) served c i r q → IsWrittenLog (min q.light.at.trimmed (length q.light.at.log)) q.light.at.log
    stands_written q was = written_there q.light.at.trimmed q.light.at.log (bounded q was).written

    pub sends_drafts : (pen : Pen) (q : Keeper) (k : Call) → SignsInForm pen → Arises (zcert_proto machine) served c i r q → IsFormed k → (o : Out) → Contains ((zcert_proto machine).sends pen q k) o → IsDraft o.msg
    sends_drafts pen q k signs was formed o sent = job_draft pen q.light.f q.light.at (job q k) signs (bounded q was) (job_formed q k formed) o sent

  trimmed_job : (q : Keeper) (j : Job) → (after_job q j).light.at.trimmed ≡ q.light.at.trimmed
  trimmed_job q (serves t) = refl
  trimmed_job q (keeps z) = refl

  entered_job : (q : Keeper) (j : Job) → (after_job q j).light.at.base ≡ q.light.at.base
  entered_job q (serves t) = refl
  entered_job q (keeps z) = refl

  -- all that a protocol owes of its form
  pub form_law : KeepsForm (zcert_proto machine) is_zcert
  form_law = record {
    starts = λ c r. record { logged = refl; entered = refl; first = refl };
    grows = λ pen q k. grows machine pen q k;
    frozen = λ c i r pen q k was stopped. frozen machine pen q k stopped;
    halts = λ q. (refl, inl refl);
    begins = λ c i r e. (inl refl, refl);
    logs = λ c i r e served other. refl;
    enters = λ c i r e. refl;
    entered_stays = λ pen q k. entered_job q (job q k);
    entered_rests = λ q. refl;
    trim_rests = λ n q. refl;
    trims = λ n q. refl;
    begins_trimmed = λ c i r e. refl;
    trimmed_stays = λ pen q k. trimmed_job q (job q k);
    trimmed_rests = λ q. refl;
    zcert_stays = λ c i r pen q k was stopped. rests_job q (job q k) stopped;
    zcert_rests = λ q. refl;
    zcert_beside = λ c i r q was. stands_beside machine is_zcert c i r q was;
    own = λ c i r pen q k o s was sent' has. own machine is_zcert c i r pen q k o s was sent' has;
    silent = λ c i r pen q k o s was stopped sent' has. absurd (Contains-none o (subst (λ (outs : List Out). Contains outs o) (silent machine pen q k stopped) sent'));
    signed = λ pen q k o v sent' has. signed machine pen q k o v sent' has;
    sent = λ pen q k s has. sent machine pen q k s has;
    settles = λ c i r pen q k cert was is formed. inl refl;
    written = λ c i r q was. stands_written is_zcert c i r q was;
    zcert_written = λ c i r q was. zcert_written is_zcert c i r q was;
    drafts = λ c i r pen q k signs was formed o sent'. sends_drafts is_zcert c i r pen q k signs was formed o sent';
  }
