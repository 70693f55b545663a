-- The protocol that never takes a request is lawful.
use Rattle.std.proofs.Common.{◌≡◌, ℕ, ◌≤◌, Bool, false, true, List, [], ◌∷◌, length, refl, inl}
use Rattle.std.specs.Prelude.{Contains, IsTrue}
use base.Growing.{prefix_refl}
use Rattle.ab_num.specs.declared.plan.Kind.{Kind}
use Rattle.ab_num.specs.declared.plan.Kind.TheVariants as kind
use Rattle.ab_num.specs.declared.cluster.Cluster.{Cluster}
use Rattle.ab_num.specs.Places.{kind_of}
use Rattle.ab_num.proofs.Lists.{Contains-none}
use Rattle.ab_msg.specs.Fields.{IsWrittenLog}
use Rattle.ab_svc.specs.Machines.{Machine}
use Rattle.ab_msg.specs.declared.value.Value.{Value}
use Rattle.ab_msg.specs.declared.content.Content.{Content}
use Rattle.ab_msg.specs.Pens.{Pen}
use Rattle.ab_abs.specs.declared.seen.Seen.{Seen}
use Rattle.ab_abs.specs.declared.entry.Entry.{Entry}
use Rattle.ab_abs.specs.declared.rule.ReplyRule.{ReplyRule}
use Rattle.ab_abs.specs.declared.rule.ReplyRule.TheVariants as rules
use Rattle.ab_abs.specs.Faults.{is_faulty}
use Rattle.ab_abs.specs.Observations.{observed_in}
use Rattle.ab_abs.specs.Instances.{IsAbstract}
use Rattle.ab_abs.specs.Acts.{Act, Setting, MayStart, Premises, IsNoted, unmarked, observations, named_in, state_of, call_of}
use Rattle.ab_abs.specs.Kinds.{is_backup, kind_in, rule_in, rule_of}
use Rattle.ab_abs.specs.Rules.{IsOther, IsOtherBy}
use Rattle.ab_abs.specs.Lawful.{BeginsThere}
use Rattle.ab_abs.specs.TailRules.{TailCalls}
use Rattle.ab_abs.specs.Messages.{Call, call_claims, call_values, claims_in}
use Rattle.ab_abs.specs.Ensembles.{begin_of, asked_of, halt_of, MayTake}
use Rattle.ab_abs.specs.FormLaws.{KeepsForm, Arises, from_entry, by_call, by_stop, by_trim}
use Rattle.ab_abs.specs.RuleLaws.{KeepsRules}
use Rattle.ab_abs.specs.Members.{IsAt, member_state}
use Rattle.ab_abs.proofs.Drafts.{written_there, written_trimmed}
use Rattle.ab_abs.proofs.TableLemmas.{begins_there}
use Rattle.ab_abs.proofs.Positions.{position_there}
use Rattle.ab_abs.proofs.Following.{IsLater, named_here}
use Rattle.ab_abs.proofs.Abstracts.{promises}
use Rattle.ab_abs.proofs.Whole.{names_own}
use Rattle.ab_abs.proofs.Tails.{tail_keeping}
use Rattle.ab_abs.proofs.TailCommits.{tail_promises}
use Rattle.ab_abs.proofs.Steps.{begins_at, rests_at, trims_at, nil_sound, others_sound}
use Rattle.ab_abs.proofs.TailSteps.{tail_nil, tail_others, tail_starts, tail_rests}
use Rattle.ab_fixtures.specs.NullRules.{Idle, is_of_most, member_of, null, IsSoundBy, IsNullSound}

-- clients don't commit on so many equal votes
abbrev pub is_most : ReplyRule → Bool
is_most rules.All = true
is_most (rules.Equal q) = false
is_most rules.Certified = false
is_most rules.Tail = true

most_of : (k : Kind) (f : ℕ) → IsTrue (is_of_most k) → IsTrue (is_most (rule_of k f))
most_of kind.Quorum f served = served
most_of kind.ZLight f served = served
most_of kind.Chain f served = served
most_of kind.Backup f served = absurd (cc (served))
most_of kind.ZCert f served = absurd (cc (served))

written_of : (c : Cluster) (i r : ℕ) (q : Idle) → Arises null is_of_most c i r q → IsWrittenLog q.trimmed q.log
written_of c i r q (from_entry e served placed lt entry) = entry.base
written_of c i r q (by_call pen p call lawful formed was) = written_of c i r p was
written_of c i r q (by_stop p was) = written_of c i r p was
written_of c i r q (by_trim n p low high was) = written_trimmed p.trimmed n p.log low high (written_of c i r p was)

pub form_law : KeepsForm null is_of_most
form_law = record {
  starts = λ c r. record { logged = refl; entered = refl; first = refl };
  grows = λ pen q call. prefix_refl q.log;
  frozen = λ c i r pen q call was stopped. (refl, refl);
  halts = λ q. (refl, inl refl);
  begins = λ c i r e. (inl refl, refl);
  logs = λ c i r e served other. refl;
  enters = λ c i r e. refl;
  entered_stays = λ pen q call. refl;
  entered_rests = λ q. refl;
  trim_rests = λ n q. refl;
  trims = λ n q. refl;
  begins_trimmed = λ c i r e. refl;
  trimmed_stays = λ pen q call. refl;
  trimmed_rests = λ q. refl;
  zcert_stays = λ c i r pen q call was stopped. refl;
  zcert_rests = λ q. refl;
  zcert_beside = λ c i r q was. refl;
  own = λ c i r pen q call o s was sent has. absurd (Contains-none o sent);
  silent = λ c i r pen q call o s was stopped sent has. absurd (Contains-none o sent);
  signed = λ pen q call o v sent has. absurd (Contains-none o sent);
  sent = λ pen q call s has. absurd (Contains-none s has);
  settles = λ c i r pen q call cert was is formed. inl refl;
  written = λ c i r q was. written_there q.trimmed q.log (written_of c i r q was);
  zcert_written = λ c i r q was. tt;
  drafts = λ c i r pen q call lawful was formed o sent. absurd (Contains-none o sent);
}

-- ---- the rule table

no_backup : (k : Kind) → IsTrue (is_of_most k) → is_backup k ≡ false
no_backup kind.Quorum served = refl
no_backup kind.ZLight served = refl
no_backup kind.Chain served = refl
no_backup kind.Backup served = absurd (cc (served))
no_backup kind.ZCert served = refl

pub rule_law : {S : Type 0} (machine : Machine S) → KeepsRules machine null is_of_most
rule_law machine = record {
  answers = λ c i r pen q call o s was sent has. absurd (Contains-none o sent);
  ignores = λ c i r pen q call was shut. (refl, refl, refl);
  begins = λ c i r e is. begins_there (kind_of c.plan i) e.base (no_backup (kind_of c.plan i) is);
  stops = λ c i r q was other. refl;
  rests = λ c i r q was backup. refl;
  keeps_none = λ c i r q was other. refl;
}

module _ {S : Type 0} (machine : Machine S) (x : Setting) where
  nil_by : (rule : ReplyRule) → IsTrue (is_most rule) → 1 ≤ x.i → Premises x [] → IsSoundBy machine rule x []
  nil_by rules.All most one premises = nil_sound machine x one premises
  nil_by (rules.Equal q) most one premises = absurd (cc (most))
  nil_by rules.Certified most one premises = absurd (cc (most))
  nil_by rules.Tail most one premises = tail_nil machine x one premises

  pub nil_law : IsTrue (is_of_most (kind_in x)) → 1 ≤ x.i → Premises x [] → IsNullSound machine x []
  nil_law served = nil_by (rule_in x) (most_of (kind_in x) x.cluster.f served)

  module _ (acts : List Act) where
    abbrev pub GoesBy : ReplyRule → ℕ → Idle → Act → Type 0
    GoesBy rule me q a = IsAt x (member_of q) me (state_of (a ∷ acts) me) × (IsSoundBy machine rule x acts → Premises x (a ∷ acts) → IsSoundBy machine rule x (a ∷ acts))

    start_by : (rule : ReplyRule) → IsTrue (is_most rule) → (me : ℕ) (e : Entry) → e.trimmed ≤ length e.base → MayStart x acts me e.base → GoesBy rule me (null.begin x.cluster x.i me e) (begin_of null x me e)
    start_by rules.All most me e low may = begins_at machine x acts me e.base (member_of (null.begin x.cluster x.i me e)) refl refl refl refl low may
    start_by (rules.Equal q) most me e low may = absurd (cc (most))
    start_by rules.Certified most me e low may = absurd (cc (most))
    start_by rules.Tail most me e low may =
        let next = tail_starts machine x acts me e.base (member_state (member_of (null.begin x.cluster x.i me e))) (record { based = refl; logged = refl }) may in
        (record { placed = refl; owned = refl; trimmed = low; stands = next.0 }, next.1)

    pub start_law : (me : ℕ) (e : Entry) → IsTrue (is_of_most (kind_in x)) → e.trimmed ≤ length e.base → MayStart x acts me e.base → GoesBy (rule_in x) me (null.begin x.cluster x.i me e) (begin_of null x me e)
    start_law me e served = start_by (rule_in x) (most_of (kind_in x) x.cluster.f served) me e

    rest_by : (rule : ReplyRule) → IsTrue (is_most rule) → (me : ℕ) (q : Idle) (claims : List Content) (values : List (List Value)) (seen : List Seen) → IsNoted x me (member_state (member_of q)) seen → IsAt x (member_of q) me (state_of acts me)
        → GoesBy rule me q (call_of me claims values [] seen (member_state (member_of q)))
    rest_by rules.All most me q claims values seen noted was = rests_at machine x acts me (member_of q) claims values seen noted was
    rest_by (rules.Equal n) most me q claims values seen noted was = absurd (cc (most))
    rest_by rules.Certified most me q claims values seen noted was = absurd (cc (most))
    rest_by rules.Tail most me q claims values seen noted was =
        let p = position_there x.cluster.f x.i me was.stands.within in
        let s = member_state (member_of q) in
        let next = tail_rests machine x acts me p.0 claims values seen s s noted p.1 p.2 p.3 refl refl (λ halt. halt) was.stands in
        (record { placed = was.placed; owned = was.owned; trimmed = was.trimmed; stands = next.0 }, next.1)

    pub on_law : (me : ℕ) (pen : Pen) (q : Idle) (call : Call) (seen : List Seen) → IsTrue (is_of_most (kind_in x)) → MayTake null x acts me pen q call seen → IsAt x (member_of q) me (state_of acts me) → GoesBy (rule_in x) me q (asked_of null x me pen q call seen)
    on_law me pen q call seen served may was =
        rest_by (rule_in x) (most_of (kind_in x) x.cluster.f served) me q (claims_in x.i (call_claims x.cluster.f me call)) (call_values call) seen may.noted was

    pub trim_law : (me n : ℕ) (q : Idle) → n ≤ length q.log → IsAt x (member_of q) me (state_of acts me) → IsAt x (member_of (null.trim n q)) me (state_of acts me)
    trim_law me n q high was = trims_at x me (member_of q) (member_of (null.trim n q)) (state_of acts me) refl refl refl high was

    pub stop_law : (me : ℕ) (q : Idle) → IsTrue (is_of_most (kind_in x)) → IsAt x (member_of q) me (state_of acts me) → GoesBy (rule_in x) me q (halt_of null me q)
    stop_law me q served was = rest_by (rule_in x) (most_of (kind_in x) x.cluster.f served) me q [] [] [] (unmarked refl) was

    others_by : (rule : ReplyRule) → IsTrue (is_most rule) → (a : Act) → is_faulty x.faulty a.party ≡ false → IsOtherBy rule x acts a → IsSoundBy machine rule x acts → Premises x (a ∷ acts) → IsSoundBy machine rule x (a ∷ acts)
    others_by rules.All most a correct is was premises = others_sound machine x acts a correct is was premises
    others_by (rules.Equal q) most a correct is was premises = absurd (cc (most))
    others_by rules.Certified most a correct is was premises = absurd (cc (most))
    others_by rules.Tail most a correct is was premises = tail_others machine x acts a correct is was premises

    pub others_law : (a : Act) → IsTrue (is_of_most (kind_in x)) → is_faulty x.faulty a.party ≡ false → IsOther x acts a → IsNullSound machine x acts → Premises x (a ∷ acts) → IsNullSound machine x (a ∷ acts)
    others_law a served = others_by (rule_in x) (most_of (kind_in x) x.cluster.f served) a

    abstract_by : (rule : ReplyRule) → IsTrue (is_most rule) → IsSoundBy machine rule x acts → IsAbstract machine (observations acts) (named_in x acts) x.faulty x.i
    abstract_by rules.All most sound = promises machine x acts sound
    abstract_by (rules.Equal q) most sound = absurd (cc (most))
    abstract_by rules.Certified most sound = absurd (cc (most))
    abstract_by rules.Tail most sound = tail_promises machine x acts sound

    pub abstract_law : IsTrue (is_of_most (kind_in x)) → IsNullSound machine x acts → IsAbstract machine (observations acts) (named_in x acts) x.faulty x.i
    abstract_law served = abstract_by (rule_in x) (most_of (kind_in x) x.cluster.f served)

    names_by : (rule : ReplyRule) → IsTrue (is_most rule) → IsSoundBy machine rule x acts → (a : Act) → Contains acts a → (s : Seen) → Contains a.observations s → observed_in s ≡ x.i
    names_by rules.All most sound a is s has = names_own machine x.cluster x.faulty x.i acts sound.lawful a is s has
    names_by (rules.Equal q) most sound a is s has = absurd (cc (most))
    names_by rules.Certified most sound a is s has = absurd (cc (most))
    names_by rules.Tail most sound a is s has = named_here rules.Tail x BeginsThere (TailCalls machine x) IsLater (tail_keeping machine x) acts sound.lawful a is s has

    pub names_law : IsTrue (is_of_most (kind_in x)) → IsNullSound machine x acts → (a : Act) → Contains acts a → (s : Seen) → Contains a.observations s → observed_in s ≡ x.i
    names_law served = names_by (rule_in x) (most_of (kind_in x) x.cluster.f served)
