-- A stopped replica's log stays, and each ABORT holds it.
use Rattle.std.proofs.Common.{◌≡◌, ℕ, zero, suc, Bool, true, false, List, [], ◌∷◌, ◌⊎◌, take, drop, refl, sym, ap, ◌∙◌, subst, inl, inr}
use Rattle.std.specs.Prelude.{Contains, IsTrue}
use Rattle.std.specs.List.{filter}
use Rattle.ab_num.specs.declared.cluster.Cluster.{Cluster}
use Rattle.ab_num.specs.declared.party.Party.TheVariants.{Replica}
use Rattle.ab_num.specs.declared.plan.Kind.{Kind}
use Rattle.ab_num.specs.Parties.{party_eq}
use Rattle.ab_num.proofs.Lists.{Contains-tail, Contains-cons_cases, Contains-none, Contains-one, Contains-filter_cases, flat_map_cases}
use Rattle.ab_hist.specs.declared.request.Request.{Request}
use Rattle.ab_hist.specs.Digests.{digest_of}
use Rattle.ab_msg.specs.declared.content.Content.{Content}
use Rattle.ab_msg.specs.declared.content.Content.TheVariants.{Abort, AbortZ, TrimmedAbort}
use Rattle.ab_msg.specs.declared.message.Out.{Out}
use Rattle.ab_msg.specs.Claims.{maker_of, fresh}
use Rattle.ab_msg.specs.Pens.{Pen}
use Rattle.ab_abs.specs.declared.rule.ReplyRule.{ReplyRule}
use Rattle.ab_abs.specs.declared.rule.ReplyRule.TheVariants as rules
use Rattle.ab_abs.specs.Acts.{Act, Setting, State, WasMade, setting, abort_content}
use Rattle.ab_abs.specs.FormLaws.{Belongs, begun, called, halted, trimmed, KeepsForm}
use Rattle.ab_abs.specs.Kinds.{kind_in, rule_in}
use Rattle.ab_abs.specs.Messages.{Call}
use Rattle.ab_abs.specs.Ensembles.{Proto, statements_of, begin_of, asked_of, halt_of}
use Rattle.ab_abs.proofs.Facts.{party_eq-Decides}
use Rattle.ab_run.specs.Checkpoints.{abort_after, checkpoint_of}
use Rattle.ab_promises.specs.ReplicaActs.{AreActsOf, begins, takes, stops, aborts, marks, trims, aborts_by, marks_by, ActsKeep, StatesNone, IsAbortOf, AbortsOnce, is_abort}

-- what a replica states in what it sends
pub statement_by : (f r : ℕ) (outs : List Out) (s : Content) → Contains (statements_of f r outs) s → (o : Out) × Contains outs o × Contains (fresh f (Replica r) o.msg) s × (maker_of s ≡ Replica r)
statement_by f r outs s has =
    let found = flat_map_cases (λ (o : Out). filter (λ t. party_eq (maker_of t) (Replica r)) (fresh f (Replica r) o.msg)) outs s has in
    let kept = Contains-filter_cases (λ t. party_eq (maker_of t) (Replica r)) (fresh f (Replica r) found.0.msg) s found.2 in
    (found.0, found.1, kept.0, (party_eq-Decides (maker_of s) (Replica r)).0 kept.1)

-- it is of the last act, or of an earlier one
pub made_cases : (a : Act) (acts : List Act) (s : Content) → WasMade (a ∷ acts) s → Contains a.made s ⊎ WasMade acts s
made_cases a acts s was =
    elim (Contains-cons_cases a acts was.0 was.1) [
      | inl e ↦ inl (subst (λ (b : Act). Contains b.made s) (sym e) was.2)
      | inr more ↦ inr (was.0, more, was.2)
    ]

pub made_before : (a : Act) (acts : List Act) (s : Content) → WasMade acts s → WasMade (a ∷ acts) s
made_before a acts s was = (was.0, Contains-tail a was.0 acts was.1, was.2)

-- a stopped value stays stopped, with its log, what is trimmed of it, and the certificate of answers that it keeps
pub record KeepsLogs {P : Type 0} (proto : Proto P) (serves : Kind → Bool) : Type 0 where
  pub frozen : (c : Cluster) (i r : ℕ) (pen : Pen) (p : P) (call : Call) → Belongs proto serves c i r p → (proto.state p).stopped ≡ true
      → ((proto.state (proto.after pen p call)).log ≡ (proto.state p).log) × ((proto.state (proto.after pen p call)).stopped ≡ true)
  pub halts : (p : P) → ((proto.state (proto.halt p)).log ≡ (proto.state p).log) × (((proto.state (proto.halt p)).stopped ≡ true) ⊎ (proto.halt p ≡ p))
  pub zcert_stays : (c : Cluster) (i r : ℕ) (pen : Pen) (p : P) (call : Call) → Belongs proto serves c i r p → (proto.state p).stopped ≡ true → (proto.state (proto.after pen p call)).zcert ≡ (proto.state p).zcert
  pub zcert_rests : (p : P) → (proto.state (proto.halt p)).zcert ≡ (proto.state p).zcert
  pub trimmed_stays : (pen : Pen) (p : P) (call : Call) → proto.trimmed (proto.after pen p call) ≡ proto.trimmed p
  pub trimmed_rests : (p : P) → proto.trimmed (proto.halt p) ≡ proto.trimmed p

pub form_logs : {P : Type 0} (proto : Proto P) (serves : Kind → Bool) → KeepsForm proto serves → KeepsLogs proto serves
form_logs proto serves form = record {
  frozen = form.frozen;
  halts = form.halts;
  zcert_stays = form.zcert_stays;
  zcert_rests = form.zcert_rests;
  trimmed_stays = form.trimmed_stays;
  trimmed_rests = form.trimmed_rests;
}

-- what a stopped replica states as it aborts, however much of its log is trimmed
whole_is : (rule : ReplyRule) (i r : ℕ) (s : State) → IsAbortOf r i (abort_content rule i r s)
whole_is rules.All i r s = (refl, refl, refl)
whole_is (rules.Equal q) i r s = (refl, refl, refl)
whole_is rules.Tail i r s = (refl, refl, refl)
whole_is rules.Certified i r s = (refl, refl, refl)

pub stop_is : (n : ℕ) (rule : ReplyRule) (i r : ℕ) (s : State) → IsAbortOf r i (abort_after n rule i r s)
stop_is zero rule i r s = whole_is rule i r s
stop_is (suc n) rule i r s = (refl, refl, refl)

-- it rests on the log, what is trimmed of it, and the certificate of answers alone
whole_same : (rule : ReplyRule) (i r : ℕ) (s t : State) → s.log ≡ t.log → s.zcert ≡ t.zcert → abort_content rule i r s ≡ abort_content rule i r t
whole_same rules.All i r s t log zcert = ap (λ h. Abort (Replica r) i h) log
whole_same (rules.Equal q) i r s t log zcert = ap (λ h. Abort (Replica r) i h) log
whole_same rules.Tail i r s t log zcert = ap (λ h. Abort (Replica r) i h) log
whole_same rules.Certified i r s t log zcert = ap (λ h. AbortZ (Replica r) i h s.zcert) log ∙ ap (λ z. AbortZ (Replica r) i t.log z) zcert

after_same : (n : ℕ) (rule : ReplyRule) (i r : ℕ) (s t : State) → s.log ≡ t.log → s.zcert ≡ t.zcert → abort_after n rule i r s ≡ abort_after n rule i r t
after_same zero rule i r s t log zcert = whole_same rule i r s t log zcert
after_same (suc n) rule i r s t log zcert = ap (λ (h : List Request). TrimmedAbort (Replica r) i (suc n) (digest_of (take (suc n) h)) (drop (suc n) h)) log

stop_same : (n m : ℕ) (rule : ReplyRule) (i r : ℕ) (s t : State) → n ≡ m → s.log ≡ t.log → s.zcert ≡ t.zcert → abort_after n rule i r s ≡ abort_after m rule i r t
stop_same n m rule i r s t trim log zcert = ap (λ (j : ℕ). abort_after j rule i r s) trim ∙ after_same m rule i r s t log zcert

module _ {P : Type 0} (proto : Proto P) (serves : Kind → Bool) where
  pub acts_belong : (x : Setting) (r : ℕ) (acts : List Act) (p : P) → AreActsOf proto x r acts p → IsTrue (serves (kind_in x)) → Belongs proto serves x.cluster x.i r p
  acts_belong x r _ _ (begins e fits may) served = begun e served fits
  acts_belong x r _ _ (takes {acts} {p} pen call seen before may) served = called pen p call (acts_belong x r acts p before served)
  acts_belong x r _ _ (stops {acts} {p} before) served = halted p (acts_belong x r acts p before served)
  acts_belong x r _ _ (aborts {acts} {p} before stopped) served = acts_belong x r acts p before served
  acts_belong x r _ _ (marks {acts} {p} n before runs more within) served = acts_belong x r acts p before served
  acts_belong x r _ _ (trims {acts} {p} n before runs more within) served = trimmed n p more within (acts_belong x r acts p before served)

  -- a content that no call states and that is neither an ABORT nor a CHECKPOINT isn't made
  pub never_made : (test : Content → Bool) → StatesNone proto serves test → ((n : ℕ) (rule : ReplyRule) (r i : ℕ) (s : State) → test (abort_after n rule i r s) ≡ false)
      → ((i r n : ℕ) (log : List Request) → test (checkpoint_of i r n log) ≡ false) → (x : Setting) (r : ℕ) (acts : List Act) (p : P) → IsTrue (serves (kind_in x)) → AreActsOf proto x r acts p → (s : Content) → WasMade acts s → test s ≡ false
  never_made test none no_abort no_mark x r _ _ served (begins e fits may) s was =
      elim (made_cases (begin_of proto x r e) [] s was) [
        | inl new ↦ absurd (Contains-none s new)
        | inr old ↦ absurd (Contains-none old.0 old.1)
      ]
  never_made test none no_abort no_mark x r _ _ served (takes {acts} {p} pen call seen before may) s was =
      elim (made_cases (asked_of proto x r pen p call seen) acts s was) [
        | inl new ↦
            let found = statement_by x.cluster.f r (proto.sends pen p call) s new in
            none x.cluster x.i r pen p call found.0 s (acts_belong x r acts p before served) found.1 found.2
        | inr old ↦ never_made test none no_abort no_mark x r acts p served before s old
      ]
  never_made test none no_abort no_mark x r _ _ served (stops {acts} {p} before) s was =
      elim (made_cases (halt_of proto r p) acts s was) [
        | inl new ↦ absurd (Contains-none s new)
        | inr old ↦ never_made test none no_abort no_mark x r acts p served before s old
      ]
  never_made test none no_abort no_mark x r _ _ served (aborts {acts} {p} before stopped) s was =
      elim (made_cases (aborts_by proto x r p) acts s was) [
        | inl new ↦ ap test (sym (Contains-one (abort_after (proto.trimmed p) (rule_in x) x.i r (proto.state p)) s new)) ∙ no_abort (proto.trimmed p) (rule_in x) r x.i (proto.state p)
        | inr old ↦ never_made test none no_abort no_mark x r acts p served before s old
      ]
  never_made test none no_abort no_mark x r _ _ served (marks {acts} {p} n before runs more within) s was =
      elim (made_cases (marks_by proto x r n p) acts s was) [
        | inl new ↦ ap test (sym (Contains-one (checkpoint_of x.i r n (proto.state p).log) s new)) ∙ no_mark x.i r n (proto.state p).log
        | inr old ↦ never_made test none no_abort no_mark x r acts p served before s old
      ]
  never_made test none no_abort no_mark x r _ _ served (trims {acts} {p} n before runs more within) s was = never_made test none no_abort no_mark x r acts p served before s was

  module _ (keeps : KeepsLogs proto serves) (none : StatesNone proto serves is_abort) where
    abbrev IsHeld : Setting → ℕ → P → Content → Type 0
    IsHeld x r p s = ((proto.state p).stopped ≡ true) × (abort_after (proto.trimmed p) (rule_in x) x.i r (proto.state p) ≡ s)

    -- after an ABORT the replica is stopped, and would state the same again
    held : (x : Setting) (r : ℕ) (acts : List Act) (p : P) → IsTrue (serves (kind_in x)) → AreActsOf proto x r acts p → (s : Content) → is_abort s ≡ true → WasMade acts s → IsHeld x r p s
    held x r _ _ served (begins e fits may) s is_one was =
        elim (made_cases (begin_of proto x r e) [] s was) [
          | inl new ↦ absurd (Contains-none s new)
          | inr old ↦ absurd (Contains-none old.0 old.1)
        ]
    held x r _ _ served (takes {acts} {p} pen call seen before may) s is_one was =
        let belongs = acts_belong x r acts p before served in
        elim (made_cases (asked_of proto x r pen p call seen) acts s was) [
          | inl new ↦
              let found = statement_by x.cluster.f r (proto.sends pen p call) s new in
              absurd (let no = sym is_one ∙ none x.cluster x.i r pen p call found.0 s belongs found.1 found.2 in cc (no))
          | inr old ↦
              let is = held x r acts p served before s is_one old in
              let stay = keeps.frozen x.cluster x.i r pen p call belongs is.0 in (
                stay.1,
                stop_same (proto.trimmed (proto.after pen p call)) (proto.trimmed p) (rule_in x) x.i r (proto.state (proto.after pen p call)) (proto.state p) (keeps.trimmed_stays pen p call) stay.0
                    (keeps.zcert_stays x.cluster x.i r pen p call belongs is.0)
                    ∙ is.1,
              )
        ]
    held x r _ _ served (stops {acts} {p} before) s is_one was =
        elim (made_cases (halt_of proto r p) acts s was) [
          | inl new ↦ absurd (Contains-none s new)
          | inr old ↦
              let is = held x r acts p served before s is_one old in
              let rest = keeps.halts p in
              elim rest.1 [
                | inl stopped ↦ (stopped, stop_same (proto.trimmed (proto.halt p)) (proto.trimmed p) (rule_in x) x.i r (proto.state (proto.halt p)) (proto.state p) (keeps.trimmed_rests p) rest.0 (keeps.zcert_rests p) ∙ is.1)
                | inr same ↦ subst (λ (q : P). IsHeld x r q s) (sym same) is
              ]
        ]
    held x r _ _ served (aborts {acts} {p} before stopped) s is_one was =
        elim (made_cases (aborts_by proto x r p) acts s was) [
          | inl new ↦ (stopped, Contains-one (abort_after (proto.trimmed p) (rule_in x) x.i r (proto.state p)) s new)
          | inr old ↦ held x r acts p served before s is_one old
        ]
    held x r _ _ served (marks {acts} {p} n before runs more within) s is_one was =
        elim (made_cases (marks_by proto x r n p) acts s was) [
          | inl new ↦ absurd (let no = sym is_one ∙ ap is_abort (sym (Contains-one (checkpoint_of x.i r n (proto.state p).log) s new)) in cc (no))
          | inr old ↦ held x r acts p served before s is_one old
        ]
    -- it isn't trimmed any more
    held x r _ _ served (trims {acts} {p} n before runs more within) s is_one was =
        let is = held x r acts p served before s is_one was in
        absurd (let no = sym is.0 ∙ runs in cc (no))

    pub aborts_once : ActsKeep proto serves AbortsOnce
    aborts_once c i r acts p served one are s t is_s is_t was_s was_t =
        let x = setting c [] i in
        sym (held x r acts p served are s is_s.0 was_s).1 ∙ (held x r acts p served are t is_t.0 was_t).1
