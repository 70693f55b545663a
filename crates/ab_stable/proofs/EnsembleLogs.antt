-- What replicas that go from instance to instance log and abort with, and what is then certified.
use Rattle.std.proofs.Common.{◌≡◌, ℕ, Some, None, List, ◌∷◌, ◌⊎◌, true, refl, sym, ap, ◌∙◌, subst, inl, inr}
use Rattle.std.specs.Prelude.{Bool, Contains}
use Rattle.std.specs.List.{filter}
use Rattle.ab_num.specs.declared.cluster.Cluster.{Cluster}
use Rattle.ab_num.specs.declared.plan.Kind.{Kind}
use Rattle.ab_num.specs.declared.party.Party.{Party}
use Rattle.ab_num.specs.declared.party.Party.TheVariants.{Replica}
use Rattle.ab_num.specs.Parties.{party_eq}
use Rattle.ab_num.proofs.Lists.{Contains-one, Contains-none, Contains-cons_cases, Contains-filter_cases, flat_map_cases}
use Rattle.ab_hist.specs.declared.request.Request.{Request}
use Rattle.ab_msg.specs.declared.content.Content.{Content}
use Rattle.ab_msg.specs.declared.content.Content.TheVariants.{Abort}
use Rattle.ab_msg.specs.declared.message.Out.{Out}
use Rattle.ab_msg.specs.Claims.{maker_of, fresh}
use Rattle.ab_abs.specs.declared.rule.ReplyRule.{ReplyRule}
use Rattle.ab_abs.specs.declared.rule.ReplyRule.TheVariants as rules
use Rattle.ab_abs.specs.Acts.{Act, Setting, State, setting, state_of, log_of, log_at, WasMade, abort_content}
use Rattle.ab_abs.specs.Backing.{IsStopped}
use Rattle.ab_abs.specs.Deeds.{acts_in}
use Rattle.ab_abs.specs.Ensembles.{Proto, Ensemble, Reached, statements_of, begin_of, asked_of, halt_of}
use Rattle.ab_abs.specs.FormLaws.{KeepsPlace}
use Rattle.ab_abs.specs.Kinds.{rule_in}
use Rattle.ab_abs.specs.Promises.{ServesAll}
use Rattle.ab_abs.specs.Rules.{IsOther, by_client, takes, aborts, request, panic}
use Rattle.ab_abs.proofs.Facts.{state_cases, state_own}
use Rattle.ab_stable.proofs.EnsembleActs.{IsKept, all_keep, other_quiet}

-- ---- ABORTs

-- what a replica states in what it sends
statement_by : (f r : ℕ) (outs : List Out) (s : Content) → Contains (statements_of f r outs) s → (o : Out) × Contains outs o × Contains (fresh f (Replica r) o.msg) s
statement_by f r outs s has =
    let found = flat_map_cases (λ (o : Out). filter (λ t. party_eq (maker_of t) (Replica r)) (fresh f (Replica r) o.msg)) outs s has in
    (found.0, found.1, (Contains-filter_cases (λ t. party_eq (maker_of t) (Replica r)) (fresh f (Replica r) found.0.msg) s found.2).0)

-- what was made is of the last act, or of an earlier one
made_cases : (a : Act) (acts : List Act) (s : Content) → WasMade (a ∷ acts) s → Contains a.made s ⊎ WasMade acts s
made_cases a acts s was =
    elim (Contains-cons_cases a acts was.0 was.1) [ inl e ↦ inl (subst (λ (b : Act). Contains b.made s) (sym e) was.2) | inr more ↦ inr (was.0, more, was.2) ]

abort_is : (rule : ReplyRule) (i q : ℕ) (s : State) (j r : ℕ) (h : List Request) → abort_content rule i q s ≡ Abort (Replica r) j h → (q ≡ r) × (h ≡ s.log)
abort_is rules.All i q s j r h e = (cc (e), cc (e))
abort_is (rules.Equal n) i q s j r h e = (cc (e), cc (e))
abort_is rules.Tail i q s j r h e = (cc (e), cc (e))
abort_is rules.Certified i q s j r h e = absurd (cc (e))

-- replica r is stopped with the log h
record IsHalted (acts : List Act) (r : ℕ) (h : List Request) : Type 0 where
  at : State
  here : state_of acts r ≡ Some at
  stopped : at.stopped ≡ true
  log_is : h ≡ at.log

-- each ABORT is of the log of a stopped replica
abbrev AreOfLogs : ℕ → List Act → Type 0
AreOfLogs i acts = (r : ℕ) (h : List Request) → WasMade acts (Abort (Replica r) i h) → IsHalted acts r h

still_halted : (a : Act) (acts : List Act) (q : ℕ) (h : List Request) → state_of (a ∷ acts) q ≡ state_of acts q → IsHalted acts q h → IsHalted (a ∷ acts) q h
still_halted a acts q h same was = record { at = was.at; here = same ∙ was.here; stopped = was.stopped; log_is = was.log_is }

-- a replica goes on, which changes no log of a stopped one
halted_further : (a : Act) (acts : List Act) (r : ℕ) (s t : State) → a.party ≡ Replica r → a.state ≡ Some t → state_of acts r ≡ Some s → (s.stopped ≡ true → (t.log ≡ s.log) × (t.stopped ≡ true))
    → (q : ℕ) (h : List Request) → IsHalted acts q h → IsHalted (a ∷ acts) q h
halted_further a acts r s t own left was_at stays q h was =
    elim (state_cases a acts q) [
      | inr differ ↦ still_halted a acts q h differ.1 was
      | inl mine ↦
          let same : r ≡ q = cc (own, mine.0) in
          let at_is : was.at ≡ s = cc (was.here, subst (λ (k : ℕ). state_of acts k ≡ Some s) same was_at) in
          let is = stays (ap (λ u. u.stopped) (sym at_is) ∙ was.stopped) in
          record { at = t; here = state_own a acts q t mine.0 left; stopped = is.1; log_is = was.log_is ∙ (ap (λ u. u.log) at_is ∙ sym is.0) }
    ]

-- an act that makes no ABORT
of_logs_later : (i : ℕ) (a : Act) (acts : List Act) → ((r : ℕ) (h : List Request) → Contains a.made (Abort (Replica r) i h) → ⊥)
    → ((q : ℕ) (h : List Request) → IsHalted acts q h → IsHalted (a ∷ acts) q h) → AreOfLogs i acts → AreOfLogs i (a ∷ acts)
of_logs_later i a acts none later was r h made =
    elim (made_cases a acts (Abort (Replica r) i h) made) [ inl new ↦ absurd (none r h new) | inr old ↦ later r h (was r h old) ]

-- what such an act makes that is an ABORT
halted_now : (x : Setting) (a : Act) (acts : List Act) → (is : IsOther x acts a) → ((q : ℕ) → state_of (a ∷ acts) q ≡ state_of acts q) → (r : ℕ) (h : List Request) → Contains a.made (Abort (Replica r) x.i h) → IsHalted (a ∷ acts) r h
halted_now x a acts (by_client c own client) quiet r h new = elim (client.asks (Abort (Replica r) x.i h) new) [ request m e invoked ↦ absurd (cc (e)) | panic e ↦ absurd (cc (e)) ]
halted_now x a acts (takes q claims k lt e valid) quiet r h new = absurd (Contains-none (Abort (Replica r) x.i h) (subst (λ (b : Act). Contains b.made (Abort (Replica r) x.i h)) e new))
halted_now x a acts (aborts q s lt was_at stopped e) quiet r h new =
    let made_so = Contains-one (abort_content (rule_in x) x.i q s) (Abort (Replica r) x.i h) (subst (λ (b : Act). Contains b.made (Abort (Replica r) x.i h)) e new) in
    let parts = abort_is (rule_in x) x.i q s x.i r h made_so in
    record { at = s; here = quiet r ∙ subst (λ (k : ℕ). state_of acts k ≡ Some s) parts.0 was_at; stopped = stopped; log_is = parts.1 }

of_logs_other : (x : Setting) (a : Act) (acts : List Act) → IsOther x acts a → AreOfLogs x.i acts → AreOfLogs x.i (a ∷ acts)
of_logs_other x a acts is was r h made =
    elim (made_cases a acts (Abort (Replica r) x.i h) made) [
      | inr old ↦ still_halted a acts r h (other_quiet x acts a is r) (was r h old)
      | inl new ↦ halted_now x a acts is (other_quiet x acts a is) r h new
    ]

module _ {P : Type 0} (proto : Proto P) (serves : Kind → Bool) (place : KeepsPlace proto serves) (c : Cluster) (faulty : List Party) (all : ServesAll serves c) where
  abbrev at : ℕ → Setting
  at i = setting c faulty i

  logs_kept : IsKept proto serves place.trim_rests c faulty all AreOfLogs
  logs_kept = record {
    nothing = λ i r h made. absurd (Contains-none made.0 made.1);
    begun_by = λ i r e acts one empty none was.
        of_logs_later i (begin_of proto (at i) r e) acts (λ q h new. Contains-none (Abort (Replica q) i h) new)
        (λ q h had.
        elim (state_cases (begin_of proto (at i) r e) acts q) [
          | inr differ ↦ still_halted (begin_of proto (at i) r e) acts q h differ.1 had
          | inl mine ↦
              let same : r ≡ q = cc (mine.0) in
              let no : None ≡ Some had.at = sym (subst (λ (k : ℕ). state_of acts k ≡ None) same none) ∙ had.here in
              absurd (cc (no))
        ])
        was;
    called_by = λ i r pen p call seen acts of_it was_at no_cert was.
        of_logs_later i (asked_of proto (at i) r pen p call seen) acts
        (λ q h new.
        let o = statement_by c.f r (proto.sends pen p call) (Abort (Replica q) i h) new in
        let no = (place.own c i r pen p call o.0 (Abort (Replica q) i h) of_it o.1 o.2).2 in
        cc (no))
        (halted_further (asked_of proto (at i) r pen p call seen) acts r (proto.state p) (proto.state (proto.after pen p call)) refl refl was_at (place.frozen c i r pen p call of_it))
        was;
    halted_by = λ i r p acts was_at was.
        of_logs_later i (halt_of proto r p) acts (λ q h new. Contains-none (Abort (Replica q) i h) new)
        (halted_further (halt_of proto r p) acts r (proto.state p) (proto.state (proto.halt p)) refl refl was_at (λ halt. ((place.halts p).0, still p halt)))
        was;
    other_by = λ i a acts is was. of_logs_other (at i) a acts is was;
  }
    where
      still : (p : P) → (proto.state p).stopped ≡ true → (proto.state (proto.halt p)).stopped ≡ true
      still p halt = let h = place.halts p in elim h.1 [ inl stops ↦ stops | inr same ↦ ap (λ q. (proto.state q).stopped) same ∙ halt ]

  pub abort_logs : (w : Ensemble P) → Reached proto c faulty w → (i r : ℕ) (h : List Request) → WasMade (acts_in i w.run) (Abort (Replica r) i h) → (h ≡ log_of (acts_in i w.run) r) × IsStopped (acts_in i w.run) r
  abort_logs w reached i r h made =
      let is = all_keep proto serves place.trim_rests c faulty all AreOfLogs logs_kept w reached i r h made in
      (is.log_is ∙ sym (ap log_at is.here), record { at = is.at; here = is.here; stopped = is.stopped })
