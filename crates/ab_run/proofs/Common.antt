-- What correct replicas vouch for by CHECKPOINTs, and why each of them may trim what it trims.
use Rattle.std.proofs.Common.{◌≡◌, ◌≢◌, ℕ, zero, suc, ◌+◌, ◌<◌, ◌≤◌, Bool, true, false, None, List, [], ◌∷◌, ◌++◌, ◌⊎◌, length, take, drop, refl, sym, ap, ◌∙◌, subst, inl, inr, arith, length-append}
use Rattle.std.specs.Prelude.{Contains, ◌||◌, ◌==◌, nat_eq, nat_lt, if◌then◌else◌}
use Rattle.std.proofs.lemmas.Bool.{cases_Bool, cases_eq, ltb-true}
use Rattle.std.proofs.lemmas.Bool.Decides.{Decides-eqb}
use Rattle.std.proofs.lemmas.List.{take-append-le}
use Rattle.std.proofs.lemmas.List.Elements.{Contains-append_left, Contains-append_right, Contains-append_cases}
use mathlib.Core.List.{IsPrefix}
use Rattle.ab_num.specs.declared.plan.Kind.{Kind}
use Rattle.ab_num.specs.declared.plan.Kind.TheVariants as kind
use Rattle.ab_num.specs.Places.{kind_of}
use Rattle.ab_msg.specs.declared.signed.Signed.{Signed}
use Rattle.ab_num.specs.declared.party.Party.TheVariants.{Replica, Client}
use Rattle.ab_num.proofs.Lists.{Contains-head, Contains-tail, Contains-cons_cases, Contains-one, Contains-none}
use Rattle.ab_hist.specs.declared.request.Request.{Request}
use Rattle.ab_hist.specs.Digests.{digest_of}
use Rattle.ab_hist.specs.Trimmed.{StandsFor}
use Rattle.ab_ckpt.specs.Marks.{Mark, KeptMarks, later_mark, keep_mark}
use Rattle.ab_msg.specs.declared.content.Content.{Content}
use Rattle.ab_msg.specs.declared.content.Content.TheVariants.{Checkpoint, TrimmedAbort, Req, Panic}
use Rattle.ab_abs.specs.declared.rule.ReplyRule.{ReplyRule}
use Rattle.ab_abs.specs.declared.rule.ReplyRule.TheVariants as rules
use Rattle.ab_abs.specs.Faults.{is_faulty}
use Rattle.ab_abs.specs.Acts.{State, log_at, with_first}
use Rattle.ab_abs.specs.Kinds.{kind_in, rule_in, is_backup}
use Rattle.ab_abs.specs.Deeds.{InstanceAct}
use Rattle.ab_abs.specs.Ensembles.{Proto, Ensemble, put, entry_of, trimmed_entry}
use Rattle.ab_stable.specs.Offers.{makes_checkpoints}
use Rattle.ab_abs.specs.Messages.{took, timed}
use Rattle.ab_abs.proofs.Reach.{put_same, put_other}
use Rattle.ab_run.specs.Setups.{RunSetup, within, replicas}
use Rattle.ab_run.specs.Checkpoints.{own_mark, abort_after}
use Rattle.ab_run.specs.Replicas.{Rep, RepAction, turn_enter, turn_call, turn_halt, turn_sign, turn_bring, turn_abort, turn_mark, turn_keep, turn_trim, may_begin, state_at, pen_of, abort_content, checkpoint_at, after_turn, made_in_turn, turns}
use Rattle.ab_run.specs.Clients.{Cli, CliAction, move_ask, move_vote, move_commit, move_keep, move_take, move_panic, move_again, move_spec, move_cert, move_told, made_in_move, moves, panics, asking}
use Rattle.ab_run.specs.Runs.{Event, invoke, to_replica, to_client, replica_time, client_time, Run, put_log, had_at, take_turn, take_turns, take_move, take_moves, checks, histories_for, at_replica, at_client, step, run}
use Rattle.ab_run.specs.Acted.{acted_turn, deeds_of}
use Rattle.ab_run.specs.Premises.{AreFormed, IsFormedEvent, IsHonestRun, AreMade, checked}
use Rattle.ab_run.proofs.Kept.{Keeps, AreRules}
use Rattle.ab_run.proofs.Turns.{TurnMay, statement_in}
use Rattle.ab_run.proofs.Effects.{turns_other}
use Rattle.ab_run.proofs.Reasons.{IsGood, IsVouchedFor, IsReasoned, vouched_later}
use Rattle.ab_run.proofs.Dues.{Kept, Follows, TurnsMay, turn_follows, turns_keep, timed_may as timer_may}
use Rattle.ab_run.proofs.Events.{EventRight, AreRight, run_kept, checks_kept, brought_may}

-- a mark that is kept is the one that came, or was kept before
mark_cases : (v : Mark) (ms : List Mark) (u : Mark) → Contains (keep_mark v ms) u → (v ≡ u) ⊎ Contains ms u
mark_cases v [] u has = inl (Contains-one v u has)
mark_cases v (m ∷ ms) u has =
    elim (cases_Bool (nat_eq m.by v.by)) [
      | inl same ↦ elim (Contains-cons_cases (later_mark v m) ms u (rw same at has)) [
        | inl e ↦ elim (cases_Bool (nat_lt m.n v.n)) [
          | inl later ↦ inl (sym (ap (λ b. if b then v else m) later) ∙ e)
          | inr early ↦ inr (subst (λ (z : Mark). Contains (m ∷ ms) z) (sym (ap (λ b. if b then v else m) early) ∙ e) (Contains-head m ms))
        ]
        | inr more ↦ inr (Contains-tail m u ms more)
      ]
      | inr other ↦
          let has' : Contains (if nat_lt v.by m.by then v ∷ m ∷ ms else m ∷ keep_mark v ms) u = rw other at has in
          elim (cases_Bool (nat_lt v.by m.by)) [
            | inl before ↦ Contains-cons_cases v (m ∷ ms) u (rw before at has')
            | inr behind ↦ elim (Contains-cons_cases m (keep_mark v ms) u (rw behind at has')) [
              | inl e ↦ inr (subst (λ (z : Mark). Contains (m ∷ ms) z) e (Contains-head m ms))
              | inr more ↦ elim (mark_cases v ms u more) [ inl e ↦ inl e | inr old ↦ inr (Contains-tail m u ms old) ]
            ]
          ]
    ]

-- a log that goes on has the entries that it had
longer_front : (a b : List Request) (n : ℕ) → IsPrefix a b → n ≤ length a → (n ≤ length b) × (take n b ≡ take n a)
longer_front a b n begins le = (
  omega (arith, le, sym (ap length begins.1) ∙ length-append a begins.0),
  ap (take n) (sym begins.1) ∙ take-append-le n a begins.0 le,
)

same_test : (a : ℕ) → (a == a) ≡ true
same_test a = (Decides-eqb a a).1 refl

log_same : (log : ℕ → ℕ → List Request) (j r : ℕ) (h : List Request) → put_log log j r h j r ≡ h
log_same log j r h = rw (same_test j, same_test r) refl

log_apart : (log : ℕ → ℕ → List Request) (j r : ℕ) (h : List Request) (i q : ℕ) → (i ≢ j) ⊎ (q ≢ r) → put_log log j r h i q ≡ log i q
log_apart log j r h i q apart =
    elim (cases_Bool (i == j)) [
      | inl here ↦ elim (cases_Bool (q == r)) [
        | inl mine ↦ absurd (elim apart [ inl ne ↦ ne ((Decides-eqb i j).0 here) | inr ne ↦ ne ((Decides-eqb q r).0 mine) ])
        | inr other ↦ rw (here, other) refl
      ]
      | inr other ↦ rw other refl
    ]

-- an ABORT is no CHECKPOINT
no_mark : (n : ℕ) (rule : ReplyRule) (i r : ℕ) (s : State) (q j m : ℕ) (d : List ℕ) → abort_after n rule i r s ≡ Checkpoint (Replica q) j m d → ⊥
no_mark zero rules.All i r s q j m d e = cc (e)
no_mark zero (rules.Equal x) i r s q j m d e = cc (e)
no_mark zero rules.Tail i r s q j m d e = cc (e)
no_mark zero rules.Certified i r s q j m d e = cc (e)
no_mark (suc n) rule i r s q j m d e = cc (e)

whole_abort : (rule : ReplyRule) (i r : ℕ) (s : State) (q j n : ℕ) (d : List ℕ) (rest : List Request) → abort_after zero rule i r s ≡ TrimmedAbort (Replica q) j n d rest → ⊥
whole_abort rules.All i r s q j n d rest e = cc (e)
whole_abort (rules.Equal x) i r s q j n d rest e = cc (e)
whole_abort rules.Tail i r s q j n d rest e = cc (e)
whole_abort rules.Certified i r s q j n d rest e = cc (e)

-- what a client makes is none
move_marks_nothing : (c : ℕ) (s : Cli) (t : CliAction) (q j n : ℕ) (d : List ℕ) → Contains (made_in_move c s t) (Checkpoint (Replica q) j n d) → ⊥
move_marks_nothing c s (move_ask m) q j n d has = let e = Contains-one (Req (Client c) s.at m) (Checkpoint (Replica q) j n d) has in cc (e)
move_marks_nothing c s (move_vote b) q j n d has = Contains-none (Checkpoint (Replica q) j n d) has
move_marks_nothing c s (move_commit m p x reply claims) q j n d has = Contains-none (Checkpoint (Replica q) j n d) has
move_marks_nothing c s (move_keep v) q j n d has = Contains-none (Checkpoint (Replica q) j n d) has
move_marks_nothing c s (move_take i cert list m) q j n d has = let e = Contains-one (Req (Client c) (i + 1) m) (Checkpoint (Replica q) j n d) has in cc (e)
move_marks_nothing c s move_panic q j n d has = let e = Contains-one (Panic (Client c) s.at) (Checkpoint (Replica q) j n d) has in cc (e)
move_marks_nothing c s (move_again m) q j n d has = Contains-none (Checkpoint (Replica q) j n d) has
move_marks_nothing c s (move_spec b sig) q j n d has = Contains-none (Checkpoint (Replica q) j n d) has
move_marks_nothing c s (move_cert z) q j n d has = Contains-none (Checkpoint (Replica q) j n d) has
move_marks_nothing c s (move_told r) q j n d has = Contains-none (Checkpoint (Replica q) j n d) has

move_aborts_nothing : (c : ℕ) (s : Cli) (t : CliAction) (q j n : ℕ) (d : List ℕ) (rest : List Request) → Contains (made_in_move c s t) (TrimmedAbort (Replica q) j n d rest) → ⊥
move_aborts_nothing c s (move_ask m) q j n d rest has = let e = Contains-one (Req (Client c) s.at m) (TrimmedAbort (Replica q) j n d rest) has in cc (e)
move_aborts_nothing c s (move_vote b) q j n d rest has = Contains-none (TrimmedAbort (Replica q) j n d rest) has
move_aborts_nothing c s (move_commit m p x reply claims) q j n d rest has = Contains-none (TrimmedAbort (Replica q) j n d rest) has
move_aborts_nothing c s (move_keep v) q j n d rest has = Contains-none (TrimmedAbort (Replica q) j n d rest) has
move_aborts_nothing c s (move_take i cert list m) q j n d rest has = let e = Contains-one (Req (Client c) (i + 1) m) (TrimmedAbort (Replica q) j n d rest) has in cc (e)
move_aborts_nothing c s move_panic q j n d rest has = let e = Contains-one (Panic (Client c) s.at) (TrimmedAbort (Replica q) j n d rest) has in cc (e)
move_aborts_nothing c s (move_again m) q j n d rest has = Contains-none (TrimmedAbort (Replica q) j n d rest) has
move_aborts_nothing c s (move_spec b sig) q j n d rest has = Contains-none (TrimmedAbort (Replica q) j n d rest) has
move_aborts_nothing c s (move_cert z) q j n d rest has = Contains-none (TrimmedAbort (Replica q) j n d rest) has
move_aborts_nothing c s (move_told r) q j n d rest has = Contains-none (TrimmedAbort (Replica q) j n d rest) has

module _ {P : Type 0} (k : RunSetup) (proto : Proto P) (serves : Kind → Bool) (law : AreRules k proto serves) where
  abbrev Good : ℕ → Type 0
  Good q = IsGood k q

  abbrev log_of : Rep P → List Request
  log_of s = (state_at k proto s).log

  -- the first n entries of h may be trimmed in instance i
  pub record IsTrimmedTo (made : List Content) (had : List (List Request)) (i n : ℕ) (h : List Request) : Type 0 where
    pub makes : makes_checkpoints (kind_in (within k i)) ≡ true
    pub fits : n ≤ length h
    pub reason : IsVouchedFor k made had i (take n h)

  -- what a replica trimmed begins its log, with a reason
  abbrev pub Trims : List Content → List (List Request) → Rep P → Type 0
  Trims made had s = (proto.trimmed s.value ≡ 0) ⊎ IsTrimmedTo made had s.at (proto.trimmed s.value) (log_of s)

  -- the first n entries of a log in instance i have the digest d, and the rest is behind them; and they were trimmed with a reason
  pub record IsStated (made : List Content) (had : List (List Request)) (h : List Request) (i n : ℕ) (d : List ℕ) (rest : List Request) : Type 0 where
    pub stands : StandsFor (record { start = n; digest = d; rest = rest }) h
    pub makes : makes_checkpoints (kind_in (within k i)) ≡ true
    pub reason : IsVouchedFor k made had i (take n h)

  -- a replica has left instance i, or is stopped there
  abbrev pub IsFrozen : Rep P → ℕ → Type 0
  IsFrozen s i = (i < s.at) ⊎ ((i ≡ s.at) × ((state_at k proto s).stopped ≡ true))

  stated_later : (made more : List Content) (had longer : List (List Request)) (h : List Request) (i n : ℕ) (d : List ℕ) (rest : List Request) → ((c : Content) → Contains made c → Contains more c) → ((l : List Request) → Contains had l → Contains longer l)
      → IsStated made had h i n d rest → IsStated more longer h i n d rest
  stated_later made more had longer h i n d rest wider bigger was = record { stands = was.stands; makes = was.makes; reason = vouched_later k made more had longer i i (take n h) wider bigger (omega arith) was.reason }

  trims_later : (made more : List Content) (had longer : List (List Request)) (s : Rep P) → ((c : Content) → Contains made c → Contains more c) → ((l : List Request) → Contains had l → Contains longer l) → Trims made had s → Trims more longer s
  trims_later made more had longer s wider bigger was =
      elim was [
        | inl none ↦ inl none
        | inr to ↦ inr (record { makes = to.makes; fits = to.fits; reason = vouched_later k made more had longer s.at s.at (take (proto.trimmed s.value) (log_of s)) wider bigger (omega arith) to.reason })
      ]

  -- CHECKPOINTs of correct replicas are of their logs, those that are kept were made, what is trimmed has a reason, and ABORTs of trimmed
  -- logs are right
  pub record Vouched (made : List Content) (log : ℕ → ℕ → List Request) (had : List (List Request)) (reps : ℕ → Rep P) : Type 0 where
    pub made_of : (q i n : ℕ) (d : List ℕ) → Good q → Contains made (Checkpoint (Replica q) i n d) → (i ≤ (reps q).at) × (n ≤ length (log i q)) × (digest_of (take n (log i q)) ≡ d) × (1 ≤ i) × (makes_checkpoints (kind_in (within k i)) ≡ true)
    pub kept_of : (r : ℕ) → Good r → (v : Mark) → Contains (reps r).kept.marks v → Good v.by → Contains made (Checkpoint (Replica v.by) (reps r).at v.n v.d)
    pub trimmed_of : (r : ℕ) → Good r → Trims made had (reps r)
    pub had_of : (i q : ℕ) → Good q → (log i q ≡ []) ⊎ Contains had (log i q)
    pub stated_of : (q i n : ℕ) (d : List ℕ) (rest : List Request) → Good q → Contains made (TrimmedAbort (Replica q) i n d rest) → IsStated made had (log i q) i n d rest × IsFrozen (reps q) i

  abbrev pub IsVouched : Run P → Type 0
  IsVouched w = Vouched w.made w.log w.had w.reps

  abbrev longer_by : Rep P → List (List Request) → List (List Request)
  longer_by now had = had_at (state_at k proto now) ++ had

  -- what a turn of replica r from s to now adds
  record Adds (made : List Content) (had : List (List Request)) (more : List Content) (s now : Rep P) (r : ℕ) : Type 0 where
    later : s.at ≤ now.at
    grows : now.at ≡ s.at → IsPrefix (log_of s) (log_of now)
    fresh_marks : (q i n : ℕ) (d : List ℕ) → Contains more (Checkpoint (Replica q) i n d) → (q ≡ r) × (i ≡ now.at) × (n ≤ length (log_of now)) × (digest_of (take n (log_of now)) ≡ d) × (1 ≤ i) × (makes_checkpoints (kind_in (within k i)) ≡ true)
    keeps : (v : Mark) → Contains now.kept.marks v → Good v.by → Contains (more ++ made) (Checkpoint (Replica v.by) now.at v.n v.d)
    trims : Trims (more ++ made) (longer_by now had) now
    freezes : now.at ≡ s.at → (state_at k proto s).stopped ≡ true → (log_of now ≡ log_of s) × ((state_at k proto now).stopped ≡ true)
    fresh_aborts : (q i n : ℕ) (d : List ℕ) (rest : List Request) → Contains more (TrimmedAbort (Replica q) i n d rest) → (q ≡ r) × (i ≡ now.at) × ((state_at k proto now).stopped ≡ true) × IsStated (more ++ made) (longer_by now had) (log_of now) i n d rest

  vouched_on : (made more : List Content) (log : ℕ → ℕ → List Request) (had : List (List Request)) (reps : ℕ → Rep P) (r : ℕ) (now : Rep P) → log (reps r).at r ≡ log_of (reps r) → Vouched made log had reps → Adds made had more (reps r) now r
      → Vouched (more ++ made) (put_log log now.at r (log_of now)) (had_at (state_at k proto now) ++ had) (put reps r now)
  vouched_on made more log had reps r now own was adds =
      let s = reps r in
      let older : (c : Content) → Contains made c → Contains (more ++ made) c = λ c has. Contains-append_right more made c has in
      let bigger : (l : List Request) → Contains had l → Contains (longer_by now had) l = λ l has. Contains-append_right (had_at (state_at k proto now)) had l has in
      let reps_mine : put reps r now r ≡ now = put_same reps r now in
      record {
        made_of = λ q i n d good has.
            elim (Contains-append_cases more made (Checkpoint (Replica q) i n d) has) [
              | inl new ↦
                  let f = adds.fresh_marks q i n d new in
                  let log_is : put_log log now.at r (log_of now) i q ≡ log_of now = ap (λ z. put_log log now.at r (log_of now) z q) f.1 ∙ ap (λ z. put_log log now.at r (log_of now) now.at z) f.0 ∙ log_same log now.at r (log_of now) in
                  let at_is : (put reps r now q).at ≡ now.at = ap (λ z. (put reps r now z).at) f.0 ∙ ap (λ (z : Rep P). z.at) reps_mine in
                  (omega (arith, f.1, at_is), subst (λ (h : List Request). n ≤ length h) (sym log_is) f.2, ap (λ h. digest_of (take n h)) log_is ∙ f.3, f.4, f.5)
              | inr old ↦
                  let o = was.made_of q i n d good old in
                  elim (cases_eq q r) [
                    | inl mine ↦
                        let at_is : (put reps r now q).at ≡ now.at = ap (λ z. (put reps r now z).at) mine ∙ ap (λ (z : Rep P). z.at) reps_mine in
                        let before : i ≤ s.at = omega (arith, o.0, ap (λ z. (reps z).at) mine) in
                        elim (cases_eq i now.at) [
                          | inl here ↦
                              let same_at : now.at ≡ s.at = omega (arith, here, before, adds.later) in
                              let old_is : log i q ≡ log_of s = ap (λ z. log z q) (here ∙ same_at) ∙ ap (log s.at) mine ∙ own in
                              let log_is : put_log log now.at r (log_of now) i q ≡ log_of now = ap (λ z. put_log log now.at r (log_of now) z q) here ∙ ap (λ z. put_log log now.at r (log_of now) now.at z) mine ∙ log_same log now.at r (log_of now) in
                              let front = longer_front (log_of s) (log_of now) n (adds.grows same_at) (subst (λ (h : List Request). n ≤ length h) old_is o.1) in
                              (omega (arith, here, at_is), subst (λ (h : List Request). n ≤ length h) (sym log_is) front.0, ap (λ h. digest_of (take n h)) log_is ∙ ap digest_of front.1 ∙ ap (λ h. digest_of (take n h)) (sym old_is) ∙ o.2, o.3, o.4)
                          | inr else' ↦
                              let log_is = log_apart log now.at r (log_of now) i q (inl else') in
                              (omega (arith, before, adds.later, at_is), subst (λ (h : List Request). n ≤ length h) (sym log_is) o.1, ap (λ h. digest_of (take n h)) log_is ∙ o.2, o.3, o.4)
                        ]
                    | inr other ↦
                        let log_is = log_apart log now.at r (log_of now) i q (inr other) in
                        (subst (λ (z : Rep P). i ≤ z.at) (sym (put_other reps r q now other)) o.0, subst (λ (h : List Request). n ≤ length h) (sym log_is) o.1, ap (λ h. digest_of (take n h)) log_is ∙ o.2, o.3, o.4)
                  ]
            ];
        kept_of = λ q good.
            elim (cases_eq q r) [
              | inl mine ↦ subst (λ (z : Rep P). (v : Mark) → Contains z.kept.marks v → Good v.by → Contains (more ++ made) (Checkpoint (Replica v.by) z.at v.n v.d)) (sym (ap (put reps r now) mine ∙ reps_mine)) adds.keeps
              | inr other ↦ subst (λ (z : Rep P). (v : Mark) → Contains z.kept.marks v → Good v.by → Contains (more ++ made) (Checkpoint (Replica v.by) z.at v.n v.d)) (sym (put_other reps r q now other))
                  (λ v has good_v. older (Checkpoint (Replica v.by) (reps q).at v.n v.d) (was.kept_of q good v has good_v))
            ];
        trimmed_of = λ q good.
            elim (cases_eq q r) [
              | inl mine ↦ subst (λ (z : Rep P). Trims (more ++ made) (longer_by now had) z) (sym (ap (put reps r now) mine ∙ reps_mine)) adds.trims
              | inr other ↦ subst (λ (z : Rep P). Trims (more ++ made) (longer_by now had) z) (sym (put_other reps r q now other)) (trims_later made (more ++ made) had (longer_by now had) (reps q) older bigger (was.trimmed_of q good))
            ];
        had_of = λ i q good.
            let longer : (h : List Request) → (h ≡ []) ⊎ Contains had h → (h ≡ []) ⊎ Contains (had_at (state_at k proto now) ++ had) h =
            λ h o. elim o [ inl none ↦ inl none | inr has ↦ inr (Contains-append_right (had_at (state_at k proto now)) had h has) ] in
            elim (cases_eq i now.at) [
              | inl here ↦ elim (cases_eq q r) [
                | inl mine ↦
                    let log_is : put_log log now.at r (log_of now) i q ≡ log_of now = ap (λ z. put_log log now.at r (log_of now) z q) here ∙ ap (λ z. put_log log now.at r (log_of now) now.at z) mine ∙ log_same log now.at r (log_of now) in
                    inr (subst (λ (h : List Request). Contains (had_at (state_at k proto now) ++ had) h) (sym log_is) (Contains-append_left (had_at (state_at k proto now)) had (log_of now) (Contains-head (log_of now) ((state_at k proto now).entered ∷ with_first (state_at k proto now).first))))
                | inr other ↦ subst (λ (h : List Request). (h ≡ []) ⊎ Contains (had_at (state_at k proto now) ++ had) h) (sym (log_apart log now.at r (log_of now) i q (inr other))) (longer (log i q) (was.had_of i q good))
              ]
              | inr else' ↦ subst (λ (h : List Request). (h ≡ []) ⊎ Contains (had_at (state_at k proto now) ++ had) h) (sym (log_apart log now.at r (log_of now) i q (inl else'))) (longer (log i q) (was.had_of i q good))
            ];
        stated_of = λ q i n d rest good has.
            let log' = put_log log now.at r (log_of now) in
            elim (Contains-append_cases more made (TrimmedAbort (Replica q) i n d rest) has) [
              | inl new ↦
                  let f = adds.fresh_aborts q i n d rest new in
                  let log_is : log' i q ≡ log_of now = ap (λ z. log' z q) f.1 ∙ ap (λ z. log' now.at z) f.0 ∙ log_same log now.at r (log_of now) in
                  let rep_is : put reps r now q ≡ now = ap (λ z. put reps r now z) f.0 ∙ reps_mine in
                  (subst (λ (h : List Request). IsStated (more ++ made) (longer_by now had) h i n d rest) (sym log_is) f.3, subst (λ (z : Rep P). IsFrozen z i) (sym rep_is) (inr (f.1, f.2)))
              | inr old ↦
                  let o = was.stated_of q i n d rest good old in
                  let more' = stated_later made (more ++ made) had (longer_by now had) (log i q) i n d rest older bigger o.0 in
                  elim (cases_eq q r) [
                    | inl mine ↦
                        let rep_is : put reps r now q ≡ now = ap (λ z. put reps r now z) mine ∙ reps_mine in
                        let frozen : IsFrozen s i = subst (λ (z : ℕ). IsFrozen (reps z) i) mine o.1 in
                        let stays : IsFrozen now i × (log' i q ≡ log i q) = elim frozen [
                          | inl left ↦ (inl (omega (arith, left, adds.later)), log_apart log now.at r (log_of now) i q (inl (λ e. omega (arith, left, adds.later, e))))
                          | inr (here, stopped) ↦ elim (cases_eq now.at s.at) [
                            | inl same_at ↦
                                let f = adds.freezes same_at stopped in
                                let at_now : i ≡ now.at = here ∙ sym same_at in
                                let log_is : log' i q ≡ log_of now = ap (λ z. log' z q) at_now ∙ ap (λ z. log' now.at z) mine ∙ log_same log now.at r (log_of now) in
                                let old_is : log i q ≡ log_of s = ap (λ z. log z q) here ∙ ap (log s.at) mine ∙ own in
                                (inr (at_now, f.1), log_is ∙ f.0 ∙ sym old_is)
                            | inr moved ↦ (inl (omega (arith, here, adds.later, moved)), log_apart log now.at r (log_of now) i q (inl (λ e. moved (sym e ∙ here))))
                          ]
                        ] in
                        (subst (λ (h : List Request). IsStated (more ++ made) (longer_by now had) h i n d rest) (sym stays.1) more', subst (λ (z : Rep P). IsFrozen z i) (sym rep_is) stays.0)
                    | inr other ↦ (
                      subst (λ (h : List Request). IsStated (more ++ made) (longer_by now had) h i n d rest) (sym (log_apart log now.at r (log_of now) i q (inr other))) more',
                      subst (λ (z : Rep P). IsFrozen z i) (sym (put_other reps r q now other)) o.1,
                    )
                  ]
            ];
      }

  -- nothing is trimmed, or the same as before of a log that went on
  still_trimmed : (w : Run P) (more : List Content) (r : ℕ) (now : Rep P) → Good r → IsVouched w → now.at ≡ (w.reps r).at → proto.trimmed now.value ≡ proto.trimmed (w.reps r).value → IsPrefix (log_of (w.reps r)) (log_of now)
      → Trims (more ++ w.made) (longer_by now w.had) now
  still_trimmed w more r now good was same_at same begins =
      let s = w.reps r in
      let n = proto.trimmed s.value in
      elim (was.trimmed_of r good) [
        | inl none ↦ inl (same ∙ none)
        | inr to ↦
            let front = longer_front (log_of s) (log_of now) n begins to.fits in
            let later = vouched_later k w.made (more ++ w.made) w.had (longer_by now w.had) s.at now.at (take n (log_of s))
            (λ c has. Contains-append_right more w.made c has) (λ l has. Contains-append_right (had_at (state_at k proto now)) w.had l has) (omega (arith, same_at)) to.reason in
            inr (subst (λ (m : ℕ). IsTrimmedTo (more ++ w.made) (longer_by now w.had) now.at m (log_of now)) (sym same) (record {
              makes = subst (λ (i : ℕ). makes_checkpoints (kind_in (within k i)) ≡ true) (sym same_at) to.makes;
              fits = front.0;
              reason = subst (λ (f : List Request). IsVouchedFor k (more ++ w.made) (longer_by now w.had) now.at f) (sym front.1) later;
            }))
      ]

  -- the marks are those that were kept
  still_kept : (w : Run P) (more : List Content) (r : ℕ) (now : Rep P) → Good r → IsVouched w → now.at ≡ (w.reps r).at → now.kept ≡ (w.reps r).kept → (v : Mark) → Contains now.kept.marks v → Good v.by → Contains (more ++ w.made) (Checkpoint (Replica v.by) now.at v.n v.d)
  still_kept w more r now good was same_at same v has good_v =
      subst (λ (i : ℕ). Contains (more ++ w.made) (Checkpoint (Replica v.by) i v.n v.d)) (sym same_at)
      (Contains-append_right more w.made (Checkpoint (Replica v.by) (w.reps r).at v.n v.d) (was.kept_of r good v (subst (λ (z : KeptMarks). Contains z.marks v) same has) good_v))

  none_fresh : (now : Rep P) (r : ℕ) (q i n : ℕ) (d : List ℕ) → Contains [] (Checkpoint (Replica q) i n d) → (q ≡ r) × (i ≡ now.at) × (n ≤ length (log_of now)) × (digest_of (take n (log_of now)) ≡ d) × (1 ≤ i) × (makes_checkpoints (kind_in (within k i)) ≡ true)
  none_fresh now r q i n d none = absurd (Contains-none (Checkpoint (Replica q) i n d) none)

  no_aborts : (made : List Content) (had : List (List Request)) (now : Rep P) (r q i n : ℕ) (d : List ℕ) (rest : List Request) → Contains [] (TrimmedAbort (Replica q) i n d rest) → (q ≡ r) × (i ≡ now.at) × ((state_at k proto now).stopped ≡ true) × IsStated made had (log_of now) i n d rest
  no_aborts made had now r q i n d rest none = absurd (Contains-none (TrimmedAbort (Replica q) i n d rest) none)

  prefix_same : (a b : List Request) → a ≡ b → IsPrefix a b
  prefix_same a b e = ([], append_nothing a ∙ e)
    where
      append_nothing : (xs : List Request) → xs ++ [] ≡ xs
      append_nothing [] = refl
      append_nothing (x ∷ xs) = ap (λ ys. x ∷ ys) (append_nothing xs)

  nothing_added : (w : Run P) (r : ℕ) → Good r → IsVouched w → w.log (w.reps r).at r ≡ log_of (w.reps r) → Adds w.made w.had [] (w.reps r) (w.reps r) r
  nothing_added w r good was own =
      let s = w.reps r in
      let begins = prefix_same (log_of s) (log_of s) refl in
      record {
        later = omega arith;
        grows = λ e. begins;
        fresh_marks = none_fresh s r;
        keeps = still_kept w [] r s good was refl refl;
        trims = still_trimmed w [] r s good was refl refl begins;
        freezes = λ e stopped. (refl, stopped);
        fresh_aborts = no_aborts w.made (longer_by s w.had) s r;
      }

  -- an ABORT of a trimmed log that is signed
  signed_aborts : (w : Run P) (r : ℕ) → Good r → IsVouched w → w.log (w.reps r).at r ≡ log_of (w.reps r) → (state_at k proto (w.reps r)).stopped ≡ true → (q i n : ℕ) (d : List ℕ) (rest : List Request) (m : ℕ) → proto.trimmed (w.reps r).value ≡ m
      → abort_after m (rule_in (within k (w.reps r).at)) (w.reps r).at r (state_at k proto (w.reps r)) ≡ TrimmedAbort (Replica q) i n d rest
      → (q ≡ r) × (i ≡ (w.reps r).at) × ((state_at k proto (w.reps r)).stopped ≡ true) × IsStated (abort_content k proto r (w.reps r) ∷ w.made) (longer_by (w.reps r) w.had) (log_of (w.reps r)) i n d rest
  signed_aborts w r good was own stopped q i n d rest zero none e = absurd (whole_abort (rule_in (within k (w.reps r).at)) (w.reps r).at r (state_at k proto (w.reps r)) q i n d rest e)
  signed_aborts w r good was own stopped q i n d rest (suc m) some e =
      let s = w.reps r in
      let h = log_of s in
      let e_q : r ≡ q = cc (e) in
      let e_i : s.at ≡ i = cc (e) in
      let e_n : suc m ≡ n = cc (e) in
      let e_d : digest_of (take (suc m) h) ≡ d = cc (e) in
      let e_rest : drop (suc m) h ≡ rest = cc (e) in
      let known : IsTrimmedTo w.made w.had s.at (suc m) h =
      elim (was.trimmed_of r good) [
        | inl none ↦ absurd (omega (arith, none, some))
        | inr to ↦ subst (λ (z : ℕ). IsTrimmedTo w.made w.had s.at z h) some to
      ] in
      let content = abort_content k proto r s in
      let later = vouched_later k w.made (content ∷ w.made) w.had (longer_by s w.had) s.at i (take (suc m) h) (λ c has. Contains-tail content c w.made has)
      (λ l has. Contains-append_right (had_at (state_at k proto s)) w.had l has) (omega (arith, e_i)) known.reason in (
        sym e_q,
        sym e_i,
        stopped,
        record {
          stands = record {
            reaches = subst (λ (z : ℕ). z ≤ length h) e_n known.fits;
            digest = ap (λ z. digest_of (take z h)) (sym e_n) ∙ e_d;
            rest = ap (λ z. drop z h) (sym e_n) ∙ e_rest;
          };
          makes = subst (λ (z : ℕ). makes_checkpoints (kind_in (within k z)) ≡ true) e_i known.makes;
          reason = subst (λ (z : ℕ). IsVouchedFor k (content ∷ w.made) (longer_by s w.had) i (take z h)) e_n later;
        },
      )

  checkpoint_kinds : (g : Kind) → makes_checkpoints g ≡ true → is_backup g ≡ false
  checkpoint_kinds kind.Quorum is = refl
  checkpoint_kinds kind.ZLight is = refl
  checkpoint_kinds kind.Chain is = refl
  checkpoint_kinds kind.Backup is = absurd (cc (is))
  checkpoint_kinds kind.ZCert is = refl

  -- it enters with a history of which what is trimmed has a reason
  entered_trims : (w : Run P) (r j : ℕ) (cert : List Signed) (n : ℕ) (h : List Request) → 1 ≤ j → n ≤ length h → may_begin k proto (j + 1) n ≡ true → IsReasoned k w.made w.had j n h
      → (let now = after_turn k proto r (w.reps r) (turn_enter j cert n h) in Trims w.made (longer_by now w.had) now)
  entered_trims w r j cert n h one fits begins reasoned =
      let now = after_turn k proto r (w.reps r) (turn_enter j cert n h) in
      let e = trimmed_entry h n cert in
      let g = kind_of k.cluster.plan (j + 1) in
      let n_is : proto.trimmed now.value ≡ n = law.form.begins_trimmed k.cluster (j + 1) r e in
      elim reasoned [
        | inl none ↦ inl (n_is ∙ none)
        | inr why ↦ elim (cases_Bool (n == 0)) [
          | inl none ↦ inl (n_is ∙ (Decides-eqb n 0).0 none)
          | inr some ↦
              let makes : makes_checkpoints g ≡ true = sym (ap (λ (b : Bool). b || makes_checkpoints g) some) ∙ begins in
              let log_is : log_of now ≡ h = law.form.logs k.cluster (j + 1) r e (law.all (j + 1) (omega arith)) (checkpoint_kinds g makes) in
              let later = vouched_later k w.made w.made w.had (longer_by now w.had) j (j + 1) (take n h) (λ c has. has) (λ l has. Contains-append_right (had_at (state_at k proto now)) w.had l has) (omega arith) why in
              inr (subst (λ (m : ℕ). IsTrimmedTo w.made (longer_by now w.had) (j + 1) m (log_of now)) (sym n_is)
              (subst (λ (l : List Request). IsTrimmedTo w.made (longer_by now w.had) (j + 1) n l) (sym log_is) (record { makes = makes; fits = fits; reason = later })))
        ]
      ]

  -- each turn adds what it may
  turn_adds : (w : Run P) (v : Ensemble P) (r : ℕ) (t : RepAction) → Good r → Keeps k proto serves w v → IsVouched w → w.log (w.reps r).at r ≡ log_of (w.reps r) → (deeds : List InstanceAct) → TurnMay k proto serves law deeds w r (w.reps r) t
      → Adds w.made w.had (made_in_turn k proto r (w.reps r) t) (w.reps r) (after_turn k proto r (w.reps r) t) r
  turn_adds w v r (turn_enter j cert n h) good old was own deeds may =
      let s = w.reps r in
      let now = after_turn k proto r s (turn_enter j cert n h) in
      record {
        later = omega (arith, may.later);
        grows = λ e. absurd (omega (arith, e, may.later));
        fresh_marks = none_fresh now r;
        keeps = λ u none. absurd (Contains-none u none);
        trims = entered_trims w r j cert n h (omega (arith, old.begun r good.0 good.1, may.later)) may.fits may.begins may.reasoned;
        freezes = λ e stopped. absurd (omega (arith, e, may.later));
        fresh_aborts = no_aborts w.made (longer_by now w.had) now r;
      }
  turn_adds w v r (turn_call call) good old was own deeds may =
      let s = w.reps r in
      let pen = pen_of k proto r s in
      let now = after_turn k proto r s (turn_call call) in
      let more = made_in_turn k proto r s (turn_call call) in
      record {
        later = omega arith;
        grows = λ e. law.form.grows pen s.value call;
        fresh_marks = λ q i n d has.
            let found = statement_in k.cluster.f r (proto.sends pen s.value call) (Checkpoint (Replica q) i n d) has in
            let ruled = (law.form.own k.cluster s.at r pen s.value call found.0 (Checkpoint (Replica q) i n d) (old.belongs r good.1) found.1 found.2).2 in
            absurd (cc (ruled));
        keeps = still_kept w more r now good was refl refl;
        trims = still_trimmed w more r now good was refl (law.form.trimmed_stays pen s.value call) (law.form.grows pen s.value call);
        freezes = λ e stopped. law.form.frozen k.cluster s.at r pen s.value call (old.belongs r good.1) stopped;
        fresh_aborts = λ q i n d rest has.
            let found = statement_in k.cluster.f r (proto.sends pen s.value call) (TrimmedAbort (Replica q) i n d rest) has in
            let ruled = (law.form.own k.cluster s.at r pen s.value call found.0 (TrimmedAbort (Replica q) i n d rest) (old.belongs r good.1) found.1 found.2).2 in
            absurd (cc (ruled));
      }
  turn_adds w v r turn_halt good old was own deeds may =
      let s = w.reps r in
      let now = after_turn k proto r s turn_halt in
      let begins = prefix_same (log_of s) (log_of now) (sym (law.form.halts s.value).0) in
      record {
        later = omega arith;
        grows = λ e. begins;
        fresh_marks = none_fresh now r;
        keeps = still_kept w [] r now good was refl refl;
        trims = still_trimmed w [] r now good was refl (law.form.trimmed_rests s.value) begins;
        freezes = λ e stopped. ((law.form.halts s.value).0, elim (law.form.halts s.value).1 [ inl halted ↦ halted | inr same ↦ ap (λ p. (proto.state p).stopped) same ∙ stopped ]);
        fresh_aborts = no_aborts w.made (longer_by now w.had) now r;
      }
  turn_adds w v r turn_sign good old was own deeds may =
      let s = w.reps r in
      let now = after_turn k proto r s turn_sign in
      let content = abort_content k proto r s in
      let begins = prefix_same (log_of s) (log_of s) refl in
      record {
        later = omega arith;
        grows = λ e. begins;
        fresh_marks = λ q i n d has. absurd (no_mark (proto.trimmed s.value) (rule_in (within k s.at)) s.at r (state_at k proto s) q i n d (Contains-one content (Checkpoint (Replica q) i n d) has));
        keeps = still_kept w (content ∷ []) r now good was refl refl;
        trims = still_trimmed w (content ∷ []) r now good was refl refl begins;
        freezes = λ e stopped. (refl, stopped);
        fresh_aborts = λ q i n d rest has. signed_aborts w r good was own may q i n d rest (proto.trimmed s.value) refl (Contains-one content (TrimmedAbort (Replica q) i n d rest) has);
      }
  turn_adds w v r (turn_bring c) good old was own deeds may = nothing_added w r good was own
  turn_adds w v r (turn_abort c) good old was own deeds may = nothing_added w r good was own
  turn_adds w v r (turn_mark n) good old was own deeds may =
      let s = w.reps r in
      let now = after_turn k proto r s (turn_mark n) in
      let content = checkpoint_at k proto r s n in
      let mine : Mark = own_mark r n (log_of s) in
      let begins = prefix_same (log_of s) (log_of s) refl in
      record {
        later = omega arith;
        grows = λ e. begins;
        fresh_marks = λ q i m d has.
            let e : content ≡ Checkpoint (Replica q) i m d = Contains-one content (Checkpoint (Replica q) i m d) has in
            let e_q : r ≡ q = cc (e) in
            let e_i : s.at ≡ i = cc (e) in
            let e_n : n ≡ m = cc (e) in
            let e_d : digest_of (take n (log_of s)) ≡ d = cc (e) in (
              sym e_q,
              sym e_i,
              subst (λ (z : ℕ). z ≤ length (log_of s)) e_n may.0,
              ap (λ z. digest_of (take z (log_of s))) (sym e_n) ∙ e_d,
              omega (arith, sym e_i, old.begun r good.0 good.1),
              subst (λ (z : ℕ). makes_checkpoints (kind_in (within k z)) ≡ true) e_i may.1,
            );
        keeps = λ u has good_u. elim (mark_cases mine s.kept.marks u has) [
          | inl e ↦ subst (λ (z : Mark). Contains (content ∷ w.made) (Checkpoint (Replica z.by) s.at z.n z.d)) e (Contains-head content w.made)
          | inr before ↦ Contains-tail content (Checkpoint (Replica u.by) s.at u.n u.d) w.made (was.kept_of r good u before good_u)
        ];
        trims = still_trimmed w (content ∷ []) r now good was refl refl begins;
        freezes = λ e stopped. (refl, stopped);
        fresh_aborts = λ q i m d rest has. let e = Contains-one content (TrimmedAbort (Replica q) i m d rest) has in absurd (cc (e));
      }
  turn_adds w v r (turn_keep u) good old was own deeds may =
      let s = w.reps r in
      let now = after_turn k proto r s (turn_keep u) in
      let begins = prefix_same (log_of s) (log_of s) refl in
      record {
        later = omega arith;
        grows = λ e. begins;
        fresh_marks = none_fresh now r;
        keeps = λ x has good_x. elim (mark_cases u s.kept.marks x has) [
          | inl e ↦ subst (λ (z : Mark). Good z.by → Contains w.made (Checkpoint (Replica z.by) s.at z.n z.d)) e (λ good_z. may good_z.1) good_x
          | inr before ↦ was.kept_of r good x before good_x
        ];
        trims = still_trimmed w [] r now good was refl refl begins;
        freezes = λ e stopped. (refl, stopped);
        fresh_aborts = no_aborts w.made (longer_by now w.had) now r;
      }
  turn_adds w v r (turn_trim n) good old was own deeds may =
      let s = w.reps r in
      let now = after_turn k proto r s (turn_trim n) in
      let same_log : log_of now ≡ log_of s = ap (λ (t : State). t.log) (law.form.trim_rests n s.value) in
      let reaches : n ≤ length (log_of now) = subst (λ (h : List Request). n ≤ length h) (sym same_log) may.within in
      let all : (q : ℕ) → Good q → Contains w.made (Checkpoint (Replica q) s.at n (digest_of (take n (log_of s)))) = λ q good_q. was.kept_of r good (record { by = q; n = n; d = digest_of (take n (log_of s)) }) (may.marked q good_q.0) good_q in
      record {
        later = omega arith;
        grows = λ e. prefix_same (log_of s) (log_of now) (sym same_log);
        fresh_marks = none_fresh now r;
        keeps = still_kept w [] r now good was refl refl;
        trims = inr (subst (λ (m : ℕ). IsTrimmedTo w.made (longer_by now w.had) s.at m (log_of now)) (sym (law.form.trims n s.value)) (record {
          makes = (was.made_of r s.at n (digest_of (take n (log_of s))) good (all r good)).4;
          fits = reaches;
          reason = record {
            at = s.at;
            n = n;
            d = digest_of (take n (log_of s));
            before = omega arith;
            all = all;
            whole = log_of now;
            there = Contains-append_left (had_at (state_at k proto now)) w.had (log_of now) (Contains-head (log_of now) ((state_at k proto now).entered ∷ with_first (state_at k proto now).first));
            reaches = reaches;
            digest = ap (λ h. digest_of (take n h)) same_log;
            begins = prefix_same (take n (log_of now)) (take n (log_of now)) refl;
          };
        }));
        freezes = λ e stopped. (same_log, ap (λ (t : State). t.stopped) (law.form.trim_rests n s.value) ∙ stopped);
        fresh_aborts = no_aborts w.made (longer_by now w.had) now r;
      }

  -- ---- runs

  abbrev pub own_log : (w : Run P) (v : Ensemble P) (r : ℕ) → Good r → Keeps k proto serves w v → w.log (w.reps r).at r ≡ log_of (w.reps r)
  own_log w v r good old = old.log (w.reps r).at r good.0 good.1 ∙ ap log_at (old.left r good.0 good.1)

  turns_vouch : (start : List InstanceAct) (r : ℕ) → Good r → (ts : List RepAction) (w : Run P) (deeds : List InstanceAct) → Follows k proto serves law start deeds → Kept k proto serves law w deeds → IsVouched w → TurnsMay k proto serves law start r w ts
      → IsVouched (take_turns k proto r w ts)
  turns_vouch start r good [] w deeds later kept was may = was
  turns_vouch start r good (t ∷ ts) w deeds later kept was may =
      let own = own_log w kept.ensemble r good kept.keeps in
      let now = after_turn k proto r (w.reps r) t in
      let next = vouched_on w.made (made_in_turn k proto r (w.reps r) t) w.log w.had w.reps r now own was (turn_adds w kept.ensemble r t good kept.keeps was own start may.0) in
      turns_vouch start r good ts (take_turn k proto r w t) (acted_turn k proto w.log r (w.reps r) t deeds) (λ i x made. turn_follows k proto serves law w.log r (w.reps r) t deeds i x (later i x made))
      (turns_keep k proto serves law start r good.0 good.1 (t ∷ []) w deeds later kept (may.0, tt)) next may.1

  -- what is checked, and what others make, changes nothing
  more_had : (made : List Content) (log : ℕ → ℕ → List Request) (had more : List (List Request)) (reps : ℕ → Rep P) → Vouched made log had reps → Vouched made log (more ++ had) reps
  more_had made log had more reps was =
      let bigger : (l : List Request) → Contains had l → Contains (more ++ had) l = λ l has. Contains-append_right more had l has in
      record {
        made_of = was.made_of;
        kept_of = was.kept_of;
        trimmed_of = λ r good. trims_later made made had (more ++ had) (reps r) (λ c has. has) bigger (was.trimmed_of r good);
        had_of = λ i q good. elim (was.had_of i q good) [ inl none ↦ inl none | inr has ↦ inr (bigger (log i q) has) ];
        stated_of = λ q i n d rest good has. let o = was.stated_of q i n d rest good has in (stated_later made made had (more ++ had) (log i q) i n d rest (λ c has'. has') bigger o.0, o.1);
      }

  more_made : (made more : List Content) (log : ℕ → ℕ → List Request) (had : List (List Request)) (reps : ℕ → Rep P) → ((q i n : ℕ) (d : List ℕ) → Contains more (Checkpoint (Replica q) i n d) → ⊥) → ((q i n : ℕ) (d : List ℕ) (rest : List Request) → Contains more (TrimmedAbort (Replica q) i n d rest) → ⊥) → Vouched made log had reps → Vouched (more ++ made) log had reps
  more_made made more log had reps none no_abort was =
      let wider : (c : Content) → Contains made c → Contains (more ++ made) c = λ c has. Contains-append_right more made c has in
      record {
        made_of = λ q i n d good has. elim (Contains-append_cases more made (Checkpoint (Replica q) i n d) has) [ inl new ↦ absurd (none q i n d new) | inr old ↦ was.made_of q i n d good old ];
        kept_of = λ r good v has good_v. wider (Checkpoint (Replica v.by) (reps r).at v.n v.d) (was.kept_of r good v has good_v);
        trimmed_of = λ r good. trims_later made (more ++ made) had had (reps r) wider (λ l has. has) (was.trimmed_of r good);
        had_of = was.had_of;
        stated_of = λ q i n d rest good has. elim (Contains-append_cases more made (TrimmedAbort (Replica q) i n d rest) has) [
          | inl new ↦ absurd (no_abort q i n d rest new)
          | inr old ↦ let o = was.stated_of q i n d rest good old in (stated_later made (more ++ made) had had (log i q) i n d rest wider (λ l has'. has') o.0, o.1)
        ];
      }

  moves_vouch : (c : ℕ) (ts : List CliAction) (w : Run P) → IsVouched w → IsVouched (take_moves k c w ts)
  moves_vouch c [] w was = was
  moves_vouch c (t ∷ ts) w was = moves_vouch c ts (take_move k c w t) (more_made w.made (made_in_move c (w.clis c) t) w.log w.had w.reps (move_marks_nothing c (w.clis c) t) (move_aborts_nothing c (w.clis c) t) was)

  -- a faulty replica may be anywhere
  other_reps : (w : Run P) (reps : ℕ → Rep P) → ((q : ℕ) → is_faulty k.faulty (Replica q) ≡ false → reps q ≡ w.reps q) → IsVouched w → IsVouched (record w { reps = reps })
  other_reps w reps same was = record {
    made_of = λ q i n d good has. let o = was.made_of q i n d good has in (subst (λ (z : Rep P). i ≤ z.at) (sym (same q good.1)) o.0, o.1, o.2, o.3, o.4);
    kept_of = λ r good. subst (λ (z : Rep P). (v : Mark) → Contains z.kept.marks v → Good v.by → Contains w.made (Checkpoint (Replica v.by) z.at v.n v.d)) (sym (same r good.1)) (was.kept_of r good);
    trimmed_of = λ r good. subst (λ (z : Rep P). Trims w.made w.had z) (sym (same r good.1)) (was.trimmed_of r good);
    had_of = was.had_of;
    stated_of = λ q i n d rest good has. let o = was.stated_of q i n d rest good has in (o.0, subst (λ (z : Rep P). IsFrozen z i) (sym (same q good.1)) o.1);
  }

  if_vouched : (b : Bool) (x y : Run P) → (b ≡ true → IsVouched x) → (b ≡ false → IsVouched y) → IsVouched (if b then x else y)
  if_vouched true x y one two = one refl
  if_vouched false x y one two = two refl

  replica_vouches : (r : ℕ) (w : Run P) (deeds : List InstanceAct) (ts : List RepAction) → r < replicas k → Kept k proto serves law w deeds → IsVouched w → (is_faulty k.faulty (Replica r) ≡ false → TurnsMay k proto serves law deeds r w ts) → IsVouched (at_replica k proto r w ts)
  replica_vouches r w deeds ts lt kept was may =
      if_vouched (is_faulty k.faulty (Replica r)) (record w { reps = (take_turns k proto r w ts).reps }) (take_turns k proto r w ts)
      (λ bad. other_reps w (take_turns k proto r w ts).reps (λ q good. turns_other k proto r ts w q (λ e. let both : true ≡ false = sym bad ∙ ap (λ z. is_faulty k.faulty (Replica z)) (sym e) ∙ good in cc (both))) was)
      (λ good. turns_vouch deeds r (lt, good) ts w deeds (λ i x made. made) kept was (may good))

  client_vouches : (c : ℕ) (w : Run P) (ts : List CliAction) → IsVouched w → IsVouched (at_client k proto c w ts)
  client_vouches c w ts was =
      if_vouched (is_faulty k.faulty (Client c)) (record w { clis = (take_moves k c w ts).clis }) (take_moves k c w ts)
      (λ bad. record { made_of = was.made_of; kept_of = was.kept_of; trimmed_of = was.trimmed_of; had_of = was.had_of; stated_of = was.stated_of }) (λ good. moves_vouch c ts w was)

  step_vouches : (w : Run P) (deeds : List InstanceAct) (e : Event) → IsFormedEvent k e → AreMade k w.made (checked k e) → EventRight k proto serves law w deeds e → Kept k proto serves law w deeds → IsVouched w → IsVouched (step k proto w e)
  step_vouches w deeds (invoke c command) formed honest right kept was =
      if_vouched (nat_lt c k.cluster.clients) (at_client k proto c w (asking c (w.clis c) (w.clis c).phase command)) w (λ _. client_vouches c w (asking c (w.clis c) (w.clis c).phase command) was) (λ _. was)
  step_vouches w deeds (to_replica r m) formed honest right kept was =
      let ts = turns k proto r (w.reps r) (took m) in
      let w' = checks k (Replica r) m w in
      if_vouched (nat_lt r (replicas k)) (at_replica k proto r w' ts) w
      (λ lt. replica_vouches r w' deeds ts (ltb-true r (replicas k) lt) (checks_kept k proto serves law (Replica r) m w deeds kept) (more_had w.made w.log w.had (histories_for k (Replica r) m) w.reps was)
      (λ good. brought_may k proto serves law r m w deeds formed honest right kept (ltb-true r (replicas k) lt) good)) (λ _. was)
  step_vouches w deeds (to_client c m) formed honest right kept was =
      let w' = checks k (Client c) m w in
      if_vouched (nat_lt c k.cluster.clients) (at_client k proto c w' (moves k c (w.clis c) m)) w (λ _. client_vouches c w' (moves k c (w.clis c) m) (more_had w.made w.log w.had (histories_for k (Client c) m) w.reps was)) (λ _. was)
  step_vouches w deeds (replica_time r) formed honest right kept was =
      let ts = turns k proto r (w.reps r) timed in
      if_vouched (nat_lt r (replicas k)) (at_replica k proto r w ts) w
      (λ lt. replica_vouches r w deeds ts (ltb-true r (replicas k) lt) kept was (λ good. timer_may k proto serves law deeds r w)) (λ _. was)
  step_vouches w deeds (client_time c) formed honest right kept was =
      if_vouched (nat_lt c k.cluster.clients) (at_client k proto c w (panics k (w.clis c))) w (λ _. client_vouches c w (panics k (w.clis c)) was) (λ _. was)

  pub run_vouched : (events : List Event) → AreFormed k events → IsHonestRun k proto events → AreRight k proto serves law events → IsVouched (run k proto events)
  run_vouched [] formed honest right = record {
    made_of = λ q i n d good none. absurd (Contains-none (Checkpoint (Replica q) i n d) none);
    kept_of = λ r good v none. absurd (Contains-none v none);
    trimmed_of = λ r good. inl (law.form.begins_trimmed k.cluster 1 r (entry_of [] None));
    had_of = λ i q good. inl refl;
    stated_of = λ q i n d rest good none. absurd (Contains-none (TrimmedAbort (Replica q) i n d rest) none);
  }
  run_vouched (e ∷ events) formed honest right =
      step_vouches (run k proto events) (deeds_of k proto events) e formed.0 honest.0 right.0 (run_kept k proto serves law events formed.1 honest.1 right.1) (run_vouched events formed.1 honest.1 right.1)
