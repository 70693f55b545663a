-- What replicas keep and send has bytes.
use Rattle.std.proofs.Common.{◌≡◌, ◌⊎◌, ℕ, zero, suc, ◌+◌, ◌<◌, ◌≤◌, true, false, Bool, Some, None, Option, List, [], ◌∷◌, ◌++◌, length, take, length-append, refl, sym, ap, ◌∙◌, subst, inl, inr, arith}
use Rattle.std.specs.Prelude.{Contains, nat_le, nat_lt, min, ◌==◌, ◌&&◌, ◌||◌, if◌then◌else◌, replicate}
use Rattle.std.proofs.lemmas.Bool.{cases_Bool, and_parts, ltb-true, eqb-true}
use Rattle.std.proofs.lemmas.List.Elements.{All-nil, All-drop, Contains-append_cases}
use Rattle.std.proofs.lemmas.List.{length-drop}
use Rattle.ab_num.specs.declared.cluster.Cluster.{Cluster}
use Rattle.ab_num.specs.declared.party.Party.TheVariants.{Replica, Client}
use Rattle.ab_num.specs.declared.plan.Kind.{Kind}
use Rattle.ab_num.specs.declared.plan.Kind.TheVariants as kind
use Rattle.ab_num.specs.Places.{kind_of}
use Rattle.ab_num.proofs.Lists.{Contains-one, Contains-none}
use Rattle.ab_form.specs.Lists.{FitsInside}
use Rattle.ab_hist.specs.declared.request.Request.{Request}
use Rattle.ab_msg.specs.declared.content.Content.{Content}
use Rattle.ab_msg.specs.declared.signed.Signed.{Signed}
use Rattle.ab_msg.specs.declared.message.Msg.{Msg}
use Rattle.ab_msg.specs.declared.message.Msg.TheVariants as msg
use Rattle.ab_msg.specs.declared.message.Offer.TheVariants as offer
use Rattle.ab_msg.specs.declared.message.Out.{Out}
use Rattle.ab_msg.specs.Claims.{maker_of, instance_in}
use Rattle.ab_msg.specs.Fields.{IsInstance, IsReplica, IsRequest, IsWritten, IsWrittenLog}
use Rattle.ab_msg.specs.Contents.{IsStopContent, IsCheckpoint, IsZcert}
use Rattle.ab_msg.specs.Certs.{AreAborts, IsSigned}
use Rattle.ab_msg.specs.Messages.{IsMessage}
use Rattle.ab_abs.specs.Kinds.{is_backup, rule_of, kind_in}
use Rattle.ab_abs.specs.Messages.{Call, took, timed, IsFormed}
use Rattle.ab_abs.specs.Ensembles.{Proto, entry_of, trimmed_entry}
use Rattle.ab_abs.specs.FormLaws.{KeepsForm, Belongs, begun, called, halted, trimmed, Arises, IsWrittenEntry, from_entry, by_call, by_stop, by_trim}
use Rattle.ab_abs.proofs.Drafts.{few_replicas, written_whole, whole_written}
use Rattle.ab_hist.proofs.DigestLemmas.{length-digest_of}
use mathlib.Core.List.{IsPrefix}
use Rattle.ab_ckpt.specs.Marks.{Mark, due_of, stable_of}
use Rattle.ab_ckpt.proofs.StableLemmas.{stable_are, due_is}
use Rattle.ab_run.specs.Setups.{RunSetup, within, replicas, last_instance}
use Rattle.ab_run.specs.Checkpoints.{every_in, mark_in, to_others, abort_after}
use Rattle.ab_run.specs.Replicas.{Rep, RepAction, turn_enter, turn_call, turn_halt, turn_sign, turn_bring, turn_abort, turn_mark, turn_keep, turn_trim, after_turn, after_turns, sent_in_turn, state_at, abort_content, checkpoint_at, pen_of, client_of, cert_instance, cert_to, abort_to, brought, aborting, aborting_with, halting, late, trims_with, trimming, keeping_with, here, taken, taken_in, own_list, offer_to, may_begin, due, due_by, due_with, is_spent, marking, closing, closed, turns}
use Rattle.ab_abs.specs.Acts.{State, abort_content as stated_abort}
use Rattle.ab_stable.specs.Offers.{Based, makes_checkpoints}
use Rattle.ab_run.specs.Runs.{first_rep}
use Rattle.ab_run.specs.Local.{sent_in_turns, rep_after, rep_sends}
use Rattle.ab_run.specs.Forms.{IsDraftOf, IsWrittenRep, IsWrittenSetup}
use Rattle.ab_run.proofs.Offered.{IsOwn, own_written, offered_written, history_drop}

-- what a replica states as it aborts, whatever the kind
stop_made : (kd : Kind) (f i r : ℕ) (s : State) → maker_of (stated_abort (rule_of kd f) i r s) ≡ Replica r
stop_made kind.Quorum f i r s = refl
stop_made kind.ZLight f i r s = refl
stop_made kind.Chain f i r s = refl
stop_made kind.Backup f i r s = refl
stop_made kind.ZCert f i r s = refl

stop_written : (kd : Kind) (f i r : ℕ) (s : State) → IsReplica (Replica r) → IsInstance i → IsWritten s.log → FitsInside IsZcert s.zcert → IsStopContent (stated_abort (rule_of kd f) i r s)
stop_written kind.Quorum f i r s replica instance log zcert = (replica, (instance, log))
stop_written kind.ZLight f i r s replica instance log zcert = (replica, (instance, log))
stop_written kind.Chain f i r s replica instance log zcert = (replica, (instance, log))
stop_written kind.Backup f i r s replica instance log zcert = (replica, (instance, log))
stop_written kind.ZCert f i r s replica instance log zcert = (replica, (instance, (log, zcert)))

-- the same of a trimmed log
trimmed_made : (n : ℕ) (kd : Kind) (f i r : ℕ) (s : State) → maker_of (abort_after n (rule_of kd f) i r s) ≡ Replica r
trimmed_made zero kd f i r s = stop_made kd f i r s
trimmed_made (suc n) kd f i r s = refl

after_written : (n : ℕ) (kd : Kind) (f i r : ℕ) (s : State) → IsReplica (Replica r) → IsInstance i → IsWrittenLog n s.log → FitsInside IsZcert s.zcert → IsStopContent (abort_after n (rule_of kd f) i r s)
after_written zero kd f i r s replica instance log zcert = stop_written kd f i r s replica instance (written_whole s.log log) zcert
after_written (suc n) kd f i r s replica instance log zcert = (
  replica,
  (
    instance,
    (
      omega arith,
      record {
        rest = ((omega arith, omega (arith, length-drop (suc n) s.log, log.behind)), (All-drop (IsRequest 0 15) (suc n) s.log log.requests, history_drop (suc n) s.log log.history));
        few = omega (arith, length-drop (suc n) s.log, log.reaches, log.few);
        digest = length-digest_of (take (suc n) s.log);
        nothing = λ e. absurd (omega (arith, e));
      },
    ),
  ),
)

-- ---- certificates

brought_aborts : (m : Msg) (cert : List Signed) → IsMessage m → brought m ≡ Some cert → AreAborts 0 7 cert
brought_aborts (msg.Init aborts) cert of_grammar is =
    let same : aborts ≡ cert = cc (is) in
    subst (AreAborts 0 7) same ((omega arith, of_grammar.0.1), of_grammar.1)
brought_aborts (msg.PrePrepare content tag (offer.Base aborts)) cert of_grammar is = let same : aborts ≡ cert = cc (is) in subst (AreAborts 0 7) same of_grammar.1.1
brought_aborts (msg.PrePrepare content tag (offer.Request m t)) cert of_grammar is = absurd (cc (is))
brought_aborts _ cert of_grammar is = absurd (cc (is))

-- ---- the turns of replicas

-- a turn whose parts have bytes
module _ {P : Type 0} (k : RunSetup) (proto : Proto P) (r : ℕ) where
  abbrev pub IsGood : Rep P → RepAction → Type 0
  IsGood s (turn_enter j cert n h) = (j < last_instance) × AreAborts 1 7 cert × IsWrittenLog n h × (may_begin k proto (j + 1) n ≡ true)
  IsGood s (turn_call call) = IsFormed call
  IsGood s turn_halt = Unit {0}
  IsGood s turn_sign = Unit {0}
  IsGood s (turn_bring c) = Unit {0}
  IsGood s (turn_abort c) = Unit {0}
  IsGood s (turn_mark n) = (0 < n) × (n ≤ length (state_at k proto s).log)
  IsGood s (turn_keep v) = Unit {0}
  IsGood s (turn_trim n) = (proto.trimmed s.value ≤ n) × (n ≤ length (state_at k proto s).log)

  -- one after another
  abbrev pub AllGood : Rep P → List RepAction → Type 0
  AllGood s [] = Unit {0}
  AllGood s (t ∷ ts) = IsGood s t × AllGood (after_turn k proto r s t) ts

  pub good_if : (s : Rep P) (b : Bool) (ts us : List RepAction) → AllGood s ts → AllGood s us → AllGood s (if b then ts else us)
  good_if s true ts us one other = one
  good_if s false ts us one other = other

  good_both : (ts us : List RepAction) (s : Rep P) → AllGood s ts → AllGood (after_turns k proto r s ts) us → AllGood s (ts ++ us)
  good_both [] us s one two = two
  good_both (t ∷ ts) us s one two = (one.0, good_both ts us (after_turn k proto r s t) one.1 two)

  aborting_good : (s : Rep P) (c : ℕ) (o : Option Signed) → AllGood s (aborting_with c o)
  aborting_good s c None = (tt, (tt, tt))
  aborting_good s c (Some abort) = (tt, tt)

  halting_good : (c : ℕ) (s : Rep P) → AllGood s (halting k proto c s)
  halting_good c s =
      let due = aborting k proto c s in
      let after = (proto.state (proto.halt s.value)).stopped in
      good_if s (state_at k proto s).stopped due (turn_halt ∷ (if after then due else [])) (aborting_good s c s.abort) (tt, good_if (after_turn k proto r s turn_halt) after due [] (aborting_good (after_turn k proto r s turn_halt) c s.abort) tt)

  -- what is stable is trimmed
  trims_good : (s : Rep P) (o : Option ℕ) → stable_of (replicas k) (proto.trimmed s.value) (state_at k proto s).log s.kept.marks ≡ o → AllGood s (trims_with k proto o)
  trims_good s None stable = tt
  trims_good s (Some n) stable = let are = stable_are (replicas k) (proto.trimmed s.value) n (state_at k proto s).log s.kept.marks stable in ((omega (arith, are.more), are.within), tt)

  trimming_good : (s : Rep P) → AllGood s (trimming k proto s)
  trimming_good s = trims_good s (stable_of (replicas k) (proto.trimmed s.value) (state_at k proto s).log s.kept.marks) refl

  keeping_good : (s : Rep P) (o : Option Mark) → AllGood s (keeping_with k proto r s o)
  keeping_good s None = tt
  keeping_good s (Some v) = (tt, trimming_good (after_turn k proto r s (turn_keep v)))

  marking_good : (s : Rep P) (o : Option ℕ) → due_of (every_in k s.at) (state_at k proto s).stopped s.kept.sent (proto.trimmed s.value) (length (state_at k proto s).log) ≡ o → AllGood s (marking k proto r s o)
  marking_good s None due = tt
  marking_good s (Some n) due =
      let is = due_is (every_in k s.at) s.kept.sent (proto.trimmed s.value) (length (state_at k proto s).log) n (state_at k proto s).stopped due in
      ((omega (arith, is.1), is.3), trimming_good (after_turn k proto r s (turn_mark n)))

  closing_good : (s : Rep P) → AllGood s (closing k proto r s)
  closing_good s = marking_good s (due_of (every_in k s.at) (state_at k proto s).stopped s.kept.sent (proto.trimmed s.value) (length (state_at k proto s).log)) refl

  here_good : (s : Rep P) (m : Msg) → IsMessage m → AllGood s (here k proto r s m)
  here_good s (msg.Req content tags) is =
      let c = client_of (maker_of content) in
      good_if s (state_at k proto s).stopped (aborting k proto c s) (turn_call (took (msg.Req content tags)) ∷ []) (aborting_good s c s.abort) (is, tt)
  here_good s (msg.Panic content tag) is = halting_good (client_of (maker_of content)) s
  here_good s (msg.Checkpoint content tag) is = good_if s (state_at k proto s).stopped [] (keeping_with k proto r s (mark_in content)) tt (keeping_good s (mark_in content))
  here_good s (msg.LocalCommit content tag) is = tt
  here_good s (msg.Spec spec) is = tt
  here_good s _ is = (is, tt)

  late_good : (s : Rep P) (m : Msg) → AllGood s (late m)
  late_good s (msg.Req content tags) = (tt, tt)
  late_good s (msg.Panic content tag) = (tt, tt)
  late_good s _ = tt

  taken_good : (s : Rep P) (m : Msg) (i : Option ℕ) → IsMessage m → AllGood s (taken_in k proto r s m i)
  taken_good s m None is = tt
  taken_good s m (Some i) is = good_if s (i == s.at) (here k proto r s m) (if nat_lt i s.at then late m else []) (here_good s m is) (good_if s (nat_lt i s.at) (late m) [] (late_good s m) tt)

  entering_good : (s : Rep P) (m : Msg) (j : ℕ) (cert : List Signed) (o : Option Based) → IsMessage m → ((b : Based) → o ≡ Some b → AreAborts 1 7 cert × IsWrittenLog b.trimmed b.base) → AllGood s (due_with k proto r s m j cert o)
  entering_good s m j cert None is offers = taken_good s m (instance_in m) is
  entering_good s m j cert (Some b) is offers =
      let enter = turn_enter j cert b.trimmed b.base in
      let there = after_turn k proto r s enter in
      let may = nat_lt j last_instance && may_begin k proto (j + 1) b.trimmed in
      elim (cases_Bool (nat_le s.at j && may)) [
        | inl goes ↦
            let found = offers b refl in
            let both = and_parts (nat_lt j last_instance) (may_begin k proto (j + 1) b.trimmed) (and_parts (nat_le s.at j) may goes).1 in
            subst (AllGood s) (sym (ap (λ (c : Bool). if c then enter ∷ taken k proto r there m else taken k proto r s m) goes))
            ((ltb-true j last_instance both.0, found.0, found.1, both.1), taken_good there m (instance_in m) is)
        | inr rests ↦ subst (AllGood s) (sym (ap (λ (c : Bool). if c then enter ∷ taken k proto r there m else taken k proto r s m) rests)) (taken_good s m (instance_in m) is)
      ]

  -- what it knows of histories by itself has bytes
  abbrev Knows : Rep P → Type 0
  Knows s = IsOwn (proto.trimmed s.value) (own_list k proto s)

  by_good : (s : Rep P) (m : Msg) (o : Option (List Signed)) → IsMessage m → Knows s → brought m ≡ o → AllGood s (due_by k proto r s m o)
  by_good s m None is knows brings = taken_good s m (instance_in m) is
  by_good s m (Some cert) is knows brings =
      let j = cert_instance cert in
      entering_good s m j cert (offer_to k proto s j cert) is
      (λ b e. offered_written k.cluster (proto.trimmed s.value) (own_list k proto s) j cert b knows (brought_aborts m cert is brings) e)

  due_good : (s : Rep P) (call : Call) → IsFormed call → Knows s → AllGood s (due k proto r s call)
  due_good s (took m) is knows = by_good s m (brought m) is knows refl
  due_good s timed is knows = (tt, tt)

  turns_of : (s : Rep P) (call : Call) → IsFormed call → Knows s → AllGood s (turns k proto r s call)
  turns_of s call is knows =
      let ts = due k proto r s call in
      good_if s (is_spent k proto r s call) [] (closed k proto r s ts) tt (good_both ts (closing k proto r (after_turns k proto r s ts)) s (due_good s call is knows) (closing_good (after_turns k proto r s ts)))

-- ---- what is kept and sent

-- a history of which entries are trimmed begins where the history is the log
begins_so : (n : ℕ) (kd : Kind) → ((n == 0) || makes_checkpoints kd) ≡ true → (n ≡ 0) ⊎ (is_backup kd ≡ false)
begins_so n kind.Quorum may = inr refl
begins_so n kind.ZLight may = inr refl
begins_so n kind.Chain may = inr refl
begins_so n kind.ZCert may = inr refl
begins_so n kind.Backup may =
    elim (cases_Bool (n == 0)) [
      | inl none ↦ inl (eqb-true n 0 none)
      | inr some ↦ let both : false ≡ true = sym (ap (λ (b : Bool). b || false) some) ∙ may in absurd (cc (both))
    ]

no_requests : IsWritten []
no_requests = ((omega arith, omega arith), (All-nil (IsRequest 0 15), λ i j d e less. absurd (omega (arith, less))))

module _ {P : Type 0} (proto : Proto P) (serves : Kind → Bool) (c : Cluster) (i r : ℕ) where
  belongs : (p : P) → Arises proto serves c i r p → Belongs proto serves c i r p
  belongs p (from_entry e served one lt entry) = begun e served entry.base.reaches
  belongs p (by_call pen q call lawful formed was) = called pen q call (belongs q was)
  belongs p (by_stop q was) = halted q (belongs q was)
  belongs p (by_trim n q more within was) = trimmed n q more within (belongs q was)

  pub placed : (p : P) → Arises proto serves c i r p → IsInstance i
  placed p (from_entry e served one lt entry) = one
  placed p (by_call pen q call lawful formed was) = placed q was
  placed p (by_stop q was) = placed q was
  placed p (by_trim n q more within was) = placed q was

module _ {P : Type 0} (k : RunSetup) (proto : Proto P) {serves : Kind → Bool} (form : KeepsForm proto serves) (are : IsWrittenSetup k serves) where
  abbrev pub Stands : ℕ → Rep P → Type 0
  Stands r s = IsWrittenRep proto serves k.cluster r s

  pub first_written : (r : ℕ) → r < replicas k → Stands r (first_rep k proto r)
  first_written r lt =
      let entry : IsWrittenEntry (entry_of [] None) = record { base = whole_written [] no_requests; cert = λ cert is. absurd (cc (is)) } in
      record {
        arises = from_entry (entry_of [] None) (are.serves_all 1 (omega arith)) (omega arith, omega arith) lt entry;
        within = omega (arith, form.begins_trimmed k.cluster 1 r (entry_of [] None));
        entry = entry;
        abort = λ v is. absurd (cc (is));
      }

  log_written : (r : ℕ) (s : Rep P) → Stands r s → IsWrittenLog (proto.trimmed s.value) (state_at k proto s).log
  log_written r s was =
      let log = (state_at k proto s).log in
      let low : min (proto.trimmed s.value) (length log) ≡ proto.trimmed s.value = omega (arith, was.within) in
      subst (λ (n : ℕ). IsWrittenLog n log) low (form.written k.cluster s.at r s.value was.arises)

  pub turns_good : (r : ℕ) (s : Rep P) (call : Call) → IsFormed call → Stands r s → AllGood k proto r s (turns k proto r s call)
  turns_good r s call formed was =
      turns_of k proto r s call formed (own_written (proto.trimmed s.value) s.entry.trimmed (state_at k proto s).log s.entry.base (log_written r s was) was.entry.base)

  pub abort_written : (r : ℕ) (s : Rep P) → r < replicas k → Stands r s → IsStopContent (abort_content k proto r s)
  abort_written r s lt was =
      after_written (proto.trimmed s.value) (kind_in (within k s.at)) k.cluster.f s.at r (state_at k proto s) (omega arith, few_replicas k.cluster r lt) (placed proto serves k.cluster s.at r s.value was.arises)
      (log_written r s was) (form.zcert_written k.cluster s.at r s.value was.arises)

  -- what is trimmed stays within a log that goes on
  longer_within : (n : ℕ) (log longer : List Request) → n ≤ length log → IsPrefix log longer → n ≤ length longer
  longer_within n log longer low begins = omega (arith, low, sym (ap length begins.1) ∙ length-append log begins.0)

  -- and within the log with which it enters
  entered_within : (r j n : ℕ) (cert : List Signed) (h : List Request) → n ≤ length h → may_begin k proto (j + 1) n ≡ true
      → proto.trimmed (proto.begin k.cluster (j + 1) r (trimmed_entry h n cert)) ≤ length (proto.state (proto.begin k.cluster (j + 1) r (trimmed_entry h n cert))).log
  entered_within r j n cert h reaches may =
      let e = trimmed_entry h n cert in
      let trims = form.begins_trimmed k.cluster (j + 1) r e in
      elim (begins_so n (kind_of k.cluster.plan (j + 1)) may) [
        | inl none ↦ omega (arith, trims, none)
        | inr own ↦ omega (arith, trims, reaches, ap length (form.logs k.cluster (j + 1) r e (are.serves_all (j + 1) (omega arith)) own))
      ]

  pub turn_keeps : (r : ℕ) (t : RepAction) (s : Rep P) → r < replicas k → IsGood k proto r s t → Stands r s → Stands r (after_turn k proto r s t)
  turn_keeps r (turn_enter j cert n h) s lt good was =
      let e = trimmed_entry h n cert in
      let entry : IsWrittenEntry e = record { base = good.2; cert = λ other is. let same : cert ≡ other = cc (is) in subst (AreAborts 1 7) same good.1 } in
      record {
        arises = from_entry e (are.serves_all (j + 1) (omega arith)) (omega arith, omega (arith, good.0)) lt entry;
        within = entered_within r j n cert h good.2.reaches good.3;
        entry = entry;
        abort = λ v is. absurd (cc (is));
      }
  turn_keeps r (turn_call call) s lt good was = record { arises = by_call (pen_of k proto r s) s.value call (λ q n. are.signs r q n lt) good was.arises; within = longer_within (proto.trimmed (proto.after (pen_of k proto r s) s.value call)) (proto.state s.value).log (proto.state (proto.after (pen_of k proto r s) s.value call)).log (omega (arith, form.trimmed_stays (pen_of k proto r s) s.value call, was.within)) (form.grows (pen_of k proto r s) s.value call); entry = was.entry; abort = was.abort }
  turn_keeps r turn_halt s lt good was = record { arises = by_stop s.value was.arises; within = omega (arith, form.trimmed_rests s.value, was.within, ap length (form.halts s.value).0); entry = was.entry; abort = was.abort }
  turn_keeps r turn_sign s lt good was = record {
    arises = was.arises;
    within = was.within;
    entry = was.entry;
    abort = λ v is.
        let signed : Signed = record { maker = r; content = abort_content k proto r s; sig = k.sig r (abort_content k proto r s) s.used } in
        let same : signed ≡ v = cc (is) in
        let own = trimmed_made (proto.trimmed s.value) (kind_in (within k s.at)) k.cluster.f s.at r (state_at k proto s) in
        subst (λ (w : Signed). IsSigned IsStopContent w × (maker_of w.content ≡ Replica r)) same
        ((own, (abort_written r s lt was, are.signs r (abort_content k proto r s) s.used lt)), own);
  }
  turn_keeps r (turn_bring c) s lt good was = was
  turn_keeps r (turn_abort c) s lt good was = was
  turn_keeps r (turn_mark n) s lt good was = record { arises = was.arises; within = was.within; entry = was.entry; abort = was.abort }
  turn_keeps r (turn_keep v) s lt good was = record { arises = was.arises; within = was.within; entry = was.entry; abort = was.abort }
  turn_keeps r (turn_trim n) s lt good was = record {
    arises = by_trim n s.value good.0 good.1 was.arises;
    within = omega (arith, form.trims n s.value, ap (λ (t : State). length t.log) (form.trim_rests n s.value), good.1);
    entry = was.entry;
    abort = was.abort;
  }

  cert_drafts : (r c : ℕ) (o : Option (List Signed)) → ((cert : List Signed) → o ≡ Some cert → AreAborts 1 7 cert) → (out : Out) → Contains (cert_to c o) out → IsDraftOf k.cluster.f (Replica r) out
  cert_drafts r c None all out has = absurd (Contains-none out has)
  cert_drafts r c (Some cert) all out has =
      let sent : Out = record { to = Client c; msg = msg.Init cert } in
      subst (IsDraftOf k.cluster.f (Replica r)) (Contains-one sent out has) (record { draft = all cert refl; own = λ q gone. absurd (Contains-none q gone) })

  abort_drafts : (r c : ℕ) (o : Option Signed) → ((v : Signed) → o ≡ Some v → IsSigned IsStopContent v × (maker_of v.content ≡ Replica r)) → (out : Out) → Contains (abort_to c o) out → IsDraftOf k.cluster.f (Replica r) out
  abort_drafts r c None all out has = absurd (Contains-none out has)
  abort_drafts r c (Some v) all out has =
      let sent : Out = record { to = Client c; msg = msg.Abort v } in
      let is = all v refl in
      subst (IsDraftOf k.cluster.f (Replica r)) (Contains-one sent out has) (record { draft = is.0; own = λ q at. subst (λ (z : Content). maker_of z ≡ Replica r) (Contains-one v.content q at) is.1 })

  -- a CHECKPOINT to each other replica
  mark_drafts : (r n : ℕ) (content : Content) (tag : List ℕ) → IsCheckpoint content → maker_of content ≡ Replica r → (o : Out) → Contains (to_others n r (msg.Checkpoint content tag)) o → IsDraftOf k.cluster.f (Replica r) o
  mark_drafts r zero content tag formed own o has = absurd (Contains-none o has)
  mark_drafts r (suc n) content tag formed own o has =
      elim (Contains-append_cases (to_others n r (msg.Checkpoint content tag)) (if n == r then [] else record { to = Replica n; msg = msg.Checkpoint content tag } ∷ []) o has) [
        | inl below ↦ mark_drafts r n content tag formed own o below
        | inr here' ↦ by_test (n == r) here'
      ]
    where
      by_test : (b : Bool) → Contains (if b then [] else record { to = Replica n; msg = msg.Checkpoint content tag } ∷ []) o → IsDraftOf k.cluster.f (Replica r) o
      by_test true gone = absurd (Contains-none o gone)
      by_test false one =
          let sent : Out = record { to = Replica n; msg = msg.Checkpoint content tag } in
          subst (IsDraftOf k.cluster.f (Replica r)) (Contains-one sent o one) (record { draft = formed; own = λ q at. subst (λ (z : Content). maker_of z ≡ Replica r) (Contains-one content q at) own })

  pub turn_drafts : (r : ℕ) (t : RepAction) (s : Rep P) → r < replicas k → IsGood k proto r s t → Stands r s → (o : Out) → Contains (sent_in_turn k proto r s t) o → IsDraftOf k.cluster.f (Replica r) o
  turn_drafts r (turn_enter j cert n h) s lt good was o has = absurd (Contains-none o has)
  turn_drafts r (turn_call call) s lt good was o has = record {
    draft = form.drafts k.cluster s.at r (pen_of k proto r s) s.value call (λ q n. are.signs r q n lt) was.arises good o has;
    own = λ q at. (form.own k.cluster s.at r (pen_of k proto r s) s.value call o q (belongs proto serves k.cluster s.at r s.value was.arises) has at).0;
  }
  turn_drafts r turn_halt s lt good was o has = absurd (Contains-none o has)
  turn_drafts r turn_sign s lt good was o has = absurd (Contains-none o has)
  turn_drafts r (turn_bring c) s lt good was o has = cert_drafts r c s.entry.cert was.entry.cert o has
  turn_drafts r (turn_abort c) s lt good was o has = abort_drafts r c s.abort was.abort o has
  turn_drafts r (turn_mark n) s lt good was o has =
      let log = (state_at k proto s).log in
      mark_drafts r (replicas k) (checkpoint_at k proto r s n) (replicate 32 0)
      ((omega arith, few_replicas k.cluster r lt), (placed proto serves k.cluster s.at r s.value was.arises, ((omega (arith, good.0), omega (arith, good.1, (log_written r s was).few)), length-digest_of (take n log)))) refl o has
  turn_drafts r (turn_keep v) s lt good was o has = absurd (Contains-none o has)
  turn_drafts r (turn_trim n) s lt good was o has = absurd (Contains-none o has)

  -- where turns leave a replica that stands so, and what it sends in them
  pub record Goes (r : ℕ) (now : Rep P) (sent : List Out) : Type 0 where
    pub stands : Stands r now
    pub drafts : (o : Out) → Contains sent o → IsDraftOf k.cluster.f (Replica r) o

  turns_go : (r : ℕ) (ts : List RepAction) (s : Rep P) → r < replicas k → AllGood k proto r s ts → Stands r s → Goes r (after_turns k proto r s ts) (sent_in_turns k proto r s ts)
  turns_go r [] s lt good was = record { stands = was; drafts = λ o gone. absurd (Contains-none o gone) }
  turns_go r (t ∷ ts) s lt good was =
      let rest = turns_go r ts (after_turn k proto r s t) lt good.1 (turn_keeps r t s lt good.0 was) in
      record {
        stands = rest.stands;
        drafts = λ o has. elim (Contains-append_cases (sent_in_turn k proto r s t) (sent_in_turns k proto r (after_turn k proto r s t) ts) o has) [
          | inl now ↦ turn_drafts r t s lt good.0 was o now
          | inr later ↦ rest.drafts o later
        ];
      }

  pub call_goes : (r : ℕ) (s : Rep P) (call : Call) → r < replicas k → IsFormed call → Stands r s → Goes r (rep_after k proto r s call) (rep_sends k proto r s call)
  call_goes r s call lt formed was =
      turns_go r (turns k proto r s call) s lt (turns_good r s call formed was) was
