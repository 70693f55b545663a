-- What a turn shows of an event.
use Rattle.std.proofs.Common.{◌≡◌, ℕ, suc, pred, Bool, true, false, Some, Option, List, [], ◌∷◌, ◌++◌, length, map, refl, sym, ap, ◌∙◌, append_assoc}
use Rattle.std.specs.Prelude.{slice_get, if◌then◌else◌}
use Rattle.std.proofs.lemmas.List.{append-nil}
use Rattle.ab_hist.specs.declared.request.Request.{Request}
use Rattle.ab_msg.specs.declared.value.Value.{Value}
use Rattle.ab_msg.specs.Slots.{slot_digest}
use Rattle.ab_lock.specs.Steps.{State, Cert, Change, prepares, cert_at, set_cert, set_value, with_cert, entry_of}
use Rattle.ab_lock.specs.Votes.{SlotVote, keep, keep_commit}
use Rattle.ab_lock.specs.ViewChanges.{Kept, put, own_change, certs_from, enter, leave}
use Rattle.ab_lock.specs.Choosing.{chosen_of}
use Rattle.ab_lock.specs.Events.{peer_by, with_vote, with_commit, accept, accepted_peer, entered_peer, left_peer}
use Rattle.ab_order.specs.Inputs.{ChangeReading}
use Rattle.ab_order.specs.Backups.{keep as keep_last}
use Rattle.ab_pbft_rules.specs.Traces.{OrderStep, pair_of}
use Rattle.ab_abs.specs.Values.{goes}
use Rattle.ab_pbft_rules.specs.Rules.{Placement, Memory, Doing, takes_step, offers, offer, Work, take_value, does, keep_request, keep_change, change_of, without, keep_own}
use Rattle.ab_slots.specs.declared.notice.Notice.TheVariants.{Prepares, Changes, Enters, Offers}
use Rattle.ab_pbft_work.specs.declared.progress.Progress.{Progress}
use Rattle.ab_slots.specs.Deeds.{prepared_in, deeds_of, told_in}
use Rattle.ab_pbft_work.specs.Turns.{memory_of, Does, takes, votes_for, commits_for, without_votes_below, enters_from, leaves}

pub told_append : (ds es : List Doing) → told_in (ds ++ es) ≡ told_in ds ++ told_in es
told_append [] es = refl
told_append (d ∷ ds) es = ap (λ l. deeds_of d ++ l) (told_append ds es) ∙ sym (append_assoc (deeds_of d) (told_in ds) (told_in es))

module _ (old new : Progress) (rule : Work → Work) (f : Memory → Memory) (g : Memory → List Doing) where
  -- a rule that leaves the memory by f, and does g
  pub does_by : ((w : Work) → (rule w).at ≡ f w.at) → ((w : Work) → (rule w).doings ≡ w.doings ++ g w.at)
      → memory_of new.memory ≡ f (memory_of old.memory) → new.deeds.items ≡ old.deeds.items ++ told_in (g (memory_of old.memory)) → Does old new rule
  does_by leaves does memory deeds w shows = record {
    at = memory ∙ (ap f shows.at ∙ sym (leaves w));
    told =
        deeds
        ∙ (ap (λ l. l ++ told_in (g (memory_of old.memory))) shows.told
        ∙ (sym (told_append w.doings (g (memory_of old.memory)))
        ∙ (ap (λ m. told_in (w.doings ++ g m)) shows.at
        ∙ ap told_in (sym (does w)))));
  }

module _ (old new : Progress) where
  abbrev base : Memory
  base = memory_of old.memory

  -- a rule of which nobody hears
  pub silent : (rule : Work → Work) (f : Memory → Memory) → ((w : Work) → (rule w).at ≡ f w.at) → ((w : Work) → told_in (rule w).doings ≡ told_in w.doings)
      → memory_of new.memory ≡ f base → new.deeds.items ≡ old.deeds.items → Does old new rule
  silent rule f leaves quiet memory deeds w shows = record { at = memory ∙ (ap f shows.at ∙ sym (leaves w)); told = deeds ∙ (shows.told ∙ sym (quiet w)) }

  none_more : (w : Work) → told_in (w.doings ++ []) ≡ told_in w.doings
  none_more w = ap told_in (append-nil w.doings)

  step_more : (w : Work) (d : Doing) → told_in (d ∷ []) ≡ [] → told_in (w.doings ++ d ∷ []) ≡ told_in w.doings
  step_more w d quiet = told_append w.doings (d ∷ []) ∙ (ap (λ l. told_in w.doings ++ l) quiet ∙ append-nil (told_in w.doings))

  pub accepts_does : (value : Value) → memory_of new.memory ≡ record base { peer = record base.peer { core = record base.peer.core { accepted = base.peer.core.accepted ++ value ∷ [] } } }
      → new.deeds.items ≡ old.deeds.items → Does old new (take_value value)
  accepts_does value = silent (take_value value) (λ m. record m { peer = accepted_peer value m.peer }) (λ w. refl) (λ w. step_more w (takes_step (accept w.at.peer.core value)) refl)

  pub votes_does : (u : SlotVote (List ℕ)) → memory_of new.memory ≡ record base { peer = record base.peer { votes = keep u base.peer.votes } } → new.deeds.items ≡ old.deeds.items → Does old new (votes_for u)
  votes_does u = silent (votes_for u) (λ m. record m { peer = with_vote u m.peer }) (λ w. refl) none_more

  pub commits_does : (u : SlotVote (List ℕ)) → memory_of new.memory ≡ record base { peer = record base.peer { commits = keep u base.peer.commits } } → new.deeds.items ≡ old.deeds.items → Does old new (commits_for u)
  commits_does u = silent (commits_for u) (λ m. record m { peer = with_commit u m.peer }) (λ w. refl) none_more

  pub requests_does : (m : Request) → memory_of new.memory ≡ record base { requests = keep_last m base.requests } → new.deeds.items ≡ old.deeds.items → Does old new (keep_request m)
  requests_does m = silent (keep_request m) (λ n. record n { requests = keep_last m n.requests }) (λ w. refl) (λ w. refl)

  pub changes_does : (change : ChangeReading) → memory_of new.memory ≡ record base { changes = put (record { view = change.view; change = change_of change }) base.changes } → new.deeds.items ≡ old.deeds.items → Does old new (keep_change change)
  changes_does change = silent (keep_change change) (λ n. record n { changes = put (record { view = change.view; change = change_of change }) n.changes }) (λ w. refl) (λ w. refl)

  pub own_does : (seat : Placement) (v : ℕ) (s : State Value) → memory_of new.memory ≡ record base { changes = put (record { view = v; change = own_change seat.k seat.me s }) (without seat.me base.changes) } → new.deeds.items ≡ old.deeds.items
      → Does old new (keep_own seat v s)
  own_does seat v s = silent (keep_own seat v s) (λ n. record n { changes = put (record { view = v; change = own_change seat.k seat.me s }) (without seat.me n.changes) }) (λ w. refl) (λ w. refl)

  pub says_does : (d : Doing) → memory_of new.memory ≡ base → new.deeds.items ≡ old.deeds.items ++ deeds_of d → Does old new (does d)
  says_does d same told =
      does_by old new (does d) (λ m. m) (λ m. d ∷ []) (λ w. refl) (λ w. refl) same (told ∙ ap (λ l. old.deeds.items ++ l) (sym (append-nil (deeds_of d))))

  -- a step
  pub step_does : (me : ℕ) (step : OrderStep) → memory_of new.memory ≡ record base { peer = peer_by slot_digest me (step ∷ []) base.peer } → new.deeds.items ≡ old.deeds.items ++ told_in (takes_step step ∷ []) → Does old new (takes me step)
  step_does me step memory told =
      does_by old new (takes me step) (λ m. record m { peer = peer_by slot_digest me (step ∷ []) m.peer }) (λ m. takes_step step ∷ []) (λ w. refl) (λ w. refl) memory told

-- what a slot that becomes prepared leaves of certificates and COMMITs, and tells
module _ (h : List Value) (n : ℕ) (value : Value) (long : length h ≡ suc n) (there : slice_get h n ≡ Some value) where
  last : pred (length h) ≡ n
  last = ap pred long

  pub prepared_certs : (v : ℕ) (certs : List (Option (Cert Value))) → with_cert v h certs ≡ set_cert n (record { at = v; value = value }) certs
  prepared_certs v certs = ap (λ k. set_value v k (slice_get h k) certs) last ∙ ap (λ o. set_value v n o certs) there

  pub prepared_commits : (me : ℕ) (commits : List (SlotVote (List ℕ))) → keep_commit slot_digest me (pred (length h)) (slice_get h (pred (length h))) commits ≡ keep (record { by = me; slot = n; x = slot_digest value }) commits
  prepared_commits me commits = ap (λ k. keep_commit slot_digest me k (slice_get h k) commits) last ∙ ap (λ o. keep_commit slot_digest me n o commits) there

  pub prepared_told : (v : ℕ) → told_in (takes_step (prepares v h) ∷ []) ≡ Prepares v n value ∷ []
  prepared_told v = ap (λ k. prepared_in v k (slice_get h k) ++ []) last ∙ ap (λ o. prepared_in v n o ++ []) there

-- ---- what is kept

module _ (old new removed : List (Kept Value)) (own : Kept Value) (change : Change Value) (v me : ℕ) where
  pub own_kept : (certs : List (Cert Value)) (seat : Placement) (s : State Value) → new ≡ put own removed → removed ≡ without me old → own ≡ record { view = v; change = change } → change ≡ record { by = me; certs = certs }
      → seat.me ≡ me → certs ≡ certs_from (cert_at s.certs) (suc seat.k) 0 → new ≡ put (record { view = v; change = own_change seat.k seat.me s }) (without seat.me old)
  own_kept certs seat s put_is removed_is own_is change_is me_is certs_is =
      put_is
      ∙ (ap (λ l. put own l) (removed_is ∙ ap (λ r. without r old) (sym me_is))
      ∙ ap (λ (u : Kept Value). put u (without seat.me old)) (own_is ∙ ap (λ (c : Change Value). record { view = v; change = c }) (change_is ∙ (λ j. record { by = sym me_is j; certs = certs_is j }))))

told_pairs : (certs : List (Cert Value)) → map pair_of (map (entry_of slot_digest) certs) ≡ map (λ c. (c.at, slot_digest c.value)) certs
told_pairs [] = refl
told_pairs (c ∷ certs) = ap (λ l. (c.at, slot_digest c.value) ∷ l) (told_pairs certs)

module _ (old new : Progress) where
  abbrev was : Memory
  was = memory_of old.memory

  pub enters_does : (v : ℕ) (seat : Placement) (vcs : List (Change Value)) (dropped : Memory) (accepted : List Value) → dropped ≡ without_votes_below v was → accepted ≡ chosen_of goes seat.k vcs
      → memory_of new.memory ≡ record dropped { peer = record dropped.peer { core = record dropped.peer.core { view = v; changing = false; accepted = accepted; signed = 0; prepared = 0 } } }
      → new.deeds.items ≡ old.deeds.items ++ Enters v ∷ [] → Does old new (enters_from seat v vcs)
  enters_does v seat vcs dropped accepted dropped_is accepted_is memory told =
      does_by old new (enters_from seat v vcs) (λ m. record m { peer = entered_peer goes seat.k v vcs m.peer }) (λ m. takes_step (enter goes seat.k v vcs) ∷ []) (λ w. refl) (λ w. refl)
      (memory ∙ (λ j. record (dropped_is j) { peer = record (dropped_is j).peer { core = record (dropped_is j).peer.core { view = v; changing = false; accepted = accepted_is j; signed = 0; prepared = 0 } } }))
      told

  pub leaves_does : (v : ℕ) (seat : Placement) (certs : List (Cert Value)) (entries : List (ℕ × List ℕ)) → certs ≡ certs_from (cert_at was.peer.core.certs) (suc seat.k) 0 → entries ≡ map (λ c. (c.at, slot_digest c.value)) certs
      → memory_of new.memory ≡ record was { peer = record { core = record was.peer.core { view = v; changing = true; accepted = []; signed = 0; prepared = 0 }; votes = []; commits = [] } }
      → new.deeds.items ≡ old.deeds.items ++ Changes v entries ∷ [] → Does old new (leaves seat v)
  leaves_does v seat certs entries certs_is entries_is memory told =
      does_by old new (leaves seat v) (λ m. record m { peer = left_peer slot_digest seat.k v m.peer }) (λ m. takes_step (leave slot_digest seat.k m.peer.core v) ∷ []) (λ w. refl) (λ w. refl)
      memory
      (told ∙ ap (λ l. old.deeds.items ++ Changes v l ∷ []) (entries_is ∙ (ap (map (λ c. (c.at, slot_digest c.value))) certs_is ∙ sym (told_pairs (certs_from (cert_at was.peer.core.certs) (suc seat.k) 0)))))

  -- ---- what rests on a test

  pub when_does : (test : Memory → Bool) (rule : Work → Work) → test was ≡ true → Does old new rule → Does old new (λ w. if test w.at then rule w else w)
  when_does test rule is done w shows = let t : test w.at ≡ true = sym (ap test shows.at) ∙ is in rw t (done w shows)

  pub unless_does : (test : Memory → Bool) (rule : Work → Work) → test was ≡ false → Does old old (λ w. if test w.at then rule w else w)
  unless_does test rule is w shows = let t : test w.at ≡ false = sym (ap test shows.at) ∙ is in rw t shows

pub offers_does : (old mid new : Progress) (value : Value) → memory_of mid.memory ≡ memory_of old.memory → mid.deeds.items ≡ old.deeds.items ++ Offers old.memory.view (length old.memory.accepted) value ∷ []
    → Does mid new (take_value value) → (seat : Placement) → Does old new (offer seat value)
offers_does old mid new value same told accepts seat w shows =
    accepts (does (offers w.at.peer.core.view (length w.at.peer.core.accepted) value) w)
    (does_by old mid (λ u. does (offers u.at.peer.core.view (length u.at.peer.core.accepted) value) u) (λ m. m) (λ m. offers m.peer.core.view (length m.peer.core.accepted) value ∷ []) (λ u. refl) (λ u. refl) same told w shows)
