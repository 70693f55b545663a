-- A commit that a client shows was seen, whatever the run.
use Rattle.std.proofs.Common.{◌≡◌, ℕ, ◌+◌, ◌-◌, Bool, true, false, Option, None, Some, List, [], ◌∷◌, ◌++◌, ◌⊎◌, inl, inr, arith}
use Rattle.std.specs.Prelude.{Contains, ◌==◌, nat_lt, if◌then◌else◌}
use Rattle.std.proofs.lemmas.List.Elements.{Contains-append_left, Contains-append_right, Contains-append_cases}
use Rattle.ab_num.specs.declared.party.Party.{Party}
use Rattle.ab_num.specs.declared.party.Party.TheVariants.{Replica, Client}
use Rattle.ab_num.proofs.Lists.{Contains-cons_cases, Contains-one, Contains-none}
use Rattle.ab_hist.specs.declared.request.Request.{Request}
use Rattle.ab_hist.specs.Trimmed.{Trimmed, trim}
use Rattle.ab_svc.specs.Machines.{Reply}
use Rattle.ab_abs.specs.declared.seen.Seen.{Seen}
use Rattle.ab_abs.specs.declared.seen.Seen.TheVariants.{Invoked, Init, Cert, TrimmedInit, TrimmedCert, Committed}
use Rattle.ab_abs.specs.Faults.{is_faulty}
use Rattle.ab_abs.specs.Ensembles.{Proto}
use Rattle.ab_abs.specs.Messages.{took, timed}
use Rattle.ab_abs.specs.Observations.{init_seen, cert_seen}
use Rattle.ab_stable.specs.Offers.{offered_start}
use Rattle.ab_run.specs.Setups.{RunSetup, replicas}
use Rattle.ab_run.specs.Replicas.{Rep, RepAction, turn_enter, turn_call, turn_halt, turn_sign, turn_bring, turn_abort, turn_mark, turn_keep, turn_trim, accepted, accepted_marks, seen_in_turn, shown_in_turn, turns}
use Rattle.ab_run.specs.Clients.{Cli, CliAction, move_ask, move_vote, move_commit, move_keep, move_take, move_panic, move_again, move_spec, move_cert, move_told, seen_in_move, shown_in_move, moves, panics, asking}
use Rattle.ab_run.specs.Runs.{Event, invoke, to_replica, to_client, replica_time, client_time, Run, take_turn, take_turns, take_move, take_moves, named_by, checks, at_replica, at_client, step, run}

module _ (i c : ℕ) (m : Request) (n : ℕ) (d : List ℕ) (reply : Reply) where
  abbrev commit : Seen
  commit = Committed i c m n d reply

  init_apart : (b : Bool) (j r : ℕ) (t : Trimmed) → (if b then Init j r t.rest else TrimmedInit j r t.start t.digest t.rest) ≡ commit → ⊥
  init_apart true j r t e = cc (e)
  init_apart false j r t e = cc (e)

  cert_apart : (b : Bool) (j : ℕ) (p : Party) (t : Trimmed) → (if b then Cert j p t.rest else TrimmedCert j p t.start t.digest t.rest) ≡ commit → ⊥
  cert_apart true j p t e = cc (e)
  cert_apart false j p t e = cc (e)

  -- a replica shows none
  no_acceptance : (j r : ℕ) (o : Option (List Request)) → Contains (accepted_marks j r o) commit → ⊥
  no_acceptance j r None has = Contains-none commit has
  no_acceptance j r (Some h) has = elim (Contains-cons_cases (Init j r h) (Cert (j - 1) (Replica r) h ∷ []) commit has) [
    | inl e ↦ cc (e)
    | inr more ↦ let e = Contains-one (Cert (j - 1) (Replica r) h) commit more in cc (e)
  ]

  module _ {P : Type 0} (k : RunSetup) (proto : Proto P) where
    no_turn : (r : ℕ) (s : Rep P) (t : RepAction) → Contains (shown_in_turn k proto r s t) commit → ⊥
    no_turn r s (turn_enter j cert p h) has =
        let list = trim (offered_start k.cluster j cert) h in
        elim (Contains-cons_cases (init_seen (j + 1) r list) (cert_seen j (Replica r) list ∷ []) commit has) [
          | inl e ↦ init_apart (list.start == 0) (j + 1) r list e
          | inr more ↦ cert_apart (list.start == 0) j (Replica r) list (Contains-one (cert_seen j (Replica r) list) commit more)
        ]
    no_turn r s (turn_call call) has = no_acceptance s.at r (accepted k proto r s call) has
    no_turn r s turn_halt has = Contains-none commit has
    no_turn r s turn_sign has = Contains-none commit has
    no_turn r s (turn_bring b) has = Contains-none commit has
    no_turn r s (turn_abort b) has = Contains-none commit has
    no_turn r s (turn_mark p) has = Contains-none commit has
    no_turn r s (turn_keep v) has = Contains-none commit has
    no_turn r s (turn_trim p) has = Contains-none commit has

    move_saw : (named : ℕ → ℕ → List ℕ → List Request) (b : ℕ) (s : Cli) (t : CliAction) → Contains (shown_in_move b s t) commit → Contains (seen_in_move named b s t) commit
    move_saw named b s (move_ask q) has = has
    move_saw named b s (move_vote v) has = has
    move_saw named b s (move_commit q p e r claims) has = has
    move_saw named b s (move_keep v) has = has
    move_saw named b s (move_take j cert t q) has =
        elim (Contains-cons_cases (Invoked (j + 1) b q) (cert_seen j (Client b) t ∷ []) commit has) [
          | inl e ↦ absurd (cc (e))
          | inr more ↦ absurd (cert_apart (t.start == 0) j (Client b) t (Contains-one (cert_seen j (Client b) t) commit more))
        ]
    move_saw named b s move_panic has = has
    move_saw named b s (move_again q) has = has
    move_saw named b s (move_spec v sig) has = has
    move_saw named b s (move_cert z) has = has
    move_saw named b s (move_told r) has = has

    abbrev Saw : Run P → Type 0
    Saw w = Contains w.shown commit → Contains w.seen commit

    turns_saw : (r : ℕ) (ts : List RepAction) (w : Run P) → Saw w → Saw (take_turns k proto r w ts)
    turns_saw r [] w was = was
    turns_saw r (t ∷ ts) w was =
        turns_saw r ts (take_turn k proto r w t) (λ has. elim (Contains-append_cases (shown_in_turn k proto r (w.reps r) t) w.shown commit has) [
          | inl new ↦ absurd (no_turn r (w.reps r) t new)
          | inr old ↦ Contains-append_right (seen_in_turn k proto r (w.reps r) t) w.seen commit (was old)
        ])

    moves_saw : (b : ℕ) (ts : List CliAction) (w : Run P) → Saw w → Saw (take_moves k b w ts)
    moves_saw b [] w was = was
    moves_saw b (t ∷ ts) w was =
        let named = named_by k w in
        moves_saw b ts (take_move k b w t) (λ has. elim (Contains-append_cases (shown_in_move b (w.clis b) t) w.shown commit has) [
          | inl new ↦ Contains-append_left (seen_in_move named b (w.clis b) t) w.seen commit (move_saw named b (w.clis b) t new)
          | inr old ↦ Contains-append_right (seen_in_move named b (w.clis b) t) w.seen commit (was old)
        ])

    if_saw : (b : Bool) (u v : Run P) → Saw u → Saw v → Saw (if b then u else v)
    if_saw true u v one two = one
    if_saw false u v one two = two

    replica_saw : (r : ℕ) (ts : List RepAction) (w : Run P) → Saw w → Saw (at_replica k proto r w ts)
    replica_saw r ts w was = if_saw (is_faulty k.faulty (Replica r)) (record w { reps = (take_turns k proto r w ts).reps }) (take_turns k proto r w ts) was (turns_saw r ts w was)

    client_saw : (b : ℕ) (ts : List CliAction) (w : Run P) → Saw w → Saw (at_client k proto b w ts)
    client_saw b ts w was = if_saw (is_faulty k.faulty (Client b)) (record w { clis = (take_moves k b w ts).clis }) (take_moves k b w ts) was (moves_saw b ts w was)

    step_saw : (w : Run P) (e : Event) → Saw w → Saw (step k proto w e)
    step_saw w (invoke b command) was = let ts = asking b (w.clis b) (w.clis b).phase command in if_saw (nat_lt b k.cluster.clients) (at_client k proto b w ts) w (client_saw b ts w was) was
    step_saw w (to_replica r q) was = let ts = turns k proto r (w.reps r) (took q) in let now = checks k (Replica r) q w in if_saw (nat_lt r (replicas k)) (at_replica k proto r now ts) w (replica_saw r ts now was) was
    step_saw w (to_client b q) was = let ts = moves k b (w.clis b) q in let now = checks k (Client b) q w in if_saw (nat_lt b k.cluster.clients) (at_client k proto b now ts) w (client_saw b ts now was) was
    step_saw w (replica_time r) was = let ts = turns k proto r (w.reps r) timed in if_saw (nat_lt r (replicas k)) (at_replica k proto r w ts) w (replica_saw r ts w was) was
    step_saw w (client_time b) was = let ts = panics k (w.clis b) in if_saw (nat_lt b k.cluster.clients) (at_client k proto b w ts) w (client_saw b ts w was) was

    pub commits_were_seen : (events : List Event) → Contains (run k proto events).shown commit → Contains (run k proto events).seen commit
    commits_were_seen [] has = absurd (Contains-none commit has)
    commits_were_seen (e ∷ events) has = step_saw (run k proto events) e (commits_were_seen events) has
