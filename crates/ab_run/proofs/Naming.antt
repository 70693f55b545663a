-- What the parties of a run show stands for what was seen.
use Rattle.std.proofs.Common.{◌≡◌, ℕ, ◌+◌, ◌-◌, ◌<◌, Bool, true, false, Option, None, Some, List, [], ◌∷◌, ◌++◌, ◌⊎◌, map, refl, sym, ap, ◌∙◌, subst, inl, inr}
use Rattle.std.specs.Prelude.{Contains, nat_lt, if◌then◌else◌}
use Rattle.std.proofs.lemmas.Bool.{ltb-true}
use Rattle.ab_num.specs.declared.plan.Kind.{Kind}
use Rattle.ab_num.specs.declared.party.Party.TheVariants.{Replica, Client}
use Rattle.ab_hist.specs.declared.request.Request.{Request}
use Rattle.ab_hist.specs.Trimmed.{trim}
use Rattle.ab_svc.specs.Machines.{Machine}
use Rattle.ab_msg.specs.declared.content.Content.{Content}
use Rattle.ab_msg.specs.declared.content.Content.TheVariants.{Abort}
use Rattle.ab_abs.specs.declared.seen.Seen.{Seen}
use Rattle.ab_abs.specs.declared.seen.Seen.TheVariants.{Invoked, Init, Cert, Committed}
use Rattle.ab_abs.specs.Faults.{is_faulty}
use Rattle.ab_abs.specs.Acts.{WasMade}
use Rattle.ab_abs.specs.Deeds.{InstanceAct, acts_in, seen_in, named_in_run}
use Rattle.ab_abs.specs.Ensembles.{Proto, Ensemble, Reached}
use Rattle.ab_abs.specs.Instances.{EachIsAbstract}
use Rattle.ab_abs.specs.Messages.{took, timed}
use Rattle.ab_abs.specs.Observations.{init_seen, cert_seen, whole_in, seen_whole}
use Rattle.ab_abs.specs.Promises.{MeetsPremises}
use Rattle.ab_stable.specs.Offers.{offered_start}
use Rattle.ab_stable.proofs.EnsembleLogs.{abort_logs}
use Rattle.ab_run.specs.Setups.{RunSetup, replicas}
use Rattle.ab_run.specs.Replicas.{RepAction, turn_enter, turn_call, turn_halt, turn_sign, turn_bring, turn_abort, turn_mark, turn_keep, turn_trim, accepted, accepted_marks, seen_in_turn, shown_in_turn, turns}
use Rattle.ab_run.specs.Clients.{Cli, CliAction, move_ask, move_vote, move_commit, move_keep, move_take, move_panic, move_again, move_spec, move_cert, move_told, seen_in_move, shown_in_move, moves, panics, asking}
use Rattle.ab_run.specs.Runs.{Event, invoke, to_replica, to_client, replica_time, client_time, Run, take_turn, take_turns, take_move, take_moves, named_by, checks, at_replica, at_client, step, run}
use Rattle.ab_run.specs.Acted.{acted_turn, acted_turns, acted_move, acted_moves, acts_at_replica, acts_at_client, acted, deeds_of}
use Rattle.ab_run.specs.Premises.{AreMade, IsFormedEvent, AreFormed, checked, IsHonestRun, RunPremises}
use Rattle.ab_run.proofs.Kept.{AreRules}
use Rattle.ab_run.proofs.Links.{no_collision}
use Rattle.ab_run.proofs.Reasons.{IsGood}
use Rattle.ab_run.proofs.Turns.{TurnMay}
use Rattle.ab_run.proofs.Dues.{Kept, Follows, TurnsMay, turn_follows, timed_may as timer_may}
use Rattle.ab_run.proofs.Moves.{MoveMay}
use Rattle.ab_run.proofs.Hears.{MovesMay, move_follows, timed_may, asking_may}
use Rattle.ab_run.proofs.Events.{EventRight, AreRight, if_two, checks_kept, brought_may, heard_may, run_kept}
use Rattle.ab_run.proofs.Showing.{IsNamedList, named_later, IsShownAs, as_it_is, as_init, as_cert, AreShown, nothing, also, are_shown_later}
use Rattle.ab_run.proofs.Whole.{all_whole}
use Rattle.ab_run.proofs.Promised.{Right, kept_of, known_of, all_right}

both_shown : (k : RunSetup) (deeds : List InstanceAct) (ss ts us vs : List Seen) → AreShown k deeds ss ts → AreShown k deeds us vs → AreShown k deeds (ss ++ us) (ts ++ vs)
both_shown k deeds ss ts us vs nothing more = more
both_shown k deeds ss ts us vs (also s t rest others one ones) more = also s t (rest ++ us) (others ++ vs) one (both_shown k deeds rest others us vs ones more)

accepted_shown : (k : RunSetup) (deeds : List InstanceAct) (i r : ℕ) (o : Option (List Request)) → AreShown k deeds (accepted_marks i r o) (accepted_marks i r o)
accepted_shown k deeds i r None = nothing
accepted_shown k deeds i r (Some h) =
    also (Init i r h) (Init i r h) (Cert (i - 1) (Replica r) h ∷ []) (Cert (i - 1) (Replica r) h ∷ []) (as_it_is (Init i r h) refl)
    (also (Cert (i - 1) (Replica r) h) (Cert (i - 1) (Replica r) h) [] [] (as_it_is (Cert (i - 1) (Replica r) h) refl) nothing)

module _ {P : Type 0} (k : RunSetup) (proto : Proto P) (serves : Kind → Bool) (law : AreRules k proto serves) where
  abbrev Shows : List InstanceAct → Run P → Type 0
  Shows deeds w = AreShown k deeds w.seen w.shown

  -- a turn
  turn_shown : (start deeds : List InstanceAct) (w : Run P) (r : ℕ) (t : RepAction) → Follows k proto serves law start deeds → TurnMay k proto serves law start w r (w.reps r) t
      → AreShown k deeds (seen_in_turn k proto r (w.reps r) t) (shown_in_turn k proto r (w.reps r) t)
  turn_shown start deeds w r (turn_enter j cert n h) later may =
      let list = trim (offered_start k.cluster j cert) h in
      let named = named_later k start deeds j h list later may.named in
      also (Init (j + 1) r h) (init_seen (j + 1) r list) (Cert j (Replica r) h ∷ []) (cert_seen j (Replica r) list ∷ []) (as_init j r h list named)
      (also (Cert j (Replica r) h) (cert_seen j (Replica r) list) [] [] (as_cert j (Replica r) h list named) nothing)
  turn_shown start deeds w r (turn_call call) later may = accepted_shown k deeds (w.reps r).at r (accepted k proto r (w.reps r) call)
  turn_shown start deeds w r turn_halt later may = nothing
  turn_shown start deeds w r turn_sign later may = nothing
  turn_shown start deeds w r (turn_bring c) later may = nothing
  turn_shown start deeds w r (turn_abort c) later may = nothing
  turn_shown start deeds w r (turn_mark n) later may = nothing
  turn_shown start deeds w r (turn_keep v) later may = nothing
  turn_shown start deeds w r (turn_trim n) later may = nothing

  turns_shown : (start : List InstanceAct) (r : ℕ) (ts : List RepAction) (w : Run P) (deeds : List InstanceAct) → Follows k proto serves law start deeds → TurnsMay k proto serves law start r w ts → Shows deeds w
      → Shows (acted_turns k proto r w ts deeds) (take_turns k proto r w ts)
  turns_shown start r [] w deeds later may was = was
  turns_shown start r (t ∷ ts) w deeds later may was =
      let more = acted_turn k proto w.log r (w.reps r) t deeds in
      let follows = turn_follows k proto serves law w.log r (w.reps r) t deeds in
      let later' : Follows k proto serves law start more = λ i x made. follows i x (later i x made) in
      turns_shown start r ts (take_turn k proto r w t) more later' may.1
      (both_shown k more (seen_in_turn k proto r (w.reps r) t) (shown_in_turn k proto r (w.reps r) t) w.seen w.shown (turn_shown start more w r t later' may.0) (are_shown_later k deeds more w.seen w.shown follows was))

  -- a move
  move_shown : (start deeds : List InstanceAct) (w : Run P) (c : ℕ) (t : CliAction) → Follows k proto serves law start deeds → MoveMay k proto serves start w c (w.clis c) t
      → AreShown k deeds (seen_in_move (named_by k w) c (w.clis c) t) (shown_in_move c (w.clis c) t)
  move_shown start deeds w c (move_ask m) later may = let s = Invoked (w.clis c).at c m in also s s [] [] (as_it_is s refl) nothing
  move_shown start deeds w c (move_vote b) later may = nothing
  move_shown start deeds w c (move_commit m n d reply claims) later may = let s = Committed (w.clis c).at c m n d reply in also s s [] [] (as_it_is s refl) nothing
  move_shown start deeds w c (move_keep v) later may = nothing
  move_shown start deeds w c (move_take j cert t m) later may =
      let h = whole_in (named_by k w) j t in
      let s = Invoked (j + 1) c m in
      also s s (Cert j (Client c) h ∷ []) (cert_seen j (Client c) t ∷ []) (as_it_is s refl)
      (also (Cert j (Client c) h) (cert_seen j (Client c) t) [] [] (as_cert j (Client c) h t (named_later k start deeds j h t later may.2.1)) nothing)
  move_shown start deeds w c move_panic later may = nothing
  move_shown start deeds w c (move_again m) later may = nothing
  move_shown start deeds w c (move_spec b sig) later may = nothing
  move_shown start deeds w c (move_cert z) later may = nothing
  move_shown start deeds w c (move_told r) later may = nothing

  moves_shown : (start : List InstanceAct) (c : ℕ) (ts : List CliAction) (w : Run P) (deeds : List InstanceAct) → Follows k proto serves law start deeds → MovesMay k proto serves law start c w ts → Shows deeds w
      → Shows (acted_moves k c w ts deeds) (take_moves k c w ts)
  moves_shown start c [] w deeds later may was = was
  moves_shown start c (t ∷ ts) w deeds later may was =
      let named = named_by k w in
      let more = acted_move k w.log named c (w.clis c) t deeds in
      let follows = move_follows k proto serves law start w.log named c (w.clis c) t deeds in
      let later' : Follows k proto serves law start more = λ i x made. follows i x (later i x made) in
      moves_shown start c ts (take_move k c w t) more later' may.1
      (both_shown k more (seen_in_move named c (w.clis c) t) (shown_in_move c (w.clis c) t) w.seen w.shown (move_shown start more w c t later' may.0) (are_shown_later k deeds more w.seen w.shown follows was))

  same_follows : (deeds : List InstanceAct) → Follows k proto serves law deeds deeds
  same_follows deeds i x made = made

  replica_shown : (r : ℕ) (w : Run P) (deeds : List InstanceAct) (ts : List RepAction) → (is_faulty k.faulty (Replica r) ≡ false → TurnsMay k proto serves law deeds r w ts) → Shows deeds w
      → Shows (acts_at_replica k proto r w ts deeds) (at_replica k proto r w ts)
  replica_shown r w deeds ts may was =
      if_two (λ (u : Run P) (d : List InstanceAct). Shows d u) (is_faulty k.faulty (Replica r)) (record w { reps = (take_turns k proto r w ts).reps }) (take_turns k proto r w ts) deeds (acted_turns k proto r w ts deeds)
      (λ _. was) (λ good. turns_shown deeds r ts w deeds (same_follows deeds) (may good) was)

  client_shown : (c : ℕ) (w : Run P) (deeds : List InstanceAct) (ts : List CliAction) → (is_faulty k.faulty (Client c) ≡ false → MovesMay k proto serves law deeds c w ts) → Shows deeds w
      → Shows (acts_at_client k c w ts deeds) (at_client k proto c w ts)
  client_shown c w deeds ts may was =
      if_two (λ (u : Run P) (d : List InstanceAct). Shows d u) (is_faulty k.faulty (Client c)) (record w { clis = (take_moves k c w ts).clis }) (take_moves k c w ts) deeds (acted_moves k c w ts deeds)
      (λ _. was) (λ good. moves_shown deeds c ts w deeds (same_follows deeds) (may good) was)

  step_shown : (w : Run P) (deeds : List InstanceAct) (e : Event) → IsFormedEvent k e → AreMade k w.made (checked k e) → EventRight k proto serves law w deeds e → Kept k proto serves law w deeds → Shows deeds w → Shows (acted k proto w e deeds) (step k proto w e)
  step_shown w deeds (invoke c command) formed honest right kept was =
      let ts = asking c (w.clis c) (w.clis c).phase command in
      if_two (λ (u : Run P) (d : List InstanceAct). Shows d u) (nat_lt c k.cluster.clients) (at_client k proto c w ts) w (acts_at_client k c w ts deeds) deeds
      (λ _. client_shown c w deeds ts (λ good. asking_may k proto serves law deeds c w (w.clis c).phase command) was) (λ _. was)
  step_shown w deeds (to_replica r m) formed honest right kept was =
      let ts = turns k proto r (w.reps r) (took m) in
      let now = checks k (Replica r) m w in
      if_two (λ (u : Run P) (d : List InstanceAct). Shows d u) (nat_lt r (replicas k)) (at_replica k proto r now ts) w (acts_at_replica k proto r now ts deeds) deeds
      (λ lt. replica_shown r now deeds ts (λ good. brought_may k proto serves law r m w deeds formed honest right kept (ltb-true r (replicas k) lt) good) was) (λ _. was)
  step_shown w deeds (to_client c m) formed honest right kept was =
      let ts = moves k c (w.clis c) m in
      let now = checks k (Client c) m w in
      if_two (λ (u : Run P) (d : List InstanceAct). Shows d u) (nat_lt c k.cluster.clients) (at_client k proto c now ts) w (acts_at_client k c now ts deeds) deeds
      (λ lt. client_shown c now deeds ts (λ good. heard_may k proto serves law c m w deeds honest right kept lt good) was) (λ _. was)
  step_shown w deeds (replica_time r) formed honest right kept was =
      let ts = turns k proto r (w.reps r) timed in
      if_two (λ (u : Run P) (d : List InstanceAct). Shows d u) (nat_lt r (replicas k)) (at_replica k proto r w ts) w (acts_at_replica k proto r w ts deeds) deeds
      (λ lt. replica_shown r w deeds ts (λ good. timer_may k proto serves law deeds r w) was) (λ _. was)
  step_shown w deeds (client_time c) formed honest right kept was =
      let ts = panics k (w.clis c) in
      if_two (λ (u : Run P) (d : List InstanceAct). Shows d u) (nat_lt c k.cluster.clients) (at_client k proto c w ts) w (acts_at_client k c w ts deeds) deeds
      (λ _. client_shown c w deeds ts (λ good. timed_may k proto serves law deeds c w kept.ensemble.run (kept.keeps.clients c good)) was) (λ _. was)

  run_shown : (events : List Event) → AreFormed k events → IsHonestRun k proto events → AreRight k proto serves law events → Shows (deeds_of k proto events) (run k proto events)
  run_shown [] formed honest right = nothing
  run_shown (e ∷ events) formed honest right =
      step_shown (run k proto events) (deeds_of k proto events) e formed.0 honest.0 right.0 (run_kept k proto serves law events formed.1 honest.1 right.1) (run_shown events formed.1 honest.1 right.1)

module _ {S P : Type 0} (machine : Machine S) (k : RunSetup) (proto : Proto P) (serves : Kind → Bool) (law : AreRules k proto serves)
    (abstract : (v : Ensemble P) → Reached proto k.cluster k.faulty v → MeetsPremises k.cluster k.faulty v.run → EachIsAbstract machine (seen_in v.run) (named_in_run k.cluster k.faulty v.run) k.faulty) where
  pub shown_whole : (events : List Event) → AreFormed k events → RunPremises k proto events → (run k proto events).seen ≡ map (seen_whole (named_by k (run k proto events))) (run k proto events).shown
  shown_whole events formed premises =
      let w = run k proto events in
      let right = all_right machine k proto serves law abstract events formed premises in
      let kept = kept_of machine k proto serves law abstract events formed premises right in
      let v = kept.ensemble in
      let known = known_of machine k proto serves law abstract events formed premises right in
      let stated : (i q : ℕ) (l : List Request) → IsGood k q → WasMade (acts_in i v.run) (Abort (Replica q) i l) → l ≡ w.log i q =
      λ i q l good made. (abort_logs proto serves law.form k.cluster k.faulty law.all v known.keeps.reached i q l made).0 ∙ sym (known.keeps.log i q good.0 good.1) in
      all_whole k v.run w.log w.had (no_collision w.had w.lists premises.apart) (λ i q good. known.vouched.had_of i q good) stated w.seen w.shown
      (subst (λ (d : List InstanceAct). AreShown k d w.seen w.shown) (sym kept.acts) (run_shown k proto serves law events formed premises.honest right))
