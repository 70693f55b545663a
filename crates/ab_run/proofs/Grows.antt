-- What was had stays had as a run goes on, and a history with which a replica enters is had.
use Rattle.std.proofs.Common.{◌≡◌, ℕ, ◌+◌, Bool, true, false, List, [], ◌∷◌, sym, subst}
use Rattle.std.specs.Prelude.{Contains, nat_lt, if◌then◌else◌}
use Rattle.std.proofs.lemmas.List.Elements.{Contains-append_left, Contains-append_right}
use Rattle.ab_num.specs.declared.plan.Kind.{Kind}
use Rattle.ab_num.specs.declared.party.Party.{Party}
use Rattle.ab_num.specs.declared.party.Party.TheVariants.{Replica, Client}
use Rattle.ab_num.proofs.Lists.{Contains-head, Contains-tail}
use Rattle.ab_hist.specs.declared.request.Request.{Request}
use Rattle.ab_hist.specs.Trimmed.{Trimmed}
use Rattle.ab_msg.specs.declared.signed.Signed.{Signed}
use Rattle.ab_msg.specs.declared.message.Msg.{Msg}
use Rattle.ab_abs.specs.Faults.{is_faulty}
use Rattle.ab_abs.specs.Acts.{with_first}
use Rattle.ab_abs.specs.Ensembles.{Proto, trimmed_entry}
use Rattle.ab_abs.specs.Messages.{took, timed}
use Rattle.ab_run.specs.Setups.{RunSetup, replicas}
use Rattle.ab_run.specs.Replicas.{RepAction, turn_enter, state_at, after_turn, turns}
use Rattle.ab_run.specs.Clients.{CliAction, asking, moves, panics}
use Rattle.ab_run.specs.Runs.{Event, invoke, to_replica, to_client, replica_time, client_time, Run, take_turn, take_turns, take_move, take_moves, checks, histories_for, lists_for, requests_for, had_at, at_replica, at_client, step, run}
use Rattle.ab_run.specs.Premises.{RunPremises}
use Rattle.ab_run.proofs.Kept.{AreRules}
use Rattle.ab_run.proofs.Links.{fewer_apart}

-- all that the first had and asked, the second has
pub record Grew {P : Type 0} (w v : Run P) : Type 0 where
  pub had : (l : List Request) → Contains w.had l → Contains v.had l
  pub lists : (t : Trimmed) → Contains w.lists t → Contains v.lists t
  pub asked : (m : Request) → Contains w.asked m → Contains v.asked m

same_grew : {P : Type 0} (w : Run P) → Grew w w
same_grew w = record { had = λ l has. has; lists = λ t has. has; asked = λ m has. has }

then_grew : {P : Type 0} (w u v : Run P) → Grew w u → Grew u v → Grew w v
then_grew w u v one two = record { had = λ l has. two.had l (one.had l has); lists = λ t has. two.lists t (one.lists t has); asked = λ m has. two.asked m (one.asked m has) }

if_grew : {P : Type 0} (b : Bool) (w u v : Run P) → Grew w u → Grew w v → Grew w (if b then u else v)
if_grew true w u v one two = one
if_grew false w u v one two = two

checks_grew : {P : Type 0} (k : RunSetup) (p : Party) (m : Msg) (w : Run P) → Grew w (checks k p m w)
checks_grew k p m w = record {
  had = λ l has. Contains-append_right (histories_for k p m) w.had l has;
  lists = λ t has. Contains-append_right (lists_for k p m) w.lists t has;
  asked = λ q has. Contains-append_right (requests_for k p m) w.asked q has;
}

moves_grew : {P : Type 0} (k : RunSetup) (c : ℕ) (ts : List CliAction) (w : Run P) → Grew w (take_moves k c w ts)
moves_grew k c [] w = same_grew w
moves_grew k c (t ∷ ts) w = let more = moves_grew k c ts (take_move k c w t) in record { had = λ l has. more.had l has; lists = λ l has. more.lists l has; asked = λ m has. more.asked m has }

module _ {P : Type 0} (k : RunSetup) (proto : Proto P) where
  turns_grew : (r : ℕ) (ts : List RepAction) (w : Run P) → Grew w (take_turns k proto r w ts)
  turns_grew r [] w = same_grew w
  turns_grew r (t ∷ ts) w =
      let more = turns_grew r ts (take_turn k proto r w t) in
      let now = after_turn k proto r (w.reps r) t in
      record { had = λ l has. more.had l (Contains-append_right (had_at (state_at k proto now)) w.had l has); lists = λ l has. more.lists l has; asked = λ m has. more.asked m has }

  replica_grew : (r : ℕ) (ts : List RepAction) (w : Run P) → Grew w (at_replica k proto r w ts)
  replica_grew r ts w = if_grew (is_faulty k.faulty (Replica r)) w (record w { reps = (take_turns k proto r w ts).reps }) (take_turns k proto r w ts) (record { had = λ l has. has; lists = λ l has. has; asked = λ m has. has }) (turns_grew r ts w)

  client_grew : (c : ℕ) (ts : List CliAction) (w : Run P) → Grew w (at_client k proto c w ts)
  client_grew c ts w = if_grew (is_faulty k.faulty (Client c)) w (record w { clis = (take_moves k c w ts).clis }) (take_moves k c w ts) (record { had = λ l has. has; lists = λ l has. has; asked = λ m has. has }) (moves_grew k c ts w)

  pub step_grew : (e : Event) (w : Run P) → Grew w (step k proto w e)
  step_grew (invoke c command) w = let ts = asking c (w.clis c) (w.clis c).phase command in if_grew (nat_lt c k.cluster.clients) w (at_client k proto c w ts) w (client_grew c ts w) (same_grew w)
  step_grew (to_replica r m) w =
      let w' = checks k (Replica r) m w in
      let ts = turns k proto r (w.reps r) (took m) in
      if_grew (nat_lt r (replicas k)) w (at_replica k proto r w' ts) w (then_grew w w' (at_replica k proto r w' ts) (checks_grew k (Replica r) m w) (replica_grew r ts w')) (same_grew w)
  step_grew (to_client c m) w =
      let w' = checks k (Client c) m w in
      let ts = moves k c (w.clis c) m in
      if_grew (nat_lt c k.cluster.clients) w (at_client k proto c w' ts) w (then_grew w w' (at_client k proto c w' ts) (checks_grew k (Client c) m w) (client_grew c ts w')) (same_grew w)
  step_grew (replica_time r) w = let ts = turns k proto r (w.reps r) timed in if_grew (nat_lt r (replicas k)) w (at_replica k proto r w ts) w (replica_grew r ts w) (same_grew w)
  step_grew (client_time c) w = let ts = panics k (w.clis c) in if_grew (nat_lt c k.cluster.clients) w (at_client k proto c w ts) w (client_grew c ts w) (same_grew w)

  -- the premises of a run hold of what came before
  pub premises_before : (e : Event) (events : List Event) → RunPremises k proto (e ∷ events) → RunPremises k proto events
  premises_before e events p =
      let w = run k proto events in
      let v = step k proto w e in
      let grew = step_grew e w in
      record {
        few = p.few;
        honest = p.honest.1;
        apart = fewer_apart w.had v.had w.lists v.lists grew.had grew.lists p.apart;
        slots = record {
          requests = λ m n in_m in_n. p.slots.requests m n (grew.asked m in_m) (grew.asked n in_n);
          lengths = λ h l in_h in_l. p.slots.lengths h l (grew.had h in_h) (grew.had l in_l);
          digests = λ h l in_h in_l. p.slots.digests h l (grew.had h in_h) (grew.had l in_l);
        };
      }

  -- the empty history is had from the start
  pub nothing_had : (events : List Event) → Contains (run k proto events).had []
  nothing_had [] = Contains-head [] []
  nothing_had (e ∷ events) = (step_grew e (run k proto events)).had [] (nothing_had events)

  -- with which history a replica enters
  pub entered_had : (serves : Kind → Bool) (law : AreRules k proto serves) (r : ℕ) (m : Msg) (w : Run P) (j : ℕ) (cert : List Signed) (n : ℕ) (h : List Request) (rest : List RepAction) → nat_lt r (replicas k) ≡ true → is_faulty k.faulty (Replica r) ≡ false
      → turns k proto r (w.reps r) (took m) ≡ turn_enter j cert n h ∷ rest → Contains (step k proto w (to_replica r m)).had h
  entered_had serves law r m w j cert n h rest lt good is =
      let w' = checks k (Replica r) m w in
      let t = turn_enter j cert n h in
      let st = state_at k proto (after_turn k proto r (w.reps r) t) in
      let one = take_turn k proto r w' t in
      let entered : Contains one.had h =
      Contains-append_left (had_at st) w'.had h
      (Contains-tail st.log h (st.entered ∷ with_first st.first) (subst (λ (z : List Request). Contains (st.entered ∷ with_first st.first) z) (law.form.enters k.cluster (j + 1) r (trimmed_entry h n cert)) (Contains-head st.entered (with_first st.first)))) in
      let ts = turns k proto r (w.reps r) (took m) in
      let done = take_turns k proto r w' ts in
      let all : Contains done.had h = subst (λ (us : List RepAction). Contains (take_turns k proto r w' us).had h) (sym is) ((turns_grew r rest one).had h entered) in
      let there : Contains (at_replica k proto r w' ts).had h = subst (λ (b : Bool). Contains (if b then record w' { reps = done.reps } else done).had h) (sym good) all in
      subst (λ (b : Bool). Contains (if b then at_replica k proto r w' ts else w).had h) (sym lt) there
