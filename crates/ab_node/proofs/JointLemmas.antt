-- All parties of a cluster over the events of all.
use Rattle.std.proofs.Common.{◌≡◌, ◌≢◌, ℕ, ◌+◌, ◌*◌, ◌<◌, Bool, true, false, List, [], ◌∷◌, ◌++◌, reverse, Option, None, Some, refl, sym, ap, subst, ◌∙◌, inl, inr, arith, append_assoc, append-nil}
use Rattle.std.specs.Prelude.{◌==◌, nat_lt, if◌then◌else◌, Contains}
use Rattle.std.specs.Option.{option_map, option_to_list}
use Rattle.std.proofs.lemmas.Bool.{cases_Bool, eqb-true, eqb-false, ltb-true}
use Rattle.std.proofs.lemmas.List.Elements.{Contains-append_left, Contains-append_right}
use Rattle.std.proofs.lemmas.Option.{none-some}
use Rattle.ab_num.specs.declared.cluster.Cluster.{Cluster}
use Rattle.ab_num.specs.declared.party.Party.{Party}
use Rattle.ab_num.specs.declared.party.Party.TheVariants.{Replica, Client}
use Rattle.ab_sign.specs.Signers.{pen_of}
use Rattle.ab_abs.specs.declared.seen.Seen.{Seen}
use Rattle.ab_abs.specs.declared.seen.Seen.TheVariants.{Committed}
use Rattle.ab_abs.specs.Faults.{is_faulty}
use Rattle.ab_abs.specs.Ensembles.{Proto, put}
use Rattle.ab_abs.specs.Messages.{Call, took, timed}
use Rattle.ab_abs.proofs.Reach.{put_same, put_other}
use Rattle.ab_run.specs.Setups.{RunSetup, replicas}
use Rattle.ab_run.specs.Runs.{Event as Happening, Run, invoke, to_replica, to_client, replica_time, client_time, first_rep, run}
use Rattle.ab_run.specs.Local.{Cue, cue_command, cue_message, cue_time, cli_after, cli_marks, cli_shows, moves_at, rep_after, rep_shows}
use Rattle.ab_run.proofs.Commits.{commits_were_seen}
use Rattle.ab_run.proofs.Effects.{at_call, at_cue, called, cued, reps_stay, reps_apart, clis_stay, clis_apart}
use Rattle.ab_run.proofs.Listed.{Contains-reverse}
use Rattle.ab_run.proofs.Shown.{moves_backward}
use Rattle.ab_client.specs.Clients.{alone, marks}
use Rattle.ab_loop.specs.declared.party_core.Commit.{Commit}
use Rattle.ab_loop.specs.Cores.{NodeEvent}
use Rattle.ab_loop.specs.Folds.{commits_in, core_after}
use Rattle.ab_node.specs.Replicas.{ReplicaMember, call_of, replica_after, replica_may_take, replica_rules, replica_step}
use Rattle.ab_node.specs.Clients.{ClientMember, client_after, client_may_take, client_rules, client_step, cue_of}
use Rattle.ab_node.specs.Locality.{AllStartIn, AreFirst, AreRun, IsSeen, Members, all_after, all_happens, call_event, cue_event, events_at_client, events_at_replica, happens, members_after, setup_among}
use Rattle.ab_loop.proofs.FoldLemmas.{option_cases}
use Rattle.ab_node.proofs.CommitLemmas.{commit_among, own_commit}
use Rattle.ab_node.proofs.LocalLemmas.{IsPlaced, after_is, cli_is, placed_after}

module _ {P : Type 0} (k : RunSetup) (proto : Proto P) where
  -- the run has left these members where they are
  record Stand (w : Members P) (before : List Happening) : Type 0 where
    placed : (r : ℕ) → r < 3 * k.cluster.f + 1 → IsPlaced k proto (w.replicas r)
    own : (r : ℕ) → r < 3 * k.cluster.f + 1 → (w.replicas r).site.me ≡ r
    replicas : (r : ℕ) → r < 3 * k.cluster.f + 1 → (run k proto before).reps r ≡ (w.replicas r).site.rep
    clusters : (c : ℕ) → c < k.cluster.clients → k.cluster ≡ (w.clients c).seat.cluster
    mine : (c : ℕ) → c < k.cluster.clients → (w.clients c).seat.me ≡ c
    clients : (c : ℕ) → c < k.cluster.clients → (run k proto before).clis c ≡ (w.clients c).seat.cli

  call_happens : (before : List Happening) (r : ℕ) (call : Call) → run k proto (call_event r call ∷ before) ≡ at_call k proto (run k proto before) r call
  call_happens before r (took m) = refl
  call_happens before r timed = refl

  cue_happens : (before : List Happening) (c : ℕ) (cue : Cue) → run k proto (cue_event c cue ∷ before) ≡ at_cue k proto (run k proto before) c cue
  cue_happens before c (cue_command command) = refl
  cue_happens before c (cue_message m) = refl
  cue_happens before c cue_time = refl

  -- what holds of each holds where one is put in another's place of which it holds
  put_holds : {A : Type 0} (Q : ℕ → A → Type 0) (g : ℕ → A) (q : ℕ) (v : A) (r : ℕ) → (r ≡ q → Q r v) → (r ≢ q → Q r (g r)) → Q r (put g q v r)
  put_holds Q g q v r there elsewhere =
      elim (cases_Bool (r == q)) [
        | inl same ↦ rw same (there (eqb-true r q same))
        | inr differ ↦ rw differ (elsewhere (eqb-false r q differ))
      ]

  replica_stands : (w : Members P) (before : List Happening) (q : ℕ) (e : NodeEvent) → Stand w before → Stand (members_after proto w (Replica q) e) (happens proto w (Replica q) e ++ before)
  replica_stands w before q e st = go (call_of (w.replicas q).credentials e) where
    go : (o : Option Call) → Stand (record w { replicas = put w.replicas q (replica_may_take proto (w.replicas q) o).after }) (option_to_list (option_map (call_event q) o) ++ before)
    go None = record {
      placed = λ r lt. put_holds (λ j (m : ReplicaMember P). IsPlaced k proto m) w.replicas q (w.replicas q) r (λ same. subst (λ j. IsPlaced k proto (w.replicas j)) same (st.placed r lt)) (λ ne. st.placed r lt);
      own = λ r lt. put_holds (λ j (m : ReplicaMember P). m.site.me ≡ j) w.replicas q (w.replicas q) r (λ same. subst (λ j. (w.replicas j).site.me ≡ r) same (st.own r lt)) (λ ne. st.own r lt);
      replicas = λ r lt. put_holds (λ j (m : ReplicaMember P). (run k proto before).reps j ≡ m.site.rep) w.replicas q (w.replicas q) r (λ same. subst (λ j. (run k proto before).reps r ≡ (w.replicas j).site.rep) same (st.replicas r lt)) (λ ne. st.replicas r lt);
      clusters = st.clusters;
      mine = st.mine;
      clients = st.clients;
    }
    go (Some call) =
        let m = w.replicas q in
        let now = replica_after proto m call in
        record {
          placed = λ r lt. put_holds (λ j (m : ReplicaMember P). IsPlaced k proto m) w.replicas q now r (λ same. placed_after k proto m call (subst (λ j. IsPlaced k proto (w.replicas j)) same (st.placed r lt))) (λ ne. st.placed r lt);
          own = λ r lt. put_holds (λ j (m : ReplicaMember P). m.site.me ≡ j) w.replicas q now r (λ same. subst (λ j. (w.replicas j).site.me ≡ r) same (st.own r lt)) (λ ne. st.own r lt);
          replicas = λ r lt.
              ap (λ v. v.reps r) (call_happens before q call)
              ∙ put_holds (λ j (m : ReplicaMember P). (at_call k proto (run k proto before) q call).reps j ≡ m.site.rep) w.replicas q now r
              (λ same.
              let lt' : q < 3 * k.cluster.f + 1 = subst (λ j. j < 3 * k.cluster.f + 1) same lt in
              ap (λ j. (at_call k proto (run k proto before) q call).reps j) same
              ∙ (called k proto (run k proto before) q call lt').own
              ∙ ap (λ s. rep_after k proto q s call) (st.replicas q lt')
              ∙ ap (λ j. rep_after k proto j m.site.rep call) (sym (st.own q lt'))
              ∙ sym (after_is k proto m call (st.placed q lt')))
              (λ ne. reps_stay k proto (run k proto before) q call r ne ∙ st.replicas r lt);
          clusters = st.clusters;
          mine = st.mine;
          clients = λ c lt. ap (λ v. v.clis c) (call_happens before q call) ∙ clis_apart k proto (run k proto before) q call c ∙ st.clients c lt;
        }

  client_stands : (w : Members P) (before : List Happening) (d : ℕ) (e : NodeEvent) → Stand w before → Stand (members_after proto w (Client d) e) (happens proto w (Client d) e ++ before)
  client_stands w before d e st = go (cue_of (w.clients d) e) where
    go : (o : Option Cue) → Stand (record w { clients = put w.clients d (client_may_take (w.clients d) o).after }) (option_to_list (option_map (cue_event d) o) ++ before)
    go None = record {
      placed = st.placed;
      own = st.own;
      replicas = st.replicas;
      clusters = λ c lt. put_holds (λ j (m : ClientMember). k.cluster ≡ m.seat.cluster) w.clients d (w.clients d) c (λ same. subst (λ j. k.cluster ≡ (w.clients j).seat.cluster) same (st.clusters c lt)) (λ ne. st.clusters c lt);
      mine = λ c lt. put_holds (λ j (m : ClientMember). m.seat.me ≡ j) w.clients d (w.clients d) c (λ same. subst (λ j. (w.clients j).seat.me ≡ c) same (st.mine c lt)) (λ ne. st.mine c lt);
      clients = λ c lt. put_holds (λ j (m : ClientMember). (run k proto before).clis j ≡ m.seat.cli) w.clients d (w.clients d) c (λ same. subst (λ j. (run k proto before).clis c ≡ (w.clients j).seat.cli) same (st.clients c lt)) (λ ne. st.clients c lt);
    }
    go (Some cue) =
        let m = w.clients d in
        let now = client_after m cue in
        record {
          placed = st.placed;
          own = st.own;
          replicas = λ r lt. ap (λ v. v.reps r) (cue_happens before d cue) ∙ reps_apart k proto (run k proto before) d cue r ∙ st.replicas r lt;
          clusters = λ c lt. put_holds (λ j (m : ClientMember). k.cluster ≡ m.seat.cluster) w.clients d now c (λ same. subst (λ j. k.cluster ≡ (w.clients j).seat.cluster) same (st.clusters c lt)) (λ ne. st.clusters c lt);
          mine = λ c lt. put_holds (λ j (m : ClientMember). m.seat.me ≡ j) w.clients d now c (λ same. subst (λ j. (w.clients j).seat.me ≡ c) same (st.mine c lt)) (λ ne. st.mine c lt);
          clients = λ c lt.
              ap (λ v. v.clis c) (cue_happens before d cue)
              ∙ put_holds (λ j (m : ClientMember). (at_cue k proto (run k proto before) d cue).clis j ≡ m.seat.cli) w.clients d now c
              (λ same.
              let lt' : d < k.cluster.clients = subst (λ j. j < k.cluster.clients) same lt in
              ap (λ j. (at_cue k proto (run k proto before) d cue).clis j) same
              ∙ (cued k proto (run k proto before) d cue lt').own
              ∙ ap (λ s. cli_after k d s cue) (st.clients d lt')
              ∙ ap (λ j. cli_after k j m.seat.cli cue) (sym (st.mine d lt'))
              ∙ sym (cli_is k m cue (st.clusters d lt')))
              (λ ne. clis_stay k proto (run k proto before) d cue c ne ∙ st.clients c lt);
        }

  one_stands : (w : Members P) (before : List Happening) (p : Party) (e : NodeEvent) → Stand w before → Stand (members_after proto w p e) (happens proto w p e ++ before)
  one_stands w before (Replica q) e st = replica_stands w before q e st
  one_stands w before (Client d) e st = client_stands w before d e st

  all_stand : (xs : List (Party × NodeEvent)) (w : Members P) (before : List Happening) → Stand w before → Stand (all_after proto w xs) (all_happens proto w xs ++ before)
  all_stand [] w before st = st
  all_stand (x ∷ xs) w before st =
      let now = members_after proto w x.0 x.1 in
      subst (λ (hs : List Happening). Stand (all_after proto now xs) hs) (sym (append_assoc (all_happens proto now xs) (happens proto w x.0 x.1) before))
      (all_stand xs now (happens proto w x.0 x.1 ++ before) (one_stands w before x.0 x.1 st))

  -- ---- each where its own events lead it

  module _ (counted : P → Option ℕ) where
    replica_comes : (r : ℕ) (xs : List (Party × NodeEvent)) (w : Members P) → (all_after proto w xs).replicas r ≡ core_after (replica_rules proto counted) (w.replicas r) (events_at_replica r xs)
    replica_comes r [] w = refl
    replica_comes r ((Replica q, e) ∷ xs) w =
        let v = (replica_step proto (w.replicas q) e).after in
        replica_comes r xs (members_after proto w (Replica q) e)
        ∙ elim (cases_Bool (q == r)) [
          | inl same ↦
              let is : q ≡ r = eqb-true q r same in
              let put_is : put w.replicas q v r ≡ (replica_step proto (w.replicas r) e).after =
              ap (λ j. put w.replicas q v j) (sym is) ∙ put_same w.replicas q v ∙ ap (λ j. (replica_step proto (w.replicas j) e).after) is in
              rw same (ap (λ m. core_after (replica_rules proto counted) m (events_at_replica r xs)) put_is)
          | inr differ ↦
              rw differ (ap (λ m. core_after (replica_rules proto counted) m (events_at_replica r xs)) (put_other w.replicas q r v (λ is. eqb-false q r differ (sym is))))
        ]
    replica_comes r ((Client c, e) ∷ xs) w = replica_comes r xs (members_after proto w (Client c) e)

  client_comes : (c : ℕ) (xs : List (Party × NodeEvent)) (w : Members P) → (all_after proto w xs).clients c ≡ core_after client_rules (w.clients c) (events_at_client c xs)
  client_comes c [] w = refl
  client_comes c ((Replica q, e) ∷ xs) w = client_comes c xs (members_after proto w (Replica q) e)
  client_comes c ((Client d, e) ∷ xs) w =
      let v = (client_step (w.clients d) e).after in
      client_comes c xs (members_after proto w (Client d) e)
      ∙ elim (cases_Bool (d == c)) [
        | inl same ↦
            let is : d ≡ c = eqb-true d c same in
            let put_is : put w.clients d v c ≡ (client_step (w.clients c) e).after =
            ap (λ j. put w.clients d v j) (sym is) ∙ put_same w.clients d v ∙ ap (λ j. (client_step (w.clients j) e).after) is in
            rw same (ap (λ m. core_after client_rules m (events_at_client c xs)) put_is)
        | inr differ ↦ rw differ (ap (λ m. core_after client_rules m (events_at_client c xs)) (put_other w.clients d c v (λ is. eqb-false d c differ (sym is))))
      ]

  -- ---- what clients commit is shown, and so it is seen

  -- what was shown stays shown
  still_shown : (bad : Bool) (new old : List Seen) (s : Seen) → Contains old s → Contains (if bad then old else new ++ old) s
  still_shown true new old s has = has
  still_shown false new old s has = Contains-append_right new old s has

  shown_at_call : (v : Run P) (r : ℕ) (call : Call) (s : Seen) → Contains v.shown s → Contains (at_call k proto v r call).shown s
  shown_at_call v r call s has =
      elim (cases_Bool (nat_lt r (replicas k))) [
        | inl there ↦
            subst (λ (l : List Seen). Contains l s) (sym (called k proto v r call (ltb-true r (replicas k) there)).shown)
            (still_shown (is_faulty k.faulty (Replica r)) (rep_shows k proto r (v.reps r) call) v.shown s has)
        | inr gone ↦ rw gone has
      ]

  shown_at_cue : (v : Run P) (c : ℕ) (cue : Cue) (s : Seen) → Contains v.shown s → Contains (at_cue k proto v c cue).shown s
  shown_at_cue v c cue s has =
      elim (cases_Bool (nat_lt c k.cluster.clients)) [
        | inl there ↦
            subst (λ (l : List Seen). Contains l s) (sym (cued k proto v c cue (ltb-true c k.cluster.clients there)).shown)
            (still_shown (is_faulty k.faulty (Client c)) (cli_shows k c (v.clis c) cue) v.shown s has)
        | inr gone ↦ rw gone has
      ]

  shown_on : (h : Happening) (before : List Happening) (s : Seen) → Contains (run k proto before).shown s → Contains (run k proto (h ∷ before)).shown s
  shown_on (invoke c command) before s has = shown_at_cue (run k proto before) c (cue_command command) s has
  shown_on (to_replica r m) before s has = shown_at_call (run k proto before) r (took m) s has
  shown_on (to_client c m) before s has = shown_at_cue (run k proto before) c (cue_message m) s has
  shown_on (replica_time r) before s has = shown_at_call (run k proto before) r timed s has
  shown_on (client_time c) before s has = shown_at_cue (run k proto before) c cue_time s has

  shown_later : (hs before : List Happening) (s : Seen) → Contains (run k proto before).shown s → Contains (run k proto (hs ++ before)).shown s
  shown_later [] before s has = has
  shown_later (h ∷ hs) before s has = shown_on h (hs ++ before) s (shown_later hs before s has)

  commit_later : (c : ℕ) (commit : Commit) (hs before : List Happening) → IsSeen c commit (run k proto before).shown → IsSeen c commit (run k proto (hs ++ before)).shown
  commit_later c commit hs before is = record {
    request = is.request;
    digest = is.digest;
    there = shown_later hs before (Committed commit.instance c is.request commit.n is.digest commit.reply) is.there;
    stamp = is.stamp;
  }

  was_seen : (c : ℕ) (commit : Commit) (hs : List Happening) → IsSeen c commit (run k proto hs).shown → IsSeen c commit (run k proto hs).seen
  was_seen c commit hs is = record {
    request = is.request;
    digest = is.digest;
    there = commits_were_seen commit.instance c is.request commit.n is.digest commit.reply k proto hs is.there;
    stamp = is.stamp;
  }

  module _ (c : ℕ) (lt : c < k.cluster.clients) (good : is_faulty k.faulty (Client c) ≡ false) where
    -- what it commits in an event is shown in that event
    commit_now : (w : Members P) (before : List Happening) → Stand w before → (e : NodeEvent) (commit : Commit) → (client_step (w.clients c) e).commit ≡ Some commit
        → IsSeen c commit (run k proto (happens proto w (Client c) e ++ before)).shown
    commit_now w before st e commit is = go (cue_of (w.clients c) e) is where
      go : (o : Option Cue) → (client_may_take (w.clients c) o).commit ≡ Some commit → IsSeen c commit (run k proto (option_to_list (option_map (cue_event c) o) ++ before)).shown
      go None none = absurd (none-some commit none)
      go (Some cue) some =
          let m = w.clients c in
          let v = run k proto before in
          let shows = cli_shows k c (v.clis c) cue in
          let found = commit_among (marks m.seat cue) commit some in
          let backward : marks m.seat cue ≡ reverse shows =
          ap (λ x. cli_marks (alone x) m.seat.me m.seat.cli cue) (sym (st.clusters c lt))
          ∙ ap (λ j. cli_marks k j m.seat.cli cue) (st.mine c lt)
          ∙ ap (λ s. cli_marks k c s cue) (sym (st.clients c lt))
          ∙ moves_backward c (moves_at k c (v.clis c) cue) (v.clis c) in
          let shown : Contains shows found.0 = Contains-reverse shows found.0 (subst (λ (l : List Seen). Contains l found.0) backward found.1) in
          let own = own_commit c (moves_at k c (v.clis c) cue) (v.clis c) found.0 commit shown found.2 in
          let all : (run k proto (cue_event c cue ∷ before)).shown ≡ (if is_faulty k.faulty (Client c) then v.shown else shows ++ v.shown) =
          ap (λ u. u.shown) (cue_happens before c cue) ∙ (cued k proto v c cue lt).shown in
          let there : Contains (run k proto (cue_event c cue ∷ before)).shown found.0 =
          subst (λ (l : List Seen). Contains l found.0) (sym all)
          (subst (λ (b : Bool). Contains (if b then v.shown else shows ++ v.shown) found.0) (sym good) (Contains-append_left shows v.shown found.0 shown)) in
          record { request = own.request; digest = own.digest; there = subst (λ s. Contains (run k proto (cue_event c cue ∷ before)).shown s) own.is there; stamp = own.stamp }

    commits_shown : (xs : List (Party × NodeEvent)) (w : Members P) (before : List Happening) → Stand w before → (commit : Commit)
        → Contains (commits_in client_rules (w.clients c) (events_at_client c xs)) commit → IsSeen c commit (run k proto (all_happens proto w xs ++ before)).shown
    commits_shown [] w before st commit gone = absurd (omega (arith, gone.1))
    commits_shown ((Replica q, e) ∷ xs) w before st commit has =
        let now = members_after proto w (Replica q) e in
        subst (λ (hs : List Happening). IsSeen c commit (run k proto hs).shown) (sym (append_assoc (all_happens proto now xs) (happens proto w (Replica q) e) before))
        (commits_shown xs now (happens proto w (Replica q) e ++ before) (replica_stands w before q e st) commit has)
    commits_shown ((Client d, e) ∷ xs) w before st commit has =
        let v = (client_step (w.clients d) e).after in
        let now = members_after proto w (Client d) e in
        let after = happens proto w (Client d) e ++ before in
        subst (λ (hs : List Happening). IsSeen c commit (run k proto hs).shown) (sym (append_assoc (all_happens proto now xs) (happens proto w (Client d) e) before))
        (elim (cases_Bool (d == c)) [
          | inl same ↦
              let is : d ≡ c = eqb-true d c same in
              let put_is : put w.clients d v c ≡ (client_step (w.clients c) e).after =
              ap (λ j. put w.clients d v j) (sym is) ∙ put_same w.clients d v ∙ ap (λ j. (client_step (w.clients j) e).after) is in
              elim (option_cases (client_step (w.clients c) e).commit (commits_in client_rules (client_step (w.clients c) e).after (events_at_client c xs)) commit (rw same at has)) [
                | inl new ↦
                    commit_later c commit (all_happens proto now xs) after
                    (subst (λ j. IsSeen c commit (run k proto (happens proto w (Client j) e ++ before)).shown) (sym is) (commit_now w before st e commit new))
                | inr rest ↦
                    commits_shown xs now after (client_stands w before d e st) commit
                    (subst (λ m. Contains (commits_in client_rules m (events_at_client c xs)) commit) (sym put_is) rest)
              ]
          | inr differ ↦
              commits_shown xs now after (client_stands w before d e st) commit
              (subst (λ m. Contains (commits_in client_rules m (events_at_client c xs)) commit) (sym (put_other w.clients d c v (λ is. eqb-false d c differ (sym is)))) (rw differ at has))
        ])

  pub are_run : (counted : P → Option ℕ) (w : Members P) (xs : List (Party × NodeEvent)) → AllStartIn k proto w → AreRun k proto counted w xs
  are_run counted w xs starts =
      let first : Stand w [] = record {
        placed = λ r lt. (starts.replicas r lt).0.setup;
        own = λ r lt. (starts.replicas r lt).1;
        replicas = λ r lt.
            let s = starts.replicas r lt in
            sym (s.0.first ∙ ap (λ j. (run k proto []).reps j) s.1);
        clusters = λ c lt. (starts.clients c lt).2;
        mine = λ c lt. (starts.clients c lt).1;
        clients = λ c lt. sym (starts.clients c lt).0;
      } in
      let last = all_stand xs w [] first in
      record {
        replicas = λ r lt. subst (λ (hs : List Happening). (run k proto hs).reps r ≡ ((all_after proto w xs).replicas r).site.rep) (append-nil (all_happens proto w xs)) (last.replicas r lt) ∙ ap (λ m. m.site.rep) (replica_comes counted r xs w);
        clients = λ c lt. subst (λ (hs : List Happening). (run k proto hs).clis c ≡ ((all_after proto w xs).clients c).seat.cli) (append-nil (all_happens proto w xs)) (last.clients c lt) ∙ ap (λ m. m.seat.cli) (client_comes c xs w);
        commits = λ c lt good commit has.
            was_seen c commit (all_happens proto w xs)
            (subst (λ (hs : List Happening). IsSeen c commit (run k proto hs).shown) (append-nil (all_happens proto w xs)) (commits_shown c lt good xs w [] first commit has));
      }

-- ---- before their first events

pub first_start : {P : Type 0} (proto : Proto P) (c : Cluster) (faulty : List Party) (signatures : ℕ) (w : Members P) → AreFirst proto c signatures w → AllStartIn (setup_among c faulty signatures w) proto w
first_start proto c faulty signatures w are =
    let k = setup_among c faulty signatures w in
    record {
      replicas = λ r lt.
          let m = w.replicas r in
          let first = are.replicas r lt in
          let me : m.site.me ≡ r = ap (λ x. x.site.me) first.1 in (
            record {
              first = ap (λ x. x.site.rep) first.1 ∙ ap (λ j. first_rep k proto j) (sym me);
              setup = record {
                cluster = sym (ap (λ x. x.site.cluster) first.1);
                signatures = sym (ap (λ x. x.site.signatures) first.1 ∙ first.2);
                sig = ap (λ j. (pen_of (w.replicas j).credentials.keys m.site.me 0).sig) me;
              };
            },
            me,
          );
      clients = λ q lt.
          let first = are.clients q lt in
          (ap (λ x. x.seat.cli) first.1, ap (λ x. x.seat.me) first.1, sym (ap (λ x. x.seat.cluster) first.1));
    }
