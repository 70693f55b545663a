-- An event leaves a lawful list of acts, and a replica that stands where its acts leave it.
use Rattle.std.proofs.Common.{◌≡◌, ℕ, ◌+◌, ◌*◌, ◌<◌, ◌≤◌, Bool, true, false, Decides, List, [], ◌∷◌, ◌++◌, ◌⊎◌, refl, sym, ap, ◌∙◌, subst, inl, inr, arith, cond, length, map}
use Rattle.std.specs.Prelude.{Contains, nat_lt}
use Rattle.std.proofs.lemmas.Bool.{cases_Bool}
use Rattle.std.proofs.lemmas.Bool.Decides.{nat_tests}
use Rattle.ab_num.proofs.Lists.{Contains-head, Contains-tail, Contains-one, Contains-none}
use Rattle.ab_lock.specs.Steps.{Change, Step, State, after, state_of, entry_of, Can, Follows}
use Rattle.ab_lock.specs.Acts.{LockContent, Prepare, Commit, ViewChange, LockAct, steps_of, Knows, its_own, KnowsChanges, Backs, AreLawful}
use Rattle.ab_lock.specs.Votes.{SlotVote, settled}
use Rattle.ab_lock.specs.ViewChanges.{enter, leave, own_change}
use Rattle.ab_lock.specs.Events.{Peer, act_of, state_by, votes_by, commits_by, peer_by, settles_by, entered_peer, left_peer, accept, accepted_peer}
use Rattle.ab_lock.specs.Standing.{AreKeptVotes, ArePrepares, AreCommits, PeerStands}
use Rattle.ab_lock.proofs.ActLemmas.{steps_own, Knows-more, lawful_follows}
use Rattle.ab_lock.proofs.VoteLemmas.{IsInView, KnowsMade, AllGood, votes_known, commits_known, settled_in_view, settled_good}
use Rattle.ab_lock.proofs.ViewChangeLemmas.{enter_can, leave_can}

pub state_by-state_of : {V X : Type 0} (more trace : List (Step V X)) → state_by more (state_of trace) ≡ state_of (more ++ trace)
state_by-state_of [] trace = refl
state_by-state_of (step ∷ more) trace = ap (λ s. after s step) (state_by-state_of more trace)

module _ {V X : Type 0} (digest : V → X) (f me : ℕ) where
  pub kept_more : (a : LockAct V X) (acts : List (LockAct V X)) (what : ℕ → ℕ → X → LockContent X) (votes : List (SlotVote X)) → AreKeptVotes digest f acts me what votes → AreKeptVotes digest f (a ∷ acts) me what votes
  kept_more a acts what votes kept = record { once = kept.once; within = kept.within; known = λ u is. Knows-more digest a acts me (what u.by u.slot u.x) (kept.known u is) }

  pub none_kept : (acts : List (LockAct V X)) (what : ℕ → ℕ → X → LockContent X) → AreKeptVotes digest f acts me what []
  none_kept acts what = record { once = tt; within = λ u is. absurd (Contains-none u is); known = λ u is. absurd (Contains-none u is) }

  -- what an act's own steps make is known
  own_made : (acts : List (LockAct V X)) (claims : List (LockContent X)) (steps : List (Step V X)) (step : Step V X) → Contains steps step → KnowsMade digest f (act_of me claims steps ∷ acts) me step
  own_made acts claims steps step is c makes = its_own (record { act = act_of me claims steps; is_in = Contains-head (act_of me claims steps) acts; step = step; is_step = is; makes = makes })

  -- so is its own VIEW-CHANGE
  pub own_change_known : (acts : List (LockAct V X)) (claims : List (LockContent X)) (steps : List (Step V X)) (k : ℕ) (s : State V) (w : ℕ) → Contains steps (leave digest k s w)
      → Knows digest (act_of me claims steps ∷ acts) me (ViewChange me w (map (entry_of digest) (own_change k me s).certs))
  own_change_known acts claims steps k s w is = own_made acts claims steps (leave digest k s w) is (ViewChange me w (map (entry_of digest) (own_change k me s).certs)) (Contains-head _ [])

  module _ (goes : List V → V → Bool) (k : ℕ) (lt : me < 3 * f + 1) (acts : List (LockAct V X)) (trace : List (Step V X)) where
    abbrev AllInView : List (Step V X) → Type 0
    AllInView more = (step : Step V X) → Contains more step → IsInView step

    abbrev AllMade : List (Step V X) → Type 0
    AllMade more = (step : Step V X) → Contains more step → KnowsMade digest f acts me step

    votes_by_known : (more : List (Step V X)) (votes : List (SlotVote X)) → Follows digest goes k (more ++ trace) → AllInView more → AllMade more
        → ArePrepares digest f acts me (state_of trace).view votes → ArePrepares digest f acts me (state_of (more ++ trace)).view (votes_by me more votes)
    votes_by_known [] votes lawful here made known = known
    votes_by_known (step ∷ more) votes lawful here made known =
        votes_known digest f acts me goes k (state_of (more ++ trace)) step (votes_by me more votes) lt lawful.0 (here step (Contains-head step more)) (made step (Contains-head step more))
        (votes_by_known more votes lawful.1 (λ s is. here s (Contains-tail step s more is)) (λ s is. made s (Contains-tail step s more is)) known)

    commits_by_known : (more : List (Step V X)) (commits : List (SlotVote X)) → Follows digest goes k (more ++ trace) → AllInView more → AllMade more
        → AreCommits digest f acts me (state_of trace).view commits → AreCommits digest f acts me (state_of (more ++ trace)).view (commits_by digest me more commits)
    commits_by_known [] commits lawful here made known = known
    commits_by_known (step ∷ more) commits lawful here made known =
        commits_known digest f acts me goes k (state_of (more ++ trace)) step (commits_by digest me more commits) lt lawful.0 (here step (Contains-head step more)) (made step (Contains-head step more))
        (commits_by_known more commits lawful.1 (λ s is. here s (Contains-tail step s more is)) (λ s is. made s (Contains-tail step s more is)) known)

module _ {V X : Type 0} (digest : V → X) (goes : List V → V → Bool) (k f : ℕ) (Source : ℕ → V → Type 0) (me : ℕ) (lt : me < 3 * f + 1) where
  abbrev Acts : Type 0
  Acts = List (LockAct V X)

  abbrev Lawful : Acts → Type 0
  Lawful acts = AreLawful digest f Source goes k acts

  -- an act that leads from a lawful list to a lawful list, and to the peer q
  abbrev LeadsTo : Acts → List (LockContent X) → List (Step V X) → Peer V X → Type 0
  LeadsTo acts claims steps q = Lawful (act_of me claims steps ∷ acts) × PeerStands digest f (act_of me claims steps ∷ acts) me q

  -- one step that is allowed, and rests on what is known
  step_lawful : (acts : Acts) (step : Step V X) (q : Peer V X) → Lawful acts → Can digest goes k (state_of (steps_of acts me)) step → Backs digest f Source (act_of me [] (step ∷ []) ∷ acts) me step
      → q.core ≡ after (state_of (steps_of acts me)) step
      → ArePrepares digest f (act_of me [] (step ∷ []) ∷ acts) me q.core.view q.votes → AreCommits digest f (act_of me [] (step ∷ []) ∷ acts) me q.core.view q.commits
      → LeadsTo acts [] (step ∷ []) q
  step_lawful acts step q lawful can backs core votes commits = (
    (
      (can, lawful_follows digest f Source goes k acts lawful me),
      (λ other is. subst (λ (z : Step V X). Backs digest f Source (act_of me [] (step ∷ []) ∷ acts) me z) (Contains-one step other is) backs),
      lawful,
    ),
    record { core = core ∙ ap (λ l. state_of l) (sym (steps_own digest (act_of me [] (step ∷ [])) acts me refl)); votes = votes; commits = commits },
  )

  -- accepting a value that has a source and may follow
  pub accept_lawful : (acts : Acts) (p : Peer V X) (value : V) → Lawful acts → PeerStands digest f acts me p
      → p.core.changing ≡ false → length p.core.accepted ≤ k → goes p.core.accepted value ≡ true → Source (length p.core.accepted) value
      → LeadsTo acts [] (accept p.core value ∷ []) (accepted_peer value p)
  accept_lawful acts p value lawful stands still room on source =
      let step = accept {V = V} {X = X} p.core value in
      let act = act_of me [] (accept p.core value ∷ []) in
      step_lawful acts (accept p.core value) (accepted_peer value p) lawful
      (subst (λ (s : State V). Can digest goes k s (accept p.core value)) stands.core (still, room, on, refl)) source
      (ap (λ s. after s (accept {V = V} {X = X} p.core value)) stands.core)
      (kept_more digest f me act acts _ p.votes stands.votes)
      (kept_more digest f me act acts _ p.commits stands.commits)

  -- leaving for a higher view, after a time-out or a VIEW-CHANGE
  pub leave_lawful : (acts : Acts) (p : Peer V X) (w : ℕ) → Lawful acts → PeerStands digest f acts me p → p.core.view < w → LeadsTo acts [] (leave digest k p.core w ∷ []) (left_peer digest k w p)
  leave_lawful acts p w lawful stands above =
      let can = leave_can digest goes k (steps_of acts me) w (lawful_follows digest f Source goes k acts lawful me) (subst (λ (s : State V). s.view < w) stands.core above) in
      let act = act_of me [] (leave digest k p.core w ∷ []) in
      step_lawful acts (leave digest k p.core w) (left_peer digest k w p) lawful
      (subst (λ (s : State V). Can digest goes k (state_of (steps_of acts me)) (leave digest k s w)) (sym stands.core) can) tt
      (ap (λ s. after s (leave digest k p.core w)) stands.core)
      (none_kept digest f me (act ∷ acts) (λ r m x. Prepare r w m x))
      (none_kept digest f me (act ∷ acts) (λ r m x. Commit r w m x))

  view_equal : (v w : ℕ) → nat_lt v w ≡ false → (v < w) ⊎ ((v ≡ w) × Unit {0}) → v ≡ w
  view_equal v w not_less (inl less) = absurd (contra v w not_less less)
    where
      contra : (v w : ℕ) → nat_lt v w ≡ false → v < w → ⊥
      contra v w e h = grind (arith, nat_tests)
  view_equal v w not_less (inr equal) = equal.0

  entered_votes : (acts : Acts) (s : State V) (w : ℕ) (what : ℕ → ℕ → ℕ → X → LockContent X) (votes : List (SlotVote X)) → ((s.view < w) ⊎ ((s.view ≡ w) × (s.changing ≡ true)))
      → AreKeptVotes digest f acts me (what s.view) votes → AreKeptVotes digest f acts me (what w) (cond (nat_lt s.view w) [] votes)
  entered_votes acts s w what votes may known =
      elim (cases_Bool (nat_lt s.view w)) [
        | inl above ↦ rw above (none_kept digest f me acts (what w))
        | inr not_above ↦
            let e : s.view ≡ w = view_equal s.view w not_above (elim may [ inl less ↦ inl less | inr equal ↦ inr (equal.0, tt) ]) in
            rw not_above (subst (λ (u : ℕ). AreKeptVotes digest f acts me (what u) votes) e known)
      ]

  -- entering a view from VIEW-CHANGEs that the replica knows
  pub enter_lawful : (acts : Acts) (p : Peer V X) (w : ℕ) (vcs : List (Change V)) → Lawful acts → PeerStands digest f acts me p → ((p.core.view < w) ⊎ ((p.core.view ≡ w) × (p.core.changing ≡ true)))
      → KnowsChanges digest f (act_of me [] (enter goes k w vcs ∷ []) ∷ acts) me w vcs → LeadsTo acts [] (enter goes k w vcs ∷ []) (entered_peer goes k w vcs p)
  enter_lawful acts p w vcs lawful stands may knows =
      let act = act_of me [] (enter goes k w vcs ∷ []) in
      step_lawful acts (enter goes k w vcs) (entered_peer goes k w vcs p) lawful
      (subst (λ (s : State V). Can digest goes k s (enter goes k w vcs)) stands.core (enter_can digest goes k p.core w vcs may)) knows
      (ap (λ s. after s (enter {V = V} {X = X} goes k w vcs)) stands.core)
      (entered_votes (act ∷ acts) p.core w (λ v r m x. Prepare r v m x) p.votes may (kept_more digest f me act acts _ p.votes stands.votes))
      (entered_votes (act ∷ acts) p.core w (λ v r m x. Commit r v m x) p.commits may (kept_more digest f me act acts _ p.commits stands.commits))

  module _ (same : X → X → Bool) (decides : (x y : X) → Decides (same x y) (x ≡ y)) (n : ℕ) (acts : Acts) (claims : List (LockContent X)) (q : Peer V X) where
    abbrev more : List (Step V X)
    more = settles_by digest same goes f me n q

    abbrev now : Acts
    now = act_of me claims (settles_by digest same goes f me n q) ∷ acts

    goes_on : Lawful acts → q.core ≡ state_of (steps_of acts me) → ArePrepares digest f now me q.core.view q.votes → AreCommits digest f now me q.core.view q.commits
        → AllGood digest same decides goes k f Source now me more (steps_of acts me)
    goes_on lawful core votes commits =
        subst (λ (s : State V). ((step : Step V X) → Contains (settled digest same goes f me n s q.votes q.commits) step → KnowsMade digest f now me step)
        → AllGood digest same decides goes k f Source now me (settled digest same goes f me n s q.votes q.commits) (steps_of acts me)) (sym core)
        (settled_good digest same decides goes k f Source now me n (steps_of acts me) q.votes q.commits lt (lawful_follows digest f Source goes k acts lawful me)
        (subst (λ (s : State V). ArePrepares digest f now me s.view q.votes) core votes)
        (subst (λ (s : State V). AreCommits digest f now me s.view q.commits) core commits))
        (λ step is. own_made digest f me acts claims more step is)

    -- going on by itself, at most n steps, with these claims
    pub settle_lawful : Lawful acts → q.core ≡ state_of (steps_of acts me) → ArePrepares digest f now me q.core.view q.votes → AreCommits digest f now me q.core.view q.commits
        → LeadsTo acts claims more (peer_by digest me more q)
    settle_lawful lawful core votes commits =
        let good = goes_on lawful core votes commits in
        let whole : steps_of now me ≡ more ++ steps_of acts me = steps_own digest (act_of me claims more) acts me refl in
        let state_is : state_by more q.core ≡ state_of (more ++ steps_of acts me) = ap (λ s. state_by more s) core ∙ state_by-state_of more (steps_of acts me) in
        let made = λ (step : Step V X) (is : Contains more step). own_made digest f me acts claims more step is in
        let in_view = λ (step : Step V X) (is : Contains more step). settled_in_view digest same goes f me n q.core q.votes q.commits step is in (
          (good.0, good.1, lawful),
          record {
            core = state_is ∙ ap (λ l. state_of l) (sym whole);
            votes = subst (λ (s : State V). ArePrepares digest f now me s.view (votes_by me more q.votes)) (sym state_is)
                (votes_by_known digest f me goes k lt now (steps_of acts me) more q.votes good.0 in_view made (subst (λ (s : State V). ArePrepares digest f now me s.view q.votes) core votes));
            commits = subst (λ (s : State V). AreCommits digest f now me s.view (commits_by digest me more q.commits)) (sym state_is)
                (commits_by_known digest f me goes k lt now (steps_of acts me) more q.commits good.0 in_view made (subst (λ (s : State V). AreCommits digest f now me s.view q.commits) core commits));
          },
        )
