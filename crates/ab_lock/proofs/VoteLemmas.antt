-- What a replica goes on to do is allowed, and rests on what it knows.
use Rattle.std.proofs.Common.{◌≡◌, ℕ, zero, suc, ◌+◌, ◌*◌, ◌<◌, ◌≤◌, ◌==◌, Bool, true, false, Decides, Option, Some, None, List, [], ◌∷◌, ◌++◌, ◌⊎◌, length, take, slice_get, refl, sym, ap, ◌∙◌, subst, inl, inr, arith, append_assoc}
use Rattle.std.specs.Prelude.{Contains, nat_eq, nat_lt, ◌&&◌, ◌||◌, pred}
use Rattle.std.specs.List.{IsDistinct, list_any}
use Rattle.std.proofs.lemmas.List.{length-take-le}
use Rattle.std.proofs.lemmas.List.Elements.{Contains-append_left, Contains-append_right, Contains-append_cases}
use Rattle.std.proofs.lemmas.Bool.{cases_Bool, and_parts, ltb-true, leb-true}
use Rattle.std.proofs.lemmas.Bool.Decides.{Decides-eqb}
use Rattle.std.proofs.lemmas.Option.{none-some, same_Some}
use Rattle.ab_num.proofs.Lists.{Contains-head, Contains-tail, Contains-cons_cases, Contains-one, Contains-none}
use Rattle.ab_hist.proofs.KeptLemmas.{slice_get-take}
use Rattle.ab_lock.specs.Quorums.{quorum}
use Rattle.ab_lock.specs.Steps.{Step, accepts, signs, prepares, changes, enters, executes, State, after, state_of, Can, Follows}
use Rattle.ab_lock.specs.Acts.{LockContent, Prepare, Commit, LockAct, Knows, KnowsQuorum, Backs, made, commit_of}
use Rattle.ab_lock.specs.Votes.{SlotVote, is_for, voters, IsOnce, or_else, is_enough, where_enough, executes_at, signs_at, next_sign, next_prepare, next_execute, next, keep, keep_commit, votes_after, commits_after, onward, settled}
use Rattle.ab_lock.specs.Standing.{AreKeptVotes, ArePrepares, AreCommits}
use Rattle.ab_lock.proofs.Lists.{Contains-take}
use Rattle.ab_lock.proofs.Consistent.{IsConsistent, consistent}
use Rattle.ab_abs.proofs.Quorums.{out_apart, apart_out}

module _ {X : Type 0} (same : X → X → Bool) (decides : (x y : X) → Decides (same x y) (x ≡ y)) where
  record IsVote (votes : List (SlotVote X)) (n : ℕ) (x : X) (q : ℕ) : Type 0 where
    vote : SlotVote X
    is_in : Contains votes vote
    by_is : vote.by ≡ q
    slot_is : vote.slot ≡ n
    x_is : vote.x ≡ x

  vote_more : (u : SlotVote X) (votes : List (SlotVote X)) (n : ℕ) (x : X) (q : ℕ) → IsVote votes n x q → IsVote (u ∷ votes) n x q
  vote_more u votes n x q v = record { vote = v.vote; is_in = Contains-tail u v.vote votes v.is_in; by_is = v.by_is; slot_is = v.slot_is; x_is = v.x_is }

  voters_in : (votes : List (SlotVote X)) (n : ℕ) (x : X) (q : ℕ) → Contains (voters same votes n x) q → IsVote votes n x q
  voters_in [] n x q is = absurd (Contains-none q is)
  voters_in (u ∷ votes) n x q is =
      elim (cases_Bool (is_for same u n x)) [
        | inl fits ↦
            let b = and_parts (u.slot == n) (same u.x x) fits in
            elim (Contains-cons_cases u.by (voters same votes n x) q (rw fits at is)) [
              | inl e ↦ record { vote = u; is_in = Contains-head u votes; by_is = e; slot_is = (Decides-eqb u.slot n).0 b.0; x_is = (decides u.x x).0 b.1 }
              | inr more ↦ vote_more u votes n x q (voters_in votes n x q more)
            ]
        | inr other ↦ vote_more u votes n x q (voters_in votes n x q (rw other at is))
      ]

  voters_distinct : (votes : List (SlotVote X)) (n : ℕ) (x : X) → IsOnce votes → IsDistinct nat_eq (voters same votes n x)
  unfolding IsDistinct
  voters_distinct [] n x once = tt
  voters_distinct (u ∷ votes) n x once =
      elim (cases_Bool (is_for same u n x)) [
        | inl fits ↦
            let b = and_parts (u.slot == n) (same u.x x) fits in
            let out = out_apart u.by (voters same votes n x) (λ is.
            let v = voters_in votes n x u.by is in
            once.0 v.vote v.is_in v.by_is (v.slot_is ∙ sym ((Decides-eqb u.slot n).0 b.0))) in
            rw fits (out, voters_distinct votes n x once.1)
        | inr other ↦ rw other (voters_distinct votes n x once.1)
      ]

-- the first of distinct numbers are distinct
pub take_distinct : (m : ℕ) (xs : List ℕ) → IsDistinct nat_eq xs → IsDistinct nat_eq (take m xs)
unfolding IsDistinct
take_distinct zero xs d = tt
take_distinct (suc m) [] d = d
take_distinct (suc m) (x ∷ xs) d = (out_apart x (take m xs) (λ is. apart_out x xs d.0 (Contains-take m xs x is)), take_distinct m xs d.1)

-- a step that changes neither the view nor what is accepted
abbrev pub IsInView : {V X : Type 0} → Step V X → Type 0
IsInView (accepts n value) = ⊥
IsInView (signs v n x) = Unit {0}
IsInView (prepares v h) = Unit {0}
IsInView (changes w entries) = ⊥
IsInView (enters w vcs chosen) = ⊥
IsInView (executes v n value) = Unit {0}

-- why a step comes next
module _ {V X : Type 0} (digest : V → X) (same : X → X → Bool) (goes : List V → V → Bool) (f : ℕ) (s : State V) (votes commits : List (SlotVote X)) where
  pub data IsNext : Step V X → Type 0 where
    by_sign : (value : V) → s.signed ≡ s.prepared → slice_get s.accepted s.signed ≡ Some value → IsNext (signs s.view s.signed (digest value))
    by_prepare : (value : V) → s.prepared < s.signed → slice_get s.accepted s.prepared ≡ Some value → is_enough same f votes s.prepared (digest value) ≡ true
        → IsNext (prepares s.view (take (suc s.prepared) s.accepted))
    by_execute : (value : V) → length s.executed < s.prepared → slice_get s.accepted (length s.executed) ≡ Some value → is_enough same f commits (length s.executed) (digest value) ≡ true
        → goes s.executed value ≡ true → IsNext (executes s.view (length s.executed) value)

  sign_is : (step : Step V X) → next_sign digest s ≡ Some step → IsNext step
  sign_is step is =
      elim (cases_Bool (s.signed == s.prepared)) [
        | inl level ↦ of_value (slice_get s.accepted s.signed) refl ((Decides-eqb s.signed s.prepared).0 level) (rw level at is)
        | inr behind ↦ absurd (none-some step (rw behind at is))
      ]
    where
      of_value : (o : Option V) → slice_get s.accepted s.signed ≡ o → s.signed ≡ s.prepared → signs_at digest s.view s.signed o ≡ Some step → IsNext step
      of_value None there level is = absurd (none-some step is)
      of_value (Some value) there level is = subst (λ (z : Step V X). IsNext z) (same_Some _ step is) (by_sign value level there)

  prepare_is : (step : Step V X) → next_prepare digest same f s votes ≡ Some step → IsNext step
  prepare_is step is =
      elim (cases_Bool (nat_lt s.prepared s.signed)) [
        | inl ahead ↦ of_value (slice_get s.accepted s.prepared) refl (ltb-true s.prepared s.signed ahead) (rw ahead at is)
        | inr level ↦ absurd (none-some step (rw level at is))
      ]
    where
      of_value : (o : Option V) → slice_get s.accepted s.prepared ≡ o → s.prepared < s.signed
          → where_enough digest same f votes s.prepared (prepares s.view (take (suc s.prepared) s.accepted)) o ≡ Some step → IsNext step
      of_value None there ahead is = absurd (none-some step is)
      of_value (Some value) there ahead is =
          elim (cases_Bool (is_enough same f votes s.prepared (digest value))) [
            | inr few ↦ absurd (none-some step (rw few at is))
            | inl many ↦ subst (λ (z : Step V X). IsNext z) (same_Some _ step (rw many at is)) (by_prepare value ahead there many)
          ]

  execute_is : (step : Step V X) → next_execute digest same goes f s commits ≡ Some step → IsNext step
  execute_is step is =
      elim (cases_Bool (nat_lt (length s.executed) s.prepared)) [
        | inl ahead ↦ of_value (slice_get s.accepted (length s.executed)) refl (ltb-true (length s.executed) s.prepared ahead) (rw ahead at is)
        | inr level ↦ absurd (none-some step (rw level at is))
      ]
    where
      of_value : (o : Option V) → slice_get s.accepted (length s.executed) ≡ o → length s.executed < s.prepared
          → executes_at digest same goes f commits s.view s.executed o ≡ Some step → IsNext step
      of_value None there ahead is = absurd (none-some step is)
      of_value (Some value) there ahead is =
          elim (cases_Bool (is_enough same f commits (length s.executed) (digest value) && goes s.executed value)) [
            | inr few ↦ absurd (none-some step (rw few at is))
            | inl both ↦
                let sure = and_parts (is_enough same f commits (length s.executed) (digest value)) (goes s.executed value) both in
                subst (λ (z : Step V X). IsNext z) (same_Some _ step (rw both at is)) (by_execute value ahead there sure.0 sure.1)
          ]

  or_else_cases : (a b : Option (Step V X)) (step : Step V X) → or_else a b ≡ Some step → (a ≡ Some step) ⊎ (b ≡ Some step)
  or_else_cases None b step is = inr is
  or_else_cases (Some other) b step is = inl is

  pub next_is : (step : Step V X) → next digest same goes f s votes commits ≡ Some step → IsNext step
  next_is step is =
      elim (or_else_cases (next_sign digest s) (or_else (next_prepare digest same f s votes) (next_execute digest same goes f s commits)) step is) [
        | inl sign ↦ sign_is step sign
        | inr rest ↦ elim (or_else_cases (next_prepare digest same f s votes) (next_execute digest same goes f s commits) step rest) [
          | inl prepare ↦ prepare_is step prepare
          | inr execute ↦ execute_is step execute
        ]
      ]

  -- it may be done, whatever is known of the votes
  pub next_can : (k : ℕ) (step : Step V X) → IsNext step → Can digest goes k s step × IsInView step
  next_can k step (by_sign value level there) = ((refl, refl, level, (value, there, refl)), tt)
  next_can k step (by_prepare value ahead there many) = ((refl, ahead, refl), tt)
  next_can k step (by_execute value ahead there many on) = ((refl, refl, ahead, there), tt)

-- what a replica goes on with stays in its view
pub settled_in_view : {V X : Type 0} (digest : V → X) (same : X → X → Bool) (goes : List V → V → Bool) (f me n : ℕ) (s : State V) (votes commits : List (SlotVote X)) (step : Step V X)
    → Contains (settled digest same goes f me n s votes commits) step → IsInView step
settled_in_view digest same goes f me zero s votes commits step is = absurd (Contains-none step is)
settled_in_view {V} {X} digest same goes f me (suc n) s votes commits step is = of_next (next digest same goes f s votes commits) refl (λ t us cs. settled_in_view digest same goes f me n t us cs step) is
  where
    of_next : (o : Option (Step V X)) → next digest same goes f s votes commits ≡ o
        → ((t : State V) (us cs : List (SlotVote X)) → Contains (settled digest same goes f me n t us cs) step → IsInView step)
        → Contains (onward digest same goes f me (settled digest same goes f me n) s votes commits o) step → IsInView step
    of_next None why further has = absurd (Contains-none step has)
    of_next (Some first) why further has =
        elim (Contains-append_cases (settled digest same goes f me n (after s first) (votes_after me first votes) (commits_after digest me first commits)) (first ∷ []) step has) [
          | inl later ↦ further (after s first) (votes_after me first votes) (commits_after digest me first commits) later
          | inr now ↦ subst (λ (z : Step V X). IsInView z) (Contains-one first step now) (next_can digest same goes f s votes commits 0 first (next_is digest same goes f s votes commits first why)).1
        ]

-- one more vote
none_there : {X : Type 0} (u : SlotVote X) (votes : List (SlotVote X)) → list_any (λ w. (w.by == u.by) && (w.slot == u.slot)) votes ≡ false → (w : SlotVote X) → Contains votes w → w.by ≡ u.by → w.slot ≡ u.slot → ⊥
none_there u [] out w is same_by same_slot = Contains-none w is
none_there u (o ∷ votes) out w is same_by same_slot =
    elim (cases_Bool ((o.by == u.by) && (o.slot == u.slot))) [
      | inl here ↦ absurd (cc (sym (ap (λ b. b || list_any (λ w. (w.by == u.by) && (w.slot == u.slot)) votes) here) ∙ out))
      | inr other ↦ elim (Contains-cons_cases o votes w is) [
        | inl e ↦
            let by_is : (o.by == u.by) ≡ true = (Decides-eqb o.by u.by).1 (ap (λ z. z.by) e ∙ same_by) in
            let slot_is : (o.slot == u.slot) ≡ true = (Decides-eqb o.slot u.slot).1 (ap (λ z. z.slot) e ∙ same_slot) in
            absurd (cc (sym (ap (λ b. b && (o.slot == u.slot)) by_is ∙ slot_is) ∙ other))
        | inr more ↦ none_there u votes (sym (ap (λ b. b || list_any (λ w. (w.by == u.by) && (w.slot == u.slot)) votes) other) ∙ out) w more same_by same_slot
      ]
    ]

module _ {V X : Type 0} (digest : V → X) (f : ℕ) (acts : List (LockAct V X)) (me : ℕ) where
  pub keep_kept : (what : ℕ → ℕ → X → LockContent X) (u : SlotVote X) (votes : List (SlotVote X)) → AreKeptVotes digest f acts me what votes → u.by < 3 * f + 1 → Knows digest acts me (what u.by u.slot u.x) → AreKeptVotes digest f acts me what (keep u votes)
  keep_kept what u votes kept lt knows =
      elim (cases_Bool (list_any (λ w. (w.by == u.by) && (w.slot == u.slot)) votes)) [
        | inl there ↦ rw there kept
        | inr out ↦ rw out (record {
          once = (none_there u votes out, kept.once);
          within = λ w is. elim (Contains-cons_cases u votes w is) [ inl e ↦ subst (λ (z : SlotVote X). z.by < 3 * f + 1) e lt | inr more ↦ kept.within w more ];
          known = λ w is. elim (Contains-cons_cases u votes w is) [ inl e ↦ subst (λ (z : SlotVote X). Knows digest acts me (what z.by z.slot z.x)) e knows | inr more ↦ kept.known w more ];
        })
      ]

  -- replica me knows what it makes by a step
  abbrev pub KnowsMade : Step V X → Type 0
  KnowsMade step = (c : LockContent X) → Contains (made digest me step) c → Knows digest acts me c

  module _ (goes : List V → V → Bool) (k : ℕ) where
    pub votes_known : (s : State V) (step : Step V X) (votes : List (SlotVote X)) → me < 3 * f + 1 → Can digest goes k s step → IsInView step → KnowsMade step → ArePrepares digest f acts me s.view votes
        → ArePrepares digest f acts me (after s step).view (votes_after me step votes)
    votes_known s (accepts n value) votes lt can here knows kept = absurd here
    votes_known s (signs v n x) votes lt can here knows kept =
        keep_kept (λ q m y. Prepare q s.view m y) (record { by = me; slot = n; x = x }) votes kept lt
        (subst (λ (u : ℕ). Knows digest acts me (Prepare me u n x)) can.0 (knows (Prepare me v n x) (Contains-head (Prepare me v n x) [])))
    votes_known s (prepares v h) votes lt can here knows kept = kept
    votes_known s (changes w entries) votes lt can here knows kept = absurd here
    votes_known s (enters w vcs chosen) votes lt can here knows kept = absurd here
    votes_known s (executes v n value) votes lt can here knows kept = kept

    pub commits_known : (s : State V) (step : Step V X) (commits : List (SlotVote X)) → me < 3 * f + 1 → Can digest goes k s step → IsInView step → KnowsMade step → AreCommits digest f acts me s.view commits
        → AreCommits digest f acts me (after s step).view (commits_after digest me step commits)
    commits_known s (accepts n value) commits lt can here knows kept = absurd here
    commits_known s (signs v n x) commits lt can here knows kept = kept
    commits_known s (prepares v h) commits lt can here knows kept = of_last (slice_get h (pred (length h))) knows
      where
        of_last : (o : Option V) → ((c : LockContent X) → Contains (commit_of digest me v (pred (length h)) o) c → Knows digest acts me c) → AreCommits digest f acts me s.view (keep_commit digest me (pred (length h)) o commits)
        of_last None knows = kept
        of_last (Some value) knows =
            keep_kept (λ q m y. Commit q s.view m y) (record { by = me; slot = pred (length h); x = digest value }) commits kept lt
            (subst (λ (u : ℕ). Knows digest acts me (Commit me u (pred (length h)) (digest value))) can.0 (knows (Commit me v (pred (length h)) (digest value)) (Contains-head _ [])))
    commits_known s (changes w entries) commits lt can here knows kept = absurd here
    commits_known s (enters w vcs chosen) commits lt can here knows kept = absurd here
    commits_known s (executes v n value) commits lt can here knows kept = kept

module _ {V X : Type 0} (digest : V → X) (same : X → X → Bool) (decides : (x y : X) → Decides (same x y) (x ≡ y)) (goes : List V → V → Bool) (k f : ℕ) (Source : ℕ → V → Type 0) (acts : List (LockAct V X)) (me : ℕ) where
  enough_known : (what : ℕ → ℕ → X → LockContent X) (votes : List (SlotVote X)) (n : ℕ) (x : X) → AreKeptVotes digest f acts me what votes → is_enough same f votes n x ≡ true → KnowsQuorum digest f acts me (λ q. what q n x)
  enough_known what votes n x kept enough =
      let all = voters same votes n x in
      let m : quorum f ≤ length all = leb-true (quorum f) (length all) enough in
      record {
        by = take (quorum f) all;
        replicas = record {
          distinct = take_distinct (quorum f) all (voters_distinct same decides votes n x kept.once);
          within = λ q is. let v = voters_in same decides votes n x q (Contains-take (quorum f) all q is) in subst (λ (z : ℕ). z < 3 * f + 1) v.by_is (kept.within v.vote v.is_in);
        };
        enough = length-take-le (quorum f) all m;
        each = λ q is.
            let v = voters_in same decides votes n x q (Contains-take (quorum f) all q is) in
            subst (λ (z : ℕ). Knows digest acts me (what z n x)) v.by_is
            (subst (λ (j : ℕ). Knows digest acts me (what v.vote.by j x)) v.slot_is (subst (λ (y : X). Knows digest acts me (what v.vote.by v.vote.slot y)) v.x_is (kept.known v.vote v.is_in)));
      }

  -- the last of the values that become prepared
  last_of : (s : State V) (value other : V) (n : ℕ) → IsConsistent digest goes k s → slice_get s.accepted s.prepared ≡ Some value → s.prepared < s.signed → length (take (suc s.prepared) s.accepted) ≡ suc n
      → slice_get (take (suc s.prepared) s.accepted) n ≡ Some other → (n ≡ s.prepared) × (value ≡ other)
  last_of s value other n is there ahead len at =
      let full = length-take-le (suc s.prepared) s.accepted (omega (arith, ahead, is.of_accepted)) in
      let e : n ≡ s.prepared = omega (arith, len, full) in
      (e, same_Some value other (sym there ∙ (ap (slice_get s.accepted) (sym e) ∙ (sym (slice_get-take (suc s.prepared) s.accepted n (omega (arith, e))) ∙ at))))

  -- it rests on what is known
  next_backed : (s : State V) (votes commits : List (SlotVote X)) (step : Step V X) → IsConsistent digest goes k s → ArePrepares digest f acts me s.view votes → AreCommits digest f acts me s.view commits
      → IsNext digest same goes f s votes commits step → Backs digest f Source acts me step
  next_backed s votes commits step is kept_votes kept_commits (by_sign value level there) = tt
  next_backed s votes commits step is kept_votes kept_commits (by_prepare value ahead there many) = λ n other len at.
      let e = last_of s value other n is there ahead len at in
      subst (λ (z : V). KnowsQuorum digest f acts me (λ q. Prepare q s.view n (digest z))) e.1
      (subst (λ (j : ℕ). KnowsQuorum digest f acts me (λ q. Prepare q s.view j (digest value))) (sym e.0) (enough_known (λ q n x. Prepare q s.view n x) votes s.prepared (digest value) kept_votes many))
  next_backed s votes commits step is kept_votes kept_commits (by_execute value ahead there many on) =
      enough_known (λ q n x. Commit q s.view n x) commits (length s.executed) (digest value) kept_commits many

  -- all that it goes on with is allowed, and rests on what is known once these steps are known
  abbrev pub AllGood : List (Step V X) → List (Step V X) → Type 0
  AllGood more trace = Follows digest goes k (more ++ trace) × ((step : Step V X) → Contains more step → Backs digest f Source acts me step)

  good_onward : (trace more : List (Step V X)) (step : Step V X) → Backs digest f Source acts me step → AllGood more (step ∷ trace) → AllGood (more ++ (step ∷ [])) trace
  good_onward trace more step backs good = (
    subst (λ (l : List (Step V X)). Follows digest goes k l) (sym (append_assoc more (step ∷ []) trace)) good.0,
    λ other is.
        elim (Contains-append_cases more (step ∷ []) other is) [
          | inl early ↦ good.1 other early
          | inr last ↦ elim (Contains-cons_cases step [] other last) [
            | inl e ↦ subst (λ (z : Step V X). Backs digest f Source acts me z) e backs
            | inr never ↦ absurd (Contains-none other never)
          ]
        ],
  )

  pub settled_good : (n : ℕ) (trace : List (Step V X)) (votes commits : List (SlotVote X)) → me < 3 * f + 1 → Follows digest goes k trace → ArePrepares digest f acts me (state_of trace).view votes → AreCommits digest f acts me (state_of trace).view commits
      → ((step : Step V X) → Contains (settled digest same goes f me n (state_of trace) votes commits) step → KnowsMade digest f acts me step)
      → AllGood (settled digest same goes f me n (state_of trace) votes commits) trace
  settled_good zero trace votes commits lt lawful kept_votes kept_commits knows = (lawful, λ step is. absurd (Contains-none step is))
  settled_good (suc n) trace votes commits lt lawful kept_votes kept_commits knows =
      of_next (next digest same goes f (state_of trace) votes commits) refl knows (λ step. settled_good n (step ∷ trace) (votes_after me step votes) (commits_after digest me step commits))
    where
      Later : Step V X → List (Step V X)
      Later step = settled digest same goes f me n (state_of (step ∷ trace)) (votes_after me step votes) (commits_after digest me step commits)

      of_next : (o : Option (Step V X)) → next digest same goes f (state_of trace) votes commits ≡ o
          → ((step : Step V X) → Contains (onward digest same goes f me (settled digest same goes f me n) (state_of trace) votes commits o) step → KnowsMade digest f acts me step)
          → ((step : Step V X) → me < 3 * f + 1 → Follows digest goes k (step ∷ trace) → ArePrepares digest f acts me (state_of (step ∷ trace)).view (votes_after me step votes)
          → AreCommits digest f acts me (state_of (step ∷ trace)).view (commits_after digest me step commits) → ((other : Step V X) → Contains (Later step) other → KnowsMade digest f acts me other) → AllGood (Later step) (step ∷ trace))
          → AllGood (onward digest same goes f me (settled digest same goes f me n) (state_of trace) votes commits o) trace
      of_next None is knows further = (lawful, λ step has. absurd (Contains-none step has))
      of_next (Some step) is knows further =
          let s = consistent digest goes k trace lawful in
          let why = next_is digest same goes f (state_of trace) votes commits step is in
          let can = next_can digest same goes f (state_of trace) votes commits k step why in
          let mine : KnowsMade digest f acts me step = knows step (Contains-append_right (Later step) (step ∷ []) step (Contains-head step [])) in
          good_onward trace (Later step) step (next_backed (state_of trace) votes commits step s kept_votes kept_commits why)
          (further step lt (can.0, lawful) (votes_known digest f acts me goes k (state_of trace) step votes lt can.0 can.1 mine kept_votes)
          (commits_known digest f acts me goes k (state_of trace) step commits lt can.0 can.1 mine kept_commits)
          (λ other has. knows other (Contains-append_left (Later step) (step ∷ []) other has)))
