-- The acts of the small instance are own calls of Quorum.
use Rattle.std.proofs.Common.{◌≡◌, ℕ, zero, suc, ◌<◌, true, false, Option, Some, None, List, [], ◌∷◌, refl, arith}
use Rattle.std.specs.Prelude.{Contains}
use Rattle.std.proofs.lemmas.Option.{none-some}
use Rattle.ab_hist.specs.declared.request.Request.{Request}
use Rattle.ab_num.proofs.Lists.{Contains-head}
use Rattle.ab_svc.specs.Machines.{Machine}
use Rattle.ab_msg.specs.declared.content.Content.{Content}
use Rattle.ab_msg.specs.Fields.{IsRequest}
use Rattle.ab_msg.specs.Messages.{IsMessage}
use Rattle.ab_abs.specs.declared.rule.ReplyRule.TheVariants as rules
use Rattle.ab_abs.specs.declared.seen.Seen.TheVariants.{Invoked}
use Rattle.ab_abs.specs.Acts.{Act, state_of, abort_of, unmarked}
use Rattle.ab_abs.specs.Rules.{aborts as aborts_so}
use Rattle.ab_abs.specs.Members.{Member}
use Rattle.ab_abs.specs.Messages.{took}
use Rattle.ab_abs.specs.Ensembles.{MayTake, entry_of, put}
use Rattle.ab_abs.specs.SmallActs.{small, holding, begins_small, votes_for, answers_small, halts_small, aborts_small, answered_acts, aborted_acts, small_acts}
use Rattle.ab_abs.proofs.SmallClients.{invokes_by, commits_by, takes_by}
use Rattle.ab_abs.proofs.Witness.{cert}
use Rattle.ab_quorum.specs.Rules.{quorum}
use Rattle.ab_promises.specs.OwnCalls.{AreOwnCalls, none_yet, begins, takes, stops, others}
use Rattle.ab_msg.specs.Pens.{no_pen}
use Rattle.ab_promises.specs.SmallCalls.{asking, member}

module _ {S : Type 0} (machine : Machine S) (m : Request) (fits : IsRequest 0 15 m) where
  abbrev Own : List Act → (ℕ → Option Member) → Type 0
  Own acts left = AreOwnCalls (quorum machine) small acts left

  formed : IsMessage (asking m)
  formed = ((refl, ((omega arith, omega arith), fits)), ((omega arith, omega arith), (((omega arith, omega arith), refl), tt)))

  starts : (acts : List Act) (left : ℕ → Option Member) (r : ℕ) → r < 4 → state_of acts r ≡ None → Own acts left → Own (begins_small r ∷ acts) (put left r (Some (member r [] false)))
  starts acts left r lt none was = begins r (entry_of [] None) (omega arith) was (record { within = lt; correct = refl; none = none; rises = λ i j e less in_h. absurd (omega (arith, in_h)); nothing = λ _. refl })

  may : (acts : List Act) (r : ℕ) → MayTake (quorum machine) small acts r no_pen (member r [] false) (took (asking m)) []
  may acts r = record { formed = formed; for = refl; noted = unmarked refl; settled = λ c is. absurd (none-some c is) }

  answers : (acts : List Act) (left : ℕ → Option Member) (r : ℕ) → r < 4 → left r ≡ Some (member r [] false) → Own acts left → Own (answers_small machine m r ∷ acts) (put left r (Some (member r (m ∷ []) false)))
  answers acts left zero lt at was = takes 0 (member 0 [] false) no_pen (took (asking m)) [] was at (may acts 0)
  answers acts left (suc zero) lt at was = takes 1 (member 1 [] false) no_pen (took (asking m)) [] was at (may acts 1)
  answers acts left (suc (suc zero)) lt at was = takes 2 (member 2 [] false) no_pen (took (asking m)) [] was at (may acts 2)
  answers acts left (suc (suc (suc zero))) lt at was = takes 3 (member 3 [] false) no_pen (took (asking m)) [] was at (may acts 3)
  answers acts left (suc (suc (suc (suc r)))) lt at was = absurd (omega (arith, lt))

  halts : (acts : List Act) (left : ℕ → Option Member) (r : ℕ) → left r ≡ Some (member r (m ∷ []) false) → Own acts left → Own (halts_small machine m r ∷ acts) (put left r (Some (member r (m ∷ []) true)))
  halts acts left r at was = stops r (member r (m ∷ []) false) was at

  aborted : (acts : List Act) (left : ℕ → Option Member) (r : ℕ) → r < 4 → state_of acts r ≡ Some (holding m true) → Own acts left → Own (abort_of small r (m ∷ []) ∷ acts) left
  aborted acts left r lt here was = others (abort_of small r (m ∷ [])) was refl (aborts_so r (holding m true) lt here refl refl)

  abbrev votes : List Content
  votes = votes_for machine m 0 ∷ votes_for machine m 1 ∷ votes_for machine m 2 ∷ votes_for machine m 3 ∷ []

  vote_is_in : (r : ℕ) → r < 4 → Contains votes (votes_for machine m r)
  vote_is_in zero lt = (0, omega arith, refl)
  vote_is_in (suc zero) lt = (1, omega arith, refl)
  vote_is_in (suc (suc zero)) lt = (2, omega arith, refl)
  vote_is_in (suc (suc (suc zero))) lt = (3, omega arith, refl)
  vote_is_in (suc (suc (suc (suc r)))) lt = absurd (omega (arith, lt))

  abbrev abort_claims : List Content
  abort_claims = aborts_small machine m 0 ∷ aborts_small machine m 1 ∷ aborts_small machine m 2 ∷ []

  pub small_own : (left : ℕ → Option Member) × Own (small_acts machine m) left
  small_own =
      let b0 = starts _ _ 0 (omega arith) refl none_yet in
      let b1 = starts _ _ 1 (omega arith) refl b0 in
      let b2 = starts _ _ 2 (omega arith) refl b1 in
      let b3 = starts _ _ 3 (omega arith) refl b2 in
      let asked = others _ b3 refl (invokes_by machine m rules.All) in
      let a0 = answers _ _ 0 (omega arith) refl asked in
      let a1 = answers _ _ 1 (omega arith) refl a0 in
      let a2 = answers _ _ 2 (omega arith) refl a1 in
      let a3 = answers _ _ 3 (omega arith) refl a2 in
      let committed = others _ a3 refl (commits_by machine m rules.All (answered_acts machine m) votes (Contains-head (Invoked 1 m.client m) []) vote_is_in) in
      let h0 = halts _ _ 0 refl committed in
      let h1 = halts _ _ 1 refl h0 in
      let h2 = halts _ _ 2 refl h1 in
      let c0 = aborted _ _ 0 (omega arith) refl h2 in
      let c1 = aborted _ _ 1 (omega arith) refl c0 in
      let c2 = aborted _ _ 2 (omega arith) refl c1 in
      (_, others _ c2 refl (takes_by machine m rules.All (aborted_acts machine m) abort_claims (m ∷ []) (cert machine m)))
