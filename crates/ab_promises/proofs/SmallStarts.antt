-- Replicas that begin meet the premises, whatever the protocol.
use Rattle.std.proofs.Common.{◌≡◌, ℕ, ◌<◌, Bool, Option, Some, None, List, [], ◌∷◌, refl, inl, inr, arith}
use Rattle.ab_num.specs.declared.plan.Kind.{Kind}
use Rattle.ab_num.specs.declared.plan.Plan.{Plan}
use Rattle.ab_num.proofs.Lists.{Contains-none}
use Rattle.ab_abs.specs.Acts.{Act, Premises, histories, bases, histories_of_act, state_of}
use Rattle.ab_abs.specs.Ensembles.{Proto, entry_of, put}
use Rattle.ab_abs.specs.FormLaws.{KeepsForm}
use Rattle.ab_abs.proofs.Bases.{bases_are_histories}
use Rattle.ab_promises.specs.OwnCalls.{AreOwnCalls, none_yet, begins}
use Rattle.ab_promises.specs.SmallStarts.{four, all_correct, begun_by, starts}
use Rattle.ab_promises.proofs.EmptyLogs.{AllEmpty, IsIdle, state_empty, more_empty, empty_apart, empty_slots, rises}

module _ {P : Type 0} (proto : Proto P) (serves : Kind → Bool) (form : KeepsForm proto serves) (p : Plan) where
  idle : (r : ℕ) → IsIdle (proto.state (proto.begin (four p) 1 r (entry_of [] None)))
  idle r =
      let b = form.begins (four p) 1 r (entry_of [] None) in
      record { entered = form.enters (four p) 1 r (entry_of [] None); logged = elim b.0 [ inl same ↦ same | inr none ↦ none ]; first = inl b.1 }

  empty_begun : (r : ℕ) → AllEmpty (histories_of_act (begun_by proto p r))
  empty_begun r = state_empty (proto.state (proto.begin (four p) 1 r (entry_of [] None))) (idle r)

  all_empty : AllEmpty (histories (starts proto p))
  all_empty =
      let none : AllEmpty (histories []) = λ h has. absurd (Contains-none h has) in
      let e0 = more_empty (begun_by proto p 0) [] (empty_begun 0) none in
      let e1 = more_empty (begun_by proto p 1) (begun_by proto p 0 ∷ []) (empty_begun 1) e0 in
      let e2 = more_empty (begun_by proto p 2) (begun_by proto p 1 ∷ begun_by proto p 0 ∷ []) (empty_begun 2) e1 in
      more_empty (begun_by proto p 3) (begun_by proto p 2 ∷ begun_by proto p 1 ∷ begun_by proto p 0 ∷ []) (empty_begun 3) e2

  pub starts_met : Premises (all_correct p) (starts proto p)
  starts_met = record {
    few = omega arith;
    honest = (λ c has _. absurd (Contains-none c has), (λ c has _. absurd (Contains-none c has), (λ c has _. absurd (Contains-none c has), (λ c has _. absurd (Contains-none c has), tt))));
    apart = empty_apart (histories (starts proto p)) all_empty;
    slots = empty_slots (bases (starts proto p)) (λ h has. all_empty h (bases_are_histories (starts proto p) h has));
  }

  starts_one : (acts : List Act) (left : ℕ → Option P) (r : ℕ) → r < 4 → state_of acts r ≡ None → AreOwnCalls proto (all_correct p) acts left
      → AreOwnCalls proto (all_correct p) (begun_by proto p r ∷ acts) (put left r (Some (proto.begin (four p) 1 r (entry_of [] None))))
  starts_one acts left r lt none was = begins r (entry_of [] None) (omega arith) was (record { within = lt; correct = refl; none = none; rises = rises; nothing = λ _. refl })

  pub starts_own : (left : ℕ → Option P) × AreOwnCalls proto (all_correct p) (starts proto p) left
  starts_own =
      let lt_0 : 0 < 4 = omega arith in
      let lt_1 : 1 < 4 = omega arith in
      let lt_2 : 2 < 4 = omega arith in
      let lt_3 : 3 < 4 = omega arith in
      (_, starts_one _ _ 3 lt_3 refl (starts_one _ _ 2 lt_2 refl (starts_one _ _ 1 lt_1 refl (starts_one _ _ 0 lt_0 refl none_yet))))
