-- Distinct replicas: enough of them are correct, and two large sets meet.
use Rattle.std.proofs.Common.{◌≡◌, ℕ, ◌+◌, ◌*◌, ◌≤◌, false, List, length, arith}
use Rattle.std.specs.Prelude.{Contains, count_by}
use Rattle.ab_num.specs.declared.party.Party.{Party}
use Rattle.ab_num.specs.declared.party.Party.TheVariants.{Replica}
use Rattle.ab_msg.specs.Carried.{is_replica}
use Rattle.ab_abs.specs.Faults.{is_faulty}
use Rattle.ab_abs.proofs.Voters.{faulty_few}
use Rattle.ab_abs.proofs.Quorums.{meet, correct_of, correct_in, correct_distinct, correct_length, Meets, quorums_meet}
use Rattle.ab_lock.specs.Quorums.{quorum, AreReplicas}

-- f + 1 replicas and 2f + 1 replicas meet
pub third_meets : (f : ℕ) (xs ys : List ℕ) → AreReplicas f xs → AreReplicas f ys → f + 1 ≤ length xs → quorum f ≤ length ys → (r : ℕ) × Contains xs r × Contains ys r
third_meets f xs ys x y many_x many_y = meet (3 * f + 1) xs ys x.distinct y.distinct x.within y.within (omega (arith, many_x, many_y))

module _ (faulty : List Party) where
  -- of two lists of 2f + 1 replicas a correct one stands in both
  pub replicas_meet : (f : ℕ) (xs ys : List ℕ) → count_by is_replica faulty ≤ f → AreReplicas f xs → AreReplicas f ys → quorum f ≤ length xs → quorum f ≤ length ys → Meets faulty f xs ys
  replicas_meet f xs ys few x y many_x many_y =
      quorums_meet faulty f xs ys few (record { distinct = x.distinct; within = x.within; enough = many_x }) (record { distinct = y.distinct; within = y.within; enough = many_y })

  -- the correct ones of 2f + 1 replicas are f + 1 or more
  pub record CorrectPart (f : ℕ) (xs : List ℕ) : Type 0 where
    pub by : List ℕ
    pub replicas : AreReplicas f by
    pub enough : f + 1 ≤ length by
    pub each : (r : ℕ) → Contains by r → Contains xs r × (is_faulty faulty (Replica r) ≡ false)

  pub correct_part : (f : ℕ) (xs : List ℕ) → count_by is_replica faulty ≤ f → AreReplicas f xs → quorum f ≤ length xs → CorrectPart f xs
  correct_part f xs few x many = record {
    by = correct_of faulty xs;
    replicas = record { distinct = correct_distinct faulty xs x.distinct; within = λ r is. x.within r (correct_in faulty xs r is).0 };
    enough = omega (arith, correct_length faulty xs, faulty_few faulty xs x.distinct, few, many);
    each = correct_in faulty xs;
  }
