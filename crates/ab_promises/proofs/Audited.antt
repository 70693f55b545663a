-- What is stated once is stated once in the words of an audit.
use Rattle.std.proofs.Common.{◌≡◌, ℕ, Some, List, refl, sym, ap, ◌∙◌, subst}
use Rattle.std.specs.Prelude.{Contains}
use Rattle.ab_num.specs.declared.party.Party.TheVariants.{Replica, Client}
use Rattle.ab_msg.specs.declared.content.Content.{Content}
use Rattle.ab_msg.specs.declared.content.Content.TheVariants as content
use Rattle.ab_audit.specs.declared.accusation.Accusation.TheVariants.{Abort, Prepare}
use Rattle.ab_audit.specs.Accusations.{subject_of}
use Rattle.ab_audit.specs.Correct.{StatesOnce}
use Rattle.ab_promises.specs.ReplicaActs.{IsAbortOf, AbortsOnceIn, PreparesOnceIn}

-- a content with such a subject is an ABORT, or a PREPARE
abort_of : (c : Content) (q i : ℕ) → subject_of c ≡ Some (Abort q i) → IsAbortOf q i c
abort_of (content.Abort (Replica s) j h) q i is = let r_is : s ≡ q = cc (is) in let i_is : j ≡ i = cc (is) in (refl, ap Replica r_is, i_is)
abort_of (content.Abort (Client d) j h) q i is = absurd (cc (is))
abort_of (content.AbortZ (Replica s) j h z) q i is = let r_is : s ≡ q = cc (is) in let i_is : j ≡ i = cc (is) in (refl, ap Replica r_is, i_is)
abort_of (content.AbortZ (Client d) j h z) q i is = absurd (cc (is))
abort_of (content.TrimmedAbort (Replica s) j start d rest) q i is = let r_is : s ≡ q = cc (is) in let i_is : j ≡ i = cc (is) in (refl, ap Replica r_is, i_is)
abort_of (content.TrimmedAbort (Client d) j start x rest) q i is = absurd (cc (is))
abort_of (content.Prepare (Replica s) j v n x) q i is = absurd (cc (is))
abort_of (content.Prepare (Client d) j v n x) q i is = absurd (cc (is))
abort_of _ q i is = absurd (cc (is))

prepare_of : (c : Content) (q i v n : ℕ) → subject_of c ≡ Some (Prepare q i v n) → (x : List ℕ) × (c ≡ content.Prepare (Replica q) i v n x)
prepare_of (content.Prepare (Replica s) j w m x) q i v n is = (x, cc (is))
prepare_of (content.Prepare (Client d) j w m x) q i v n is = absurd (cc (is))
prepare_of (content.Abort (Replica s) j h) q i v n is = absurd (cc (is))
prepare_of (content.Abort (Client d) j h) q i v n is = absurd (cc (is))
prepare_of (content.AbortZ (Replica s) j h z) q i v n is = absurd (cc (is))
prepare_of (content.AbortZ (Client d) j h z) q i v n is = absurd (cc (is))
prepare_of (content.TrimmedAbort (Replica s) j start d rest) q i v n is = absurd (cc (is))
prepare_of (content.TrimmedAbort (Client d) j start x rest) q i v n is = absurd (cc (is))
prepare_of _ q i v n is = absurd (cc (is))

module _ (made : List Content) where
  has : (c d : Content) → c ≡ d → Contains made c → Contains made d
  has c d is in_it = subst (λ (z : Content). Contains made z) is in_it

  pub states_once : (r : ℕ) → AbortsOnceIn made r → PreparesOnceIn made r → StatesOnce made r
  states_once r aborts prepares one other (Abort q i) in_one in_other is is_one is_other =
      aborts i one other (subst (λ (z : ℕ). IsAbortOf z i one) is (abort_of one q i is_one)) (subst (λ (z : ℕ). IsAbortOf z i other) is (abort_of other q i is_other)) in_one in_other
  states_once r aborts prepares one other (Prepare q i v n) in_one in_other is is_one is_other =
      let a = prepare_of one q i v n is_one in
      let b = prepare_of other q i v n is_other in
      let same : a.0 ≡ b.0 = prepares i v n a.0 b.0 (subst (λ (z : ℕ). Contains made (content.Prepare (Replica z) i v n a.0)) is (has one _ a.1 in_one)) (subst (λ (z : ℕ). Contains made (content.Prepare (Replica z) i v n b.0)) is (has other _ b.1 in_other)) in
      a.1 ∙ (ap (λ x. content.Prepare (Replica q) i v n x) same ∙ sym b.1)
