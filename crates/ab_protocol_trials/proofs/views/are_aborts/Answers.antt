use Rattle.std.proofs.Common.{◌≡◌, ◌∷◌, [], ℕ, List, true, refl, subst, sym, ap, ◌∙◌}
use Rattle.std.specs.Prelude.{◌<◌, All, nat_lt, ◌&&◌}
use Rattle.std.specs.List.{list_all}
use Rattle.std.proofs.lemmas.Bool.{lt-ltb}
use Rattle.std.proofs.lemmas.List.Elements.{All-head, All-cons, All-nil}
use Rattle.ab_msg.specs.declared.signed.Signed.{Signed}
use Rattle.ab_msg.specs.Certs.{IsSigned}
use Rattle.ab_msg.specs.Contents as contents
use Rattle.ab_wire.specs.Views.{aborts, signed}
use Rattle.ab_extract.specs.Certs.{AreAborts, IsAbort}
use Rattle.ab_extract.proofs.MemberLemmas.{aborts_are}
use Rattle.ab_protocol_trials.proofs.views.are_aborts.Goals as goal

-- one that was read, signed by one of the replicas
one_is : (replicas : ℕ) (s : Signed) → IsSigned contents.IsStopContent s → s.maker < replicas → IsAbort replicas s
one_is replicas s formed lt =
    All-head (λ t. IsAbort replicas t) s []
    (aborts_are replicas (s ∷ []) (All-cons (IsSigned contents.IsStopContent) s [] formed (All-nil (IsSigned contents.IsStopContent))) (let e : nat_lt s.maker replicas ≡ true = lt-ltb s.maker replicas lt in ap (λ b. b && true) e))

more : (replicas : ℕ) (left after : List Signed) (s : Signed) → left ≡ s ∷ after → IsSigned contents.IsStopContent s → s.maker < replicas → AreAborts replicas after → AreAborts replicas left
more replicas left after s is formed lt rest = subst (AreAborts replicas) (sym is) (All-cons (λ t. IsAbort replicas t) s after (one_is replicas s formed lt) rest)

pub aborts-preserved : goal.aborts-preserved
aborts-preserved c = (tt, tt, λ rest. c.aborts.invariant.2 (more _ _ _ _ c.in-Some.ensures.steps.0 c.in-Some.ensures.steps.1.1 c.if-abort-replicas.false rest))

pub returns : goal.returns
returns c = λ _. c.aborts.invariant.2 (subst (AreAborts c.args.replicas) (sym c.in-None.ensures.steps.0.0) (All-nil (λ t. IsAbort c.args.replicas t)))
