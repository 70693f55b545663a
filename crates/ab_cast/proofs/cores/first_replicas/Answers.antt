use Rattle.std.proofs.Common.{◌≡◌, ℕ, ◌+◌, List, [], ◌∷◌, ◌++◌, add-one, ◌∙◌}
use Rattle.ab_abs.specs.Ensembles.{Proto}
use Rattle.ab_replica.specs.Sites.{Site}
use Rattle.ab_cast.specs.Setups.{Setup}
use Rattle.ab_cast.specs.Casts.{first_site, first_sites}
use Rattle.ab_cast.proofs.cores.first_replicas.Goals as goal

one_more : {P : Type 0} (x : Setup) (proto : Proto P) (n : ℕ) (old new : List (Site P)) (q : Site P)
    → new ≡ old ++ q ∷ [] → old ≡ first_sites x proto n → q ≡ first_site x proto n → new ≡ first_sites x proto (n + 1)
one_more x proto n old new q pushed before last = rw add-one (pushed ∙ (λ j. before j ++ last j ∷ []))

pub loop-me-preserved : goal.loop-me-preserved
loop-me-preserved g c =
    one_more c.args.setup.now g.P.Protocol.proto c.loop-me.me c.loop-me.replicas.items c.push.new.self.items c.in_ok-first_replica.field-0
    c.in_ok-push.ensures.items c.loop-me.invariant c.in_ok-first_replica.ensures
