use Rattle.std.proofs.Common.{map, ap, ◌∙◌, arith}
use Rattle.std.proofs.lemmas.List.{take_all}
use Rattle.ab_num.specs.declared.party.Party.TheVariants.{Replica}
use Rattle.ab_cast.specs.Casts.{first_site}
use Rattle.ab_cast.specs.Setups.{replica_twins}
use Rattle.ab_cast.proofs.StepLemmas.{next_replica, other_replica}
use Rattle.ab_cast.proofs.cores.first_replica_twins.Goals.{in-Replica+in_ok-add_replicas, in_default}
use Rattle.ab_cast.proofs.cores.first_replica_twins.Goals as goal

pub loop-entry-preserved : goal.loop-entry-preserved
loop-entry-preserved g c =
    elim c.match-entry.branch [
      | in-Replica+in_ok-add_replicas w ↦
          next_replica (first_site c.args.setup.now g.P.Protocol.proto) c.faulty-entry-items.result.now c.loop-entry.entry-index (Replica 0, 0) c.loop-entry-test.true c.loop-entry.twins.items c.match-entry.twins.items
          w.in-Replica.r w.saturating_sub.result w.in-Replica.is (omega (arith, w.saturating_sub.ensures)) (ap (λ v. v.items) w.twins-is ∙ w.in_ok-add_replicas.ensures) c.loop-entry.invariant
      | in_default w ↦
          other_replica (first_site c.args.setup.now g.P.Protocol.proto) c.faulty-entry-items.result.now c.loop-entry.entry-index (Replica 0, 0) c.loop-entry-test.true c.loop-entry.twins.items c.match-entry.twins.items
          w.in_default.field-0 w.in_default.is (ap (λ v. v.items) w.twins-is) c.loop-entry.invariant
    ]

pub returns : goal.returns
returns g c =
    c.loop-entry.invariant ∙ ap (λ xs. map (λ k. first_site c.args.setup.now g.P.Protocol.proto k.0) (replica_twins xs)) (take_all c.loop-entry.entry-index c.faulty-entry-items.result.now c.loop-entry-test.false ∙ c.faulty-entry-items.ensures.list)
