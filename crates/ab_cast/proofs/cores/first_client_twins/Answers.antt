use Rattle.std.proofs.Common.{ap, ◌++◌, ◌∙◌, arith}
use Rattle.std.specs.Prelude.{replicate}
use Rattle.ab_num.specs.declared.party.Party.TheVariants.{Replica}
use Rattle.ab_cast.specs.Casts.{first_seat}
use Rattle.ab_cast.proofs.StepLemmas.{next_client, other_client}
use Rattle.ab_cast.proofs.cores.first_client_twins.Goals.{in-Client+in_ok-add_clients, in_default}
use Rattle.ab_cast.proofs.cores.first_client_twins.Goals as goal

pub loop-entry-preserved : goal.loop-entry-preserved
loop-entry-preserved c =
    elim c.match-entry.branch [
      | in-Client+in_ok-add_clients w ↦
          next_client (first_seat c.args.setup.now.cluster) c.faulty-entry-items.result.now c.loop-entry.entry-index (Replica 0, 0) c.loop-entry-test.true c.loop-entry.twins.items c.match-entry.twins.items
          w.in-Client.c w.saturating_sub.result w.in-Client.is (omega (arith, w.saturating_sub.ensures)) (ap (λ v. v.items) w.twins-is ∙ (w.in_ok-add_clients.ensures ∙ ap (λ k. c.loop-entry.twins.items ++ replicate w.saturating_sub.result (first_seat k w.in-Client.c)) w.cluster.ensures)) c.loop-entry.invariant
      | in_default w ↦
          other_client (first_seat c.args.setup.now.cluster) c.faulty-entry-items.result.now c.loop-entry.entry-index (Replica 0, 0) c.loop-entry-test.true c.loop-entry.twins.items c.match-entry.twins.items
          w.in_default.field-0 w.in_default.is (ap (λ v. v.items) w.twins-is) c.loop-entry.invariant
    ]
