use Rattle.std.proofs.Common.{ℕ, ◌*◌, ◌+◌, slice_get, sym, ◌∙◌, ap, subst}
use Rattle.std.specs.Prelude.{All, IsTrue}
use Rattle.ab_keys.specs.Keys.{is_party}
use Rattle.ab_num.specs.declared.party.Party.TheVariants.{Replica, Client}
use Rattle.ab_keys.specs.Rings.{Ring, ring_of}
use Rattle.ab_cast.specs.Setups.{replica_twins, client_twins}
use Rattle.ab_cast.proofs.SetupLemmas.{stands_by_number}
use Rattle.ab_cast.proofs.setup.Setup.new.Goals as goal

pub invariant_of-result : goal.invariant_of-result
invariant_of-result c =
    let k = c.args.cluster.now in
    let replica_ring : ℕ → Ring = λ r. ring_of k.f k.clients k.plan c.args.seed.now (Replica r) in
    let client_ring : ℕ → Ring = λ n. ring_of k.f k.clients k.plan c.args.seed.now (Client n) in
    record {
      parties = subst (All (λ e. IsTrue (is_party k.f k.clients e.0))) (sym c.in_ok-from_slice.ensures.items) c.requires;
      keys = c.in_ok-derive.ensures;
      of_replicas = λ r less. ap (λ rings. slice_get rings r) c.in_ok-replica_rings.ensures ∙ stands_by_number replica_ring (3 * k.f + 1) r less;
      of_clients = λ n less. ap (λ rings. slice_get rings n) c.in_ok-client_rings.ensures ∙ stands_by_number client_ring k.clients n less;
      twins_of_replicas = c.in_ok-replica_twins.ensures ∙ ap replica_twins (sym c.in_ok-from_slice.ensures.items);
      twins_of_clients = c.in_ok-client_twins.ensures ∙ ap client_twins (sym c.in_ok-from_slice.ensures.items);
    }
