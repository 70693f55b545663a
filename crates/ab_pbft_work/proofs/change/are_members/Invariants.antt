use Rattle.std.proofs.Common.{◌≡◌}
use Rattle.std.specs.Prelude.{nat_lt}
use Rattle.std.specs.List.{list_all}
use Rattle.ab_form.specs.Readers.{listed}
use Rattle.ab_content.specs.Parts.{signer_at}
use Rattle.ab_wire.specs.Views.{prepares}
use Rattle.ab_pbft_work.proofs.change.are_members.Given as goal

abbrev pub invariant-signers : goal.invariant-signers
invariant-signers l =
    (goal.iterator-signers).can_next l.s-iterator × (goal.iterator-signers).is_finite l.s-iterator
    × (list_all (λ s. nat_lt s.0 l.replicas) (listed signer_at l.s-iterator.count l.s-iterator.bytes.now) ≡ list_all (λ s. nat_lt s.0 l.replicas) (prepares l.prepares))
