use Rattle.std.proofs.Common.{◌≡◌, ◌++◌, map}
use Rattle.ab_form.specs.Readers.{listed}
use Rattle.ab_content.specs.Parts.{signer_at}
use Rattle.ab_wire.specs.Views.{prepares}
use Rattle.ab_pbft_work.proofs.change.signers.Given as goal

abbrev pub invariant-signers : goal.invariant-signers
invariant-signers l =
    (goal.iterator-signers).can_next l.s-iterator × (goal.iterator-signers).is_finite l.s-iterator
    × (l.all.items ++ map (λ s. s.0) (listed signer_at l.s-iterator.count l.s-iterator.bytes.now) ≡ map (λ s. s.0) (prepares l.prepares))
