use Rattle.std.proofs.Common.{◌≡◌, ◌++◌, map}
use Rattle.ab_form.specs.Readers.{listed}
use Rattle.ab_content.specs.Parts.{signer_at}
use Rattle.ab_extract.proofs.fitting.signers_in.Given as goal

abbrev pub invariant-sigs : goal.invariant-sigs
invariant-sigs l =
    (goal.iterator-sigs).can_next l.sig-iterator × (goal.iterator-sigs).is_finite l.sig-iterator
    × (l.by.items ++ map (λ s. s.0) (listed signer_at l.sig-iterator.count l.sig-iterator.bytes.now) ≡ map (λ s. s.0) (listed signer_at l.sigs.count l.sigs.bytes.now))
