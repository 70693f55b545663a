use Rattle.std.proofs.Common.{◌≡◌, take, map}
use Rattle.ab_extract.proofs.beside.signers_of.Given as goal

abbrev pub invariant-loop-sig : goal.invariant-loop-sig
invariant-loop-sig l = l.by.items ≡ map (λ s. s.0) (take l.sig-index l.sigs)
