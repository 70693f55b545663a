-- Replicas that state each thing once aren't accused.
use Rattle.std.specs.Prelude.{◌≡◌, ℕ, List, Contains, Some}
use Rattle.ab_num.specs.declared.party.Party.TheVariants.{Replica}
use Rattle.ab_msg.specs.declared.content.Content.{Content}
use Rattle.ab_msg.specs.Claims.{maker_of}
use Rattle.ab_sign.specs.declared.key.SignKey.{SignKey}
use Rattle.ab_audit.specs.declared.accusation.Accusation.{Accusation}
use Rattle.ab_audit.specs.declared.accusation.Accusation.TheVariants.{Abort, Prepare}
use Rattle.ab_audit.specs.Accusations.{found_among, subject_of}

abbrev pub accused_replica : Accusation → ℕ
accused_replica (Abort r i) = r
accused_replica (Prepare r i v s) = r

-- among what was made, replica r has one ABORT of an instance, and one PREPARE of a view and a slot
abbrev pub StatesOnce : List Content → ℕ → Type 0
StatesOnce made r =
    (one other : Content) (a : Accusation) → Contains made one → Contains made other → accused_replica a ≡ r
    → subject_of one ≡ Some a → subject_of other ≡ Some a → one ≡ other

-- each ABORT and each PREPARE that is found and names replica r was made by it
abbrev pub FindsItsOwn : List SignKey → List (List ℕ) → List Content → ℕ → Type 0
FindsItsOwn keys inputs made r =
    (c : Content) (a : Accusation) → subject_of c ≡ Some a → Contains (found_among keys inputs) c → maker_of c ≡ Replica r → Contains made c
