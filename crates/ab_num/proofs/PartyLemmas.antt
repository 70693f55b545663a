-- The test of two parties says what equality says.
use Rattle.std.proofs.Common.{◌≡◌, true, refl, ap}
use Rattle.std.proofs.lemmas.Bool.{false≢true}
use Rattle.std.proofs.lemmas.Bool.Decides.{Decides-eqb}
use Rattle.ab_num.specs.declared.party.Party.{Party}
use Rattle.ab_num.specs.declared.party.Party.TheVariants.{Replica, Client}
use Rattle.ab_num.specs.Parties.{party_eq}

pub same_party : (p q : Party) → party_eq p q ≡ true → p ≡ q
same_party (Replica r) (Replica s) e = ap Replica ((Decides-eqb r s).0 e)
same_party (Client c) (Client d) e = ap Client ((Decides-eqb c d).0 e)
same_party (Replica r) (Client d) e = absurd (false≢true e)
same_party (Client c) (Replica s) e = absurd (false≢true e)

pub party_eq-refl : (p : Party) → party_eq p p ≡ true
party_eq-refl (Replica r) = (Decides-eqb r r).1 refl
party_eq-refl (Client c) = (Decides-eqb c c).1 refl
