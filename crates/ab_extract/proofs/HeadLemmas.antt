-- What the heads of ABORTs say of the ABORTs.
use Rattle.std.proofs.Common.{◌≡◌, ℕ, Some, List, [], ◌∷◌, map, refl}
use Rattle.std.specs.Prelude.{◌==◌, ◌||◌, if◌then◌else◌}
use Rattle.ab_msg.specs.declared.signed.Signed.{Signed}
use Rattle.ab_msg.specs.Claims.{instance_of}
use Rattle.ab_extract.specs.Certs.{has_signed, first_repeat, first_foreign}
use Rattle.ab_extract.specs.Heads.{head_of, is_among, repeat_in, foreign_in}

among_is : (r : ℕ) (cert : List Signed) → is_among (map head_of cert) r ≡ has_signed cert r
among_is r [] = refl
among_is r (s ∷ cert) = λ j. (s.maker == r) || among_is r cert j

pub repeat_is : (cert : List Signed) → repeat_in (map head_of cert) ≡ first_repeat cert
repeat_is [] = refl
repeat_is (s ∷ cert) = λ j. if among_is s.maker cert j then Some s.maker else repeat_is cert j

pub foreign_is : (i : ℕ) (cert : List Signed) → foreign_in i (map head_of cert) ≡ first_foreign i cert
foreign_is i [] = refl
foreign_is i (s ∷ cert) = λ j. if instance_of s.content == i then foreign_is i cert j else Some (instance_of s.content)
