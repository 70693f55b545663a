-- The parties of a cluster.
use Rattle.std.specs.Prelude.{Bool, false, ◌==◌}
use Rattle.ab_num.specs.declared.party.Party.{Party}
use Rattle.ab_num.specs.declared.party.Party.TheVariants.{Replica, Client}

-- whether the two are one party
abbrev pub party_eq : Party → Party → Bool
party_eq (Replica r) (Replica s) = r == s
party_eq (Client c) (Client d) = c == d
party_eq (Replica r) (Client d) = false
party_eq (Client c) (Replica s) = false
