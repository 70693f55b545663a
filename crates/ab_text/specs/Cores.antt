-- The texts of parties and of their cores.
use Rattle.std.specs.Prelude.{◌≡◌, ℕ, ◌^◌, ◌<◌, ◌≤◌, List, [], ◌++◌, Option, None, Some, All, codes, decimal, IfSome}
use Rattle.ab_num.specs.declared.party.Party.{Party}
use Rattle.ab_num.specs.declared.party.Party.TheVariants.{Replica, Client}
use Rattle.ab_text.specs.declared.event.Core.{Core}

-- no byte is the separator
abbrev pub Lacks : ℕ → List ℕ → Type 0
Lacks separator bytes = All (λ b. b ≡ separator → ⊥) bytes

-- `r2`, `c0`
abbrev pub party_text : Party → List ℕ
party_text (Replica r) = codes "r" ++ decimal r
party_text (Client c) = codes "c" ++ decimal c

-- the number of a replica has 8 bits, that of a client 16
abbrev pub IsParty : Party → Type 0
IsParty (Replica r) = r < 2 ^ 8
IsParty (Client c) = c < 2 ^ 16

-- a dot and the twin's number
abbrev pub twin_text : Option ℕ → List ℕ
twin_text None = []
twin_text (Some t) = codes "." ++ decimal t

-- `c0`, `r0.1`
abbrev pub core_text : Core → List ℕ
core_text core = party_text core.party ++ twin_text core.twin

pub record IsTwin (t : ℕ) : Type 0 where
  pub some : 1 ≤ t
  pub few : t < 2 ^ 8

pub record IsCore (core : Core) : Type 0 where
  pub party : IsParty core.party
  pub twin : IfSome core.twin IsTwin

abbrev pub IsClient : Party → Type 0
IsClient (Replica r) = ⊥
IsClient (Client c) = Unit {0}
