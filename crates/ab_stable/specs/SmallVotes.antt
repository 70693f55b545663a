-- A certificate of three lists, one of which is a faulty replica's, to try the definitions on.
use Rattle.std.specs.Prelude.{ℕ, zero, suc, Bool, nat_eq, List, [], ◌∷◌}
use Rattle.ab_hist.specs.declared.request.Request.{Request}
use Rattle.ab_hist.specs.Trimmed.{untrimmed, trim}
use Rattle.ab_trim.specs.Links.{links_of_all}
use Rattle.ab_stable.specs.Certs.{Stated}

abbrev pub small_bad : ℕ → Bool
small_bad r = nat_eq r 2

module _ (a b c : Request) where
  -- replica 0 has logged a and b, and the others c too
  abbrev pub small_logs : ℕ → List Request
  small_logs zero = a ∷ b ∷ []
  small_logs (suc r) = a ∷ b ∷ c ∷ []

  -- replica 0 forgot a, replica 1 nothing, and replica 2, which is faulty, states another list behind a
  abbrev pub small_votes : List Stated
  small_votes =
      record { by = 0; list = trim 1 (a ∷ b ∷ []) }
      ∷ record { by = 1; list = untrimmed (a ∷ b ∷ c ∷ []) }
      ∷ record { by = 2; list = trim 1 (a ∷ c ∷ []) }
      ∷ []

  abbrev pub small_links : List (List ℕ × Request)
  small_links = links_of_all ((a ∷ b ∷ c ∷ []) ∷ (a ∷ c ∷ []) ∷ [])
