-- The values that 2f + 1 VIEW-CHANGEs choose.
use Rattle.std.specs.Prelude.{ℕ, zero, suc, Bool, ◌==◌, ◌&&◌, ◌||◌, nat_lt, nat_le, if◌then◌else◌, Option, Some, None, List, [], ◌∷◌, ◌++◌, length, slice_get}
use Rattle.ab_lock.specs.Steps.{Cert, Change}

-- a certificate of a replica
pub record Offer (V : Type 0) : Type 0 where
  pub by : ℕ
  pub cert : Cert V

module _ {V : Type 0} where
  -- a is of a higher view, or of the same and of a replica no higher
  abbrev pub beats : Offer V → Offer V → Bool
  beats a b = nat_lt b.cert.at a.cert.at || ((b.cert.at == a.cert.at) && nat_le a.by b.by)

  abbrev pub better : ℕ → Option (Cert V) → Option (Offer V) → Option (Offer V)
  better by None rest = rest
  better by (Some cert) None = Some (record { by = by; cert = cert })
  better by (Some cert) (Some other) =
      if beats (record { by = by; cert = cert }) other then Some (record { by = by; cert = cert }) else Some other

  -- the certificate of the highest view for slot t, the lowest replica's at a tie
  abbrev pub best_in : List (Change V) → ℕ → Option (Offer V)
  best_in [] t = None
  best_in (c ∷ vcs) t = better c.by (slice_get c.certs t) (best_in vcs t)

  abbrev pub goes_on : (List V → V → Bool) → (List V → List V) → List V → Option (Offer V) → List V
  goes_on goes rest chosen None = chosen
  goes_on goes rest chosen (Some offer) =
      if goes chosen offer.cert.value then rest (chosen ++ (offer.cert.value ∷ [])) else chosen

  abbrev pub chosen_from : (List V → V → Bool) → List (Change V) → ℕ → List V → List V
  chosen_from goes vcs zero chosen = chosen
  chosen_from goes vcs (suc n) chosen = goes_on goes (chosen_from goes vcs n) chosen (best_in vcs (length chosen))

  -- slots 0 to k, ending before the first without a certificate or whose value does not follow
  abbrev pub chosen_of : (List V → V → Bool) → ℕ → List (Change V) → List V
  chosen_of goes k vcs = chosen_from goes vcs (suc k) []
