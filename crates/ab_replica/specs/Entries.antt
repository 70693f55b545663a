-- What is seen of a replica that enters an instance.
use Rattle.std.specs.Prelude.{ℕ, ◌-◌, if◌then◌else◌, Bool, List, ◌∷◌}
use Rattle.ab_num.specs.declared.party.Party.TheVariants.{Replica}
use Rattle.ab_hist.specs.Trimmed.{Trimmed}
use Rattle.ab_abs.specs.declared.seen.Seen.{Seen}
use Rattle.ab_abs.specs.Observations.{cert_seen, init_seen}

-- replica me takes this list of a certificate of the instance before i and begins i with it, before the rest is seen, unless the event is spent
abbrev pub with_entry : ℕ → ℕ → Trimmed → List Seen → Bool → List Seen
with_entry i me list seen spent = if spent then seen else cert_seen (i - 1) (Replica me) list ∷ init_seen i me list ∷ seen
