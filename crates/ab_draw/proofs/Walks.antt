-- What is refused among the first events of a run.
use Rattle.std.proofs.Common.{◌≡◌, ℕ, zero, suc, ◌+◌, List, [], ◌∷◌, Result, Ok, Err, take}
use Rattle.ab_text.specs.declared.event.Event.{Event}
use Rattle.ab_abs.specs.Ensembles.{Proto}
use Rattle.ab_world.specs.declared.fault.WorldFault.{WorldFault}
use Rattle.ab_world.specs.Runs.{outcome, refused_or}
use Rattle.ab_world.specs.Steps.{stepped}
use Rattle.ab_world.specs.Worlds.{World}
use Rattle.ab_replay.specs.Replays.{EventsCause}
use Rattle.ab_replay.specs.declared.fault.ReplayFault.{ReplayFault}
use Rattle.ab_replay.specs.declared.fault.ReplayFault.TheVariants.{Read, TooLong, Refused, TooManyEvents, TooManyPackets, OutOfMemory}

module _ {P : Type 0} (proto : Proto P) where
  front_or : (r : Result (World P) WorldFault) (n : ℕ) (x : ℕ × WorldFault) (some all : World P → Result (World P) (ℕ × WorldFault))
      → ((v : World P) → some v ≡ Err x → all v ≡ Err x) → refused_or proto n r some ≡ Err x → refused_or proto n r all ≡ Err x
  front_or (Ok v) n x some all each is = each v is
  front_or (Err fault) n x some all each is = is

  -- what is refused among the first events is refused among all
  pub outcome_front : (es : List Event) (k n : ℕ) (w : World P) (x : ℕ × WorldFault) → outcome proto n w (take k es) ≡ Err x → outcome proto n w es ≡ Err x
  outcome_front [] zero n w x is = is
  outcome_front [] (suc k) n w x is = is
  outcome_front (e ∷ es) zero n w x is = absurd (cc (is))
  outcome_front (e ∷ es) (suc k) n w x is =
      front_or (stepped proto w e) n x (λ v. outcome proto (n + 1) v (take k es)) (λ v. outcome proto (n + 1) v es) (λ v. outcome_front es k (n + 1) v x) is

  pub cause_front : (fault : ReplayFault) (line k : ℕ) (w : World P) (es : List Event) → EventsCause fault line (outcome proto 1 w (take k es)) → EventsCause fault line (outcome proto 1 w es)
  cause_front (Refused r) line k w es (n, f, stopped, refuses) = (n, f, outcome_front es k 1 w (n, f) stopped, refuses)
  cause_front TooManyPackets line k w es (n, stopped) = (n, outcome_front es k 1 w (n, _) stopped)
  cause_front OutOfMemory line k w es cause = tt
  cause_front TooManyEvents line k w es cause = absurd cause
  cause_front Read line k w es cause = absurd cause
  cause_front TooLong line k w es cause = absurd cause
