-- The premise line: which premise of a run is broken first.
use Rattle.std.specs.Prelude.{◌≡◌, ℕ, nat_le, if◌then◌else◌, Option, None, Some, List, ◌∷◌, map, slice_get}
use Rattle.std.specs.List.{filter}
use Rattle.std.specs.Option.{option_map}
use Rattle.ab_num.specs.declared.party.Party.{Party}
use Rattle.ab_text.specs.declared.line.Breach.TheVariants.{Faulty, Forged, Collision as Collided}
use Rattle.ab_text.specs.declared.line.Premise.{Premise}
use Rattle.ab_text.specs.declared.line.Premise.TheVariants.{Held, Broken}
use Rattle.ab_msg.specs.Carried.{is_replica}
use Rattle.ab_abs.specs.Ensembles.{Proto}
use Rattle.ab_run.specs.Setups.{RunSetup}
use Rattle.ab_run.specs.Premises.{IsHonestRun}
use Rattle.ab_run.specs.Inputs.{Input, Opener, events_in}
use Rattle.ab_run.specs.Stages.{Forgery, IsForgedAt}
use Rattle.ab_premise.specs.declared.breach.Collision.{Collision}
use Rattle.ab_premise.specs.declared.breach.Forgery.{Forgery as Kept}
use Rattle.ab_premise.specs.Collisions.{IsFree, IsCollidedAt}

-- ---- as a program tells

-- the first forgery, as a program keeps it
abbrev pub forged_first : Option Kept → Option Forgery
forged_first forged = option_map (λ b. record { event = b.event; maker = b.maker }) forged

-- the replica whose declaration passes f: that at place f, counted from 0, of the replicas that are declared faulty
abbrev pub passing : ℕ → List (Party × ℕ) → Option Party
passing f faulty = slice_get (filter is_replica (map (λ e. e.0) faulty)) f

-- the earlier of the two, and in one event the forgery
abbrev pub first_premise : Option Forgery → Option Collision → Premise
first_premise None None = Held
first_premise (Some b) None = Broken b.event Forged b.maker
first_premise None (Some c) = Broken c.event Collided c.party
first_premise (Some b) (Some c) = if nat_le b.event c.event then Broken b.event Forged b.maker else Broken c.event Collided c.party

abbrev pub faulty_premise : Option Party → Premise → Premise
faulty_premise None later = later
faulty_premise (Some p) later = Broken 0 Faulty p

-- ---- by the run

module _ {P : Type 0} (k : RunSetup) (proto : Proto P) (opens : Opener) where
  -- a forgery at event n, before which there was no collision
  pub record IsForgedFirst (inputs : List Input) (n : ℕ) (p : Party) : Type 0 where
    pub forged : IsForgedAt k proto opens inputs n p
    pub free : IsFree k proto (events_in opens forged.earlier)

  -- a collision after event n, up to which nothing was forged
  pub record IsCollidedFirst (inputs : List Input) (n : ℕ) (p : Party) : Type 0 where
    pub collided : IsCollidedAt k proto opens inputs n p
    pub honest : IsHonestRun k proto (events_in opens (collided.input ∷ collided.earlier))

  -- the premise line of a run over what came, the newest first, where these parties are declared faulty, each with the number of its cores:
  -- the earliest event at which a premise fails, which, and whose. Too many faulty replicas break one before the first event
  pub data IsPremise (faulty : List (Party × ℕ)) (inputs : List Input) : Premise → Type 0 where
    is_held : passing k.cluster.f faulty ≡ None → IsHonestRun k proto (events_in opens inputs) → IsFree k proto (events_in opens inputs) → IsPremise faulty inputs Held
    is_faulty : (p : Party) → passing k.cluster.f faulty ≡ Some p → IsPremise faulty inputs (Broken 0 Faulty p)
    is_forged : (n : ℕ) (p : Party) → passing k.cluster.f faulty ≡ None → IsForgedFirst inputs n p → IsPremise faulty inputs (Broken n Forged p)
    is_collided : (n : ℕ) (p : Party) → passing k.cluster.f faulty ≡ None → IsCollidedFirst inputs n p → IsPremise faulty inputs (Broken n Collided p)
