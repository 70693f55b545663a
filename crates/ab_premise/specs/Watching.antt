-- What a program keeps of correct parties.
use Rattle.std.specs.Prelude.{ℕ, Option, None, List, []}
use Rattle.ab_links.specs.Digested.{Digested}
use Rattle.ab_run.specs.Stages.{Forgery}
use Rattle.ab_premise.specs.declared.breach.Collision.{Collision}
use Rattle.ab_premise.specs.Collisions.{first_watch}

-- the bytes of what they stated, once each; the first forgery; and what is kept to find collisions, with the first
pub record Watching : Type 0 where
  pub made : List (List ℕ)
  pub forged : Option Forgery
  pub kept : Digested
  pub collided : Option Collision

abbrev pub first_watching : Watching
first_watching = record { made = []; forged = None; kept = first_watch.kept; collided = None }
