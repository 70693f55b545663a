-- The two steps of gathering: all jobs are started, and then their children are waited for.
use Rattle.std.specs.Prelude.{◌≡◌, ℕ, List, [], ◌∷◌, ◌++◌, map, length, take, drop, Option, IfSome, ⊤}
use Rattle.std.specs.List.{range_with_len}
use Rattle.std.specs.Option.{option_map}
use Rattle.ab_cluster.specs.declared.gathering.Gathered.{Gathered}
use Rattle.ab_cluster.specs.Children.{Children, Ending, Job, closed, end_of, ending, opened}
use Rattle.ab_cluster.specs.Gathering.{gathered}

-- these jobs were started after the others, and none of their children was waited for
abbrev pub with_opened : List Job → Children → Children
with_opened jobs c = record { started = c.started ++ map opened jobs; ends = c.ends }

-- the same, and the first of their children were waited for
abbrev pub part_gathered : ℕ → List Job → Children → Children
part_gathered i jobs c = record { started = c.started ++ (map closed (take i jobs) ++ map opened (drop i jobs)); ends = c.ends }

-- these are the numbers of the children that were started last, of which none was waited for
pub record AreOpen (told : Option Children) (children : List ℕ) : Type 0 where
  pub known : Option Children
  pub jobs : List Job
  pub each : length jobs ≡ length children
  pub is : told ≡ option_map (with_opened jobs) known
  pub numbers : IfSome known (λ c. children ≡ range_with_len (length c.started) (length children))

-- they were waited for, up to number i of them
abbrev pub ClosesFront : ℕ → Option Children → Option Children → List ℕ → Type 0
ClosesFront i old new children = (these : AreOpen old children) → new ≡ option_map (part_gathered i these.jobs) these.known

-- all of them were
abbrev pub Closes : Option Children → Option Children → List ℕ → Type 0
Closes old new children = (these : AreOpen old children) → new ≡ option_map (gathered these.jobs) these.known

abbrev pub end_in : Gathered → Option Ending
end_in g = option_map ending g.ended

abbrev pub ends_in : List Gathered → List (Option Ending)
ends_in all = map end_in all

-- each child that has told its end has told the right one
abbrev pub AreEndsOf : List Ending → List ℕ → List (Option Ending) → Type 0
AreEndsOf ends [] es = ⊤
AreEndsOf ends (n ∷ ns) [] = ⊤
AreEndsOf ends (n ∷ ns) (e ∷ es) = IfSome e (λ end. end ≡ end_of ends n) × AreEndsOf ends ns es
