-- The summary of a storm.
use Rattle.std.specs.Prelude.{ℕ, Bool, true, false, List, [], ◌∷◌, length, max, codes, decimal}
use Rattle.std.specs.List.{count_by}
use Rattle.ab_text.specs.declared.line.Line.{Line}
use Rattle.ab_text.specs.declared.line.Line.TheVariants.{Commit, Cert, Init, Spent}
use Rattle.ab_text.specs.Reports.{◌then◌, premise_text}
use Rattle.ab_replica.specs.Sites.{Site}
use Rattle.ab_world.specs.Worlds.{World, premise_of}
use Rattle.ab_storm.specs.declared.summary.Counted.{Counted}
use Rattle.ab_storm.specs.declared.summary.Counted.TheVariants as counted

-- whether it is a line of this kind
abbrev pub is_of : Counted → Line → Bool
is_of counted.Commits (Commit e c i stamp n reply) = true
is_of counted.Commits _ = false
is_of counted.Certs (Cert e p i start entries) = true
is_of counted.Certs _ = false
is_of counted.Inits (Init e r i start entries) = true
is_of counted.Inits _ = false
is_of counted.Spent (Spent e r) = true
is_of counted.Spent _ = false

-- the highest instance in which one of the replicas is
abbrev pub highest : {P : Type 0} → List (Site P) → ℕ
highest [] = 0
highest (s ∷ rest) = max s.rep.at (highest rest)

-- how many lines of the kind there are
abbrev pub count_of : {P : Type 0} → World P → Counted → ℕ
count_of w kind = count_by (is_of kind) w.lines

-- how many events and packets there were
abbrev pub sizes_text : ℕ → ℕ → List ℕ
sizes_text events packets = codes "events " then decimal events then codes "\npackets " then decimal packets then codes "\n"

-- how many lines of each kind there are
abbrev pub counts_text : ℕ → ℕ → ℕ → ℕ → List ℕ
counts_text commits certs inits spent =
    codes "commits " then decimal commits then codes "\ncerts " then decimal certs then codes "\ninits " then decimal inits then codes "\nspent " then decimal spent
    then codes "\n"

abbrev pub top_text : ℕ → List ℕ
top_text top = codes "top " then decimal top then codes "\n"

-- the numbers, line by line, and the premise line
abbrev pub summary_of : {P : Type 0} → World P → List ℕ
summary_of w =
    sizes_text w.cast.events (length w.packets) then counts_text (count_of w counted.Commits) (count_of w counted.Certs) (count_of w counted.Inits) (count_of w counted.Spent)
    then top_text (highest w.cast.replicas) then premise_text (premise_of w)
