-- What is reported of a cluster whose jobs were gathered.
use Rattle.std.specs.Prelude.{ℕ, ◌+◌, ◌*◌, ◌==◌, List, [], ◌∷◌, ◌++◌, map, Bool, false, not, Option, None, Some, codes, decimal, is_none, slice_get, if◌then◌else◌}
use Rattle.std.specs.List.{list_any, range_with_len}
use Rattle.std.specs.Option.{option_and_then}
use Rattle.ab_num.specs.declared.party.Party.{Party}
use Rattle.ab_num.specs.declared.party.Party.TheVariants.{Replica, Client}
use Rattle.ab_text.specs.Cores.{party_text}
use Rattle.ab_text.specs.Texts.{text_of}
use Rattle.ab_cluster.specs.declared.report.Conclusion.{Conclusion}
use Rattle.ab_cluster.specs.declared.report.Conclusion.TheVariants.{Well, Ill, Unknown}
use Rattle.ab_cluster.specs.Children.{Ending}
use Rattle.ab_cluster.specs.Gathering.{Outcome}

-- how the child of job n ended, if that is known
abbrev pub ended_at : List Outcome → ℕ → Option Ending
ended_at all n = option_and_then (λ (o : Outcome). o.ended) (slice_get all n)

abbrev pub status_text : Option Ending → List ℕ
status_text None = codes "none"
status_text (Some e) = decimal e.status

-- a party, and the status with which its child ended: `child r0 0`
abbrev pub child_line : Party → Option Ending → List ℕ
child_line p e = codes "child " ++ party_text p ++ codes " " ++ status_text e

-- replicas ascending, then the client
abbrev pub child_lines : ℕ → List Outcome → List (List ℕ)
child_lines f all = map (λ r. child_line (Replica r) (ended_at all r)) (range_with_len 0 (3 * f + 1)) ++ child_line (Client 0) (ended_at all (3 * f + 1)) ∷ []

-- what a child wrote
abbrev pub out_of : Option Ending → List ℕ
out_of None = []
out_of (Some e) = e.out

-- the line of each party, and then what the client wrote
abbrev pub report_text : ℕ → List Outcome → List ℕ
report_text f all = text_of (child_lines f all) ++ out_of (ended_at all (3 * f + 1))

-- whether a child ended with another status than 0
abbrev pub is_ill : Option Ending → Bool
is_ill None = false
is_ill (Some e) = not (e.status == 0)

-- it isn't known of each job how its child ended, or it is known, and then whether all statuses are 0
abbrev pub conclusion_of : List Outcome → Conclusion
conclusion_of all = if list_any (λ (o : Outcome). is_none o.ended) all then Unknown else (if list_any (λ (o : Outcome). is_ill o.ended) all then Ill else Well)
