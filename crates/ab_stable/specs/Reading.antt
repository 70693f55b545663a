-- How certificates are read whose lists may have forgotten their first entries.
use Rattle.std.specs.Prelude.{ℕ, Bool, false, if◌then◌else◌, Option, None, Some, List, [], ◌∷◌, ◌++◌}
use Rattle.std.specs.List.{list_all}
use Rattle.ab_hist.specs.declared.request.Request.{Request}
use Rattle.ab_hist.specs.Histories.{may_follow}
use Rattle.ab_content.specs.Views.{trimmed}
use Rattle.ab_stable.specs.declared.certificate.StatedRef.{StatedRef}
use Rattle.ab_stable.specs.Certs.{Stated}
use Rattle.ab_stable.specs.Offers.{are_enough}

abbrev pub seen : StatedRef → Stated
seen v = record { by = v.by; list = trimmed v.list }

-- these are the lists of 2f + 1 distinct replicas
abbrev pub are_valid : ℕ → Option (List Stated) → Bool
are_valid f None = false
are_valid f (Some votes) = are_enough f votes

-- the history with these requests pushed one after another, if the stamp of each rises there
abbrev pub extended : List Request → List Request → Option (List Request)
extended h [] = Some h
extended h (m ∷ more) = if list_all (may_follow m) h then extended (h ++ m ∷ []) more else None
