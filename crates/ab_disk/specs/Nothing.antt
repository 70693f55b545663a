-- No disk: it tells nothing, and never fails.
use Rattle.std.specs.Prelude.{◌≡◌, ℕ, ◌≤◌, List, Option, None, Some, ⊤}
use Rattle.ab_disk.specs.Disks.{DiskModel}

abbrev pub nothing : {D : Type 0} → DiskModel D
nothing = record { seen = λ d. None; may_leave = λ d c. ⊤; moment = λ d. 0; left_since = λ d t c. ⊤; faults = λ d. 0 }
