-- A disk over a file of the system.
use Rattle.std.specs.Prelude.{ℕ, None, ⊤}
use Rattle.ab_disk.specs.Disks.{DiskModel}

-- what it tells: how often it has failed, and nothing else
abbrev pub untold : DiskModel ℕ
untold = record {
  seen = λ d. None;
  may_leave = λ d c. ⊤;
  moment = λ d. 0;
  left_since = λ d t c. ⊤;
  faults = λ d. d;
}
