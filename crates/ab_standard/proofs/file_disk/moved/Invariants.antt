use Rattle.std.proofs.Common.{◌≤◌, length}
use Rattle.ab_standard.proofs.file_disk.moved.Given as goal

abbrev pub invariant-reads : goal.invariant-reads
invariant-reads l = l.count ≤ length l.buf
