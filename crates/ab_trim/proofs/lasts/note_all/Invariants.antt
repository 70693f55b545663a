use Rattle.std.proofs.Common.{◌≡◌, take}
use Rattle.ab_trim.specs.Logs.{noted}
use Rattle.ab_trim.proofs.lasts.note_all.Given as goal

abbrev pub invariant-entries : goal.invariant-entries
invariant-entries l = l.lasts.items ≡ noted l.start (take l.k l.rest.requests) l.fn.lasts.items
