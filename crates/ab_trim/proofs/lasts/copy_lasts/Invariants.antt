use Rattle.std.proofs.Common.{◌≡◌, take}
use Rattle.ab_trim.proofs.lasts.copy_lasts.Given as goal

abbrev pub invariant-lasts : goal.invariant-lasts
invariant-lasts l = l.copies.items ≡ take l.last-index l.lasts
