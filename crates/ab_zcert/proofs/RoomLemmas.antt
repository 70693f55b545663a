-- Logs that have room for a request.
use Rattle.std.proofs.Common.{◌≡◌, ℕ, ◌<◌, true, List, length}
use Rattle.ab_hist.specs.declared.request.Request.{Request}
use Rattle.ab_hist.specs.Known.{can_push_after}
use Rattle.ab_hist.proofs.KnownLemmas.{can_push_after-Decides}

-- a log that may be given a request has a place for it
pub has_room : (n : ℕ) (log : List Request) (m : Request) → can_push_after n log m ≡ true → length log < 65535
has_room n log m can = ((can_push_after-Decides n log m).0 can).1.0
