-- What waits to be ordered.
use Rattle.std.specs.Prelude.{Bool, ◌||◌, List, is_none, length, nat_lt}
use Rattle.std.specs.List.{list_any}
use Rattle.ab_hist.specs.declared.request.Request.{Request}
use Rattle.ab_hist.specs.Histories.{place_in}
use Rattle.ab_abs.specs.Values.{list_of}
use Rattle.ab_pbft_rules.specs.Rules.{Memory}

-- one of these requests is missing from a list
abbrev pub lacks_some : List Request → List Request → Bool
lacks_some list requests = list_any (λ m. is_none (place_in list m)) requests

-- a slot is accepted and not executed, or a kept request is missing from the executed list
abbrev pub waits : Memory → Bool
waits m =
    let core = m.peer.core in
    nat_lt (length core.executed) (length core.accepted) || lacks_some (list_of core.executed) m.requests
