use Rattle.std.proofs.Common.{◌≡◌, take}
use Rattle.std.specs.List.{filter, starts_with}
use Rattle.ab_hist.specs.Requests.{request_eq}
use Rattle.ab_extract.proofs.extend.begun.Given as goal

abbrev pub invariant-loop-l : goal.invariant-loop-l
invariant-loop-l l = l.made.items ≡ filter (λ x. starts_with request_eq x.now l.front) (take l.l-index l.lists)
