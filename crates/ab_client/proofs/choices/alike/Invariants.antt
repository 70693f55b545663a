use Rattle.std.proofs.Common.{◌≡◌, take, map}
use Rattle.std.specs.List.{filter}
use Rattle.ab_run.specs.Clients.{same_list}
use Rattle.ab_client.proofs.choices.alike.Given as goal

abbrev pub invariant-loop-w : goal.invariant-loop-w
invariant-loop-w l = map (λ s. s.now) l.some.items ≡ filter (λ w. same_list l.v.content w.content) (map (λ s. s.now) (take l.w-index l.all))
