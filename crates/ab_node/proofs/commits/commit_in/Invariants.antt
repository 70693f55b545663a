use Rattle.std.proofs.Common.{◌≡◌, drop}
use Rattle.ab_node.specs.Clients.{commit_in}
use Rattle.ab_node.proofs.commits.commit_in.Given as goal

-- it isn't before this place
abbrev pub invariant-loop-s : goal.invariant-loop-s
invariant-loop-s l = commit_in l.seen ≡ commit_in (drop l.s-index l.seen)
