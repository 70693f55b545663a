use Rattle.std.proofs.Common.{◌≡◌, ◌++◌}
use Rattle.ab_pbft_shelf.specs.Posts.{to_others}
use Rattle.ab_pbft_shelf.proofs.sending.tell.Given as goal

abbrev pub invariant-loop-r : goal.invariant-loop-r
invariant-loop-r l = l.outs.items ≡ l.initial.outs.items ++ to_others l.r l.by.me (λ r. l.msg)
