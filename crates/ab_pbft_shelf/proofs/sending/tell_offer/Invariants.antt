use Rattle.std.proofs.Common.{◌≡◌, ◌++◌}
use Rattle.ab_pbft_shelf.specs.Posts.{to_others, offer_message}
use Rattle.ab_pbft_shelf.proofs.sending.tell_offer.Given as goal

abbrev pub invariant-loop-r : goal.invariant-loop-r
invariant-loop-r l = l.outs.items ≡ l.initial.outs.items ++ to_others l.r l.by.me (offer_message l.by l.shelf l.view l.slot l.value)
