use Rattle.std.proofs.Common.{◌≡◌, ◌+◌, ◌≤◌, [], map, length}
use Rattle.ab_text.specs.Lines.{lines_of}
use Rattle.ab_key_text.specs.Nodes.{commands_at}
use Rattle.ab_key_text.proofs.node.commands_at.Given as goal

-- what was read so far, and what is left, give what the whole gives
abbrev pub invariant-loop-line : goal.invariant-loop-line
invariant-loop-line l = record {
  reads : commands_at l.me (map (λ c. c.items) l.commands) l.n (lines_of l.rest) ≡ commands_at l.me [] l.first (lines_of l.text);
  room : l.n + length l.rest ≤ l.first + length l.text;
}

abbrev pub decreases-loop-line : goal.decreases-loop-line
decreases-loop-line l = length l.rest
