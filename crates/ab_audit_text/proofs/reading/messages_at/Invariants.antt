use Rattle.std.proofs.Common.{◌≡◌, ◌+◌, ◌≤◌, [], length}
use Rattle.ab_text.specs.Lines.{lines_of}
use Rattle.ab_audit_text.specs.Texts.{audit_of, messages_at}
use Rattle.ab_audit_text.proofs.reading.messages_at.Given as goal

-- what was read so far, and what is left, give what the whole gives
abbrev pub invariant-loop-line : goal.invariant-loop-line
invariant-loop-line l = record {
  reads : messages_at (audit_of l.front.cluster.f l.front.lms l.front.publics.items l.messages) l.n (lines_of l.rest)
      ≡ messages_at (audit_of l.fn.front.cluster.f l.fn.front.lms l.fn.front.publics.items []) l.first (lines_of l.text);
  room : l.n + length l.rest ≤ l.first + length l.text;
}

abbrev pub decreases-loop-line : goal.decreases-loop-line
decreases-loop-line l = length l.rest
