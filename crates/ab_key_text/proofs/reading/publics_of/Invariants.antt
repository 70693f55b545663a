use Rattle.std.proofs.Common.{◌≡◌, ◌+◌, ◌≤◌, [], drop, length}
use Rattle.ab_text.specs.Lines.{lines_of}
use Rattle.ab_scheme.specs.Schemes.{public_length}
use Rattle.ab_key_text.specs.Reading.{publics_at}
use Rattle.ab_key_text.proofs.reading.publics_of.Given as goal

-- what was read so far, and what is left, give what the whole gives
abbrev pub invariant-loop-p : goal.invariant-loop-p
invariant-loop-p l = record {
  reads : publics_at (public_length l.lms) (drop l.p-index l.parties) l.publics.items l.next (lines_of l.rest) ≡ publics_at (public_length l.lms) l.parties [] l.first (lines_of l.text);
  next : l.next ≡ l.first + l.p-index;
  shorter : length l.rest ≤ length l.text;
}
