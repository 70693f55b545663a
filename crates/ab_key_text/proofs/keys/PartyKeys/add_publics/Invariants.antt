use Rattle.std.proofs.Common.{◌≡◌, ◌++◌, take}
use Rattle.ab_key_text.specs.Spelling.{public_lines}
use Rattle.ab_text.specs.Texts.{text_of}
use Rattle.ab_key_text.proofs.keys.PartyKeys.add_publics.Given as goal

abbrev pub invariant-loop-r : goal.invariant-loop-r
invariant-loop-r l = l.out.items ≡ l.fn.out.items ++ text_of (public_lines 0 (take l.r l.self.publics))
