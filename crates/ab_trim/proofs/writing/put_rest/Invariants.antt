use Rattle.std.proofs.Common.{◌≡◌, ◌++◌, take}
use Rattle.ab_form.specs.Formats.{spell_each}
use Rattle.ab_msg.specs.Fields.{spell_request}
use Rattle.ab_trim.proofs.writing.put_rest.Given as goal

abbrev pub invariant-entries : goal.invariant-entries
invariant-entries l = l.out.items ≡ l.initial.out.items ++ spell_each spell_request (take l.k l.list.list.rest)
