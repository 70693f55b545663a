use Rattle.std.proofs.Common.{◌≡◌, ◌++◌, map, take}
use Rattle.ab_key_text.specs.Nodes.{command_line}
use Rattle.ab_text.specs.Texts.{text_of}
use Rattle.ab_key_text.proofs.node_writing.add_commands.Given as goal

abbrev pub invariant-loop-command : goal.invariant-loop-command
invariant-loop-command l = l.out.items ≡ l.fn.out.items ++ text_of (map command_line (map (λ c. c.items) (take l.command-index l.commands)))
