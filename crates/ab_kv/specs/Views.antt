-- The command that the code's form of it says.
use Rattle.ab_kv.specs.declared.command.Command.{Command}
use Rattle.ab_kv.specs.declared.command.Command.TheVariants.{Put, Get, Del, Cas}
use Rattle.ab_kv.specs.Commands as said

abbrev pub view : Command → said.Command
view (Put key value) = said.Put key.now value.now
view (Get key) = said.Get key.now
view (Del key) = said.Del key.now
view (Cas key old new) = said.Cas key.now old.now new.now
