-- What a call of the program met.
use Rattle.std.specs.Prelude.{ℕ, List}
use Rattle.ab_io.specs.States.{Outside}
use Rattle.ab_words.specs.Commands.{NodeCommand}
use Rattle.ab_node.specs.Nodes.{NodeCall, plain_call}

-- what a call of the program met: its words, and what became of each object of the outside
pub record Call : Type 0 where
  pub words : List (List ℕ)
  pub met : Outside

abbrev pub call : List (List ℕ) → Outside → Call
call words met = record { words = words; met = met }

-- what a node without a journal met that was asked for
abbrev pub call_of : NodeCommand → Call → NodeCall
call_of k c = plain_call k c.met.clock c.met.out c.met.link
