-- The text that sets up a node: the keys of its party, then a client's commands, then the end.
use Rattle.std.specs.Prelude.{◌≡◌, ℕ, ◌+◌, List, [], ◌∷◌, ◌++◌, map, Bool, IsTrue, Option, None, Some, Result, Ok, Err, codes, length, ◌&&◌, nat_le, if◌then◌else◌}
use Rattle.std.specs.Str.{bytes_eq}
use Rattle.std.specs.List.{AllByRecursion, list_all}
use Rattle.std.specs.Option.{option_and_then}
use Rattle.ab_num.specs.declared.party.Party.{Party}
use Rattle.ab_num.specs.declared.party.Party.TheVariants.{Replica, Client}
use Rattle.ab_text.specs.Heads.{stripped}
use Rattle.ab_key_text.specs.declared.fault.NodeFault.{NodeFault}
use Rattle.ab_key_text.specs.declared.fault.NodeFault.TheVariants.{NoEnd}
use Rattle.ab_key_text.specs.Keys.{PartyKeys, IsPartyKeys}
use Rattle.ab_key_text.specs.Lines.{◌>>=◌, found_at}
use Rattle.ab_key_text.specs.Reading.{keys_at, ended}
use Rattle.ab_key_text.specs.Spelling.{key_lines}

-- the keys of a node's party, and the commands that it makes
pub record NodeText : Type 0 where
  pub keys : PartyKeys
  pub commands : List (List ℕ)

abbrev pub node_of : PartyKeys → List (List ℕ) → NodeText
node_of keys commands = record { keys = keys; commands = commands }

abbrev pub is_printable : List ℕ → Bool
is_printable text = list_all (λ b. nat_le 0x20 b && nat_le b 0x7e) text

-- 1 to 128 bytes, each printable
abbrev pub is_command : List ℕ → Bool
is_command text = nat_le 1 (length text) && (nat_le (length text) 128 && is_printable text)

abbrev pub checked_command : List ℕ → Option (List ℕ)
checked_command text = if is_command text then Some text else None

-- a command of a client; a replica makes none
abbrev pub command_in : Party → List ℕ → Option (List ℕ)
command_in (Replica r) l = None
command_in (Client c) l = option_and_then checked_command (stripped (codes "do ") l)

-- line n is the end or a command of this party, after those that were read
abbrev pub commands_at : Party → List (List ℕ) → ℕ → List (List ℕ) → Result (List (List ℕ)) NodeFault
commands_at me done n [] = Err (NoEnd n)
commands_at me done n (l ∷ ls) =
    if bytes_eq l (codes "end") then ended done (n + 1) ls
    else found_at n ls (command_in me l) >>= λ x. commands_at me (done ++ x.0 ∷ []) (n + 1) ls

-- ---- spelled

abbrev pub command_line : List ℕ → List ℕ
command_line command = codes "do " ++ command

-- commands, and the end
abbrev pub command_lines : List (List ℕ) → List (List ℕ)
command_lines commands = map command_line commands ++ codes "end" ∷ []

abbrev pub node_lines : NodeText → List (List ℕ)
node_lines node = key_lines node.keys ++ command_lines node.commands

abbrev pub AreCommandsOf : Party → List (List ℕ) → Type 0
AreCommandsOf (Replica r) commands = commands ≡ []
AreCommandsOf (Client c) commands = AllByRecursion (λ command. IsTrue (is_command command)) commands

-- keys in form, and commands of a client
pub record IsNodeText (node : NodeText) : Type 0 where
  pub keys : IsPartyKeys node.keys
  pub commands : AreCommandsOf node.keys.me node.commands

-- ---- read

-- what the lines of a node's text give
unfoldable pub node_in : List (List ℕ) → Result NodeText NodeFault
node_in ls = do
  keys ← keys_at ls
  commands ← commands_at keys.value.me [] keys.next keys.rest
  Ok (node_of keys.value commands)

-- what lines give that are a client's commands alone
unfoldable pub commands_in : List (List ℕ) → Result (List (List ℕ)) NodeFault
commands_in ls = commands_at (Client 0) [] 1 ls
