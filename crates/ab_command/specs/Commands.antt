-- What words ask for, and the key text that is written.
use Rattle.std.specs.Prelude.{◌≡◌, ◌⊎◌, ℕ, Bool, List, None, Some, IsSome}
use Rattle.ab_key_text.specs.Derived.{keys_of}
use Rattle.ab_key_text.specs.Spelling.{key_lines}
use Rattle.ab_words.specs.declared.command.Command.TheVariants.{Replay, Storm, Keys, Node, Audit, Cluster}
use Rattle.ab_words.specs.Commands.{ClusterCommand, KeysCommand, NodeCommand, StormCommand}
use Rattle.ab_words.specs.Language.{command_in}
use Rattle.ab_text.specs.Texts.{text_of}

-- the words are no command
abbrev pub IsNoCommand : List (List ℕ) → Type 0
IsNoCommand words = command_in words ≡ None

-- the words ask for a replay
abbrev pub IsReplay : List (List ℕ) → Type 0
IsReplay words = command_in words ≡ Some Replay

-- the words ask for an audit, whose report tells why or doesn't
abbrev pub AsksAudit : List (List ℕ) → Bool → Type 0
AsksAudit words why = command_in words ≡ Some (Audit why)

-- the words ask for an audit
abbrev pub IsAudit : List (List ℕ) → Type 0
IsAudit words = (why : Bool) × AsksAudit words why

-- the words ask for these keys
abbrev pub AsksKeys : List (List ℕ) → KeysCommand → Type 0
AsksKeys words k = command_in words ≡ Some (Keys k)

-- the words ask for this storm
abbrev pub AsksStorm : List (List ℕ) → StormCommand → Type 0
AsksStorm words k = command_in words ≡ Some (Storm k)

-- the words ask for this node
abbrev pub AsksNode : List (List ℕ) → NodeCommand → Type 0
AsksNode words k = command_in words ≡ Some (Node k)

-- the words ask for this node, which keeps a journal
abbrev pub AsksJournal : List (List ℕ) → NodeCommand → Type 0
AsksJournal words k = AsksNode words k × IsSome k.journal

-- the words ask for a node
abbrev pub IsNode : List (List ℕ) → Type 0
IsNode words = (k : NodeCommand) × AsksNode words k

-- the words ask for a node with a journal
abbrev pub KeepsJournal : List (List ℕ) → Type 0
KeepsJournal words = (k : NodeCommand) × AsksJournal words k

-- the words ask for this cluster
abbrev pub AsksCluster : List (List ℕ) → ClusterCommand → Type 0
AsksCluster words k = command_in words ≡ Some (Cluster k)

-- the words ask for a cluster
abbrev pub IsCluster : List (List ℕ) → Type 0
IsCluster words = (k : ClusterCommand) × AsksCluster words k

-- the words ask for a cluster or for a node with a journal, of which clauses of their own speak
abbrev pub IsApart : List (List ℕ) → Type 0
IsApart words = IsCluster words ⊎ KeepsJournal words

-- the words ask for what reads the input
abbrev pub TakesInput : List (List ℕ) → Type 0
TakesInput words = IsReplay words ⊎ (IsNode words ⊎ (IsAudit words ⊎ IsCluster words))

-- the text of the keys that are asked for
abbrev pub key_text : KeysCommand → List ℕ
key_text k = text_of (key_lines (keys_of k.f k.clients k.plan k.every k.service k.lms k.seed k.party))
