-- The jobs of a cluster: each replica and the client is a node of its own.
use Rattle.std.specs.Prelude.{ℕ, List, [], ◌∷◌, map, codes, decimal}
use Rattle.ab_num.specs.declared.party.Party.{Party}
use Rattle.ab_num.specs.declared.party.Party.TheVariants.{Replica, Client}
use Rattle.ab_keys.specs.Rings.{parties}
use Rattle.ab_text.specs.Texts.{text_of}
use Rattle.ab_key_text.specs.Derived.{keys_of}
use Rattle.ab_key_text.specs.Nodes.{NodeText, node_lines, node_of}
use Rattle.ab_words.specs.Commands.{ClusterCommand}
use Rattle.ab_cluster.specs.Children.{Job}

-- the words of a node that is asked for as the cluster is
abbrev pub node_words : ClusterCommand → List (List ℕ)
node_words k = codes "node" ∷ codes "--base" ∷ decimal k.base ∷ codes "--wait" ∷ decimal k.wait ∷ codes "--turns" ∷ decimal k.turns ∷ []

-- the commands are the client's
abbrev pub commands_of : Party → List (List ℕ) → List (List ℕ)
commands_of (Replica r) commands = []
commands_of (Client c) commands = commands

-- the keys that the seed gives to a party of the cluster, and its commands
abbrev pub node_for : ClusterCommand → List (List ℕ) → Party → NodeText
node_for k commands p = node_of (keys_of k.f 1 k.plan k.every k.service k.lms k.seed p) (commands_of p commands)

-- its node: all words are the same, and what is secret is in the input
abbrev pub job_for : ClusterCommand → List (List ℕ) → Party → Job
job_for k commands p = record { words = node_words k; input = text_of (node_lines (node_for k commands p)) }

-- replicas ascending, then the client
abbrev pub cluster_jobs : ClusterCommand → List (List ℕ) → List Job
cluster_jobs k commands = map (job_for k commands) (parties k.f 1)
