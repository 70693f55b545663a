-- The jobs of a cluster are nodes.
use Rattle.std.proofs.Common.{◌≡◌, ℕ, ◌+◌, ◌*◌, ◌^◌, ◌<◌, ◌≤◌, List, [], ◌∷◌, ◌++◌, false, Option, None, Some, Ok, IsTrue, map, decimal, refl, ap, ◌∙◌, if◌then◌else◌, arith}
use Rattle.std.specs.Prelude.{◌&&◌}
use Rattle.std.specs.List.{range_with_len}
use Rattle.std.proofs.lemmas.Bool.{le-leb}
use Rattle.std.proofs.lemmas.List.{map-append}
use Rattle.ab_num.specs.declared.party.Party.{Party}
use Rattle.ab_num.specs.declared.party.Party.TheVariants.{Replica, Client}
use Rattle.ab_num.specs.Bounds.{IsInBounds}
use Rattle.ab_keys.specs.Keys.{is_party}
use Rattle.ab_keys.specs.Rings.{parties}
use Rattle.ab_text.specs.Heads.{most_built}
use Rattle.ab_text.specs.Lines.{lines_of}
use Rattle.ab_text.proofs.NumberLemmas.{is_some_number}
use Rattle.ab_key_text.specs.Lines.{bounded}
use Rattle.ab_key_text.specs.Nodes.{AreCommandsOf, node_in}
use Rattle.ab_key_text.proofs.FeedLemmas.{written_node_reads}
use Rattle.ab_key_text.proofs.FormLemmas.{derived_form}
use Rattle.ab_words.specs.Commands.{ClusterCommand, NodeCommand}
use Rattle.ab_words.specs.declared.command.Command.{Command}
use Rattle.ab_words.specs.declared.command.Command.TheVariants.{Node}
use Rattle.ab_words.specs.Limits.{highest_base, longest_wait, most_turns}
use Rattle.ab_words.specs.Language.{command_in, command_of, node_in as asked_in}
use Rattle.ab_words.specs.Uses.{◌>>=◌, opened, uses_in}
use Rattle.ab_words.specs.Values.{number_in, optional_of, value_of}
use Rattle.ab_cluster.specs.Children.{Job}
use Rattle.ab_cluster.specs.Jobs.{cluster_jobs, commands_of, job_for, node_for, node_words}

-- ---- the words

number_read : (low high k : ℕ) → low ≤ k → k ≤ high → k < 2 ^ 64 → number_in low high (decimal k) ≡ Some k
number_read low high k above below small =
    ap (bounded low high) (is_some_number (decimal k) k small refl)
    ∙ (λ j. if le-leb low k above j && le-leb k high below j then Some k else None)

abbrev node_by : Option ℕ → Option ℕ → Option ℕ → Option Command
node_by base wait turns =
    (base >>= λ b. wait >>= λ w. turns >>= λ t. let n : Option NodeCommand = Some (record { base = b; wait = w; turns = t; trace = false; journal = None }) in n) >>= λ c. Some (Node c)

pub words_ask : (k : ClusterCommand) → 1 ≤ k.base → k.base ≤ highest_base → 1 ≤ k.wait → k.wait ≤ longest_wait → 1 ≤ k.turns → k.turns ≤ most_turns
    → command_in (node_words k) ≡ Some (Node (record { base = k.base; wait = k.wait; turns = k.turns; trace = false; journal = None }))
unfolding command_of uses_in opened asked_in value_of optional_of
words_ask k b1 b2 w1 w2 t1 t2 =
    let base = number_read 1 highest_base k.base b1 b2 (omega (arith, b2)) in
    let wait = number_read 1 longest_wait k.wait w1 w2 (omega (arith, w2)) in
    let turns = number_read 1 most_turns k.turns t1 t2 (omega (arith, t2)) in
    λ j. node_by (base j) (wait j) (turns j)

-- ---- the input

commands_are : (p : Party) (commands : List (List ℕ)) → AreCommandsOf (Client 0) commands → AreCommandsOf p (commands_of p commands)
commands_are (Replica r) commands good = refl
commands_are (Client c) commands good = good

pub inputs_set_up : (k : ClusterCommand) (commands : List (List ℕ)) (p : Party) → IsInBounds k.f 1 → k.every ≤ most_built k.plan → IsTrue (is_party k.f 1 p) → AreCommandsOf (Client 0) commands
    → node_in (lines_of (job_for k commands p).input) ≡ Ok (node_for k commands p)
inputs_set_up k commands p bounds built inside good =
    written_node_reads (node_for k commands p) (record {
      keys = derived_form k.f 1 k.plan k.every k.service k.lms k.seed p bounds built inside;
      commands = commands_are p commands good;
    })

-- ---- the list of them

jobs_of_replicas : (k : ClusterCommand) (commands : List (List ℕ)) (ns : List ℕ) → map (job_for k commands) (map Replica ns) ≡ map (λ r. job_for k commands (Replica r)) ns
jobs_of_replicas k commands [] = refl
jobs_of_replicas k commands (n ∷ ns) = ap (λ (js : List Job). job_for k commands (Replica n) ∷ js) (jobs_of_replicas k commands ns)

pub all_jobs : (k : ClusterCommand) (commands : List (List ℕ)) → cluster_jobs k commands ≡ map (λ r. job_for k commands (Replica r)) (range_with_len 0 (3 * k.f + 1)) ++ job_for k commands (Client 0) ∷ []
unfolding parties
all_jobs k commands =
    map-append (job_for k commands) (map Replica (range_with_len 0 (3 * k.f + 1))) (Client 0 ∷ [])
    ∙ ap (λ (js : List Job). js ++ job_for k commands (Client 0) ∷ []) (jobs_of_replicas k commands (range_with_len 0 (3 * k.f + 1)))
