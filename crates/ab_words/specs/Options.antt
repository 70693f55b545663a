-- The options of a command, as clap has them.
use Rattle.std.specs.Prelude.{List, Bool, true, false, not, ◌&&◌, ◌||◌, Some, map, codes}
use Rattle.std.specs.Str.{bytes_eq}
use Rattle.std.specs.List.{list_any}
use Rattle.clap.specs.Words.{App, Rule, Text, new_app, new_rule}
use Rattle.clap.specs.Simple.{on_top}
use Rattle.clap.specs.declared.builder.action.ArgAction.{ArgAction}
use Rattle.clap.specs.declared.builder.action.ArgAction.TheVariants.{Set, SetTrue}
use Rattle.ab_words.specs.declared.options.TheConstants.{CLUSTER, KEYS, STORM, NODE}

abbrev pub is_flag : Text → Bool
is_flag name = bytes_eq name (codes "trace")

-- the options that may be left out
abbrev pub is_optional : Text → Bool
is_optional name = bytes_eq name (codes "journal") || bytes_eq name (codes "checkpoint")

abbrev pub action_for : Bool → ArgAction
action_for true = SetTrue
action_for false = Set

-- a flag, or an option that takes one value, and has to be there if it may not be left out
abbrev pub rule_as : Bool → Text → Rule
rule_as flag name = record (new_rule name) { long = Some name; action = Some (action_for flag); required = not flag && not (is_optional name) }

abbrev pub rule_named : Text → Rule
rule_named name = rule_as (is_flag name) name

-- a command of these options and no others, which doesn't offer help
abbrev pub app_with : List Text → App
app_with names = on_top (λ s. record s { rules = map rule_named names; no_binary_name = true; disable_help_flag = true }) (new_app (codes "abstract_bft"))

abbrev pub has : Text → List Text → Bool
has name names = list_any (λ n. bytes_eq n name) names

-- ---- the options of each command, as the code lists them

abbrev pub keys_options : List Text
keys_options = map (λ name. name.now) KEYS.now

abbrev pub storm_options : List Text
storm_options = map (λ name. name.now) STORM.now

abbrev pub cluster_options : List Text
cluster_options = map (λ name. name.now) CLUSTER.now

abbrev pub node_options : List Text
node_options = map (λ name. name.now) NODE.now
