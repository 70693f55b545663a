-- How bytes are read as a command.
use Rattle.std.specs.Prelude.{ℕ, List, [], ◌∷◌, length, Bool, ◌&&◌, nat_eq, nat_le, if◌then◌else◌, Option, None, Some, codes}
use Rattle.std.specs.List.{list_all}
use Rattle.std.specs.Option.{option_map, option_and_then}
use Rattle.std.specs.Str.{bytes_eq}
use Rattle.ab_kv.specs.Commands.{Command, Put, Get, Del, Cas, is_symbol}

abbrev pub is_word : ℕ → List ℕ → Bool
is_word most bytes = nat_le 1 (length bytes) && (nat_le (length bytes) most && list_all is_symbol bytes)

-- what stands before the first space, and what stands after it
abbrev pub parts : List ℕ → Option (List ℕ × List ℕ)
parts [] = None
parts (b ∷ bs) = if nat_eq b 32 then Some ([], bs) else option_map (λ p. (b ∷ p.0, p.1)) (parts bs)

abbrev pub put_in : List ℕ → Option Command
put_in rest = option_and_then (λ p. if is_word 32 p.0 && is_word 64 p.1 then Some (Put p.0 p.1) else None) (parts rest)

abbrev pub get_in : List ℕ → Option Command
get_in rest = if is_word 32 rest then Some (Get rest) else None

abbrev pub del_in : List ℕ → Option Command
del_in rest = if is_word 32 rest then Some (Del rest) else None

abbrev pub cas_of : List ℕ → List ℕ → List ℕ → Option Command
cas_of k old new = if is_word 32 k && (is_word 64 old && is_word 64 new) then Some (Cas k old new) else None

abbrev pub cas_in : List ℕ → Option Command
cas_in rest = option_and_then (λ p. option_and_then (λ q. cas_of p.0 q.0 q.1) (parts p.1)) (parts rest)

-- the command of this name, with the rest of the bytes for its words
unfoldable pub named : List ℕ → List ℕ → Option Command
named name rest =
    if bytes_eq name (codes "put") then put_in rest
    else if bytes_eq name (codes "get") then get_in rest
    else if bytes_eq name (codes "del") then del_in rest
    else if bytes_eq name (codes "cas") then cas_in rest
    else None

-- the command that the bytes spell, if there is one
unfoldable pub command_in : List ℕ → Option Command
command_in bytes = option_and_then (λ p. named p.0 p.1) (parts bytes)
