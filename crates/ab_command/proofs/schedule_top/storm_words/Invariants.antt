use Rattle.std.proofs.Common.{◌≡◌, ◌∷◌, codes, take}
use Rattle.ab_words.specs.Uses.{texts}
use Rattle.ab_command.proofs.schedule_top.storm_words.Given as goal

abbrev pub invariant-loop-option : goal.invariant-loop-option
invariant-loop-option l = texts l.words.items ≡ codes "storm" ∷ texts (take l.option-index l.options)
