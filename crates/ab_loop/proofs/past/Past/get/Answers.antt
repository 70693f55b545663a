use Rattle.std.proofs.Common.{ap, sym, ◌∙◌}
use Rattle.std.specs.Option.{option_map}
use Rattle.ab_loop.specs.Cores.{event_of}
use Rattle.ab_loop.proofs.PastLemmas.{alone}
use Rattle.ab_loop.proofs.past.Past.get.Goals as goal

pub returns-in-Some-clause-lengths : goal.returns-in-Some-clause-lengths
returns-in-Some-clause-lengths c = (alone _ _ (sym c.event_in.ensures ∙ ap (option_map event_of) c.in-Some.is)).1
