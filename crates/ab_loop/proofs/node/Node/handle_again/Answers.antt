use Rattle.std.proofs.Common.{Option, ap, arith}
use Rattle.ab_loop.specs.declared.party_core.Commit.{Commit}
use Rattle.ab_loop.specs.Nodes.{line_again}
use Rattle.ab_loop.proofs.OutsideLemmas.{say_later, says_second}
use Rattle.ab_loop.proofs.node.Node.handle_again.Goals as goal

pub returns-in-Err-tell_again-clause-tells : goal.returns-in-Err-tell_again-clause-tells
returns-in-Err-tell_again-clause-tells g c = record {
  says = says_second _ _ _ _ _ _ c.in_default.ensures.says (ap (λ (o : Option Commit). line_again o) c.in-Ok.ensures.commit) c.in-Err-tell_again.ensures.says;
  counted = (omega (arith, c.in_default.ensures.counted, c.in-Err-tell_again.ensures.counted.0), say_later c.in-Err-tell_again.fault _ _ _ c.in_default.ensures.counted c.in-Err-tell_again.ensures.counted.1);
}
