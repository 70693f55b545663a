use Rattle.std.proofs.Common.{◌≡◌, ◌↔◌, IsTrue, length, ap, ◌∙◌, sym, subst}
use Rattle.ab_num.specs.Places.{kind_of}
use Rattle.ab_num.specs.declared.plan.Plan.{Plan}
use Rattle.ab_text.specs.declared.line.Premise.{Premise}
use Rattle.ab_text.specs.declared.line.Premise.TheVariants.{Held}
use Rattle.ab_abs.specs.Promises.{ServesAll}
use Rattle.ab_storm.specs.Runs.{storm_setup, events_in}
use Rattle.ab_storm.proofs.summary.tell.Goals as goal

pub returns : goal.returns
returns g c =
    let proto = g.P.Protocol.proto in
    let k = c.args.asked.now in
    let drawn = c.requires.drawn in
    let end = c.args.stormed.now.world in
    let serves : ServesAll g.P.Protocol.serves drawn.cluster = λ i one. subst (λ (p : Plan). IsTrue (g.P.Protocol.serves (kind_of p i))) (sym drawn.sized.plan) (c.requires.served i one) in
    record {
      cluster = drawn.cluster;
      sized = drawn.sized;
      all = sym (ap length drawn.drawn) ∙ drawn.all;
      end = end;
      runs = drawn.runs;
      sums = c.in_ok-summary.ensures;
      says = subst (λ (p : Premise). IsTrue c.is_held-held.result ↔ (p ≡ Held)) c.premise.ensures c.is_held-held.ensures;
      told = c.runs_are_told.ensures (storm_setup drawn.cluster) (events_in proto drawn.cluster k) end serves drawn.runs;
    }
