use Rattle.std.proofs.Common.{arith}
use Rattle.ab_loop.specs.Cores.{event_of}
use Rattle.ab_loop.proofs.OutsideLemmas.{say_later}
use Rattle.ab_loop.proofs.PastRunLemmas.{restoring_begins, restoring_breaks, restoring_next}
use Rattle.ab_loop.proofs.node.Node.restore.Goals as goal

pub events-init : goal.events-init
events-init g c = record { restoring = restoring_begins _ _ _ c.args.past.now c.args.self.now _; later = omega arith }

pub returns-in-Err-clause-tells : goal.returns-in-Err-clause-tells
returns-in-Err-clause-tells g c = record {
  says = restoring_breaks _ _ _ c.args.past.now c.args.self.now _ c.events.waits _ _ _ c.events.i (event_of c.get-input.result) c.events.invariant.restoring c.get-input.ensures.event c.in-Err.ensures.tells.says;
  counted = (
    omega (arith, c.events.invariant.later, c.in-Err.ensures.tells.counted.0),
    say_later c.in-Err.fault _ _ _ c.events.invariant.later c.in-Err.ensures.tells.counted.1,
  );
}

pub events-preserved : goal.events-preserved
events-preserved g c = record {
  restoring = restoring_next _ _ _ c.args.past.now c.args.self.now _ _ c.events.waits c.in-Ok.still _ _ _ c.events.i (event_of c.get-input.result)
      c.events.invariant.restoring c.get-input.ensures.event c.in-Ok.ensures.node c.in-Ok.ensures.waits c.in-Ok.ensures.tells.says;
  later = omega (arith, c.events.invariant.later, c.in-Ok.ensures.tells.counted);
}
