use Rattle.std.proofs.Common.{◌∙◌, arith}
use Rattle.ab_loop.proofs.OutsideLemmas.{sent_more, part_more, more_lost}
use Rattle.ab_loop.proofs.outside.send_all.Goals as goal

pub returns-in-Err : goal.returns-in-Err
returns-in-Err g c = record {
  sends = part_more _ _ _ c.args.parcels.now c.sending.parcel-index c.sending.lost c.parcel-item.result (omega arith) c.parcel-item.is c.sending.invariant.sent c.in-Err.ensures.sends;
  losses = (omega (arith, c.sending.invariant.later, c.in-Err.ensures.losses.0), c.in-Err.ensures.losses.1);
  faults = c.in-Err.ensures.faults ∙ c.sending.invariant.faults;
  to_come = c.in-Err.ensures.to_come ∙ c.sending.invariant.to_come;
}

pub sending-preserved : goal.sending-preserved
sending-preserved g c = record {
  sent = rw c.saturating_add-lost.ensures
      (sent_more _ _ _ c.args.parcels.now c.sending.parcel-index c.sending.lost c.in-Ok.more c.parcel-item.result (omega arith) c.parcel-item.is c.sending.invariant.sent c.in-Ok.ensures.sends);
  later = omega (arith, c.sending.invariant.later, c.in-Ok.ensures.losses.0);
  losses = more_lost _ _ _ c.sending.lost c.in-Ok.more c.saturating_add-lost.result c.saturating_add-lost.ensures c.sending.invariant.later c.in-Ok.ensures.losses.0 c.sending.invariant.losses c.in-Ok.ensures.losses.1;
  faults = c.in-Ok.ensures.faults ∙ c.sending.invariant.faults;
  to_come = c.in-Ok.ensures.to_come ∙ c.sending.invariant.to_come;
}
