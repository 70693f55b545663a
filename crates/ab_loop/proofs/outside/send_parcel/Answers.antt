use Rattle.std.proofs.Common.{◌∙◌, arith}
use Rattle.ab_loop.proofs.OutsideLemmas.{sent_next, sent_front, same_part, more_lost}
use Rattle.ab_loop.proofs.outside.send_parcel.Goals as goal

pub returns-in-Err : goal.returns-in-Err
returns-in-Err g c = record {
  sends = same_part _ _ _ c.args.parcel.now c.in-Err.ensures.err (sent_front _ _ c.args.parcel.now c.sending.i c.sending.lost c.sending.invariant.sent);
  losses = (omega (arith, c.sending.invariant.later, c.in-Err.ensures.losses.0), c.in-Err.ensures.losses.1);
  faults = c.send_one.ensures.faults ∙ c.sending.invariant.faults;
  to_come = c.send_one.ensures.to_come ∙ c.sending.invariant.to_come;
}

pub sending-preserved : goal.sending-preserved
sending-preserved g c = record {
  sent = rw c.saturating_add-lost.ensures
      (sent_next _ _ _ c.args.parcel.now c.sending.i c.sending.lost c.in-Ok.more _ (omega arith) c.get-port.ensures c.sending.invariant.sent c.in-Ok.ensures.sends);
  later = omega (arith, c.sending.invariant.later, c.in-Ok.ensures.losses.0);
  losses = more_lost _ _ _ c.sending.lost c.in-Ok.more c.saturating_add-lost.result c.saturating_add-lost.ensures c.sending.invariant.later c.in-Ok.ensures.losses.0 c.sending.invariant.losses c.in-Ok.ensures.losses.1;
  faults = c.send_one.ensures.faults ∙ c.sending.invariant.faults;
  to_come = c.send_one.ensures.to_come ∙ c.sending.invariant.to_come;
}
