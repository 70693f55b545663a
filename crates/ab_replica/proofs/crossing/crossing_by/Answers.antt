use Rattle.std.proofs.Common.{◌≡◌, Option, sym, subst, arith}
use Rattle.std.specs.Prelude.{IfOk}
use Rattle.ab_wire.specs.Views.{aborts}
use Rattle.ab_replica.specs.declared.crossing.Crossing.{Crossing}
use Rattle.ab_replica.proofs.CrossingLemmas.{goes_by, too_early, too_late}
use Rattle.ab_replica.proofs.crossing.crossing_by.Goals as goal
use Rattle.ab_replica.proofs.crossing.crossing_by.Goals.{then-j-at-via-then-j-at, then-j-at-via-else-j-at+then-j}

pub returns-then-j-at : goal.returns-then-j-at
returns-then-j-at c =
    let j = c.cert_instance-j.result in
    elim c.then-j-at.branch [
      | then-j-at-via-then-j-at w ↦ sym (too_early c.args.c.now c.args.at c.args.k c.args.own.now (aborts c.args.cert.now) j c.cert_instance-j.ensures (omega (arith, w.if-j-at.true)))
      | then-j-at-via-else-j-at+then-j w ↦ sym (too_late c.args.c.now c.args.at c.args.k c.args.own.now (aborts c.args.cert.now) j c.cert_instance-j.ensures (omega (arith, w.if-j.true)))
    ]

pub returns : goal.returns
returns c =
    let j = c.cert_instance-j.result in
    let goes = goes_by c.args.c.now c.args.at c.args.k c.args.own.now (aborts c.args.cert.now) j c.cert_instance-j.ensures (omega (arith, c.if-j-at.false)) (omega (arith, c.if-j.false, c.ranges)) in
    subst (λ (x : Option Crossing). IfOk c.led_by.result (λ o. o ≡ x)) (sym goes) c.led_by.ensures
