use Rattle.std.proofs.Common.{◌≡◌, ◌∙◌, true, false, sym, arith}
use Rattle.std.proofs.lemmas.Grind.{common_steps}
use Rattle.ab_pbft_rules.specs.Rules as rules
use Rattle.ab_pbft_work.specs.Turns.{seat_of}
use Rattle.ab_pbft_work.proofs.TurnLemmas.{when_does, unless_does}
use Rattle.ab_pbft_work.proofs.progress.Progress.take_change.Goals as goal

pub returns-then-not-fits : goal.returns-then-not-fits
returns-then-not-fits c =
    let off : c.fits.result ≡ false = grind (arith, common_steps) in
    let seat = seat_of c.args.seat.now in
    unless_does c.args.self.now c.args.self.now (λ m. rules.fits seat.f c.args.change) (λ w. rules.lead seat (rules.follow seat (rules.keep_change c.args.change w))) (sym c.fits.ensures ∙ off)

pub returns : goal.returns
returns c =
    let on : c.fits.result ≡ true = grind (arith, common_steps) in
    let seat = seat_of c.args.seat.now in
    when_does c.args.self.now c.lead.new.self (λ m. rules.fits seat.f c.args.change) (λ w. rules.lead seat (rules.follow seat (rules.keep_change c.args.change w))) (sym c.fits.ensures ∙ on)
    (λ w shows. c.in_ok-lead.ensures (rules.follow seat (rules.keep_change c.args.change w)) (c.in_ok-follow.ensures (rules.keep_change c.args.change w) (c.in_ok-keep_change.ensures w shows)))
