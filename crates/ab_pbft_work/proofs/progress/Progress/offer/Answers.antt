use Rattle.std.proofs.Common.{◌∙◌, ap}
use Rattle.ab_abs.specs.Values.{goes}
use Rattle.ab_pbft_work.proofs.TurnLemmas.{offers_does}
use Rattle.ab_pbft_work.specs.Turns.{memory_of}
use Rattle.ab_pbft_work.proofs.progress.Progress.offer.Goals as goal

pub accept-requires-clause-next : goal.accept-requires-clause-next
accept-requires-clause-next c = ap (λ m. goes m.accepted c.args.value) c.in_ok-tell_offer.ensures.same ∙ c.requires.next

pub returns : goal.returns
returns c = λ seat. offers_does c.args.self.now c.tell_offer.new.self _ c.args.value (ap memory_of c.in_ok-tell_offer.ensures.same) c.in_ok-tell_offer.ensures.told c.in_ok-accept.ensures seat
