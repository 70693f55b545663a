use Rattle.std.proofs.Common.{◌∙◌, ap}
use Rattle.ab_slots.specs.Inputs.{input_of}
use Rattle.ab_pbft_work.specs.Turns.{seat_of, memory_of}
use Rattle.ab_pbft_shelf.specs.Signing.{Signing}
use Rattle.ab_pbft.proofs.Working.{shown}
use Rattle.ab_pbft.proofs.pbft.Pbft.turned.Goals as goal

pub returns : goal.returns
returns c =
    shown c.args.self.now (input_of c.args.input) c.new-turn.result c.work.new.self (seat_of c.self.inside.seat) (memory_of c.in_ok-memory.memory)
    (ap (λ (p : Signing). p.order.seat) c.self.view_is) (c.in_ok-memory.ensures ∙ ap (λ (p : Signing). p.order.memory) c.self.view_is) c.new-turn.ensures c.in_ok-work.ensures
