use Rattle.std.proofs.Common.{◌≡◌, ◌⊎◌, ℕ, subst, sym}
use Rattle.ab_io.specs.States.{change}
use Rattle.ab_command.specs.Endings.{SaysNoMemory}
use Rattle.ab_command.specs.Outputs.{HasFailed}
use Rattle.ab_command.proofs.StatusLemmas.{refused_memory}
use Rattle.ab_command.proofs.top.refuse_memory.Goals as goal

pub returns : goal.returns
returns g c =
    let err = change (g.E.Sink.state c.args.err.now) (g.E.Sink.state c.say_no_memory.new.err) in
    subst (λ (n : ℕ). ((n ≡ 9) × SaysNoMemory err) ⊎ ((n ≡ 5) × HasFailed err)) (sym c.code.ensures) (refused_memory c.say_no_memory.result err c.say_no_memory.ensures.status)
