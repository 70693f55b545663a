use Rattle.std.proofs.Common.{◌∙◌}
use Rattle.ab_command.proofs.StatusLemmas.{keys_told}
use Rattle.ab_command.proofs.top.serve_keys.Goals as goal

pub returns : goal.returns
returns g c =
    record { cause = λ words input link clock asks. keys_told _ c.args.asked.now c.write_or_say.result c.as_slice.result.now c.write_or_say.ensures (c.as_slice.ensures.value ∙ c.in-Ok.ensures) asks }
