use Rattle.std.proofs.Common.{List, ℕ, sym, subst}
use Rattle.ab_kv.specs.KvMachines.{kv_machine}
use Rattle.ab_replay.proofs.TextLemmas.{all_served}
use Rattle.ab_storm.specs.Runs.{Storms}
use Rattle.ab_command.specs.Statuses.{kv}
use Rattle.ab_command.proofs.StatusLemmas.{summary_told}
use Rattle.ab_command.proofs.top.serve_storm.Goals as goal

pub sum_up-requires-clause-served : goal.sum_up-requires-clause-served
sum_up-requires-clause-served g c = λ i one. all_served c.args.asked.now.plan i

pub returns : goal.returns
returns g c =
    let summed = c.in-Ok.summed in
    let storms = subst (λ (summary : List ℕ). Storms kv_machine kv c.args.asked.now summary summed.held) (sym c.as_slice.ensures.value) c.in-Ok.ensures.ok in
    record { cause = λ words input link clock asks. summary_told _ c.args.asked.now c.write_or_say.result c.done-status.result c.as_slice.result.now summed.held c.write_or_say.ensures c.done-status.ensures asks storms }
