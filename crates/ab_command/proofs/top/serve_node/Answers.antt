use Rattle.ab_command.proofs.NodeStatuses.{stop_settled}
use Rattle.ab_command.proofs.top.serve_node.Goals as goal

pub returns-in-Err : goal.returns-in-Err
returns-in-Err g c =
    record { cause = λ words asks. stop_settled _ c.args.asked.now c.say_stop.result c.in-Err.stop c.say_stop.ensures.status asks c.in-Err.ensures.cause }
