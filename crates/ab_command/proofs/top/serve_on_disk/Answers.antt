use Rattle.ab_command.proofs.JournalStatuses.{journal_settled}
use Rattle.ab_command.proofs.top.serve_on_disk.Goals as goal

pub returns-in-Err : goal.returns-in-Err
returns-in-Err g c =
    record { cause = λ words. journal_settled c.args.asked.now _ _ c.say_stop.result c.in-Err.stop c.say_stop.ensures.status c.in-Err.ensures.cause }
