use Rattle.ab_abs.proofs.Steps.{vote_from, logged_more, same_answer, same_log}
use Rattle.ab_abs.proofs.answers.answers_are_right.Goals as goal

pub returns : goal.returns
returns g c =
    record {
      right = vote_from g.S.Service.machine;
      rises = λ n log m history. (logged_more n log m history).1;
      answers = same_answer g.S.Service.machine;
      logs = same_log;
    }
