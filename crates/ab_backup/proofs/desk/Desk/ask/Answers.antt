use Rattle.std.proofs.Common.{◌≡◌, List, Option, subst}
use Rattle.std.specs.Prelude.{IfOk}
use Rattle.ab_hist.specs.declared.request.Request.{Request}
use Rattle.ab_abs.specs.declared.vote.Vote.{Vote}
use Rattle.ab_abs.specs.Answers.{answer_to, logged_from}
use Rattle.ab_abs.proofs.Steps.{same_answer, same_log}
use Rattle.ab_backup.proofs.desk.Desk.ask.Goals as goal

pub returns-clause-ok : goal.returns-clause-ok
returns-clause-ok g c =
    let machine = g.S.Service.machine in
    let b = c.args.self.base in
    let log = c.args.book.now in
    let m = c.args.m.now in
    let r = c.answer.result in
    let new = c.answer.new.self in
    subst (λ (l : List Request). IfOk r (λ vote. (new ≡ l) × (vote ≡ answer_to machine b log m))) (same_log log m)
    (subst (λ (o : Option Vote). IfOk r (λ vote. (new ≡ logged_from 0 log m) × (vote ≡ o))) (same_answer machine b log m) c.answer.ensures.ok)
