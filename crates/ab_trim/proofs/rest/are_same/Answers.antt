use Rattle.std.proofs.Common.{sym, ◌∙◌}
use Rattle.ab_hist.proofs.RequestLemmas.{request_eq-Decides}
use Rattle.ab_trim.proofs.rest.are_same.Goals as goal

pub returns : goal.returns
returns c =
    let says = request_eq-Decides c.args.a.now c.args.b.now in
    (λ t. says.0 (sym c.eq.ensures ∙ t), λ e. c.eq.ensures ∙ says.1 e)
