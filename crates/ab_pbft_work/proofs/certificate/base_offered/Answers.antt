use Rattle.std.proofs.Common.{◌≡◌, Option, List, IfOk, subst}
use Rattle.ab_hist.specs.declared.request.Request.{Request}
use Rattle.ab_wire.specs.Views.{aborts}
use Rattle.ab_pbft_work.proofs.BaseLemmas.{later_base}
use Rattle.ab_pbft_work.proofs.certificate.base_offered.Goals as goal

pub returns-then-i-gt1 : goal.returns-then-i-gt1
returns-then-i-gt1 c =
    subst (λ (h : Option (List Request)). IfOk c.history_view.result (λ o. o ≡ h)) (later_base c.args.c.now c.args.i (aborts c.args.cert.now) c.if-i-gt1.true) c.history_view.ensures
