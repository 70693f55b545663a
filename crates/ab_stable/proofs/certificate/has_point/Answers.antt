use Rattle.std.proofs.Common.{sym, ap, ◌∙◌, ◌&&◌}
use Rattle.std.proofs.lemmas.Bool.{le-leb}
use Rattle.ab_abs.specs.Observations.{has_front}
use Rattle.ab_stable.proofs.BasedLemmas.{trimmed_shows}
use Rattle.ab_stable.proofs.certificate.has_point.Goals as goal

pub returns-then-k-n : goal.returns-then-k-n
returns-then-k-n c =
    let own = c.args.own.now in
    let n = c.args.n in
    let d = c.args.digest.now in
    c.has_front.ensures
    ∙ ap (λ b. b && has_front own n d) (sym (le-leb c.args.k n c.if-k-n.true))
    ∙ trimmed_shows c.args.k own c.requires n d
