use Rattle.std.proofs.Common.{◌<◌, ◌+◌, length, sym, subst}
use Rattle.std.proofs.lemmas.List.{length-map}
use Rattle.ab_trim.specs.Points.{lists_in}
use Rattle.ab_stable.proofs.ReadingLemmas.{agreed_found}
use Rattle.ab_stable.proofs.certificate.agreed_in.Goals as goal

pub returns : goal.returns
returns c =
    let q = c.args.q in
    let logs = c.args.lists.now in
    let half : length (lists_in logs) < q + q = subst (λ n. n < q + q) (sym (length-map logs (λ l. l.list))) c.requires.half in
    agreed_found q (lists_in logs) c.requires.some half c.agreed_list.result c.agreed_list.ensures.some c.agreed_list.ensures.none
