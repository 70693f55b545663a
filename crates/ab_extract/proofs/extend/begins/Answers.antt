use Rattle.std.specs.List.{starts_with}
use Rattle.std.proofs.lemmas.Bool.Decides.{same_from_decides}
use Rattle.ab_hist.specs.Requests.{request_eq}
use Rattle.ab_abs.proofs.Extracts.{starts_with-Decides}
use Rattle.ab_extract.proofs.extend.begins.Goals as goal

pub returns : goal.returns
returns c =
    let list = c.args.list.now in
    let front = c.args.front.now in
    same_from_decides c.is_prefix_of.result (starts_with request_eq list front) c.is_prefix_of.ensures.prefix (starts_with-Decides list front)
