use Rattle.std.proofs.lemmas.Result.{err_from_is_err_and}
use Rattle.ab_content.proofs.TrimmedLemmas.{at_rest, at_no_rest}
use Rattle.ab_content.proofs.trimmed_ref.rest_at.Goals as goal

pub returns-in_err-_count : goal.returns-in_err-_count
returns-in_err-_count c =
    let p = err_from_is_err_and c.from_residual.result c.from_residual.ensures.1 in
    rw (p.1, p.2) (at_no_rest c.args.start c.min-most.result c.args.bytes.now _ c.min-most.ensures c.in_err-_count.ensures.exact)

pub returns : goal.returns
returns c = rw (at_rest c.args.start c.min-most.result c.args.bytes.now _ c.min-most.ensures c.in_ok-_count.ensures.exact) c.history_at.ensures
