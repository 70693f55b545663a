use Rattle.std.proofs.Common.{sym, ◌∙◌, arith}
use Rattle.std.proofs.lemmas.Result.{err_from_is_err_and}
use Rattle.ab_content.specs.Views.{trimmed}
use Rattle.ab_content.proofs.TrimmedLemmas.{at_no_number, at_mark, at_count, reads_fit}
use Rattle.ab_content.proofs.trimmed_ref.trimmed_at.Goals as goal

pub returns-in_err-first-clause-exact : goal.returns-in_err-first-clause-exact
returns-in_err-first-clause-exact c =
    let p = err_from_is_err_and c.from_residual.result c.from_residual.ensures.1 in
    rw (p.1, p.2) (at_no_number c.args.forgets c.args.bytes.now _ c.in_err-first.ensures)

pub returns-then-is_mark-clause-exact : goal.returns-then-is_mark-clause-exact
returns-then-is_mark-clause-exact c =
    rw (at_mark c.args.forgets c.args.bytes.now _ c.in_ok-first.ensures (sym c.is_mark.ensures ∙ c.if-is_mark.true)) c.forgot_at.ensures

pub returns-then-is_mark-clause-fits : goal.returns-then-is_mark-clause-fits
returns-then-is_mark-clause-fits c =
    reads_fit (λ x. (trimmed x.0, x.1.now)) c.args.forgets c.args.bytes.now c.forgot_at.result (λ i. omega (arith, c.type_inv.bytes i)) (returns-then-is_mark-clause-exact c)

pub returns-else-is_mark-clause-exact : goal.returns-else-is_mark-clause-exact
returns-else-is_mark-clause-exact c =
    rw (at_count c.args.forgets c.args.bytes.now _ c.in_ok-first.ensures (sym c.is_mark.ensures ∙ c.if-is_mark.false)) c.whole_at.ensures

pub returns-else-is_mark-clause-fits : goal.returns-else-is_mark-clause-fits
returns-else-is_mark-clause-fits c =
    reads_fit (λ x. (trimmed x.0, x.1.now)) c.args.forgets c.args.bytes.now c.whole_at.result (λ i. omega (arith, c.type_inv.bytes i)) (returns-else-is_mark-clause-exact c)
