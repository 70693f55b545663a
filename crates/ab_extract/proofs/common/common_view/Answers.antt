use Rattle.std.proofs.Common.{arith, ◌∙◌, sym}
use Rattle.ab_form.specs.Readers.{listed}
use Rattle.ab_content.specs.Parts.{any_request_at}
use Rattle.ab_extract.proofs.TableLemmas.{common_over, one_entry, other_entry}
use Rattle.ab_extract.proofs.common.common_view.Goals as goal

pub returns-then-n-len : goal.returns-then-n-len
returns-then-n-len c =
    let left = listed any_request_at c.entries.m-iterator.count c.entries.m-iterator.bytes.now in
    omega (arith, c.entries.invariant.3, common_over c.entries.n left c.args.b.now (omega (arith, c.if-n-len.true, c.len.ensures.len)))

pub returns-then-not-is_entry : goal.returns-then-not-is_entry
returns-then-not-is_entry c =
    other_entry c.entries.n _ _ c.args.b.now _ _ _ c.entries.invariant.3 c.in-Some.ensures.steps.0 c.at.ensures (sym c.is_entry.ensures ∙ c.if-not-is_entry.true)

pub entries-preserved : goal.entries-preserved
entries-preserved c = (
  tt,
  tt,
  omega (arith, c.if-n-len.false, c.len.ensures.len),
  one_entry c.entries.n _ _ c.args.b.now _ _ _ c.entries.invariant.3 c.in-Some.ensures.steps.0 c.at.ensures (sym c.is_entry.ensures ∙ c.if-not-is_entry.false),
)
