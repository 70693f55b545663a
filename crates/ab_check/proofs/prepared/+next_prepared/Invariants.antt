use Rattle.std.proofs.Common.{length}
use Rattle.ab_form.specs.Readers.{listed}
use Rattle.ab_content.specs.Rows.{entry_at}
use Rattle.ab_check.proofs.prepared.+next_prepared.Given as goal

abbrev pub decreases-next_prepared : goal.decreases-next_prepared
decreases-next_prepared l = length (listed entry_at l.p.now.entries.count l.p.now.entries.bytes.now)
