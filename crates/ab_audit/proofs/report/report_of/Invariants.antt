use Rattle.std.proofs.Common.{◌≡◌, take}
use Rattle.std.specs.Prelude.{flat_map}
use Rattle.ab_audit.specs.Kept.{shown_if}
use Rattle.ab_audit.specs.Reports.{accusation_text}
use Rattle.ab_audit.proofs.report.report_of.Given as goal

abbrev pub invariant-listed : goal.invariant-listed
invariant-listed l = l.report.items ≡ flat_map (accusation_text (shown_if l.why l.audit.kept)) (take l.accusation-index l.listed)
