use Rattle.std.proofs.Common.{◌-◌, length, ap, ◌∙◌}
use Rattle.ab_hist.specs.Chunks.{front}
use Rattle.ab_trim.proofs.TrimmedLemmas.{cut_trimmed}
use Rattle.ab_trim.proofs.trimmed.Trimmed.front.Goals as goal

pub invariant_of-result : goal.invariant_of-result
invariant_of-result c =
    let s = c.self.inside in
    let j = c.args.n - s.start in
    cut_trimmed s.start s.rest s.lasts.items c.self.invariant j c.cut.new.self c.in_ok-lasts.lasts.items (c.cut.ensures ∙ ap (front j) c.in_ok-rest.ensures) (ap length c.in_ok-lasts.ensures)
