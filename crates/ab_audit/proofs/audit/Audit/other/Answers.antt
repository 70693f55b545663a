use Rattle.std.proofs.Common.{sym, ◌∙◌}
use Rattle.std.specs.Option.{option_copied}
use Rattle.ab_audit.specs.Kept.{other_of}
use Rattle.ab_audit.proofs.KeptLemmas.{borrowed, map_found}
use Rattle.ab_audit.proofs.audit.Audit.other.Goals as goal

pub returns : goal.returns
returns c =
    borrowed c.get.result
    ∙ sym (map_found c.self.inside.others.entries c.args.about.now (option_copied c.get.result) c.get.ensures.value)
    ∙ (λ j. other_of (c.self.view_is j).kept c.args.about.now)
