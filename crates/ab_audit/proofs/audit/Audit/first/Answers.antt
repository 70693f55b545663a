use Rattle.std.proofs.Common.{sym, ◌∙◌}
use Rattle.std.specs.Option.{option_copied}
use Rattle.ab_audit.specs.Kept.{first_of}
use Rattle.ab_audit.proofs.KeptLemmas.{borrowed, map_found}
use Rattle.ab_audit.proofs.audit.Audit.first.Goals as goal

pub returns : goal.returns
returns c =
    borrowed c.get.result
    ∙ sym (map_found c.self.inside.first.entries c.args.about.now (option_copied c.get.result) c.get.ensures.value)
    ∙ (λ j. first_of (c.self.view_is j).kept c.args.about.now)
