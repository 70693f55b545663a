use Rattle.std.proofs.Common.{ap, ◌∙◌, map}
use Rattle.ab_run.specs.Stages.{keep}
use Rattle.ab_premise.proofs.Kept.{kept_bytes}
use Rattle.ab_premise.proofs.statements.Statements.add.Goals as goal

pub returns-clause-ok : goal.returns-clause-ok
returns-clause-ok c =
    ap (map (λ v. v.items)) c.in_ok-insert.ensures.keys
    ∙ kept_bytes (λ v. v.items) c.self.inside.made.keys c.args.bytes
    ∙ ap (λ kept. keep kept c.args.bytes.items) c.self.view_is
