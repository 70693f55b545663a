use Rattle.std.proofs.Common.{ap, ◌∙◌}
use Rattle.std.specs.List.{list_any}
use Rattle.std.specs.Str.{bytes_eq}
use Rattle.ab_premise.proofs.Kept.{any_bytes}
use Rattle.ab_premise.proofs.statements.Statements.contains.Goals as goal

pub returns : goal.returns
returns c =
    let test = bytes_eq c.args.bytes.now in
    c.contains.ensures ∙ any_bytes (λ v. v.items) test c.self.inside.made.keys ∙ ap (list_any test) c.self.view_is
