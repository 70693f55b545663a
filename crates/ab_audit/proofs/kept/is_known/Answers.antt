use Rattle.std.proofs.Common.{◌||◌, Some, None, false, ap, refl, sym, ◌∙◌}
use Rattle.std.specs.Map.{lookup}
use Rattle.std.specs.Option.{option_map}
use Rattle.std.specs.Str.{bytes_eq}
use Rattle.ab_audit.specs.Kept.{finding, is_text}
use Rattle.ab_audit.proofs.EqLemmas.{derived}
use Rattle.ab_audit.proofs.KeptLemmas.{known_found}
use Rattle.ab_audit.proofs.kept.is_known.Goals as goal

pub returns-then-contains_key : goal.returns-then-contains_key
returns-then-contains_key c =
    let found = lookup (derived c.args.about.now) c.args.first.now.entries in
    ap (λ b. b || is_text c.args.text.now (option_map finding found)) (sym c.if-contains_key.true)
    ∙ known_found c.args.first.now.entries c.args.others.now.entries c.args.about.now c.args.text.now c.contains_key.result found c.contains_key.ensures refl

pub returns-in-Some : goal.returns-in-Some
returns-in-Some c =
    c.is.ensures
    ∙ ap (λ b. b || bytes_eq c.in-Some.known.now.text.items c.args.text.now) (sym c.if-contains_key.false)
    ∙ known_found c.args.first.now.entries c.args.others.now.entries c.args.about.now c.args.text.now c.contains_key.result (Some c.in-Some.known.now) c.contains_key.ensures c.in-Some.ensures.value

pub returns-in-None : goal.returns-in-None
returns-in-None c =
    ap (λ b. b || false) (sym c.if-contains_key.false)
    ∙ known_found c.args.first.now.entries c.args.others.now.entries c.args.about.now c.args.text.now c.contains_key.result None c.contains_key.ensures c.in-None.ensures.value
