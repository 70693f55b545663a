use Rattle.std.proofs.Common.{◌≡◌, Bool, sym, subst}
use Rattle.std.specs.Prelude.{IfOk, string_bytes}
use Rattle.ab_picture.specs.Elements.{name_text}
use Rattle.ab_picture.proofs.parts.beside_string.Goals as goal

pub returns-then-left : goal.returns-then-left
returns-then-left c =
    let h = rw c.saturating_sub-base.ensures at c.format.ensures.ok in
    subst (λ (b : Bool). IfOk c.format.result (λ s. string_bytes s ≡ name_text b c.args.x c.args.y c.args.name.now c.args.number)) (sym c.if-left.true) h

pub returns : goal.returns
returns c =
    let h = rw c.saturating_sub-base.ensures at c.format-2.ensures.ok in
    subst (λ (b : Bool). IfOk c.format-2.result (λ s. string_bytes s ≡ name_text b c.args.x c.args.y c.args.name.now c.args.number)) (sym c.if-left.false) h
