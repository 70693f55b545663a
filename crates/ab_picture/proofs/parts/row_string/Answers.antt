use Rattle.std.proofs.Common.{◌≡◌, ◌-◌, ◌++◌, List, ℕ, ap, ◌∙◌, subst}
use Rattle.std.specs.Prelude.{IfOk, string_bytes}
use Rattle.ab_picture.specs.Elements.{event_class, row_text}
use Rattle.ab_picture.specs.Layout.{y_of}
use Rattle.ab_picture.proofs.parts.row_string.Goals as goal

pub returns : goal.returns
returns c =
    let event = c.args.event in
    let margin = c.args.margin in
    let parts : string_bytes c.in_ok-front.front ++ string_bytes c.in_ok-again.again ≡ row_text c.event_class-class.result.now event c.y_of-y.result c.saturating_sub.result margin
    = ap (λ t. t ++ string_bytes c.in_ok-again.again) c.in_ok-front.ensures ∙ (λ j. (c.in_ok-line.ensures j ++ c.in_ok-number.ensures j) ++ c.in_ok-again.ensures j) in
    let same : row_text c.event_class-class.result.now event c.y_of-y.result c.saturating_sub.result margin
    ≡ row_text (event_class c.args.premise.now event) event (y_of event) (margin - 4) margin
    = λ j. row_text (c.event_class-class.ensures j) event (c.y_of-y.ensures j) (c.saturating_sub.ensures j) margin in
    subst (λ (t : List ℕ). IfOk c.joined-2.result (λ s. string_bytes s ≡ t)) (parts ∙ same) c.joined-2.ensures
