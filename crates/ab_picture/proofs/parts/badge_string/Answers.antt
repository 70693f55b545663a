use Rattle.std.proofs.Common.{◌≡◌, ℕ, ◌+◌, ◌-◌, ◌*◌, ◌++◌, List, ap, ◌∙◌, subst}
use Rattle.std.specs.Prelude.{IfOk, string_bytes}
use Rattle.ab_picture.specs.Elements.{badge_text, box_text, boxed_text, half_of}
use Rattle.ab_picture.proofs.parts.badge_string.Goals as goal

pub returns : goal.returns
returns c =
    let instance = c.args.instance in
    let x = c.args.x in
    let y = c.args.y in
    let wide = c.in_ok-half.ensures.is in
    let left : c.saturating_sub-left.result ≡ x - half_of instance = c.saturating_sub-left.ensures ∙ ap (λ half. x - half) wide in
    let parts : string_bytes c.in_ok-colour.colour ++ string_bytes c.in_ok-number.number
    ≡ box_text c.colour_of.result c.saturating_sub-left.result c.saturating_sub-top.result (2 * c.in_ok-half.half) ++ boxed_text instance x (y + 4)
    = λ j. c.in_ok-colour.ensures j ++ c.in_ok-number.ensures j in
    let same : box_text c.colour_of.result c.saturating_sub-left.result c.saturating_sub-top.result (2 * c.in_ok-half.half) ++ boxed_text instance x (y + 4)
    ≡ badge_text instance (half_of instance) x y
    = λ j. box_text (c.colour_of.ensures j) (left j) (c.saturating_sub-top.ensures j) (2 * wide j) ++ boxed_text instance x (y + 4) in
    subst (λ (t : List ℕ). IfOk c.joined.result (λ s. string_bytes s ≡ t)) (parts ∙ same) c.joined.ensures
