use Rattle.std.proofs.Common.{◌≡◌, ◌++◌, ◌∙◌}
use Rattle.std.specs.Prelude.{string_bytes}
use Rattle.std.proofs.lemmas.Result.{IfOk-weaker}
use Rattle.ab_picture.specs.Elements.{IsArrow, arrow_text}
use Rattle.ab_picture.specs.Layout.{x_of_event, y_of}
use Rattle.ab_picture.proofs.parts.arrow_string.Goals as goal

pub returns : goal.returns
returns c =
    let p = c.args.picture.now in
    let a = c.args.arrow.now in
    let bend = c.if-x-there.bend in
    let parts : string_bytes c.in_ok-front.front ++ string_bytes c.in_ok-back.back ≡ arrow_text c.x_of_row-x.result c.y_of-y.result bend c.x_of_row-there.result c.y_of-end.result
    = λ j. c.in_ok-front.ensures j ++ c.in_ok-back.ensures j in
    let same : arrow_text c.x_of_row-x.result c.y_of-y.result bend c.x_of_row-there.result c.y_of-end.result
    ≡ arrow_text (x_of_event p.lanes.items p.moments.items a.from) (y_of a.from) bend (x_of_event p.lanes.items p.moments.items a.to) (y_of a.to)
    = λ j. arrow_text (c.x_of_row-x.ensures.is j) (c.y_of-y.ensures j) bend (c.x_of_row-there.ensures.is j) (c.y_of-end.ensures j) in
    IfOk-weaker c.joined.result (λ s. string_bytes s ≡ string_bytes c.in_ok-front.front ++ string_bytes c.in_ok-back.back)
    (λ s. IsArrow p a (string_bytes s)) (λ s is. record { bend = bend; is = is ∙ parts ∙ same }) c.joined.ensures
