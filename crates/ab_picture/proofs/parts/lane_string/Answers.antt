use Rattle.std.proofs.Common.{◌≡◌, ◌-◌, ◌++◌, List, ℕ, ◌∙◌, subst}
use Rattle.std.specs.Prelude.{IfOk, string_bytes}
use Rattle.ab_text.specs.Cores.{core_text}
use Rattle.ab_picture.specs.Elements.{head_class, lane_class, lifeline_text}
use Rattle.ab_picture.specs.Layout.{y_of}
use Rattle.ab_picture.proofs.parts.lane_string.Goals as goal

pub returns : goal.returns
returns c =
    let l = c.args.lane.now in
    let x = c.args.x in
    let bottom = c.args.bottom in
    let name : c.as_str.result.now ≡ core_text l.core = c.as_str.ensures.value ∙ c.in_ok-name.ensures in
    let parts : string_bytes c.in_ok-front.front ++ string_bytes c.in_ok-line.line
    ≡ lifeline_text c.head_class-head.result.now c.lane_class-class.result.now c.as_str.result.now x (c.y_of-above.result - 24) (c.y_of-top.result - 12) bottom
    = λ j. c.in_ok-front.ensures j ++ c.in_ok-line.ensures j in
    let same : lifeline_text c.head_class-head.result.now c.lane_class-class.result.now c.as_str.result.now x (c.y_of-above.result - 24) (c.y_of-top.result - 12) bottom
    ≡ lifeline_text (head_class c.args.premise.now l.core.party) (lane_class l.core.party l.faulty) (core_text l.core) x (y_of 0 - 24) (y_of 0 - 12) bottom
    = λ j. lifeline_text (c.head_class-head.ensures j) (c.lane_class-class.ensures j) (name j) x (c.y_of-above.ensures j - 24) (c.y_of-top.ensures j - 12) bottom in
    subst (λ (t : List ℕ). IfOk c.joined.result (λ s. string_bytes s ≡ t)) (parts ∙ same) c.joined.ensures
