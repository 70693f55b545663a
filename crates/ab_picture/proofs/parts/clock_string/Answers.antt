use Rattle.std.proofs.Common.{◌≡◌, ◌++◌, List, ℕ, subst}
use Rattle.std.specs.Prelude.{IfOk, string_bytes}
use Rattle.ab_picture.specs.Elements.{clock_text}
use Rattle.ab_picture.proofs.parts.clock_string.Goals as goal

pub returns : goal.returns
returns c =
    let same : string_bytes c.in_ok-face.face ++ string_bytes c.in_ok-hand.hand ≡ clock_text c.args.class.now c.args.x c.args.y c.args.top = λ j. c.in_ok-face.ensures j ++ c.in_ok-hand.ensures j in
    subst (λ (t : List ℕ). IfOk c.joined.result (λ s. string_bytes s ≡ t)) same c.joined.ensures
