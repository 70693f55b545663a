use Rattle.std.proofs.Common.{◌≡◌, ◌+◌, true, false}
use Rattle.std.specs.Prelude.{string_bytes}
use Rattle.std.proofs.lemmas.Result.{IfOk-weaker}
use Rattle.ab_picture.specs.Elements.{IsName, name_text}
use Rattle.ab_picture.specs.Layout.{y_of}
use Rattle.ab_picture.specs.Names.{message_name}
use Rattle.ab_picture.proofs.parts.arrow_name_string.Goals as goal

pub returns-then-there-x : goal.returns-then-there-x
returns-then-there-x c =
    let p = c.args.picture.now in
    let a = c.args.arrow.now in
    let across = c.saturating_sub-at.result in
    let h = rw (c.y_of-y.ensures, c.message_name-name.ensures) at c.beside_string.ensures in
    IfOk-weaker c.beside_string.result (λ s. string_bytes s ≡ name_text true across (y_of a.to) (message_name a.code) a.packet)
    (λ s. IsName p a (string_bytes s)) (λ s is. record { left = true; x = across; is = is }) h

pub returns : goal.returns
returns c =
    let p = c.args.picture.now in
    let a = c.args.arrow.now in
    let across = c.x_of_row-there.result + 24 in
    let h = rw (c.y_of-y.ensures, c.message_name-name.ensures) at c.beside_string-2.ensures in
    IfOk-weaker c.beside_string-2.result (λ s. string_bytes s ≡ name_text false across (y_of a.to) (message_name a.code) a.packet)
    (λ s. IsName p a (string_bytes s)) (λ s is. record { left = false; x = across; is = is }) h
