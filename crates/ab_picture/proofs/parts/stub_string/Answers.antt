use Rattle.std.proofs.Common.{◌≡◌, ◌+◌, ◌*◌, ◌%◌, ◌++◌, ◌∙◌}
use Rattle.std.specs.Prelude.{string_bytes}
use Rattle.std.proofs.lemmas.Result.{IfOk-weaker}
use Rattle.ab_text.specs.Cores.{party_text}
use Rattle.ab_picture.specs.Elements.{IsStub, stub_text}
use Rattle.ab_picture.specs.Layout.{x_of_event, y_of}
use Rattle.ab_picture.specs.Names.{message_name}
use Rattle.ab_picture.proofs.parts.stub_string.Goals as goal

pub returns : goal.returns
returns c =
    let p = c.args.picture.now in
    let k = c.args.stub.now in
    let there = c.if-to-x.there in
    let end = c.y_of-y.result + 6 + 4 * (k.packet % 4) in
    let party : c.as_str.result.now ≡ party_text k.to = c.as_str.ensures.value ∙ c.in_ok-party.ensures in
    let parts : string_bytes c.in_ok-line.line ++ string_bytes c.in_ok-title.title ≡ stub_text c.message_name.result.now k.packet c.as_str.result.now c.x_of_row-x.result c.y_of-y.result there end
    = λ j. c.in_ok-line.ensures j ++ c.in_ok-title.ensures j in
    let same : stub_text c.message_name.result.now k.packet c.as_str.result.now c.x_of_row-x.result c.y_of-y.result there end
    ≡ stub_text (message_name k.code) k.packet (party_text k.to) (x_of_event p.lanes.items p.moments.items k.from) (y_of k.from) there end
    = λ j. stub_text (c.message_name.ensures j) k.packet (party j) (c.x_of_row-x.ensures.is j) (c.y_of-y.ensures j) there end in
    IfOk-weaker c.joined.result (λ s. string_bytes s ≡ string_bytes c.in_ok-line.line ++ string_bytes c.in_ok-title.title)
    (λ s. IsStub p k (string_bytes s)) (λ s is. record { there = there; end = end; is = is ∙ parts ∙ same }) c.joined.ensures
