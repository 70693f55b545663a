use Rattle.std.proofs.Common.{ap, sym, ◌∙◌}
use Rattle.std.proofs.lemmas.Result.{on_ok_weaker}
use Rattle.ab_form.specs.declared.list_ref.ListRef.{ListRef}
use Rattle.ab_msg.specs.declared.message.Msg.TheVariants as msg
use Rattle.ab_wire.specs.declared.msg_ref.MsgRef.{MsgRef}
use Rattle.ab_wire.specs.declared.tags_ref.TagRef.{TagRef}
use Rattle.ab_content.specs.Views.{content}
use Rattle.ab_wire.specs.Views.{message, tags}
use Rattle.ab_abs.specs.Messages.{took}
use Rattle.ab_slots.specs.Inputs.{input_of}
use Rattle.ab_pbft_shelf.specs.Signing.{puts}
use Rattle.ab_pbft.proofs.ToldLemmas.{puts_none}
use Rattle.ab_pbft.proofs.putting.put.Goals as goal

pub returns-in-Req : goal.returns-in-Req
returns-in-Req c =
    let e = input_of c.args.input.now in
    let s = c.args.shelf.now in
    let stated = content c.in-Req.content in
    on_ok_weaker c.put_tags.result (λ put. put c.args.f stated
    ∙ ap (λ (given : ListRef TagRef). puts c.args.f (took (msg.Req stated (record { items = tags given }))) e s) c.copy_of.ensures
    ∙ ap (λ (m : MsgRef). puts c.args.f (took (message m)) e s) (sym c.in-Req.is)) c.put_tags.ensures

pub returns-in-Prepare : goal.returns-in-Prepare
returns-in-Prepare c =
    let e = input_of c.args.input.now in
    let s = c.args.shelf.now in
    on_ok_weaker c.put_ballot.result (λ put. put c.args.f ∙ ap (λ (m : MsgRef). puts c.args.f (took (message m)) e s) (sym c.in-Prepare.is)) c.put_ballot.ensures

pub returns-in_default : goal.returns-in_default
returns-in_default c = puts_none c.args.f c.args.m.now (input_of c.args.input.now) c.args.shelf.now c.in_default.not-Req c.in_default.not-Prepare c.in_default.not-ViewChange
