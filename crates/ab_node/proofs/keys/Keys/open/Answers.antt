use Rattle.std.proofs.Common.{◌∙◌, Some, ap, sym}
use Rattle.std.specs.Result.{result_ok}
use Rattle.ab_msg.specs.declared.message.Msg.{Msg}
use Rattle.ab_party.specs.Credentials.{Credentials, opening_by}
use Rattle.ab_node.proofs.keys.Keys.open.Goals as goal

pub returns-in-Ok : goal.returns-in-Ok
returns-in-Ok c = (
  ap (λ (k : Credentials). result_ok (opening_by k c.args.bytes.now)) (sym c.lend.ensures) ∙ ap result_ok c.in-Ok.ensures.opening ∙ ap (λ (m : Msg). Some m) (sym c.into_msg.ensures.message),
  c.into_msg.ensures.received,
)
