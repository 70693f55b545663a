use Rattle.std.proofs.Common.{◌≡◌, None, true, [], refl, sym, ◌∙◌}
use Rattle.ab_msg.specs.declared.message.Msg.TheVariants as msg
use Rattle.ab_run.specs.Local.{cue_message}
use Rattle.ab_content.specs.Views.{content as shown}
use Rattle.ab_client.specs.Clients.{Seat, is_waiting, moves_on, told_by}
use Rattle.ab_client.proofs.AnswerLemmas.{tells_nothing}
use Rattle.ab_client.proofs.MovedLemmas.{moved_nothing}
use Rattle.ab_client.proofs.client.Client.on_local_commit.Goals as goal

pub returns-in-None-clause-ok : goal.returns-in-None-clause-ok
returns-in-None-clause-ok c tag =
    let s : Seat = c.args.self.now in
    let said = shown c.args.content in
    let waits : is_waiting s.cli.phase ≡ true = sym c.is_waiting.ensures ∙ c.if-not-is_waiting.false in
    let none : told_by s.cluster.f s.cli.at s.me s.cli.sent said ≡ None = sym c.told_by.ensures ∙ c.in-None.is in
    moved_nothing s (moves_on s (cue_message (msg.LocalCommit said tag))) [] c.new_in-in-None.result.items refl c.new_in-in-None.ensures (tells_nothing s said tag waits none)
