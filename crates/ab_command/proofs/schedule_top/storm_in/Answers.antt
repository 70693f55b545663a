use Rattle.std.proofs.Common.{◌≡◌, Some}
use Rattle.ab_words.specs.declared.command.Command.TheVariants.{Storm}
use Rattle.ab_words.specs.Language.{command_in}
use Rattle.ab_words.specs.Uses.{texts}
use Rattle.ab_command.proofs.StormWords.{few_events}
use Rattle.ab_command.proofs.schedule_top.storm_in.Goals as goal

pub returns-in-Ok-Some-Storm-clause-few : goal.returns-in-Ok-Some-Storm-clause-few
returns-in-Ok-Some-Storm-clause-few c =
    let read = c.in-Ok-Some-Storm in
    let asks : command_in (texts c.as_slice.result.now) ≡ Some (Storm read.asked) = cc (read.ensures, read.field-0-is, read.field-0-0-is) in
    few_events (texts c.as_slice.result.now) read.asked asks
