use Rattle.std.proofs.Common.{◌≡◌, Some}
use Rattle.ab_words.specs.declared.command.Command.TheVariants.{Storm}
use Rattle.ab_words.specs.Language.{command_in}
use Rattle.ab_words.specs.Uses.{texts}
use Rattle.ab_command.proofs.StormWords.{few_events}
use Rattle.ab_command.proofs.top.serve.Goals as goal

pub serve_storm-requires : goal.serve_storm-requires
serve_storm-requires g c =
    let read = c.in-Ok-Some-Storm in
    let asks : command_in (texts c.args.words.now) ≡ Some (Storm read.asked) = cc (read.ensures, read.field-0-is, read.field-0-0-is) in
    record { few = few_events (texts c.args.words.now) read.asked asks }
