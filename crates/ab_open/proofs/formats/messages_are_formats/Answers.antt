use Rattle.ab_open.proofs.MessageLemmas.{message-law}
use Rattle.ab_open.proofs.formats.messages_are_formats.Goals as goal

pub returns : goal.returns
returns c = message-law
