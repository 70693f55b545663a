use Rattle.std.proofs.Common.{refl}
use Rattle.ab_pbft_rules.specs.Rules.{leads}
use Rattle.ab_pbft_work.proofs.TurnLemmas.{says_does}
use Rattle.ab_pbft_work.proofs.progress.Progress.tell_lead.Goals as goal

pub returns : goal.returns
returns c = says_does c.args.self.now _ (leads c.args.view) refl c.in_ok-push.ensures.items
