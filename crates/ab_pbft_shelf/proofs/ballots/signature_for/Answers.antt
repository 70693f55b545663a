use Rattle.std.proofs.Common.{sym, ap, ◌∙◌}
use Rattle.ab_pbft_shelf.proofs.ListLemmas.{signed_as, signer_in-find}
use Rattle.ab_pbft_shelf.proofs.ballots.signature_for.Goals as goal

pub returns-in-Some : goal.returns-in-Some
returns-in-Some c = signer_in-find c.args.by c.args.slot c.args.x.now c.args.ballots.now ∙ ap (signed_as c.args.by) (sym c.in-Some.ensures)

pub returns-in-None : goal.returns-in-None
returns-in-None c = signer_in-find c.args.by c.args.slot c.args.x.now c.args.ballots.now ∙ ap (signed_as c.args.by) (sym c.in-None.ensures)
