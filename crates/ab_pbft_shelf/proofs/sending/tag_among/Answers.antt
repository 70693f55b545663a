use Rattle.std.proofs.Common.{sym}
use Rattle.ab_pbft_shelf.proofs.ListLemmas.{tag_found, tag_missing}
use Rattle.ab_pbft_shelf.proofs.sending.tag_among.Goals as goal

pub returns-in-Some : goal.returns-in-Some
returns-in-Some c = sym (tag_found c.args.r c.args.tags.now c.in-Some.t.now (sym c.in-Some.ensures))

pub returns-in-None : goal.returns-in-None
returns-in-None c = sym (tag_missing c.args.r c.args.tags.now (sym c.in-None.ensures))
