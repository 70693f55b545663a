use Rattle.std.proofs.Common.{◌∙◌, Some, ap, sym}
use Rattle.ab_picture.specs.Pictures.{arrow_of}
use Rattle.ab_picture.proofs.composing.arrow_of.Goals as goal

pub returns-in-Deliver : goal.returns-in-Deliver
returns-in-Deliver c = ap Some c.arrow_to.ensures ∙ ap (arrow_of c.args.told.now.counts.now c.args.told.now.parcels.now c.args.number) (sym c.in-Deliver.is)
