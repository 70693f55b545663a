use Rattle.std.proofs.Common.{◌∙◌}
use Rattle.ab_content.specs.Views.{zcert}
use Rattle.ab_extract.proofs.FrontLemmas.{quorum_is}
use Rattle.ab_extract.proofs.fitting.is_quorum.Goals as goal

pub returns-in-Some : goal.returns-in-Some
returns-in-Some c = c.are_quorum.ensures ∙ quorum_is c.args.f (zcert c.args.zcert.now) c.as_slice.result.now (c.as_slice.ensures.value ∙ c.in-Some.ensures.some)
