use Rattle.std.proofs.Common.{◌∙◌, ap, map}
use Rattle.ab_extract.proofs.FrontLemmas.{quorum_is}
use Rattle.ab_extract.proofs.beside.is_quorum.Goals as goal

pub returns-in-Some : goal.returns-in-Some
returns-in-Some c =
    c.are_quorum.ensures
    ∙ quorum_is c.args.f c.args.zcert.now c.as_slice-in-Some.result.now (c.as_slice-in-Some.ensures.value ∙ c.in-Some.ensures.some ∙ ap (map (λ s. s.0)) c.as_slice.ensures)
