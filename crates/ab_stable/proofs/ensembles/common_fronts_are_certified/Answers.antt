use Rattle.ab_abs.specs.FormLaws.{place_of}
use Rattle.ab_stable.proofs.EnsembleFronts.{fronts_certified}
use Rattle.ab_stable.proofs.ensembles.common_fronts_are_certified.Goals as goal

pub returns : goal.returns
returns g c =
    let p = g.P.Protocol in
    let laws = g.met.P.Protocol in
    λ k faulty w all reached meets i front one makes common party h taken.
    fronts_certified g.S.Service.machine p.proto p.serves (place_of p.proto p.serves laws.formed) k faulty all w reached meets i front one makes common party h taken
