use Rattle.ab_abs.specs.FormLaws.{place_of}
use Rattle.ab_stable.proofs.EnsembleFronts.{logs_begun}
use Rattle.ab_stable.proofs.ensembles.logs_begin_with_inits.Goals as goal

pub returns : goal.returns
returns g c =
    let p = g.P.Protocol in
    let laws = g.met.P.Protocol in
    λ k faulty w all reached i r s one makes correct is. logs_begun g.S.Service.machine p.proto p.serves (place_of p.proto p.serves laws.formed) k faulty all w reached i r s makes is
