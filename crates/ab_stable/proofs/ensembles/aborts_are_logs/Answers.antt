use Rattle.ab_abs.specs.FormLaws.{place_of}
use Rattle.ab_stable.proofs.EnsembleLogs.{abort_logs}
use Rattle.ab_stable.proofs.ensembles.aborts_are_logs.Goals as goal

pub returns : goal.returns
returns g c =
    let p = g.P.Protocol in
    λ k faulty w all reached i r h correct made. abort_logs p.proto p.serves (place_of p.proto p.serves g.met.P.Protocol.formed) k faulty all w reached i r h made
