use Rattle.ab_run.proofs.Naming.{shown_whole}
use Rattle.ab_abs.specs.FormLaws.{place_of}
use Rattle.ab_run.proofs.ordered.what_is_shown_is_seen.Goals as goal

pub returns : goal.returns
returns g c =
    let machine = g.S.Service.machine in
    let p = g.P.Protocol in
    let form = place_of p.proto p.serves g.met.P.Protocol.formed in
    let law = c.any_protocol_is_ordered.ensures in
    λ k events serves formed premises. shown_whole machine k p.proto p.serves (record { form = form; all = serves }) (λ v reached meets. law.instances k.cluster k.faulty v serves reached meets) events formed premises
