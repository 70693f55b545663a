use Rattle.ab_abs.specs.FormLaws.{place_of}
use Rattle.ab_promises.proofs.ActsAlone.{aborts_once_in}
use Rattle.ab_promises.proofs.StatedOnce.{aborts_once, form_logs}
use Rattle.ab_promises.proofs.once.lawful_replicas_abort_once.Goals as goal

pub returns : goal.returns
returns g c =
    let p = g.P.Protocol in
    let formed = g.met.P.Protocol.formed in
    record {
      acts = λ none. aborts_once p.proto p.serves (form_logs p.proto p.serves formed) none;
      runs = λ k events r none all are lt good.
          aborts_once_in k p.proto p.serves (place_of p.proto p.serves formed) all r lt good events are (aborts_once p.proto p.serves (form_logs p.proto p.serves formed) none);
    }
