use Rattle.ab_run.proofs.Promised.{trimmed_common, aborts_common}
use Rattle.ab_abs.specs.FormLaws.{place_of}
use Rattle.ab_run.proofs.ordered.trimmed_entries_are_common.Goals as goal

pub returns : goal.returns
returns g c =
    let machine = g.S.Service.machine in
    let p = g.P.Protocol in
    let form = place_of p.proto p.serves g.met.P.Protocol.formed in
    let law = c.any_protocol_is_ordered.ensures in
    record {
      now = λ k events r q serves formed premises in_r in_q good_r good_q.
          trimmed_common machine k p.proto p.serves (record { form = form; all = serves }) (λ v reached meets. law.instances k.cluster k.faulty v serves reached meets) events formed premises r q (in_r, good_r) (in_q, good_q);
      aborts = λ k events r i n d rest serves formed premises in_r good_r made.
          let all = aborts_common machine k p.proto p.serves (record { form = form; all = serves }) (λ v reached meets. law.instances k.cluster k.faulty v serves reached meets) events formed premises r i n d rest (in_r, good_r) made in
          (all.0, λ q in_q good_q. all.1 q (in_q, good_q));
    }
