use Rattle.std.proofs.Common.{◌≡◌, ◌<◌, ◌+◌, List, None, Some, arith, refl, sym, ap, ◌∙◌, subst}
use Rattle.ab_num.proofs.Results.{on_err}
use Rattle.ab_client.specs.Clients.{Seat}
use Rattle.ab_party.specs.declared.fault.CommandFault.TheVariants.{NoClient}
use Rattle.ab_run.specs.Local.{cue_command}
use Rattle.ab_cast.specs.declared.place.Place.TheVariants as place
use Rattle.ab_cast.specs.Casts.{Cast, IsCast, IsTaken, command_refusal}
use Rattle.ab_cast.proofs.CastLemmas.{replica_core, at_core, at_there, client_core, client_stays, client_taken, client_twin_stays, client_twin_taken, seat_at}
use Rattle.ab_cast.proofs.cast.Cast.invoke.Goals as goal

pub invariant_of-self-in-Client : goal.invariant_of-self-in-Client
invariant_of-self-in-Client g c =
    let proto = g.P.Protocol.proto in
    let serves = g.P.Protocol.serves in
    let x : Cast g.row.P.Denot = record { setup = c.self.inside.setup; replicas = c.self.inside.replicas.items; clients = c.self.inside.clients.items; replica_twins = c.self.inside.replica_twins.items; client_twins = c.self.inside.client_twins.items; events = c.self.inside.events } in
    let few : x.events < 100000 = omega (arith, c.requires.few, ap (λ y. y.events) c.self.view_is) in
    let there = at_there x c.args.self.now c.self.view_is c.args.place (place.Client c.in-Client.c) c.in-Client.is c.requires.there.0 c.requires.there.1 in
    client_stays proto serves x c.self.invariant few c.in-Client.c (cue_command (record { items = c.args.bytes.now })) c.tell_client_at.new.cores.items c.in_ok-effects-in-Client.effects.outs c.in_ok-effects-in-Client.effects.marks.items c.in_ok-effects-in-Client.effects.spent there c.in_ok-effects-in-Client.ensures.heard

pub returns-in_ok-effects-in-Client-clause-taken : goal.returns-in_ok-effects-in-Client-clause-taken
returns-in_ok-effects-in-Client-clause-taken g c =
    let proto = g.P.Protocol.proto in
    let serves = g.P.Protocol.serves in
    let x : Cast g.row.P.Denot = record { setup = c.self.inside.setup; replicas = c.self.inside.replicas.items; clients = c.self.inside.clients.items; replica_twins = c.self.inside.replica_twins.items; client_twins = c.self.inside.client_twins.items; events = c.self.inside.events } in
    let few : x.events < 100000 = omega (arith, c.requires.few, ap (λ y. y.events) c.self.view_is) in
    let there = at_there x c.args.self.now c.self.view_is c.args.place (place.Client c.in-Client.c) c.in-Client.is c.requires.there.0 c.requires.there.1 in
    let new : Cast g.row.P.Denot = record x { clients = c.tell_client_at.new.cores.items; events = x.events + 1 } in
    at_core x c.args.self.now c.self.view_is c.args.place (place.Client c.in-Client.c) c.in-Client.is (λ y q s. IsTaken proto y q s (cue_command (record { items = c.args.bytes.now })) new c.in_ok-effects-in-Client.effects.outs c.in_ok-effects-in-Client.effects.marks.items c.in_ok-effects-in-Client.effects.spent)
    (client_core x.clients c.in-Client.c (λ s. IsTaken proto x (place.Client c.in-Client.c) s (cue_command (record { items = c.args.bytes.now })) new c.in_ok-effects-in-Client.effects.outs c.in_ok-effects-in-Client.effects.marks.items c.in_ok-effects-in-Client.effects.spent)
    (client_taken proto serves x c.self.invariant few c.in-Client.c (cue_command (record { items = c.args.bytes.now })) c.tell_client_at.new.cores.items c.in_ok-effects-in-Client.effects.outs c.in_ok-effects-in-Client.effects.marks.items c.in_ok-effects-in-Client.effects.spent there c.in_ok-effects-in-Client.ensures.heard))

pub returns-in_ok-effects-in-Client-clause-idle : goal.returns-in_ok-effects-in-Client-clause-idle
returns-in_ok-effects-in-Client-clause-idle g c =
    let x : Cast g.row.P.Denot = record { setup = c.self.inside.setup; replicas = c.self.inside.replicas.items; clients = c.self.inside.clients.items; replica_twins = c.self.inside.replica_twins.items; client_twins = c.self.inside.client_twins.items; events = c.self.inside.events } in
    at_core x c.args.self.now c.self.view_is c.args.place (place.Client c.in-Client.c) c.in-Client.is (λ y q t. command_refusal t ≡ None)
    (client_core x.clients c.in-Client.c (λ t. command_refusal t ≡ None) (λ t at. c.in_ok-effects-in-Client.ensures.idle t at))

pub invariant_of-self-in-ClientTwin : goal.invariant_of-self-in-ClientTwin
invariant_of-self-in-ClientTwin g c =
    let proto = g.P.Protocol.proto in
    let serves = g.P.Protocol.serves in
    let x : Cast g.row.P.Denot = record { setup = c.self.inside.setup; replicas = c.self.inside.replicas.items; clients = c.self.inside.clients.items; replica_twins = c.self.inside.replica_twins.items; client_twins = c.self.inside.client_twins.items; events = c.self.inside.events } in
    let few : x.events < 100000 = omega (arith, c.requires.few, ap (λ y. y.events) c.self.view_is) in
    let there = at_there x c.args.self.now c.self.view_is c.args.place (place.ClientTwin c.in-ClientTwin.c c.in-ClientTwin.at) c.in-ClientTwin.is c.requires.there.0 c.requires.there.1 in
    client_twin_stays proto serves x c.self.invariant few c.in-ClientTwin.c c.in-ClientTwin.at (cue_command (record { items = c.args.bytes.now })) c.tell_client_at-in-ClientTwin.new.cores.items c.in_ok-effects-in-ClientTwin.effects.outs c.in_ok-effects-in-ClientTwin.effects.marks.items c.in_ok-effects-in-ClientTwin.effects.spent there c.in_ok-effects-in-ClientTwin.ensures.heard

pub returns-in_ok-effects-in-ClientTwin-clause-taken : goal.returns-in_ok-effects-in-ClientTwin-clause-taken
returns-in_ok-effects-in-ClientTwin-clause-taken g c =
    let proto = g.P.Protocol.proto in
    let serves = g.P.Protocol.serves in
    let x : Cast g.row.P.Denot = record { setup = c.self.inside.setup; replicas = c.self.inside.replicas.items; clients = c.self.inside.clients.items; replica_twins = c.self.inside.replica_twins.items; client_twins = c.self.inside.client_twins.items; events = c.self.inside.events } in
    let few : x.events < 100000 = omega (arith, c.requires.few, ap (λ y. y.events) c.self.view_is) in
    let there = at_there x c.args.self.now c.self.view_is c.args.place (place.ClientTwin c.in-ClientTwin.c c.in-ClientTwin.at) c.in-ClientTwin.is c.requires.there.0 c.requires.there.1 in
    let new : Cast g.row.P.Denot = record x { client_twins = c.tell_client_at-in-ClientTwin.new.cores.items; events = x.events + 1 } in
    at_core x c.args.self.now c.self.view_is c.args.place (place.ClientTwin c.in-ClientTwin.c c.in-ClientTwin.at) c.in-ClientTwin.is (λ y q s. IsTaken proto y q s (cue_command (record { items = c.args.bytes.now })) new c.in_ok-effects-in-ClientTwin.effects.outs c.in_ok-effects-in-ClientTwin.effects.marks.items c.in_ok-effects-in-ClientTwin.effects.spent)
    (client_core x.client_twins c.in-ClientTwin.at (λ s. IsTaken proto x (place.ClientTwin c.in-ClientTwin.c c.in-ClientTwin.at) s (cue_command (record { items = c.args.bytes.now })) new c.in_ok-effects-in-ClientTwin.effects.outs c.in_ok-effects-in-ClientTwin.effects.marks.items c.in_ok-effects-in-ClientTwin.effects.spent)
    (client_twin_taken proto serves x c.self.invariant few c.in-ClientTwin.c c.in-ClientTwin.at (cue_command (record { items = c.args.bytes.now })) c.tell_client_at-in-ClientTwin.new.cores.items c.in_ok-effects-in-ClientTwin.effects.outs c.in_ok-effects-in-ClientTwin.effects.marks.items c.in_ok-effects-in-ClientTwin.effects.spent there c.in_ok-effects-in-ClientTwin.ensures.heard))

pub returns-in_ok-effects-in-ClientTwin-clause-idle : goal.returns-in_ok-effects-in-ClientTwin-clause-idle
returns-in_ok-effects-in-ClientTwin-clause-idle g c =
    let x : Cast g.row.P.Denot = record { setup = c.self.inside.setup; replicas = c.self.inside.replicas.items; clients = c.self.inside.clients.items; replica_twins = c.self.inside.replica_twins.items; client_twins = c.self.inside.client_twins.items; events = c.self.inside.events } in
    at_core x c.args.self.now c.self.view_is c.args.place (place.ClientTwin c.in-ClientTwin.c c.in-ClientTwin.at) c.in-ClientTwin.is (λ y q t. command_refusal t ≡ None)
    (client_core x.client_twins c.in-ClientTwin.at (λ t. command_refusal t ≡ None) (λ t at. c.in_ok-effects-in-ClientTwin.ensures.idle t at))

pub tell_client_at-requires-in-ClientTwin-clause-stamp : goal.tell_client_at-requires-in-ClientTwin-clause-stamp
tell_client_at-requires-in-ClientTwin-clause-stamp g c t at =
    let x : Cast g.row.P.Denot = record { setup = c.self.inside.setup; replicas = c.self.inside.replicas.items; clients = c.self.inside.clients.items; replica_twins = c.self.inside.replica_twins.items; client_twins = c.self.inside.client_twins.items; events = c.self.inside.events } in
    let there = at_there x c.args.self.now c.self.view_is c.args.place (place.ClientTwin c.in-ClientTwin.c c.in-ClientTwin.at) c.in-ClientTwin.is c.requires.there.0 c.requires.there.1 in
    let seat = seat_at g.P.Protocol.proto g.P.Protocol.serves x c.self.invariant c.in-ClientTwin.c c.in-ClientTwin.at t there at in
    omega (arith, seat.stamp, c.self.invariant.few_events)

pub invariant_of-self : goal.invariant_of-self
invariant_of-self g c =
    let x : Cast g.row.P.Denot = record { setup = c.self.inside.setup; replicas = c.self.inside.replicas.items; clients = c.self.inside.clients.items; replica_twins = c.self.inside.replica_twins.items; client_twins = c.self.inside.client_twins.items; events = c.self.inside.events } in
    subst (λ (items : List Seat). IsCast g.P.Protocol.proto g.P.Protocol.serves (record x { clients = items })) (sym c.in_err-effects-in-Client.ensures.err) c.self.invariant

pub returns-in_err-effects-in-Client-clause-err : goal.returns-in_err-effects-in-Client-clause-err
returns-in_err-effects-in-Client-clause-err g c =
    let x : Cast g.row.P.Denot = record { setup = c.self.inside.setup; replicas = c.self.inside.replicas.items; clients = c.self.inside.clients.items; replica_twins = c.self.inside.replica_twins.items; client_twins = c.self.inside.client_twins.items; events = c.self.inside.events } in
    on_err c.from_residual.result (ap (λ items. record x { clients = items }) c.in_err-effects-in-Client.ensures.err ∙ c.self.view_is)

pub overflow_add-self : goal.overflow_add-self
overflow_add-self g c = omega (arith, c.requires.few, ap (λ y. y.events) c.self.view_is)

pub invariant_of-self-in_err-effects-in-ClientTwin : goal.invariant_of-self-in_err-effects-in-ClientTwin
invariant_of-self-in_err-effects-in-ClientTwin g c =
    let x : Cast g.row.P.Denot = record { setup = c.self.inside.setup; replicas = c.self.inside.replicas.items; clients = c.self.inside.clients.items; replica_twins = c.self.inside.replica_twins.items; client_twins = c.self.inside.client_twins.items; events = c.self.inside.events } in
    subst (λ (items : List Seat). IsCast g.P.Protocol.proto g.P.Protocol.serves (record x { client_twins = items })) (sym c.in_err-effects-in-ClientTwin.ensures.err) c.self.invariant

pub returns-in_err-effects-in-ClientTwin-clause-err : goal.returns-in_err-effects-in-ClientTwin-clause-err
returns-in_err-effects-in-ClientTwin-clause-err g c =
    let x : Cast g.row.P.Denot = record { setup = c.self.inside.setup; replicas = c.self.inside.replicas.items; clients = c.self.inside.clients.items; replica_twins = c.self.inside.replica_twins.items; client_twins = c.self.inside.client_twins.items; events = c.self.inside.events } in
    on_err c.from_residual-in_err-effects-in-ClientTwin.result (ap (λ items. record x { client_twins = items }) c.in_err-effects-in-ClientTwin.ensures.err ∙ c.self.view_is)

pub overflow_add-self-in-ClientTwin : goal.overflow_add-self-in-ClientTwin
overflow_add-self-in-ClientTwin g c = omega (arith, c.requires.few, ap (λ y. y.events) c.self.view_is)

pub returns-in-Replica-clause-cause : goal.returns-in-Replica-clause-cause
returns-in-Replica-clause-cause g c =
    let x = c.args.self.now in
    at_core x x refl c.args.place (place.Replica c.in-Replica.field-0) c.in-Replica.is (λ y q s. command_refusal s ≡ Some NoClient)
    (replica_core x.replicas c.in-Replica.field-0 (λ s. command_refusal s ≡ Some NoClient) (λ s here. refl))

pub returns-in-ReplicaTwin-clause-cause : goal.returns-in-ReplicaTwin-clause-cause
returns-in-ReplicaTwin-clause-cause g c =
    let x = c.args.self.now in
    at_core x x refl c.args.place (place.ReplicaTwin c.in-ReplicaTwin.field-0 c.in-ReplicaTwin.field-1) c.in-ReplicaTwin.is (λ y q s. command_refusal s ≡ Some NoClient)
    (replica_core x.replica_twins c.in-ReplicaTwin.field-1 (λ s. command_refusal s ≡ Some NoClient) (λ s here. refl))

pub tell_client_at-requires-clause-own : goal.tell_client_at-requires-clause-own
tell_client_at-requires-clause-own g c s at =
    let seat = c.self.invariant.seats c.in-Client.c s at in
    (seat.own, seat.placed)

pub tell_client_at-requires-in-ClientTwin-clause-own : goal.tell_client_at-requires-in-ClientTwin-clause-own
tell_client_at-requires-in-ClientTwin-clause-own g c s at =
    let x : Cast g.row.P.Denot = record { setup = c.self.inside.setup; replicas = c.self.inside.replicas.items; clients = c.self.inside.clients.items; replica_twins = c.self.inside.replica_twins.items; client_twins = c.self.inside.client_twins.items; events = c.self.inside.events } in
    let there = at_there x c.args.self.now c.self.view_is c.args.place (place.ClientTwin c.in-ClientTwin.c c.in-ClientTwin.at) c.in-ClientTwin.is c.requires.there.0 c.requires.there.1 in
    let seat = seat_at g.P.Protocol.proto g.P.Protocol.serves x c.self.invariant c.in-ClientTwin.c c.in-ClientTwin.at s there at in
    (seat.own, seat.placed)
