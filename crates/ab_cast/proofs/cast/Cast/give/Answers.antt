use Rattle.std.proofs.Common.{◌≡◌, ◌<◌, ◌+◌, List, [], ◌∷◌, IsOkAnd, arith, sym, ap, ◌∙◌, subst}
use Rattle.ab_num.proofs.Results.{on_err}
use Rattle.ab_replica.specs.Sites.{Site}
use Rattle.ab_client.specs.Clients.{Seat}
use Rattle.ab_cast.specs.declared.place.Place.TheVariants as place
use Rattle.ab_party.specs.Cues.{cue_of}
use Rattle.ab_cast.specs.Casts.{Cast, IsCast, IsTaken}
use Rattle.ab_cast.proofs.CastLemmas.{WhereCommits, no_replica_commits, client_commits, at_core, at_there, replica_core, client_core, replica_stays, replica_taken, replica_twin_stays, replica_twin_taken, twin_of, client_stays, client_taken, client_twin_stays, client_twin_taken, client_twin_within, seat_at}
use Rattle.ab_cast.proofs.cast.Cast.give.Goals as goal

pub invariant_of-self-in-Replica : goal.invariant_of-self-in-Replica
invariant_of-self-in-Replica g c =
    let proto = g.P.Protocol.proto in
    let serves = g.P.Protocol.serves in
    let x : Cast g.row.P.Denot = record { setup = c.self.inside.setup; replicas = c.self.inside.replicas.items; clients = c.self.inside.clients.items; replica_twins = c.self.inside.replica_twins.items; client_twins = c.self.inside.client_twins.items; events = c.self.inside.events } in
    let few : x.events < 100000 = omega (arith, c.requires.few, ap (λ y. y.events) c.self.view_is) in
    let there = at_there x c.args.self.now c.self.view_is c.args.place (place.Replica c.in-Replica.r) c.in-Replica.is c.requires.there.0 c.requires.there.1 in
    replica_stays proto serves x c.self.invariant few c.in-Replica.r c.args.cue c.hear_replica_at.new.cores.items c.in_ok-effects-in-Replica.effects.outs c.in_ok-effects-in-Replica.effects.marks.items c.in_ok-effects-in-Replica.effects.spent there c.in_ok-effects-in-Replica.ensures.heard

pub returns-in_ok-effects-in-Replica-clause-taken : goal.returns-in_ok-effects-in-Replica-clause-taken
returns-in_ok-effects-in-Replica-clause-taken g c =
    let proto = g.P.Protocol.proto in
    let serves = g.P.Protocol.serves in
    let x : Cast g.row.P.Denot = record { setup = c.self.inside.setup; replicas = c.self.inside.replicas.items; clients = c.self.inside.clients.items; replica_twins = c.self.inside.replica_twins.items; client_twins = c.self.inside.client_twins.items; events = c.self.inside.events } in
    let few : x.events < 100000 = omega (arith, c.requires.few, ap (λ y. y.events) c.self.view_is) in
    let there = at_there x c.args.self.now c.self.view_is c.args.place (place.Replica c.in-Replica.r) c.in-Replica.is c.requires.there.0 c.requires.there.1 in
    let new : Cast g.row.P.Denot = record x { replicas = c.hear_replica_at.new.cores.items; events = x.events + 1 } in
    at_core x c.args.self.now c.self.view_is c.args.place (place.Replica c.in-Replica.r) c.in-Replica.is (λ y q s. IsTaken proto y q s (cue_of c.args.cue) new c.in_ok-effects-in-Replica.effects.outs c.in_ok-effects-in-Replica.effects.marks.items c.in_ok-effects-in-Replica.effects.spent)
    (replica_core x.replicas (c.in-Replica.r) (λ s. IsTaken proto x (place.Replica c.in-Replica.r) s (cue_of c.args.cue) new c.in_ok-effects-in-Replica.effects.outs c.in_ok-effects-in-Replica.effects.marks.items c.in_ok-effects-in-Replica.effects.spent)
    (replica_taken proto serves x c.self.invariant few c.in-Replica.r c.args.cue c.hear_replica_at.new.cores.items c.in_ok-effects-in-Replica.effects.outs c.in_ok-effects-in-Replica.effects.marks.items c.in_ok-effects-in-Replica.effects.spent there c.in_ok-effects-in-Replica.ensures.heard))

pub invariant_of-self-in-ReplicaTwin : goal.invariant_of-self-in-ReplicaTwin
invariant_of-self-in-ReplicaTwin g c =
    let proto = g.P.Protocol.proto in
    let serves = g.P.Protocol.serves in
    let x : Cast g.row.P.Denot = record { setup = c.self.inside.setup; replicas = c.self.inside.replicas.items; clients = c.self.inside.clients.items; replica_twins = c.self.inside.replica_twins.items; client_twins = c.self.inside.client_twins.items; events = c.self.inside.events } in
    let few : x.events < 100000 = omega (arith, c.requires.few, ap (λ y. y.events) c.self.view_is) in
    let there = at_there x c.args.self.now c.self.view_is c.args.place (place.ReplicaTwin c.in-ReplicaTwin.r c.in-ReplicaTwin.at) c.in-ReplicaTwin.is c.requires.there.0 c.requires.there.1 in
    replica_twin_stays proto serves x c.self.invariant few c.in-ReplicaTwin.r c.in-ReplicaTwin.at c.args.cue c.hear_replica_at-in-ReplicaTwin.new.cores.items c.in_ok-effects-in-ReplicaTwin.effects.outs c.in_ok-effects-in-ReplicaTwin.effects.marks.items c.in_ok-effects-in-ReplicaTwin.effects.spent there c.in_ok-effects-in-ReplicaTwin.ensures.heard

pub returns-in_ok-effects-in-ReplicaTwin-clause-taken : goal.returns-in_ok-effects-in-ReplicaTwin-clause-taken
returns-in_ok-effects-in-ReplicaTwin-clause-taken g c =
    let proto = g.P.Protocol.proto in
    let serves = g.P.Protocol.serves in
    let x : Cast g.row.P.Denot = record { setup = c.self.inside.setup; replicas = c.self.inside.replicas.items; clients = c.self.inside.clients.items; replica_twins = c.self.inside.replica_twins.items; client_twins = c.self.inside.client_twins.items; events = c.self.inside.events } in
    let few : x.events < 100000 = omega (arith, c.requires.few, ap (λ y. y.events) c.self.view_is) in
    let there = at_there x c.args.self.now c.self.view_is c.args.place (place.ReplicaTwin c.in-ReplicaTwin.r c.in-ReplicaTwin.at) c.in-ReplicaTwin.is c.requires.there.0 c.requires.there.1 in
    let new : Cast g.row.P.Denot = record x { replica_twins = c.hear_replica_at-in-ReplicaTwin.new.cores.items; events = x.events + 1 } in
    at_core x c.args.self.now c.self.view_is c.args.place (place.ReplicaTwin c.in-ReplicaTwin.r c.in-ReplicaTwin.at) c.in-ReplicaTwin.is (λ y q s. IsTaken proto y q s (cue_of c.args.cue) new c.in_ok-effects-in-ReplicaTwin.effects.outs c.in_ok-effects-in-ReplicaTwin.effects.marks.items c.in_ok-effects-in-ReplicaTwin.effects.spent)
    (replica_core x.replica_twins (c.in-ReplicaTwin.at) (λ s. IsTaken proto x (place.ReplicaTwin c.in-ReplicaTwin.r c.in-ReplicaTwin.at) s (cue_of c.args.cue) new c.in_ok-effects-in-ReplicaTwin.effects.outs c.in_ok-effects-in-ReplicaTwin.effects.marks.items c.in_ok-effects-in-ReplicaTwin.effects.spent)
    (replica_twin_taken proto serves x c.self.invariant few c.in-ReplicaTwin.r c.in-ReplicaTwin.at c.args.cue c.hear_replica_at-in-ReplicaTwin.new.cores.items c.in_ok-effects-in-ReplicaTwin.effects.outs c.in_ok-effects-in-ReplicaTwin.effects.marks.items c.in_ok-effects-in-ReplicaTwin.effects.spent there c.in_ok-effects-in-ReplicaTwin.ensures.heard))

pub invariant_of-self-in-Client : goal.invariant_of-self-in-Client
invariant_of-self-in-Client g c =
    let proto = g.P.Protocol.proto in
    let serves = g.P.Protocol.serves in
    let x : Cast g.row.P.Denot = record { setup = c.self.inside.setup; replicas = c.self.inside.replicas.items; clients = c.self.inside.clients.items; replica_twins = c.self.inside.replica_twins.items; client_twins = c.self.inside.client_twins.items; events = c.self.inside.events } in
    let few : x.events < 100000 = omega (arith, c.requires.few, ap (λ y. y.events) c.self.view_is) in
    let there = at_there x c.args.self.now c.self.view_is c.args.place (place.Client c.in-Client.c) c.in-Client.is c.requires.there.0 c.requires.there.1 in
    client_stays proto serves x c.self.invariant few c.in-Client.c (cue_of c.args.cue) c.hear_client_at.new.cores.items c.in_ok-effects-in-Client.effects.outs c.in_ok-effects-in-Client.effects.marks.items c.in_ok-effects-in-Client.effects.spent there c.in_ok-effects-in-Client.ensures.heard

pub returns-in_ok-effects-in-Client-clause-taken : goal.returns-in_ok-effects-in-Client-clause-taken
returns-in_ok-effects-in-Client-clause-taken g c =
    let proto = g.P.Protocol.proto in
    let serves = g.P.Protocol.serves in
    let x : Cast g.row.P.Denot = record { setup = c.self.inside.setup; replicas = c.self.inside.replicas.items; clients = c.self.inside.clients.items; replica_twins = c.self.inside.replica_twins.items; client_twins = c.self.inside.client_twins.items; events = c.self.inside.events } in
    let few : x.events < 100000 = omega (arith, c.requires.few, ap (λ y. y.events) c.self.view_is) in
    let there = at_there x c.args.self.now c.self.view_is c.args.place (place.Client c.in-Client.c) c.in-Client.is c.requires.there.0 c.requires.there.1 in
    let new : Cast g.row.P.Denot = record x { clients = c.hear_client_at.new.cores.items; events = x.events + 1 } in
    at_core x c.args.self.now c.self.view_is c.args.place (place.Client c.in-Client.c) c.in-Client.is (λ y q s. IsTaken proto y q s (cue_of c.args.cue) new c.in_ok-effects-in-Client.effects.outs c.in_ok-effects-in-Client.effects.marks.items c.in_ok-effects-in-Client.effects.spent)
    (client_core x.clients (c.in-Client.c) (λ s. IsTaken proto x (place.Client c.in-Client.c) s (cue_of c.args.cue) new c.in_ok-effects-in-Client.effects.outs c.in_ok-effects-in-Client.effects.marks.items c.in_ok-effects-in-Client.effects.spent)
    (client_taken proto serves x c.self.invariant few c.in-Client.c (cue_of c.args.cue) c.hear_client_at.new.cores.items c.in_ok-effects-in-Client.effects.outs c.in_ok-effects-in-Client.effects.marks.items c.in_ok-effects-in-Client.effects.spent there c.in_ok-effects-in-Client.ensures.heard))

pub invariant_of-self-in-ClientTwin : goal.invariant_of-self-in-ClientTwin
invariant_of-self-in-ClientTwin g c =
    let proto = g.P.Protocol.proto in
    let serves = g.P.Protocol.serves in
    let x : Cast g.row.P.Denot = record { setup = c.self.inside.setup; replicas = c.self.inside.replicas.items; clients = c.self.inside.clients.items; replica_twins = c.self.inside.replica_twins.items; client_twins = c.self.inside.client_twins.items; events = c.self.inside.events } in
    let few : x.events < 100000 = omega (arith, c.requires.few, ap (λ y. y.events) c.self.view_is) in
    let there = at_there x c.args.self.now c.self.view_is c.args.place (place.ClientTwin c.in-ClientTwin.c c.in-ClientTwin.at) c.in-ClientTwin.is c.requires.there.0 c.requires.there.1 in
    client_twin_stays proto serves x c.self.invariant few c.in-ClientTwin.c c.in-ClientTwin.at (cue_of c.args.cue) c.hear_client_at-in-ClientTwin.new.cores.items c.in_ok-effects-in-ClientTwin.effects.outs c.in_ok-effects-in-ClientTwin.effects.marks.items c.in_ok-effects-in-ClientTwin.effects.spent there c.in_ok-effects-in-ClientTwin.ensures.heard

pub returns-in_ok-effects-in-ClientTwin-clause-taken : goal.returns-in_ok-effects-in-ClientTwin-clause-taken
returns-in_ok-effects-in-ClientTwin-clause-taken g c =
    let proto = g.P.Protocol.proto in
    let serves = g.P.Protocol.serves in
    let x : Cast g.row.P.Denot = record { setup = c.self.inside.setup; replicas = c.self.inside.replicas.items; clients = c.self.inside.clients.items; replica_twins = c.self.inside.replica_twins.items; client_twins = c.self.inside.client_twins.items; events = c.self.inside.events } in
    let few : x.events < 100000 = omega (arith, c.requires.few, ap (λ y. y.events) c.self.view_is) in
    let there = at_there x c.args.self.now c.self.view_is c.args.place (place.ClientTwin c.in-ClientTwin.c c.in-ClientTwin.at) c.in-ClientTwin.is c.requires.there.0 c.requires.there.1 in
    let new : Cast g.row.P.Denot = record x { client_twins = c.hear_client_at-in-ClientTwin.new.cores.items; events = x.events + 1 } in
    at_core x c.args.self.now c.self.view_is c.args.place (place.ClientTwin c.in-ClientTwin.c c.in-ClientTwin.at) c.in-ClientTwin.is (λ y q s. IsTaken proto y q s (cue_of c.args.cue) new c.in_ok-effects-in-ClientTwin.effects.outs c.in_ok-effects-in-ClientTwin.effects.marks.items c.in_ok-effects-in-ClientTwin.effects.spent)
    (client_core x.client_twins (c.in-ClientTwin.at) (λ s. IsTaken proto x (place.ClientTwin c.in-ClientTwin.c c.in-ClientTwin.at) s (cue_of c.args.cue) new c.in_ok-effects-in-ClientTwin.effects.outs c.in_ok-effects-in-ClientTwin.effects.marks.items c.in_ok-effects-in-ClientTwin.effects.spent)
    (client_twin_taken proto serves x c.self.invariant few c.in-ClientTwin.c c.in-ClientTwin.at (cue_of c.args.cue) c.hear_client_at-in-ClientTwin.new.cores.items c.in_ok-effects-in-ClientTwin.effects.outs c.in_ok-effects-in-ClientTwin.effects.marks.items c.in_ok-effects-in-ClientTwin.effects.spent there c.in_ok-effects-in-ClientTwin.ensures.heard))

pub hear_replica_at-requires-clause-own : goal.hear_replica_at-requires-clause-own
hear_replica_at-requires-clause-own g c = λ s at. c.self.invariant.own_replicas c.in-Replica.r s at

pub hear_replica_at-requires-in-ReplicaTwin-clause-own : goal.hear_replica_at-requires-in-ReplicaTwin-clause-own
hear_replica_at-requires-in-ReplicaTwin-clause-own g c = λ s at.
    let x : Cast g.row.P.Denot = record { setup = c.self.inside.setup; replicas = c.self.inside.replicas.items; clients = c.self.inside.clients.items; replica_twins = c.self.inside.replica_twins.items; client_twins = c.self.inside.client_twins.items; events = c.self.inside.events } in
    let there = at_there x c.args.self.now c.self.view_is c.args.place (place.ReplicaTwin c.in-ReplicaTwin.r c.in-ReplicaTwin.at) c.in-ReplicaTwin.is c.requires.there.0 c.requires.there.1 in
    twin_of g.P.Protocol.proto g.P.Protocol.serves x c.self.invariant c.in-ReplicaTwin.r c.in-ReplicaTwin.at s there at

pub hear_client_at-requires-in-ClientTwin-clause-there : goal.hear_client_at-requires-in-ClientTwin-clause-there
hear_client_at-requires-in-ClientTwin-clause-there g c =
    let x : Cast g.row.P.Denot = record { setup = c.self.inside.setup; replicas = c.self.inside.replicas.items; clients = c.self.inside.clients.items; replica_twins = c.self.inside.replica_twins.items; client_twins = c.self.inside.client_twins.items; events = c.self.inside.events } in
    let there = at_there x c.args.self.now c.self.view_is c.args.place (place.ClientTwin c.in-ClientTwin.c c.in-ClientTwin.at) c.in-ClientTwin.is c.requires.there.0 c.requires.there.1 in
    let within = client_twin_within g.P.Protocol.proto g.P.Protocol.serves x c.self.invariant c.in-ClientTwin.c c.in-ClientTwin.at there in
    omega (arith, within, c.self.inside.client_twins.ok.0)

pub returns-in_ok-effects-in-Replica-clause-at_once : goal.returns-in_ok-effects-in-Replica-clause-at_once
returns-in_ok-effects-in-Replica-clause-at_once g c s seen =
    let x : Cast g.row.P.Denot = record { setup = c.self.inside.setup; replicas = c.self.inside.replicas.items; clients = c.self.inside.clients.items; replica_twins = c.self.inside.replica_twins.items; client_twins = c.self.inside.client_twins.items; events = c.self.inside.events } in
    at_core x c.args.self.now c.self.view_is c.args.place (place.Replica c.in-Replica.r) c.in-Replica.is (λ y q t. WhereCommits (cue_of c.args.cue) seen (c.in_ok-effects-in-Replica.effects.marks.items ≡ seen ∷ []) t)
    (no_replica_commits x.replicas c.in-Replica.r (cue_of c.args.cue) seen (c.in_ok-effects-in-Replica.effects.marks.items ≡ seen ∷ [])) s

pub returns-in_err-effects-in-Replica-clause-at_once : goal.returns-in_err-effects-in-Replica-clause-at_once
returns-in_err-effects-in-Replica-clause-at_once g c s seen =
    let x : Cast g.row.P.Denot = record { setup = c.self.inside.setup; replicas = c.self.inside.replicas.items; clients = c.self.inside.clients.items; replica_twins = c.self.inside.replica_twins.items; client_twins = c.self.inside.client_twins.items; events = c.self.inside.events } in
    let T = IsOkAnd c.from_residual.result (λ e. e.marks.items ≡ seen ∷ []) in
    at_core x c.args.self.now c.self.view_is c.args.place (place.Replica c.in-Replica.r) c.in-Replica.is (λ y q t. WhereCommits (cue_of c.args.cue) seen T t)
    (no_replica_commits x.replicas c.in-Replica.r (cue_of c.args.cue) seen T) s

pub returns-in_ok-effects-in-Client-clause-at_once : goal.returns-in_ok-effects-in-Client-clause-at_once
returns-in_ok-effects-in-Client-clause-at_once g c s seen =
    let x : Cast g.row.P.Denot = record { setup = c.self.inside.setup; replicas = c.self.inside.replicas.items; clients = c.self.inside.clients.items; replica_twins = c.self.inside.replica_twins.items; client_twins = c.self.inside.client_twins.items; events = c.self.inside.events } in
    at_core x c.args.self.now c.self.view_is c.args.place (place.Client c.in-Client.c) c.in-Client.is (λ y q t. WhereCommits (cue_of c.args.cue) seen (c.in_ok-effects-in-Client.effects.marks.items ≡ seen ∷ []) t)
    (client_commits x.clients c.in-Client.c (cue_of c.args.cue) seen (c.in_ok-effects-in-Client.effects.marks.items ≡ seen ∷ []) (λ t here commits. c.in_ok-effects-in-Client.ensures.at_once t seen here commits)) s

pub returns-in_err-effects-in-Client-clause-at_once : goal.returns-in_err-effects-in-Client-clause-at_once
returns-in_err-effects-in-Client-clause-at_once g c s seen =
    let x : Cast g.row.P.Denot = record { setup = c.self.inside.setup; replicas = c.self.inside.replicas.items; clients = c.self.inside.clients.items; replica_twins = c.self.inside.replica_twins.items; client_twins = c.self.inside.client_twins.items; events = c.self.inside.events } in
    let T = IsOkAnd c.from_residual-in_err-effects-in-Client.result (λ e. e.marks.items ≡ seen ∷ []) in
    at_core x c.args.self.now c.self.view_is c.args.place (place.Client c.in-Client.c) c.in-Client.is (λ y q t. WhereCommits (cue_of c.args.cue) seen T t)
    (client_commits x.clients c.in-Client.c (cue_of c.args.cue) seen T (λ t here commits. absurd (c.in_err-effects-in-Client.ensures.at_once t seen here commits))) s

pub returns-in_ok-effects-in-ReplicaTwin-clause-at_once : goal.returns-in_ok-effects-in-ReplicaTwin-clause-at_once
returns-in_ok-effects-in-ReplicaTwin-clause-at_once g c s seen =
    let x : Cast g.row.P.Denot = record { setup = c.self.inside.setup; replicas = c.self.inside.replicas.items; clients = c.self.inside.clients.items; replica_twins = c.self.inside.replica_twins.items; client_twins = c.self.inside.client_twins.items; events = c.self.inside.events } in
    at_core x c.args.self.now c.self.view_is c.args.place (place.ReplicaTwin c.in-ReplicaTwin.r c.in-ReplicaTwin.at) c.in-ReplicaTwin.is (λ y q t. WhereCommits (cue_of c.args.cue) seen (c.in_ok-effects-in-ReplicaTwin.effects.marks.items ≡ seen ∷ []) t)
    (no_replica_commits x.replica_twins c.in-ReplicaTwin.at (cue_of c.args.cue) seen (c.in_ok-effects-in-ReplicaTwin.effects.marks.items ≡ seen ∷ [])) s

pub returns-in_err-effects-in-ReplicaTwin-clause-at_once : goal.returns-in_err-effects-in-ReplicaTwin-clause-at_once
returns-in_err-effects-in-ReplicaTwin-clause-at_once g c s seen =
    let x : Cast g.row.P.Denot = record { setup = c.self.inside.setup; replicas = c.self.inside.replicas.items; clients = c.self.inside.clients.items; replica_twins = c.self.inside.replica_twins.items; client_twins = c.self.inside.client_twins.items; events = c.self.inside.events } in
    let T = IsOkAnd c.from_residual-in_err-effects-in-ReplicaTwin.result (λ e. e.marks.items ≡ seen ∷ []) in
    at_core x c.args.self.now c.self.view_is c.args.place (place.ReplicaTwin c.in-ReplicaTwin.r c.in-ReplicaTwin.at) c.in-ReplicaTwin.is (λ y q t. WhereCommits (cue_of c.args.cue) seen T t)
    (no_replica_commits x.replica_twins c.in-ReplicaTwin.at (cue_of c.args.cue) seen T) s

pub returns-in_ok-effects-in-ClientTwin-clause-at_once : goal.returns-in_ok-effects-in-ClientTwin-clause-at_once
returns-in_ok-effects-in-ClientTwin-clause-at_once g c s seen =
    let x : Cast g.row.P.Denot = record { setup = c.self.inside.setup; replicas = c.self.inside.replicas.items; clients = c.self.inside.clients.items; replica_twins = c.self.inside.replica_twins.items; client_twins = c.self.inside.client_twins.items; events = c.self.inside.events } in
    at_core x c.args.self.now c.self.view_is c.args.place (place.ClientTwin c.in-ClientTwin.c c.in-ClientTwin.at) c.in-ClientTwin.is (λ y q t. WhereCommits (cue_of c.args.cue) seen (c.in_ok-effects-in-ClientTwin.effects.marks.items ≡ seen ∷ []) t)
    (client_commits x.client_twins c.in-ClientTwin.at (cue_of c.args.cue) seen (c.in_ok-effects-in-ClientTwin.effects.marks.items ≡ seen ∷ []) (λ t here commits. c.in_ok-effects-in-ClientTwin.ensures.at_once t seen here commits)) s

pub returns-in_err-effects-in-ClientTwin-clause-at_once : goal.returns-in_err-effects-in-ClientTwin-clause-at_once
returns-in_err-effects-in-ClientTwin-clause-at_once g c s seen =
    let x : Cast g.row.P.Denot = record { setup = c.self.inside.setup; replicas = c.self.inside.replicas.items; clients = c.self.inside.clients.items; replica_twins = c.self.inside.replica_twins.items; client_twins = c.self.inside.client_twins.items; events = c.self.inside.events } in
    let T = IsOkAnd c.from_residual-in_err-effects-in-ClientTwin.result (λ e. e.marks.items ≡ seen ∷ []) in
    at_core x c.args.self.now c.self.view_is c.args.place (place.ClientTwin c.in-ClientTwin.c c.in-ClientTwin.at) c.in-ClientTwin.is (λ y q t. WhereCommits (cue_of c.args.cue) seen T t)
    (client_commits x.client_twins c.in-ClientTwin.at (cue_of c.args.cue) seen T (λ t here commits. absurd (c.in_err-effects-in-ClientTwin.ensures.at_once t seen here commits))) s

pub invariant_of-self : goal.invariant_of-self
invariant_of-self g c =
    let x : Cast g.row.P.Denot = record { setup = c.self.inside.setup; replicas = c.self.inside.replicas.items; clients = c.self.inside.clients.items; replica_twins = c.self.inside.replica_twins.items; client_twins = c.self.inside.client_twins.items; events = c.self.inside.events } in
    subst (λ (items : List (Site g.row.P.Denot)). IsCast g.P.Protocol.proto g.P.Protocol.serves (record x { replicas = items })) (sym c.in_err-effects-in-Replica.ensures.err) c.self.invariant

pub returns-in_err-effects-in-Replica-clause-err : goal.returns-in_err-effects-in-Replica-clause-err
returns-in_err-effects-in-Replica-clause-err g c =
    let x : Cast g.row.P.Denot = record { setup = c.self.inside.setup; replicas = c.self.inside.replicas.items; clients = c.self.inside.clients.items; replica_twins = c.self.inside.replica_twins.items; client_twins = c.self.inside.client_twins.items; events = c.self.inside.events } in
    on_err c.from_residual.result (ap (λ items. record x { replicas = items }) c.in_err-effects-in-Replica.ensures.err ∙ c.self.view_is)

pub overflow_add-self : goal.overflow_add-self
overflow_add-self g c = omega (arith, c.requires.few, ap (λ y. y.events) c.self.view_is)

pub invariant_of-self-in_err-effects-in-Client : goal.invariant_of-self-in_err-effects-in-Client
invariant_of-self-in_err-effects-in-Client g c =
    let x : Cast g.row.P.Denot = record { setup = c.self.inside.setup; replicas = c.self.inside.replicas.items; clients = c.self.inside.clients.items; replica_twins = c.self.inside.replica_twins.items; client_twins = c.self.inside.client_twins.items; events = c.self.inside.events } in
    subst (λ (items : List Seat). IsCast g.P.Protocol.proto g.P.Protocol.serves (record x { clients = items })) (sym c.in_err-effects-in-Client.ensures.err) c.self.invariant

pub returns-in_err-effects-in-Client-clause-err : goal.returns-in_err-effects-in-Client-clause-err
returns-in_err-effects-in-Client-clause-err g c =
    let x : Cast g.row.P.Denot = record { setup = c.self.inside.setup; replicas = c.self.inside.replicas.items; clients = c.self.inside.clients.items; replica_twins = c.self.inside.replica_twins.items; client_twins = c.self.inside.client_twins.items; events = c.self.inside.events } in
    on_err c.from_residual-in_err-effects-in-Client.result (ap (λ items. record x { clients = items }) c.in_err-effects-in-Client.ensures.err ∙ c.self.view_is)

pub overflow_add-self-in-Client : goal.overflow_add-self-in-Client
overflow_add-self-in-Client g c = omega (arith, c.requires.few, ap (λ y. y.events) c.self.view_is)

pub invariant_of-self-in_err-effects-in-ReplicaTwin : goal.invariant_of-self-in_err-effects-in-ReplicaTwin
invariant_of-self-in_err-effects-in-ReplicaTwin g c =
    let x : Cast g.row.P.Denot = record { setup = c.self.inside.setup; replicas = c.self.inside.replicas.items; clients = c.self.inside.clients.items; replica_twins = c.self.inside.replica_twins.items; client_twins = c.self.inside.client_twins.items; events = c.self.inside.events } in
    subst (λ (items : List (Site g.row.P.Denot)). IsCast g.P.Protocol.proto g.P.Protocol.serves (record x { replica_twins = items })) (sym c.in_err-effects-in-ReplicaTwin.ensures.err) c.self.invariant

pub returns-in_err-effects-in-ReplicaTwin-clause-err : goal.returns-in_err-effects-in-ReplicaTwin-clause-err
returns-in_err-effects-in-ReplicaTwin-clause-err g c =
    let x : Cast g.row.P.Denot = record { setup = c.self.inside.setup; replicas = c.self.inside.replicas.items; clients = c.self.inside.clients.items; replica_twins = c.self.inside.replica_twins.items; client_twins = c.self.inside.client_twins.items; events = c.self.inside.events } in
    on_err c.from_residual-in_err-effects-in-ReplicaTwin.result (ap (λ items. record x { replica_twins = items }) c.in_err-effects-in-ReplicaTwin.ensures.err ∙ c.self.view_is)

pub overflow_add-self-in-ReplicaTwin : goal.overflow_add-self-in-ReplicaTwin
overflow_add-self-in-ReplicaTwin g c = omega (arith, c.requires.few, ap (λ y. y.events) c.self.view_is)

pub invariant_of-self-in_err-effects-in-ClientTwin : goal.invariant_of-self-in_err-effects-in-ClientTwin
invariant_of-self-in_err-effects-in-ClientTwin g c =
    let x : Cast g.row.P.Denot = record { setup = c.self.inside.setup; replicas = c.self.inside.replicas.items; clients = c.self.inside.clients.items; replica_twins = c.self.inside.replica_twins.items; client_twins = c.self.inside.client_twins.items; events = c.self.inside.events } in
    subst (λ (items : List Seat). IsCast g.P.Protocol.proto g.P.Protocol.serves (record x { client_twins = items })) (sym c.in_err-effects-in-ClientTwin.ensures.err) c.self.invariant

pub returns-in_err-effects-in-ClientTwin-clause-err : goal.returns-in_err-effects-in-ClientTwin-clause-err
returns-in_err-effects-in-ClientTwin-clause-err g c =
    let x : Cast g.row.P.Denot = record { setup = c.self.inside.setup; replicas = c.self.inside.replicas.items; clients = c.self.inside.clients.items; replica_twins = c.self.inside.replica_twins.items; client_twins = c.self.inside.client_twins.items; events = c.self.inside.events } in
    on_err c.from_residual-in_err-effects-in-ClientTwin.result (ap (λ items. record x { client_twins = items }) c.in_err-effects-in-ClientTwin.ensures.err ∙ c.self.view_is)

pub overflow_add-self-in-ClientTwin : goal.overflow_add-self-in-ClientTwin
overflow_add-self-in-ClientTwin g c = omega (arith, c.requires.few, ap (λ y. y.events) c.self.view_is)

pub hear_client_at-requires-clause-own : goal.hear_client_at-requires-clause-own
hear_client_at-requires-clause-own g c s at =
    let seat = c.self.invariant.seats c.in-Client.c s at in
    (seat.own, seat.placed)

pub hear_client_at-requires-in-ClientTwin-clause-own : goal.hear_client_at-requires-in-ClientTwin-clause-own
hear_client_at-requires-in-ClientTwin-clause-own g c s at =
    let x : Cast g.row.P.Denot = record { setup = c.self.inside.setup; replicas = c.self.inside.replicas.items; clients = c.self.inside.clients.items; replica_twins = c.self.inside.replica_twins.items; client_twins = c.self.inside.client_twins.items; events = c.self.inside.events } in
    let there = at_there x c.args.self.now c.self.view_is c.args.place (place.ClientTwin c.in-ClientTwin.c c.in-ClientTwin.at) c.in-ClientTwin.is c.requires.there.0 c.requires.there.1 in
    let seat = seat_at g.P.Protocol.proto g.P.Protocol.serves x c.self.invariant c.in-ClientTwin.c c.in-ClientTwin.at s there at in
    (seat.own, seat.placed)
