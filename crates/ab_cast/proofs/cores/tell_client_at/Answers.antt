use Rattle.std.proofs.Common.{◌≡◌, Some, slice_get, slice_set, arith, sym, subst}
use Rattle.std.specs.Prelude.{IfErr, IfOk, None, OnOk}
use Rattle.std.proofs.lemmas.Result.{on_err_weaker}
use Rattle.ab_client.specs.Clients.{Seat}
use Rattle.ab_client.specs.Clients.{told}
use Rattle.ab_party.specs.Parties.{IsCauseOf, seat_refusal}
use Rattle.ab_cast.specs.Hearing.{CliHears}
use Rattle.ab_cast.proofs.CastLemmas.{read_there, put_back, the_same}
use Rattle.ab_cast.proofs.ReplicaLemmas.{client_heard, client_party, seat_keys}
use Rattle.ab_cast.proofs.cores.tell_client_at.Goals as goal

pub credentials-keys-requires : goal.credentials-keys-requires
credentials-keys-requires c = client_party c.args.setup.now c.args.c c.requires.client

pub tell_client-requires-clause-own : goal.tell_client-requires-clause-own
tell_client-requires-clause-own c =
    let items = c.args.cores.now.items in
    let old = c.index_mut.result.now in
    let at : slice_get items c.args.at ≡ Some old = read_there items c.args.at old (omega (arith, c.requires.there, c.args.cores.now.ok.0)) c.index_mut.ensures.value in
    seat_keys c.args.setup.now c.args.c c.credentials-keys.result c.credentials-keys.ensures c.requires.client old (c.requires.own old at)

pub returns-clause-heard : goal.returns-clause-heard
returns-clause-heard c s there =
    let x = c.args.setup.now in
    let items = c.args.cores.now.items in
    let old = c.index_mut.result.now in
    let same : s ≡ old = the_same items c.args.at s old there (omega (arith, c.requires.there, c.args.cores.now.ok.0)) c.index_mut.ensures.value in
    let now = c.tell_client.new.client in
    subst (λ (q : Seat). IfOk c.tell_client.result (λ e. CliHears x c.args.c c.args.at q (told c.args.command.now) items (slice_set items c.args.at now) e.outs e.marks.items e.spent)) (sym same)
    (client_heard x c.args.c c.credentials-keys.result c.credentials-keys.ensures c.args.at old (told c.args.command.now) now items c.tell_client.result c.tell_client.ensures.hears c.tell_client.ensures.drafts)

pub returns-clause-err : goal.returns-clause-err
returns-clause-err c =
    let items = c.args.cores.now.items in
    let old = c.index_mut.result.now in
    let at = read_there items c.args.at old (omega (arith, c.requires.there, c.args.cores.now.ok.0)) c.index_mut.ensures.value in
    on_err_weaker c.tell_client.result (put_back items c.args.at old c.tell_client.new.client at) c.tell_client.ensures.err

pub tell_client-requires-clause-stamp : goal.tell_client-requires-clause-stamp
tell_client-requires-clause-stamp c =
    let items = c.args.cores.now.items in
    let old = c.index_mut.result.now in
    c.requires.stamp old (read_there items c.args.at old (omega (arith, c.requires.there, c.args.cores.now.ok.0)) c.index_mut.ensures.value)

pub returns-clause-idle : goal.returns-clause-idle
returns-clause-idle c s there =
    let items = c.args.cores.now.items in
    let old = c.index_mut.result.now in
    let same : s ≡ old = the_same items c.args.at s old there (omega (arith, c.requires.there, c.args.cores.now.ok.0)) c.index_mut.ensures.value in
    subst (λ (q : Seat). OnOk c.tell_client.result (seat_refusal q ≡ None)) (sym same) c.tell_client.ensures.idle

pub returns-clause-cause : goal.returns-clause-cause
returns-clause-cause c s there =
    let items = c.args.cores.now.items in
    let old = c.index_mut.result.now in
    let same : s ≡ old = the_same items c.args.at s old there (omega (arith, c.requires.there, c.args.cores.now.ok.0)) c.index_mut.ensures.value in
    subst (λ (q : Seat). IfErr c.tell_client.result (λ e. IsCauseOf e (seat_refusal q))) (sym same) c.tell_client.ensures.cause
