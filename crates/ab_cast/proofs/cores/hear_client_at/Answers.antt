use Rattle.std.proofs.Common.{◌≡◌, Some, slice_get, slice_set, arith, sym, subst}
use Rattle.std.specs.Prelude.{IfOk}
use Rattle.std.proofs.lemmas.Result.{on_err_weaker}
use Rattle.ab_client.specs.Clients.{Seat}
use Rattle.ab_party.specs.Cues.{cue_of}
use Rattle.ab_party.specs.Parties.{ClientCommits}
use Rattle.ab_cast.specs.Hearing.{CliHears}
use Rattle.ab_cast.proofs.CastLemmas.{read_there, put_back, the_same}
use Rattle.ab_cast.proofs.ReplicaLemmas.{client_heard, client_party, seat_keys}
use Rattle.ab_cast.proofs.cores.hear_client_at.Goals as goal

pub credentials-keys-requires : goal.credentials-keys-requires
credentials-keys-requires c = client_party c.args.setup.now c.args.c c.requires.client

pub hear_client-requires-clause-own : goal.hear_client-requires-clause-own
hear_client-requires-clause-own c =
    let items = c.args.cores.now.items in
    let old = c.index_mut.result.now in
    let at : slice_get items c.args.at ≡ Some old = read_there items c.args.at old (omega (arith, c.requires.there, c.args.cores.now.ok.0)) c.index_mut.ensures.value in
    seat_keys c.args.setup.now c.args.c c.credentials-keys.result c.credentials-keys.ensures c.requires.client old (c.requires.own old at)

pub returns-clause-heard : goal.returns-clause-heard
returns-clause-heard c s there =
    let x = c.args.setup.now in
    let items = c.args.cores.now.items in
    let old = c.index_mut.result.now in
    let same : s ≡ old = the_same items c.args.at s old there (omega (arith, c.requires.there, c.args.cores.now.ok.0)) c.index_mut.ensures.value in
    let now = c.hear_client.new.client in
    subst (λ (q : Seat). IfOk c.hear_client.result (λ e. CliHears x c.args.c c.args.at q (cue_of c.args.cue) items (slice_set items c.args.at now) e.outs e.marks.items e.spent)) (sym same)
    (client_heard x c.args.c c.credentials-keys.result c.credentials-keys.ensures c.args.at old (cue_of c.args.cue) now items c.hear_client.result c.hear_client.ensures.hears c.hear_client.ensures.drafts)

pub returns-clause-err : goal.returns-clause-err
returns-clause-err c =
    let items = c.args.cores.now.items in
    let old = c.index_mut.result.now in
    let at = read_there items c.args.at old (omega (arith, c.requires.there, c.args.cores.now.ok.0)) c.index_mut.ensures.value in
    on_err_weaker c.hear_client.result (put_back items c.args.at old c.hear_client.new.client at) c.hear_client.ensures.err

pub returns-clause-at_once : goal.returns-clause-at_once
returns-clause-at_once c s seen there commits =
    let items = c.args.cores.now.items in
    let old = c.index_mut.result.now in
    let same : s ≡ old = the_same items c.args.at s old there (omega (arith, c.requires.there, c.args.cores.now.ok.0)) c.index_mut.ensures.value in
    c.hear_client.ensures.at_once seen (subst (λ (q : Seat). ClientCommits q (cue_of c.args.cue) seen) same commits)
