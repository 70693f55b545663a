use Rattle.std.proofs.Common.{◌≡◌, Some, slice_get, slice_set, arith, sym, subst}
use Rattle.std.specs.Prelude.{IfOk}
use Rattle.std.proofs.lemmas.Result.{on_err_weaker}
use Rattle.ab_replica.specs.Sites.{Site}
use Rattle.ab_party.specs.Cues.{call_of}
use Rattle.ab_cast.specs.Setups.{run_setup}
use Rattle.ab_cast.specs.Hearing.{RepHears}
use Rattle.ab_cast.proofs.CastLemmas.{read_there, put_back, the_same}
use Rattle.ab_cast.proofs.ReplicaLemmas.{heard, own_keys, replica_party, stands}
use Rattle.ab_cast.proofs.cores.hear_replica_at.Goals as goal

pub credentials-keys-requires : goal.credentials-keys-requires
credentials-keys-requires g c = replica_party c.args.setup.now c.args.r c.requires.replica

pub hear_replica-requires-clause-own : goal.hear_replica-requires-clause-own
hear_replica-requires-clause-own g c =
    let x = c.args.setup.now in
    let items = c.args.cores.now.items in
    let old = c.index_mut.result.now in
    let at : slice_get items c.args.at ≡ Some old = read_there items c.args.at old (omega (arith, c.requires.there, c.args.cores.now.ok.0)) c.index_mut.ensures.value in
    own_keys g.P.Protocol.proto g.P.Protocol.serves x c.args.r c.requires.replica c.credentials-keys.result c.credentials-keys.ensures old (c.requires.own old at)

pub returns-clause-heard : goal.returns-clause-heard
returns-clause-heard g c s there =
    let proto = g.P.Protocol.proto in
    let serves = g.P.Protocol.serves in
    let x = c.args.setup.now in
    let r = c.args.r in
    let items = c.args.cores.now.items in
    let old = c.index_mut.result.now in
    let at : slice_get items c.args.at ≡ Some old = read_there items c.args.at old (omega (arith, c.requires.there, c.args.cores.now.ok.0)) c.index_mut.ensures.value in
    let same : s ≡ old = the_same items c.args.at s old there (omega (arith, c.requires.there, c.args.cores.now.ok.0)) c.index_mut.ensures.value in
    let site = c.requires.own old at in
    let keys = c.credentials-keys.result in
    let made = c.credentials-keys.ensures in
    let now = c.hear_replica.new.replica in
    let call = call_of c.args.cue in
    let hears = c.hear_replica.ensures.hears (run_setup x) (stands proto serves x r c.requires.replica keys made old site) in
    subst (λ (q : Site g.row.P.Denot). IfOk c.hear_replica.result (λ e. RepHears proto serves x r c.args.at q call items (slice_set items c.args.at now) e.outs e.marks.items e.spent)) (sym same)
    (heard proto serves x r c.requires.replica keys made old site c.args.at call now items c.hear_replica.result hears c.hear_replica.ensures.own c.hear_replica.ensures.drafts)

pub returns-clause-err : goal.returns-clause-err
returns-clause-err g c =
    let items = c.args.cores.now.items in
    let old = c.index_mut.result.now in
    let at = read_there items c.args.at old (omega (arith, c.requires.there, c.args.cores.now.ok.0)) c.index_mut.ensures.value in
    on_err_weaker c.hear_replica.result (put_back items c.args.at old c.hear_replica.new.replica at) c.hear_replica.ensures.err
