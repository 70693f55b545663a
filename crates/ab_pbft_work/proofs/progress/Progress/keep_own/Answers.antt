use Rattle.std.proofs.Common.{refl}
use Rattle.ab_pbft_work.proofs.TurnLemmas.{own_does, own_kept}
use Rattle.ab_pbft_work.specs.Turns.{memory_of}
use Rattle.ab_pbft_work.proofs.progress.Progress.keep_own.Goals as goal

pub returns : goal.returns
returns c = λ seat s me_is certs_is.
    let b = memory_of c.args.self.now.memory in
    let e = own_kept b.changes c.put.new.kept.items c.remove.new.kept.items c.new-own.result c.new-change.result c.args.view c.args.me c.args.certs.items seat s c.in_ok-put.ensures c.remove.ensures c.new-own.ensures c.new-change.ensures me_is certs_is in
    own_does c.args.self.now _ seat c.args.view s (λ j. record b { changes = e j }) refl
