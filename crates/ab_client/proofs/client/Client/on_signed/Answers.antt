use Rattle.std.proofs.Common.{◌≡◌, true, sym, ◌∙◌}
use Rattle.std.specs.Prelude.{◌==◌, ◌&&◌}
use Rattle.ab_num.specs.Places.{kind_of}
use Rattle.ab_abs.specs.Kinds.{is_zcert}
use Rattle.ab_client.specs.Clients.{Seat, is_waiting}
use Rattle.ab_client.proofs.AnswerLemmas.{spec_counted}
use Rattle.ab_client.proofs.client.Client.on_signed.Goals as goal

pub returns-clause-ok : goal.returns-clause-ok
returns-clause-ok c r =
    let s : Seat = c.args.self.now in
    let a = c.args in
    let counts : is_zcert (kind_of s.cluster.plan s.cli.at) ≡ c.counts_signed-counts.result = sym c.counts_signed-counts.ensures in
    let awaited : ((is_waiting s.cli.phase && is_zcert (kind_of s.cluster.plan s.cli.at)) && ((a.instance == s.cli.at) && ((a.client == s.me) && (a.stamp == s.cli.stamp)))) ≡ true =
    (λ i. (is_waiting s.cli.phase && counts i) && ((a.instance == s.cli.at) && ((a.client == s.me) && (a.stamp == s.cli.stamp)))) ∙ sym c.awaits.ensures ∙ c.if-not-awaits.false in
    spec_counted s a.ballot a.sig.now a.instance a.client a.stamp r c.count_signed.new.self c.count_signed.result awaited c.count_signed.ensures.counted c.count_signed.ensures.none
