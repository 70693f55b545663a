use Rattle.std.proofs.Common.{◌≡◌, true, sym, ap, ◌∙◌}
use Rattle.std.specs.Prelude.{◌==◌, ◌&&◌}
use Rattle.ab_num.specs.Places.{kind_of}
use Rattle.ab_abs.specs.Kinds.{counts_responses}
use Rattle.ab_client.specs.Clients.{Seat, is_waiting}
use Rattle.ab_client.proofs.AnswerLemmas.{response_counted}
use Rattle.ab_client.proofs.client.Client.on_vote.Goals as goal

pub returns : goal.returns
returns c tag =
    let s : Seat = c.args.self.now in
    let a = c.args in
    let counts : counts_responses (kind_of s.cluster.plan s.cli.at) ≡ c.counts_responses-counts.result =
    ap (λ (t : Seat). counts_responses (kind_of t.cluster.plan t.cli.at)) (sym c.self.view_is) ∙ ap counts_responses (sym c.kind.ensures) ∙ sym c.counts_responses-counts.ensures in
    let awaited : ((is_waiting s.cli.phase && counts_responses (kind_of s.cluster.plan s.cli.at)) && ((a.instance == s.cli.at) && ((a.client == s.me) && (a.stamp == s.cli.stamp)))) ≡ true =
    (λ i. (is_waiting s.cli.phase && counts i) && ((a.instance == s.cli.at) && ((a.client == s.me) && (a.stamp == s.cli.stamp)))) ∙ sym c.awaits.ensures ∙ c.if-not-awaits.false in
    response_counted s a.ballot a.instance a.client a.stamp tag c.count.new.self c.count.result.items awaited c.count.ensures.counted c.count.ensures.none
