use Rattle.std.proofs.Common.{ap, sym, ◌∙◌}
use Rattle.std.specs.Prelude.{◌&&◌}
use Rattle.std.specs.List.{list_all}
use Rattle.std.proofs.lemmas.Bool.Decides.{same_from_decides}
use Rattle.ab_hist.specs.Histories.{may_follow}
use Rattle.ab_trim.specs.Known.{follows_last}
use Rattle.ab_trim.specs.Logs.{last_at, padded, follows_by}
use Rattle.ab_trim.proofs.RestLemmas.{all_follow-Decides}
use Rattle.ab_trim.proofs.LastLemmas.{padded-last}
use Rattle.ab_trim.proofs.trimmed.Trimmed.follows.Goals as goal

pub returns-then-is_later : goal.returns-then-is_later
returns-then-is_later c =
    let m = c.args.m.now in
    let rest = c.self.inside.rest.requests in
    let lasts = c.self.inside.lasts.items in
    let same = same_from_decides c.is_later.result (list_all (may_follow m) rest) c.is_later.ensures (all_follow-Decides m rest) in
    c.follows_last.ensures ∙ ap (λ l. follows_last (last_at l m.client) m) c.deref.ensures.value ∙ ap (λ o. follows_last o m) (padded-last lasts m.client)
    ∙ ap (λ b. b && follows_last (last_at (padded lasts) m.client) m) (sym c.if-is_later.true ∙ same) ∙ ap (λ k. follows_by k m) c.self.view_is

pub returns-else-is_later : goal.returns-else-is_later
returns-else-is_later c =
    let m = c.args.m.now in
    let rest = c.self.inside.rest.requests in
    let lasts = c.self.inside.lasts.items in
    let same = same_from_decides c.is_later.result (list_all (may_follow m) rest) c.is_later.ensures (all_follow-Decides m rest) in
    c.if-is_later.false ∙ ap (λ b. b && follows_last (last_at (padded lasts) m.client) m) (sym c.if-is_later.false ∙ same) ∙ ap (λ k. follows_by k m) c.self.view_is
