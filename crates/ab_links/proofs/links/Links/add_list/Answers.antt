use Rattle.std.proofs.Common.{ap, ◌∙◌}
use Rattle.ab_links.specs.Links.{any_collides, keep_links, links_along}
use Rattle.ab_links.specs.Origins.{links_in}
use Rattle.ab_links.proofs.links.Links.add_list.Goals as goal

pub returns-clause-answer : goal.returns-clause-answer
returns-clause-answer c = c.keep_along.ensures.answer ∙ ap (λ l. any_collides l (links_along c.args.list.now.list)) (ap links_in c.in_ok-reserve.ensures.entries ∙ c.self.view_is)

pub returns-clause-ok : goal.returns-clause-ok
returns-clause-ok c = c.keep_along.ensures.kept ∙ ap (λ l. keep_links l (links_along c.args.list.now.list)) (ap links_in c.in_ok-reserve.ensures.entries ∙ c.self.view_is)
