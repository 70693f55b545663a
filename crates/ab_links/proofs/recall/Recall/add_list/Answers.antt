use Rattle.ab_links.specs.Links.{links_along}
use Rattle.ab_links.proofs.RecallLemmas.{Recalls-after}
use Rattle.ab_links.proofs.recall.Recall.add_list.Goals as goal

pub invariant_of-self : goal.invariant_of-self
invariant_of-self c =
    Recalls-after c.self.inside.links c.self.inside.last c.self.invariant c.add_list.result c.add_list.new.self (links_along c.args.list.now.list) c.add_list.ensures.ok c.add_list.ensures.err
