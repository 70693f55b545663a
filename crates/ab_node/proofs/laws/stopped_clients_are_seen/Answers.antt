use Rattle.std.proofs.Common.{None, List, subst, sym}
use Rattle.std.specs.Prelude.{Contains}
use Rattle.ab_loop.specs.Cores.{NodeEvent}
use Rattle.ab_loop.specs.Folds.{commits_in}
use Rattle.ab_loop.specs.Lives.{kept_by, replied_by}
use Rattle.ab_loop.proofs.AmongLemmas.{among_contains}
use Rattle.ab_node.specs.Clients.{client_rules}
use Rattle.ab_node.specs.Locality.{events_at_client}
use Rattle.ab_node.proofs.laws.stopped_clients_are_seen.Goals as goal

pub returns : goal.returns
returns g c = λ k proto s w xs q runs starts lt good life same commit has.
    (c.members_make_a_run.ensures k proto (λ p. None) w xs starts).commits q lt good commit
    (subst (λ (events : List NodeEvent). Contains (commits_in client_rules (w.clients q) events) commit) (sym same)
    (among_contains (replied_by runs) (commits_in client_rules (w.clients q) (kept_by runs)) commit (c.stopped_members_are_one.ensures.replies s (w.clients q) runs life) has))
