use Rattle.std.proofs.Common.{◌≡◌, List, IfOk, subst}
use Rattle.ab_num.specs.declared.party.Party.{Party}
use Rattle.ab_msg.specs.declared.content.Content.{Content}
use Rattle.ab_open.proofs.OpenLemmas.{claims-by}
use Rattle.ab_open.proofs.owning.claims.Goals as goal

pub returns : goal.returns
returns c =
    subst (λ (l : List (Party × Content)). IfOk c.of.result (λ made. made ≡ l)) (claims-by c.args.k.now.f c.args.m.now.me c.args.m.now.msg c.checks.result c.checks.ensures) c.of.ensures
