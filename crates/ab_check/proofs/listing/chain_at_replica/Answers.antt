use Rattle.std.proofs.Common.{map, ap, ◌∙◌}
use Rattle.ab_num.specs.declared.party.Party.TheVariants.{Replica}
use Rattle.ab_content.specs.Views.{request}
use Rattle.ab_form.specs.declared.list_ref.ListRef.{ListRef}
use Rattle.ab_wire.specs.declared.tags_ref.BetweenRef.{BetweenRef}
use Rattle.ab_wire.specs.Views.{chain_tags}
use Rattle.ab_check.specs.Checks.{all_checks}
use Rattle.ab_check.specs.Chains.{asked_at, passed_to}
use Rattle.ab_check.proofs.ListLemmas.{position-claims}
use Rattle.ab_check.proofs.listing.chain_at_replica.Goals as goal

pub returns : goal.returns
returns c =
    let f = c.args.k.now.f in
    let asked = asked_at f c.args.instance (request c.args.m) c.position_of-p.result in
    let tagged : ListRef BetweenRef → _ = λ tags. map (passed_to (Replica c.args.r) (chain_tags tags)) asked in
    c.of.ensures ∙ position-claims (passed_to (Replica c.args.r) (chain_tags c.args.tags)) f c.args.instance (request c.args.m) c.args.n c.args.d.now c.position_of-p.result _ _ _ _ _ _
    (c.front-first.ensures.asked ∙ ap tagged c.copy_of.ensures) c.passed_before.ensures.said c.none_aborted.ensures.none c.none_prepared.ensures.none (ap all_checks c.none.ensures) c.position_of-p.ensures.counted
