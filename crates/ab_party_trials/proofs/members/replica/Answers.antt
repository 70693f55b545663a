use Rattle.std.proofs.Common.{replicate, subst, sym}
use Rattle.ab_num.specs.declared.party.Party.TheVariants.{Replica}
use Rattle.ab_num.specs.declared.plan.Plan.TheVariants.{Quorum}
use Rattle.ab_num.specs.declared.plan.ServiceName.TheVariants.{Kv}
use Rattle.ab_num.specs.declared.plan.Height.TheVariants.{Five}
use Rattle.ab_num.specs.declared.plan.Scheme.TheVariants.{Lms}
use Rattle.ab_key_text.specs.Keys.{IsWhole}
use Rattle.ab_party_trials.proofs.members.replica.Goals as goal

pub new-made-requires-clause-whole : goal.new-made-requires-clause-whole
new-made-requires-clause-whole c = subst IsWhole (sym c.in_ok-keys.ensures) (c.keys_are_whole.ensures.derived 1 1 Quorum 0 Kv (Lms Five) (replicate 32 0) (Replica c.args.r))
