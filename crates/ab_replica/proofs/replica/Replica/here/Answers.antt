use Rattle.std.proofs.Common.{sym, subst}
use Rattle.ab_wire.specs.Views.{message}
use Rattle.ab_replica.specs.declared.purpose.Purpose.{Purpose}
use Rattle.ab_replica.proofs.PurposeLemmas.{IsMember, Offers, member, offers}
use Rattle.ab_replica.proofs.replica.Replica.here.Goals as goal

pub offered-requires-clause-offer : goal.offered-requires-clause-offer
offered-requires-clause-offer g c = subst (λ (p : Purpose). Offers (message c.args.m) p) (sym c.in-Base.ensures) (offers (message c.args.m))

pub keep-requires : goal.keep-requires
keep-requires g c = subst (λ (p : Purpose). IsMember p) (sym c.in-Checkpoint.ensures) (member (message c.args.m) c.requires.received.of_grammar)
