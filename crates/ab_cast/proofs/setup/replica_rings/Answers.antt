use Rattle.std.proofs.Common.{ℕ}
use Rattle.ab_num.specs.declared.party.Party.TheVariants.{Replica}
use Rattle.ab_keys.specs.Rings.{Ring, ring_of}
use Rattle.ab_cast.proofs.SetupLemmas.{one_number_more}
use Rattle.ab_cast.proofs.setup.replica_rings.Goals as goal

pub loop-r-preserved : goal.loop-r-preserved
loop-r-preserved c =
    let ring : ℕ → Ring = λ k. ring_of c.args.c.now.f c.args.c.now.clients c.args.c.now.plan c.args.seed.now (Replica k) in
    one_number_more ring c.loop-r.rings.items c.push.new.self.items c.in_ok-derive.field-0 c.loop-r.r
    c.loop-r.invariant c.in_ok-push.ensures.items c.in_ok-derive.ensures
