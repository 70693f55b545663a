use Rattle.std.proofs.Common.{ℕ}
use Rattle.ab_num.specs.declared.party.Party.TheVariants.{Client}
use Rattle.ab_keys.specs.Rings.{Ring, ring_of}
use Rattle.ab_cast.proofs.SetupLemmas.{one_number_more}
use Rattle.ab_cast.proofs.setup.client_rings.Goals as goal

pub loop-n-preserved : goal.loop-n-preserved
loop-n-preserved c =
    let ring : ℕ → Ring = λ k. ring_of c.args.c.now.f c.args.c.now.clients c.args.c.now.plan c.args.seed.now (Client k) in
    one_number_more ring c.loop-n.rings.items c.push.new.self.items c.in_ok-derive.field-0 c.loop-n.n
    c.loop-n.invariant c.in_ok-push.ensures.items c.in_ok-derive.ensures
