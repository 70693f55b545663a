use Rattle.std.proofs.Common.{◌≡◌, ◌++◌, length, arith, ap, sym, subst, length-append}
use Rattle.ab_hist.specs.Histories.{IsNext}
use Rattle.ab_trim.proofs.RestLemmas.{next_right, pushed_joined}
use Rattle.ab_trim.proofs.rest.Rest.push.Goals as goal

pub push-requires : goal.push-requires
push-requires c =
    let xs = c.self.inside.head.requests in
    let ys = c.self.inside.chain.requests in
    let whole : xs ++ ys ≡ c.args.self.now.requests = ap (λ k. k.requests) c.self.view_is in
    (omega (arith, ap length whole, length-append xs ys, c.requires.0), next_right xs ys c.args.m (subst (λ h. IsNext h c.args.m) (sym whole) c.requires.1))

pub invariant_of-self : goal.invariant_of-self
invariant_of-self c =
    let a = c.self.inside.head in
    let b = c.self.inside.chain in
    let whole : a.requests ++ b.requests ≡ c.args.self.now.requests = ap (λ k. k.requests) c.self.view_is in
    pushed_joined a b c.self.invariant c.push.new.self c.args.m c.push.result (omega (arith, ap length whole, length-append a.requests b.requests, c.requires.0))
    (subst (λ h. IsNext h c.args.m) (sym whole) c.requires.1) c.push.ensures.ok c.push.ensures.err
