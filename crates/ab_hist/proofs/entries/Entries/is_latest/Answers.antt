use Rattle.std.proofs.Common.{ap, ◌∙◌, map, subst}
use Rattle.ab_hist.specs.Requests.{key_of}
use Rattle.ab_hist.specs.Histories.{IsHistory}
use Rattle.ab_hist.specs.Indexes.{latest_of}
use Rattle.ab_hist.proofs.LatestLemmas.{latest_Some, latest_None}
use Rattle.ab_hist.proofs.entries.Entries.is_latest.Goals as goal

pub returns-in-Some : goal.returns-in-Some
returns-in-Some c =
    latest_Some c.args.self.now.requests c.args.m.now c.in-Some.stamp (subst IsHistory (ap (λ k. k.requests) c.self.view_is) c.self.invariant.history)
    (c.in-Some.ensures ∙ ap (λ ks. latest_of ks c.args.m.now.client) (c.self.invariant.in_order ∙ ap (map key_of) (ap (λ k. k.requests) c.self.view_is)))

pub returns-in-None : goal.returns-in-None
returns-in-None c =
    latest_None c.args.self.now.requests c.args.m.now (subst IsHistory (ap (λ k. k.requests) c.self.view_is) c.self.invariant.history)
    (c.in-None.ensures ∙ ap (λ ks. latest_of ks c.args.m.now.client) (c.self.invariant.in_order ∙ ap (map key_of) (ap (λ k. k.requests) c.self.view_is)))
