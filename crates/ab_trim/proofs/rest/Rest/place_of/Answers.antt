use Rattle.std.proofs.Common.{◌-◌, arith, ap, ◌∙◌}
use Rattle.std.proofs.lemmas.Option.{slice_get_within}
use Rattle.ab_hist.specs.Histories.{place_in}
use Rattle.ab_trim.proofs.RestLemmas.{place_past, place_first, place_few}
use Rattle.ab_trim.proofs.rest.Rest.place_of.Goals as goal

pub returns-in-Some-clause-place : goal.returns-in-Some-clause-place
returns-in-Some-clause-place c =
    let xs = c.self.inside.head.requests in
    let ys = c.self.inside.chain.requests in
    let m = c.args.m.now in
    place_past xs ys c.len.result c.len.ensures.len m c.in-Some.place c.self.invariant.history c.in-Some.ensures.found ∙ ap (λ k. place_in k.requests m) c.self.view_is

pub returns-in-Some-clause-few : goal.returns-in-Some-clause-few
returns-in-Some-clause-few c =
    let ys = c.self.inside.chain.requests in
    omega (arith, slice_get_within ys (c.in-Some.place - 1) c.args.m.now c.in-Some.ensures.found.1, c.in-Some.ensures.found.0, c.len.ensures.len, c.self.invariant.few)

pub returns-clause-place : goal.returns-clause-place
returns-clause-place c =
    let xs = c.self.inside.head.requests in
    let ys = c.self.inside.chain.requests in
    let m = c.args.m.now in
    place_first xs ys m c.place_of-2.result c.self.invariant.history c.place_of-2.ensures.found c.place_of-2.ensures.none c.in_default.ensures.none ∙ ap (λ k. place_in k.requests m) c.self.view_is

pub returns-clause-few : goal.returns-clause-few
returns-clause-few c =
    place_few c.self.inside.head.requests c.args.m.now c.place_of-2.result (omega (arith, c.self.invariant.few)) c.place_of-2.ensures.found
