use Rattle.std.proofs.Common.{◌≡◌, ◌+◌, ◌-◌, ◌∷◌, drop, ap, sym, ◌∙◌, arith}
use Rattle.ab_links.specs.Links.{keep_links, links_along}
use Rattle.ab_links.specs.Origins.{links_in}
use Rattle.ab_links.proofs.KeptLemmas.{any_collides-step, keep_links-step, found_all}
use Rattle.ab_links.proofs.LinkLemmas.{next_along, drop_all_along}
use Rattle.ab_links.proofs.origins.keep_along.Goals as goal

pub loop-k-preserved : goal.loop-k-preserved
loop-k-preserved c =
    let t = c.args.list.now.list in
    let k = c.loop-k.k in
    let next : drop k (links_along t) ≡ record { digest = c.digest_at.result; before = c.digest_at-in-loop-k.result; request = c.at.result.now } ∷ drop (k + 1) (links_along t) =
    next_along t k (c.start-start.result + k + 1 - t.start - 1) (c.start-start.result + k) c.at.result.now c.at.ensures (omega (arith, c.start-start.ensures.start)) (omega (arith, c.start-start.ensures.start))
    ∙ (λ j. record { digest = sym c.digest_at.ensures j; before = sym c.digest_at-in-loop-k.ensures j; request = c.at.result.now } ∷ drop (k + 1) (links_along t)) in
    record {
      room = omega (arith, c.keep-found.ensures.room, c.loop-k.invariant.room);
      unique = c.keep-found.ensures.unique;
      answer = any_collides-step _ _ _ _ _ next c.keep-found.ensures.kept c.loop-k.found c.keep-found.result c.keep-found.ensures.answer ∙ c.loop-k.invariant.answer;
      kept = keep_links-step _ _ _ _ _ next c.keep-found.ensures.kept ∙ c.loop-k.invariant.kept;
    }

pub returns-clause-answer : goal.returns-clause-answer
returns-clause-answer c =
    found_all (links_in c.loop-k.origins.entries) (drop c.loop-k.k (links_along c.args.list.now.list)) c.loop-k.found (drop_all_along c.args.list.now.list c.loop-k.k (omega arith))
    ∙ c.loop-k.invariant.answer

pub returns-clause-kept : goal.returns-clause-kept
returns-clause-kept c =
    ap (keep_links (links_in c.loop-k.origins.entries)) (sym (drop_all_along c.args.list.now.list c.loop-k.k (omega arith))) ∙ c.loop-k.invariant.kept
