use Rattle.std.proofs.Common.{◌≡◌, ◌∷◌, [], ◌∙◌, length, take, ap, arith, subst, sym, length-append}
use Rattle.std.proofs.lemmas.List.{take_all}
use Rattle.std.proofs.lemmas.List.Quantifiers.{all_pairs_push}
use Rattle.ab_hist.specs.Histories.{IsHistory, IsNext, Precedes}
use Rattle.ab_hist.specs.Chunks.{entries_of, digest_from}
use Rattle.ab_trim.proofs.chain.Chain.push.Goals as goal

pub invariant_of-self-2 : goal.invariant_of-self-2
invariant_of-self-2 c =
    let h = entries_of c.self.inside.parts.items in
    let same = ap (λ k. k.requests) c.self.view_is in
    let next : IsNext h c.args.m = subst (λ l. IsNext l c.args.m) (sym same) c.requires.1 in
    let more = ap length c.in_ok-add.ensures.ok in
    let digest : c.digest_at-digest.result ≡ digest_from c.self.inside.start h =
    c.digest_at-digest.ensures ∙ ap (λ k. digest_from k.start (take c.self.inside.len k.requests)) (sym c.self.view_is) ∙ ap (digest_from c.self.inside.start) (take_all c.self.inside.len h (omega (arith, c.self.invariant.len)))
    in
    record {
      filled = c.in_ok-add.ensures.filled;
      starts = c.in_ok-add.ensures.starts c.self.inside.start c.self.invariant.starts digest;
      history = subst IsHistory (sym c.in_ok-add.ensures.ok) (all_pairs_push Precedes h c.args.m c.self.invariant.history next);
      few = omega (arith, more, length-append h (c.args.m ∷ []), ap length same, c.requires.0);
      len = omega (arith, more, length-append h (c.args.m ∷ []), c.self.invariant.len);
    }
