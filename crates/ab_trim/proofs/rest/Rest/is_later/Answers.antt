use Rattle.std.proofs.Common.{◌≡◌, ◌++◌, true, false, ap, sym, ◌∙◌, subst}
use Rattle.std.proofs.lemmas.List.Elements.{All-append}
use Rattle.ab_hist.specs.Histories.{IsNext, Precedes}
use Rattle.ab_trim.proofs.RestLemmas.{next_left, next_right}
use Rattle.ab_trim.proofs.rest.Rest.is_later.Goals as goal

pub returns-then-is_later : goal.returns-then-is_later
returns-then-is_later c =
    let xs = c.self.inside.head.requests in
    let ys = c.self.inside.chain.requests in
    let m = c.args.m.now in
    let whole : xs ++ ys ≡ c.args.self.now.requests = ap (λ k. k.requests) c.self.view_is in (
      λ t. subst (λ h. IsNext h m) whole (All-append (λ e. Precedes e m) xs ys (c.is_later-then-is_later.ensures.0 t) (c.is_later.ensures.0 c.if-is_later.true)),
      λ next. c.is_later-then-is_later.ensures.1 (next_left xs ys m (subst (λ h. IsNext h m) (sym whole) next)),
    )

pub returns-else-is_later : goal.returns-else-is_later
returns-else-is_later c =
    let xs = c.self.inside.head.requests in
    let ys = c.self.inside.chain.requests in
    let m = c.args.m.now in
    let whole : xs ++ ys ≡ c.args.self.now.requests = ap (λ k. k.requests) c.self.view_is in (
      λ t. absurd (let both : true ≡ false = sym t ∙ c.if-is_later.false in cc (both)),
      λ next. c.is_later.ensures.1 (next_right xs ys m (subst (λ h. IsNext h m) (sym whole) next)),
    )
