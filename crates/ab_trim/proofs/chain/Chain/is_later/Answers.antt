use Rattle.std.proofs.Common.{◌≡◌, ◌-◌, drop, length, ap, arith, sym, ◌∙◌, refl, subst}
use Rattle.std.proofs.lemmas.Option.{slice_get_read}
use Rattle.ab_hist.specs.Histories.{IsNext, Knows}
use Rattle.ab_hist.specs.Chunks.{entries_of}
use Rattle.ab_trim.proofs.ChunkLemmas.{entries_behind, next_by, next_in, next_unknown, unknown_more}
use Rattle.ab_trim.proofs.chain.Chain.is_later.Goals as goal

pub returns-in-Some : goal.returns-in-Some
returns-in-Some c =
    let items = c.self.inside.parts.items in
    let n = c.chunks.n in
    let m = c.args.m.now in
    let part = c.index.result.now in
    let at = slice_get_read items (length items) (n - 1) part refl (omega (arith, c.chunks-test.true, c.chunks.auto.n, c.len-n.ensures)) c.index.ensures in
    let told = c.in-Some.ensures.some in (
      λ t. subst (λ h. IsNext h m) (ap (λ k. k.requests) c.self.view_is) (next_by items n part (omega (arith, c.chunks-test.true)) at m c.self.invariant.history told.0 c.chunks.invariant (told.1.0 t)),
      λ next. told.1.1 (next_in items (n - 1) part at m (subst (λ h. IsNext h m) (sym (ap (λ k. k.requests) c.self.view_is)) next)),
    )

pub chunks-preserved : goal.chunks-preserved
chunks-preserved c =
    let items = c.self.inside.parts.items in
    let n = c.chunks.n in
    let client = c.args.m.now.client in
    let part = c.index.result.now in
    let at = slice_get_read items (length items) (n - 1) part refl (omega (arith, c.chunks-test.true, c.chunks.auto.n, c.len-n.ensures)) c.index.ensures in
    subst (λ h. Knows h client → ⊥) (sym (entries_behind items n part (omega (arith, c.chunks-test.true)) at))
    (unknown_more part.requests (entries_of (drop n items)) client c.in_default.ensures.none c.chunks.invariant)

pub returns : goal.returns
returns c =
    let items = c.self.inside.parts.items in
    let none : c.chunks.n ≡ 0 = omega (arith, c.chunks-test.false) in
    let unknown = subst (λ h. Knows h c.args.m.now.client → ⊥) (ap (λ k. entries_of (drop k items)) none ∙ ap (λ k. k.requests) c.self.view_is) c.chunks.invariant in
    (λ _. next_unknown c.args.self.now.requests c.args.m.now unknown, λ _. refl)
