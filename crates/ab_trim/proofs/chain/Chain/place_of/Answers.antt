use Rattle.std.proofs.Common.{◌≡◌, ◌+◌, ◌-◌, ◌*◌, drop, length, slice_get, ap, arith, sym, ◌∙◌, refl, subst, Contains}
use Rattle.std.proofs.lemmas.Option.{slice_get_read, slice_get_within}
use Rattle.ab_hist.specs.Chunks.{entries_of}
use Rattle.ab_trim.proofs.ChunkLemmas.{chunk_room, entry_in, entries_behind, none_more}
use Rattle.ab_trim.proofs.chain.Chain.place_of.Goals as goal

pub overflow_mul-result : goal.overflow_mul-result
overflow_mul-result c =
    let items = c.self.inside.parts.items in
    let n = c.chunks.n - 1 in
    let at = slice_get_read items (length items) n c.index-part.result.now refl (omega (arith, c.chunks-test.true, c.chunks.auto.n, c.len-n.ensures)) c.index-part.ensures in
    omega (arith, c.self.invariant.few, chunk_room items c.self.invariant.filled n c.index-part.result.now at)

pub overflow_add-result : goal.overflow_add-result
overflow_add-result c =
    let items = c.self.inside.parts.items in
    let n = c.chunks.n - 1 in
    let part = c.index-part.result.now in
    let at = slice_get_read items (length items) n part refl (omega (arith, c.chunks-test.true, c.chunks.auto.n, c.len-n.ensures)) c.index-part.ensures in
    let within = slice_get_within part.requests (c.in-Some.place - 1) c.args.m.now c.in-Some.ensures.found.1 in
    omega (arith, within, c.self.invariant.few, chunk_room items c.self.invariant.filled n part at)

pub returns-in-Some-clause-found : goal.returns-in-Some-clause-found
returns-in-Some-clause-found c =
    let items = c.self.inside.parts.items in
    let n = c.chunks.n - 1 in
    let part = c.index-part.result.now in
    let at = slice_get_read items (length items) n part refl (omega (arith, c.chunks-test.true, c.chunks.auto.n, c.len-n.ensures)) c.index-part.ensures in (
      omega (arith, c.in-Some.ensures.found.0),
      ap (λ l. slice_get l (n * 64 + c.in-Some.place - 1)) (sym (ap (λ k. k.requests) c.self.view_is)) ∙ entry_in items c.self.invariant.filled n part at c.args.m.now c.in-Some.place c.in-Some.ensures.found,
    )

pub chunks-preserved : goal.chunks-preserved
chunks-preserved c =
    let items = c.self.inside.parts.items in
    let n = c.chunks.n in
    let part = c.index-part.result.now in
    let at = slice_get_read items (length items) (n - 1) part refl (omega (arith, c.chunks-test.true, c.chunks.auto.n, c.len-n.ensures)) c.index-part.ensures in
    subst (λ h. Contains h c.args.m.now → ⊥) (sym (entries_behind items n part (omega (arith, c.chunks-test.true)) at))
    (none_more part.requests (entries_of (drop n items)) c.args.m.now c.in_default.ensures.none c.chunks.invariant)

pub returns-clause-none : goal.returns-clause-none
returns-clause-none c =
    let items = c.self.inside.parts.items in
    let none : c.chunks.n ≡ 0 = omega (arith, c.chunks-test.false) in
    subst (λ h. Contains h c.args.m.now → ⊥) (ap (λ k. entries_of (drop k items)) none ∙ ap (λ k. k.requests) c.self.view_is) c.chunks.invariant
