use Rattle.std.proofs.Common.{◌≡◌, ◌-◌, ◌/◌, ◌%◌, ◌<◌, ◌≤◌, length, take, slice_get, min, true, arith, ap, sym, ◌∙◌, refl, subst}
use Rattle.std.proofs.lemmas.Bool.{eq-eqb}
use Rattle.std.proofs.lemmas.Option.{slice_get_read, slice_get_within}
use Rattle.std.specs.List.{list_all}
use Rattle.ab_hist.specs.Histories.{IsHistory}
use Rattle.ab_hist.specs.Known.{is_no_later, is_latest as test_latest}
use Rattle.ab_hist.specs.Chunks.{entries_of}
use Rattle.ab_hist.proofs.ChunkLemmas.{in_chunks, below_64, room_in_chunk, no_more, some_more}
use Rattle.ab_hist.proofs.FrontLemmas.{needed}
use Rattle.ab_hist.proofs.LatestLemmas.{earlier, earlier_chunks, take_min, latest_more, latest_fails, latest_within, latest_all}
use Rattle.ab_hist.proofs.history.History.is_latest.Goals as goal

pub returns-then-end-place : goal.returns-then-end-place
returns-then-end-place c =
    sym (earlier c.args.self.now c.args.m.now (c.args.place - 1) c.args.n (subst IsHistory c.self.view_is c.self.invariant.history) c.requires.1 (omega (arith, c.if-end-place.true, c.min-end.ensures, c.self.invariant.len, ap length c.self.view_is, slice_get_within c.args.self.now (c.args.place - 1) c.args.m.now c.requires.1)))

pub chunks-init : goal.chunks-init
chunks-init c =
    earlier_chunks c.self.inside.parts.items c.self.invariant.chained c.args.m.now (c.args.place - 1) c.self.invariant.history (ap (λ l. slice_get l (c.args.place - 1)) c.self.view_is ∙ c.requires.1)

pub index-requires : goal.index-requires
index-requires c =
    let cs = c.self.inside.parts.items in
    omega (arith, c.self.inside.parts.ok.0, needed cs c.self.invariant.chained c.chunks.k (omega (arith, c.chunks-test.true, in_chunks c.min-end.result, c.min-end.ensures, c.self.invariant.len)))

pub returns-then-not-is_latest : goal.returns-then-not-is_latest
returns-then-not-is_latest c =
    let cs = c.self.inside.parts.items in
    let k = c.chunks.k in
    let at = slice_get_read cs (length cs) k c.index.result.now refl (needed cs c.self.invariant.chained k (omega (arith, c.chunks-test.true, in_chunks c.min-end.result, c.min-end.ensures, c.self.invariant.len))) c.index.ensures in
    latest_fails c.args.m.now cs c.self.invariant.chained k c.index.result.now at c.args.n (omega (arith, c.chunks-test.true, in_chunks c.min-end.result, c.min-end.ensures)) (sym c.if-not-is_latest.true ∙ c.is_latest.ensures)
    ∙ ap (λ h. test_latest c.args.n h c.args.m.now) c.self.view_is

pub chunks-preserved : goal.chunks-preserved
chunks-preserved c =
    let cs = c.self.inside.parts.items in
    let k = c.chunks.k in
    let at = slice_get_read cs (length cs) k c.index.result.now refl (needed cs c.self.invariant.chained k (omega (arith, c.chunks-test.true, in_chunks c.min-end.result, c.min-end.ensures, c.self.invariant.len))) c.index.ensures in
    latest_more c.args.m.now cs c.self.invariant.chained k c.index.result.now at c.chunks.invariant (sym c.if-not-is_latest.false ∙ c.is_latest.ensures)

pub index-requires-else-whole-len : goal.index-requires-else-whole-len
index-requires-else-whole-len c =
    let cs = c.self.inside.parts.items in
    let end = c.min-end.result in
    omega (arith, c.self.inside.parts.ok.0, c.if-whole-len.false, c.len.ensures, some_more cs c.self.invariant.chained end (omega (arith, c.min-end.ensures, c.self.invariant.len)))

pub returns-then-whole-len : goal.returns-then-whole-len
returns-then-whole-len c =
    let cs = c.self.inside.parts.items in
    let end = c.min-end.result in
    let whole = end / 64 in
    let reached : c.chunks.k ≡ whole = omega (arith, c.chunks-test.false, c.chunks.auto.k-end, c.if-end-place.false, c.requires.0, slice_get_within c.args.self.now (c.args.place - 1) c.args.m.now c.requires.1, c.min-end.ensures, ap length c.self.view_is, c.self.invariant.len) in
    let last : whole ≡ length cs = omega (arith, c.if-whole-len.true, c.len.ensures, c.self.inside.parts.ok.0) in
    let all : length (entries_of cs) ≤ c.args.n = omega (arith, no_more cs c.self.invariant.chained end (omega (arith, last)), c.min-end.ensures) in
    eq-eqb whole c.len.result c.if-whole-len.true
    ∙ latest_all c.args.m.now cs c.self.invariant.chained c.args.n whole last all (subst (λ k. list_all (is_no_later c.args.m.now) (entries_of (take k cs)) ≡ true) reached c.chunks.invariant)
    ∙ ap (λ h. test_latest c.args.n h c.args.m.now) c.self.view_is

pub returns-else-whole-len : goal.returns-else-whole-len
returns-else-whole-len c =
    let cs = c.self.inside.parts.items in
    let m = c.args.m.now in
    let end = c.min-end.result in
    let whole = end / 64 in
    let part = c.index-else-whole-len.result.now in
    let reached : c.chunks.k ≡ whole = omega (arith, c.chunks-test.false, c.chunks.auto.k-end, c.if-end-place.false, c.requires.0, slice_get_within c.args.self.now (c.args.place - 1) c.args.m.now c.requires.1, c.min-end.ensures, ap length c.self.view_is, c.self.invariant.len) in
    let within : end ≤ length (entries_of cs) = omega (arith, c.min-end.ensures, c.self.invariant.len) in
    let lt : whole < length cs = omega (arith, c.self.inside.parts.ok.0, c.if-whole-len.false, c.len.ensures, some_more cs c.self.invariant.chained end within) in
    let at = slice_get_read cs (length cs) whole part refl lt c.index-else-whole-len.ensures in
    let room = room_in_chunk cs c.self.invariant.chained end whole (end % 64) (in_chunks end) part at (omega (arith, below_64 end)) within in
    latest_within m cs c.self.invariant.chained whole part at end (end % 64) c.is_latest-else-whole-len.result (in_chunks end) room
    (subst (λ k. list_all (is_no_later m) (entries_of (take k cs)) ≡ true) reached c.chunks.invariant) c.is_latest-else-whole-len.ensures
    ∙ ap (list_all (is_no_later m)) (sym (take_min (entries_of cs) c.args.n end (c.min-end.ensures ∙ ap (min c.args.n) c.self.invariant.len)))
    ∙ ap (λ h. test_latest c.args.n h m) c.self.view_is
