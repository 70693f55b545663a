use Rattle.std.proofs.Common.{◌<◌, length, ap, sym, ◌∙◌, arith}
use Rattle.ab_ckpt.specs.Marks.{KeptMarks, keep_mark}
use Rattle.ab_ckpt.proofs.MarkLemmas.{kept_slot, point_set, point_stays}
use Rattle.ab_ckpt.proofs.marks.Marks.keep.Goals as goal

pub returns-then-is_later : goal.returns-then-is_later
returns-then-is_later c =
    let kept = c.self.inside.kept in
    let place = c.from-place.result in
    let n = c.args.n in
    let d = c.args.digest in
    let within : place < length kept = omega (arith, c.from-place.ensures, c.requires, c.self.invariant) in
    let marks = point_set n d kept place (sym c.is_later.ensures ∙ c.if-is_later.true) ∙ kept_slot n d 0 place c.args.by kept (omega (arith, c.from-place.ensures)) within in
    (λ i. record { marks = marks i; sent = c.self.inside.sent }) ∙ ap {A = KeptMarks} (λ k. record k { marks = keep_mark (record { by = c.args.by; n = n; d = d }) k.marks }) c.self.view_is

pub returns-else-is_later : goal.returns-else-is_later
returns-else-is_later c =
    let kept = c.self.inside.kept in
    let place = c.from-place.result in
    let n = c.args.n in
    let d = c.args.digest in
    let within : place < length kept = omega (arith, c.from-place.ensures, c.requires, c.self.invariant) in
    let marks = point_stays n d kept place within (sym c.is_later.ensures ∙ c.if-is_later.false) ∙ kept_slot n d 0 place c.args.by kept (omega (arith, c.from-place.ensures)) within in
    sym c.self.view_is ∙ (λ i. record { marks = marks i; sent = c.self.inside.sent }) ∙ ap {A = KeptMarks} (λ k. record k { marks = keep_mark (record { by = c.args.by; n = n; d = d }) k.marks }) c.self.view_is
