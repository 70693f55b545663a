use Rattle.std.proofs.Common.{ap, sym, ◌∙◌, arith}
use Rattle.ab_ckpt.specs.Marks.{has_mark}
use Rattle.ab_ckpt.proofs.MarkLemmas.{has_slot}
use Rattle.ab_ckpt.proofs.marks.Marks.has.Goals as goal

pub returns : goal.returns
returns c =
    let kept = c.self.inside.kept in
    let place = c.from.result in
    c.is_of.ensures ∙ sym (has_slot c.args.n c.args.digest.now 0 place c.args.r kept (omega (arith, c.from.ensures)) (omega (arith, c.from.ensures, c.requires, c.self.invariant)))
    ∙ ap (λ k. has_mark c.args.n c.args.digest.now c.args.r k.marks) c.self.view_is
