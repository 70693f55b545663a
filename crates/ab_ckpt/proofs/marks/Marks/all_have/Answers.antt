use Rattle.std.proofs.Common.{sym, ◌∙◌}
use Rattle.ab_ckpt.proofs.MarkLemmas.{all_have-not}
use Rattle.ab_ckpt.proofs.marks.Marks.all_have.Goals as goal

pub returns-then-not-has : goal.returns-then-not-has
returns-then-not-has c =
    sym (all_have-not c.args.n c.args.digest.now c.args.self.now.marks c.args.replicas c.replicas.r c.replicas-test.true (sym c.has.ensures ∙ c.if-not-has.true))
