use Rattle.std.proofs.Common.{None, Some, ap, sym, ◌∙◌, arith}
use Rattle.ab_ckpt.proofs.MarkLemmas.{stable_slot, other_slot, empty_slot, exactly}
use Rattle.ab_ckpt.proofs.marks.Marks.stable.Goals as goal

pub returns-in-Some-clause-value : goal.returns-in-Some-clause-value
returns-in-Some-clause-value c =
    let marks = ap (λ k. k.marks) c.self.view_is in
    stable_slot c.args.replicas c.args.trimmed c.args.log.now c.self.inside.kept c.args.self.now.marks marks (omega (arith, c.self.invariant)) c.in-Some.p c.in-Some.is (sym c.is_stable.ensures ∙ c.if-is_stable.true)

pub returns-in-Some-clause-exact : goal.returns-in-Some-clause-exact
returns-in-Some-clause-exact c =
    exactly c.args.replicas c.args.trimmed c.args.log.now c.self.inside.kept c.args.self.now.marks (ap (λ k. k.marks) c.self.view_is) (omega (arith, c.self.invariant)) (Some c.in-Some.p.0) c.requires.0 (returns-in-Some-clause-value c)

pub returns-in_default-clause-value : goal.returns-in_default-clause-value
returns-in_default-clause-value c =
    let marks = ap (λ k. k.marks) c.self.view_is in
    other_slot c.args.replicas c.args.trimmed c.args.log.now c.self.inside.kept c.args.self.now.marks marks (omega (arith, c.self.invariant)) c.in-Some.p c.in-Some.is (sym c.is_stable.ensures ∙ c.if-is_stable.false)

pub returns-in_default-clause-exact : goal.returns-in_default-clause-exact
returns-in_default-clause-exact c =
    exactly c.args.replicas c.args.trimmed c.args.log.now c.self.inside.kept c.args.self.now.marks (ap (λ k. k.marks) c.self.view_is) (omega (arith, c.self.invariant)) None c.requires.0 (returns-in_default-clause-value c)

pub returns-in_default-2-clause-value : goal.returns-in_default-2-clause-value
returns-in_default-2-clause-value c =
    empty_slot c.args.replicas c.args.trimmed c.args.log.now c.self.inside.kept c.args.self.now.marks (ap (λ k. k.marks) c.self.view_is) (omega (arith, c.self.invariant)) c.in_default.is

pub returns-in_default-2-clause-exact : goal.returns-in_default-2-clause-exact
returns-in_default-2-clause-exact c =
    exactly c.args.replicas c.args.trimmed c.args.log.now c.self.inside.kept c.args.self.now.marks (ap (λ k. k.marks) c.self.view_is) (omega (arith, c.self.invariant)) None c.requires.0 (returns-in_default-2-clause-value c)
