use Rattle.std.proofs.Common.{◌≡◌, [], map, sym, subst, IsTrue, false, rules}
use Rattle.ab_text.specs.Lines.{lines_of}
use Rattle.ab_key_text.specs.Lines.{Gives}
use Rattle.ab_key_text.proofs.CommandLemmas.{no_line, last_line, bad_line}
use Rattle.ab_key_text.proofs.node.commands_at.Goals as goal

not_true : IsTrue false → ⊥
not_true e = cc

pub returns-then-is_end : goal.returns-then-is_end
returns-then-is_end c =
    let e = last_line c.args.me (map (λ x. x.items) c.loop-line.commands) c.loop-line.n (lines_of c.loop-line.rest.now) _ c.loop-line.invariant.reads c.in-Some.line.now (lines_of c.in-Some.behind.now)
    c.in-Some.ensures.lines (c.is_end.ensures.0 c.if-is_end.true) in
    subst (Gives _ c.ended.result) (sym e) c.ended.ensures

pub returns-in-None : goal.returns-in-None
returns-in-None c =
    bad_line c.args.me (map (λ x. x.items) c.loop-line.commands) c.loop-line.n (lines_of c.loop-line.rest.now) _ c.loop-line.invariant.reads c.in-Some.line.now (lines_of c.in-Some.behind.now)
    c.in-Some.ensures.lines
    (λ e. not_true (subst IsTrue c.if-is_end.false (c.is_end.ensures.1 e)))
    c.in-None.ensures

pub returns : goal.returns
returns c =
    let none : lines_of c.loop-line.rest.now ≡ [] = search rules in
    no_line c.args.me (map (λ x. x.items) c.loop-line.commands) c.loop-line.n (lines_of c.loop-line.rest.now) _ c.loop-line.invariant.reads none
