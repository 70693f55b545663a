use Rattle.std.proofs.Common.{◌≡◌, [], None, sym, subst, IsTrue, false, rules}
use Rattle.ab_text.specs.Lines.{lines_of}
use Rattle.ab_key_text.specs.Lines.{Gives}
use Rattle.ab_audit_text.specs.Texts.{audit_of, message_in}
use Rattle.ab_audit_text.proofs.MessageLemmas.{no_line, last_line, bad_line}
use Rattle.ab_audit_text.proofs.reading.messages_at.Goals as goal

not_true : IsTrue false → ⊥
not_true e = cc

pub returns-then-is_end : goal.returns-then-is_end
returns-then-is_end c =
    let front = c.args.front in
    let e = last_line (audit_of front.cluster.f front.lms front.publics.items c.loop-line.messages) c.loop-line.n (lines_of c.loop-line.rest.now) _ c.loop-line.invariant.reads
    c.in-Some.line.now (lines_of c.in-Some.behind.now) c.in-Some.ensures.lines (c.is_end.ensures.0 c.if-is_end.true) in
    subst (Gives _ c.ended.result) (sym e) c.ended.ensures

pub returns-in-None : goal.returns-in-None
returns-in-None c =
    let front = c.args.front in
    let none : message_in c.in-Some.line.now ≡ None = cc (c.in_ok-message_in.ensures, c.in-None.is) in
    bad_line (audit_of front.cluster.f front.lms front.publics.items c.loop-line.messages) c.loop-line.n (lines_of c.loop-line.rest.now) _ c.loop-line.invariant.reads
    c.in-Some.line.now (lines_of c.in-Some.behind.now) c.in-Some.ensures.lines
    (λ e. not_true (subst IsTrue c.if-is_end.false (c.is_end.ensures.1 e))) none

pub returns : goal.returns
returns c =
    let front = c.args.front in
    let none : lines_of c.loop-line.rest.now ≡ [] = search rules in
    no_line (audit_of front.cluster.f front.lms front.publics.items c.loop-line.messages) c.loop-line.n (lines_of c.loop-line.rest.now) _ c.loop-line.invariant.reads none
