use Rattle.std.proofs.Common.{◌≡◌, ◌∙◌, All, arith, subst, sym}
use Rattle.std.proofs.lemmas.List.Elements.{All-push}
use Rattle.ab_num.proofs.Results.{kept_err}
use Rattle.ab_text.specs.EventLines.{IsEvent}
use Rattle.ab_world.specs.Runs.{outcome}
use Rattle.ab_storm.specs.Runs.{drawn_at, drawn_events, EndCause}
use Rattle.ab_storm.proofs.StormLemmas.{ends_run, goes_next, run_done}
use Rattle.ab_storm.proofs.Keeping.{keeps_all, keeps_on}
use Rattle.ab_storm.proofs.running.draw_events.Goals as goal

pub loop-done-preserved : goal.loop-done-preserved
loop-done-preserved g c =
    let proto = g.P.Protocol.proto in
    let n = c.args.events in
    let i = c.loop-done._done in
    let s = c.loop-done.storm in
    let w = c.loop-done.world in
    let lt = c.loop-done-test.true in
    let drawn = drawn_events proto n c.args.storm.now c.args.world.now in
    let on = goes_next proto n i s c.step.new.storm w c.step.new.world (outcome proto 1 c.args.world.now drawn) lt c.loop-done.invariant.goes (omega (arith, c.loop-done.invariant.counted, lt, c.requires.few)) c.in_ok-step.ensures.next
    c.in_ok-step.ensures.ok c.loop-done.invariant.rest in
    record {
      rest = on.rest;
      counted = omega (arith, on.events, c.loop-done.invariant.counted);
      goes = on.goes;
      drawn = keeps_on proto c.loop-done.kept c.step.new.kept drawn n i s c.step.new.storm w c.step.new.world lt c.in_ok-step.ensures.next c.in_ok-step.ensures.ok c.in_ok-step.ensures.kept c.loop-done.invariant.drawn;
      lines = subst (All IsEvent) (sym c.in_ok-step.ensures.kept) (All-push IsEvent c.loop-done.kept (drawn_at s w).0 c.loop-done.invariant.lines c.in_ok-step.ensures.line);
    }

pub returns-clause-ok : goal.returns-clause-ok
returns-clause-ok g c =
    let i = c.loop-done._done in
    let all : i ≡ c.args.events = omega (arith, c.loop-done-test.false, c.loop-done.auto._done-end) in
    sym c.loop-done.invariant.rest ∙ run_done g.P.Protocol.proto c.args.events i c.loop-done.storm c.loop-done.world all

pub returns-clause-kept : goal.returns-clause-kept
returns-clause-kept g c =
    let proto = g.P.Protocol.proto in
    let i = c.loop-done._done in
    let all : i ≡ c.args.events = omega (arith, c.loop-done-test.false, c.loop-done.auto._done-end) in
    keeps_all proto c.loop-done.kept (drawn_events proto c.args.events c.args.storm.now c.args.world.now) c.args.events i c.loop-done.storm c.loop-done.world all c.loop-done.invariant.drawn

pub returns-in_err-step-clause-cause : goal.returns-in_err-step-clause-cause
returns-in_err-step-clause-cause g c =
    let proto = g.P.Protocol.proto in
    let i = c.loop-done._done in
    let s = c.loop-done.storm in
    let w = c.loop-done.world in
    let fault = c.in_err-step.field-0.0 in
    let whole = outcome proto 1 c.args.world.now (drawn_events proto c.args.events c.args.storm.now c.args.world.now) in
    kept_err c.from_residual.result fault (λ e. EndCause e whole) c.from_residual.ensures.1
    (subst (EndCause fault) c.loop-done.invariant.rest (ends_run proto fault c.args.events i s w c.loop-done-test.true c.in_err-step.ensures.cause))
