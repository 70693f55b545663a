use Rattle.std.proofs.Common.{List, ℕ, sym, subst, rules}
use Rattle.std.specs.Io.KnownBytes.{Keeps}
use Rattle.ab_command.specs.Endings.{HasInput}
use Rattle.ab_draw.specs.Draws.{Draws}
use Rattle.ab_draw.proofs.Settled.{fault_settled, picture_told, usage_settled}
use Rattle.ab_draw.proofs.top.serve.Goals as goal

pub returns-then-is_called_with_words-clause-cause : goal.returns-then-is_called_with_words-clause-cause
returns-then-is_called_with_words-clause-cause g c =
    let out = (g.O.Sink.state c.args.out.now).held in
    let kept : Keeps out out = search rules in
    usage_settled _ _ _ _ c.say_usage.result c.say_usage.ensures c.if-is_called_with_words.true kept

pub returns-in-Err-clause-cause : goal.returns-in-Err-clause-cause
returns-in-Err-clause-cause g c =
    let out = (g.O.Sink.state c.args.out.now).held in
    let kept : Keeps out out = search rules in
    fault_settled _ _ _ _ c.say_replay_fault.result c.in-Err.fault c.say_replay_fault.ensures.status c.if-is_called_with_words.false c.in-Err.ensures.cause kept

pub returns-clause-cause : goal.returns-clause-cause
returns-clause-cause g c =
    let drawn = subst (λ (svg : List ℕ). HasInput (λ text. Draws text svg) (g.I.Source.state c.args.input.now).left) (sym c.as_slice.ensures.value) c.in-Ok.ensures.ok in
    picture_told _ _ _ _ c.write_or_say.result c.as_slice.result.now c.write_or_say.ensures c.if-is_called_with_words.false drawn
