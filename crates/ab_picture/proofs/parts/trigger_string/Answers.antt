use Rattle.std.proofs.Common.{◌≡◌, ℕ, sym, subst}
use Rattle.std.specs.Prelude.{IfOk, string_bytes}
use Rattle.ab_picture.specs.declared.picture.Trigger.{Trigger}
use Rattle.ab_picture.specs.Elements.{clock_text, trigger_text}
use Rattle.ab_picture.proofs.parts.trigger_string.Goals as goal

pub returns-in-TimedOut : goal.returns-in-TimedOut
returns-in-TimedOut c =
    let r = c.clock_string.result in
    let class = c.args.class.now in
    let x = c.args.x in
    let y = c.args.y in
    subst (λ (k : Trigger). IfOk r (λ s. string_bytes s ≡ trigger_text k class x y)) (sym c.in-TimedOut.is)
    (subst (λ (top : ℕ). IfOk r (λ s. string_bytes s ≡ clock_text class x y top)) c.saturating_sub-top.ensures c.clock_string.ensures)

pub returns-in-Injected : goal.returns-in-Injected
returns-in-Injected c =
    subst (λ (k : Trigger). IfOk c.format-in-Injected.result (λ s. string_bytes s ≡ trigger_text k c.args.class.now c.args.x c.args.y)) (sym c.in-Injected.is)
    c.format-in-Injected.ensures.ok
