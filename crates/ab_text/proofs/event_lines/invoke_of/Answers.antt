use Rattle.std.proofs.Common.{◌≡◌, sym, ap, ◌∙◌, subst, Some}
use Rattle.ab_text.specs.declared.event.Event.TheVariants.{Invoke}
use Rattle.ab_text.specs.Cores.{core_text}
use Rattle.ab_text.specs.EventLines.{IsCommand}
use Rattle.ab_text.proofs.CoreLemmas.{Lacks-core}
use Rattle.ab_text.proofs.event_lines.invoke_of.Goals as goal

pub returns-in-None-clause-only : goal.returns-in-None-clause-only
returns-in-None-clause-only c core command good client fine is = absurd (c.in-None.ensures.only (core_text core) command (Lacks-core core good) is)

pub returns-in-Some-clause-only : goal.returns-in-Some-clause-only
returns-in-Some-clause-only c core command good client fine is =
    let parts = c.in-Some.ensures.only (core_text core) command (Lacks-core core good) is in
    let text : command ≡ c.in-Some.command.now = sym parts.1 in
    c.invocation.ensures.only core good client (subst IsCommand text fine) parts.0 ∙ ap (λ t. Some (Invoke core (record { items = t }))) parts.1
