use Rattle.hex.specs.Hex.{encode_lower}
use Rattle.ab_text.specs.Cores.{core_text}
use Rattle.ab_text.proofs.CoreLemmas.{Lacks-core}
use Rattle.ab_text.proofs.event_lines.inject_of.Goals as goal

pub returns-in-None-clause-only : goal.returns-in-None-clause-only
returns-in-None-clause-only c core bytes good fine is = absurd (c.in-None.ensures.only (core_text core) (encode_lower bytes) (Lacks-core core good) is)

pub returns-in-Some-clause-only : goal.returns-in-Some-clause-only
returns-in-Some-clause-only c core bytes good fine is =
    let parts = c.in-Some.ensures.only (core_text core) (encode_lower bytes) (Lacks-core core good) is in
    c.injection.ensures.only core bytes good fine parts.0 parts.1
