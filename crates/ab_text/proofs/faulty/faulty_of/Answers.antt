use Rattle.std.proofs.Common.{decimal, arith}
use Rattle.ab_text.specs.Cores.{party_text}
use Rattle.ab_text.proofs.CoreLemmas.{Lacks-party}
use Rattle.ab_text.proofs.faulty.faulty_of.Goals as goal

pub returns-in-None-clause-only : goal.returns-in-None-clause-only
returns-in-None-clause-only c p t good some few is = absurd (c.in-None.ensures.only (party_text p) (decimal t) (Lacks-party 32 p (omega arith) good) is)

pub returns-in-Some-clause-only : goal.returns-in-Some-clause-only
returns-in-Some-clause-only c p t good some few is =
    let parts = c.in-Some.ensures.only (party_text p) (decimal t) (Lacks-party 32 p (omega arith) good) is in
    c.twins_at.ensures.only p t good some few parts.0 parts.1
