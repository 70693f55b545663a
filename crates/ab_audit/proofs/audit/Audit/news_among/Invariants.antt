use Rattle.std.proofs.Common.{◌≡◌, ◌++◌}
use Rattle.std.specs.List.{flat_map}
use Rattle.ab_audit.specs.Audits.{news_of}
use Rattle.ab_audit.specs.Kept.{notes_in}
use Rattle.ab_audit.proofs.audit.Audit.news_among.Given as goal

abbrev pub invariant-checks : goal.invariant-checks
invariant-checks l =
    (goal.iterator-checks).can_next l.check-iterator × (goal.iterator-checks).is_finite l.check-iterator
    × (notes_in l.news.items ++ flat_map (news_of l.self l.number) l.check-iterator ≡ flat_map (news_of l.self l.number) l.fn.checks)
