use Rattle.std.proofs.Common.{◌≡◌, ◌+◌, ◌≤◌, length}
use Rattle.indexmap.specs.IndexMap.{spare}
use Rattle.ab_audit.specs.Kept.{keep_all, kept_in, notes_in}
use Rattle.ab_audit.proofs.kept.keep_all.Given as goal

abbrev pub invariant-news : goal.invariant-news
invariant-news l =
    (length l.fn.news.items ≤ spare l.first + length l.yielded)
    × (length l.fn.news.items ≤ spare l.others + length l.yielded)
    × (kept_in l.first.entries l.others.entries ≡ keep_all (kept_in l.fn.first.entries l.fn.others.entries) (notes_in l.yielded))
