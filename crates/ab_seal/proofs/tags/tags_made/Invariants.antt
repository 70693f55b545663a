use Rattle.std.proofs.Common.{◌≡◌, ◌≤◌, length}
use Rattle.ab_seal.proofs.ReceiverLemmas.{tags_below}
use Rattle.ab_seal.proofs.tags.tags_made.Given as goal

abbrev pub invariant-receivers : goal.invariant-receivers
invariant-receivers l = (length l.tags.items ≤ l.r) × (l.tags.items ≡ tags_below l.k l.c.plan l.c.f l.instance l.text l.r)
