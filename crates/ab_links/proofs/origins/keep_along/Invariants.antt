use Rattle.std.proofs.Common.{◌≡◌, ◌||◌, ◌-◌, ◌≤◌, length, drop}
use Rattle.std.specs.Str.{bytes_eq}
use Rattle.indexmap.specs.IndexMap.{IsUnique, spare}
use Rattle.ab_links.specs.Links.{any_collides, keep_links, links_along}
use Rattle.ab_links.specs.Origins.{links_in}
use Rattle.ab_links.proofs.origins.keep_along.Given as goal

-- what is found and kept so far, with what the links still to come give, is the whole
abbrev pub invariant-loop-k : goal.invariant-loop-k
invariant-loop-k l = record {
  room : length l.list.list.rest - l.k ≤ spare l.origins;
  unique : IsUnique bytes_eq l.origins;
  answer : (l.found || any_collides (links_in l.origins.entries) (drop l.k (links_along l.list.list))) ≡ any_collides (links_in l.fn.origins.entries) (links_along l.list.list);
  kept : keep_links (links_in l.origins.entries) (drop l.k (links_along l.list.list)) ≡ keep_links (links_in l.fn.origins.entries) (links_along l.list.list);
}
