use Rattle.std.proofs.Common.{◌≡◌, ◌-◌, length, take, drop}
use Rattle.ab_stable.specs.Reading.{extended}
use Rattle.ab_stable.proofs.certificate.extended.Given as goal

-- it has as many entries as were gone over, and the rest is left to be pushed
abbrev pub invariant-entries : goal.invariant-entries
invariant-entries l =
    (length l.base ≡ l.place)
    × (extended l.base (drop (l.place - l.t.list.start) l.t.list.rest) ≡ extended (take l.n l.own) (drop (l.n - l.t.list.start) l.t.list.rest))
