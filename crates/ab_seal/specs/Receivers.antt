-- The replicas for which a client's request has tags.
use Rattle.std.specs.Prelude.{ℕ, ◌+◌, List, Bool, true, ◌==◌}
use Rattle.std.specs.List.{filter, list_any, range_with_len}
use Rattle.ab_num.specs.declared.plan.Plan.{Plan}
use Rattle.ab_num.specs.declared.plan.Kind.{Kind}
use Rattle.ab_num.specs.declared.plan.Kind.TheVariants.{Quorum, ZLight, Chain, Backup, ZCert}
use Rattle.ab_num.specs.Places.{kind_of, replicas_of, at_position_of}

-- whether a replica is at one of the first f + 1 positions of the chain of an instance
abbrev pub is_in_front : ℕ → ℕ → ℕ → Bool
is_in_front f instance r = list_any (λ p. at_position_of f instance p == r) (range_with_len 1 (f + 1))

-- whether a request has a tag for a replica: in a Chain for those in front, and in every other kind for all
abbrev pub is_receiver : Kind → ℕ → ℕ → ℕ → Bool
is_receiver Quorum f instance r = true
is_receiver ZLight f instance r = true
is_receiver Chain f instance r = is_in_front f instance r
is_receiver Backup f instance r = true
is_receiver ZCert f instance r = true

-- the replicas for which a request of an instance has tags, ascending
abbrev pub receivers : Plan → ℕ → ℕ → List ℕ
receivers plan f instance = filter (is_receiver (kind_of plan instance) f instance) (range_with_len 0 (replicas_of f))
