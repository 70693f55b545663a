-- Which protocol an instance runs, and which replica has which place in it.
use Rattle.std.specs.Prelude.{ℕ, ◌+◌, ◌-◌, ◌*◌, ◌/◌, ◌%◌, ◌^◌, min, nat_eq, nat_le, if◌then◌else◌}
use Rattle.ab_num.specs.declared.plan.Plan.{Plan}
use Rattle.ab_num.specs.declared.plan.Plan.TheVariants as plan
use Rattle.ab_num.specs.declared.plan.Kind.{Kind}
use Rattle.ab_num.specs.declared.plan.Kind.TheVariants as kind

-- a kind in odd instances, Backup in even ones
abbrev pub kind_in_turn : Kind → ℕ → Kind
kind_in_turn odd i = if nat_eq (i % 2) 1 then odd else kind.Backup

-- the protocol of instance i, counted from 1
abbrev pub kind_of : Plan → ℕ → Kind
kind_of plan.AZyzzyva i = kind_in_turn kind.ZLight i
kind_of plan.Aliph i = if nat_eq (i % 3) 1 then kind.Quorum else if nat_eq (i % 3) 2 then kind.Chain else kind.Backup
kind_of plan.Quorum i = kind.Quorum
kind_of plan.ZLight i = kind.ZLight
kind_of plan.Chain i = kind.Chain
kind_of plan.Backup i = kind.Backup
kind_of plan.ZCert i = kind_in_turn kind.ZCert i

-- the number of replicas where f may be faulty
abbrev pub replicas_of : ℕ → ℕ
replicas_of f = 3 * f + 1

-- the primary of instance i
abbrev pub primary_of : ℕ → ℕ → ℕ
primary_of f i = (i - 1) % replicas_of f

-- the replica at position p of the chain of instance i, counted from 1
abbrev pub at_position_of : ℕ → ℕ → ℕ → ℕ
at_position_of f i p = (i - 1 + p - 1) % replicas_of f

-- the position of replica r in the chain of instance i, counted from 1
abbrev pub position_in : ℕ → ℕ → ℕ → ℕ
position_in f i r = if nat_le (primary_of f i) r then r - primary_of f i + 1 else r + replicas_of f - primary_of f i + 1

-- how many instances of kind Backup come before the Backup instance i
abbrev pub backups_before : Plan → ℕ → ℕ
backups_before plan.AZyzzyva i = i / 2 - 1
backups_before plan.Aliph i = i / 3 - 1
backups_before plan.Quorum i = 0
backups_before plan.ZLight i = 0
backups_before plan.Chain i = 0
backups_before plan.Backup i = i - 1
backups_before plan.ZCert i = i / 2 - 1

-- how many requests the Backup instance i commits: 1 in the first, doubled from one to the next, at most 16
abbrev pub limit_of : Plan → ℕ → ℕ
limit_of plan i = min 16 (2 ^ backups_before plan i)
