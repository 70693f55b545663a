-- Each instance has a protocol, whatever the plan.
use Rattle.std.proofs.Common.{ℕ, IsTrue, refl}
use Rattle.ab_num.specs.declared.plan.Kind.{Kind}
use Rattle.ab_num.specs.declared.plan.Kind.TheVariants.{Quorum, ZLight, Chain, Backup, ZCert}
use Rattle.ab_num.specs.declared.plan.Plan.{Plan}
use Rattle.ab_num.specs.Places.{kind_of}
use Rattle.ab_replay.specs.Protocols.{is_served}

pub each_is_served : (k : Kind) → IsTrue (is_served k)
each_is_served Quorum = refl
each_is_served ZLight = refl
each_is_served Chain = refl
each_is_served Backup = refl
each_is_served ZCert = refl

pub all_served : (plan : Plan) (i : ℕ) → IsTrue (is_served (kind_of plan i))
all_served plan i = each_is_served (kind_of plan i)
