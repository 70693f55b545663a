use Rattle.std.proofs.Common.{◌≡◌, map}
use Rattle.std.specs.List.{range_with_len}
use Rattle.ab_num.specs.declared.party.Party.TheVariants.{Replica}
use Rattle.ab_cluster.specs.Gathering.{job_of}
use Rattle.ab_cluster.specs.Jobs.{job_for}
use Rattle.ab_cluster.proofs.jobs.cluster_jobs.Given as goal

abbrev pub invariant-loop-r : goal.invariant-loop-r
invariant-loop-r l = map job_of l.jobs.items ≡ map (λ n. job_for l.asked (map (λ c. c.items) l.commands) (Replica n)) (range_with_len 0 l.r)
