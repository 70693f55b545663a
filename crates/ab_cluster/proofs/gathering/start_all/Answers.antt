use Rattle.std.proofs.Common.{map, take, arith, ◌+◌}
use Rattle.ab_cluster.specs.Gathering.{job_of}
use Rattle.ab_cluster.proofs.ChildLemmas.{jobs_length, jobs_more, length_more, numbered_more, opened_more}
use Rattle.ab_cluster.proofs.gathering.start_all.Goals as goal

pub loop-job-preserved : goal.loop-job-preserved
loop-job-preserved g c =
    let old = (g.W.Spawner.state c.args.w.now).told in
    let now = (g.W.Spawner.state c.loop-job.w).told in
    let next = (g.W.Spawner.state c.start_one.new.w).told in
    let i = c.loop-job.job-index in
    let jobs = c.args.jobs.now in
    let before = map job_of (take i jobs) in
    record {
      count = length_more c.loop-job.children.items c.push.new.self.items c.in-Ok.child i c.in-Ok-push.ensures.items c.loop-job.invariant.count;
      room = omega (arith, c.loop-job.invariant.room, c.push.ensures.capacity);
      told = opened_more old now next before (map job_of (take (i + 1) jobs)) (job_of c.job-item.result) (jobs_more jobs i c.job-item.result c.loop-job-test.true c.job-item.is) c.loop-job.invariant.told c.in-Ok.ensures.ok;
      numbers = numbered_more old now before c.loop-job.children.items c.push.new.self.items i c.in-Ok.child c.in-Ok-push.ensures.items (jobs_length jobs i c.loop-job-test.true) c.loop-job.invariant.told
          c.loop-job.invariant.numbers c.in-Ok.ensures.place;
      later = omega (arith, c.loop-job.invariant.later, c.start_one.ensures.later);
    }
