use Rattle.std.proofs.Common.{◌≡◌, ℕ, ◌+◌, ◌*◌, [], ◌∷◌, ◌++◌, map, sym, ap, ◌∙◌, arith}
use Rattle.std.specs.List.{range_with_len}
use Rattle.std.proofs.lemmas.List.{map-append}
use Rattle.std.proofs.lemmas.List.FromFn.{map-range_with_len_more}
use Rattle.ab_num.specs.declared.party.Party.TheVariants.{Replica, Client}
use Rattle.ab_cluster.specs.Gathering.{job_of}
use Rattle.ab_cluster.specs.Jobs.{job_for}
use Rattle.ab_cluster.proofs.JobLemmas.{all_jobs}
use Rattle.ab_cluster.proofs.jobs.cluster_jobs.Goals as goal

pub loop-r-preserved : goal.loop-r-preserved
loop-r-preserved c =
    let asked = c.args.asked.now in
    let commands = map (λ x. x.items) c.args.commands.now in
    ap (map job_of) c.in_ok-push.ensures.items
    ∙ map-append job_of c.loop-r.jobs.items (c.in_ok-job_for.field-0 ∷ [])
    ∙ (λ j. c.loop-r.invariant j ++ c.in_ok-job_for.ensures j ∷ [])
    ∙ sym (map-range_with_len_more (λ n. job_for asked commands (Replica n)) 0 c.loop-r.r c.loop-r.r (omega arith))

pub returns : goal.returns
returns c =
    let asked = c.args.asked.now in
    let commands = map (λ x. x.items) c.args.commands.now in
    let last : c.loop-r.r ≡ 3 * asked.f + 1 = omega (arith, c.loop-r-test.false, c.loop-r.auto.r-end, c.replicas-r-end.ensures, c.cluster.ensures.f) in
    ap (map job_of) c.in_ok-push-2.ensures.items
    ∙ map-append job_of c.loop-r.jobs.items (c.in_ok-job_for-2.field-0 ∷ [])
    ∙ (λ j. c.loop-r.invariant j ++ c.in_ok-job_for-2.ensures j ∷ [])
    ∙ ap (λ (n : ℕ). map (λ r. job_for asked commands (Replica r)) (range_with_len 0 n) ++ job_for asked commands (Client 0) ∷ []) last
    ∙ sym (all_jobs asked commands)
