use Rattle.std.proofs.Common.{◌≡◌, ℕ, Option, sym, codes, length, true, ◌==◌, arith}
use Rattle.ab_words.specs.Limits.{highest_base, longest_wait, most_turns}
use Rattle.ab_words.specs.Language.{cluster_in, cluster_uses}
use Rattle.ab_words.specs.Values.{checkpoint_named, optional_of}
use Rattle.ab_words.proofs.Asked.{bound, checkpoint-times, cluster-count, value-one, number-one}
use Rattle.ab_words.proofs.reading.cluster_in.Goals as goal

pub returns : goal.returns
unfolding cluster_in
returns c =
    let uses = c.args.uses.now in
    let plan = c.in_ok-plan.plan in
    let j : Option ℕ = c.in_ok-checkpoint_of.field-0 in
    let number = bound (optional_of (codes "checkpoint") uses) (checkpoint_named plan) j (sym c.in_ok-checkpoint_of.ensures.value) in
    let all : (length uses == cluster_uses j) ≡ true = cluster-count uses j c.requires
    (value-one (codes "plan") _ uses (sym c.in_ok-value_of.ensures)) (number-one (codes "f") 1 2 _ uses (sym c.in_ok-f.ensures.value))
    (value-one (codes "service") _ uses (sym c.in_ok-value_of-2.ensures)) (value-one (codes "lms") _ uses (sym c.in_ok-value_of-3.ensures))
    (value-one (codes "seed") _ uses (sym c.in_ok-value_of-4.ensures)) (number-one (codes "base") 1 highest_base _ uses (sym c.in_ok-first_port.ensures.value))
    (number-one (codes "wait") 1 longest_wait _ uses (sym c.in_ok-wait.ensures.value)) (number-one (codes "turns") 1 most_turns _ uses (sym c.in_ok-turns.ensures.value))
    (checkpoint-times plan (codes "checkpoint") uses number.value j number.is number.rest) in
    grind (arith, all)
