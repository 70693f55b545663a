use Rattle.std.proofs.Common.{◌≡◌, ◌+◌, ◌-◌, ◌≤◌, replicate, vec_len}
use Rattle.std.specs.Vec.{vec_capacity}
use Rattle.ab_num.specs.declared.party.Party.TheVariants.{Replica}
use Rattle.ab_msg.specs.declared.content.Content.TheVariants.{Checkpoint}
use Rattle.ab_msg.specs.declared.message.Msg.TheVariants.{Checkpoint as Told}
use Rattle.ab_run.specs.Checkpoints.{to_others}
use Rattle.ab_replica.proofs.checkpoint.tell_others.Given as goal

abbrev pub invariant-loop-r : goal.invariant-loop-r
invariant-loop-r l = record {
  added : l.last.items ≡ to_others l.r l.me (Told (Checkpoint (Replica l.me) l.i l.n l.digest) (replicate 32 0));
  room : vec_len l.last + (l.replicas - l.r) ≤ vec_capacity l.last;
}
