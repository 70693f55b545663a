-- What was to be said or written has its cause.
use Rattle.std.proofs.Common.{List, ℕ, inl, inr}
use Rattle.ab_io.specs.States.{Change, SinkState}
use Rattle.ab_words.specs.Commands.{StormCommand}
use Rattle.ab_command.specs.declared.status.Bound.TheVariants.{Packets}
use Rattle.ab_command.specs.declared.status.Status.{Status}
use Rattle.ab_command.specs.declared.status.Status.TheVariants.{Done, Limit, OutOfMemory}
use Rattle.ab_command.specs.Endings.{Settles, SettlesUsage, WritesOrSays}
use Rattle.ab_command.specs.Outputs.{IsKept}
use Rattle.ab_command.proofs.Settled.{settled_as, usage_as, written_or_said}
use Rattle.ab_command.specs.ScheduleEndings.{Asks, AsksNothing, IsPast, ScheduleCause, usage_text}
use Rattle.ab_command.specs.Written.{WritesStorm}

module _ (options : List (List ℕ)) (out err : Change SinkState) (r : Status) where
  abbrev Cause : Status → Type 0
  Cause s = ScheduleCause s options out err

  -- a storm that passes the limit of packets
  pub past_settled : Settles r (Limit Packets) err → IsPast options → IsKept out → Cause r
  past_settled how past kept = settled_as Cause r (Limit Packets) err how (λ said. (past, (kept, said))) (λ rose. (inr rose, inl kept)) (λ says. (inl kept, inl says))

  -- an allocation failed before anything was written
  pub memory_settled : Settles r OutOfMemory err → IsKept out → Cause r
  memory_settled how kept = settled_as Cause r OutOfMemory err how (λ said. (inl kept, inl (inl said))) (λ rose. (inr rose, inl kept)) (λ says. (inl kept, inl says))

  -- words that ask for no storm
  pub usage_settled : SettlesUsage r usage_text err → AsksNothing options → IsKept out → Cause r
  usage_settled how none kept = usage_as Cause r usage_text err how (λ said. (none, kept, said)) (λ rose. (inr rose, inl kept)) (λ part. (inl kept, inr (none, part)))

  -- the schedule
  pub schedule_told : (k : StormCommand) (text : List ℕ) → WritesOrSays r Done text out err → Asks options k → WritesStorm k text → Cause r
  schedule_told k text how asks writes =
      written_or_said Cause r Done text out err how
      (λ got kept. ((k, text, asks, writes, got), kept))
      (λ part fails. (fails, inr (k, text, asks, writes, part)))
      (λ part says. (inr (k, text, asks, writes, part), inl says))
