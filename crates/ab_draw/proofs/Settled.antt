-- What was to be said or written has its cause.
use Rattle.std.proofs.Common.{◌≡◌, Bool, false, List, ℕ, IsTrue, inl, inr}
use Rattle.ab_io.specs.States.{Change, SinkState, SourceState}
use Rattle.ab_replay.specs.declared.fault.ReplayFault.{ReplayFault}
use Rattle.ab_replay.specs.declared.fault.ReplayFault.TheVariants.{Read, TooLong, Refused, TooManyEvents, TooManyPackets, OutOfMemory}
use Rattle.ab_replay.specs.Replays.{ReplayCause}
use Rattle.ab_command.specs.declared.status.Status.{Status}
use Rattle.ab_command.specs.declared.status.Status.TheVariants.{Done}
use Rattle.ab_command.specs.Endings.{HasInput, Says, Settles, SettlesUsage, WritesOrSays}
use Rattle.ab_command.specs.Outputs.{IsKept}
use Rattle.ab_command.specs.Texts.{fault_status}
use Rattle.ab_command.proofs.Settled.{settled_as, usage_as, written_or_said}
use Rattle.ab_draw.specs.Draws.{Draws}
use Rattle.ab_draw.specs.Endings.{DrawCause, usage_text}

module _ (words : Bool) (input : Change SourceState) (out err : Change SinkState) (r : Status) where
  abbrev Cause : Status → Type 0
  Cause s = DrawCause s words input out err

  fault_said : (fault : ReplayFault) → words ≡ false → ReplayCause fault input.before.left input.before.faults input.after.faults → IsKept out → Says (fault_status fault) err → Cause (fault_status fault)
  fault_said Read alone rose kept said = (alone, rose, (kept, said))
  fault_said TooLong alone long kept said = (alone, long, (kept, said))
  fault_said (Refused q) alone refused kept said = (alone, refused, (kept, said))
  fault_said TooManyEvents alone many kept said = (alone, many, (kept, said))
  fault_said TooManyPackets alone many kept said = (alone, many, (kept, said))
  fault_said OutOfMemory alone cause kept said = (inl kept, inl (inl said))

  -- why there is no picture
  pub fault_settled : (fault : ReplayFault) → Settles r (fault_status fault) err → words ≡ false → ReplayCause fault input.before.left input.before.faults input.after.faults → IsKept out → Cause r
  fault_settled fault how alone cause kept =
      settled_as Cause r (fault_status fault) err how (fault_said fault alone cause kept) (λ rose. (inr rose, inl kept)) (λ says. (inl kept, inl says))

  -- words where none are taken
  pub usage_settled : SettlesUsage r usage_text err → IsTrue words → IsKept out → Cause r
  usage_settled how given kept = usage_as Cause r usage_text err how (λ said. (given, kept, said)) (λ rose. (inr rose, inl kept)) (λ part. (inl kept, inr (given, part)))

  -- the picture
  pub picture_told : (svg : List ℕ) → WritesOrSays r Done svg out err → words ≡ false → HasInput (λ text. Draws text svg) input.before.left → Cause r
  picture_told svg how alone spelled =
      written_or_said Cause r Done svg out err how
      (λ got kept. ((alone, (svg, spelled, got)), kept))
      (λ part fails. (fails, inr (alone, (svg, spelled, part))))
      (λ part says. (inr (alone, (svg, spelled, part)), inl says))
