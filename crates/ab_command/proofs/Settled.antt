-- What was to be said or written has its cause, whatever the causes are.
use Rattle.std.proofs.Common.{List, ℕ, sym, subst, inl, inr}
use Rattle.ab_io.specs.States.{Change, SinkState}
use Rattle.ab_command.specs.declared.status.Status.{Status}
use Rattle.ab_command.specs.declared.status.Status.TheVariants.{Usage, WriteFault, OutOfMemory}
use Rattle.ab_command.specs.Endings.{FailsToWrite, Says, SaysNoMemory, Settles, SettlesUsage, WritesOrSays}
use Rattle.ab_command.specs.Outputs.{Gets, GetsFront, GetsPart, HasFailed, IsKept}

module _ (Cause : Status → Type 0) (r : Status) where
  -- a status that was to be said
  pub settled_as : (s : Status) (err : Change SinkState) → Settles r s err → (Says s err → Cause s) → (HasFailed err → Cause WriteFault) → (SaysNoMemory err → Cause OutOfMemory) → Cause r
  settled_as s err (inl (e, said)) whole fails wants = subst Cause (sym e) (whole said)
  settled_as s err (inr (inl (e, failed))) whole fails wants = subst Cause (sym e) (fails failed)
  settled_as s err (inr (inr (e, says))) whole fails wants = subst Cause (sym e) (wants says)

  -- a usage line
  pub usage_as : (usage : List ℕ) (err : Change SinkState) → SettlesUsage r usage err → (Gets err usage → Cause Usage) → (HasFailed err → Cause WriteFault) → (GetsPart err usage → Cause OutOfMemory) → Cause r
  usage_as usage err (inl (e, said)) whole fails wants = subst Cause (sym e) (whole said)
  usage_as usage err (inr (inl (e, failed))) whole fails wants = subst Cause (sym e) (fails failed)
  usage_as usage err (inr (inr (e, part))) whole fails wants = subst Cause (sym e) (wants part)

  -- a text that was to be written
  pub written_or_said : (s : Status) (text : List ℕ) (out err : Change SinkState) → WritesOrSays r s text out err → (Gets out text → IsKept err → Cause s) → (GetsFront out text → FailsToWrite out err → Cause WriteFault)
      → (GetsFront out text → SaysNoMemory err → Cause OutOfMemory) → Cause r
  written_or_said s text out err (inl (e, got, kept)) whole fails wants = subst Cause (sym e) (whole got kept)
  written_or_said s text out err (inr (part, inl (failed, how))) whole fails wants =
      settled_as WriteFault err how (λ said. fails part (inl (failed, said))) (λ rose. fails part (inr rose)) (λ says. wants part says)
  written_or_said s text out err (inr (part, inr how)) whole fails wants =
      settled_as OutOfMemory err how (λ said. wants part (inl said)) (λ rose. fails part (inr rose)) (λ says. wants part says)
