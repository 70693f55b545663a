-- Why a journal can't be gone on with.
use Rattle.std.specs.Prelude.{ℕ, ◌≤◌, Result, IfErr, ⊤}
use Rattle.ab_io.specs.Causes.{Rose}
use Rattle.ab_journal.specs.declared.fault.JournalFault.{JournalFault}
use Rattle.ab_journal.specs.declared.fault.JournalFault.TheVariants as journal
use Rattle.ab_restart.specs.declared.fault.ResumeFault.{ResumeFault}
use Rattle.ab_restart.specs.declared.fault.ResumeFault.TheVariants as fault

abbrev pub fault_of : JournalFault → ResumeFault
fault_of journal.DiskFailed = fault.DiskFailed
fault_of journal.OutOfMemory = fault.OutOfMemory

-- why the disk's count stands as it does
abbrev pub ResumeCause : ResumeFault → ℕ → ℕ → Type 0
ResumeCause fault.DiskFailed before now = Rose before now
ResumeCause (fault.Foreign n) before now = ⊤
ResumeCause fault.OutOfMemory before now = ⊤

-- the disk's count never falls, and it has risen where the disk failed
pub record HasResumeCause {T : Type 0} (before now : ℕ) (result : Result T ResumeFault) : Type 0 where
  pub later : before ≤ now
  pub failed : IfErr result (λ why. ResumeCause why before now)

-- an entry is refused
abbrev pub IfForeign : ResumeFault → (ℕ → Type 0) → Type 0
IfForeign fault.DiskFailed P = ⊤
IfForeign (fault.Foreign n) P = P n
IfForeign fault.OutOfMemory P = ⊤

-- no fault but that
abbrev pub IsForeignFault : ResumeFault → Type 0
IsForeignFault fault.DiskFailed = ⊥
IsForeignFault (fault.Foreign n) = ⊤
IsForeignFault fault.OutOfMemory = ⊥
