-- Faults of a key text, which has no end of its own, and how many lines show that one of them is bad.
use Rattle.std.specs.Prelude.{ℕ, ◌==◌, if◌then◌else◌}
use Rattle.ab_key_text.specs.declared.fault.KeyFault.{KeyFault}
use Rattle.ab_key_text.specs.declared.fault.KeyFault.TheVariants as key_fault
use Rattle.ab_key_text.specs.declared.fault.NodeFault.{NodeFault}
use Rattle.ab_key_text.specs.declared.fault.NodeFault.TheVariants.{BadLine, NoEnd, OutOfMemory}

-- a line that is missing is a bad one
abbrev pub key_fault_of : NodeFault → KeyFault
key_fault_of (BadLine n) = key_fault.BadLine n
key_fault_of (NoEnd n) = key_fault.BadLine n
key_fault_of OutOfMemory = key_fault.OutOfMemory

-- the lines that show that line n is bad: those up to it. Line 2 names a party, and lines 3 and 4 say whether it is one
abbrev pub seen : ℕ → ℕ
seen n = if n == 2 then 4 else n
