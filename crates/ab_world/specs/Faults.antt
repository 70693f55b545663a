-- Why packets are not kept.
use Rattle.std.specs.Prelude.{ℕ, ◌<◌, ◌≤◌}
use Rattle.ab_world.specs.declared.send_fault.SendFault.{SendFault}
use Rattle.ab_world.specs.declared.send_fault.SendFault.TheVariants.{Limit, OutOfMemory}
use Rattle.ab_world.specs.Packets.{most_bytes}

-- when each fault comes, where so many bytes would be kept
abbrev pub SendCause : SendFault → ℕ → Type 0
SendCause Limit bytes = most_bytes < bytes
SendCause OutOfMemory bytes = bytes ≤ most_bytes
