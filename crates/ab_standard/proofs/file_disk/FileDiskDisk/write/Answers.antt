use Rattle.std.proofs.Common.{refl}
use Rattle.std.proofs.lemmas.List.{take_min}
use Rattle.ab_standard.proofs.file_disk.FileDiskDisk.write.Goals as goal

-- what may be left might be left before: nothing is told
pub returns-then-is_ok-clause-crash : goal.returns-then-is_ok-clause-crash
returns-then-is_ok-clause-crash c = λ bytes may. (bytes, tt, record { before = take_min c.args.at bytes; after = refl })

pub returns-clause-crash : goal.returns-clause-crash
returns-clause-crash c = λ bytes may. (bytes, tt, record { before = take_min c.args.at bytes; after = refl })
