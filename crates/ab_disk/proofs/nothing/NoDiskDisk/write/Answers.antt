use Rattle.ab_disk.proofs.MemoryLemmas.{torn_not}
use Rattle.ab_disk.proofs.nothing.NoDiskDisk.write.Goals as goal

pub returns-clause-crash : goal.returns-clause-crash
returns-clause-crash c = λ d may. (d, tt, torn_not c.args._at _ d)
