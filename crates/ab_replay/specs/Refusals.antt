-- What is said of a refused line.
use Rattle.std.specs.Prelude.{ℕ, List, codes, decimal}
use Rattle.ab_text.specs.Reports.{◌then◌}
use Rattle.ab_replay.specs.declared.refusal.RefusalCause.{RefusalCause}
use Rattle.ab_replay.specs.declared.refusal.RefusalCause.TheVariants.{BadLine, NoEnd, NotBuilt, NoPacket, BadParty, Busy}
use Rattle.ab_replay.specs.declared.refusal.Refusal.{Refusal}

abbrev pub cause_text : RefusalCause → List ℕ
cause_text BadLine = codes "bad line"
cause_text NoEnd = codes "no end"
cause_text NotBuilt = codes "not built"
cause_text NoPacket = codes "no packet"
cause_text BadParty = codes "bad party"
cause_text Busy = codes "busy"

abbrev pub refusal_text : Refusal → List ℕ
refusal_text r = codes "line " then decimal r.line then codes ": " then cause_text r.cause then codes "\n"
