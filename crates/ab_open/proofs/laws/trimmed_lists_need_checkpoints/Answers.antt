use Rattle.ab_open.proofs.OpenLemmas.{opened_whole}
use Rattle.ab_open.proofs.TrimmedLemmas.{alike, held, refused, taken}
use Rattle.ab_open.proofs.laws.trimmed_lists_need_checkpoints.Goals as goal

pub returns : goal.returns
returns c = record { refused = refused; whole = opened_whole; held = held; taken = taken; alike = alike }
