use Rattle.std.proofs.Common.{None}
use Rattle.ab_key_text.proofs.PartLemmas.{no_id, with_id}
use Rattle.ab_key_text.proofs.parts.secret_text_in.Goals as goal

pub returns-in-None : goal.returns-in-None
returns-in-None c = no_id c.args.text.now c.min-middle.result c.min-middle.ensures c.in-None.ensures

pub returns-in-None-bytes_after : goal.returns-in-None-bytes_after
returns-in-None-bytes_after c = with_id c.args.text.now c.in-Some.id c.min-middle.result None c.min-middle.ensures c.in-Some.ensures c.in-None-bytes_after.ensures
