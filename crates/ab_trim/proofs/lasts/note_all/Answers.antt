use Rattle.ab_trim.proofs.LastLemmas.{noted_more}
use Rattle.ab_trim.proofs.lasts.note_all.Goals as goal

pub entries-preserved : goal.entries-preserved
entries-preserved c =
    noted_more c.args.start c.entries.k c.from.result c.args.rest.now.requests c.at-m.result.now c.copy.result c.args.lasts.now.items c.entries.lasts.items c.at-m.ensures c.copy.ensures c.from.ensures c.entries.invariant
