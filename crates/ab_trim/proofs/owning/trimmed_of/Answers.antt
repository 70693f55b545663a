use Rattle.std.proofs.Common.{Some, sym, ap, ◌∙◌}
use Rattle.ab_hist.specs.Trimmed.{Trimmed}
use Rattle.ab_trim.proofs.OwnedLemmas.{next_client, next_may, next_own, one_more}
use Rattle.ab_trim.proofs.owning.trimmed_of.Goals as goal

pub add-requires-clause-may : goal.add-requires-clause-may
add-requires-clause-may c =
    let t : Trimmed = record { start = c.args.start; digest = c.args.digest.now; rest = c.args.rest.now } in
    next_may c.entries.own t c.copy.result _ (next_own c.entries.own t c.entries.n c.copy.result c.entries.invariant (c.at.ensures ∙ ap Some (sym c.copy.ensures))) c.requires

pub add-requires-clause-client : goal.add-requires-clause-client
add-requires-clause-client c =
    let t : Trimmed = record { start = c.args.start; digest = c.args.digest.now; rest = c.args.rest.now } in
    next_client c.entries.own t c.copy.result _ (next_own c.entries.own t c.entries.n c.copy.result c.entries.invariant (c.at.ensures ∙ ap Some (sym c.copy.ensures))) c.requires

pub entries-preserved : goal.entries-preserved
entries-preserved c =
    let t : Trimmed = record { start = c.args.start; digest = c.args.digest.now; rest = c.args.rest.now } in
    one_more c.entries.own c.add.new.list t c.copy.result _ (next_own c.entries.own t c.entries.n c.copy.result c.entries.invariant (c.at.ensures ∙ ap Some (sym c.copy.ensures))) c.in_ok-add.ensures
