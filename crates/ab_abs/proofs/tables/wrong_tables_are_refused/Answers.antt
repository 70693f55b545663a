use Rattle.ab_abs.proofs.RefusedTables.{unlogged, unbidden, unbased, unstopped}
use Rattle.ab_abs.proofs.tables.wrong_tables_are_refused.Goals as goal

pub returns : goal.returns
returns g c =
    let machine = g.S.Service.machine in
    record { unlogged = unlogged machine; unbidden = unbidden machine; unbased = unbased machine; unstopped = unstopped machine }
