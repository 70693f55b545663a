use Rattle.ab_abs.proofs.TableLemmas.{stops_so}
use Rattle.ab_abs.proofs.tables.stops_go_by_kind.Goals as goal

pub returns : goal.returns
returns g c = let p = g.P.Protocol in stops_so g.S.Service.machine p.proto p.serves g.met.P.Protocol.ruled
