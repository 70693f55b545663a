-- How certificates with parts of their own are read whose lists may have forgotten their first entries.
use Rattle.ab_stable.specs.declared.owned.OwnStated.{OwnStated}
use Rattle.ab_stable.specs.Certs.{Stated}

abbrev pub seen : OwnStated → Stated
seen v = record { by = v.by; list = record { start = v.start; digest = v.digest; rest = v.rest.now } }
