use Rattle.std.proofs.Common.{refl}
use Rattle.ab_num.specs.declared.plan.Kind.TheVariants.{ZCert}
use Rattle.ab_promises.proofs.own.zcert_calls_are_abstract.Goals as goal

pub returns : goal.returns
returns g c = c.own_calls_are_abstract.ensures ZCert refl
