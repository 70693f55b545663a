use Rattle.std.proofs.Common.{sym, subst}
use Rattle.std.specs.Prelude.{IsTrue}
use Rattle.ab_num.specs.declared.plan.Kind.{Kind}
use Rattle.ab_promises.proofs.OwnLaws.{own_sound}
use Rattle.ab_promises.proofs.own.own_calls_are_abstract.Goals as goal

pub returns : goal.returns
returns g c =
    let p = g.P.Protocol in
    let laws = g.met.P.Protocol in
    λ k serves x acts left is one own premises.
    let served = subst (λ (kind : Kind). IsTrue (p.serves kind)) (sym is) serves in
    laws.sound_abstract x acts served
    (own_sound p.proto p.sound p.stands p.serves laws.stands_stays laws.sound_nil laws.lawful_start laws.lawful_on laws.lawful_stop laws.stands_trimmed laws.lawful_others x served one acts left own premises).sounds
