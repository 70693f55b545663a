use Rattle.ab_abs.specs.FormLaws.{place_of}
use Rattle.ab_plans.specs.Lawful.{IsLawfulProto}
use Rattle.ab_plans.proofs.Ordered.{backed_ordered, backed_abstract}
use Rattle.ab_plans.proofs.plans.runs_with_backups_are_ordered.Goals as goal

pub returns : goal.returns
returns g c =
    let machine = g.S.Service.machine in
    let p = g.P.Protocol in
    let laws = g.met.P.Protocol in
    let lawful : IsLawfulProto g.S.Service.machine p.proto p.serves p.sound p.stands = record {
      placed = place_of p.proto p.serves laws.formed;
      stands_stays = laws.stands_stays;
      sound_nil = laws.sound_nil;
      lawful_start = laws.lawful_start;
      lawful_on = laws.lawful_on;
      lawful_stop = laws.lawful_stop;
      stands_trimmed = laws.stands_trimmed;
      lawful_others = laws.lawful_others;
      sound_abstract = laws.sound_abstract;
      sound_names = laws.sound_names;
    } in
    record {
      ordered = λ orders k events obeys all formed premises. backed_ordered machine orders obeys p.proto p.serves p.sound p.stands lawful k events all formed premises;
      instances = λ orders k events obeys all formed premises. backed_abstract machine orders obeys p.proto p.serves p.sound p.stands lawful k events all formed premises;
    }
