-- A run over a lawful protocol is ordered, and a Backup over PBFT is one, alone and beside any other.
use Rattle.std.proofs.Common.{◌≡◌, ℕ, Bool, true, false, List, refl, sym, subst, if◌then◌else◌}
use Rattle.std.specs.Prelude.{IsTrue, ◌%◌, nat_eq}
use Rattle.ab_num.specs.declared.plan.Kind.{Kind}
use Rattle.ab_num.specs.declared.plan.Kind.TheVariants as kind
use Rattle.ab_num.specs.declared.plan.Plan.{Plan}
use Rattle.ab_num.specs.declared.plan.Plan.TheVariants as plan
use Rattle.ab_num.specs.declared.cluster.Cluster.{Cluster}
use Rattle.ab_num.specs.Places.{kind_of}
use Rattle.ab_svc.specs.Machines.{Machine}
use Rattle.ab_abs.specs.Acts.{Setting, Act}
use Rattle.ab_abs.specs.Instances.{EachIsAbstract}
use Rattle.ab_abs.specs.Order.{Ordered}
use Rattle.ab_abs.specs.Promises.{MeetsPremises, ServesAll}
use Rattle.ab_abs.specs.Deeds.{seen_in, named_in_run}
use Rattle.ab_abs.specs.Ensembles.{Proto, Ensemble, Reached}
use Rattle.ab_abs.proofs.Reach.{reached_abstract, reached_ordered}
use Rattle.ab_plans.specs.ChoiceRules.{sound_by, stands_by}
use Rattle.ab_abs.specs.Kinds.{is_backup, is_zcert}
use Rattle.ab_order.specs.Protos.{OrderProto, Obeys, backup, backup_sound, backup_stands}
use Rattle.ab_order.proofs.ProtoLaws as laws
use Rattle.ab_pbft_rules.specs.Traces.{IsPbftSound}
use Rattle.ab_pbft_rules.specs.Rules.{Pbft, pbft}
use Rattle.ab_pbft_rules.specs.Standing.{PbftStands}
use Rattle.ab_pbft_rules.proofs.OrderlyOrderer.{pbft_orderly}
use Rattle.ab_pbft_rules.proofs.LawfulOrderer.{pbft_lawful}
use Rattle.ab_zlight.specs.Rules.{is_zlight}
use Rattle.ab_run.specs.Setups.{RunSetup}
use Rattle.ab_run.specs.Runs.{Event, run, named_by}
use Rattle.ab_run.specs.Premises.{RunPremises, AreFormed}
use Rattle.ab_run.proofs.Promised.{run_ordered, run_abstract}
use Rattle.ab_plans.specs.Lawful.{IsLawfulProto}
use Rattle.ab_plans.specs.Runs.{with_backup, served, is_fast}
use Rattle.ab_plans.proofs.Choosing.{choice_law}

module _ {S P : Type 0} (machine : Machine S) (proto : Proto P) (serves : Kind → Bool) (sound : Setting → List Act → Type 0) (stands : Setting → P → ℕ → List Act → Type 0) (law : IsLawfulProto machine proto serves sound stands)
    (k : RunSetup) (events : List Event) (all : ServesAll serves k.cluster) (formed : AreFormed k events) (premises : RunPremises k proto events) where
  instances : (v : Ensemble P) → Reached proto k.cluster k.faulty v → MeetsPremises k.cluster k.faulty v.run → EachIsAbstract machine (seen_in v.run) (named_in_run k.cluster k.faulty v.run) k.faulty
  instances v reached meets =
      reached_abstract machine proto sound stands serves law.stands_stays law.sound_nil law.lawful_start law.lawful_on law.lawful_stop law.stands_trimmed law.lawful_others law.sound_abstract law.sound_names k.cluster k.faulty all v reached meets

  pub lawful_ordered : Ordered machine (run k proto events).seen (named_by k (run k proto events)) k.faulty
  lawful_ordered =
      run_ordered machine k proto serves (record { form = law.placed; all = all }) instances
      (λ v reached meets.
      reached_ordered machine proto sound stands serves law.stands_stays law.sound_nil law.lawful_start law.lawful_on law.lawful_stop law.stands_trimmed law.lawful_others law.sound_abstract law.sound_names k.cluster k.faulty all v reached meets)
      events formed premises

  pub lawful_abstract : EachIsAbstract machine (run k proto events).seen (named_by k (run k proto events)) k.faulty
  lawful_abstract = run_abstract machine k proto serves (record { form = law.placed; all = all }) instances events formed premises

module _ {S Q : Type 0} (machine : Machine S) (orders : OrderProto Q Pbft) (obeys : Obeys orders pbft) where
  pub backup_law : IsLawfulProto machine (backup orders pbft machine) is_backup (backup_sound machine IsPbftSound) (backup_stands orders pbft PbftStands)
  backup_law = record {
    placed = laws.places machine orders pbft obeys pbft_orderly IsPbftSound PbftStands pbft_lawful;
    stands_stays = laws.stays machine orders pbft obeys pbft_orderly IsPbftSound PbftStands pbft_lawful;
    sound_nil = laws.nil machine orders pbft obeys pbft_orderly IsPbftSound PbftStands pbft_lawful;
    lawful_start = laws.start machine orders pbft obeys pbft_orderly IsPbftSound PbftStands pbft_lawful;
    lawful_on = λ x acts me pen v call seen served may was.
        laws.takes machine orders pbft obeys pbft_orderly IsPbftSound PbftStands pbft_lawful x acts me pen v call seen may was served;
    lawful_stop = laws.halts machine orders pbft obeys pbft_orderly IsPbftSound PbftStands pbft_lawful;
    stands_trimmed = λ x acts me n p low there. laws.trims machine orders pbft obeys pbft_orderly IsPbftSound PbftStands pbft_lawful x acts me n p;
    lawful_others = laws.others machine orders pbft obeys pbft_orderly IsPbftSound PbftStands pbft_lawful;
    sound_abstract = laws.abstract_of machine orders pbft obeys pbft_orderly IsPbftSound PbftStands pbft_lawful;
    sound_names = laws.names machine orders pbft obeys pbft_orderly IsPbftSound PbftStands pbft_lawful;
  }

  -- beside a lawful protocol
  module _ {P : Type 0} (proto : Proto P) (serves : Kind → Bool) (sound : Setting → List Act → Type 0) (stands : Setting → P → ℕ → List Act → Type 0) (law : IsLawfulProto machine proto serves sound stands)
      (k : RunSetup) (events : List Event) (all : ServesAll (served serves) k.cluster) (formed : AreFormed k events) (premises : RunPremises k (with_backup machine proto serves orders) events) where
    with_law : IsLawfulProto machine (with_backup machine proto serves orders) (served serves) (sound_by serves sound (backup_sound machine IsPbftSound)) (stands_by serves stands (backup_stands orders pbft PbftStands))
    with_law = choice_law machine proto (backup orders pbft machine) serves is_backup sound (backup_sound machine IsPbftSound) stands (backup_stands orders pbft PbftStands) law backup_law

    pub backed_ordered : Ordered machine (run k (with_backup machine proto serves orders) events).seen (named_by k (run k (with_backup machine proto serves orders) events)) k.faulty
    backed_ordered =
        lawful_ordered machine (with_backup machine proto serves orders) (served serves) (sound_by serves sound (backup_sound machine IsPbftSound)) (stands_by serves stands (backup_stands orders pbft PbftStands)) with_law k events all formed premises

    pub backed_abstract : EachIsAbstract machine (run k (with_backup machine proto serves orders) events).seen (named_by k (run k (with_backup machine proto serves orders) events)) k.faulty
    backed_abstract =
        lawful_abstract machine (with_backup machine proto serves orders) (served serves) (sound_by serves sound (backup_sound machine IsPbftSound)) (stands_by serves stands (backup_stands orders pbft PbftStands)) with_law k events all formed premises

-- the plans have no other kinds
pub azyzzyva_served : (c : Cluster) → c.plan ≡ plan.AZyzzyva → ServesAll (served is_zlight) c
azyzzyva_served c is i one = subst (λ (p : Plan). IsTrue (served is_zlight (kind_of p i))) (sym is) (of_test (nat_eq (i % 2) 1))
  where
    of_test : (b : Bool) → IsTrue (served is_zlight (if b then kind.ZLight else kind.Backup))
    of_test true = refl
    of_test false = refl

pub aliph_served : (c : Cluster) → c.plan ≡ plan.Aliph → ServesAll (served is_fast) c
aliph_served c is i one = subst (λ (p : Plan). IsTrue (served is_fast (kind_of p i))) (sym is) (of_tests (nat_eq (i % 3) 1) (nat_eq (i % 3) 2))
  where
    of_tests : (b d : Bool) → IsTrue (served is_fast (if b then kind.Quorum else if d then kind.Chain else kind.Backup))
    of_tests true d = refl
    of_tests false true = refl
    of_tests false false = refl

pub zcert_served : (c : Cluster) → c.plan ≡ plan.ZCert → ServesAll (served is_zcert) c
zcert_served c is i one = subst (λ (p : Plan). IsTrue (served is_zcert (kind_of p i))) (sym is) (of_test (nat_eq (i % 2) 1))
  where
    of_test : (b : Bool) → IsTrue (served is_zcert (if b then kind.ZCert else kind.Backup))
    of_test true = refl
    of_test false = refl
