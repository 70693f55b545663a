-- Four replicas begin in instance 1 of a plan.
use Rattle.std.proofs.Common.{lit≤}
use Rattle.std.specs.Prelude.{ℕ, None, List, [], ◌∷◌}
use Rattle.ab_num.specs.declared.cluster.Cluster.{Cluster}
use Rattle.ab_num.specs.declared.plan.Plan.{Plan}
use Rattle.ab_abs.specs.Acts.{Act, Setting}
use Rattle.ab_abs.specs.Ensembles.{Proto, entry_of, begin_of}

abbrev pub four : Plan → Cluster
four p = record { f = 1; clients = 1; plan = p; in_bounds = record { some_faulty = lit≤ tt; few_faulty = lit≤ tt; some_client = lit≤ tt; few_clients = lit≤ tt }; every = 0; is_dense = lit≤ tt }

abbrev pub all_correct : Plan → Setting
all_correct p = record { cluster = four p; faulty = []; i = 1 }

module _ {P : Type 0} (proto : Proto P) (p : Plan) where
  abbrev pub begun_by : ℕ → Act
  begun_by r = begin_of proto (all_correct p) r (entry_of [] None)

  abbrev pub starts : List Act
  starts = begun_by 3 ∷ begun_by 2 ∷ begun_by 1 ∷ begun_by 0 ∷ []
