-- What a Backup over PBFT comes to by the messages of the example.
use Rattle.std.proofs.Common.{◌≡◌, true, Some, List, [], ◌∷◌, map, refl, ap, ◌∙◌}
use Rattle.ab_svc.specs.Machines.{Machine}
use Rattle.ab_msg.specs.declared.message.Msg.{Msg}
use Rattle.ab_abs.specs.Messages.{took}
use Rattle.ab_order.specs.Inputs.{Reading}
use Rattle.ab_order.specs.Readings.{read}
use Rattle.ab_order.specs.Backups.{Backing, is_done}
use Rattle.ab_order.specs.Protos.{OrderProto, Obeys, told, backup}
use Rattle.ab_pbft_rules.specs.Rules.{Pbft, pbft}
use Rattle.ab_pbft_rules.specs.Examples as inputs
use Rattle.ab_pbft_rules.specs.Examples.{begun_with, voted}
use Rattle.ab_pbft_rules.proofs.Computed.{primary_executes, primary_based}
use Rattle.ab_run.specs.Examples.{one}
use Rattle.ab_plans.specs.Examples.{cluster, messages, no_pen, after_all, primary}

module _ {S P : Type 0} (machine : Machine S) (orders : OrderProto P Pbft) (obeys : Obeys orders pbft) where
  abbrev read_all : List Msg → List Reading
  read_all all = map (λ m. read cluster 1 (took m)) all

  -- it is in instance 1, of which it orders one request, and the rules see this
  record IsIn (v : Backing P) (p : Pbft) : Type 0 where
    limit : v.k ≡ 1
    cluster_is : orders.cluster v.order ≡ cluster
    instance_is : orders.instance v.order ≡ 1
    view_is : orders.view v.order ≡ p

  reads : (all : List Msg) (v : Backing P) (p : Pbft) → IsIn v p → IsIn (after_all machine orders v all) (inputs.after_all p (read_all all))
  reads [] v p was = was
  reads (m ∷ all) v p was =
      let w = (backup orders pbft machine).after no_pen v (took m) in
      let e = read cluster 1 (took m) in
      let told_is : told orders v.order (took m) ≡ e = ap (λ c. read c (orders.instance v.order) (took m)) was.cluster_is ∙ ap (λ i. read cluster i (took m)) was.instance_is in
      let stays = obeys.stays no_pen v.order (took m) in
      reads all w (pbft.after p e)
      (record {
        limit = was.limit;
        cluster_is = stays.0 ∙ was.cluster_is;
        instance_is = stays.1 ∙ was.instance_is;
        view_is = obeys.goes_on no_pen v.order (took m) ∙ (ap (λ q. pbft.after q (told orders v.order (took m))) was.view_is ∙ ap (λ z. pbft.after p z) told_is);
      })

  ends : IsIn (after_all machine orders (primary machine orders) messages) (inputs.after_all (begun_with 1 0) (voted one))
  ends =
      let placed = obeys.placed cluster 1 0 _ in
      reads messages (primary machine orders) (begun_with 1 0) (record { limit = refl; cluster_is = placed.0; instance_is = placed.1; view_is = obeys.begins cluster 1 0 _ })

  pub commits_one : ((backup orders pbft machine).state (after_all machine orders (primary machine orders) messages)).log ≡ one ∷ []
  commits_one = ap (λ p. pbft.ordered p) ends.view_is ∙ primary_executes one

  pub is_stopped : ((backup orders pbft machine).state (after_all machine orders (primary machine orders) messages)).stopped ≡ true
  is_stopped =
      let v = after_all machine orders (primary machine orders) messages in
      ap (λ k. is_done k (pbft.base (orders.view v.order)) (pbft.ordered (orders.view v.order))) ends.limit
      ∙ (ap (λ p. is_done 1 (pbft.base p) (pbft.ordered p)) ends.view_is
      ∙ (ap (λ b. is_done 1 b (pbft.ordered (inputs.after_all (begun_with 1 0) (voted one)))) (primary_based one) ∙ ap (λ log. is_done 1 (Some []) log) (primary_executes one)))
