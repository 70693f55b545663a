-- Messages by which a Backup over PBFT commits a request.
use Rattle.std.specs.Prelude.{ℕ, None, List, [], ◌∷◌}
use Rattle.ab_num.specs.declared.plan.Plan.TheVariants as plan
use Rattle.ab_num.specs.declared.cluster.Cluster.{Cluster}
use Rattle.ab_num.specs.declared.party.Party.TheVariants.{Replica}
use Rattle.ab_svc.specs.Machines.{Machine}
use Rattle.ab_msg.specs.declared.content.Content.TheVariants.{Prepare, Commit}
use Rattle.ab_msg.specs.declared.message.Msg.{Msg}
use Rattle.ab_msg.specs.declared.message.Msg.TheVariants as msg
use Rattle.ab_msg.specs.declared.value.Value.TheVariants.{Base, Request as Order}
use Rattle.ab_msg.specs.Pens.{Pen}
use Rattle.ab_msg.specs.Slots.{slot_digest}
use Rattle.ab_abs.specs.Messages.{took}
use Rattle.ab_abs.specs.Ensembles.{entry_of}
use Rattle.ab_run.specs.Examples.{four, one, req}
use Rattle.ab_order.specs.Backups.{Backing}
use Rattle.ab_order.specs.Protos.{OrderProto, backup}
use Rattle.ab_pbft_rules.specs.Rules.{Pbft, pbft}

-- PREPAREs and COMMITs of replica r in view 0 of instance 1
abbrev pub prepare : ℕ → ℕ → List ℕ → Msg
prepare r slot d = msg.Prepare (record { maker = r; content = Prepare (Replica r) 1 0 slot d; sig = [] })

abbrev pub commit : ℕ → ℕ → List ℕ → Msg
commit r slot d = msg.Commit (Commit (Replica r) 1 0 slot d) []

-- a request, and the votes of two others on the empty base in slot 0 and on the request in slot 1
abbrev pub messages : List Msg
messages =
    let base = slot_digest (Base []) in
    let order = slot_digest (Order one) in
    req 1 one ∷ prepare 1 0 base ∷ prepare 2 0 base ∷ commit 1 0 base ∷ commit 2 0 base
    ∷ prepare 1 1 order ∷ prepare 2 1 order ∷ commit 1 1 order ∷ commit 2 1 order ∷ []

abbrev pub no_pen : Pen
no_pen = record { used = 0; sig = λ s n. [] }

abbrev pub cluster : Cluster
cluster = (four plan.Backup).cluster

module _ {S P : Type 0} (machine : Machine S) (orders : OrderProto P Pbft) where
  -- where these messages leave a replica, the first one first
  abbrev pub after_all : Backing P → List Msg → Backing P
  after_all v [] = v
  after_all v (m ∷ more) = after_all ((backup orders pbft machine).after no_pen v (took m)) more

  -- replica 0, which is the primary of view 0, in instance 1
  abbrev pub primary : Backing P
  primary = (backup orders pbft machine).begin cluster 1 0 (entry_of [] None)
