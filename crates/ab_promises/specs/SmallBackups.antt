-- The acts of a small Backup over PBFT, of four replicas: replica 0, the primary of view 0, is faulty, and replica 3 is silent. Replicas 1
-- and 2 begin, take the PRE-PREPARE of the empty base from replica 0, its PREPARE, and that of one another: so both prepare slot 0.
use Rattle.std.specs.Prelude.{ℕ, None, List, [], ◌∷◌, replicate}
use Rattle.ab_num.specs.declared.plan.Plan.TheVariants as plan
use Rattle.ab_num.specs.declared.party.Party.TheVariants.{Replica}
use Rattle.ab_svc.specs.Machines.{Machine}
use Rattle.ab_msg.specs.declared.content.Content.TheVariants.{PrePrepare, Prepare}
use Rattle.ab_msg.specs.declared.message.Msg.{Msg}
use Rattle.ab_msg.specs.declared.message.Msg.TheVariants as msg
use Rattle.ab_msg.specs.declared.message.Offer.TheVariants as offer
use Rattle.ab_msg.specs.declared.value.Value.TheVariants.{Base}
use Rattle.ab_msg.specs.Slots.{slot_digest}
use Rattle.ab_abs.specs.Acts.{Act, Setting}
use Rattle.ab_abs.specs.Ensembles.{Proto, entry_of, begin_of, asked_of}
use Rattle.ab_abs.specs.Messages.{took}
use Rattle.ab_order.specs.Backups.{Backing}
use Rattle.ab_order.specs.Protos.{OrderProto, backup}
use Rattle.ab_pbft_rules.specs.Rules.{Pbft, pbft}
use Rattle.ab_msg.specs.Pens.{no_pen}
use Rattle.ab_promises.specs.SmallStarts.{four}

abbrev pub backup_of_four : Setting
backup_of_four = record { cluster = four plan.Backup; faulty = Replica 0 ∷ []; i = 1 }

abbrev pub empty_base : List ℕ
empty_base = slot_digest (Base [])

abbrev pub offers : Msg
offers = msg.PrePrepare (PrePrepare (Replica 0) 1 0 0 empty_base) (replicate 32 0) (offer.Base [])

-- with whatever signature
abbrev pub prepared_by : List ℕ → ℕ → Msg
prepared_by sig r = msg.Prepare (record { maker = r; content = Prepare (Replica r) 1 0 0 empty_base; sig = sig })

module _ {S P : Type 0} (machine : Machine S) (orders : OrderProto P Pbft) where
  abbrev pub rule : Proto (Backing P)
  rule = backup orders pbft machine

  -- replica r, once it took these messages, the newest first
  abbrev pub once : ℕ → List Msg → Backing P
  once r [] = rule.begin (four plan.Backup) 1 r (entry_of [] None)
  once r (m ∷ taken) = rule.after no_pen (once r taken) (took m)

  abbrev pub begun_by : ℕ → Act
  begun_by r = begin_of rule backup_of_four r (entry_of [] None)

  -- replica r takes a message, once it took others
  abbrev pub taken_by : ℕ → Msg → List Msg → Act
  taken_by r m taken = asked_of rule backup_of_four r no_pen (once r taken) (took m) []

  abbrev pub offered_acts : List Act
  offered_acts = taken_by 2 offers [] ∷ taken_by 1 offers [] ∷ begun_by 2 ∷ begun_by 1 ∷ []

  module _ (sig : List ℕ) where
    abbrev pub first_of : List Msg
    first_of = prepared_by sig 0 ∷ offers ∷ []

    abbrev pub primary_acts : List Act
    primary_acts = taken_by 2 (prepared_by sig 0) (offers ∷ []) ∷ taken_by 1 (prepared_by sig 0) (offers ∷ []) ∷ offered_acts

    abbrev pub backup_acts : List Act
    backup_acts = taken_by 2 (prepared_by sig 1) first_of ∷ taken_by 1 (prepared_by sig 2) first_of ∷ primary_acts
