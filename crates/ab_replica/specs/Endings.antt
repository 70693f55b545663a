-- How a replica keeps CHECKPOINTs and trims its log, and how it ends an event.
use Rattle.std.specs.Prelude.{ℕ, ◌+◌, ◌*◌, Bool, if◌then◌else◌, Option, None, Some, List, [], length, replicate}
use Rattle.ab_num.specs.declared.cluster.Cluster.{Cluster}
use Rattle.ab_num.specs.Places.{kind_of}
use Rattle.ab_ckpt.specs.Marks.{Mark, keep_mark, due_of, stable_of}
use Rattle.ab_msg.specs.declared.message.Msg.TheVariants as msg
use Rattle.ab_msg.specs.declared.message.Out.{Out}
use Rattle.ab_abs.specs.Ensembles.{Proto}
use Rattle.ab_stable.specs.Offers.{makes_checkpoints}
use Rattle.ab_run.specs.Checkpoints.{checkpoint_of, own_mark, to_others}
use Rattle.ab_replica.specs.Sites.{Site}

-- after how many requests a CHECKPOINT is due in instance i, 0 if none ever is
abbrev pub every_at : Cluster → ℕ → ℕ
every_at c i = if makes_checkpoints (kind_of c.plan i) then c.every else 0

module _ {P : Type 0} (proto : Proto P) where
  -- how many first entries of its log are stable
  abbrev pub stable_at : Site P → Option ℕ
  stable_at s = stable_of (3 * s.cluster.f + 1) (proto.trimmed s.rep.value) (proto.state s.rep.value).log s.rep.kept.marks

  -- it trims so many
  abbrev pub trimmed_by : Site P → Option ℕ → Site P
  trimmed_by s None = s
  trimmed_by s (Some n) = record s { rep = record s.rep { value = proto.trim n s.rep.value } }

  -- it keeps another's CHECKPOINT
  abbrev pub with_mark : Site P → Mark → Site P
  with_mark s v = record s { rep = record s.rep { kept = record { marks = keep_mark v s.rep.kept.marks; sent = s.rep.kept.sent } } }

  -- of how many entries a CHECKPOINT is due
  abbrev pub due_at : Site P → Option ℕ
  due_at s =
      due_of (every_at s.cluster s.rep.at) (proto.state s.rep.value).stopped s.rep.kept.sent (proto.trimmed s.rep.value) (length (proto.state s.rep.value).log)

  -- it makes its CHECKPOINT of n entries
  abbrev pub with_own_mark : Site P → ℕ → Site P
  with_own_mark s n = record s { rep = record s.rep { kept = record { marks = keep_mark (own_mark s.me n (proto.state s.rep.value).log) s.rep.kept.marks; sent = n } } }

  -- an event ends: it makes the CHECKPOINT that is due, and trims what is then stable
  abbrev pub ended_with : Site P → Option ℕ → Site P
  ended_with s None = s
  ended_with s (Some n) = trimmed_by (with_own_mark s n) (stable_at (with_own_mark s n))

  -- to each other replica
  abbrev pub told_with : Site P → Option ℕ → List Out
  told_with s None = []
  told_with s (Some n) = to_others (3 * s.cluster.f + 1) s.me (msg.Checkpoint (checkpoint_of s.rep.at s.me n (proto.state s.rep.value).log) (replicate 32 0))

  -- unless the event is spent
  abbrev pub ended : Site P → Bool → Site P
  ended s spent = if spent then s else ended_with s (due_at s)

  abbrev pub told : Site P → Bool → List Out
  told s spent = if spent then [] else told_with s (due_at s)
