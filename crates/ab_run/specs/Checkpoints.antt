-- Which CHECKPOINTs a replica makes, and what it states of a log that is trimmed.
use Rattle.std.specs.Prelude.{ℕ, zero, suc, ◌==◌, if◌then◌else◌, Option, None, Some, List, [], ◌∷◌, ◌++◌, take, drop}
use Rattle.ab_num.specs.declared.party.Party.TheVariants.{Replica}
use Rattle.ab_hist.specs.declared.request.Request.{Request}
use Rattle.ab_hist.specs.Digests.{digest_of}
use Rattle.ab_ckpt.specs.Marks.{Mark}
use Rattle.ab_msg.specs.declared.content.Content.{Content}
use Rattle.ab_msg.specs.declared.content.Content.TheVariants.{Checkpoint, TrimmedAbort}
use Rattle.ab_msg.specs.declared.message.Msg.{Msg}
use Rattle.ab_msg.specs.declared.message.Out.{Out}
use Rattle.ab_abs.specs.declared.rule.ReplyRule.{ReplyRule}
use Rattle.ab_abs.specs.Acts.{State, abort_content}
use Rattle.ab_abs.specs.Kinds.{kind_in}
use Rattle.ab_stable.specs.Offers.{makes_checkpoints}
use Rattle.ab_run.specs.Setups.{RunSetup, within}

-- after how many requests one is due in instance i, 0 if none ever is
abbrev pub every_in : RunSetup → ℕ → ℕ
every_in k i = if makes_checkpoints (kind_in (within k i)) then k.cluster.every else 0

-- of the first n entries of replica r's log in instance i
abbrev pub checkpoint_of : ℕ → ℕ → ℕ → List Request → Content
checkpoint_of i r n log = Checkpoint (Replica r) i n (digest_of (take n log))

abbrev pub own_mark : ℕ → ℕ → List Request → Mark
own_mark r n log = record { by = r; n = n; d = digest_of (take n log) }

-- what a CHECKPOINT says, if its maker is a replica
abbrev pub mark_in : Content → Option Mark
mark_in (Checkpoint (Replica r) i n d) = Some (record { by = r; n = n; d = d })
mark_in _ = None

-- to the first n replicas but r, ascending
abbrev pub to_others : ℕ → ℕ → Msg → List Out
to_others zero r m = []
to_others (suc n) r m = to_others n r m ++ (if n == r then [] else record { to = Replica n; msg = m } ∷ [])

-- what a stopped replica states if the first n entries of its log are trimmed
abbrev pub abort_after : ℕ → ReplyRule → ℕ → ℕ → State → Content
abort_after zero rule i r s = abort_content rule i r s
abort_after (suc n) rule i r s = TrimmedAbort (Replica r) i (suc n) (digest_of (take (suc n) s.log)) (drop (suc n) s.log)
